use Rattle.std.proofs.Common.{◌≡◌, ap, sym, ◌∙◌}
use Rattle.std.specs.Prelude.{is_some}
use Rattle.cmap_values.specs.CMapNames.{IsNameOf, name_bytes}
use Rattle.cmap_values.specs.declared.names.CMapName.{CMapName}
use Rattle.cmap_values.specs.declared.names.CMapName.TheVariants.{Custom}
use Rattle.cmap_values.proofs.OneName.{IsNameOf-custom, IsNameOf-own_text, IsSameName-from_text, known_text}
use Rattle.cmap_values.proofs.names.CMapName.from_bytes.Goals as goal

pub returns-in-Some : goal.returns-in-Some
returns-in-Some c =
    let known = c.known_name in
    let text : name_bytes known.result ≡ c.args.bytes.now = known_text _ _ known.ensures ∙ c.in-Some.ensures.known.1 in
    let is : IsNameOf c.args.bytes.now known.result = IsNameOf-own_text c.args.bytes.now known.result text (ap is_some known.ensures) in
    record { name = is; index = known.ensures ∙ c.in-Some.ensures.index; only = λ other named. IsSameName-from_text _ other _ named is }

pub returns-in-None : goal.returns-in-None
returns-in-None c =
    let name : CMapName = Custom c.args.bytes in
    let is : IsNameOf c.args.bytes.now name = IsNameOf-custom c.args.bytes (sym c.in-None.ensures.index) in
    record { name = is; index = c.in-None.ensures.index; only = λ other named. IsSameName-from_text _ other name named is }
