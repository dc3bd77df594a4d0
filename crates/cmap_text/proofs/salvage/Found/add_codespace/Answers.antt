use Rattle.std.proofs.Common.{refl, [], ◌∷◌, ap}
use Rattle.cmap_values.specs.Files.{Declaration}
use Rattle.cmap_text.specs.SalvageSeen.{found_seen}
use Rattle.cmap_text.specs.Salvage.{having_lists}
use Rattle.cmap_text.specs.TextSeen.{code_seen}
use Rattle.cmap_text.proofs.EntrySteps.{lengths_agree}
use Rattle.cmap_text.proofs.salvage.Found.add_codespace.Goals as goal

pub returns : goal.returns
returns c =
    let low = code_seen c.args.low in
    let high = code_seen c.args.high in
    let equal = lengths_agree c.args.low.len c.args.high.len c.if-ne.ensures in
    ((Declaration.codespace (record { len = low.len; low = low.number; high = high.number }) ∷ [], rw equal refl, ap (having_lists (found_seen c.args.self.now)) c.in_ok-add_codespace.ensures.added), tt)
