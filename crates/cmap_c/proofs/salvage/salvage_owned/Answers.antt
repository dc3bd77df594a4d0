use Rattle.std.proofs.Common.{◌≡◌, ◌≤◌, ◌∙◌, List, Option, length, subst, sym}
use Rattle.std.proofs.lemmas.Result.{IfOk-weaker}
use Rattle.std.specs.List.{All}
use Rattle.std.specs.Option.{option_copied}
use Rattle.cmap_binary.specs.BundleSeen.{tables_given}
use Rattle.cmap_binary.specs.Bundles.{PrefixTables}
use Rattle.cmap_layers.specs.Layers.{Layer}
use Rattle.cmap_load.specs.SalvageSeen.{faults_seen}
use Rattle.cmap_load.specs.declared.refusal.Refusal.{Refusal}
use Rattle.cmap_c.specs.NamedFiles.{answers}
use Rattle.cmap_c.specs.Salvaged.{AreFaultsShown, IsSalvage, IsSalvageOver, IsSalvagedWith}
use Rattle.cmap_c.specs.declared.salvage.Salvaged.{Salvaged}
use Rattle.cmap_c.proofs.salvage.salvage_owned.Goals as goal

pub returns : goal.returns
unfolding IsSalvageOver
returns c =
    let found = c.in_ok-layers.field-0 in
    let faults = faults_seen c.deref.result.now in
    let same : c.deref.result.now ≡ found.faults.items = c.deref.ensures.value in
    let names = answers (option_copied c.args.bundle) c.args.files.now in
    let said : IsSalvage (tables_given c.tables_of.result) names c.args.data.now c.args.budget found.layers (faults_seen found.faults.items) =
    record { says = c.in_ok-layers.ensures.says; right = c.in_ok-layers.ensures.right; wrong = c.in_ok-layers.ensures.wrong } in
    let says : (map : List Layer) → map ≡ found.layers → IsSalvageOver (option_copied c.args.bundle) c.args.files.now c.args.data.now c.args.budget map faults =
    λ map is. rw (is, same) (subst (λ (tables : Option PrefixTables). IsSalvage tables names c.args.data.now c.args.budget found.layers (faults_seen found.faults.items)) c.tables_of.ensures said) in
    IfOk-weaker c.of.result (λ (made : Salvaged). (made.map.value ≡ found.layers) × AreFaultsShown faults made.shown) (IsSalvagedWith (IsSalvageOver (option_copied c.args.bundle) c.args.files.now c.args.data.now c.args.budget))
    (λ made is. (faults, says made.map.value is.0, is.1)) c.of.ensures

pub salvaged_layers-requires-clause-by_name : goal.salvaged_layers-requires-clause-by_name
salvaged_layers-requires-clause-by_name c _ _ _ one other = one ∙ sym other

pub of-requires : goal.of-requires
of-requires c = subst (All (λ (fault : Refusal). length fault.names.items ≤ 16)) (sym c.deref.ensures.value) c.in_ok-layers.ensures.few
