use Rattle.std.proofs.Common.{◌≡◌, ◌∙◌, false, true, ap, subst, sym, arith}
use Rattle.std.specs.Prelude.{is_some}
use Rattle.std.proofs.lemmas.List.{take_all}
use Rattle.cmap_values.specs.CMapNames.{index_of_name}
use Rattle.cmap_bundle_maker.specs.Slots.{AllHavePlaces}
use Rattle.cmap_bundle_maker.specs.declared.source.Source.{Source}
use Rattle.cmap_bundle_maker.proofs.BundleObstacles.{is_missing, placeless, places_more}
use Rattle.cmap_bundle_maker.proofs.slots.check_names.Goals as goal

pub returns-then-is_none-clause-err : goal.returns-then-is_none-clause-err
returns-then-is_none-clause-err c =
    let s = c.index-sources-index.result in
    let missing : is_some (index_of_name s.name) ≡ false = ap (λ (x : Source). is_some (index_of_name x.name)) c.index-sources-index.is ∙ ap is_some (sym c.index.ensures) ∙ c.if-is_none.ensures in
    placeless c.args.sources.now c.loop-index.index s (omega arith) c.index-sources-index.is (is_missing (index_of_name s.name) missing) c.loop-index.invariant

pub loop-index-preserved : goal.loop-index-preserved
loop-index-preserved c =
    let s = c.index-sources-index.result in
    let there : is_some (index_of_name s.name) ≡ true = ap (λ (x : Source). is_some (index_of_name x.name)) c.index-sources-index.is ∙ ap is_some (sym c.index.ensures) ∙ c.if-is_none.ensures in
    places_more c.args.sources.now c.loop-index.index s (omega arith) c.index-sources-index.is there c.loop-index.invariant

pub returns-clause-all : goal.returns-clause-all
returns-clause-all c = subst AllHavePlaces (take_all c.loop-index.index c.args.sources.now (omega arith)) c.loop-index.invariant
