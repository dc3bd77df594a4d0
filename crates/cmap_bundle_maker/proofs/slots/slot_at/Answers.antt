use Rattle.std.proofs.Common.{◌≡◌, ◌∙◌, Some, ap, arith, false, subst, sym, true}
use Rattle.std.specs.Prelude.{IfOk}
use lib.Dec.{eqb}
use Rattle.std.specs.Option.{option_eq}
use Rattle.cmap_values.specs.CMapNames.{index_of_name}
use Rattle.cmap_bundle_maker.specs.Slots.{IsSlotFor}
use Rattle.cmap_bundle_maker.specs.declared.source.Source.{Source}
use Rattle.cmap_bundle_maker.proofs.BundlesWritten.{same_item, source_found, source_passed}
use Rattle.std.proofs.lemmas.Result.{IfErr-weaker}
use Rattle.cmap_values.proofs.Outcomes.{refused_as}
use Rattle.cmap_values.specs.Outcomes.{RefusesWith}
use Rattle.cmap_bundle_maker.specs.Unwritables.{IsUnwritableAs, IsUnwritableAt}
use Rattle.cmap_bundle_maker.proofs.BundleObstacles.{none_more, unwritable_at}
use Rattle.cmap_bundle_maker.proofs.slots.slot_at.Goals as goal

is_named : (c : goal.After-slot_of) → option_eq eqb (index_of_name c.index-sources-index-then-eq.result.name) (Some c.args.place) ≡ true
is_named c =
    let same = same_item c.args.sources.now c.loop-index.index c.index-sources-index.result c.index-sources-index-then-eq.result (omega arith) c.index-sources-index.is c.index-sources-index-then-eq.is in
    subst (λ o. option_eq eqb o (Some c.args.place) ≡ true) (c.index.ensures ∙ ap (λ (s : Source). index_of_name s.name) (sym c.index-sources-index.is ∙ same)) (sym c.eq.ensures ∙ c.if-eq.true)

pub returns-then-eq-clause-made : goal.returns-then-eq-clause-made
returns-then-eq-clause-made c =
    let s = c.index-sources-index-then-eq.result in
    let found = source_found c.args.sources.now c.loop-index.index s c.args.place (omega arith) c.index-sources-index-then-eq.is (is_named c) in
    subst (λ o. IfOk c.slot_of.result (IsSlotFor o)) (sym (c.loop-index.invariant.0 ∙ found)) c.slot_of.ensures.made

pub returns-then-eq-clause-err : goal.returns-then-eq-clause-err
returns-then-eq-clause-err c =
    let sources = c.args.sources.now in
    let i = c.loop-index.index in
    let s = c.index-sources-index-then-eq.result in
    IfErr-weaker c.slot_of.result (RefusesWith (IsUnwritableAs s i)) (RefusesWith (IsUnwritableAt sources c.args.place)) (λ fault h. refused_as fault h (unwritable_at sources i s c.args.place (omega arith) c.index-sources-index-then-eq.is (is_named c) c.loop-index.invariant.1)) c.slot_of.ensures.err

pub loop-index-preserved : goal.loop-index-preserved
loop-index-preserved c =
    let sources = c.args.sources.now in
    let i = c.loop-index.index in
    let s = c.index-sources-index.result in
    let other = subst (λ o. option_eq eqb o (Some c.args.place) ≡ false) (c.index.ensures ∙ ap (λ (s : Source). index_of_name s.name) (sym c.index-sources-index.is)) (sym c.eq.ensures ∙ c.if-eq.false) in (
      c.loop-index.invariant.0 ∙ source_passed sources i s c.args.place (omega arith) c.index-sources-index.is other,
      none_more sources i s c.args.place (omega arith) c.index-sources-index.is c.loop-index.invariant.1 other,
    )
