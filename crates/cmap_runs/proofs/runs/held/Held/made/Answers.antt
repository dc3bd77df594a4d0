use Rattle.std.proofs.Common.{◌≡◌, ℕ, ◌+◌, ◌*◌, ◌<◌, ◌≤◌, List, length, sym, ap, ◌∙◌, subst, rules, arith}
use Rattle.std.specs.Prelude.{Some, slice_get}
use Rattle.std.specs.List.{AllWithin}
use Rattle.std.proofs.lemmas.Option.{get_or_from_slice_get}
use Rattle.cmap_runs.specs.Made.{AreMadeBy}
use Rattle.cmap_runs.specs.Order.{IsInOrder}
use Rattle.cmap_runs.specs.Ranges.{Run}
use Rattle.cmap_runs.specs.declared.runs.block_maker.BlockMaker.{BlockMaker}
use Rattle.cmap_runs.proofs.BlocksMade.{few_begun, made_full, made_next, none_begun}
use Rattle.cmap_runs.proofs.runs.held.Held.made.Goals as goal
use Rattle.cmap_runs.proofs.runs.held.Held.made.Goals.{else-loop-index-test, else-maker-from, then-loop-index-test+then-maker-from+then-is_full, then-maker-from+else-is_full}

-- the runs from this one on begin at its first code or later
begin_later : (runs : List Run) (index code : ℕ) (run : Run) → IsInOrder runs → index < length runs → slice_get runs index ≡ Some run → run.low ≡ code
    → AllWithin (λ run. code ≤ run.low) runs index (length runs)
begin_later runs index code run order inside at is = none_begun runs code index order inside (λ d. omega (arith, ap (λ (run : Run). run.low) (get_or_from_slice_get runs index run d at), is))

pub loop-index-preserved : goal.loop-index-preserved
loop-index-preserved g c =
    let runs = c.args.self.now.runs in let index = c.loop-index.index in let old = c.loop-index.invariant in let maker = c.if-maker-from.maker in
    let inside : index < length runs = omega (arith, c.loop-index-test.true, c.run_count-index-end.ensures) in
    let low = λ (d : Run). ap (λ (run : Run). run.low) (c.low.view_is ∙ sym (get_or_from_slice_get runs index _ d c.run_at.ensures)) in
    let made : AreMadeBy runs index maker =
    elim c.if-maker-from.branch [
      | then-maker-from+else-is_full w ↦
          subst (AreMadeBy runs index) (sym w.maker-is) (w.end_before.ensures.made runs c.requires old.within.1 w.end_of.ensures.after
          (begin_later runs index w.from-then-maker-from.result c.run_at.result c.requires inside c.run_at.ensures (ap (λ (run : Run). run.low) (sym c.low.view_is) ∙ sym w.from-then-maker-from.ensures)) old)
      | else-maker-from w ↦ subst (AreMadeBy runs index) (sym w.maker-is) old
    ]
    in
    let begins : length maker.list.items < maker.most → c.low.inside.low < 32 * length maker.list.items + 32 =
    elim c.if-maker-from.branch [
      | then-maker-from+else-is_full w ↦
          subst (λ (maker : BlockMaker). length maker.list.items < maker.most → c.low.inside.low < 32 * length maker.list.items + 32) (sym w.maker-is)
          (λ more. omega (arith, w.end_before.ensures.ended more, w.from-then-maker-from.ensures))
      | else-maker-from w ↦
          subst (λ (maker : BlockMaker). length maker.list.items < maker.most → c.low.inside.low < 32 * length maker.list.items + 32) (sym w.maker-is)
          (λ more. omega (arith, w.if-maker-from.false, c.from.ensures, c.loop-index.maker.ends (omega (arith, more, c.loop-index.maker.list.ok.0)), c.loop-index.maker.list.ok.0))
    ]
    in
    rw (c.add_start.ensures.list, c.add_start.ensures.most, c.add_start.ensures.begun, c.add_start.ensures.starts)
    (made_next runs maker.list.items index maker.most maker.begun maker.starts c.low.inside.low c.requires inside (λ d. sym (low d)) begins made)

pub end_before-requires : goal.end_before-requires
end_before-requires g c = λ more. let made = c.loop-index.invariant in
    omega (arith, few_begun c.args.self.now.runs (32 * length c.loop-index.maker.list.items + 32) c.loop-index.index c.requires made.within.1 (made.unfinished more).last)

pub returns-clause-made : goal.returns-clause-made
returns-clause-made g c =
    let runs = c.args.self.now.runs in let index = c.loop-index.index in let old = c.loop-index.invariant in
    elim c.loop-index-test.branch [
      | else-loop-index-test w ↦
          let all : index ≡ length runs = omega (arith, w.loop-index-test.false, c.loop-index.auto.index-end, c.run_count-index-end.ensures) in
          subst (AreMadeBy runs (length runs)) (sym w.maker-is) (subst (λ n. AreMadeBy runs n c.loop-index.maker) all old)
      | then-loop-index-test+then-maker-from+then-is_full w ↦
          let inside : index < length runs = omega (arith, w.loop-index-test.true, c.run_count-index-end.ensures) in
          let maker = w.end_before.new.self in
          subst (AreMadeBy runs (length runs)) (sym w.maker-is)
          (made_full runs maker.list.items index maker.most maker.begun maker.starts (w.is_full.ensures.yes (search rules))
          (w.end_before.ensures.made runs c.requires old.within.1 w.end_of.ensures.after
          (begin_later runs index w.from-then-maker-from.result w.run_at.result c.requires inside w.run_at.ensures (ap (λ (run : Run). run.low) (sym w.low.view_is) ∙ sym w.from-then-maker-from.ensures)) old))
    ]
