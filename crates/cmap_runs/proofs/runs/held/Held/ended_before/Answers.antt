use Rattle.std.proofs.Common.{◌≡◌, ℕ, ◌-◌, ◌<◌, ◌≤◌, List, get_or, length, sym, ap, ◌∙◌, subst, inl, inr, arith}
use Rattle.std.specs.List.{AllWithin}
use Rattle.std.proofs.lemmas.Bool.{cases_lt}
use Rattle.std.proofs.lemmas.Option.{get_or_from_slice_get}
use Rattle.cmap_runs.specs.Order.{IsInOrder}
use Rattle.cmap_runs.specs.Ranges.{Run}
use Rattle.cmap_runs.proofs.runs.held.Held.ended_before.Goals as goal
use Rattle.cmap_runs.proofs.runs.held.Held.ended_before.Goals.{else-begun-gt0-via-then-begun-gt0+else-from-code, else-begun-gt0-via-else-begun-gt0}

-- a run before the last one that begins below a code ends below it
ends_earlier : (runs : List Run) (begun code k : ℕ) (d : Run) → IsInOrder runs → begun ≤ length runs → AllWithin (λ run. run.low < code) runs 0 begun → k < begun - 1 → (get_or runs k d).high < code
ends_earlier runs begun code k d order within begins lt = omega (arith, order.apart k (begun - 1) d lt (omega arith), begins (begun - 1) d (omega arith) (omega arith))

pub run_at-requires : goal.run_at-requires
run_at-requires g c = omega (arith, c.requires.within)

pub returns-then-from-code : goal.returns-then-from-code
returns-then-from-code g c = record {
  within = omega arith;
  before = λ k d from lt. ends_earlier c.args.self.now.runs c.args.begun c.args.code k d c.requires.order c.requires.within c.requires.begun lt;
}

pub returns-else-begun-gt0 : goal.returns-else-begun-gt0
returns-else-begun-gt0 g c = record {
  within = omega arith;
  before = elim c.else-begun-gt0.branch [
    | else-begun-gt0-via-then-begun-gt0+else-from-code w ↦ λ k d from lt.
        let runs = c.args.self.now.runs in let last = c.args.begun - 1 in
        elim (cases_lt k last) [
          | inl earlier ↦ ends_earlier runs c.args.begun c.args.code k d c.requires.order c.requires.within c.requires.begun earlier
          | inr from ↦
              let at : k ≡ last = omega arith in
              let is = ap (λ (run : Run). run.high) (w.from.view_is ∙ sym (get_or_from_slice_get runs last _ d w.run_at.ensures)) in
              subst (λ i. (get_or runs i d).high < c.args.code) (sym at) (omega (arith, is, w.from-then-begun-gt0.ensures, w.if-from-code.false))
        ]
    | else-begun-gt0-via-else-begun-gt0 w ↦ λ k d from lt. absurd (omega (arith, w.if-begun-gt0.false, lt))
  ];
}
