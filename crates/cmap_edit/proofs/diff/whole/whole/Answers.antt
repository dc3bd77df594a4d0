use Rattle.std.proofs.Common.{◌≡◌, ◌+◌, ◌-◌, true≢false, Some, ap, sym, ◌∙◌, arith}
use Rattle.std.proofs.lemmas.Option.{same_Some}
use Rattle.cmap_layers.specs.CodeStretches.{cid_after}
use Rattle.cmap_edit.proofs.Patterns as patterns
use Rattle.cmap_edit.proofs.diff.whole.whole.Goals as goal
use Rattle.cmap_edit.proofs.diff.whole.whole.Goals.{else-are_all-via-then-are_all+else-are_all-2, else-are_all-via-else-are_all, then-count_from, else-count_from}

pub returns : goal.returns
returns c = λ answer has has_too.
    let start = c.args.first.start in let end = c.args.first.end in let then = c.args.then.start in let last = c.args.then.end in
    let begin = c.in_ok-begin.begin in
    let first : cid_after c.args.front 0 ≡ Some begin = sym c.first_of-begin.ensures ∙ c.in_ok-begin.was in
    let next : c.from.result + c.from-2.result ≡ begin + (then - start) = omega arith in
    rw c.then_some.ensures
    (patterns.if_counted answer start end then last c.args.front c.args.back c.requires.filled c.requires.filled_too c.requires.meets has has_too c.if-count_from.then_some begin
    (λ found.
    elim c.if-count_from.branch [
      | then-count_from w ↦ patterns.counted_whole answer start end then last c.args.front c.args.back c.requires.filled c.requires.filled_too c.requires.meets has has_too begin
          (λ k le. c.count_from.ensures.0 w.if-count_from.true k le ∙ ap (λ n. Some (n + k)) c.from-3.ensures)
          (λ k le. w.count_from-then-count_from.ensures.0 (sym w.then_some-is ∙ found) k le ∙ ap (λ n. Some (n + k)) next)
      | else-count_from w ↦ absurd (true≢false (sym found ∙ w.then_some-is ∙ w.if-count_from.false))
    ])
    (λ missed. patterns.no_whole answer start end then last c.args.front c.args.back c.requires.filled c.requires.filled_too c.requires.meets has has_too
    (λ same. elim c.else-are_all.branch [
      | else-are_all-via-then-are_all+else-are_all-2 w ↦ true≢false (sym (w.are_all-then-are_all.ensures.1 (λ k le. same.1 k le ∙ sym c.first_of-begin.ensures)) ∙ w.if-are_all-2.false)
      | else-are_all-via-else-are_all w ↦ true≢false (sym (c.are_all.ensures.1 (λ k le. same.0 k le ∙ sym c.first_of-begin.ensures)) ∙ w.if-are_all.false)
    ])
    (λ counted.
    let is : counted.0 ≡ begin = same_Some counted.0 begin (sym counted.1 ∙ first) in
    elim c.if-count_from.branch [
      | then-count_from w ↦ true≢false (sym (w.count_from-then-count_from.ensures.1 (λ k le. counted.3 k le ∙ ap (λ n. Some (n + (then - start) + k)) is ∙ sym (ap (λ n. Some (n + k)) next))) ∙ sym w.then_some-is ∙ missed)
      | else-count_from w ↦ true≢false (sym (c.count_from.ensures.1 (λ k le. counted.2 k le ∙ ap (λ n. Some (n + k)) (is ∙ sym c.from-3.ensures))) ∙ w.if-count_from.false)
    ])))
