use Rattle.std.proofs.Common.{◌≡◌, ℕ, ◌+◌, ◌<◌, true, false, refl, List, length, take, drop, inl, inr, rules}
use Rattle.std.specs.Prelude.{◌==◌, slice_index}
use Rattle.std.proofs.lemmas.Bool.{cases_order, eqb-true, eqb-false}
use Rattle.std.proofs.lemmas.List.{take_rest}
use Rattle.cmap_values.specs.Only.{IsOnly}
use Rattle.cmap_binary.specs.Fronts.{TerminatedAt}
use Rattle.cmap_binary.proofs.pieces.take_terminated.Goals as goal

first_only : (text : List ℕ) (end : ℕ) → end < length text → (slice_index text end == 0) ≡ true → ((k : ℕ) → k < end → (slice_index text k == 0) ≡ false) → IsOnly (TerminatedAt text) (take end text, drop (end + 1) text)
first_only text end below here before = record {
  holds = (end, below, eqb-true _ 0 here, (λ k less. eqb-false _ 0 (before k less)), refl);
  alone = λ other (last, within, is, none, parts).
      let same : last ≡ end = elim (cases_order last end) [ inl e ↦ e | inr (inl less) ↦ absurd (eqb-false _ 0 (before last less) is) | inr (inr more) ↦ absurd (none end more (eqb-true _ 0 here)) ] in
      rw same at parts;
}

pub returns-in_err-end : goal.returns-in_err-end
returns-in_err-end c =
    let none : (k : ℕ) → k < length c.args.text.now.now → (slice_index c.args.text.now.now k == 0) ≡ false = search rules in
    rw c.from_residual.ensures (λ other (end, below, is, before, parts). eqb-false _ 0 (none end below) is)

pub returns : goal.returns
returns c =
    let text = c.args.text.now.now in
    rw (take_rest text (c.in_ok-end.end + 1)) (first_only text c.in_ok-end.end (search rules) (search rules) (search rules))
