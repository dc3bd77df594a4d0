use Rattle.std.proofs.Common.{◌≡◌, ℕ, ◌+◌, Bool, true, false, nat_eq, get_or, bit_and, refl, ap, subst, inl, inr, arith}
use Rattle.std.specs.Prelude.{◌≢◌, not, slice_index}
use Rattle.std.specs.Bool.{MatchBool}
use Rattle.std.proofs.lemmas.Bool.{cases_lt, eqb-false, eqb-true}
use Rattle.std.proofs.lemmas.Nat.{and_le_l}
use Rattle.cmap_codespaces.specs.SpaceBits.{IsInside, row_of_length, row_of_value}
use Rattle.cmap_codespaces.proofs.SpacesFound.{all_more, none_inside, set_more, some_inside}
use Rattle.cmap_codespaces.proofs.front.ends_at.Goals as goal

by_test : (n : ℕ) (P Q : Type 0) (is_zero : Bool) → nat_eq n 0 ≡ is_zero → (n ≢ 0 → P) → (n ≡ 0 → Q) → MatchBool (not is_zero) P Q
by_test n P Q true is some none = none (eqb-true n 0 is)
by_test n P Q false is some none = some (eqb-false n 0 is)

pub returns : goal.returns
returns c =
    let rows = c.args.rows.now in let text = c.args.text.now in let p = c.args.place in let before = c.requires.before in
    let row : c.row_of_value.result ≡ row_of_value p (slice_index text p) = omega (arith, c.row_of_value.ensures, c.from-2.ensures, ap (slice_index text) c.from.ensures) in
    let last : c.row_of_length.result ≡ row_of_length (p + 1) = omega (arith, c.row_of_length.ensures) in
    let found = bit_and c.args.found.now (get_or rows c.row_of_value.result 0) in
    let fits = and_le_l c.args.found.now (get_or rows c.row_of_value.result 0) in
    let set = set_more rows text c.args.found.now c.row_of_value.result p row before.set in
    let all = all_more rows text c.args.found.now c.row_of_value.result p row before.all in
    let (small, within) = c.requires.place in
    by_test (bit_and found (get_or rows c.row_of_length.result 0)) _ _ _ refl
    (λ some. (some_inside rows text found (p + 1) (omega arith) (omega arith) (omega arith) (omega arith) set (rw (← last) some), λ m below inside. before.none m (omega arith) inside))
    (λ none. record {
      set = set;
      all = all;
      none = λ n few inside. elim (cases_lt n (p + 1)) [
        | inl less ↦ before.none n (omega arith) inside
        | inr most ↦
            let same : n ≡ p + 1 = omega arith in
            none_inside rows text found (p + 1) (λ r. omega (arith, c.type_inv.rows r)) all (rw (← last) none) (subst (IsInside text rows) same inside)
      ];
    })
