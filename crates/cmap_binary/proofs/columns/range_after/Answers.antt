use Rattle.std.proofs.Common.{◌≡◌, ℕ, ◌<◌, ◌≤◌, ◌^◌, ◌∙◌, sym, arith, inl, inr}
use Rattle.std.specs.Prelude.{Result, Ok, Err, Some, None}
use Rattle.std.specs.Result.{OkIff, result_ok}
use Rattle.std.proofs.lemmas.Bool.{cases_lt}
use Rattle.std.proofs.lemmas.Option.{none-some, same_Some}
use Rattle.cmap_binary.proofs.columns.range_after.Goals as goal

-- the end, as a number of 32 bits
end_is : {E : Type 0} (n end : ℕ) (r : Result ℕ E) → OkIff r (n < 2 ^ 32) n → Some end ≡ result_ok r → (end ≡ n) × (n < 2 ^ 32)
end_is n end (Ok x) fits is = (same_Some end x is ∙ fits.1, fits.0)
end_is n end (Err e) fits is = absurd (none-some end (sym is))

past_end : {E : Type 0} (n : ℕ) (r : Result ℕ E) → OkIff r (n < 2 ^ 32) n → None ≡ result_ok r → 2 ^ 32 ≤ n
past_end n (Ok x) fits none = absurd (none-some x none)
past_end n (Err e) fits none = elim (cases_lt n (2 ^ 32)) [ inl below ↦ absurd (fits below) | inr past ↦ past ]

pub returns-in_err-end : goal.returns-in_err-end
returns-in_err-end c =
    let past = past_end c.in_ok-checked_add.field-0 c.try_from.result c.try_from.ensures c.in_err-end.ensures.value in
    rw c.from_residual-in_err-end.ensures (omega (arith, past, c.in_ok-checked_add.ensures.1, c.in_ok-start.ensures.1, c.from.ensures))

pub overflow_cast-result : goal.overflow_cast-result
overflow_cast-result c =
    let fits = (end_is c.in_ok-checked_add.field-0 c.in_ok-end.end c.try_from.result c.try_from.ensures c.in_ok-end.ensures.value).1 in
    record { fits = omega (arith, fits, c.in_ok-checked_add.ensures.1) }

pub returns : goal.returns
returns c =
    let (end, fits) = end_is c.in_ok-checked_add.field-0 c.in_ok-end.end c.try_from.result c.try_from.ensures c.in_ok-end.ensures.value in
    let start = c.in_ok-start.ensures.1 in let both = c.in_ok-checked_add.ensures.1 in let delta = c.from.ensures in
    (omega (arith, start, delta), omega (arith, end, both, start, delta), omega (arith, end, fits))
