-- What is tried for codes of each length.
use Rattle.std.proofs.Common.{◌≡◌, ℕ, ◌+◌, ◌<◌, ◌^◌, true, false, true≢false, List, [], ◌∷◌, Option, Some, None, get_or, take, zero, suc, refl, sym, subst, arith}
use Rattle.std.specs.Prelude.{All, MatchOption, is_some}
use Rattle.std.proofs.lemmas.List.{take_more}
use Rattle.std.proofs.lemmas.List.Elements.{All-push}
use Rattle.cmap_values.specs.CodeLengths.{IsCodeLength}
use Rattle.cmap_values.specs.declared.code_length.CodeLength.{CodeLength}
use Rattle.cmap_values.specs.declared.code_length.CodeLength.TheVariants.{One, Two, Three, Four}
use Rattle.cmap_edit.specs.Chosen.{Chosen}
use Rattle.cmap_edit.specs.declared.flatten.codes.Codes.{Codes}

pub none_found : {A : Type 0} (found : Option A) (P : Type 0) (Q : A → Type 0) → is_some found ≡ false → MatchOption found P Q → P
none_found None P Q is holds = holds
none_found (Some x) P Q is holds = absurd (true≢false is)

pub some_found : {A : Type 0} (found : Option A) (P R : Type 0) (Q : A → Type 0) → is_some found ≡ true → MatchOption found P Q → MatchOption found R Q
some_found None P R Q is holds = absurd (true≢false (sym is))
some_found (Some x) P R Q is holds = holds

abbrev pub all_lengths : List CodeLength
all_lengths = One ∷ Two ∷ Three ∷ Four ∷ []

pub one_more : (P : CodeLength → Type 0) (i : ℕ) → i < 4 → All P (take i all_lengths) → P (get_or all_lengths i One) → All P (take (i + 1) all_lengths)
one_more P i lt before here = subst (All P) (sym (take_more all_lengths i One lt)) (All-push P (take i all_lengths) (get_or all_lengths i One) before here)

pub each : (P : CodeLength → Type 0) → All P all_lengths → (len : CodeLength) → P len
each P all One = all 0 One (omega arith)
each P all Two = all 1 One (omega arith)
each P all Three = all 2 One (omega arith)
each P all Four = all 3 One (omega arith)

-- all codes of each length
abbrev pub every : CodeLength → Codes
every len = record { len = len; range = record { start = 0; end = 4294967295 } }

pub all_chosen : (code len : ℕ) → code < 2 ^ 32 → IsCodeLength len → Chosen (every One ∷ every Two ∷ every Three ∷ every Four ∷ []) code len
all_chosen code zero small few = absurd (omega (arith, few))
all_chosen code (suc zero) small few = (0, every One, omega arith, refl, (refl, (omega arith, omega arith)))
all_chosen code (suc (suc zero)) small few = (1, every Two, omega arith, refl, (refl, (omega arith, omega arith)))
all_chosen code (suc (suc (suc zero))) small few = (2, every Three, omega arith, refl, (refl, (omega arith, omega arith)))
all_chosen code (suc (suc (suc (suc zero)))) small few = (3, every Four, omega arith, refl, (refl, (omega arith, omega arith)))
all_chosen code (suc (suc (suc (suc (suc n))))) small few = absurd (omega (arith, few))
