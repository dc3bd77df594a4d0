-- Answers, and one more.
use Rattle.std.proofs.Common.{◌≡◌, refl, ap, arith, ℕ, zero, suc, ◌<◌, Bool, true, false, List, [], ◌∷◌, ◌++◌, length, Option, Some, None, inl, inr}
use Rattle.std.specs.Prelude.{◌⊎◌, bytes_eq, if◌then◌else◌}
use Rattle.std.proofs.lemmas.Slice.Eq.{bytes_eq-Decides}
use Rattle.cmap_load.specs.Loading.{Answer, bytes_at, first_answer, is_of_name}

pub bytes_at_within : (answers more : List Answer) (i : ℕ) → i < length answers → bytes_at (answers ++ more) i ≡ bytes_at answers i
bytes_at_within [] more i lt = absurd (omega (arith, lt))
bytes_at_within (answer ∷ answers) more zero lt = refl
bytes_at_within (answer ∷ answers) more (suc i) lt = let less : i < length answers = omega (arith, lt) in bytes_at_within answers more i less

pub bytes_at_front : (answers more : List Answer) (i : ℕ) (bytes : List ℕ) → bytes_at answers i ≡ Some bytes → bytes_at (answers ++ more) i ≡ Some bytes
bytes_at_front [] more i bytes h = absurd (cc)
bytes_at_front (answer ∷ answers) more zero bytes h = h
bytes_at_front (answer ∷ answers) more (suc i) bytes h = bytes_at_front answers more i bytes h

pub bytes_at_last : (answers : List Answer) (answer : Answer) → bytes_at (answers ++ answer ∷ []) (length answers) ≡ answer.bytes
bytes_at_last [] answer = refl
bytes_at_last (first ∷ answers) answer = bytes_at_last answers answer

pub answer_front : (answers more : List Answer) (name : List ℕ) (bytes : Option (List ℕ)) → first_answer answers name ≡ Some bytes → first_answer (answers ++ more) name ≡ Some bytes
answer_front [] more name bytes h = absurd (cc)
answer_front (answer ∷ answers) more name bytes h =
    let later = answer_front answers more name bytes in
    let step = elim (is_of_name answer.name name) as (λ b. (if b then Some answer.bytes else first_answer answers name) ≡ Some bytes → (if b then Some answer.bytes else first_answer (answers ++ more) name) ≡ Some bytes) [
      | true ↦ λ e. e
      | false ↦ λ e. later e
    ] in
    step h

bytes_eq-same : (name : List ℕ) → bytes_eq name name ≡ true
bytes_eq-same name = (bytes_eq-Decides name name).1 refl

-- a name that had no answer gets this one
pub answer_last : (answers : List Answer) (name : List ℕ) (bytes : Option (List ℕ)) → first_answer answers name ≡ None → first_answer (answers ++ record { name = Some name; bytes = bytes } ∷ []) name ≡ Some bytes
answer_last [] name bytes none = ap (λ (b : Bool). if b then Some bytes else None) (bytes_eq-same name)
answer_last (first ∷ answers) name bytes none =
    let later = answer_last answers name bytes in
    let step = elim (is_of_name first.name name) as (λ b. (if b then Some first.bytes else first_answer answers name) ≡ None → (if b then Some first.bytes else first_answer (answers ++ record { name = Some name; bytes = bytes } ∷ []) name) ≡ Some bytes) [
      | true ↦ λ e. absurd (cc)
      | false ↦ λ e. later e
    ] in
    step none

pub still_none : (answers : List Answer) (answer : Answer) (name : List ℕ) → first_answer answers name ≡ None → is_of_name answer.name name ≡ false → first_answer (answers ++ answer ∷ []) name ≡ None
still_none [] answer name none other = ap (λ (b : Bool). if b then Some answer.bytes else None) other
still_none (first ∷ answers) answer name none other =
    let later = still_none answers answer name in
    let step = elim (is_of_name first.name name) as (λ b. (if b then Some first.bytes else first_answer answers name) ≡ None → (if b then Some first.bytes else first_answer (answers ++ answer ∷ []) name) ≡ None) [
      | true ↦ λ e. absurd (cc)
      | false ↦ λ e. later e other
    ] in
    step none

-- what is answered with one answer more was answered before, or it is the last one
pub first_answer_pushed : (answers : List Answer) (answer : Answer) (name : List ℕ) (bytes : Option (List ℕ)) → first_answer (answers ++ answer ∷ []) name ≡ Some bytes
    → (first_answer answers name ≡ Some bytes) ⊎ ((is_of_name answer.name name ≡ true) × (bytes ≡ answer.bytes))
first_answer_pushed [] answer name bytes =
    elim (is_of_name answer.name name) as (λ b. (if b then Some answer.bytes else None) ≡ Some bytes → (None ≡ Some bytes) ⊎ ((b ≡ true) × (bytes ≡ answer.bytes))) [
      | true ↦ λ e. inr (refl, (cc))
      | false ↦ λ e. inl e
    ]
first_answer_pushed (first ∷ answers) answer name bytes =
    let later = first_answer_pushed answers answer name bytes in
    elim (is_of_name first.name name) as (λ b. (if b then Some first.bytes else first_answer (answers ++ answer ∷ []) name) ≡ Some bytes
    → ((if b then Some first.bytes else first_answer answers name) ≡ Some bytes) ⊎ ((is_of_name answer.name name ≡ true) × (bytes ≡ answer.bytes))) [
      | true ↦ λ e. inl e
      | false ↦ λ e. later e
    ]
