-- The index of each prefix: one more, and one more run.
use Rattle.std.proofs.Common.{◌≡◌, ℕ, ◌+◌, ◌<◌, false, List, [], ◌∷◌, ◌++◌, length, ◌⊎◌, Option, Some, None, refl, sym, ap, ◌∙◌, inl, inr, arith}
use Rattle.std.specs.Prelude.{if◌then◌else◌, option_and_then, slice_get, slice_set}
use Rattle.std.specs.Str.{bytes_eq}
use Rattle.std.specs.Global.{Vec}
use Rattle.std.proofs.lemmas.Bool.{cases_Bool, false≢true}
use Rattle.std.proofs.lemmas.Option.{same_Some}
use Rattle.std.proofs.lemmas.Slice.Eq.{bytes_eq-Decides}
use Rattle.cmap_encode.specs.RunsSeen.{items_of}
use Rattle.cmap_encode.specs.declared.key_codes.CodeRun.{CodeRun}
use Rattle.cmap_encode.proofs.ListElements.{push_get, push_last, set_elsewhere, set_here}

-- ---- numbers of prefixes
module _ (old : List ℕ → Option ℕ) (lists : List (Vec CodeRun)) (within : (prefix : List ℕ) (number : ℕ) → old prefix ≡ Some number → number < length lists)
    (apart : (prefix other : List ℕ) (number : ℕ) → old prefix ≡ Some number → old other ≡ Some number → prefix ≡ other) where
  abbrev pub runs_at : (List ℕ → Option ℕ) → List (Vec CodeRun) → List ℕ → List CodeRun
  runs_at numbers all prefix = items_of (option_and_then (slice_get all) (numbers prefix))

  module _ (new : List ℕ → Option ℕ) (prefix : List ℕ) (none : old prefix ≡ None) (is : (other : List ℕ) → new other ≡ (if bytes_eq other prefix then Some (length lists) else old other)) where
    pub one_of : (other : List ℕ) (number : ℕ) → new other ≡ Some number → ((other ≡ prefix) × (number ≡ length lists)) ⊎ (old other ≡ Some number)
    one_of other number has =
        elim (cases_Bool (bytes_eq other prefix)) [
          | inl same ↦ inl ((bytes_eq-Decides other prefix).0 same, same_Some number (length lists) (sym has ∙ is other ∙ ap (λ b. if b then Some (length lists) else old other) same))
          | inr apart ↦ inr (ap (λ b. if b then Some (length lists) else old other) (sym apart) ∙ sym (is other) ∙ has)
        ]

    pub more_within : (other : List ℕ) (number : ℕ) → new other ≡ Some number → number < length lists + 1
    more_within other number has = elim (one_of other number has) [ inl first ↦ let at = first.1 in omega arith | inr before ↦ let lt = within other number before in omega arith ]

    pub more_apart : (one other : List ℕ) (number : ℕ) → new one ≡ Some number → new other ≡ Some number → one ≡ other
    more_apart one other number has also =
        elim (one_of one number has) [
          | inl first ↦
              elim (one_of other number also) [
                | inl second ↦ first.0 ∙ sym second.0
                | inr before ↦ absurd (let lt = within other number before in let at = first.1 in omega arith)
              ]
          | inr before ↦
              elim (one_of other number also) [
                | inl second ↦ absurd (let lt = within one number before in let at = second.1 in omega arith)
                | inr too ↦ apart one other number before too
              ]
        ]

    old_runs : (found : Option ℕ) (other : List ℕ) (runs : Vec CodeRun) → old other ≡ found → items_of (option_and_then (slice_get (lists ++ runs ∷ [])) found) ≡ items_of (option_and_then (slice_get lists) found)
    old_runs None other runs has = refl
    old_runs (Some number) other runs has = ap items_of (push_get lists runs number (within other number has))

    pub same_runs : (runs : Vec CodeRun) → runs.items ≡ [] → (other : List ℕ) → runs_at new (lists ++ runs ∷ []) other ≡ runs_at old lists other
    same_runs runs empty other =
        elim (cases_Bool (bytes_eq other prefix)) [
          | inl same ↦
              let at : new other ≡ Some (length lists) = is other ∙ ap (λ b. if b then Some (length lists) else old other) same in
              let was : old other ≡ None = ap old ((bytes_eq-Decides other prefix).0 same) ∙ none in
              ap (λ o. items_of (option_and_then (slice_get (lists ++ runs ∷ [])) o)) at ∙ ap items_of (push_last lists runs (length lists) refl) ∙ empty ∙ sym (ap (λ o. items_of (option_and_then (slice_get lists) o)) was)
          | inr unlike ↦
              let at : new other ≡ old other = is other ∙ ap (λ b. if b then Some (length lists) else old other) unlike in
              ap (λ o. items_of (option_and_then (slice_get (lists ++ runs ∷ [])) o)) at ∙ old_runs (old other) other runs refl
        ]

  -- one more run of a prefix
  pub run_added : (prefix : List ℕ) (number : ℕ) (runs : Vec CodeRun) (run : CodeRun) (d : Vec CodeRun) → old prefix ≡ Some number → slice_get lists number ≡ Some d → runs.items ≡ d.items ++ run ∷ []
      → (other : List ℕ) → runs_at old (slice_set lists number runs) other ≡ (if bytes_eq other prefix then runs_at old lists other ++ run ∷ [] else runs_at old lists other)
  run_added prefix number runs run d is was now other =
      elim (cases_Bool (bytes_eq other prefix)) [
        | inl same ↦
            let at : old other ≡ Some number = ap old ((bytes_eq-Decides other prefix).0 same) ∙ is in
            let before : runs_at old lists other ≡ d.items = ap (λ o. items_of (option_and_then (slice_get lists) o)) at ∙ ap items_of was in
            ap (λ o. items_of (option_and_then (slice_get (slice_set lists number runs)) o)) at ∙ ap items_of (set_here lists number runs (within prefix number is)) ∙ now ∙ ap (λ l. l ++ run ∷ []) (sym before)
            ∙ sym (ap (λ b. if b then runs_at old lists other ++ run ∷ [] else runs_at old lists other) same)
        | inr unlike ↦ others (old other) refl unlike
      ]
    where
      others : (found : Option ℕ) → old other ≡ found → bytes_eq other prefix ≡ false → items_of (option_and_then (slice_get (slice_set lists number runs)) (old other)) ≡ (if bytes_eq other prefix then runs_at old lists other ++ run ∷ [] else runs_at old lists other)
      others found has unlike =
          untouched found has ∙ sym (ap (λ b. if b then runs_at old lists other ++ run ∷ [] else runs_at old lists other) unlike)
        where
          untouched : (found : Option ℕ) → old other ≡ found → items_of (option_and_then (slice_get (slice_set lists number runs)) (old other)) ≡ runs_at old lists other
          untouched None has = ap (λ o. items_of (option_and_then (slice_get (slice_set lists number runs)) o)) has ∙ sym (ap (λ o. items_of (option_and_then (slice_get lists) o)) has)
          untouched (Some m) has =
              ap (λ o. items_of (option_and_then (slice_get (slice_set lists number runs)) o)) has
              ∙ ap items_of (set_elsewhere lists number m runs (λ same. false≢true (sym unlike ∙ (bytes_eq-Decides other prefix).1 (apart other prefix number (has ∙ ap Some same) is))))
              ∙ sym (ap (λ o. items_of (option_and_then (slice_get lists) o)) has)
