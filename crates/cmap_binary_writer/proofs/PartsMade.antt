-- A list in parts, each of which is written in a segment.
use Rattle.std.proofs.Common.{◌≡◌, ℕ, zero, suc, ◌<◌, ◌≤◌, List, [], ◌∷◌, ◌++◌, inl, inr, drop, length, map, min, take, refl, ap, ◌∙◌, sym, subst, arith}
use Rattle.std.specs.List.{All, flat_map}
use Rattle.std.proofs.lemmas.Bool.{cases_lt}
use Rattle.std.proofs.lemmas.List.{append_assoc, append-nil, drop-map, drop_all, length-drop, length-map, length-take, map-append, take-append-drop, take-map, take_all}
use Rattle.std.proofs.lemmas.List.Elements.{All-append, All-cons, All-nil}
use Rattle.cmap_binary_writer.specs.Fields.{part_segments, parts_in, parts_of, segment_bytes}
use Rattle.cmap_binary_writer.proofs.Told.{All-back, All-front}

-- ---- the parts
module _ {E : Type 0} where
  drop_fewer : (most steps : ℕ) (x : E) (xs : List E) → 0 < most → suc (length xs) ≤ suc steps → length (drop most (x ∷ xs)) ≤ steps
  drop_fewer most steps x xs some within = omega (arith, some, within, length-drop most (x ∷ xs))

  -- more steps make no more parts
  parts_more : (steps others most : ℕ) (xs : List E) → 0 < most → length xs ≤ steps → length xs ≤ others → parts_in steps most xs ≡ parts_in others most xs
  parts_more zero zero most xs some first second = refl
  parts_more zero (suc others) most [] some first second = refl
  parts_more zero (suc others) most (x ∷ xs) some first second = absurd (omega (arith, first))
  parts_more (suc steps) zero most [] some first second = refl
  parts_more (suc steps) zero most (x ∷ xs) some first second = absurd (omega (arith, second))
  parts_more (suc steps) (suc others) most [] some first second = refl
  parts_more (suc steps) (suc others) most (x ∷ xs) some first second = ap (λ parts. take most (x ∷ xs) ∷ parts) (parts_more steps others most (drop most (x ∷ xs)) some (drop_fewer most steps x xs some first) (drop_fewer most others x xs some second))

  -- the first part, and those of what is left
  pub parts_next : (most : ℕ) (xs : List E) → 0 < most → 0 < length xs → parts_of most xs ≡ take most xs ∷ parts_of most (drop most xs)
  parts_next most [] some filled = absurd (omega (arith, filled))
  parts_next most (x ∷ xs) some filled = ap (λ parts. take most (x ∷ xs) ∷ parts) (parts_more (length xs) (length (drop most (x ∷ xs))) most (drop most (x ∷ xs)) some (drop_fewer most (length xs) x xs some (omega arith)) (omega arith))

  pub parts_flat : (steps most : ℕ) (xs : List E) → 0 < most → length xs ≤ steps → flat_map (λ part. part) (parts_in steps most xs) ≡ xs
  parts_flat zero most [] some within = refl
  parts_flat zero most (x ∷ xs) some within = absurd (omega (arith, within))
  parts_flat (suc steps) most [] some within = refl
  parts_flat (suc steps) most (x ∷ xs) some within = ap (λ ys. take most (x ∷ xs) ++ ys) (parts_flat steps most (drop most (x ∷ xs)) some (drop_fewer most steps x xs some within)) ∙ take-append-drop most (x ∷ xs)

  -- each part is short, and what holds of all elements holds of its
  pub parts_each : (fits : E → Type 0) (steps most : ℕ) (xs : List E) → All fits xs → All (λ part. (length part ≤ most) × All fits part) (parts_in steps most xs)
  parts_each fits zero most xs all = All-nil (λ part. (length part ≤ most) × All fits part)
  parts_each fits (suc steps) most [] all = All-nil (λ part. (length part ≤ most) × All fits part)
  parts_each fits (suc steps) most (x ∷ xs) all =
      let ys = x ∷ xs in
      let cut : ys ≡ take most ys ++ drop most ys = sym (take-append-drop most ys) in
      let both = subst (All fits) cut all in
      All-cons (λ part. (length part ≤ most) × All fits part) (take most ys) (parts_in steps most (drop most ys)) (omega (arith, length-take most ys), All-front fits (take most ys) (drop most ys) both) (parts_each fits steps most (drop most ys) (All-back fits (take most ys) (drop most ys) both))

module _ {X : Type 0} (most : ℕ) (xs : List X) where
  -- as many as there are, or as fit
  pub take_least : take (min (length xs) most) xs ≡ take most xs
  take_least = elim (cases_lt most (length xs)) [
    | inl fewer ↦ let e : min (length xs) most ≡ most = omega (arith, fewer) in ap (λ n. take n xs) e
    | inr all ↦ take_all (min (length xs) most) xs (omega (arith, all)) ∙ sym (take_all most xs all)
  ]

  drop_least : drop (min (length xs) most) xs ≡ drop most xs
  drop_least = elim (cases_lt most (length xs)) [
    | inl fewer ↦ let e : min (length xs) most ≡ most = omega (arith, fewer) in ap (λ n. drop n xs) e
    | inr all ↦ drop_all (min (length xs) most) xs (omega (arith, all)) ∙ sym (drop_all most xs all)
  ]

-- ---- a segment for each part, one after another
module _ {X E : Type 0} (number : ℕ) (payload : List E → List ℕ) (most : ℕ) (seen : X → E) (fits : E → Type 0) where
  -- these are written, and those are left
  pub record WrittenTo (all left : List X) (old now : List ℕ) : Type 0 where
    pub done : List X
    pub parts : all ≡ done ++ left
    pub bytes : now ++ part_segments number payload most (map seen left) ≡ old ++ part_segments number payload most (map seen all)
    pub fit : All fits (map seen done)

  pub written_none : (all : List X) (old : List ℕ) → WrittenTo all all old old
  written_none all old = record { done = []; parts = refl; bytes = refl; fit = All-nil fits }

  -- one part more
  pub written_more : (all left here later : List X) (old now new : List ℕ) → 0 < most → 0 < length left → here ≡ take (min (length left) most) left → later ≡ drop (min (length left) most) left → WrittenTo all left old now → new ≡ now ++ segment_bytes number (payload (map seen here)) → All fits (map seen here) → WrittenTo all later old new
  written_more all left here later old now new some filled front back h is fit =
      let f : List E → List ℕ = λ part. segment_bytes number (payload part) in
      let all_of : List E → List ℕ = λ es. part_segments number payload most es in
      let es = map seen left in
      let next : all_of es ≡ f (take most es) ++ all_of (drop most es) = ap (flat_map f) (parts_next most es some (omega (arith, filled, length-map left seen))) in
      let here_is : map seen here ≡ take most es = ap (map seen) (front ∙ take_least most left) ∙ sym (take-map seen most left) in
      let later_is : map seen later ≡ drop most es = ap (map seen) (back ∙ drop_least most left) ∙ sym (drop-map seen most left) in
      let cut : left ≡ here ++ later = sym (take-append-drop (min (length left) most) left) ∙ ap (λ xs. xs ++ drop (min (length left) most) left) (sym front) ∙ ap (λ xs. here ++ xs) (sym back) in
      record {
        done = h.done ++ here;
        parts = h.parts ∙ ap (λ xs. h.done ++ xs) cut ∙ sym (append_assoc h.done here later);
        bytes =
            ap (λ bs. bs ++ all_of (map seen later)) is
            ∙ append_assoc now (f (map seen here)) (all_of (map seen later))
            ∙ ap (λ bs. now ++ bs) (ap (λ part. f part ++ all_of (map seen later)) here_is ∙ ap (λ xs. f (take most es) ++ all_of xs) later_is ∙ sym next)
            ∙ h.bytes;
        fit = subst (All fits) (sym (map-append seen h.done here)) (All-append fits (map seen h.done) (map seen here) h.fit fit);
      }

  pub written_all : (all : List X) (old now : List ℕ) → WrittenTo all [] old now → All fits (map seen all) × (now ≡ old ++ part_segments number payload most (map seen all))
  written_all all old now h = (subst (λ xs. All fits (map seen xs)) (sym (h.parts ∙ append-nil h.done)) h.fit, sym (append-nil now) ∙ h.bytes)

-- what is not empty has an element
pub some_left : (n : ℕ) → (n ≡ 0 → ⊥) → 0 < n
some_left zero none = absurd (none refl)
some_left (suc n) none = omega arith
