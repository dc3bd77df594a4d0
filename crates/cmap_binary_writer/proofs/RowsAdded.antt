-- Rows that elements of a list add, one after another.
use Rattle.std.proofs.Common.{◌≡◌, ℕ, ◌+◌, ◌<◌, ◌≤◌, ◌^◌, List, [], ◌∷◌, ◌++◌, length, get_or, map, take, ap, ◌∙◌, subst, sym}
use Rattle.std.specs.List.{All, flat_map}
use Rattle.std.proofs.lemmas.List.{append_assoc, flat_map_more, map-append, take_all, take_more}
use Rattle.std.proofs.lemmas.List.Elements.{All-push}
use Rattle.cmap_binary_writer.specs.Fields.{segment_bytes}
use Rattle.cmap_binary_writer.specs.Written.{Appends, IsFramed}

module _ {X A : Type 0} (row : X → List A) (xs : List X) (i : ℕ) (old now : List A) where
  -- the row of the element at `i` follows those of the elements before it
  pub rows_more : (d : X) (new : List A) → i < length xs → now ≡ old ++ flat_map row (take i xs) → new ≡ now ++ row (get_or xs i d) → new ≡ old ++ flat_map row (take (i + 1) xs)
  rows_more d new inside before more = more ∙ ap (λ ys. ys ++ row (get_or xs i d)) before ∙ flat_map_more row old (take i xs) (get_or xs i d) ∙ ap (λ ys. old ++ flat_map row ys) (sym (take_more xs i d inside))

  -- after the last element they are all there
  pub rows_done : length xs ≤ i → now ≡ old ++ flat_map row (take i xs) → now ≡ old ++ flat_map row xs
  rows_done past before = before ∙ ap (λ ys. old ++ flat_map row ys) (take_all i xs past)

module _ {X Y A : Type 0} (row : Y → List A) (seen : X → Y) (xs : List X) (i : ℕ) (old now : List A) where
  -- so does the row of what is seen of it
  pub seen_more : (d : X) (new : List A) → i < length xs → now ≡ old ++ flat_map row (map seen (take i xs)) → new ≡ now ++ row (seen (get_or xs i d)) → new ≡ old ++ flat_map row (map seen (take (i + 1) xs))
  seen_more d new inside before more =
      more
      ∙ ap (λ ys. ys ++ row (seen (get_or xs i d))) before
      ∙ flat_map_more row old (map seen (take i xs)) (seen (get_or xs i d))
      ∙ ap (λ ys. old ++ flat_map row ys) (sym (ap (map seen) (take_more xs i d inside) ∙ map-append seen (take i xs) (get_or xs i d ∷ [])))

  -- after the last element they are all there
  pub seen_done : length xs ≤ i → now ≡ old ++ flat_map row (map seen (take i xs)) → now ≡ old ++ flat_map row (map seen xs)
  seen_done past before = before ∙ ap (λ ys. old ++ flat_map row (map seen ys)) (take_all i xs past)

  -- and what holds of it too
  pub fits_more : (fits : Y → Type 0) (d : X) → i < length xs → All fits (map seen (take i xs)) → fits (seen (get_or xs i d)) → All fits (map seen (take (i + 1) xs))
  fits_more fits d inside before here = subst (All fits) (sym (ap (map seen) (take_more xs i d inside) ∙ map-append seen (take i xs) (get_or xs i d ∷ []))) (All-push fits (map seen (take i xs)) (seen (get_or xs i d)) before here)

  pub fits_done : (fits : Y → Type 0) → length xs ≤ i → All fits (map seen (take i xs)) → All fits (map seen xs)
  fits_done fits past all = subst (λ ys. All fits (map seen ys)) (take_all i xs past) all

-- ---- rows that are added one after another
pub added_two : {A : Type 0} (old a new x y : List A) → a ≡ old ++ x → new ≡ a ++ y → new ≡ old ++ (x ++ y)
added_two old a new x y first second = second ∙ ap (λ bs. bs ++ y) first ∙ append_assoc old x y

pub added_three : {A : Type 0} (old a b new x y z : List A) → a ≡ old ++ x → b ≡ a ++ y → new ≡ b ++ z → new ≡ old ++ (x ++ (y ++ z))
added_three old a b new x y z first second third = added_two old a new x (y ++ z) first (added_two a b new y z second third)

pub added_four : {A : Type 0} (old a b c new w x y z : List A) → a ≡ old ++ w → b ≡ a ++ x → c ≡ b ++ y → new ≡ c ++ z → new ≡ old ++ (w ++ (x ++ (y ++ z)))
added_four old a b c new w x y z first second third fourth = added_two old a new w (x ++ (y ++ z)) first (added_three a b c new x y z second third fourth)

-- ---- a segment that is added
pub segment_added : (old new : List ℕ) (number : ℕ) (slice payload : List ℕ) → slice ≡ payload → Appends old new (IsFramed (number ∷ []) slice) → (5 + length payload < 2 ^ 32) × (new ≡ old ++ segment_bytes number payload)
segment_added old new number slice payload is (bytes, added, framed) =
    let small : 5 + length slice < 2 ^ 32 = framed.small in
    (subst (λ p. 5 + length p < 2 ^ 32) is small, added ∙ ap (λ bs. old ++ bs) framed.bytes_are ∙ ap (λ p. old ++ segment_bytes number p) is)
