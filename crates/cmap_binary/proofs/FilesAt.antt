-- The file at an index: what a look-up in the files gives, of slices and of copies.
use Rattle.std.proofs.Common.{◌≡◌, ℕ, ◌<◌, ◌≤◌, List, length, get_or, map, refl, sym, ap, ◌∙◌, arith}
use Rattle.std.specs.Prelude.{IsSomeAnd, Option, Some, None, MatchOption, option_map, slice_get}
use Rattle.std.specs.Borrow.{Bor}
use Rattle.std.specs.List.{HoldsAt}
use Rattle.std.specs.Option.{option_copied}
use Rattle.std.proofs.lemmas.List.{length-map}
use Rattle.std.proofs.lemmas.Option.{slice_get-map, slice_get_past, slice_get_read}
use Rattle.cmap_values.specs.NamesSeen.{names_seen}

pub seen_at : {A B : Type 0} (seen : A → B) (xs : List A) (i : ℕ) (x : A) → i < length xs → x ≡ get_or xs i x → slice_get (map seen xs) i ≡ Some (seen x)
seen_at seen xs i x within is = slice_get-map seen xs i ∙ ap (option_map seen) (slice_get_read xs (length xs) i x refl within is)

pub none_seen : {A B : Type 0} (seen : A → B) (xs : List A) (i : ℕ) → length xs ≤ i → slice_get (map seen xs) i ≡ None
none_seen seen xs i past = slice_get_past (map seen xs) i (omega (arith, length-map xs seen))

pub looked_up : (files : List (Bor (List ℕ))) (i : ℕ) (o : Option (Bor (Bor (List ℕ)))) → MatchOption o (length files ≤ i) (λ file. (i < length files) × HoldsAt (λ y. file.now ≡ y) files i) → option_copied (option_copied o) ≡ slice_get (names_seen files) i
looked_up files i None past = sym (none_seen (λ file. file.now) files i past)
looked_up files i (Some file) at = sym (seen_at (λ file. file.now) files i file.now at.0 (at.1 file.now))

pub copy_looked_up : {A : Type 0} (Gives : Bor A → Bor (List ℕ) → Type 0) (seen : A → List ℕ) (xs : List A) (i : ℕ) (found : Option (Bor A)) (given : Option (Bor (List ℕ))) → MatchOption found (length xs ≤ i) (λ x. (i < length xs) × HoldsAt (λ y. x.now ≡ y) xs i)
    → MatchOption found (given ≡ None) (λ x. IsSomeAnd given (Gives x)) → ((x : Bor A) (bytes : Bor (List ℕ)) → Gives x bytes → bytes.now ≡ seen x.now) → option_copied given ≡ slice_get (map seen xs) i
copy_looked_up Gives seen xs i None given past none gives = ap option_copied none ∙ sym (none_seen seen xs i past)
copy_looked_up Gives seen xs i (Some x) None at some gives = absurd some
copy_looked_up Gives seen xs i (Some x) (Some bytes) at some gives = ap Some (gives x bytes some) ∙ sym (seen_at seen xs i x.now at.0 (at.1 x.now))
