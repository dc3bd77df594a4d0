-- The numbers of names.
use Rattle.std.proofs.Common.{◌≡◌, ◌≢◌, refl, sym, ap, subst, ◌∙◌, ℕ, ◌<◌, Bool, true, false, List, Option, [], ◌∷◌, ◌++◌, append-nil, length, map, get_or, Some, None, inl, inr}
use Rattle.std.specs.Prelude.{All, bytes_eq, slice_get, if◌then◌else◌}
use Rattle.std.specs.Borrow.{Bor}
use Rattle.std.proofs.lemmas.List.{get_or-map, get_or_append_left, map-append}
use Rattle.std.proofs.lemmas.List.Elements.{All-head, All-tail}
use Rattle.std.proofs.lemmas.Option.{get_or_from_slice_get, slice_get-get_or}
use Rattle.std.proofs.lemmas.Slice.Eq.{bytes_eq-Decides}
use Rattle.cmap_values.specs.NamesSeen.{names_seen}
use Rattle.cmap_load.specs.Numbers.{AreDistinct, FindsEach, IsMore, IsNumbered, text_at}
use Rattle.cmap_load.proofs.GraphGrowing.{slice_get_last, slice_get_left, slice_get_pushed}

pub bytes_eq-same : (name : List ℕ) → bytes_eq name name ≡ true
bytes_eq-same name = (bytes_eq-Decides name name).1 refl

pub bytes_eq-other : (name other : List ℕ) → name ≢ other → bytes_eq name other ≡ false
bytes_eq-other name other differs =
    let decide : (b : Bool) → bytes_eq name other ≡ b → bytes_eq name other ≡ false = λ b. elim b as (λ k. bytes_eq name other ≡ k → bytes_eq name other ≡ false) [
      | true ↦ λ e. absurd (differs ((bytes_eq-Decides name other).0 e))
      | false ↦ λ e. e
    ] in
    decide (bytes_eq name other) refl

-- ---- texts
pub texts_pushed : (items pushed : List (Bor (List ℕ))) (name : Bor (List ℕ)) → pushed ≡ items ++ name ∷ [] → names_seen pushed ≡ names_seen items ++ name.now ∷ []
texts_pushed items pushed name is = ap names_seen is ∙ map-append (λ (x : Bor (List ℕ)). x.now) items (name ∷ [])

pub text_at-got : (texts : List (List ℕ)) (number : ℕ) (text : List ℕ) → slice_get texts number ≡ Some text → text_at texts number ≡ text
text_at-got texts number text there = get_or_from_slice_get texts number text [] there

pub text_at-there : (texts : List (List ℕ)) (number : ℕ) → number < length texts → slice_get texts number ≡ Some (text_at texts number)
text_at-there texts number lt = slice_get-get_or texts number [] lt

pub text_at-still : (texts more : List (List ℕ)) (number : ℕ) → number < length texts → text_at (texts ++ more) number ≡ text_at texts number
text_at-still texts more number lt = get_or_append_left texts more [] number lt

pub texts_still : (texts more : List (List ℕ)) (numbers : List ℕ) → All (λ number. number < length texts) numbers → map (text_at (texts ++ more)) numbers ≡ map (text_at texts) numbers
texts_still texts more [] are = refl
texts_still texts more (number ∷ numbers) are =
    let head = text_at-still texts more number (All-head (λ n. n < length texts) number numbers are) in
    let tail = texts_still texts more numbers (All-tail (λ n. n < length texts) number numbers are) in
    ap (λ t. t ∷ map (text_at (texts ++ more)) numbers) head ∙ ap (λ l. text_at texts number ∷ l) tail

-- a text that was read
pub text_read : (items : List (Bor (List ℕ))) (number : ℕ) (text : Bor (List ℕ)) → number < length items → text ≡ get_or items number text → text.now ≡ text_at (names_seen items) number
text_read items number text lt is = ap (λ (b : Bor (List ℕ)). b.now) is ∙ sym (get_or-map (λ x. x.now) items number text [] lt)

-- names that are found by their texts have different texts
pub distinct : (found : List ℕ → Option ℕ) (texts : List (List ℕ)) → FindsEach found texts → AreDistinct texts
distinct found texts are = λ first second text one other.
    let e : Some first ≡ Some second = sym (are.all first text one) ∙ are.all second text other in
    cc

-- ---- a further name
module _ (old new : List ℕ → Option ℕ) (texts : List (List ℕ)) (name : List ℕ) (are : FindsEach old texts) (none : old name ≡ None) (number : ℕ) (is_number : number ≡ length texts)
    (noted : (other : List ℕ) → new other ≡ (if bytes_eq name other then Some number else old other)) where
  noted_same : (other : List ℕ) → name ≡ other → new other ≡ Some number
  noted_same other same = noted other ∙ ap (λ (b : Bool). if b then Some number else old other) (ap (bytes_eq name) (sym same) ∙ bytes_eq-same name)

  noted_other : (other : List ℕ) → name ≢ other → new other ≡ old other
  noted_other other differs = noted other ∙ ap (λ (b : Bool). if b then Some number else old other) (bytes_eq-other name other differs)

  text_here : slice_get (texts ++ name ∷ []) number ≡ Some name
  text_here = ap (slice_get (texts ++ name ∷ [])) is_number ∙ slice_get_last texts name

  pub numbered_more : FindsEach new (texts ++ name ∷ [])
  numbered_more = record {
    at = λ text found is.
        let decide : (b : Bool) → bytes_eq name text ≡ b → slice_get (texts ++ name ∷ []) found ≡ Some text = λ b. elim b as (λ k. bytes_eq name text ≡ k → slice_get (texts ++ name ∷ []) found ≡ Some text) [
          | true ↦ λ e.
              let same : name ≡ text = (bytes_eq-Decides name text).0 e in
              let numbers : Some number ≡ Some found = sym (noted_same text same) ∙ is in
              let one : number ≡ found = cc in
              subst (λ t. slice_get (texts ++ name ∷ []) found ≡ Some t) same (subst (λ n. slice_get (texts ++ name ∷ []) n ≡ Some name) one text_here)
          | false ↦ λ e.
              let was : old text ≡ Some found = sym (ap (λ (b : Bool). if b then Some number else old text) e) ∙ sym (noted text) ∙ is in
              slice_get_left texts (name ∷ []) found text (are.at text found was)
        ] in
        decide (bytes_eq name text) refl;
    all = λ found text there. elim (slice_get_pushed texts name found text there) [
      | inl before ↦ (
          let was : old text ≡ Some found = are.all found text before in
          let differs : name ≢ text = λ same. (let e : None ≡ Some found = sym none ∙ ap old same ∙ was in absurd (cc)) in
          noted_other text differs ∙ was)
      | inr (end, same) ↦ noted_same text (sym same) ∙ ap Some (is_number ∙ sym end)
    ];
  }

-- ---- a name that has a number
pub more_numbered : (before after : List (List ℕ)) (name : List ℕ) (number : ℕ) → IsNumbered before after name number → IsMore before after
more_numbered before after name number (inl (there, same)) = ([], same ∙ sym (append-nil before))
more_numbered before after name number (inr (last, more)) = (name ∷ [], more)

pub there_numbered : (before after : List (List ℕ)) (name : List ℕ) (number : ℕ) → IsNumbered before after name number → slice_get after number ≡ Some name
there_numbered before after name number (inl (there, same)) = ap (λ l. slice_get l number) same ∙ there
there_numbered before after name number (inr (last, more)) = ap (slice_get after) last ∙ ap (λ l. slice_get l (length before)) more ∙ slice_get_last before name
