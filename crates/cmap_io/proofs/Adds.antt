-- What calls add, one after another.
use Rattle.std.proofs.Common.{◌≡◌, ℕ, ◌+◌, ◌<◌, ◌≤◌, List, [], ◌∷◌, ◌++◌, All, sym, ap, ◌∙◌, append-nil, append_assoc, length, take, get_or, if◌then◌else◌, subst, arith, Bool, true, false, inl, inr}
use Rattle.std.specs.Prelude.{encode_utf8, map}
use Rattle.std.specs.List.{flat_map}
use Rattle.std.proofs.lemmas.Str.{encode_ascii}
use Rattle.std.proofs.lemmas.List.{flat_map_more, map-id, take_more}
use Rattle.std.proofs.lemmas.List.Elements.{All-nil, All-cons, All-append}
use Rattle.cmap_io.specs.Escapes.{IsPrintable, AddsPrintable, AddsLine, AddsOfLine}

-- nothing is added
pub adds_nothing : (old new : List ℕ) → new ≡ old → AddsPrintable old new
adds_nothing old new is = ([], is ∙ sym (append-nil old), All-nil IsPrintable)

-- what is added after what was added
pub adds_both : (old middle new : List ℕ) → AddsPrintable old middle → AddsPrintable middle new → AddsPrintable old new
adds_both old middle new first second = (
  first.0 ++ second.0,
  second.1 ∙ ap (λ front. front ++ second.0) first.1 ∙ append_assoc old first.0 second.0,
  All-append IsPrintable first.0 second.0 first.2 second.2,
)

-- some bytes are added where there is room for them, and nothing where not
pub adds_bytes : (done : Bool) (old new bytes : List ℕ) → new ≡ (if done then old ++ bytes else old) → All IsPrintable bytes → AddsPrintable old new
adds_bytes true old new bytes is all = (bytes, is, all)
adds_bytes false old new bytes is all = adds_nothing old new is

-- the piece of one more element
pub one_more : (piece : ℕ → List ℕ) (old now new front : List ℕ) (element : ℕ) → now ≡ old ++ flat_map piece front → new ≡ now ++ piece element → new ≡ old ++ flat_map piece (front ++ element ∷ [])
one_more piece old now new front element now_is new_is = new_is ∙ ap (λ bytes. bytes ++ piece element) now_is ∙ flat_map_more piece old front element

-- the same at the next index of a list
pub one_more_at : (piece : ℕ → List ℕ) (old now new elements : List ℕ) (i : ℕ) → i < length elements → now ≡ old ++ flat_map piece (take i elements) → new ≡ now ++ piece (get_or elements i 0)
    → new ≡ old ++ flat_map piece (take (i + 1) elements)
one_more_at piece old now new elements i below now_is new_is =
    one_more piece old now new (take i elements) (get_or elements i 0) now_is new_is ∙ ap (λ front. old ++ flat_map piece front) (sym (take_more elements i 0 below))

-- the pieces of all elements, where none is left
pub every_piece : (piece : ℕ → List ℕ) (old now front all : List ℕ) → map (λ element. element) front ≡ all → now ≡ old ++ flat_map piece front → now ≡ old ++ flat_map piece all
every_piece piece old now front all is now_is = now_is ∙ ap (λ elements. old ++ flat_map piece elements) (sym (map-id front) ∙ is)

-- a line and its end
pub adds_line : (old middle new : List ℕ) → AddsPrintable old middle → new ≡ middle ++ 0x0A ∷ [] → AddsLine old new
adds_line old middle new line is = (line.0, is ∙ ap (λ front. front ++ 0x0A ∷ []) line.1 ∙ append_assoc old line.0 (0x0A ∷ []), line.2)

-- one character
pub adds_character : (done : Bool) (old new : List ℕ) (character : ℕ) → new ≡ (if done then old ++ encode_utf8 character else old) → 0x20 ≤ character → character ≤ 0x7E → AddsPrintable old new
adds_character done old new character is low high =
    let ascii : character < 128 = omega arith in
    adds_bytes done old new (encode_utf8 character) is
    (subst (All IsPrintable) (sym (encode_ascii character ascii)) (All-cons IsPrintable character [] (low, high) (All-nil IsPrintable)))

-- the end of a line where there is room for it
pub adds_end : (done : Bool) (old middle new : List ℕ) → AddsPrintable old middle → new ≡ (if done then middle ++ encode_utf8 0x0A else middle) → AddsOfLine old new
adds_end true old middle new line is = inr (adds_line old middle new line (is ∙ ap (λ mark. middle ++ mark) (encode_ascii 0x0A (omega arith))))
adds_end false old middle new line is = inl (line.0, is ∙ line.1, line.2)
