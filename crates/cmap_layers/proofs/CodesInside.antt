-- Codes in codespace ranges that a string begins with, by its bytes.
use Rattle.std.proofs.Common.{◌≡◌, ℕ, zero, suc, ◌+◌, ◌-◌, ◌^◌, ◌<◌, ◌≤◌, ◌⊎◌, List, [], ◌∷◌, length, map, take, Option, Some, None, refl, sym, ap, ◌∙◌, subst, inl, inr, slice_get, Any, arith}
use Rattle.std.specs.Prelude.{◌↔◌, IsSomeAnd, slice_index}
use Rattle.std.proofs.lemmas.Bool.{cases_lt}
use Rattle.std.proofs.lemmas.List.{length-take-le}
use Rattle.cmap_values.specs.BigEndian.{big_endian}
use Rattle.cmap_values.specs.DeclarationsSeen.{codespace_seen}
use Rattle.cmap_values.specs.Files.{Codespace}
use Rattle.cmap_codespaces.specs.CodesWithin.{Begins, HasFront, IsInsideRanges, IsLeast, IsWithin, byte_at, lesser}
use Rattle.cmap_codespaces.proofs.SpacesFound.{AreBytes, any_at, at_any, least_of_both, least_same, taken_bytes}
use Rattle.cmap_layers.specs.Layers as layers
use Rattle.cmap_layers.specs.LayersSeen.{layer_seen, layers_seen}
use Rattle.cmap_layers.specs.StringCodes.{BeginsInside, front}
use Rattle.cmap_layers.specs.declared.layer.Layer.{Layer}
use Rattle.cmap_layers.proofs.SpacesFound.{any_weaker}

-- ---- the bytes of the number that bytes write
number_byte : (bytes : List ℕ) (k : ℕ) → AreBytes bytes → length bytes ≤ 4 → k < length bytes → byte_at (big_endian bytes) k ≡ slice_index bytes (length bytes - suc k)
number_byte [] k fits few within = absurd (omega arith)
number_byte (a ∷ []) zero fits few within = omega (arith, fits 0)
number_byte (a ∷ []) (suc k) fits few within = absurd (omega arith)
number_byte (a ∷ b ∷ []) zero fits few within = omega (arith, fits 0, fits 1)
number_byte (a ∷ b ∷ []) (suc zero) fits few within = omega (arith, fits 0, fits 1)
number_byte (a ∷ b ∷ []) (suc (suc k)) fits few within = absurd (omega arith)
number_byte (a ∷ b ∷ c ∷ []) zero fits few within = omega (arith, fits 0, fits 1, fits 2)
number_byte (a ∷ b ∷ c ∷ []) (suc zero) fits few within = omega (arith, fits 0, fits 1, fits 2)
number_byte (a ∷ b ∷ c ∷ []) (suc (suc zero)) fits few within = omega (arith, fits 0, fits 1, fits 2)
number_byte (a ∷ b ∷ c ∷ []) (suc (suc (suc k))) fits few within = absurd (omega arith)
number_byte (a ∷ b ∷ c ∷ d ∷ []) zero fits few within = omega (arith, fits 0, fits 1, fits 2, fits 3)
number_byte (a ∷ b ∷ c ∷ d ∷ []) (suc zero) fits few within = omega (arith, fits 0, fits 1, fits 2, fits 3)
number_byte (a ∷ b ∷ c ∷ d ∷ []) (suc (suc zero)) fits few within = omega (arith, fits 0, fits 1, fits 2, fits 3)
number_byte (a ∷ b ∷ c ∷ d ∷ []) (suc (suc (suc zero))) fits few within = omega (arith, fits 0, fits 1, fits 2, fits 3)
number_byte (a ∷ b ∷ c ∷ d ∷ []) (suc (suc (suc (suc k)))) fits few within = absurd (omega arith)
number_byte (a ∷ b ∷ c ∷ d ∷ e ∷ more) k fits few within = absurd (omega arith)

number_fits : (bytes : List ℕ) → AreBytes bytes → length bytes ≤ 4 → big_endian bytes < 256 ^ length bytes
number_fits [] fits few = omega arith
number_fits (a ∷ []) fits few = omega (arith, fits 0)
number_fits (a ∷ b ∷ []) fits few = omega (arith, fits 0, fits 1)
number_fits (a ∷ b ∷ c ∷ []) fits few = omega (arith, fits 0, fits 1, fits 2)
number_fits (a ∷ b ∷ c ∷ d ∷ []) fits few = omega (arith, fits 0, fits 1, fits 2, fits 3)
number_fits (a ∷ b ∷ c ∷ d ∷ e ∷ more) fits few = absurd (omega arith)

-- a range contains the code of a front just where it has its bytes
within_front : (text : List ℕ) (n : ℕ) (space : Codespace) → AreBytes text → Begins text n → IsWithin space (front text n) n ↔ HasFront n (take n text) space
within_front text n space fits (some, few, within) =
    let bytes = take n text in
    let size = length-take-le n text within in
    let byte = λ (k : ℕ) (lt : k < n). number_byte bytes k (taken_bytes text n fits) (omega arith) (omega arith) in (
      λ is. (
        is.0,
        λ place lt.
            let k = n - suc place in
            let at : length bytes - suc k ≡ place = omega arith in
            let its : byte_at (front text n) k ≡ slice_index bytes place = byte k (omega arith) ∙ ap (slice_index bytes) at in
            let (least, most) = is.1 k (omega arith) in
            let there : space.len - suc place ≡ k = omega (arith, is.0) in
            (omega (arith, is.0), omega (arith, ap (byte_at space.low) there), omega (arith, ap (byte_at space.high) there)),
      ),
      λ has. (
        has.0,
        λ k lt.
            let place = length bytes - suc k in
            let its = byte k lt in
            let (below, least, most) = has.1 place (omega arith) in
            let there : space.len - suc place ≡ k = omega (arith, has.0) in
            (omega (arith, ap (byte_at space.low) there), omega (arith, ap (byte_at space.high) there)),
      ),
    )

-- ---- the layers
abbrev HaveFront : List ℕ → ℕ → layers.Layer → Type 0
HaveFront text n layer = Any (HasFront n (take n text)) layer.lists.spaces

-- a range of one of the first layers contains the code
abbrev pub IsInsideFirst : List ℕ → List Layer → ℕ → ℕ → Type 0
IsInsideFirst text layers count n = Begins text n × (k : ℕ) × (k < count) × IsSomeAnd (slice_get layers k) (λ layer. HaveFront text n (layer_seen layer))

more_layers : (text : List ℕ) (layers : List Layer) (count n : ℕ) → IsInsideFirst text layers count n → IsInsideFirst text layers (count + 1) n
more_layers text layers count n (begins, k, below, has) = (begins, k, omega arith, has)

this_layer : (text : List ℕ) (layers : List Layer) (count : ℕ) (layer : Layer) (n : ℕ) → slice_get layers count ≡ Some layer → IsInsideRanges text (map codespace_seen layer.spaces) n → IsInsideFirst text layers (count + 1) n
this_layer text layers count layer n is (begins, has) = (begins, count, omega arith, subst (λ o. IsSomeAnd o (λ l. HaveFront text n (layer_seen l))) (sym is) has)

either_layer : (text : List ℕ) (layers : List Layer) (count : ℕ) (layer : Layer) (n : ℕ) → slice_get layers count ≡ Some layer → IsInsideFirst text layers (count + 1) n → IsInsideFirst text layers count n ⊎ IsInsideRanges text (map codespace_seen layer.spaces) n
either_layer text layers count layer n is (begins, k, below, has) =
    elim (cases_lt k count) [
      | inl before ↦ inl (begins, k, before, has)
      | inr after ↦
          let same : k ≡ count = omega arith in
          inr (begins, subst (λ o. IsSomeAnd o (λ l. HaveFront text n (layer_seen l))) is (subst (λ j. IsSomeAnd (slice_get layers j) (λ l. HaveFront text n (layer_seen l))) same has))
    ]

pub least_layer : (text : List ℕ) (layers : List Layer) (count : ℕ) (layer : Layer) (before here : Option ℕ) → slice_get layers count ≡ Some layer → IsLeast (IsInsideFirst text layers count) before → IsLeast (IsInsideRanges text (map codespace_seen layer.spaces)) here
    → IsLeast (IsInsideFirst text layers (count + 1)) (lesser before here)
least_layer text layers count layer before here is old new =
    least_of_both (IsInsideFirst text layers count) (IsInsideRanges text (map codespace_seen layer.spaces)) (IsInsideFirst text layers (count + 1)) before here
    (more_layers text layers count) (λ n. this_layer text layers count layer n is) (λ n. either_layer text layers count layer n is) old new

-- a code whose bytes a range has
pub front_inside : (text : List ℕ) (all : List layers.Layer) (n : ℕ) → AreBytes text → Begins text n → Any (HaveFront text n) all → BeginsInside all text n
front_inside text all n fits begins ranges =
    let (some, few, within) = begins in
    let size = length-take-le n text within in
    let number = number_fits (take n text) (taken_bytes text n fits) (omega arith) in
    (within, (some, few, subst (λ m. front text n < 256 ^ m) size number, any_weaker (HasFront n (take n text)) (λ space. IsWithin space (front text n) n) all (λ space. (within_front text n space fits begins).1) ranges))

inside_first : (text : List ℕ) (layers : List Layer) (n : ℕ) → AreBytes text → IsInsideFirst text layers (length layers) n → BeginsInside (layers_seen layers) text n
inside_first text layers n fits (begins, k, below, has) = front_inside text (layers_seen layers) n fits begins (any_at layer_seen (HaveFront text n) layers k has)

first_inside : (text : List ℕ) (layers : List Layer) (n : ℕ) → AreBytes text → BeginsInside (layers_seen layers) text n → IsInsideFirst text layers (length layers) n
first_inside text layers n fits (within, (some, few, number, ranges)) =
    let begins : Begins text n = (some, few, within) in
    let (k, below, has) = at_any layer_seen (HaveFront text n) layers (any_weaker (λ space. IsWithin space (front text n) n) (HasFront n (take n text)) (layers_seen layers) (λ space. (within_front text n space fits begins).0) ranges) in
    (begins, k, below, has)

pub least_inside : (text : List ℕ) (layers : List Layer) (least : Option ℕ) → AreBytes text → IsLeast (IsInsideFirst text layers (length layers)) least → IsLeast (BeginsInside (layers_seen layers) text) least
least_inside text layers least fits is =
    least_same (IsInsideFirst text layers (length layers)) (BeginsInside (layers_seen layers) text) least (λ n. (inside_first text layers n fits, first_inside text layers n fits)) is

-- the ranges of one layer alone
none_before : (text : List ℕ) (layers : List Layer) → IsLeast (IsInsideFirst text layers 0) None
none_before text layers = λ n inside. let (begins, k, below, has) = inside in omega arith

pub least_only : (text : List ℕ) (layer : Layer) (least : Option ℕ) → AreBytes text → IsLeast (IsInsideRanges text (map codespace_seen layer.spaces)) least → IsLeast (BeginsInside (layers_seen (layer ∷ [])) text) least
least_only text layer least fits is = least_inside text (layer ∷ []) least fits (least_layer text (layer ∷ []) 0 layer None least refl (none_before text (layer ∷ [])) is)
