-- The codespace ranges that best match a string, and how many bytes are taken by them.
use Rattle.std.proofs.Common.{◌≡◌, ℕ, zero, suc, ◌+◌, ◌<◌, ◌≤◌, List, [], ◌∷◌, ◌++◌, length, map, take, Option, get_or-take, min, Some, None, refl, sym, ap, ◌∙◌, subst, inl, inr, All, Any, Contains, arith}
use Rattle.std.proofs.lemmas.Bool.{cases_lt}
use Rattle.std.proofs.lemmas.List.{length-take-le}
use Rattle.std.proofs.lemmas.List.Elements.{All-contains, All-contains_itself, All-weaker, Contains-append_cases, Contains-append_left, Contains-append_right}
use Rattle.cmap_values.specs.CodeLengths.{IsCodeLength}
use Rattle.cmap_values.specs.DeclarationsSeen.{codespace_seen}
use Rattle.cmap_values.specs.Files.{Codespace}
use Rattle.cmap_values.specs.declared.declarations.Codespace as declared
use Rattle.cmap_values.specs.Only.{HoldsOfNone}
use Rattle.cmap_codespaces.specs.CodesWithin.{HasFront, IsLeast}
use Rattle.cmap_codespaces.proofs.SpacesFound.{AreBytes}
use Rattle.cmap_layers.specs.Layers.{Layer}
use Rattle.cmap_layers.specs.LayersSeen.{layer_seen, layers_seen}
use Rattle.cmap_layers.specs.SpaceBits.{IsShortestMatch}
use Rattle.cmap_layers.specs.StringCodes.{BeginsInside, Matches, IsBestMatch, Wants, ranges_of}
use Rattle.cmap_layers.specs.declared.layer.Layer as made
use Rattle.cmap_layers.proofs.CodesInside.{front_inside}
pub use Rattle.cmap_codespaces.proofs.BytesWithin.{length_fits}
use Rattle.cmap_layers.proofs.SpacesFound.{any_of_one}

-- ---- the ranges of all layers
in_first : (P : Codespace → Type 0) (xs ys : List Codespace) → Any P xs → Any P (xs ++ ys)
in_first P xs ys (k, x, within, is, holds) = let (j, below, same) = Contains-append_left xs ys x (k, within, is) in (j, x, below, same, holds)

in_rest : (P : Codespace → Type 0) (xs ys : List Codespace) → Any P ys → Any P (xs ++ ys)
in_rest P xs ys (k, x, within, is, holds) = let (j, below, same) = Contains-append_right xs ys x (k, within, is) in (j, x, below, same, holds)

ranges_have : (P : Codespace → Type 0) (layers : List Layer) → Any (λ layer. Any P layer.lists.spaces) layers → Any P (ranges_of layers)
ranges_have P [] (k, layer, within, is, found) = absurd (omega arith)
ranges_have P (first ∷ rest) (zero, layer, within, is, found) = in_first P first.lists.spaces (ranges_of rest) (subst (λ l. Any P l.lists.spaces) (sym is) found)
ranges_have P (first ∷ rest) (suc k, layer, within, is, found) = in_rest P first.lists.spaces (ranges_of rest) (ranges_have P rest (k, layer, omega arith, is, found))

layers_have : (layers : List Layer) (space : Codespace) → Contains (ranges_of layers) space → Any (λ layer. Contains layer.lists.spaces space) layers
layers_have [] space (k, within, is) = absurd (omega arith)
layers_have (first ∷ rest) space found =
    elim (Contains-append_cases first.lists.spaces (ranges_of rest) space found) [
      | inl here ↦ (0, first, omega arith, refl, here)
      | inr later ↦ let (k, layer, within, is, has) = layers_have rest space later in (suc k, layer, omega arith, is, has)
    ]

-- ---- codes have one to four bytes
seen_length : (spaces : List declared.Codespace) (space : Codespace) → Contains (map codespace_seen spaces) space → IsCodeLength space.len
seen_length [] space (k, within, is) = absurd (omega arith)
seen_length (x ∷ xs) space (zero, within, is) = subst (λ s. IsCodeLength s.len) is (length_fits x.len)
seen_length (x ∷ xs) space (suc k, within, is) = seen_length xs space (k, omega arith, is)

code_length : (layers : List made.Layer) (space : Codespace) → Contains (ranges_of (layers_seen layers)) space → IsCodeLength space.len
code_length [] space (k, within, is) = absurd (omega arith)
code_length (first ∷ rest) space found =
    elim (Contains-append_cases (map codespace_seen first.spaces) (ranges_of (layers_seen rest)) space found) [ inl here ↦ seen_length first.spaces space here | inr later ↦ code_length rest space later ]

-- ---- ranges that match all bytes of a front
front_matches : (front : List ℕ) (len : ℕ) (space : Codespace) → HasFront len front space → Matches space front (length front)
front_matches front len space has =
    let few : length front ≤ space.len = elim (cases_lt space.len (length front)) [ inl long ↦ let at = has.1 space.len long in let below = at.0 in absurd (omega arith) | inr few ↦ few ] in
    (few, omega arith, λ k within. let at = has.1 k within in (at.1, at.2))

matches_front : (front : List ℕ) (space : Codespace) → Matches space front (length front) → HasFront space.len front space
matches_front front space matches = (refl, λ k within. let each = matches.2 k within in let few = matches.0 in (omega arith, each.0, each.1))

abbrev pub HaveFront : List Layer → List ℕ → ℕ → Type 0
HaveFront layers front len = Any (λ layer. Any (HasFront len front) layer.lists.spaces) layers

have_front : (layers : List Layer) (front : List ℕ) (space : Codespace) → Contains (ranges_of layers) space → Matches space front (length front) → HaveFront layers front space.len
have_front layers front space found matches =
    let (k, layer, within, is, (i, below, at)) = layers_have layers space found in
    (k, layer, within, is, (i, space, below, at, matches_front front space matches))

all_ranges : (P : Codespace → Type 0) (layers : List Layer) → ((space : Codespace) → Contains (ranges_of layers) space → P space) → All P (ranges_of layers)
all_ranges P layers each = All-weaker (Contains (ranges_of layers)) P each (ranges_of layers) (All-contains_itself (ranges_of layers))

-- no code is shorter than a front of it
pub too_short : (layers : List Layer) (front : List ℕ) (n : ℕ) → n < length front → HaveFront layers front n → ⊥
too_short layers front n short (k, layer, within, is, (i, space, below, at, has)) = let its = has.1 n short in let fits = its.0 in let same = has.0 in omega arith

pub shortest_found : (layers : List made.Layer) (front : List ℕ) (len : ℕ) → IsCodeLength len → ((n : ℕ) → 1 ≤ n → n < len → HaveFront (layers_seen layers) front n → ⊥) → HaveFront (layers_seen layers) front len
    → IsShortestMatch (ranges_of (layers_seen layers)) front (Some len)
shortest_found layers front len fits none found =
    let seen = layers_seen layers in
    let (k, space, within, is, has) = ranges_have (HasFront len front) seen found in (
      fits,
      (k, space, within, is, (front_matches front len space has, has.0)),
      all_ranges (λ s. Matches s front (length front) → len ≤ s.len) seen (λ s held matches.
          elim (cases_lt s.len len) [ inl short ↦ absurd (none s.len (code_length layers s held).0 short (have_front seen front s held matches)) | inr long ↦ long ]),
    )

pub none_found : (layers : List made.Layer) (front : List ℕ) → ((n : ℕ) → 1 ≤ n → n < 5 → HaveFront (layers_seen layers) front n → ⊥) → IsShortestMatch (ranges_of (layers_seen layers)) front None
none_found layers front none =
    all_ranges (λ s. Matches s front (length front) → ⊥) (layers_seen layers) (λ s held matches. let fits = code_length layers s held in let most = fits.1 in none s.len fits.0 (omega arith) (have_front (layers_seen layers) front s held matches))

-- of one layer alone
pub shortest_of_layer : (layer : made.Layer) (front : List ℕ) (least : Option ℕ) → IsLeast (λ n. IsCodeLength n × Any (HasFront n front) (map codespace_seen layer.spaces)) least → IsShortestMatch (ranges_of (layers_seen (layer ∷ []))) front least
shortest_of_layer layer front None none =
    none_found (layer ∷ []) front (λ n some below found. none n ((some, omega arith), any_of_one (λ l. Any (HasFront n front) l.lists.spaces) (layer_seen layer) found))
shortest_of_layer layer front (Some n) (is, least) =
    let fits = is.0 in
    let most = fits.1 in
    shortest_found (layer ∷ []) front n fits (λ m some below found. least m below ((some, omega arith), any_of_one (λ l. Any (HasFront m front) l.lists.spaces) (layer_seen layer) found)) (0, layer_seen layer, omega arith, refl, is.1)

-- ---- fronts of a string, the longest first
abbrev pub MatchAtMost : List Codespace → List ℕ → ℕ → ℕ → Type 0
MatchAtMost spaces text fewer most = All (λ space. (m : ℕ) → Matches space text m → m + fewer ≤ most) spaces

in_front : (text : List ℕ) (n : ℕ) (space : Codespace) → n ≤ length text → Matches space text n → Matches space (take n text) (length (take n text))
in_front text n space within matches =
    let size = length-take-le n text within in
    let few = matches.0 in
    (omega arith, omega arith, λ k lt. let below : k < n = omega arith in let each = matches.2 k below in let same = get_or-take n text k 0 below in (omega (arith, each.0), omega (arith, each.1)))

-- no range matches four bytes of a string that begins with no code in a range
pub all_at_most : (layers : List made.Layer) (text : List ℕ) (most : ℕ) → most ≡ min (length text) 3 → AreBytes text → HoldsOfNone (BeginsInside (layers_seen layers) text) → MatchAtMost (ranges_of (layers_seen layers)) text 0 most
all_at_most layers text most is bytes none = all_ranges (λ s. (m : ℕ) → Matches s text m → m + 0 ≤ most) (layers_seen layers) (λ s held m matches.
    let fits = code_length layers s held in let (some, four) = fits in let (short, within, _) = matches in
    elim (cases_lt m 4) [
      | inl few ↦ omega arith
      | inr whole ↦
          let same : m ≡ s.len = omega arith in
          let here = subst (λ n. Matches s text n) same matches in
          let front = have_front (layers_seen layers) (take s.len text) s held (in_front text s.len s (omega arith) here) in
          absurd (none s.len (front_inside text (layers_seen layers) s.len bytes (some, four, omega arith) front))
    ])

of_front : (text : List ℕ) (n : ℕ) (space : Codespace) → n ≤ length text → Matches space (take n text) (length (take n text)) → Matches space text n
of_front text n space within matches =
    let size = length-take-le n text within in
    let few = matches.0 in
    (omega arith, within, λ k below. let each = matches.2 k (omega arith) in let same = get_or-take n text k 0 below in (omega (arith, each.0), omega (arith, each.1)))

pub best_with_front : (spaces : List Codespace) (text : List ℕ) (fewer most n len : ℕ) → n + fewer ≡ most → n ≤ length text → MatchAtMost spaces text fewer most → IsShortestMatch spaces (take n text) (Some len) → IsBestMatch spaces text n len
best_with_front spaces text fewer most n len is within few (fits, (k, space, below, at, (matches, same)), shortest) = record {
  one = (k, space, below, at, (of_front text n space within matches, same));
  longest = All-weaker (λ s. (m : ℕ) → Matches s text m → m + fewer ≤ most) (λ s. (m : ℕ) → Matches s text m → m ≤ n) (λ s held m matched. let fit = held m matched in omega arith) spaces few;
  shortest = All-weaker (λ s. Matches s (take n text) (length (take n text)) → len ≤ s.len) (λ s. Matches s text n → len ≤ s.len) (λ s held matched. held (in_front text n s within matched)) spaces shortest;
}

pub fewer_match : (spaces : List Codespace) (text : List ℕ) (fewer most n : ℕ) → n + fewer ≡ most → n ≤ length text → MatchAtMost spaces text fewer most → IsShortestMatch spaces (take n text) None → MatchAtMost spaces text (fewer + 1) most
fewer_match spaces text fewer most n is within few none = λ k d below m matched.
    let fit = few k d below m matched in
    elim (cases_lt m n) [
      | inl short ↦ omega arith
      | inr long ↦ let same : m ≡ n = omega arith in absurd (none k d below (in_front text n _ within (subst (Matches _ text) same matched)))
    ]

pub no_ranges : (spaces : List Codespace) (text : List ℕ) (most : ℕ) → MatchAtMost spaces text (most + 1) most → spaces ≡ []
no_ranges [] text most few = refl
no_ranges (space ∷ rest) text most few = let fit = few 0 space (omega arith) 0 (omega arith, omega arith, λ k below. absurd (omega arith)) in absurd (omega arith)

-- ---- one number of bytes
matches_least : (spaces : List Codespace) (text : List ℕ) (n len m other : ℕ) → IsBestMatch spaces text n len → IsBestMatch spaces text m other → n ≤ m
matches_least spaces text n len m other is of_other =
    let (k, found, within, same, matches) = is.one in
    All-contains (λ o. (i : ℕ) → Matches o text i → i ≤ m) spaces found of_other.longest (k, within, same) n matches.0

shortest_least : (spaces : List Codespace) (text : List ℕ) (n len m other : ℕ) → IsBestMatch spaces text n len → IsBestMatch spaces text m other → len ≤ other
shortest_least spaces text n len m other is of_other =
    let more = matches_least spaces text n len m other is of_other in
    let less = matches_least spaces text m other n len of_other is in
    let same : m ≡ n = omega arith in
    let (k, found, within, at, matches) = of_other.one in
    let least : len ≤ found.len = All-contains (λ o. Matches o text n → len ≤ o.len) spaces found is.shortest (k, within, at) (subst (λ i. Matches found text i) same matches.0) in
    let its : found.len ≡ other = matches.1 in omega arith

none_is_best : (spaces : List Codespace) (text : List ℕ) (n len : ℕ) → spaces ≡ [] → IsBestMatch spaces text n len → ⊥
none_is_best spaces text n len none is =
    let empty : length spaces ≡ 0 = ap (λ (l : List Codespace). length l) none in
    let within = is.one.2 in omega arith

pub same_wanted : (spaces : List Codespace) (text : List ℕ) (a b : ℕ) → Wants spaces text a → Wants spaces text b → a ≡ b
same_wanted spaces text a b (inl (n, is)) (inl (m, other)) =
    let low = shortest_least spaces text n a m b is other in
    let high = shortest_least spaces text m b n a other is in
    omega arith
same_wanted spaces text a b (inl (n, is)) (inr (none, one)) = absurd (none_is_best spaces text n a none is)
same_wanted spaces text a b (inr (none, one)) (inl (m, other)) = absurd (none_is_best spaces text m b none other)
same_wanted spaces text a b (inr (none, one)) (inr (other_none, other_one)) = one ∙ sym other_one
