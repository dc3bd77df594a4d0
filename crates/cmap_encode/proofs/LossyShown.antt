-- A text encoded as far as it can be.
use Rattle.std.proofs.Common.{◌≡◌, ℕ, ◌+◌, ◌<◌, ◌≤◌, ◌⊎◌, List, [], ◌∷◌, ◌++◌, length, take, drop, refl, sym, ap, ◌∙◌, subst, inl, inr, arith, append_assoc, length-drop}
use Rattle.std.proofs.lemmas.Bool.{cases_order}
use Rattle.std.proofs.lemmas.List.{drop-drop, take_all}
use Rattle.cmap_encode.specs.Encodings.{IsEncodingBy, IsLongestEncodable, IsLossyEncodingBy, stuck, whole}
use Rattle.cmap_encode.specs.Pieces.{Choices, IsEncodable}
use Rattle.cmap_encode.specs.Prefixes.{IsLongestAdded}
use Rattle.cmap_encode.proofs.PiecesParted.{encoding_encodable, one_encoding_by}

module _ (choices : Choices) (missing text : List ℕ) where
  -- the string and an encoding of what is left are one of the text
  abbrev pub IsBegun : List ℕ → List ℕ → Type 0
  IsBegun string left = (rest : List ℕ) → IsLossyEncodingBy choices missing left rest → IsLossyEncodingBy choices missing text (string ++ rest)

  -- it is one of the text where nothing is left, and else the first character that is left is missing
  abbrev pub IsUpTo : List ℕ → List ℕ → Type 0
  IsUpTo string [] = IsLossyEncodingBy choices missing text string
  IsUpTo string (character ∷ after) = IsBegun (string ++ missing) after

  pub begun : IsBegun [] text
  begun rest is = is

  up_to : (string before new left : List ℕ) → IsBegun string before → IsLongestAdded choices before left string new → (is : List ℕ) → left ≡ is → IsUpTo new is
  up_to string before new left begun is [] empty =
      let within = is.longest.within in
      let all : length before ≤ is.count = omega (arith, length-drop is.count before, ap (λ (l : List ℕ). length l) (sym is.rest ∙ empty)) in
      let encoding : IsEncodingBy choices before is.prefix = subst (λ t. IsEncodingBy choices t is.prefix) (take_all is.count before all) is.encoding in
      subst (IsLossyEncodingBy choices missing text) (sym is.added) (begun is.prefix (whole before is.prefix encoding))
  up_to string before new left begun is (character ∷ after) some =
      let same : drop is.count before ≡ character ∷ after = sym is.rest ∙ some in
      let fewer : is.count < length before = omega (arith, length-drop is.count before, ap (λ (l : List ℕ). length l) same) in
      let behind : after ≡ drop (is.count + 1) before = sym (sym (drop-drop 1 is.count before) ∙ ap (drop 1) same) in
      λ rest its.
      let prefix = is.prefix in
      let together : string ++ (prefix ++ (missing ++ rest)) ≡ (new ++ missing) ++ rest =
      sym (append_assoc string prefix (missing ++ rest)) ∙ ap (λ l. l ++ (missing ++ rest)) (sym is.added) ∙ sym (append_assoc new missing rest) in
      subst (IsLossyEncodingBy choices missing text) together
      (begun (prefix ++ (missing ++ rest)) (stuck before prefix rest is.count is.longest fewer is.encoding (subst (λ t. IsLossyEncodingBy choices missing t rest) behind its)))

  pub up_to_left : (string before new left : List ℕ) → IsBegun string before → IsLongestAdded choices before left string new → IsUpTo new left
  up_to_left string before new left begun is = up_to string before new left begun is left refl

-- ---- a text has one encoding as far as it can be encoded
module _ (choices : Choices) (missing : List ℕ) where
  record IsStuck (text string : List ℕ) : Type 0 where
    pub prefix : List ℕ
    pub rest : List ℕ
    pub count : ℕ
    pub longest : IsLongestEncodable choices text count
    pub fewer : count < length text
    pub encoding : IsEncodingBy choices (take count text) prefix
    pub after : IsLossyEncodingBy choices missing (drop (count + 1) text) rest
    pub is : string ≡ prefix ++ (missing ++ rest)

  whole_or_stuck : (text string : List ℕ) → IsLossyEncodingBy choices missing text string → IsEncodingBy choices text string ⊎ IsStuck text string
  whole_or_stuck _ _ (whole text string is) = inl is
  whole_or_stuck _ _ (stuck text prefix rest count longest fewer encoding after) = inr (record { prefix = prefix; rest = rest; count = count; longest = longest; fewer = fewer; encoding = encoding; after = after; is = refl })

  not_both : (text string : List ℕ) (count : ℕ) → IsEncodingBy choices text string → IsLongestEncodable choices text count → count < length text → ⊥
  not_both text string count is longest fewer = longest.longest (length text) fewer (omega arith) (subst (IsEncodable choices) (sym (take_all (length text) text (omega arith))) (encoding_encodable choices text string is))

  same_count : (text : List ℕ) (count other : ℕ) → IsLongestEncodable choices text count → IsLongestEncodable choices text other → count ≡ other
  same_count text count other is also =
      elim (cases_order count other) [
        | inl equal ↦ equal
        | inr (inl less) ↦ absurd (is.longest other less also.within also.encodable)
        | inr (inr more) ↦ absurd (also.longest count more is.within is.encodable)
      ]

  pub one_lossy_encoding_by : (text string : List ℕ) → IsLossyEncodingBy choices missing text string → (other : List ℕ) → IsLossyEncodingBy choices missing text other → string ≡ other
  one_lossy_encoding_by _ _ (whole text string is) = λ other also.
      elim (whole_or_stuck text other also) [
        | inl its ↦ one_encoding_by choices text string other is its
        | inr its ↦ absurd (not_both text string its.count is its.longest its.fewer)
      ]
  one_lossy_encoding_by _ _ (stuck text prefix rest count longest fewer encoding after) = λ other also.
      elim (whole_or_stuck text other also) [
        | inl its ↦ absurd (not_both text other count its longest fewer)
        | inr its ↦
            let counts = sym (same_count text count its.count longest its.longest) in
            let prefixes = one_encoding_by choices (take count text) prefix its.prefix encoding (subst (λ n. IsEncodingBy choices (take n text) its.prefix) counts its.encoding) in
            let rests = one_lossy_encoding_by (drop (count + 1) text) rest after its.rest (subst (λ n. IsLossyEncodingBy choices missing (drop (n + 1) text) its.rest) counts its.after) in
            (λ i. prefixes i ++ (missing ++ rests i)) ∙ sym its.is
      ]
