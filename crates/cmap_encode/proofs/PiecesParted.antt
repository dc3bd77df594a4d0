-- Texts and the pieces into which they fall.
use Rattle.std.proofs.Common.{◌≡◌, ℕ, ◌<◌, ◌⊎◌, List, [], ◌∷◌, ◌++◌, length, take, drop, Some, refl, sym, ap, ◌∙◌, subst, inl, inr, arith, append_assoc, append-nil, length-append}
use Rattle.std.specs.Prelude.{IsSome, flat_map}
use Rattle.std.proofs.lemmas.Bool.{cases_lt, cases_order}
use Rattle.std.proofs.lemmas.List.{drop_at, length-take-le, nil_from_length, take-append-drop, take_at}
use Rattle.std.proofs.lemmas.Option.{same_Some}
use Rattle.cmap_encode.specs.Encodings.{IsEncodingBy}
use Rattle.cmap_encode.specs.Pieces.{AreChoices, BeginsWith, Choice, Choices, IsEncodable, IsSooner, MayBegin, letter_of, next, nothing}

-- ---- the order in which lengths are tried
pub sooner_or : (letter len other : ℕ) → (len ≡ other → ⊥) → IsSooner letter len other ⊎ IsSooner letter other len
sooner_or letter len other apart =
    elim (cases_order len other) [
      | inl same ↦ absurd (apart same)
      | inr (inl less) ↦ elim (cases_lt letter other) [
        | inl beyond ↦ elim (cases_lt letter len) [
          | inl both ↦ inr (inr (beyond, both, less))
          | inr within ↦ inl (inl (within, inl beyond))
        ]
        | inr within ↦ inr (inl (within, inr less))
      ]
      | inr (inr more) ↦ elim (cases_lt letter len) [
        | inl beyond ↦ elim (cases_lt letter other) [
          | inl both ↦ inl (inr (beyond, both, more))
          | inr within ↦ inr (inl (within, inl beyond))
        ]
        | inr within ↦ inl (inl (within, inr more))
      ]
    ]

module _ (choices : Choices) where
  -- ---- the first piece
  pub begins_somehow : (text : List ℕ) → IsEncodable choices text → 0 < length text → (len : ℕ) × MayBegin choices text len
  begins_somehow _ nothing some = absurd (omega arith)
  begins_somehow _ (next piece after is_some chosen rest) some = (
    length piece,
    record {
      some = omega (arith, is_some);
      within = omega (arith, length-append piece after);
      chosen = subst (λ t. IsSome (choices t)) (sym (take_at piece after (length piece) refl)) chosen;
      rest = subst (IsEncodable choices) (sym (drop_at piece after (length piece) refl)) rest;
    },
  )

  pub may_encodable : (text : List ℕ) (len : ℕ) → MayBegin choices text len → IsEncodable choices text
  may_encodable text len may =
      subst (IsEncodable choices) (take-append-drop len text) (next (take len text) (drop len text) (omega (arith, may.some, length-take-le len text may.within)) may.chosen may.rest)

  pub one_beginning : (text : List ℕ) (len other : ℕ) → BeginsWith choices text len → BeginsWith choices text other → len ≡ other
  one_beginning text len other is also =
      elim (cases_order len other) [
        | inl same ↦ same
        | inr (inl less) ↦ apart (λ same. omega (arith, same, less))
        | inr (inr more) ↦ apart (λ same. omega (arith, same, more))
      ]
    where
      apart : (len ≡ other → ⊥) → len ≡ other
      apart not = elim (sooner_or (letter_of text) len other not) [
        | inl sooner ↦ absurd (also.first len sooner is.may)
        | inr later ↦ absurd (is.first other later also.may)
      ]

  -- ---- all pieces
  pub encoded_encodable : (text : List ℕ) (pieces : List Choice) → AreChoices choices text pieces → IsEncodable choices text
  encoded_encodable _ _ nothing = nothing
  encoded_encodable _ _ (next text len first rest begins chosen after) = may_encodable text len begins.may

  record IsFirst (text : List ℕ) (pieces : List Choice) : Type 0 where
    pub len : ℕ
    pub first : Choice
    pub rest : List Choice
    pub begins : BeginsWith choices text len
    pub chosen : choices (take len text) ≡ Some first
    pub after : AreChoices choices (drop len text) rest
    pub is : pieces ≡ first ∷ rest

  first_or_none : (text : List ℕ) (pieces : List Choice) → AreChoices choices text pieces → ((text ≡ []) × (pieces ≡ [])) ⊎ IsFirst text pieces
  first_or_none _ _ nothing = inl (refl, refl)
  first_or_none _ _ (next text len first rest begins chosen after) = inr (record { len = len; first = first; rest = rest; begins = begins; chosen = chosen; after = after; is = refl })

  one_choices : (text : List ℕ) (pieces : List Choice) → AreChoices choices text pieces → (other : List Choice) → AreChoices choices text other → pieces ≡ other
  one_choices _ _ nothing = λ other also.
      elim (first_or_none [] other also) [
        | inl (empty, none) ↦ sym none
        | inr its ↦ absurd (let some = its.begins.may.some in let within = its.begins.may.within in omega (arith, some, within))
      ]
  one_choices _ _ (next text len first rest begins chosen after) = λ other also.
      elim (first_or_none text other also) [
        | inl (empty, none) ↦ absurd (let some = begins.may.some in let within = begins.may.within in omega (arith, some, within, ap (λ (l : List ℕ). length l) empty))
        | inr its ↦
            let lens : its.len ≡ len = one_beginning text its.len len its.begins begins in
            let firsts : first ≡ its.first = same_Some first its.first (sym chosen ∙ subst (λ n. choices (take n text) ≡ Some its.first) lens its.chosen) in
            let rests : rest ≡ its.rest = one_choices (drop len text) rest after its.rest (subst (λ n. AreChoices choices (drop n text) its.rest) lens its.after) in
            (λ i. firsts i ∷ rests i) ∙ sym its.is
      ]

  -- a text has one encoding
  pub one_encoding_by : (text string other : List ℕ) → IsEncodingBy choices text string → IsEncodingBy choices text other → string ≡ other
  one_encoding_by text string other is also = is.is ∙ ap (flat_map (λ (piece : Choice). piece.bytes)) (one_choices text is.pieces is.are also.pieces also.are) ∙ sym also.is

  pub encoding_encodable : (text string : List ℕ) → IsEncodingBy choices text string → IsEncodable choices text
  encoding_encodable text string is = encoded_encodable text is.pieces is.are

  -- ---- the last piece
  -- one piece more at the end
  pub encodable_more : (before piece : List ℕ) → IsEncodable choices before → 0 < length piece → IsSome (choices piece) → IsEncodable choices (before ++ piece)
  encodable_more _ piece nothing some chosen = subst (IsEncodable choices) (append-nil piece) (next piece [] some chosen nothing)
  encodable_more _ piece (next first after is_some its rest) some chosen =
      subst (IsEncodable choices) (sym (append_assoc first after piece)) (next first (after ++ piece) is_some its (encodable_more after piece rest some chosen))

  pub record EndsBy (text : List ℕ) : Type 0 where
    pub before : List ℕ
    pub piece : List ℕ
    pub is : text ≡ before ++ piece
    pub some : 0 < length piece
    pub encodable : IsEncodable choices before
    pub chosen : IsSome (choices piece)

  pub last_piece : (text : List ℕ) → IsEncodable choices text → 0 < length text → EndsBy text
  last_piece _ nothing some = absurd (omega arith)
  last_piece _ (next piece after is_some chosen rest) some =
      elim (cases_lt 0 (length after)) [
        | inl more ↦
            let last = last_piece after rest more in
            record {
              before = piece ++ last.before;
              piece = last.piece;
              is = ap (λ t. piece ++ t) last.is ∙ sym (append_assoc piece last.before last.piece);
              some = last.some;
              encodable = next piece last.before is_some chosen last.encodable;
              chosen = last.chosen;
            }
        | inr none ↦
            let empty : after ≡ [] = nil_from_length after (omega arith) in
            record {
              before = [];
              piece = piece;
              is = ap (λ t. piece ++ t) empty ∙ append-nil piece;
              some = is_some;
              encodable = nothing;
              chosen = chosen;
            }
      ]
