-- What an encoder has stands for texts by its maps, and nothing else does.
use Rattle.std.proofs.Common.{◌≡◌, ℕ, List, Option, None, Some, Result, Ok, Err, refl, sym, ap, ◌∙◌, subst, inl, inr, arith}
use Rattle.std.specs.Prelude.{IfOk, option_map}
use Rattle.std.specs.Global.{Vec}
use Rattle.std.specs.declared.alloc.AllocError.{AllocError}
use Rattle.cmap_values.specs.Outcomes.{Outcome}
use Rattle.cmap_values.specs.declared.fault.Fault.{Fault}
use Rattle.cmap_values.specs.declared.fault.Fault.TheVariants as fault
use Rattle.cmap_encode.specs.ChoicesSeen.{choices_of, grade_of, own_choice, owned}
use Rattle.cmap_encode.specs.EncoderSeen.{IsEncoderOf}
use Rattle.cmap_encode.specs.Encodings.{AreChoicesOf, ArePiecesBy, ArePiecesOf, IsEncodingBy, IsEncodingOf, IsLossyEncodingBy, IsLossyEncodingOf, IsStuckAt, IsStuckBy}
use Rattle.cmap_encode.specs.IndexSeen.{own_in}
use Rattle.cmap_encode.specs.Maps.{Maps}
use Rattle.cmap_encode.specs.Pieces.{Choice, Choices}
use Rattle.cmap_encode.specs.Ranks.{Candidate, IsNoLater, candidate_of, place_of}
use Rattle.cmap_encode.specs.Standing.{standing}
use Rattle.cmap_encode.specs.StandsFor.{IsOwn}
use Rattle.cmap_encode.specs.declared.encoder.Encoder.{Encoder}
use Rattle.cmap_encode.specs.declared.encoder.Unencodable.{Unencodable}
use Rattle.cmap_encode.specs.declared.pieces.Piece.{Piece}
use Rattle.cmap_encode.specs.declared.rank.Rank.{Rank}
use Rattle.cmap_encode.specs.declared.rank.Rank.TheVariants.{Stated, OwnForm, Canonical, Collection}
use Rattle.cmap_encode.specs.declared.rank.Ranked.{Ranked}
use Rattle.cmap_encode.proofs.LossyShown.{one_lossy_encoding_by}
use Rattle.cmap_encode.proofs.Order.{not_after_both}
use Rattle.cmap_encode.proofs.PiecesParted.{one_encoding_by}

pub choices_by : (maps : Maps) (encoder : Encoder) → IsEncoderOf maps encoder → AreChoicesOf maps (choices_of encoder.choices)
choices_by maps encoder is = record {
  own = owned encoder.choices.index;
  owns = λ text. record { found = own_in encoder.choices.index text; is_own = is.index text; is = refl };
  are = ap (standing (owned encoder.choices.index)) is.exact;
}

-- ---- the encodings of a font are those by what its encoder has
module _ (maps : Maps) (encoder : Encoder) (is : IsEncoderOf maps encoder) where
  pub encoding_by : (text : List ℕ) (made : Result (Vec ℕ) (Fault Unencodable)) → Outcome (λ string. IsEncodingBy (choices_of encoder.choices) text string.items) (λ refused. IsStuckBy (choices_of encoder.choices) text refused.offset) made
      → Outcome (λ string. IsEncodingOf maps text string.items) (λ refused. IsStuckAt maps text refused.offset) made
  encoding_by text (Ok string) by = (record { choices = choices_of encoder.choices; are = choices_by maps encoder is; encoding = by.0 }, tt)
  encoding_by text (Err (fault.Refused refused)) by = (tt, record { choices = choices_of encoder.choices; are = choices_by maps encoder is; stuck = by.1 })
  encoding_by text (Err fault.Memory) by = (tt, tt)

  pub pieces_by : (text : List ℕ) (made : Result (Vec Piece) (Fault Unencodable)) → Outcome (λ pieces. ArePiecesBy (choices_of encoder.choices) text pieces.items) (λ refused. IsStuckBy (choices_of encoder.choices) text refused.offset) made
      → Outcome (λ pieces. ArePiecesOf maps text pieces.items) (λ refused. IsStuckAt maps text refused.offset) made
  pieces_by text (Ok pieces) by = (record { choices = choices_of encoder.choices; are = choices_by maps encoder is; pieces_by = by.0 }, tt)
  pieces_by text (Err (fault.Refused refused)) by = (tt, record { choices = choices_of encoder.choices; are = choices_by maps encoder is; stuck = by.1 })
  pieces_by text (Err fault.Memory) by = (tt, tt)

  pub lossy_by : (missing text : List ℕ) (made : Result (Vec ℕ) AllocError) → IfOk made (λ string. IsLossyEncodingBy (choices_of encoder.choices) missing text string.items) → IfOk made (λ string. IsLossyEncodingOf maps missing text string.items)
  lossy_by missing text (Ok string) by = record { choices = choices_of encoder.choices; are = choices_by maps encoder is; encoding = by }
  lossy_by missing text (Err e) by = tt

-- ---- a font has one choice for each text
order_places : (rank other : Rank) → place_of rank ≡ place_of other → rank ≡ other
order_places Stated Stated same = refl
order_places Stated OwnForm same = absurd (omega (arith, same))
order_places Stated Canonical same = absurd (omega (arith, same))
order_places Stated Collection same = absurd (omega (arith, same))
order_places OwnForm Stated same = absurd (omega (arith, same))
order_places OwnForm OwnForm same = refl
order_places OwnForm Canonical same = absurd (omega (arith, same))
order_places OwnForm Collection same = absurd (omega (arith, same))
order_places Canonical Stated same = absurd (omega (arith, same))
order_places Canonical OwnForm same = absurd (omega (arith, same))
order_places Canonical Canonical same = refl
order_places Canonical Collection same = absurd (omega (arith, same))
order_places Collection Stated same = absurd (omega (arith, same))
order_places Collection OwnForm same = absurd (omega (arith, same))
order_places Collection Canonical same = absurd (omega (arith, same))
order_places Collection Collection same = refl

one_first : (one other : Candidate) → IsNoLater one other → IsNoLater other one → one ≡ other
one_first one other (inl less) (inl more) = absurd (omega (arith, less, more))
one_first one other (inl less) (inr (same, _)) = absurd (omega (arith, less, same))
one_first one other (inr (same, _)) (inl more) = absurd (omega (arith, more, same))
one_first one other (inr (same, before)) (inr (_, after)) =
    let bytes = not_after_both one.bytes other.bytes before after in
    let ranks = order_places one.rank other.rank same in
    λ i. record { bytes = bytes i; rank = ranks i }

abbrev choice_by : Candidate → Choice
choice_by candidate = record { bytes = candidate.bytes; grade = grade_of candidate.rank }

same_own : (maps : Maps) (text : List ℕ) (found other : Option Ranked) → IsOwn maps text found → IsOwn maps text other → option_map own_choice found ≡ option_map own_choice other
same_own maps text None None is also = refl
same_own maps text None (Some other) is also = absurd (is (candidate_of other) also.0)
same_own maps text (Some found) None is also = absurd (also (candidate_of found) is.0)
same_own maps text (Some found) (Some other) is also =
    ap (λ candidate. Some (choice_by candidate)) (one_first (candidate_of found) (candidate_of other) (is.1 (candidate_of other) also.0) (also.1 (candidate_of found) is.0))

one_choices_of : (maps : Maps) (choices other : Choices) → AreChoicesOf maps choices → AreChoicesOf maps other → choices ≡ other
one_choices_of maps choices other is also =
    let own : is.own ≡ also.own = λ i text. (let a = is.owns text in let b = also.owns text in a.is ∙ same_own maps text a.found b.found a.is_own b.is_own ∙ sym b.is) i in
    is.are ∙ ap (λ o. standing o maps.exact) own ∙ sym also.are

pub one_encoding : (maps : Maps) (text string other : List ℕ) → IsEncodingOf maps text string → IsEncodingOf maps text other → string ≡ other
one_encoding maps text string other is also =
    one_encoding_by is.choices text string other is.encoding (subst (λ choices. IsEncodingBy choices text other) (one_choices_of maps also.choices is.choices also.are is.are) also.encoding)

pub one_lossy_encoding : (maps : Maps) (missing text string other : List ℕ) → IsLossyEncodingOf maps missing text string → IsLossyEncodingOf maps missing text other → string ≡ other
one_lossy_encoding maps missing text string other is also =
    one_lossy_encoding_by is.choices missing text string is.encoding other (subst (λ choices. IsLossyEncodingBy choices missing text other) (one_choices_of maps also.choices is.choices also.are is.are) also.encoding)
