-- A file that is prepared has no obstacle.
use Rattle.std.proofs.Common.{ℕ, inl, inr, List, None, Option, Some, ◌∙◌, subst, arith}
use Rattle.std.specs.Prelude.{IfSome, IsSomeAnd}
use Rattle.std.specs.List.{All, Any, Contains}
use Rattle.cmap_values.specs.Files.{ByLength, CidEntry, Codespace, File}
use Rattle.cmap_values.specs.Metadata.{Collection}
use Rattle.cmap_binary_writer.specs.Arranged.{IsArranged}
use Rattle.cmap_binary_writer.specs.Fields.{CodeFits, CollectionFits, FieldsFit, IsUnterminated, NameFits, NotdefFits, NotdefsFit, SpaceFits}
use Rattle.cmap_binary_writer.specs.Obstacles.{HasWideSupplement, HoldsZero, InSomeList, IsLargeEnd, IsLargeNotdef, IsLongCollection, IsLongName, IsMisnamed, IsSayable}
use Rattle.cmap_binary_writer.specs.declared.obstacle.Obstacle.TheVariants.{CustomFamily, LargeCid, LargeCode, NoPlace, NoWord, Supplement, Text, TooLong, ZeroByte}
use Rattle.cmap_binary_writer.specs.declared.prepared.Prepared.{Prepared}
use Rattle.cmap_binary_writer.proofs.NoneLarge.{in_no_list, no_large_cid, no_text}

-- ---- what one thing excludes of each
none_of : {X : Type 0} (P Q : X → Type 0) → ((x : X) → P x → Q x → ⊥) → (xs : List X) → All P xs → Any Q xs → ⊥
none_of P Q clash xs all (k, x, within, is, q) = clash x (subst P is (all k x within)) q

not_of : {X : Type 0} (P Q : X → Type 0) → ((x : X) → P x → Q x → ⊥) → (o : Option X) → IfSome o P → IsSomeAnd o Q → ⊥
not_of P Q clash None h q = absurd q
not_of P Q clash (Some x) h q = clash x h q

-- ---- codes
not_end : (code len low high : ℕ) → CodeFits len low → CodeFits len high → IsLargeEnd code len low high → ⊥
not_end code len low high first second (inl is, past) = omega (arith, is, past, first.small)
not_end code len low high first second (inr is, past) = omega (arith, is, past, second.small)

module _ (lists : ByLength) (fit : NotdefsFit lists) (P : ℕ → CidEntry → Type 0) (clash : (len : ℕ) (e : CidEntry) → NotdefFits len e → P len e → ⊥) where
  no_notdef : InSomeList lists (λ len es. Any (P len) es) → ⊥
  no_notdef =
      in_no_list lists (λ len es. Any (P len) es)
      (none_of (NotdefFits 1) (P 1) (clash 1) lists.one fit.one)
      (none_of (NotdefFits 2) (P 2) (clash 2) lists.two fit.two)
      (none_of (NotdefFits 3) (P 3) (clash 3) lists.three fit.three)
      (none_of (NotdefFits 4) (P 4) (clash 4) lists.four fit.four)
      (λ len h. let (k, e, within, is, p) = h in omega (arith, within))

-- ---- metadata
no_zero_in : (text : List ℕ) → IsUnterminated text → Contains text 0 → ⊥
no_zero_in text all (k, within, is) = all k 0 within is

no_zero_byte : (collection : Collection) → CollectionFits collection → HoldsZero collection → ⊥
no_zero_byte collection fits (inl zero) = no_zero_in _ fits.0.registry zero
no_zero_byte collection fits (inr zero) = no_zero_in _ fits.0.ordering zero

-- ---- the file
pub sayable : (file : File) (prepared : Prepared) → FieldsFit file → IsArranged file prepared → IsSayable file
sayable file prepared fit is (LargeCid range) (inl given) = no_large_cid file prepared is range given
sayable file prepared fit is (LargeCid range) (inr notdef) = no_notdef file.lists.notdefs fit.notdefs (λ len e. IsLargeNotdef range e) (λ len e fits large. omega (arith, fits.2, large.2)) notdef
sayable file prepared fit is (LargeCode code) (inl space) = none_of SpaceFits (λ (s : Codespace). IsLargeEnd code s.len s.low s.high) (λ s fits large. not_end code s.len s.low s.high fits.0 fits.1 large) file.lists.spaces fit.spaces space
sayable file prepared fit is (LargeCode code) (inr notdef) = no_notdef file.lists.notdefs fit.notdefs (λ len e. IsLargeEnd code len e.start e.end) (λ len e fits large. not_end code len e.start e.end fits.0 fits.1 large) notdef
sayable file prepared fit is ZeroByte h = not_of CollectionFits HoldsZero no_zero_byte file.metadata.collection fit.metadata.collection h
sayable file prepared fit is CustomFamily h = not_of CollectionFits IsMisnamed (λ collection fits other. other fits.0.named) file.metadata.collection fit.metadata.collection h
sayable file prepared fit is (Supplement n) h = not_of CollectionFits (HasWideSupplement n) (λ collection fits wide. wide.1 fits.0.number fits.0.narrow (fits.0.supplement ∙ wide.0)) file.metadata.collection fit.metadata.collection h
sayable file prepared fit is (Text range) h = no_text file prepared is range h
sayable file prepared fit is TooLong (inl (inl long)) = not_of CollectionFits IsLongCollection (λ collection fits long. omega (arith, fits.1, long)) file.metadata.collection fit.metadata.collection long
sayable file prepared fit is TooLong (inl (inr long)) = not_of NameFits IsLongName (λ name fits long. omega (arith, fits, long)) file.metadata.name fit.metadata.name long
sayable file prepared fit is TooLong (inr long) = none_of NameFits IsLongName (λ name fits long. omega (arith, fits, long)) file.uses fit.uses long
sayable file prepared fit is NoWord h = h
sayable file prepared fit is NoPlace h = h
