-- What two lists declare for the codes of a table, stretch by stretch.
use Rattle.std.proofs.Common.{◌≡◌, ℕ, ◌+◌, ◌≤◌, ◌^◌, List, [], Option, Some, None, true≢false, inl, inr, refl, sym, ap, ◌∙◌, arith}
use Rattle.std.specs.Prelude.{◌↔◌, IsSome, option_and_then}
use Rattle.std.specs.Borrow.{Bor}
use Rattle.std.specs.Option.{option_copied}
use Rattle.std.proofs.lemmas.Bool.{cases_lt}
use Rattle.std.proofs.lemmas.List.Elements.{All-nil}
use Rattle.cmap_runs.specs.Ranges.{last_of}
use Rattle.cmap_runs.specs.Stretches.{IsStretch}
use Rattle.cmap_values.specs.declared.range.Range.{Range}
use Rattle.cmap_values.specs.Files.{CidEntry}
use Rattle.cmap_layers.specs.Layers.{Layer}
use Rattle.cmap_edit.specs.Tidy.{AreTidyCids, AreTidyNotdefs, notdef_said}
use Rattle.cmap_edit.specs.Chosen.{Chosen, codes_span}
use Rattle.cmap_unicode.specs.Given.{Given, cid_given, given, notdef_given}
use Rattle.cmap_edit.specs.Subsets.{cid_listed}
use Rattle.cmap_edit.specs.Parts.{AreDeclared, AreDeclaredBelow, IsAdded, parts, wanted}
use Rattle.cmap_edit.specs.declared.flatten.codes.Codes.{Codes}
use Rattle.cmap_edit.proofs.ListsAdded.{none_added}

-- an answer that is wanted just where a table has the code
pub wanted_of : {A : Type 0} (table : List Codes) (code : ℕ) (whole : Option A) (found : Option Codes) → last_of codes_span table code ≡ found → wanted table code whole ≡ option_and_then (λ one. whole) found
wanted_of table code whole found is = ap (option_and_then (λ one. whole)) is

pub wanted_some : {A : Type 0} (table : List Codes) (code : ℕ) (whole : Option A) (found : Option Codes) → IsSome found → last_of codes_span table code ≡ found → wanted table code whole ≡ whole
wanted_some table code whole None some is = absurd (true≢false (sym some))
wanted_some table code whole (Some one) some is = wanted_of table code whole (Some one) is

pub copied_some : {A : Type 0} (found : Option (Bor A)) → IsSome found → IsSome (option_copied found)
copied_some None some = some
copied_some (Some one) some = refl

pub only_wanted : {A : Type 0} (IsChosen : Type 0) (found : Option Codes) (whole answer : Option A) → (IsSome found ↔ IsChosen) → answer ≡ option_and_then (λ one. whole) found → (IsChosen → answer ≡ whole) × ((IsChosen → ⊥) → answer ≡ None)
only_wanted IsChosen None whole answer has is = (λ chosen. absurd (true≢false (sym (has.1 chosen))), λ other. is)
only_wanted IsChosen (Some one) whole answer has is = (λ chosen. is, λ other. absurd (other (has.0 refl)))

-- of what is declared, the CID or the notdef
only_part : (IsChosen : Type 0) (part : Option Given → Option ℕ) → part None ≡ None → (found : Option Codes) (whole : Option Given) (answer : Option ℕ) → (IsSome found ↔ IsChosen) → answer ≡ part (option_and_then (λ one. whole) found)
    → (IsChosen → answer ≡ part whole) × ((IsChosen → ⊥) → answer ≡ None)
only_part IsChosen part none None whole answer has is = (λ chosen. absurd (true≢false (sym (has.1 chosen))), λ other. is ∙ none)
only_part IsChosen part none (Some one) whole answer has is = (λ chosen. is, λ other. absurd (other (has.0 refl)))

module _ (layers : List Layer) (len : ℕ) (table : List Codes) (first last : ℕ) (cids notdefs : List CidEntry) (before : AreDeclaredBelow layers len table first cids notdefs) (le : first ≤ last) where
  -- the table has none of the codes
  pub passed_over : IsStretch codes_span table first last None → AreDeclaredBelow layers len table (last + 1) cids notdefs
  passed_over none = let range : Range = record { start = first; end = last } in let same = none_added cids notdefs range before.room le in record {
    room = same.room;
    codes = λ code lt.
        elim (cases_lt code first) [
          | inl old ↦ before.codes code old
          | inr new ↦ same.here code new lt ∙ ap parts (sym (wanted_of table code (given layers code len) None (none code new (omega arith))))
        ];
  }

  -- it has all of them, and they were added
  pub added : (found : Option Codes) (new_cids new_notdefs : List CidEntry) → IsSome found → IsStretch codes_span table first last found
      → IsAdded cids notdefs first (last + 1) (λ code. given layers code len) new_cids new_notdefs → AreDeclaredBelow layers len table (last + 1) new_cids new_notdefs
  added found new_cids new_notdefs some has now = record {
    room = now.room;
    codes = λ code lt.
        elim (cases_lt code first) [
          | inl old ↦ now.below code old ∙ before.codes code old
          | inr new ↦ now.here code new lt ∙ ap parts (sym (wanted_some table code (given layers code len) found some (has code new (omega arith))))
        ];
  }

-- before the first code nothing is declared
pub AreDeclaredBelow-none : (layers : List Layer) (len : ℕ) (table : List Codes) → AreTidyCids [] → AreTidyNotdefs [] → AreDeclaredBelow layers len table 0 [] []
AreDeclaredBelow-none layers len table tidy tidy_too = record {
  room = record { tidy_cids = tidy; tidy_notdefs = tidy_too; cids_end = All-nil _; notdefs_end = All-nil _ };
  codes = λ code lt. absurd (omega arith);
}

-- in the end they are those of the chosen codes
pub AreDeclared-all : (layers : List Layer) (chosen table : List Codes) (len : ℕ) (cids notdefs : List CidEntry) → ((code : ℕ) → IsSome (last_of codes_span table code) ↔ Chosen chosen code len)
    → AreDeclaredBelow layers len table (2 ^ 32) cids notdefs → AreDeclared layers chosen len cids notdefs
AreDeclared-all layers chosen table len cids notdefs has below = record {
  tidy = (below.room.tidy_cids, below.room.tidy_notdefs);
  cids = λ code lt. only_part (Chosen chosen code len) cid_given refl (last_of codes_span table code) (given layers code len) (cid_listed cids code) (has code) (ap (λ (both : Option ℕ × Option ℕ). both.0) (below.codes code lt));
  notdefs = λ code lt. only_part (Chosen chosen code len) notdef_given refl (last_of codes_span table code) (given layers code len) (notdef_said notdefs code) (has code) (ap (λ (both : Option ℕ × Option ℕ). both.1) (below.codes code lt));
}
