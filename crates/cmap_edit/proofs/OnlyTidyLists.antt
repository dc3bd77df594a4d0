-- There is one tidy list that says what a list says, and it is the shortest.
use Rattle.std.proofs.Common.{◌≡◌, ℕ, ◌+◌, ◌-◌, ◌<◌, ◌≤◌, ◌^◌, List, Some, None, length, set, refl, sym, ap, ◌∙◌, inl, inr, arith}
use Rattle.std.specs.Prelude.{All, AllPairs, nat_lt}
use Rattle.std.proofs.lemmas.Bool.Decides.{nat_tests}
use Rattle.std.proofs.lemmas.Bool.{cond-true}
use Rattle.std.proofs.lemmas.List.Elements.{All-weaker}
use Rattle.std.proofs.lemmas.Option.{same_Some}
use Rattle.cmap_tokens.specs.Texts.{shifted}
use Rattle.cmap_values.specs.Files.{BfEntry, CidEntry}
use Rattle.cmap_layers.specs.Lookups.{bf_span, cid_at, cid_span}
use Rattle.cmap_edit.specs.Tidied.{AreTidiedCids, AreTidiedNotdefs, AreTidiedTexts, SaysTheSame}
use Rattle.cmap_edit.specs.Tidy.{AreTidyCids, AreTidyNotdefs, AreTidyTexts, CouldBeOneCid, CouldBeOneNotdef, CouldBeOneText, IsCidRow, IsNotdefRow, IsTextRow, cid_said, last_unit, notdef_at, notdef_said, units_at, units_said}
use Rattle.cmap_edit.proofs.OnlyTidy.{AreKnown, fewest, found, only_one}
use Rattle.cmap_edit.proofs.TextUnits.{shifted_is, shifted_set, shifted_twice, shifted_zero}

-- ---- CIDs
cid_given : (e : CidEntry) (code : ℕ) → IsCidRow e → e.start ≤ code → code ≤ e.end → cid_at e code ≡ Some (e.cid + (code - e.start))
cid_given e code row from to = cond-true (nat_lt (e.cid + (code - e.start)) (2 ^ 32)) _ _ (let small : e.cid + (code - e.start) < 2 ^ 32 = omega arith in grind (arith, nat_tests))

same_cid : (e other : CidEntry) (code : ℕ) → IsCidRow e → IsCidRow other → e.start ≤ code → code ≤ e.end → other.start ≤ code → code ≤ other.end → cid_at e code ≡ cid_at other code → e.cid + (code - e.start) ≡ other.cid + (code - other.start)
same_cid e other code row row_too from to from_too to_too same = same_Some _ _ (sym (cid_given e code row from to) ∙ same ∙ cid_given other code row_too from_too to_too)

cids_known : AreKnown cid_span cid_at IsCidRow CouldBeOneCid
cids_known = record {
  filled = λ e row. row.0.0;
  grows = λ x z later row row_too row_later after within here meets to there.
      let first = same_cid x z z.start row row_too after within (omega arith) row_too.0.0 here in
      let next = same_cid later z later.start row_later row_too (omega arith) row_later.0.0 (omega arith) to there in
      ((meets, omega arith), omega arith);
  same = λ x y row row_too starts ends here.
      let cid = same_cid x y x.start row row_too (omega arith) row.0.0 (omega arith) (omega arith) here in
      let cids : x.cid ≡ y.cid = omega arith in
      λ i. record { start = starts i; end = ends i; cid = cids i };
}

-- ---- notdefs
notdefs_known : AreKnown cid_span notdef_at IsNotdefRow CouldBeOneNotdef
notdefs_known = record {
  filled = λ e row. row.0;
  grows = λ x z later row row_too row_later after within here meets to there. ((meets, omega arith), there ∙ sym here);
  same = λ x y row row_too starts ends here. λ i. record { start = starts i; end = ends i; cid = here i };
}

-- ---- texts
same_units : (e : BfEntry) → IsTextRow e → units_at e e.start ≡ Some e.units
same_units e row = ap (shifted e.units) (let none : e.start - e.start ≡ 0 = omega arith in none) ∙ shifted_zero e.units row.1 row.2

texts_known : AreKnown bf_span units_at IsTextRow CouldBeOneText
texts_known = record {
  filled = λ e row. row.0.0;
  grows = λ x z later row row_too row_later after within here meets to there.
      let begun : shifted x.units (z.start - x.start) ≡ Some z.units = here ∙ same_units z row_too in
      let sum : later.start - x.start ≡ z.start - x.start + (later.start - z.start) = omega arith in
      let whole : shifted x.units (later.start - x.start) ≡ Some later.units =
      ap (shifted x.units) sum ∙ shifted_twice x.units z.units (z.start - x.start) (later.start - z.start) begun ∙ sym there ∙ same_units later row_later in
      let (front, is, small, made, last) = shifted_is x.units z.units (z.start - x.start) begun in
      let (front_too, is_too, small_too, made_too, last_too) = shifted_is x.units later.units (later.start - x.start) whole in
      ((meets, omega arith), whole, omega arith);
  same = λ x y row row_too starts ends here.
      let units : x.units ≡ y.units = same_Some _ _ (sym (same_units x row) ∙ here ∙ ap (units_at y) starts ∙ same_units y row_too) in
      λ i. record { start = starts i; end = ends i; units = units i };
}

-- ---- their codes are of 32 bits
cid_rows_fit : (entries : List CidEntry) → All IsCidRow entries → All (λ e. e.end < 2 ^ 32) entries
cid_rows_fit entries rows = All-weaker IsCidRow (λ e. e.end < 2 ^ 32) (λ e row. row.0.2) entries rows

notdef_rows_fit : (entries : List CidEntry) → All IsNotdefRow entries → All (λ e. e.end < 2 ^ 32) entries
notdef_rows_fit entries rows = All-weaker IsNotdefRow (λ e. e.end < 2 ^ 32) (λ e row. row.2) entries rows

text_rows_fit : (entries : List BfEntry) → All IsTextRow entries → All (λ e. e.end < 2 ^ 32) entries
text_rows_fit entries rows = All-weaker IsTextRow (λ e. e.end < 2 ^ 32) (λ e row. row.0.2) entries rows

-- only one tidy list says what it says
pub only_cids : (entries others : List CidEntry) → AreTidyCids entries → AreTidyCids others → SaysTheSame (cid_said others) (cid_said entries) → entries ≡ others
only_cids entries others tidy tidy_too same = only_one cid_span cid_at IsCidRow CouldBeOneCid cids_known (2 ^ 32) entries others tidy (cid_rows_fit entries tidy.rows) tidy_too (cid_rows_fit others tidy_too.rows) same

pub only_notdefs : (entries others : List CidEntry) → AreTidyNotdefs entries → AreTidyNotdefs others → SaysTheSame (notdef_said others) (notdef_said entries) → entries ≡ others
only_notdefs entries others tidy tidy_too same = only_one cid_span notdef_at IsNotdefRow CouldBeOneNotdef notdefs_known (2 ^ 32) entries others tidy (notdef_rows_fit entries tidy.rows) tidy_too (notdef_rows_fit others tidy_too.rows) same

pub only_texts : (entries others : List BfEntry) → AreTidyTexts entries → AreTidyTexts others → SaysTheSame (units_said others) (units_said entries) → entries ≡ others
only_texts entries others tidy tidy_too same = only_one bf_span units_at IsTextRow CouldBeOneText texts_known (2 ^ 32) entries others tidy (text_rows_fit entries tidy.rows) tidy_too (text_rows_fit others tidy_too.rows) same

-- no list of rows in order without overlaps that says the same is shorter
pub fewest_cids : (entries others : List CidEntry) → AreTidyCids entries → All IsCidRow others → AllPairs (λ e later. e.end < later.start) others → SaysTheSame (cid_said others) (cid_said entries) → length entries ≤ length others
fewest_cids entries others tidy rows apart same = fewest cid_span cid_at IsCidRow CouldBeOneCid cids_known (2 ^ 32) entries others tidy (cid_rows_fit entries tidy.rows) rows apart (cid_rows_fit others rows) same

pub fewest_notdefs : (entries others : List CidEntry) → AreTidyNotdefs entries → All IsNotdefRow others → AllPairs (λ e later. e.end < later.start) others → SaysTheSame (notdef_said others) (notdef_said entries) → length entries ≤ length others
fewest_notdefs entries others tidy rows apart same = fewest cid_span notdef_at IsNotdefRow CouldBeOneNotdef notdefs_known (2 ^ 32) entries others tidy (notdef_rows_fit entries tidy.rows) rows apart (notdef_rows_fit others rows) same

pub fewest_texts : (entries others : List BfEntry) → AreTidyTexts entries → All IsTextRow others → AllPairs (λ e later. e.end < later.start) others → SaysTheSame (units_said others) (units_said entries) → length entries ≤ length others
fewest_texts entries others tidy rows apart same = fewest bf_span units_at IsTextRow CouldBeOneText texts_known (2 ^ 32) entries others tidy (text_rows_fit entries tidy.rows) rows apart (text_rows_fit others rows) same

-- ---- what a file is written anew as
cids_say_some : (entries : List CidEntry) (code : ℕ) → AreTidyCids entries → cid_said entries code ≡ Some None → ⊥
cids_say_some entries code tidy is =
    let (e, row, from, to, none) = found cid_span cid_at IsCidRow CouldBeOneCid cids_known (2 ^ 32) entries code None tidy (cid_rows_fit entries tidy.rows) is in
    let nothing : Some (e.cid + (code - e.start)) ≡ None = sym (cid_given e code row from to) ∙ none in
    cc

units_given : (e : BfEntry) (code : ℕ) → IsTextRow e → e.start ≤ code → code ≤ e.end → units_at e code ≡ Some (set e.units (length e.units - 1) (last_unit e.units + (code - e.start)))
units_given e code row from to = shifted_set e.units (code - e.start) (last_unit e.units) (length e.units - 1) row.1 refl refl (omega arith)

texts_say_some : (entries : List BfEntry) (code : ℕ) → AreTidyTexts entries → units_said entries code ≡ Some None → ⊥
texts_say_some entries code tidy is =
    let (e, row, from, to, none) = found bf_span units_at IsTextRow CouldBeOneText texts_known (2 ^ 32) entries code None tidy (text_rows_fit entries tidy.rows) is in
    let nothing : Some (set e.units (length e.units - 1) (last_unit e.units + (code - e.start))) ≡ None = sym (units_given e code row from to) ∙ none in
    cc

-- a list is written anew as one list only
pub one_cids : (old new other : List CidEntry) → AreTidiedCids old new → AreTidiedCids old other → new ≡ other
one_cids old new other (inl tidied) (inl tidied_too) = only_cids new other tidied.0 tidied_too.0 (λ code small. tidied.1 code small ∙ sym (tidied_too.1 code small))
one_cids old new other (inl tidied) (inr ((code, small, none), kept)) = absurd (cids_say_some new code tidied.0 (tidied.1 code small ∙ none))
one_cids old new other (inr ((code, small, none), kept)) (inl tidied) = absurd (cids_say_some other code tidied.0 (tidied.1 code small ∙ none))
one_cids old new other (inr kept) (inr kept_too) = kept.1 ∙ sym kept_too.1

pub one_notdefs : (old new other : List CidEntry) → AreTidiedNotdefs old new → AreTidiedNotdefs old other → new ≡ other
one_notdefs old new other tidied tidied_too = only_notdefs new other tidied.0 tidied_too.0 (λ code small. tidied.1 code small ∙ sym (tidied_too.1 code small))

pub one_texts : (old new other : List BfEntry) → AreTidiedTexts old new → AreTidiedTexts old other → new ≡ other
one_texts old new other (inl tidied) (inl tidied_too) = only_texts new other tidied.0 tidied_too.0 (λ code small. tidied.1 code small ∙ sym (tidied_too.1 code small))
one_texts old new other (inl tidied) (inr ((code, small, none), kept)) = absurd (texts_say_some new code tidied.0 (tidied.1 code small ∙ none))
one_texts old new other (inr ((code, small, none), kept)) (inl tidied) = absurd (texts_say_some other code tidied.0 (tidied.1 code small ∙ none))
one_texts old new other (inr kept) (inr kept_too) = kept.1 ∙ sym kept_too.1
