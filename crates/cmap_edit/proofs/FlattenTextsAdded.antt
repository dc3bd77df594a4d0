-- What a list of texts declares for codes, after one more declaration.
use Rattle.std.proofs.Common.{◌≡◌, ℕ, ◌+◌, ◌-◌, ◌<◌, ◌≤◌, ◌^◌, List, [], ◌∷◌, Option, Some, None, length, take, inl, inr, refl, sym, ap, ◌∙◌, arith}
use Rattle.std.specs.Prelude.{All, nat_lt, option_and_then, option_map, slice_get}
use Rattle.std.proofs.lemmas.Bool.{cases_lt, cond-false}
use Rattle.std.proofs.lemmas.Bool.Decides.{nat_tests}
use Rattle.std.proofs.lemmas.List.Elements.{All-weaker}
use Rattle.std.proofs.lemmas.Option.{none-some}
use Rattle.cmap_values.specs.declared.range.Range.{Range}
use Rattle.cmap_tokens.specs.Texts.{characters, shifted, text_at}
use Rattle.cmap_values.specs.Files.{BfEntry}
use Rattle.cmap_layers.specs.Lookups.{bf_at, bf_span, last_bf}
use Rattle.cmap_edit.specs.Tidy.{AreTidyTexts, last_unit, said_with, units_at, units_said}
use Rattle.cmap_edit.proofs.TextUnits.{ended, ended_some, parted, shifted-push, shifted_twice}
use Rattle.cmap_edit.specs.Parts.{AreTextsAdded, IsTextRoom, text_said}
use Rattle.cmap_edit.proofs.ListsAdded.{past_ends, with_after, with_before, with_here}

-- ---- the text that units spell, where they are said
abbrev pub spelled : Option (Option (List ℕ)) → Option (List ℕ)
spelled units = option_and_then (λ units. option_and_then characters units) units

spelled_at : (code : ℕ) (found : Option BfEntry) → option_and_then (λ e. bf_at e code) found ≡ spelled (option_map (λ e. units_at e code) found)
spelled_at code None = refl
spelled_at code (Some e) = refl

pub text_spelled : (texts : List BfEntry) (code : ℕ) → text_said texts code ≡ spelled (units_said texts code)
text_spelled texts code = spelled_at code (last_bf texts code)

-- ---- units that pass 16 bits
pub passed : (units : List ℕ) (offset : ℕ) → 0 < length units → 2 ^ 16 ≤ last_unit units + offset → shifted units offset ≡ None
passed units offset some large =
    let (front, same) = parted units some in
    ap (λ us. shifted us offset) same ∙ shifted-push front (last_unit units) offset ∙ cond-false (nat_lt (last_unit units + offset) (2 ^ 16)) _ _ (grind (arith, nat_tests))

-- no text without units
pub no_units_no_text : (units : List ℕ) (offset : ℕ) → slice_get units (length units - 1) ≡ None → text_at units offset ≡ None
no_units_no_text units offset none =
    ap (λ found. option_and_then characters (option_and_then (λ last. ended (take (length units - 1) units) (last + offset)) found)) none

-- they do so at later offsets too
past_by : (front : List ℕ) (last : ℕ) → ended front last ≡ None → 2 ^ 16 ≤ last
past_by front last none = elim (cases_lt last (2 ^ 16)) [ inl small ↦ absurd (none-some _ (sym none ∙ ended_some front last small)) | inr large ↦ large ]

stay_none : (units : List ℕ) (offset more : ℕ) → shifted units offset ≡ None → shifted units (offset + more) ≡ None
stay_none [] offset more none = refl
stay_none (u ∷ us) offset more none =
    let (front, same) = parted (u ∷ us) (omega arith) in
    let large = past_by front (last_unit (u ∷ us) + offset) (sym (shifted-push front (last_unit (u ∷ us)) offset) ∙ ap (λ us. shifted us offset) (sym same) ∙ none) in
    passed (u ∷ us) (offset + more) (omega arith) (omega arith)

-- ---- one more declaration
module _ (texts : List BfEntry) (range : Range) (room : IsTextRoom texts range.start) (filled : range.start ≤ range.end) where
  no_units : (code : ℕ) → range.start ≤ code → units_said texts code ≡ None
  no_units code le = past_ends bf_span units_at texts range.start code room.ends le

  pub no_text : (code : ℕ) → range.start ≤ code → text_said texts code ≡ None
  no_text code le = text_spelled texts code ∙ ap spelled (no_units code le)

  pub none_added : (text : ℕ → Option (List ℕ)) → ((code : ℕ) → range.start ≤ code → code ≤ range.end → text code ≡ None) → AreTextsAdded texts range.start (range.end + 1) text texts
  none_added text none = record {
    room = record { tidy = room.tidy; ends = All-weaker (λ e. e.end < range.start) (λ e. e.end < range.end + 1) (λ e before. omega arith) texts room.ends };
    here = λ code le within. no_text code le ∙ sym (none code le (omega arith));
    below = λ code lt. refl;
  }

  pub units_added : (units : List ℕ) (end : ℕ) (new : List BfEntry) → 0 < length units → end ≤ range.end → ((code : ℕ) → end < code → code ≤ range.end → 2 ^ 16 ≤ last_unit units + (code - range.start)) → AreTidyTexts new
      → ((code : ℕ) → units_said new code ≡ said_with (record { start = range.start; end = end }) (λ code. shifted units (code - range.start)) (units_said texts) code)
      → All (λ e. e.end ≤ end) new → AreTextsAdded texts range.start (range.end + 1) (λ code. text_at units (code - range.start)) new
  units_added units end new some within past tidy now ends =
      let part : Range = record { start = range.start; end = end } in
      record {
        room = record { tidy = tidy; ends = All-weaker (λ e. e.end ≤ end) (λ e. e.end < range.end + 1) (λ e before. omega arith) new ends };
        here = λ code le upto.
            elim (cases_lt end code) [
              | inl after ↦ text_spelled new code ∙ ap spelled (now code ∙ with_after part (λ code. shifted units (code - range.start)) (units_said texts) code after ∙ no_units code le)
                  ∙ sym (ap (option_and_then characters) (passed units (code - range.start) some (past code after (omega arith))))
              | inr here ↦ text_spelled new code ∙ ap spelled (now code ∙ with_here part (λ code. shifted units (code - range.start)) (units_said texts) code le here)
            ];
        below = λ code lt.
            text_spelled new code ∙ ap spelled (now code ∙ with_before part (λ code. shifted units (code - range.start)) (units_said texts) code lt) ∙ sym (text_spelled texts code);
      }

-- ---- part after part
pub same_texts : (texts new : List BfEntry) (first limit : ℕ) (text other : ℕ → Option (List ℕ)) → ((code : ℕ) → first ≤ code → code < limit → text code ≡ other code) → AreTextsAdded texts first limit text new → AreTextsAdded texts first limit other new
same_texts texts new first limit text other same added = record { room = added.room; here = λ code le lt. added.here code le lt ∙ same code le lt; below = added.below }

-- the codes up to the next one were added, and then more
pub AreTextsAdded-more : (texts mid new : List BfEntry) (first next limit : ℕ) (text part : ℕ → Option (List ℕ)) → first ≤ next → AreTextsAdded texts first next text mid → AreTextsAdded mid next limit part new
    → ((code : ℕ) → next ≤ code → code < limit → text code ≡ part code) → AreTextsAdded texts first limit text new
AreTextsAdded-more texts mid new first next limit text part le before now same = record {
  room = now.room;
  here = λ code from lt.
      elim (cases_lt code next) [
        | inl old ↦ now.below code old ∙ before.here code from old
        | inr new ↦ now.here code new lt ∙ sym (same code new lt)
      ];
  below = λ code lt. now.below code (omega arith) ∙ before.below code lt;
}

-- ---- the texts of a declaration, from a code on
module _ (e : BfEntry) (first code : ℕ) (begun : e.start ≤ first) (le : first ≤ code) where
  in_two : code - e.start ≡ (first - e.start) + (code - first)
  in_two = omega arith

  pub text_from : (units : List ℕ) → shifted e.units (first - e.start) ≡ Some units → text_at units (code - first) ≡ bf_at e code
  text_from units is = ap (option_and_then characters) (sym (shifted_twice e.units units (first - e.start) (code - first) is)) ∙ ap (text_at e.units) (sym in_two)

  pub no_text_from : shifted e.units (first - e.start) ≡ None → bf_at e code ≡ None
  no_text_from none = ap (option_and_then characters) (ap (shifted e.units) in_two ∙ stay_none e.units (first - e.start) (code - first) none)
