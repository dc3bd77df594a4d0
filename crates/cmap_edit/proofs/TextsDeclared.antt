-- What a list of texts declares for the codes of a table, stretch by stretch.
use Rattle.std.proofs.Common.{ℕ, ◌+◌, ◌<◌, ◌≤◌, ◌^◌, List, [], Option, None, inl, inr, refl, sym, ◌∙◌, arith}
use Rattle.std.specs.Prelude.{◌↔◌, IsSome}
use Rattle.std.proofs.lemmas.Bool.{cases_lt}
use Rattle.std.proofs.lemmas.List.Elements.{All-nil}
use Rattle.cmap_runs.specs.Ranges.{last_of}
use Rattle.cmap_runs.specs.Stretches.{IsStretch}
use Rattle.cmap_values.specs.declared.range.Range.{Range}
use Rattle.cmap_values.specs.Files.{BfEntry}
use Rattle.cmap_layers.specs.Layers.{Layer}
use Rattle.cmap_layers.specs.Lookups.{bf_of}
use Rattle.cmap_edit.specs.Chosen.{ChosenNumber, codes_span}
use Rattle.cmap_edit.specs.Parts.{AreTexts, AreTextsAdded, AreTextsBelow, text_said}
use Rattle.cmap_edit.specs.declared.flatten.codes.Codes.{Codes}
use Rattle.cmap_edit.proofs.CodesDeclared.{only_wanted, wanted_of, wanted_some}
use Rattle.cmap_edit.proofs.FlattenTextsAdded.{no_text, none_added}
use Rattle.cmap_edit.proofs.TidyLists.{no_texts}

module _ (layers : List Layer) (table : List Codes) (first last : ℕ) (texts : List BfEntry) (before : AreTextsBelow layers table first texts) (le : first ≤ last) where
  -- the table has none of the codes
  pub passed_over : IsStretch codes_span table first last None → AreTextsBelow layers table (last + 1) texts
  passed_over none =
      let range : Range = record { start = first; end = last } in
      record {
        room = (none_added texts range before.room le (λ code. None) (λ code le within. refl)).room;
        codes = λ code lt.
            elim (cases_lt code first) [
              | inl old ↦ before.codes code old
              | inr new ↦ no_text texts range before.room le code new ∙ sym (wanted_of table code (bf_of layers code) None (none code new (omega arith)))
            ];
      }

  -- it has all of them, and their texts were added
  pub added : (found : Option Codes) (new : List BfEntry) → IsSome found → IsStretch codes_span table first last found → AreTextsAdded texts first (last + 1) (λ code. bf_of layers code) new → AreTextsBelow layers table (last + 1) new
  added found new some has now = record {
    room = now.room;
    codes = λ code lt.
        elim (cases_lt code first) [
          | inl old ↦ now.below code old ∙ before.codes code old
          | inr new ↦ now.here code new lt ∙ sym (wanted_some table code (bf_of layers code) found some (has code new (omega arith)))
        ];
  }

-- before the first code nothing is declared
pub AreTextsBelow-none : (layers : List Layer) (table : List Codes) → AreTextsBelow layers table 0 []
AreTextsBelow-none layers table = record { room = record { tidy = no_texts; ends = All-nil (λ e. e.end < 0) }; codes = λ code lt. absurd (omega arith) }

-- in the end they are those of the chosen numbers
pub AreTexts-all : (layers : List Layer) (chosen table : List Codes) (texts : List BfEntry) → ((code : ℕ) → IsSome (last_of codes_span table code) ↔ ChosenNumber chosen code) → AreTextsBelow layers table (2 ^ 32) texts → AreTexts layers chosen texts
AreTexts-all layers chosen table texts has below = record {
  tidy = below.room.tidy;
  codes = λ code lt. only_wanted (ChosenNumber chosen code) (last_of codes_span table code) (bf_of layers code) (text_said texts code) (has code) (below.codes code lt);
}
