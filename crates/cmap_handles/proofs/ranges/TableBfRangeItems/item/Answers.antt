use Rattle.std.proofs.Common.{◌∙◌, ℕ, List, Option, Some, ap, length, sym}
use Rattle.cmap_values.specs.DeclarationsSeen.{bf_entry_seen}
use Rattle.cmap_handles.specs.Ranges.{text_range_seen}
use Rattle.cmap_handles.specs.declared.ranges.DeclaredTexts.{DeclaredTexts}
use Rattle.cmap_handles.proofs.FilledRows.{mapped_at, mapped_within}
use Rattle.cmap_handles.proofs.ranges.TableBfRangeItems.item.Goals as goal

pub decl-declared-requires : goal.decl-declared-requires
decl-declared-requires c = mapped_within bf_entry_seen text_range_seen c.args.self.now c.args.index c.requires

pub returns : goal.returns
returns c =
    let range = c.decl-declared.result.now.range in
    let shown : List ℕ → Option DeclaredTexts = λ units. Some (record { first = range.start; last = range.end; units = length units }) in
    mapped_at bf_entry_seen text_range_seen c.args.self.now c.args.index c.decl-declared.result.now c.decl-declared.ensures.declaration ∙ ap shown (sym c.as_slice.ensures)
