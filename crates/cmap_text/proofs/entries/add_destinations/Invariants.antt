use Rattle.std.proofs.Common.{◌≡◌, ◌+◌, ◌-◌}
use Rattle.cmap_values.specs.DeclarationsSeen.{lists_seen}
use Rattle.cmap_text.specs.EntriesSeen.{AddsTexts}
use Rattle.cmap_text.specs.TextReading.{list_in}
use Rattle.cmap_text.specs.TokenParsers.{run}
use Rattle.cmap_text.proofs.entries.add_destinations.Given as goal

abbrev pub invariant-loop-code : goal.invariant-loop-code
invariant-loop-code l = record {
  adds : run (list_in (l.end + 1 - l.start) l.start (lists_seen l.initial.lists)) l.initial.reader ≡ run (list_in (l.end + 1 - l.code) l.code (lists_seen l.lists)) l.reader;
  texts : AddsTexts l.initial.lists l.lists;
}
