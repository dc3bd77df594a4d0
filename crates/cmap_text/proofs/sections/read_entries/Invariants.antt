use Rattle.std.proofs.Common.{◌≡◌, length}
use Rattle.cmap_values.specs.DeclarationsSeen.{lists_seen}
use Rattle.cmap_text.specs.TextReading.{body_in}
use Rattle.cmap_text.specs.TextSeen.{section_seen}
use Rattle.cmap_text.specs.TokenParsers.{run}
use Rattle.cmap_text.proofs.sections.read_entries.Given as goal

abbrev pub invariant-loop-reader : goal.invariant-loop-reader
invariant-loop-reader l = run (body_in (section_seen l.section) (lists_seen l.initial.lists)) l.initial.reader ≡ run (body_in (section_seen l.section) (lists_seen l.lists)) l.reader

abbrev pub decreases-loop-reader : goal.decreases-loop-reader
decreases-loop-reader l = length l.reader.tokens
