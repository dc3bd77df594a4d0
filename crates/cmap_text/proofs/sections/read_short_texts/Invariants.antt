use Rattle.std.proofs.Common.{◌≡◌, ◌≤◌, length}
use Rattle.cmap_values.specs.DeclarationsSeen.{lists_seen}
use Rattle.cmap_text.specs.TextFiles.{bf_char}
use Rattle.cmap_text.specs.TextReading.{body_in}
use Rattle.cmap_text.specs.TokenParsers.{run}
use Rattle.cmap_text.proofs.sections.read_short_texts.Given as goal

abbrev pub invariant-loop : goal.invariant-loop
invariant-loop l =
    let body = body_in bf_char in
    record {
      same : run (body (lists_seen l.initial.lists)) l.initial.reader ≡ run (body (lists_seen l.lists)) l.reader;
      fewer : length l.reader.tokens ≤ length l.initial.reader.tokens;
    }

abbrev pub decreases-loop : goal.decreases-loop
decreases-loop l = length l.reader.tokens
