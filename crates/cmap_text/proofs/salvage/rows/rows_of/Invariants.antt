use Rattle.std.proofs.Common.{◌≡◌, length}
use Rattle.cmap_tokens.specs.Pieces.{pieces_left}
use Rattle.cmap_tokens.specs.TokensLeft.{start_of}
use Rattle.cmap_text.specs.Rows.{lines_taken, no_lines}
use Rattle.cmap_text.specs.SalvageSeen.{lines_seen}
use Rattle.cmap_text.proofs.salvage.rows.rows_of.Given as goal

abbrev pub invariant-loop-lines : goal.invariant-loop-lines
invariant-loop-lines l = lines_taken (lines_seen l.lines) l.reader ≡ lines_taken no_lines (pieces_left (start_of l.text))

abbrev pub decreases-loop-lines : goal.decreases-loop-lines
decreases-loop-lines l = length l.reader
