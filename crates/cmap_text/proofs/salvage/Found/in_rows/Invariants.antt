use Rattle.std.proofs.Common.{◌≡◌, length}
use Rattle.cmap_tokens.specs.Pieces.{pieces_left}
use Rattle.cmap_tokens.specs.TokensLeft.{start_of}
use Rattle.cmap_text.specs.Salvage.{item, nothing_salvaged, take_rows}
use Rattle.cmap_text.specs.SalvageSeen.{found_seen, state_seen}
use Rattle.cmap_text.proofs.salvage.Found.in_rows.Given as goal

abbrev pub invariant-loop-reader : goal.invariant-loop-reader
invariant-loop-reader l = take_rows l.rows (state_seen l.state, found_seen l.found) l.reader ≡ take_rows l.initial.rows (item, nothing_salvaged) (pieces_left (start_of l.text))

abbrev pub decreases-loop-reader : goal.decreases-loop-reader
decreases-loop-reader l = length l.reader
