use Rattle.std.proofs.Common.{◌≤◌, take}
use Rattle.std.specs.List.{All}
use Rattle.cmap_binary_writer.proofs.words.Encoder.fits.Given as goal

abbrev pub invariant-loop-word : goal.invariant-loop-word
invariant-loop-word l = All (λ w. w.symbol ≤ l.most) (take l.word-index l.word-items)
