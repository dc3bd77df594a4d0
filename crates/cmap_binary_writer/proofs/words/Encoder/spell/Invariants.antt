use Rattle.std.proofs.Common.{◌*◌, ◌≤◌, length, take}
use Rattle.cmap_binary_writer.specs.Spelled.{IsSpelled}
use Rattle.cmap_binary_writer.proofs.words.Encoder.spell.Given as goal

abbrev pub invariant-loop-symbol : goal.invariant-loop-symbol
invariant-loop-symbol l = IsSpelled l.self (take l.symbol-index l.symbols) l.written × (length l.written ≤ 32 * l.symbol-index)
