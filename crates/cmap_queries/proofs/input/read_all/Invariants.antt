use Rattle.std.specs.Prelude.{◌≡◌, vec_len, vec_items}
use Rattle.std.specs.Io.KnownBytes.{Consumes}
use Rattle.cmap_queries.proofs.input.read_all.Given as goal

-- What is kept so far is what the reads took from the front, and the buffer has room.
abbrev pub invariant-loop : goal.invariant-loop
invariant-loop g l = (vec_len l.piece ≡ 8192)
    × Consumes (g.R.Read.remaining l.initial.input) (g.R.Read.remaining l.input) (vec_items l.bytes)
