use Rattle.std.proofs.Common.{◌≡◌, All, length, map, take, string_bytes}
use Rattle.cmap_queries.specs.Queries.{argument_of, IsSpelled}
use Rattle.cmap_queries.proofs.query.Query.parse_all.Given as goal

-- the queries so far are those of the arguments so far
abbrev pub invariant-loop-argument : goal.invariant-loop-argument
invariant-loop-argument l = (map argument_of l.queries.items ≡ map string_bytes (take l.argument-index l.arguments))
    × All IsSpelled l.queries.items
    × (length l.queries.items ≡ l.argument-index)
