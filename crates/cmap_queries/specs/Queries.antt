-- What a query says of its argument.
use Rattle.std.specs.Prelude.{ℕ, List, ◌∷◌, ◌++◌}
use Rattle.cmap_queries.specs.CodeArguments.{colon, asked_name, SpellsQuery}
use Rattle.cmap_queries.specs.declared.query.Query.{Query}

-- the argument that it was read from
abbrev pub argument_of : Query → List ℕ
argument_of query = asked_name query.asked ++ colon ∷ query.digits.now

-- its argument asks what it asks of its code
abbrev pub IsSpelled : Query → Type 0
IsSpelled query = SpellsQuery query.asked query.code (argument_of query)
