-- What a list says to which codes were added while there was memory.
use Rattle.std.specs.Prelude.{Result, Ok, Err, OnErr}

pub on_err : {A E : Type 0} (r : Result A E) (P : Type 0) → P → OnErr r P
on_err (Ok x) P holds = tt
on_err (Err e) P holds = holds
