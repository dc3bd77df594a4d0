-- How many runs and declarations a search may look at.
use Rattle.std.specs.Prelude.{◌≡◌, ℕ, ◌+◌, ◌≤◌, Bool, true, List, Option, IfNone, IfSome, if◌then◌else◌, is_some, length, map}
use Rattle.std.specs.Borrow.{Bor}
use Rattle.std.specs.Option.{option_copied}
use Rattle.cmap_runs.specs.Ranges.{Span, contains, digits, last_of, runs_of}
use Rattle.cmap_runs.specs.declared.runs.looks.Looks.{Looks}

-- from `old` to `new` there are at most the given numbers of looks, and at least one look of each kind if something is found
pub record LooksAtMost (old new : Looks) (runs declarations : ℕ) (found : Bool) : Type 0 where
  pub most_runs : new.runs ≤ old.runs + runs
  pub some_run : old.runs + (if found then 1 else 0) ≤ new.runs
  pub most_declarations : new.declarations ≤ old.declarations + declarations
  pub some_declaration : old.declarations + (if found then 1 else 0) ≤ new.declarations

-- ---- private aid
-- a search finds the last declaration that contains the code, or that none does
pub record FindsLast {T : Type 0} (span_of : T → Span) (list : List T) (code : ℕ) (old new : Looks) (result : Option (Bor T)) : Type 0 where
  pub found : option_copied result ≡ last_of span_of list code
  pub contains : IfSome result (λ declaration. contains (span_of declaration.now) code ≡ true)
  pub looks : LooksAtMost old new (digits (length (runs_of (map span_of list)))) 1 (is_some result)
  pub no_declaration : IfNone result (new.declarations ≡ old.declarations)
