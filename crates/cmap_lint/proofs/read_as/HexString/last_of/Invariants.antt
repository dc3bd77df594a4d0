use Rattle.std.proofs.Common.{◌≡◌, ◌∷◌, [], ◌++◌, List, ℕ, IsTrue, length}
use Rattle.std.specs.Char.{is_ascii_hexdigit}
use Rattle.std.specs.List.{count_by, list_all}
use Rattle.cmap_tokens.specs.Ascii.{byte}
use Rattle.cmap_lint.specs.PartsRead.{is_body}
use Rattle.cmap_lint.proofs.read_as.HexString.last_of.Given as goal

abbrev pub invariant-loop-rest : goal.invariant-loop-rest
invariant-loop-rest l = (body : List ℕ) × (l.bytes ≡ (l.rest ++ body) ++ byte ">" ∷ []) × IsTrue (list_all is_body body)
    × (l.digits ≡ count_by is_ascii_hexdigit body)

abbrev pub decreases-loop-rest : goal.decreases-loop-rest
decreases-loop-rest l = length l.rest
