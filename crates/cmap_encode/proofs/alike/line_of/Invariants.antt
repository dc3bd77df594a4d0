use Rattle.std.proofs.Common.{◌≡◌, None, map, take}
use Rattle.cmap_encode.specs.Alike.{first_given, line_with}
use Rattle.cmap_encode.proofs.alike.line_of.Given as goal

abbrev pub invariant-loop-line : goal.invariant-loop-line
invariant-loop-line l = first_given (line_with l.character) (take l.line-index (map (λ line. line.now) l.lines)) ≡ None
