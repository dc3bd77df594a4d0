use Rattle.std.proofs.Common.{◌≡◌, ℕ, ◌+◌, Bool, drop}
use Rattle.std.specs.List.{position_or_len}
use Rattle.cmap_binary.specs.Reader.{AnswersBy}
use Rattle.cmap_binary.proofs.bits.Reader.eat_until.Given as goal

abbrev pub invariant-loop-byte : goal.invariant-loop-byte
invariant-loop-byte g l =
    goal.F-IsAlwaysCallable g l.f
    × (l.count ≡ l.byte-index)
    × ((p : ℕ → Bool) → AnswersBy (goal.F-post g l.f) p → position_or_len p l.left ≡ l.count + position_or_len p (drop l.count l.left))
