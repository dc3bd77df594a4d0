use Rattle.std.proofs.Common.{◌≡◌, ◌≤◌, [], inl, inr, ap}
use Rattle.std.specs.Prelude.{◌⊎◌}
use Rattle.cmap_binary.specs.BitQueues.{IsFilled, Queue}
use Rattle.cmap_binary.specs.PrefixWords.{bits}
use Rattle.cmap_binary.proofs.prefix.words.find_ahead.Goals as goal

filled_bits : (q : Queue) → IsFilled q → (32 ≤ q.held) ⊎ (bits q.rest ≡ [])
filled_bits q (inl enough) = inl enough
filled_bits q (inr end) = inr (ap bits end)

pub returns-clause-first : goal.returns-clause-first
returns-clause-first c = (rw c.at_hand-number.ensures.all at c.in_ok-word.ensures.found).1 (bits c.args.bits.now.rest)

pub returns-in_err-word-clause-first : goal.returns-in_err-word-clause-first
returns-in_err-word-clause-first c =
    rw c.from_residual.ensures ((rw c.at_hand-number.ensures.all at c.in_err-word.ensures.none) (bits c.args.bits.now.rest) (filled_bits c.args.bits.now c.requires.filled))
