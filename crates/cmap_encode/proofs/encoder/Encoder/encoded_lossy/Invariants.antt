use Rattle.std.proofs.Common.{length}
use Rattle.std.specs.Str.{chars}
use Rattle.cmap_encode.specs.ChoicesSeen.{choices_of}
use Rattle.cmap_encode.proofs.LossyShown.{IsUpTo}
use Rattle.cmap_encode.proofs.encoder.Encoder.encoded_lossy.Given as goal

abbrev pub invariant-loop-after : goal.invariant-loop-after
invariant-loop-after l = IsUpTo (choices_of l.self.choices) l.missing (chars l.text) l.string.items l.left

abbrev pub decreases-loop-after : goal.decreases-loop-after
decreases-loop-after l = length l.left
