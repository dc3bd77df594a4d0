use Rattle.std.proofs.Common.{◌≡◌, length}
use Rattle.cmap_text.specs.TextReading.{all_said}
use Rattle.cmap_text.specs.TextSeen.{said_seen}
use Rattle.cmap_text.proofs.items.read_items.Given as goal

abbrev pub invariant-loop-token : goal.invariant-loop-token
invariant-loop-token l = all_said (said_seen l.initial.said) l.initial.reader ≡ all_said (said_seen l.said) l.reader

abbrev pub decreases-loop-token : goal.decreases-loop-token
decreases-loop-token l = length l.reader.tokens
