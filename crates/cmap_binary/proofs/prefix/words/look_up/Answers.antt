use Rattle.std.proofs.Common.{◌∙◌, subst, sym, arith}
use Rattle.cmap_binary.specs.BitQueues.{after_held, bits_ahead}
use Rattle.cmap_binary.specs.WordsFound.{IsKnown}
use Rattle.cmap_binary.proofs.BitsAhead.{ahead_byte}
use Rattle.cmap_binary.proofs.prefix.words.look_up.Goals as goal

pub returns-in-Some : goal.returns-in-Some
returns-in-Some c = λ counts symbols knows some.
    let byte = c.from.result in
    let (enough, is) = c.in-Some.ensures in
    let known = knows.words byte c.index.result.now (omega (arith, knows.a_word_each, c.from.ensures)) in
    let (short, first) = subst (IsKnown counts symbols byte) (sym c.index.ensures) known some in
    (omega (arith, short, enough), rw (ahead_byte c.args.bits.now byte enough (c.from.ensures ∙ is)) (first (bits_ahead (after_held c.args.bits.now 8))))
