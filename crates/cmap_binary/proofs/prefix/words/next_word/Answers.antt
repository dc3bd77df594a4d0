use Rattle.std.proofs.Common.{arith}
use Rattle.cmap_binary.proofs.prefix.words.next_word.Goals as goal

pub returns-then-word-ne0-clause-first : goal.returns-then-word-ne0-clause-first
returns-then-word-ne0-clause-first c = (c.look_up-word.ensures c.args.counts.now.items c.args.symbols.now.items c.requires.knows (omega (arith, c.if-word-ne0.true))).1

pub returns-then-word-ne0-clause-at_hand : goal.returns-then-word-ne0-clause-at_hand
returns-then-word-ne0-clause-at_hand c = (c.look_up-word.ensures c.args.counts.now.items c.args.symbols.now.items c.requires.knows (omega (arith, c.if-word-ne0.true))).0
