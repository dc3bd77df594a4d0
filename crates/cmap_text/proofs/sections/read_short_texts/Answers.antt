use Rattle.std.proofs.Common.{◌∙◌, arith}
use Rattle.cmap_values.specs.DeclarationsSeen.{lists_seen}
use Rattle.cmap_text.specs.TextFiles.{bf_char}
use Rattle.cmap_text.specs.TextReading.{code_fault, code_or_closer, entry_after}
use Rattle.cmap_text.proofs.EntriesRead.{entry_read}
use Rattle.cmap_text.proofs.TokenParsers.{head-shorter, is_there}
use Rattle.cmap_text.proofs.sections.read_short_texts.Goals as goal

pub loop-smaller : goal.loop-smaller
loop-smaller c =
    let (start, next, starts, entry) = rw c.if-branch.true at c.in_ok-add_plain_text.ensures.adds in
    omega (arith, head-shorter code_fault (code_or_closer bf_char) c.loop.reader _ starts, (is_there (entry_after bf_char start (lists_seen c.loop.lists)) next _ entry).2)

pub loop-preserved : goal.loop-preserved
loop-preserved c =
    let (start, next, starts, entry) = rw c.if-branch.true at c.in_ok-add_plain_text.ensures.adds in
    record {
      same = c.loop.invariant.same ∙ entry_read bf_char (lists_seen c.loop.lists) c.loop.reader next start starts (lists_seen c.add_plain_text.new.lists) c.add_plain_text.new.reader entry;
      fewer = omega (arith, loop-smaller c, c.loop.invariant.fewer);
    }
