use Rattle.std.proofs.Common.{◌≤◌, length, ◌∙◌, arith}
use Rattle.cmap_values.specs.DeclarationsSeen.{lists_seen}
use Rattle.cmap_text.specs.TextFiles.{bf_char}
use Rattle.cmap_text.specs.TextReading.{code_fault, code_or_closer, entry_after}
use Rattle.cmap_text.proofs.EntriesRead.{entry_read}
use Rattle.cmap_text.proofs.TokenParsers.{head-shorter, is_there}
use Rattle.cmap_text.proofs.sections.read_plain_texts.Goals as goal

pub loop-reader-preserved : goal.loop-reader-preserved
loop-reader-preserved c =
    let here = c.read_short_texts.new.reader in
    let now = lists_seen c.read_short_texts.new.lists in
    let passed : length here.tokens ≤ length c.loop-reader.reader.tokens = c.in_ok-read_short_texts.ensures.fewer in
    let (start, next, starts, entry) = rw c.if-not-branch.false at c.in_ok-add_longer_text.ensures.0 in
    record {
      same = c.loop-reader.invariant.same ∙ c.in_ok-read_short_texts.ensures.reads.0 ∙ entry_read bf_char now here next start starts (lists_seen c.add_longer_text.new.lists) c.add_longer_text.new.reader entry;
      fewer = omega (arith, passed, head-shorter code_fault (code_or_closer bf_char) here _ starts, (is_there (entry_after bf_char start now) next _ entry).2, c.loop-reader.invariant.fewer);
    }
