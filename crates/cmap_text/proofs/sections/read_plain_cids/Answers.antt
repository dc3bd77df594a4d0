use Rattle.std.proofs.Common.{◌∙◌, arith}
use Rattle.cmap_values.specs.DeclarationsSeen.{lists_seen}
use Rattle.cmap_text.specs.TextFiles.{cids, mapped}
use Rattle.cmap_text.specs.TextReading.{code_fault, code_or_closer, entry_after}
use Rattle.cmap_text.specs.TextSeen.{extent_seen}
use Rattle.cmap_text.proofs.EntriesRead.{entry_read}
use Rattle.cmap_text.proofs.TokenParsers.{head-shorter, is_there}
use Rattle.cmap_text.proofs.sections.read_plain_cids.Goals as goal

pub loop-smaller : goal.loop-smaller
loop-smaller c =
    let section = cids mapped (extent_seen c.args.extent) in
    let (start, next, starts, entry) = rw c.if-branch.true at c.in_ok-add_plain_cids.ensures.adds in
    omega (arith, head-shorter code_fault (code_or_closer section) c.loop.reader _ starts, (is_there (entry_after section start (lists_seen c.loop.lists)) next _ entry).2)

pub loop-preserved : goal.loop-preserved
loop-preserved c =
    let section = cids mapped (extent_seen c.args.extent) in
    let (start, next, starts, entry) = rw c.if-branch.true at c.in_ok-add_plain_cids.ensures.adds in
    record {
      same = c.loop.invariant.same ∙ entry_read section (lists_seen c.loop.lists) c.loop.reader next start starts (lists_seen c.add_plain_cids.new.lists) c.add_plain_cids.new.reader entry;
      fewer = omega (arith, loop-smaller c, c.loop.invariant.fewer);
    }
