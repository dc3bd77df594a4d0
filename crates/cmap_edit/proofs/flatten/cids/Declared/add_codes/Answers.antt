use Rattle.std.proofs.Common.{◌+◌, ◌-◌, sym, subst, arith}
use Rattle.cmap_values.specs.CodeLengths.{length_of}
use Rattle.cmap_values.specs.DeclarationsSeen.{entries_seen}
use Rattle.cmap_unicode.specs.Given.{given, given_after}
use Rattle.cmap_edit.specs.Parts.{IsAdded}
use Rattle.cmap_edit.proofs.ListsAdded.{AreAdded-more}
use Rattle.cmap_edit.proofs.flatten.cids.Declared.add_codes.Goals as goal

pub loop-next-preserved : goal.loop-next-preserved
loop-next-preserved c =
    let old = c.loop-next.invariant in let first = c.args.range.start in let next = c.loop-next.next in let last = c.min.result in
    let layers = c.args.layers.now in let len = length_of c.args.len in let these = c.declared_stretch-declared.result.cids in
    let before = c.args.self.now in let so_far = c.loop-next.self in let now = c.add.new.self in
    record {
      from = omega arith;
      to = omega arith;
      added = subst (λ end. IsAdded (entries_seen before.cids.items) (entries_seen before.notdefs.items) first (end + 1) (λ code. given layers code len) (entries_seen now.cids.items) (entries_seen now.notdefs.items)) (sym c.from-next-in-loop-next.ensures)
          (AreAdded-more (entries_seen before.cids.items) (entries_seen before.notdefs.items) first next (last + 1) (λ code. given layers code len) (λ code. given_after these (code - next))
          (entries_seen so_far.cids.items) (entries_seen so_far.notdefs.items) (entries_seen now.cids.items) (entries_seen now.notdefs.items) old.from old.added c.in_ok-add.ensures
          (λ code le lt. c.declared_stretch-declared.ensures.declared code le (omega arith)));
    }
