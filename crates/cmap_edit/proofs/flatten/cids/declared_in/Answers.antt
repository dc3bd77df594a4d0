use Rattle.std.proofs.Common.{◌+◌, ◌≤◌, ◌∙◌, subst, sym, true≢false, arith}
use Rattle.std.specs.Option.{option_copied}
use Rattle.cmap_runs.specs.Stretches.{IsStretch}
use Rattle.cmap_values.specs.CodeLengths.{length_of}
use Rattle.cmap_values.specs.DeclarationsSeen.{entries_seen}
use Rattle.cmap_edit.specs.Chosen.{codes_span}
use Rattle.cmap_edit.specs.Parts.{AreDeclaredBelow}
use Rattle.cmap_edit.specs.declared.flatten.cids.Declared.{Declared}
use Rattle.cmap_edit.proofs.ChosenCodes.{stretch_of}
use Rattle.cmap_edit.proofs.CodesDeclared.{AreDeclaredBelow-none, added, copied_some, passed_over}
use Rattle.cmap_edit.proofs.ListsAdded.{none_of}
use Rattle.cmap_edit.proofs.TidyLists.{no_cids, no_notdefs}
use Rattle.cmap_edit.proofs.flatten.cids.declared_in.Goals as goal
use Rattle.cmap_edit.proofs.flatten.cids.declared_in.Goals.{then-is_some+in_ok-add_codes, else-is_some}

pub loop-next-init : goal.loop-next-init
loop-next-init c = record {
  declarations = c.stretches-stretches.ensures.declarations;
  next = c.stretches-stretches.ensures.next;
  within = omega arith;
  codes = rw (c.new.ensures.items, c.new-2.ensures.items) (AreDeclaredBelow-none c.args.layers.now (length_of c.args.len) c.args.chosen.now no_cids no_notdefs);
}

pub loop-next-preserved : goal.loop-next-preserved
loop-next-preserved c =
    let layers = c.args.layers.now in let len = length_of c.args.len in let table = c.args.chosen.now in let next = c.loop-next.next in let old = c.loop-next.invariant in
    let cids = entries_seen c.loop-next.made.cids.items in let notdefs = entries_seen c.loop-next.made.notdefs.items in
    let last = c.in-Some.stretch.last in let declaration = c.in-Some.stretch.declaration in
    let here = stretch_of codes_span c.loop-next.stretches.declarations table c.loop-next.stretches.next next last (option_copied declaration) old.declarations old.next c.in-Some.ensures.same in
    let filled : next ≤ last = omega (arith, c.in-Some.ensures.within, old.next) in
    record {
      declarations = c.in-Some.ensures.declarations ∙ old.declarations;
      next = omega (arith, c.in-Some.ensures.next);
      within = omega (arith, c.in-Some.ensures.within);
      codes = subst (λ end. AreDeclaredBelow layers len table (end + 1) (entries_seen c.if-is_some.made.cids.items) (entries_seen c.if-is_some.made.notdefs.items)) (sym c.from-next.ensures)
          (elim c.if-is_some.branch [
            | then-is_some+in_ok-add_codes w ↦
                subst (λ (made : Declared). AreDeclaredBelow layers len table (last + 1) (entries_seen made.cids.items) (entries_seen made.notdefs.items)) (sym w.made-is)
                (added layers len table next last cids notdefs old.codes filled (option_copied declaration) (entries_seen w.add_codes.new.self.cids.items) (entries_seen w.add_codes.new.self.notdefs.items)
                (copied_some declaration (sym c.is_some.ensures ∙ w.if-is_some.true)) here w.in_ok-add_codes.ensures)
            | else-is_some w ↦
                let none = none_of declaration (λ some. true≢false (sym some ∙ sym c.is_some.ensures ∙ w.if-is_some.false)) in
                subst (λ (made : Declared). AreDeclaredBelow layers len table (last + 1) (entries_seen made.cids.items) (entries_seen made.notdefs.items)) (sym w.made-is)
                (passed_over layers len table next last cids notdefs old.codes filled (subst (λ o. IsStretch codes_span table next last (option_copied o)) none here))
          ]);
    }
