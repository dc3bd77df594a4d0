use Rattle.std.proofs.Common.{◌+◌, ◌-◌, Some, ap, ◌∙◌, sym, subst, arith}
use Rattle.std.specs.Option.{option_copied}
use Rattle.cmap_layers.specs.Lookups.{cid_span}
use Rattle.cmap_values.specs.DeclarationsSeen.{cid_entry_seen, entries_seen}
use Rattle.cmap_edit.specs.Kinds.{AreTidyOf}
use Rattle.cmap_edit.specs.TidyAdded.{SaysSoFar}
use Rattle.cmap_edit.proofs.SaidSoFar.{added_on, passed_over, said_by}
use Rattle.cmap_edit.proofs.tidy.cid_lists.cids_by_runs.Goals as goal
use Rattle.cmap_edit.proofs.tidy.cid_lists.cids_by_runs.Goals.{in-Some-declaration+in-Some-first_cid+in_ok-push, in_default-declaration}

pub returns-in_default-first_cid : goal.returns-in_default-first_cid
returns-in_default-first_cid g c =
    let kind = g.K.Counting.kind in let last = c.in-Some.stretch.last in let old = c.loop-next.invariant in
    let says = said_by cid_entry_seen cid_span kind.at c.loop-next.stretches.declarations c.args.table.now c.loop-next.stretches.next c.loop-next.next last _ _
    old.declarations old.next (ap option_copied c.in-Some-declaration.is) c.in-Some.ensures.same in
    (last, c.in-Some.ensures.within.1, subst kind.IsLost (sym (says last (omega (arith, c.in-Some.ensures.within)) (omega arith))) c.in_default-first_cid.ensures)

pub loop-next-preserved : goal.loop-next-preserved
loop-next-preserved g c =
    let kind = g.K.Counting.kind in let entries = entries_seen c.args.table.now in let last = c.in-Some.stretch.last in let next = c.loop-next.next in let old = c.loop-next.invariant in
    let within = c.in-Some.ensures.within in let list = c.match-stretch.list in
    let made : AreTidyOf kind (entries_seen list.items) × SaysSoFar cid_span kind.at entries (last + 1) (entries_seen list.items) =
    elim c.match-stretch.branch [
      | in-Some-declaration+in-Some-first_cid+in_ok-push w ↦
          let says = said_by cid_entry_seen cid_span kind.at c.loop-next.stretches.declarations c.args.table.now c.loop-next.stretches.next next last _ _
          old.declarations old.next (ap option_copied w.in-Some-declaration.is) c.in-Some.ensures.same in
          let pushed = w.in_ok-push.ensures in
          subst (λ l. AreTidyOf kind (entries_seen l.items) × SaysSoFar cid_span kind.at entries (last + 1) (entries_seen l.items)) (sym w.list-is) (
            pushed.tidy,
            added_on cid_span kind.at entries next last _ _ (λ code. kind.told (kind.moved w.in-Some-first_cid.cid (code - next))) old.so_far pushed.said pushed.last
                (λ code from to. says code from to ∙ ap (λ o. Some o) (w.in-Some-first_cid.ensures.1 code from to)),
          )
      | in_default-declaration w ↦
          let says = said_by cid_entry_seen cid_span kind.at c.loop-next.stretches.declarations c.args.table.now c.loop-next.stretches.next next last _ _
          old.declarations old.next (ap option_copied w.in_default-declaration.is) c.in-Some.ensures.same in
          subst (λ l. AreTidyOf kind (entries_seen l.items) × SaysSoFar cid_span kind.at entries (last + 1) (entries_seen l.items)) (sym w.list-is)
          (old.tidy, passed_over cid_span kind.at entries next last _ old.so_far (omega (arith, within)) says)
    ]
    in
    record {
      declarations = c.in-Some.ensures.declarations ∙ old.declarations;
      next = omega (arith, c.in-Some.ensures.next);
      fits = omega (arith, within);
      tidy = made.0;
      so_far = subst (λ end. SaysSoFar cid_span kind.at entries (end + 1) (entries_seen list.items)) (sym c.from-next.ensures) made.1;
    }
