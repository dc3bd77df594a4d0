use Rattle.std.proofs.Common.{◌+◌, ◌-◌, Some, ap, ◌∙◌, map, sym, subst, arith}
use Rattle.std.specs.Option.{option_copied}
use Rattle.cmap_layers.specs.Lookups.{bf_span}
use Rattle.cmap_values.specs.DeclarationsSeen.{bf_entry_seen}
use Rattle.cmap_tokens.specs.Texts.{shifted}
use Rattle.cmap_values.specs.UnitsSeen.{units_seen}
use Rattle.cmap_edit.specs.Tidy.{AreTidyTexts, units_at}
use Rattle.cmap_edit.specs.TidyAdded.{GivesTexts, SaysSoFar}
use Rattle.cmap_edit.proofs.SaidSoFar.{added_on, passed_over, said_by}
use Rattle.cmap_edit.proofs.tidy.text_lists.texts_by_runs.Goals as goal
use Rattle.cmap_edit.proofs.tidy.text_lists.texts_by_runs.Goals.{in-Some-declaration+in_ok-units+in-Some-2+in_ok-push_units, in_default-declaration}

pub returns-in_default-2 : goal.returns-in_default-2
returns-in_default-2 c =
    let last = c.in-Some.stretch.last in let old = c.loop-next.invariant in
    let says = said_by bf_entry_seen bf_span units_at c.loop-next.stretches.declarations c.args.table.now c.loop-next.stretches.next c.loop-next.next last _ _
    old.declarations old.next (ap option_copied c.in-Some-declaration.is) c.in-Some.ensures.same in
    (last, c.in-Some.ensures.within.1, says last (omega (arith, c.in-Some.ensures.within)) (omega arith) ∙ ap (λ o. Some o) (rw c.in_default-2.is at c.in_ok-units.ensures))

pub loop-next-preserved : goal.loop-next-preserved
loop-next-preserved c =
    let entries = map bf_entry_seen c.args.table.now in let last = c.in-Some.stretch.last in let next = c.loop-next.next in let old = c.loop-next.invariant in
    let within = c.in-Some.ensures.within in let list = c.match-stretch.list in
    let made : AreTidyTexts (map bf_entry_seen list.items) × SaysSoFar bf_span units_at entries (last + 1) (map bf_entry_seen list.items) =
    elim c.match-stretch.branch [
      | in-Some-declaration+in_ok-units+in-Some-2+in_ok-push_units w ↦
          let says = said_by bf_entry_seen bf_span units_at c.loop-next.stretches.declarations c.args.table.now c.loop-next.stretches.next next last _ _
          old.declarations old.next (ap option_copied w.in-Some-declaration.is) c.in-Some.ensures.same in
          let pushed = w.in_ok-push_units.ensures in
          let gives : GivesTexts (bf_entry_seen w.in-Some-declaration.declaration.now) (record { start = next; end = last }) (units_seen w.in-Some-2.units) = rw w.in-Some-2.is at w.in_ok-units.ensures in
          subst (λ l. AreTidyTexts (map bf_entry_seen l.items) × SaysSoFar bf_span units_at entries (last + 1) (map bf_entry_seen l.items)) (sym w.list-is) (
            pushed.tidy,
            added_on bf_span units_at entries next last _ _ (λ code. shifted (units_seen w.in-Some-2.units) (code - next)) old.so_far pushed.said pushed.last
                (λ code from to. says code from to ∙ ap (λ o. Some o) (gives.2 code from)),
          )
      | in_default-declaration w ↦
          let says = said_by bf_entry_seen bf_span units_at c.loop-next.stretches.declarations c.args.table.now c.loop-next.stretches.next next last _ _
          old.declarations old.next (ap option_copied w.in_default-declaration.is) c.in-Some.ensures.same in
          subst (λ l. AreTidyTexts (map bf_entry_seen l.items) × SaysSoFar bf_span units_at entries (last + 1) (map bf_entry_seen l.items)) (sym w.list-is)
          (old.tidy, passed_over bf_span units_at entries next last _ old.so_far (omega (arith, within)) says)
    ]
    in
    record {
      declarations = c.in-Some.ensures.declarations ∙ old.declarations;
      next = omega (arith, c.in-Some.ensures.next);
      fits = omega (arith, within);
      tidy = made.0;
      so_far = subst (λ end. SaysSoFar bf_span units_at entries (end + 1) (map bf_entry_seen list.items)) (sym c.from-next.ensures) made.1;
    }
