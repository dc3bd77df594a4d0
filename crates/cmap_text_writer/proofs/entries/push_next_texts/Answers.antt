use Rattle.std.proofs.Common.{◌≡◌, ◌++◌, List, arith, map, subst}
use Rattle.std.specs.Prelude.{All, flat_map}
use Rattle.std.proofs.lemmas.List.{take_all}
use Rattle.cmap_values.specs.DeclarationsSeen.{bf_entry_seen}
use Rattle.cmap_values.specs.declared.declarations.BfRange.{BfRange}
use Rattle.cmap_text_writer.specs.Fits.{AreSmallUnits}
use Rattle.cmap_text_writer.specs.Layout.{next_text_spelled}
use Rattle.cmap_text_writer.proofs.ArraysTold.{next_more, texts_of, units_more}
use Rattle.cmap_text_writer.proofs.Walked.{none_written}
use Rattle.cmap_text_writer.proofs.entries.push_next_texts.Goals as goal

pub loop-entry-init : goal.loop-entry-init
loop-entry-init c = none_written AreSmallUnits c.args.out.now.items

pub loop-entry-preserved : goal.loop-entry-preserved
loop-entry-preserved c =
    let entries = c.args.entries.now in
    let i = c.loop-entry.entry-index in
    let wrote = c.in_ok-push_next_units.ensures in (
      next_more entries i c.entry-item.result c.as_slice.result.now c.args.out.now.items c.loop-entry.out.items c.push_next_units.new.out.items (omega arith) c.entry-item.is c.as_slice.ensures c.loop-entry.invariant.0 wrote.written,
      units_more entries i c.entry-item.result c.as_slice.result.now (omega arith) c.entry-item.is c.as_slice.ensures wrote.small c.loop-entry.invariant.1,
    )

pub returns-clause-written : goal.returns-clause-written
returns-clause-written c = subst (λ (xs : List BfRange). c.loop-entry.out.items ≡ c.args.out.now.items ++ flat_map next_text_spelled (texts_of (map bf_entry_seen xs))) (take_all c.loop-entry.entry-index c.args.entries.now c.loop-entry-test.false) c.loop-entry.invariant.0

pub returns-clause-small : goal.returns-clause-small
returns-clause-small c = subst (λ (xs : List BfRange). All AreSmallUnits (texts_of (map bf_entry_seen xs))) (take_all c.loop-entry.entry-index c.args.entries.now c.loop-entry-test.false) c.loop-entry.invariant.1
