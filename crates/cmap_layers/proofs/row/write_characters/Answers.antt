use Rattle.std.proofs.Common.{◌≡◌, drop, map, ◌+◌, ◌-◌, Some, None, sym, ap, ◌∙◌, subst, rules, arith}
use borrow.Rule.Slice.PartMut.{mid_of}
use Rattle.std.specs.Prelude.{slice_index, unwrap_or}
use Rattle.std.specs.Option.{option_copied}
use Rattle.std.proofs.lemmas.List.{length-take, places}
use Rattle.cmap_runs.specs.Stretches.{IsStretch}
use Rattle.cmap_values.specs.DeclarationsSeen.{bf_entry_seen, bf_range_span}
use Rattle.cmap_tokens.specs.Texts.{only_character}
use Rattle.cmap_layers.specs.Lookups.{bf_at}
use Rattle.cmap_layers.specs.RowsWritten.{character_said}
use Rattle.cmap_layers.proofs.RowWritten.{character_said_in, gap_written, part_written, starts_before, written_all, written_none}
use Rattle.cmap_layers.proofs.row.write_characters.Goals as goal

pub loop-from-preserved-in-Some-declaration : goal.loop-from-preserved-in-Some-declaration
loop-from-preserved-in-Some-declaration c =
    let said = character_said (map bf_entry_seen c.args.table.now) in let stretches = c.loop-from.stretches in let last = c.in-Some.stretch.last in
    let d = c.in-Some-declaration.declaration.now in let first = c.args.first in let from = c.loop-from.from in let end = c.end_in_row-end.result in let old = c.loop-from.invariant in
    let begins : stretches.next ≡ first + from = old.next c.loop-from-test.true in
    let same = subst (λ o. IsStretch bf_range_span stretches.declarations stretches.next last (option_copied o)) c.in-Some-declaration.is c.in-Some.ensures.same in
    let here = subst (λ list. IsStretch bf_range_span list stretches.next last (Some d)) old.declarations same in
    let within = c.in-Some.ensures.within in
    record {
      declarations = c.in-Some.ensures.declarations ∙ old.declarations;
      next = λ more. omega (arith, c.in-Some.ensures.next);
      within = omega arith;
      fits = omega arith;
      written = part_written said first c.args.cids.now c.loop-from.cids c.write_text.new.cids from end old.written (search (rules, places)) (omega arith) (omega arith)
          (λ j lt.
          let is = character_said_in c.args.table.now stretches.next last (first + (from + j)) (Some d) here (omega arith) (omega arith) in
          let was = slice_index (mid_of from (end - from) c.loop-from.cids) j in
          let at : first + from + j ≡ first + (from + j) = omega arith in
          c.write_text.ensures j lt ∙ ap (λ code. unwrap_or (only_character (bf_at (bf_entry_seen d) code)) was) at ∙ sym (ap (λ o. unwrap_or o was) is));
    }

pub loop-from-preserved : goal.loop-from-preserved
loop-from-preserved c =
    let said = character_said (map bf_entry_seen c.args.table.now) in let stretches = c.loop-from.stretches in let last = c.in-Some.stretch.last in
    let first = c.args.first in let from = c.loop-from.from in let end = c.end_in_row-end.result in let old = c.loop-from.invariant in
    let begins : stretches.next ≡ first + from = old.next c.loop-from-test.true in
    let same = subst (λ o. IsStretch bf_range_span stretches.declarations stretches.next last (option_copied o)) c.in_default-declaration.is c.in-Some.ensures.same in
    let here = subst (λ list. IsStretch bf_range_span list stretches.next last None) old.declarations same in
    let within = c.in-Some.ensures.within in
    record {
      declarations = c.in-Some.ensures.declarations ∙ old.declarations;
      next = λ more. omega (arith, c.in-Some.ensures.next);
      within = omega arith;
      fits = omega arith;
      written = gap_written said first c.args.cids.now c.loop-from.cids from end old.written
          (λ k le lt. character_said_in c.args.table.now stretches.next last (first + k) None here (omega arith) (omega arith)) (omega arith);
    }

pub loop-from-init : goal.loop-from-init
loop-from-init c = record { declarations = c.stretches-stretches.ensures.declarations; next = λ some. omega (arith, c.stretches-stretches.ensures.next); within = omega arith; fits = omega arith; written = written_none _ c.args.first c.args.cids.now }

pub write_text-requires-clause-start : goal.write_text-requires-clause-start
write_text-requires-clause-start c =
    let begins = c.loop-from.invariant.next c.loop-from-test.true in
    omega (arith, begins, starts_before (bf_range_span c.in-Some-declaration.declaration.now) c.loop-from.stretches.next (rw c.in-Some-declaration.is at c.in-Some.ensures.contains))

pub write_text-requires-clause-fits : goal.write_text-requires-clause-fits
write_text-requires-clause-fits c = omega (arith, c.in-Some.ensures.within, c.end_in_row-end.ensures, length-take (c.end_in_row-end.result - c.loop-from.from) (drop c.loop-from.from c.loop-from.cids))

pub returns-after-loop-from : goal.returns-after-loop-from
returns-after-loop-from c = written_all _ c.args.first c.args.cids.now c.loop-from.cids c.loop-from.from c.loop-from.invariant.written c.loop-from.invariant.fits (λ k lt fits. omega arith)

pub returns-in_default : goal.returns-in_default
returns-in_default c = written_all _ c.args.first c.args.cids.now c.loop-from.cids c.loop-from.from c.loop-from.invariant.written c.loop-from.invariant.fits (λ k lt fits. omega (arith, c.in_default.ensures))
