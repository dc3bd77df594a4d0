use Rattle.std.proofs.Common.{◌≡◌, ◌∙◌, ◌++◌, List, ap, arith, map, subst}
use Rattle.std.specs.Prelude.{All, flat_map}
use Rattle.std.proofs.lemmas.List.{take_all}
use Rattle.cmap_values.specs.DeclarationsSeen.{bf_entry_seen}
use Rattle.cmap_values.specs.declared.declarations.BfRange.{BfRange}
use Rattle.cmap_text_writer.specs.Fits.{IsSmallText}
use Rattle.cmap_text_writer.specs.Layout.{char_spelled}
use Rattle.cmap_text_writer.specs.Lengths.{text_length}
use Rattle.cmap_text_writer.proofs.Walked.{all_more, none_written, one_seen}
use Rattle.cmap_text_writer.proofs.entries.push_chars.Goals as goal

pub loop-entry-init : goal.loop-entry-init
loop-entry-init c = none_written IsSmallText c.args.out.now.items

pub loop-entry-preserved : goal.loop-entry-preserved
loop-entry-preserved c =
    let entries = c.args.entries.now in
    let i = c.loop-entry.entry-index in
    let entry = c.entry-item.result in
    let spell = char_spelled (text_length c.args.lengths) in
    let now = c.loop-entry.out.items in
    let wrote = c.in_ok-push_text.ensures in (
      one_seen spell bf_entry_seen entries i entry c.args.out.now.items now c.push_text.new.out.items (omega arith) c.loop-entry.invariant.0 (wrote.written ∙ ap (λ (x : BfRange). now ++ spell (bf_entry_seen x)) c.entry-item.is),
      all_more IsSmallText bf_entry_seen entries i entry (omega arith) c.loop-entry.invariant.1 (subst (λ x. IsSmallText (bf_entry_seen x)) c.entry-item.is wrote.small),
    )

pub returns-clause-written : goal.returns-clause-written
returns-clause-written c = subst (λ (xs : List BfRange). c.loop-entry.out.items ≡ c.args.out.now.items ++ flat_map (char_spelled (text_length c.args.lengths)) (map bf_entry_seen xs)) (take_all c.loop-entry.entry-index c.args.entries.now c.loop-entry-test.false) c.loop-entry.invariant.0

pub returns-clause-small : goal.returns-clause-small
returns-clause-small c = subst (λ (xs : List BfRange). All IsSmallText (map bf_entry_seen xs)) (take_all c.loop-entry.entry-index c.args.entries.now c.loop-entry-test.false) c.loop-entry.invariant.1
