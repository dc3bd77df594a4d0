use Rattle.std.proofs.Common.{◌≡◌, ◌++◌, arith, subst}
use Rattle.std.specs.Prelude.{All, flat_map}
use Rattle.std.proofs.lemmas.List.{take_all}
use Rattle.cmap_values.specs.DeclarationsSeen.{cid_entry_seen, entries_seen}
use Rattle.cmap_values.specs.CodeLengths.{length_of}
use Rattle.cmap_text.specs.TextSeen.{extent_seen}
use Rattle.cmap_text_writer.specs.Fits.{IsSmallCid}
use Rattle.cmap_text_writer.specs.Spelled.{cid_spelled}
use Rattle.cmap_text_writer.proofs.EntriesTold.{small_more}
use Rattle.cmap_text_writer.proofs.Walked.{none_written, one_seen}
use Rattle.cmap_text_writer.proofs.entries.push_cid_entries.Goals as goal

pub loop-entry-init : goal.loop-entry-init
loop-entry-init c = none_written IsSmallCid c.args.out.now.items

pub loop-entry-preserved : goal.loop-entry-preserved
loop-entry-preserved c =
    let entries = c.args.entries.now in
    let i = c.loop-entry.entry-index in (
      one_seen (cid_spelled (length_of c.args.len) (extent_seen c.args.extent)) cid_entry_seen entries i _ c.args.out.now.items c.loop-entry.out.items c.push_cid.new.out.items (omega arith) c.loop-entry.invariant.0 c.in_ok-push_cid.ensures.written,
      small_more cid_entry_seen entries i _ (omega arith) c.loop-entry.invariant.1 c.in_ok-push_cid.ensures.end c.in_ok-push_cid.ensures.cid,
    )

pub returns-clause-written : goal.returns-clause-written
returns-clause-written c =
    let spell = cid_spelled (length_of c.args.len) (extent_seen c.args.extent) in
    subst (λ xs. c.loop-entry.out.items ≡ c.args.out.now.items ++ flat_map spell (entries_seen xs)) (take_all c.loop-entry.entry-index c.args.entries.now c.loop-entry-test.false) c.loop-entry.invariant.0

pub returns-clause-small : goal.returns-clause-small
returns-clause-small c = subst (λ xs. All IsSmallCid (entries_seen xs)) (take_all c.loop-entry.entry-index c.args.entries.now c.loop-entry-test.false) c.loop-entry.invariant.1
