use Rattle.std.proofs.Common.{append-nil, arith, sym}
use Rattle.std.proofs.lemmas.List.Elements.{All-nil}
use Rattle.cmap_values.specs.CodeLengths.{length_of}
use Rattle.cmap_values.specs.DeclarationsSeen.{cid_entry_seen}
use Rattle.cmap_values.proofs.Outcomes.{passed_on}
use Rattle.cmap_binary_writer.specs.Fields.{NotdefFits, notdef_bytes}
use Rattle.cmap_binary_writer.proofs.ObstaclesMet.{notdef_among}
use Rattle.cmap_binary_writer.proofs.RowsAdded.{fits_done, fits_more, seen_done, seen_more}
use Rattle.cmap_binary_writer.proofs.notdefs.push_entries.Goals as goal

pub loop-entry-init : goal.loop-entry-init
loop-entry-init c = record { fit = All-nil (NotdefFits (length_of c.args.len)); bytes = sym (append-nil c.args.out.now.items) }

pub loop-entry-preserved : goal.loop-entry-preserved
loop-entry-preserved c =
    let len = length_of c.args.len in
    let pushed = c.in_ok-push_notdef.ensures.0 in
    record {
      fit = fits_more (notdef_bytes len) cid_entry_seen c.args.entries.now c.loop-entry.entry-index c.args.out.now.items c.loop-entry.out.items (NotdefFits len) _ (omega arith) c.loop-entry.invariant.fit pushed.0;
      bytes = seen_more (notdef_bytes len) cid_entry_seen c.args.entries.now c.loop-entry.entry-index c.args.out.now.items c.loop-entry.out.items _ c.push_notdef.new.out.items (omega arith) c.loop-entry.invariant.bytes pushed.1;
    }

pub returns : goal.returns
returns c =
    let len = length_of c.args.len in (
      (
        fits_done (notdef_bytes len) cid_entry_seen c.args.entries.now c.loop-entry.entry-index c.args.out.now.items c.loop-entry.out.items (NotdefFits len) c.loop-entry-test.false c.loop-entry.invariant.fit,
        seen_done (notdef_bytes len) cid_entry_seen c.args.entries.now c.loop-entry.entry-index c.args.out.now.items c.loop-entry.out.items c.loop-entry-test.false c.loop-entry.invariant.bytes,
      ),
      tt,
    )

pub returns-in_err-push_notdef : goal.returns-in_err-push_notdef
returns-in_err-push_notdef c = passed_on _ _ _ c.from_residual.ensures.1 c.in_err-push_notdef.ensures.1 (notdef_among (length_of c.args.len) c.args.entries.now c.loop-entry.entry-index _ (omega arith))
