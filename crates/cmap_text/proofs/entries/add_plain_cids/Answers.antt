use Rattle.std.proofs.Common.{refl}
use Rattle.std.proofs.lemmas.Result.{IfOk-from_err}
use Rattle.cmap_values.specs.CodeLengths.{length_of}
use Rattle.cmap_values.specs.DeclarationsSeen.{cid_entry_seen, lists_seen}
use Rattle.cmap_text.specs.TextFiles.{cids, mapped}
use Rattle.cmap_text.specs.TextSeen.{extent_seen}
use Rattle.cmap_text.proofs.EntriesRead.{code_starts}
use Rattle.cmap_text.proofs.EntrySteps.{cids_added}
use Rattle.cmap_text.proofs.Refusals.{only_memory}
use Rattle.cmap_text.proofs.entries.add_plain_cids.Goals as goal

pub returns-in_default : goal.returns-in_default
returns-in_default c = record { adds = (c.in_default.ensures, refl); fails = tt }

pub returns-in_err-add_cid : goal.returns-in_err-add_cid
returns-in_err-add_cid c = record {
  adds = IfOk-from_err c.from_residual.result _ c.from_residual.ensures.0;
  fails = only_memory c.from_residual.result c.from_residual.ensures.1;
}

pub returns : goal.returns
returns c =
    let extent = extent_seen c.args.extent in
    let filed = c.in-Some.filed in
    let (piece, start, next, reads, is, cids_are) = c.in-Some.ensures in
    record {
      adds = (
        start,
        next,
        code_starts (cids mapped extent) c.args.reader.now next piece start reads is,
        cids_added mapped extent start (lists_seen c.args.lists.now) next (length_of filed.len, cid_entry_seen filed.range) c.plain_cids.new.reader cids_are (lists_seen c.add_cid.new.self) c.in_ok-add_cid.ensures.added,
      );
      fails = tt;
    }
