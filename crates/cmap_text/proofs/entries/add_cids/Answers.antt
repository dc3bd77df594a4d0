use Rattle.std.proofs.Common.{refl, sym, ◌∷◌, [], ap, ◌∙◌}
use Rattle.cmap_values.specs.CodeLengths.{length_of}
use Rattle.cmap_values.specs.DeclarationsSeen.{cid_entry_seen, lists_seen}
use Rattle.cmap_text.specs.TextFiles.{declares_cid}
use Rattle.cmap_text.specs.TextReading.{adding}
use Rattle.cmap_text.specs.TextSeen.{code_seen, extent_seen, kind_seen}
use Rattle.cmap_text.specs.declared.entries.CidKind.{CidKind}
use Rattle.cmap_text.proofs.EntrySteps.{cids_added, cids_wrong}
use Rattle.cmap_text.proofs.Refusals.{no_memory, none_refused, passed_on}
use Rattle.cmap_text.proofs.TokenParsers.{err-ok}
use Rattle.cmap_text.proofs.entries.add_cids.Goals as goal

pub returns-in_err-filed : goal.returns-in_err-filed
returns-in_err-filed c = record {
  adds = passed_on c.from_residual.result _ _ c.read_cids.new.reader _ _ c.from_residual.ensures.1 c.in_err-filed.ensures.1 (cids_wrong (kind_seen c.args.kind) (extent_seen c.args.extent) (code_seen c.args.start) (lists_seen c.args.lists.now) c.args.reader.now);
  stays = λ wrong is. refl;
}

pub returns-in_err-add_cid-in-Cid : goal.returns-in_err-add_cid-in-Cid
returns-in_err-add_cid-in-Cid c = record {
  adds = no_memory c.from_residual-in_err-add_cid-in-Cid.result _ _ _ c.from_residual-in_err-add_cid-in-Cid.ensures.1;
  stays = none_refused c.from_residual-in_err-add_cid-in-Cid.result _ c.from_residual-in_err-add_cid-in-Cid.ensures.1;
}

pub returns-in_err-add_notdef-in-Notdef : goal.returns-in_err-add_notdef-in-Notdef
returns-in_err-add_notdef-in-Notdef c = record {
  adds = no_memory c.from_residual-in_err-add_notdef-in-Notdef.result _ _ _ c.from_residual-in_err-add_notdef-in-Notdef.ensures.1;
  stays = none_refused c.from_residual-in_err-add_notdef-in-Notdef.result _ c.from_residual-in_err-add_notdef-in-Notdef.ensures.1;
}

pub returns-in_ok-add_cid-in-Cid : goal.returns-in_ok-add_cid-in-Cid
returns-in_ok-add_cid-in-Cid c =
    let lists = lists_seen c.args.lists.now in
    let filed = c.in_ok-filed.filed in
    let declares = λ (kind : CidKind). adding lists (declares_cid (kind_seen kind) (length_of filed.len) (cid_entry_seen filed.range) ∷ []) in
    record {
      adds = (cids_added (kind_seen c.args.kind) (extent_seen c.args.extent) (code_seen c.args.start) lists c.args.reader.now (length_of filed.len, cid_entry_seen filed.range) c.read_cids.new.reader c.in_ok-filed.ensures.0 (lists_seen c.add_cid.new.self) (c.in_ok-add_cid-in-Cid.ensures.added ∙ ap declares (sym c.in-Cid.is)), tt);
      stays = λ wrong is. absurd (err-ok _ _ (sym is));
    }

pub returns-in_ok-add_notdef-in-Notdef : goal.returns-in_ok-add_notdef-in-Notdef
returns-in_ok-add_notdef-in-Notdef c =
    let lists = lists_seen c.args.lists.now in
    let filed = c.in_ok-filed.filed in
    let declares = λ (kind : CidKind). adding lists (declares_cid (kind_seen kind) (length_of filed.len) (cid_entry_seen filed.range) ∷ []) in
    record {
      adds = (cids_added (kind_seen c.args.kind) (extent_seen c.args.extent) (code_seen c.args.start) lists c.args.reader.now (length_of filed.len, cid_entry_seen filed.range) c.read_cids.new.reader c.in_ok-filed.ensures.0 (lists_seen c.add_notdef.new.self) (c.in_ok-add_notdef-in-Notdef.ensures.added ∙ ap declares (sym c.in-Notdef.is)), tt);
      stays = λ wrong is. absurd (err-ok _ _ (sym is));
    }
