use Rattle.std.proofs.Common.{true, false, None, Some, map, sym, ap, ◌∙◌}
use Rattle.cmap_values.specs.DeclarationsSeen.{bf_entry_seen, slot}
use Rattle.cmap_layers.specs.Lookups.{last_cid}
use Rattle.cmap_layers.specs.LayersDecide.{character_at, other_cid}
use Rattle.cmap_layers.proofs.LastFound.{decided_other, no_character, no_last_bf, no_last_cid, other_character, searched}
use Rattle.cmap_layers.proofs.LayersSearched.{looks_first, looks_others}
use Rattle.cmap_layers.proofs.lookup.decided_by.Goals as goal

pub returns-in-Some-clause-value : goal.returns-in-Some-clause-value
returns-in-Some-clause-value c =
    let found = c.in-Some.ensures.found ∙ ap (λ entries. last_cid entries c.args.code) c.table_of-cids.ensures in
    rw (← found) (ap Some c.counted_cid.ensures)

pub returns-in-Some-clause-looks : goal.returns-in-Some-clause-looks
returns-in-Some-clause-looks c = looks_first c.args.looks.now c.find_cid.new.looks _ _ _ true (rw c.table_of-cids.ensures at c.in-Some.ensures.looks)

pub returns-then-end_before-clause-value : goal.returns-then-end_before-clause-value
returns-then-end_before-clause-value c =
    let code = c.args.code in let others = c.args.layer.now.others in
    let none = c.in_default.ensures.found ∙ ap (λ entries. last_cid entries code) c.table_of-cids.ensures in
    let no_notdef = ap (λ entries. last_cid entries code) (searched others.notdefs c.args.len) ∙ no_last_cid (slot others.notdefs c.args.len) code (c.end_before.ensures.notdefs c.if-end_before.true c.args.len) in
    let no_text = no_character (map bf_entry_seen others.bfs) code (no_last_bf others.bfs code (c.end_before.ensures.bfs c.if-end_before.true)) in
    decided_other code _ _ _ None none (sym no_text ∙ other_character _ _ no_notdef)

pub returns-then-end_before-clause-looks : goal.returns-then-end_before-clause-looks
returns-then-end_before-clause-looks c = looks_first c.args.looks.now c.find_cid.new.looks _ _ _ false (rw c.table_of-cids.ensures at c.in_default.ensures.looks)

pub returns-in_err-cid-clause-value : goal.returns-in_err-cid-clause-value
returns-in_err-cid-clause-value c =
    let code = c.args.code in let character = character_at (map bf_entry_seen c.args.layer.now.others.bfs) code in
    let none = c.in_default.ensures.found ∙ ap (λ entries. last_cid entries code) c.table_of-cids.ensures in
    let other = (rw c.bfs.ensures at c.in_err-cid.ensures.value) ∙ ap (λ entries. other_cid (last_cid entries code) character) (rw c.notdefs.ensures at c.table_of-notdefs.ensures) in
    c.from_residual.ensures ∙ decided_other code _ _ character None none other

pub returns-clause-value : goal.returns-clause-value
returns-clause-value c =
    let code = c.args.code in let character = character_at (map bf_entry_seen c.args.layer.now.others.bfs) code in
    let none = c.in_default.ensures.found ∙ ap (λ entries. last_cid entries code) c.table_of-cids.ensures in
    let other = (rw c.bfs.ensures at c.in_ok-cid.ensures.value) ∙ ap (λ entries. other_cid (last_cid entries code) character) (rw c.notdefs.ensures at c.table_of-notdefs.ensures) in
    decided_other code _ _ character (Some c.in_ok-cid.cid) none other

pub returns-in_err-cid-clause-looks : goal.returns-in_err-cid-clause-looks
returns-in_err-cid-clause-looks c = rw c.from_residual.ensures (looks_others c.args.looks.now c.find_cid.new.looks c.other_cid.new.looks _ _ _ false (rw c.table_of-cids.ensures at c.in_default.ensures.looks) (rw (c.table_of-notdefs.ensures, c.notdefs.ensures, c.bfs.ensures) at c.in_err-cid.ensures.looks))

pub returns-clause-looks : goal.returns-clause-looks
returns-clause-looks c = looks_others c.args.looks.now c.find_cid.new.looks c.other_cid.new.looks _ _ _ true (rw c.table_of-cids.ensures at c.in_default.ensures.looks) (rw (c.table_of-notdefs.ensures, c.notdefs.ensures, c.bfs.ensures) at c.in_ok-cid.ensures.looks)
