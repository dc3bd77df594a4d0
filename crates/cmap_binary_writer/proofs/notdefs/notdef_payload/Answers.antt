use Rattle.std.proofs.Common.{◌∙◌, ◌++◌, ◌∷◌, [], ap, length, sym}
use Rattle.std.specs.List.{flat_map}
use Rattle.std.proofs.lemmas.List.{length-map}
use Rattle.cmap_values.specs.CodeLengths.{length_of}
use Rattle.cmap_values.specs.DeclarationsSeen.{cid_entry_seen, entries_seen}
use Rattle.cmap_values.proofs.Outcomes.{passed_on}
use Rattle.cmap_binary_writer.specs.Fields.{notdef_bytes}
use Rattle.cmap_binary_writer.specs.Written.{bytes_of}
use Rattle.cmap_binary_writer.proofs.ObstaclesMet.{memory_passed_on}
use Rattle.cmap_binary_writer.proofs.notdefs.notdef_payload.Goals as goal

pub returns : goal.returns
returns c =
    let entries = c.args.entries.now in
    let rows = flat_map (notdef_bytes (length_of c.args.len)) (entries_seen entries) in
    let pushed = c.in_ok-push_entries.ensures.0 in
    let begins = c.in_ok-push.ensures.items ∙ ap (λ bs. bs ++ c.count.result ∷ []) c.new-payload.ensures.items ∙ ap (λ n. n ∷ []) c.count.ensures in
    let size = sym (length-map entries cid_entry_seen) in
    ((pushed.0, pushed.1 ∙ ap (λ bs. bs ++ rows) (c.in_ok-push_number.ensures ∙ ap (λ bs. bs ++ bytes_of 2 (length entries)) begins ∙ ap (λ n. length_of c.args.len ∷ bytes_of 2 n) size)), tt)

pub returns-in_err-push : goal.returns-in_err-push
returns-in_err-push c = memory_passed_on _ _ _ c.from_residual.ensures.1

pub returns-in_err-push_number : goal.returns-in_err-push_number
returns-in_err-push_number c = memory_passed_on _ _ _ c.from_residual-in_err-push_number.ensures.1

pub returns-in_err-push_entries : goal.returns-in_err-push_entries
returns-in_err-push_entries c = passed_on _ _ _ c.from_residual-in_err-push_entries.ensures.1 c.in_err-push_entries.ensures.1 (λ o h. h)
