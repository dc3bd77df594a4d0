use Rattle.std.proofs.Common.{◌∙◌, ◌++◌, ◌∷◌, [], ap, length, map, sym}
use Rattle.std.specs.List.{flat_map}
use Rattle.std.proofs.lemmas.List.{length-map}
use Rattle.cmap_values.specs.DeclarationsSeen.{codespace_seen}
use Rattle.cmap_values.proofs.Outcomes.{passed_on}
use Rattle.cmap_binary_writer.specs.Fields.{space_bytes}
use Rattle.cmap_binary_writer.proofs.ObstaclesMet.{memory_passed_on}
use Rattle.cmap_binary_writer.proofs.codespaces.codespace_payload.Goals as goal

pub returns : goal.returns
returns c =
    let spaces = c.args.spaces.now in
    let pushed = c.in_ok-push_spaces.ensures.0 in
    let begun = c.in_ok-push.ensures.items ∙ ap (λ bs. bs ++ length spaces ∷ []) c.new-payload.ensures.items ∙ ap (λ n. n ∷ []) (sym (length-map spaces codespace_seen)) in
    ((pushed.0, pushed.1 ∙ ap (λ bs. bs ++ flat_map space_bytes (map codespace_seen spaces)) begun), tt)

pub returns-in_err-push : goal.returns-in_err-push
returns-in_err-push c = memory_passed_on _ _ _ c.from_residual.ensures.1

pub returns-in_err-push_spaces : goal.returns-in_err-push_spaces
returns-in_err-push_spaces c = passed_on _ _ _ c.from_residual-in_err-push_spaces.ensures.1 c.in_err-push_spaces.ensures.1 (λ o h. h)
