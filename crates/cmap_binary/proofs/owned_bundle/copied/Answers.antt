use Rattle.cmap_values.specs.NamesSeen.{names_seen}
use Rattle.std.proofs.Common.{ap, sym, ◌∙◌, [], ◌∷◌, ◌++◌}
use Rattle.std.proofs.lemmas.List.{map-append, map_more, take_all}
use Rattle.std.proofs.lemmas.Result.{IfOk-from_err}
use Rattle.cmap_binary.specs.Copies.{copies_seen}
use Rattle.cmap_binary.proofs.owned_bundle.copied.Goals as goal

pub loop-file-preserved : goal.loop-file-preserved
loop-file-preserved c =
    ap copies_seen c.in_ok-push.ensures.items ∙ map-append (λ copy. copy.items) _ _
    ∙ (λ k. c.loop-file.invariant k ++ c.in_ok-copy.ensures.items k ∷ [])
    ∙ sym (map_more (λ file. file.now) _ c.loop-file.file-index _ c.loop-file-test.true)

pub returns-in_err-copies : goal.returns-in_err-copies
returns-in_err-copies c = IfOk-from_err _ _ c.from_residual.ensures.0

pub returns-in_err-copy : goal.returns-in_err-copy
returns-in_err-copy c = IfOk-from_err _ _ c.from_residual-in_err-copy.ensures.0

pub returns-in_err-push : goal.returns-in_err-push
returns-in_err-push c = IfOk-from_err _ _ c.from_residual-in_err-push.ensures.0

pub returns : goal.returns
returns c = c.loop-file.invariant ∙ ap names_seen (take_all c.loop-file.file-index c.args.files.now c.loop-file-test.false)
