use Rattle.std.proofs.Common.{ap, ◌∙◌, append-nil}
use Rattle.std.proofs.lemmas.List.{map-append}
use Rattle.std.proofs.lemmas.Result.{IfOk-from_err}
use Rattle.cmap_values.specs.NamesSeen.{names_seen}
use Rattle.cmap_binary.specs.Fronts.{AllOf, FramedAt}
use Rattle.cmap_binary.proofs.Fronts.{all_end, all_more, all_start, all_wrong, continues_none, continues_only, emptied, filled, no_frame}
use Rattle.cmap_binary.proofs.bundle.split_files.Goals as goal

pub loop-bytes-init : goal.loop-bytes-init
loop-bytes-init c = rw c.new-files.ensures.items (all_start (AllOf (FramedAt 6) c.args.bytes.now))

pub returns-in_default : goal.returns-in_default
returns-in_default c = continues_none c.loop-bytes.invariant (all_wrong (FramedAt 6) _ (filled c.loop-bytes-test.ensures) c.in_default.ensures)

pub loop-bytes-preserved : goal.loop-bytes-preserved
loop-bytes-preserved c =
    let pushed = ap names_seen c.in_ok-push.ensures.items ∙ map-append (λ b. b.now) c.loop-bytes.files.items _ in
    rw pushed (all_more (FramedAt 6) _ c.loop-bytes.bytes.now _ _ _ c.loop-bytes.invariant (filled c.loop-bytes-test.ensures) c.in-Some.ensures)

pub returns : goal.returns
returns c =
    let only = continues_only c.loop-bytes.invariant (all_end (FramedAt 6) _ (emptied c.loop-bytes-test.ensures) (no_frame 6)) in
    rw append-nil at only

pub returns-in_err-push : goal.returns-in_err-push
returns-in_err-push c = IfOk-from_err _ _ c.from_residual.ensures.0
