use Rattle.std.proofs.Common.{append-nil, arith, sym}
use Rattle.std.proofs.lemmas.List.Elements.{All-nil}
use Rattle.cmap_values.specs.DeclarationsSeen.{codespace_seen}
use Rattle.cmap_values.proofs.Outcomes.{passed_on}
use Rattle.cmap_binary_writer.specs.Fields.{SpaceFits, space_bytes}
use Rattle.cmap_binary_writer.proofs.ObstaclesMet.{space_among}
use Rattle.cmap_binary_writer.proofs.RowsAdded.{fits_done, fits_more, seen_done, seen_more}
use Rattle.cmap_binary_writer.proofs.codespaces.push_spaces.Goals as goal

pub loop-space-init : goal.loop-space-init
loop-space-init c = record { fit = All-nil SpaceFits; bytes = sym (append-nil c.args.out.now.items) }

pub loop-space-preserved : goal.loop-space-preserved
loop-space-preserved c =
    let pushed = c.in_ok-push_space.ensures.0 in
    record {
      fit = fits_more space_bytes codespace_seen c.args.spaces.now c.loop-space.space-index c.args.out.now.items c.loop-space.out.items SpaceFits _ (omega arith) c.loop-space.invariant.fit pushed.0;
      bytes = seen_more space_bytes codespace_seen c.args.spaces.now c.loop-space.space-index c.args.out.now.items c.loop-space.out.items _ c.push_space.new.out.items (omega arith) c.loop-space.invariant.bytes pushed.1;
    }

pub returns : goal.returns
returns c = (
  (
    fits_done space_bytes codespace_seen c.args.spaces.now c.loop-space.space-index c.args.out.now.items c.loop-space.out.items SpaceFits c.loop-space-test.false c.loop-space.invariant.fit,
    seen_done space_bytes codespace_seen c.args.spaces.now c.loop-space.space-index c.args.out.now.items c.loop-space.out.items c.loop-space-test.false c.loop-space.invariant.bytes,
  ),
  tt,
)

pub returns-in_err-push_space : goal.returns-in_err-push_space
returns-in_err-push_space c = passed_on _ _ _ c.from_residual.ensures.1 c.in_err-push_space.ensures.1 (space_among c.args.spaces.now c.loop-space.space-index _ (omega arith))
