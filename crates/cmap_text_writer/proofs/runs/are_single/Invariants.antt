use Rattle.std.proofs.Common.{◌≡◌, take}
use Rattle.std.specs.Prelude.{All}
use Rattle.cmap_text_writer.proofs.runs.are_single.Given as goal

abbrev pub invariant-loop-entry : goal.invariant-loop-entry
invariant-loop-entry g l = All (λ e. (g.T.HasRange.span e).start ≡ (g.T.HasRange.span e).end) (take l.entry-index l.entries)
