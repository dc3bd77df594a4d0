use Rattle.std.specs.Borrow.{Bor}
use Rattle.std.proofs.Common.{ℕ, List, refl}
use Rattle.std.proofs.lemmas.List.{map-append}
use Rattle.cmap_binary.proofs.Fronts.{gives}
use Rattle.cmap_binary.proofs.RowsAdded.{out_of_memory}
use Rattle.cmap_binary.proofs.segments.add_use.Goals as goal

pub returns-in_err-push : goal.returns-in_err-push
returns-in_err-push c = out_of_memory _ _ c.from_residual.result c.from_residual.ensures.1

pub returns : goal.returns
returns c = (record { content = _; only = gives; says = rw (c.in_ok-push.ensures.items, map-append (λ (name : Bor (List ℕ)). name.now)) refl }, tt)
