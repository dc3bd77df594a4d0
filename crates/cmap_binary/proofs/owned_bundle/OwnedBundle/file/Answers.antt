use Rattle.cmap_binary.proofs.FilesAt.{copy_looked_up}
use Rattle.std.proofs.Common.{refl}
use Rattle.cmap_binary.proofs.owned_bundle.OwnedBundle.file.Goals as goal

pub returns-in_err-index : goal.returns-in_err-index
returns-in_err-index c = rw (c.from_residual.ensures, ← c.in_err-index.ensures) refl

pub returns : goal.returns
returns c =
    let copies = c.self.inside.files.items in
    let at = rw c.deref.ensures.value at c.get.ensures.lookup.3 in
    rw (← c.in_ok-index.ensures, ← c.self.view_is) (copy_looked_up _ (λ copy. copy.items) copies c.in_ok-index.field-0 c.get.result c.map.result at c.map.ensures.cases (λ x bytes gives. gives.0))
