use Rattle.std.proofs.Common.{◌∷◌, subst}
use Rattle.std.specs.List.Sorted.{IsPermutation}
use Rattle.std.proofs.lemmas.List.Sorted.{IsPermutation-trans}
use Rattle.cmap_runs.specs.Parts.{all_parts}
use Rattle.cmap_runs.proofs.PartsLeft.{two_swapped}
use Rattle.cmap_runs.proofs.runs.indices.Parts.add.Goals as goal

pub returns : goal.returns
returns c =
    let old = c.args.self.now in let part = c.args.part in let new = all_parts c.order.new.self in
    IsPermutation-trans (part ∷ old.first ∷ old.others.items) (old.first ∷ part ∷ old.others.items) new (two_swapped part old.first old.others.items)
    (subst (λ items. IsPermutation (old.first ∷ items) new) c.in_ok-insert.ensures.items c.order.ensures)
