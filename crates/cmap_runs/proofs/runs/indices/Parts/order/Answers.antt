use Rattle.std.proofs.Common.{◌≡◌, ◌∷◌, sym, subst}
use Rattle.std.specs.Prelude.{Some, slice_get}
use Rattle.std.specs.List.Sorted.{IsPermutation}
use Rattle.std.proofs.lemmas.List.Sorted.{IsPermutation-cons, IsPermutation-refl, IsPermutation-trans}
use Rattle.cmap_runs.specs.Parts.{all_parts}
use Rattle.cmap_runs.specs.declared.runs.indices.Parts.{Parts}
use Rattle.cmap_runs.proofs.PartsLeft.{first_swapped}
use Rattle.cmap_runs.proofs.runs.indices.Parts.order.Goals as goal
use Rattle.cmap_runs.proofs.runs.indices.Parts.order.Goals.{then-other-first, else-other-first}

pub returns : goal.returns
returns c =
    let old = all_parts c.args.self.now in let middle = c.if-other-first.self in
    let ordered : IsPermutation old (all_parts middle) =
    elim c.if-other-first.branch [
      | then-other-first w ↦ subst (λ (parts : Parts). IsPermutation old (all_parts parts)) (sym w.self-is)
          (first_swapped c.args.self.now.first c.in-Some.other.now c.args.self.now.others.items
          (subst (λ items. slice_get items 0 ≡ Some c.in-Some.other.now) c.deref.ensures.value (sym c.in-Some.ensures.value)))
      | else-other-first w ↦ subst (λ (parts : Parts). IsPermutation old (all_parts parts)) (sym w.self-is) (IsPermutation-refl old)
    ]
    in
    IsPermutation-trans old (all_parts middle) (middle.first ∷ c.move_first.new.parts.items) ordered (IsPermutation-cons middle.first middle.others.items c.move_first.new.parts.items c.move_first.ensures)
