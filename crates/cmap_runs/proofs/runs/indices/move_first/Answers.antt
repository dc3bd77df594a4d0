use Rattle.std.proofs.Common.{sym, subst, arith}
use Rattle.std.specs.List.Sorted.{IsPermutation}
use Rattle.std.proofs.lemmas.List.Sorted.{length_permutation}
use Rattle.cmap_runs.proofs.PartsLeft.{written_back}
use Rattle.cmap_runs.proofs.runs.indices.move_first.Goals as goal

pub returns : goal.returns
returns c =
    let parts = c.args.parts.now in let moved = c.move_first_of.new.parts in
    let is : IsPermutation parts.items moved = rw c.as_mut_slice.ensures.value at c.move_first_of.ensures in
    subst (IsPermutation parts.items) (sym (written_back parts.items moved parts.len (omega (arith, parts.ok.0, length_permutation parts.items moved is)))) is
