use Rattle.std.proofs.Common.{ℕ, take}
use Rattle.std.specs.Prelude.{◌↔◌, Any}
use Rattle.cmap_values.specs.CodeLengths.{length_of}
use Rattle.cmap_layers.specs.CodeRanges.{IsIn}
use Rattle.cmap_edit.specs.Chosen.{Chosen}
use Rattle.cmap_edit.proofs.flatten.codes.codes_of_length.Given as goal

-- the list has those codes that the ranges so far choose
abbrev pub invariant-loop-one : goal.invariant-loop-one
invariant-loop-one l = (code : ℕ) → Any (λ one. IsIn code one.range) l.list.items ↔ Chosen (take l.one-index l.codes) code (length_of l.len)
