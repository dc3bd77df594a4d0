use Rattle.std.proofs.Common.{ℕ, ◌<◌, List, length, sym, ap, ◌∙◌, refl, subst, arith}
use Rattle.std.specs.Global.{Vec}
use Rattle.std.proofs.lemmas.Result.{IfOk-from_err}
use Rattle.cmap_codespaces.specs.SpaceBits.{AreBlocks, AreGroups, HaveLengths, HaveRows}
use Rattle.cmap_codespaces.proofs.spaces.Spaces.build.Goals as goal
use Rattle.cmap_codespaces.proofs.spaces.Spaces.build.Goals.{then-is_empty, then-len-lt-FEWEST_BLOCKS, else-is_empty+in_ok-lengths, else-len-lt-FEWEST_BLOCKS+in_ok-groups}

pub returns-in_err-blocks : goal.returns-in_err-blocks
returns-in_err-blocks c = IfOk-from_err _ _ c.from_residual.ensures.0

pub returns-in_err-groups : goal.returns-in_err-groups
returns-in_err-groups c = IfOk-from_err _ _ c.from_residual-in_err-groups.ensures.0

pub returns-in_err-tops : goal.returns-in_err-tops
returns-in_err-tops c = IfOk-from_err _ _ c.from_residual-in_err-tops.ensures.0

pub returns-in_err-lengths : goal.returns-in_err-lengths
returns-in_err-lengths c = IfOk-from_err _ _ c.from_residual-in_err-lengths.ensures.0

pub invariant_of-result : goal.invariant_of-result
invariant_of-result c =
    let blocks = c.in_ok-blocks.blocks.items in let tops = c.in_ok-tops.tops.items in record {
      by_blocks = subst (λ list. AreBlocks list blocks) c.deref.ensures.value c.in_ok-blocks.ensures;
      by_groups = elim c.if-len-lt-FEWEST_BLOCKS.branch [
        | then-len-lt-FEWEST_BLOCKS w ↦ λ some. absurd (omega (arith, ap (λ (l : List (Vec ℕ)). length l) (ap (λ (v : Vec (Vec ℕ)). v.items) w.groups-is ∙ w.new-groups.ensures.items)))
        | else-len-lt-FEWEST_BLOCKS+in_ok-groups w ↦ λ some. subst (AreGroups blocks) (sym (ap (λ (v : Vec (Vec ℕ)). v.items) w.groups-is)) (subst (λ list. AreGroups list w.in_ok-groups.groups.items) w.deref-else-len-lt-FEWEST_BLOCKS.ensures.value w.in_ok-groups.ensures)
      ];
      by_tops = subst (λ groups. AreGroups groups tops) c.deref-2.ensures.value c.in_ok-tops.ensures;
      by_lengths = elim c.if-is_empty.branch [
        | then-is_empty w ↦ λ some. absurd (omega (arith, some, ap (λ (l : List ℕ). length l) (ap (λ (v : Vec ℕ). v.items) w.lengths-is ∙ w.new-lengths.ensures.items)))
        | else-is_empty+in_ok-lengths w ↦ λ some.
            let same = ap (λ (v : Vec ℕ). v.items) w.lengths-is in
            subst (HaveLengths c.args.list.items (length c.args.list.items)) (sym same) (subst (λ list. HaveLengths list (length list) w.in_ok-lengths.lengths.items) w.deref-else-is_empty.ensures.value (w.in_ok-lengths.ensures (subst (λ (l : List ℕ). 0 < length l) same some)))
      ];
    }

pub groups_of-requires : goal.groups_of-requires
groups_of-requires c = subst HaveRows (sym c.deref-else-len-lt-FEWEST_BLOCKS.ensures.value) (λ b d within. (c.in_ok-blocks.ensures.each b d within).size)

pub groups_of-requires-2 : goal.groups_of-requires-2
groups_of-requires-2 c = elim c.if-len-lt-FEWEST_BLOCKS.branch [
  | then-len-lt-FEWEST_BLOCKS w ↦ subst HaveRows (sym (c.deref-2.ensures.value ∙ ap (λ (v : Vec (Vec ℕ)). v.items) w.groups-is ∙ w.new-groups.ensures.items)) (λ b d within. absurd (omega arith))
  | else-len-lt-FEWEST_BLOCKS+in_ok-groups w ↦ subst HaveRows (sym (c.deref-2.ensures.value ∙ ap (λ (v : Vec (Vec ℕ)). v.items) w.groups-is)) (λ b d within. (w.in_ok-groups.ensures.each b d within).size)
]

pub returns : goal.returns
returns c = refl
