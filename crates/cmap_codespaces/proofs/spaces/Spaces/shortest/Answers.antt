use Rattle.std.proofs.Common.{◌≡◌, ◌∙◌, subst, rules, arith}
use Rattle.cmap_codespaces.specs.CodesWithin.{IsLeast}
use Rattle.cmap_codespaces.specs.SpaceBits.{AreBlocks, IsInside}
use Rattle.cmap_codespaces.proofs.SpacesFound.{least_only, only_item}
use Rattle.cmap_codespaces.proofs.spaces.Spaces.shortest.Goals as goal

pub returns-in-len1 : goal.returns-in-len1
returns-in-len1 c =
    let text = c.args.text.now in let block = c.only-item.result in let list = c.self.inside.list.items in
    let blocks : c.self.inside.blocks.items ≡ c.as_slice.result.now = search rules in
    let is = blocks ∙ only_item c.as_slice.result.now block (omega (arith, c.in-len1.len_at_least, c.in-len1.len_below)) c.only-item.is in
    let rows : c.deref.result.now ≡ block.items = search rules in
    let here = subst (λ rows. IsLeast (IsInside text rows) c.shortest_in_block.result) rows c.shortest_in_block.ensures in
    rw (← c.self.view_is) (least_only list block text c.shortest_in_block.result (λ k. omega (arith, c.type_inv.text k)) (subst (AreBlocks list) is c.self.invariant.by_blocks) here)
