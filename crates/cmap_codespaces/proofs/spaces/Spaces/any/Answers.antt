use Rattle.std.proofs.Common.{◌≡◌, ◌∙◌, subst, rules, arith}
use Rattle.std.specs.Prelude.{◌↔◌, IsTrue}
use Rattle.cmap_codespaces.specs.SpaceBits.{AreBlocks, IsFound}
use Rattle.cmap_codespaces.proofs.SpacesFound.{block_finds, only_item}
use Rattle.cmap_codespaces.proofs.spaces.Spaces.any.Goals as goal

pub returns-in-len1 : goal.returns-in-len1
returns-in-len1 c =
    let block = c.only-item.result in let list = c.self.inside.list.items in let query = c.args.query.now in
    let blocks : c.self.inside.blocks.items ≡ c.as_slice.result.now = search rules in
    let is = blocks ∙ only_item c.as_slice.result.now block (omega (arith, c.in-len1.len_at_least, c.in-len1.len_below)) c.only-item.is in
    let rows : c.deref.result.now ≡ block.items = search rules in
    let here = subst (λ rows. IsTrue c.finds.result ↔ IsFound rows query) rows c.finds.ensures in
    let found = block_finds list block query (subst (AreBlocks list) is c.self.invariant.by_blocks) c.requires in
    rw (← c.self.view_is) (λ yes. found.0 (here.0 yes), λ some. here.1 (found.1 some))
