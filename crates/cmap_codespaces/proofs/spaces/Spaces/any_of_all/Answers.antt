use Rattle.std.proofs.Common.{◌≡◌, ◌<◌, length, map, sym, subst, rules, arith}
use Rattle.std.proofs.lemmas.Bool.{eqb-false}
use Rattle.std.specs.Prelude.{◌↔◌, Any}
use Rattle.cmap_values.specs.DeclarationsSeen.{codespace_seen}
use Rattle.cmap_codespaces.specs.SpaceBits.{HaveRows, InRows, IsFoundAmong}
use Rattle.cmap_codespaces.proofs.SpacesFound.{blocks_find}
use Rattle.cmap_codespaces.proofs.spaces.Spaces.any_of_all.Goals as goal

pub returns-then-is_empty : goal.returns-then-is_empty
returns-then-is_empty c =
    let list = c.self.inside.list.items in let query = c.args.query.now in
    let is : c.self.inside.blocks.items ≡ c.deref.result.now = search rules in
    let found = subst (λ blocks. IsFoundAmong blocks query ↔ Any (InRows query) (map codespace_seen list)) is (blocks_find list c.self.inside.blocks.items query c.self.invariant.by_blocks c.requires) in
    rw (← c.self.view_is) (λ yes. found.0 (c.any_of_blocks.ensures.0 yes), λ some. c.any_of_blocks.ensures.1 (found.1 some))

pub returns-else-is_empty : goal.returns-else-is_empty
returns-else-is_empty c =
    let list = c.self.inside.list.items in let query = c.args.query.now in
    let is : c.self.inside.blocks.items ≡ c.deref-else-is_empty.result.now = search rules in
    let found = subst (λ blocks. IsFoundAmong blocks query ↔ Any (InRows query) (map codespace_seen list)) is (blocks_find list c.self.inside.blocks.items query c.self.invariant.by_blocks c.requires) in
    rw (← c.self.view_is) (λ yes. found.0 (c.any_of_tops.ensures.0 yes), λ some. c.any_of_tops.ensures.1 (found.1 some))

pub any_of_tops-requires : goal.any_of_tops-requires
any_of_tops-requires c =
    let some : 0 < length c.self.inside.groups.items = omega (arith, eqb-false _ 0 (sym c.if-is_empty.ensures)) in
    let blocks = c.deref-else-is_empty.ensures.value in let groups = c.deref-else-is_empty-2.ensures.value in
    record {
      groups = rw (blocks, groups) (c.self.invariant.by_groups some);
      tops = rw (groups, c.deref-else-is_empty-3.ensures.value) c.self.invariant.by_tops;
      rows = subst HaveRows (sym blocks) (λ b d within. (c.self.invariant.by_blocks.each b d within).size);
      query = c.requires;
    }
