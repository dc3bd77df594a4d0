use Rattle.std.proofs.Common.{◌≡◌, ℕ, List, length, ◌+◌, ◌-◌, ◌*◌, ap, sym, ◌∙◌, subst, rules, arith}
use Rattle.std.proofs.lemmas.Bool.{false≢true}
use Rattle.std.specs.Global.{Vec}
use Rattle.cmap_codespaces.specs.SpaceBits.{row_count, HasGroup, IsFound, IsFoundAt, IsFoundWithin}
use Rattle.cmap_codespaces.proofs.RowBits.{item_within}
use Rattle.cmap_codespaces.proofs.SpacesFound.{group_found}
use Rattle.cmap_codespaces.proofs.search.finds_in_group.Goals as goal

pub returns : goal.returns
returns c =
    let blocks = c.args.blocks.now in let query = c.args.query.now in let index = c.args.index in let group = c.index-groups-index.result in
    let rows : group.items ≡ c.deref.result.now = search rules in
    let has : HasGroup blocks (64 * index) 64 c.deref.result.now = rw (← rows) (subst (λ (list : Vec ℕ). HasGroup blocks (64 * index) 64 list.items) (sym c.index-groups-index.is) (c.requires.groups.each index group (omega arith))) in
    let first : index * 64 ≡ 64 * index = omega arith in (
      λ yes. subst (λ n. IsFoundWithin blocks query n 64) first (c.any_of_group.ensures.found yes),
      λ some.
          let (k, from, below, found) = some in
          let bit = k - 64 * index in
          let here : k ≡ 64 * index + bit = omega arith in
          let there : k ≡ index * 64 + bit = omega arith in
          let set = group_found blocks (64 * index) bit c.deref.result.now query has c.requires.query (omega arith) (subst (IsFoundAt blocks query) here found) in
          c.any_of_group.ensures.none bit (omega arith) ((c.among-bits.ensures bit).1 set) (subst (IsFoundAt blocks query) there found),
    )

pub returns-then-index-groups : goal.returns-then-index-groups
returns-then-index-groups c = (λ yes. absurd (false≢true yes), λ some. let (k, from, below, found) = some in let within = item_within (λ (rows : Vec ℕ). IsFound rows.items c.args.query.now) c.args.blocks.now k found in absurd (omega (arith, c.requires.groups.all)))

pub among-bits-requires-clause-size : goal.among-bits-requires-clause-size
among-bits-requires-clause-size c = ap (λ (l : List ℕ). length l) c.deref.ensures.value ∙ subst (λ (list : Vec ℕ). length list.items ≡ row_count) (sym c.index-groups-index.is) (c.requires.groups.each c.args.index c.index-groups-index.result (omega arith)).size

pub among-bits-requires-clause-rows : goal.among-bits-requires-clause-rows
among-bits-requires-clause-rows c = c.requires.query

pub any_of_group-requires-clause-first : goal.any_of_group-requires-clause-first
any_of_group-requires-clause-first c = omega (arith, c.requires.groups.few)

pub any_of_group-requires-clause-rows : goal.any_of_group-requires-clause-rows
any_of_group-requires-clause-rows c = c.requires.rows

pub any_of_group-requires-clause-query : goal.any_of_group-requires-clause-query
any_of_group-requires-clause-query c = c.requires.query
