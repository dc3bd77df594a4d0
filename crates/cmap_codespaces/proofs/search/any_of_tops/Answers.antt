use Rattle.std.proofs.Common.{◌≡◌, ℕ, ◌-◌, ◌*◌, ◌/◌, sym, ◌∙◌, subst, rules, inl, inr, arith}
use Rattle.std.specs.Global.{Vec}
use Rattle.std.proofs.lemmas.Bool.{cases_lt, false≢true}
use Rattle.cmap_codespaces.specs.SpaceBits.{HasGroup, IsFoundAt}
use Rattle.cmap_codespaces.proofs.SpacesFound.{found_within, group_found, group_has}
use Rattle.cmap_codespaces.proofs.search.any_of_tops.Goals as goal

pub loop-index-preserved : goal.loop-index-preserved
loop-index-preserved c = λ index below found.
    let blocks = c.args.blocks.now in let groups = c.args.groups.now in let query = c.args.query.now in let at = c.loop-index.index in
    elim (cases_lt index (4096 * at)) [
      | inl before ↦ c.loop-index.invariant index before found
      | inr later ↦
          let g = index / 64 in
          let bit = g - 64 * at in
          let rows : c.index-tops-index.result.items ≡ c.deref.result.now = search rules in
          let top = c.requires.tops.each at c.index-tops-index.result (omega arith) in
          let has : HasGroup groups (64 * at) 64 c.deref.result.now = rw (← rows) (subst (λ (list : Vec ℕ). HasGroup groups (64 * at) 64 list.items) (sym c.index-tops-index.is) top) in
          let there = group_has blocks groups index query c.requires.groups c.requires.query found in
          let set = group_found groups (64 * at) bit c.deref.result.now query has c.requires.query (omega arith) (subst (IsFoundAt groups query) (omega arith) there) in
          false≢true (sym c.if-any_of_top.false ∙ c.any_of_top.ensures.none bit (omega arith) ((c.among.ensures bit).1 set) (index, omega arith, omega arith, found))
    ]

pub returns : goal.returns
returns c = (λ yes. absurd (false≢true yes), λ some. let within = found_within c.args.blocks.now c.args.query.now some.0 some.1 in absurd (c.loop-index.invariant some.0 (omega (arith, c.requires.groups.all, c.requires.tops.all)) some.1))
