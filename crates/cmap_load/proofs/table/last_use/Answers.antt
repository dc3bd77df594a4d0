use Rattle.std.proofs.Common.{◌≡◌, arith, List, [], ◌∷◌, length, refl, ℕ}
use Rattle.cmap_load.proofs.table.last_use.Goals as goal

bare : (items : List ℕ) → length items ≡ 0 → items ≡ []
bare [] none = refl
bare (item ∷ items) none = absurd (omega (arith, none))

pub returns-in-Some : goal.returns-in-Some
returns-in-Some c = (c.in-Some._others.now, c.in-Some.ensures.cases.0)

pub returns-in-None : goal.returns-in-None
returns-in-None c = bare c.args.uses.now c.in-None.ensures.cases
