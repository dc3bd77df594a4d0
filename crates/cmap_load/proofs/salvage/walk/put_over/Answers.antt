use Rattle.std.proofs.Common.{◌∷◌, ◌∙◌, ap, refl, sym, ◌≡◌}
use Rattle.cmap_load.proofs.salvage.walk.put_over.Goals as goal

pub returns-then-not-wanted-clause-put : goal.returns-then-not-wanted-clause-put
returns-then-not-wanted-clause-put c = (c.in_ok-base.base, c.in_ok-base.was, refl, λ is. absurd (let no = c.if-not-wanted.true in cc))

pub returns-clause-put : goal.returns-clause-put
returns-clause-put c = (c.in_ok-base.base, c.in_ok-base.was, refl, λ is. let (first, same, made) = c.in_ok-path.ensures in let e : c.args.read ≡ first = cc in made ∙ ap (λ x. x ∷ c.in_ok-base.base.path.items) (sym e))
