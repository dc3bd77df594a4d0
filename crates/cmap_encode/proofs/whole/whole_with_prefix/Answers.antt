use Rattle.std.proofs.Common.{◌≡◌, subst, inl, inr, arith}
use Rattle.std.proofs.lemmas.Bool.{cases_lt}
use Rattle.cmap_values.specs.CodeLengths.{length_of}
use Rattle.cmap_encode.specs.WholeSeen.{IsWholeNumber}
use Rattle.cmap_encode.proofs.WholeCodes.{still_fits, whole_as}
use Rattle.cmap_encode.proofs.whole.whole_with_prefix.Goals as goal

pub returns-clause-fits : goal.returns-clause-fits
returns-clause-fits c =
    let until = c.inside_until.ensures in
    still_fits (length_of c.args.code.len) c.args.after c.args.code.number c.inside_until.result c.requires.after.1 (until.same c.inside_until.result until.within (omega arith)) c.requires.fits

pub returns-clause-whole : goal.returns-clause-whole
returns-clause-whole c = λ number from to.
    let code = c.args.code in let layers = c.args.encoding.now in let len = length_of code.len in
    let until = c.inside_until.ensures in
    elim (cases_lt code.number number) [
      | inl later ↦ whole_as layers len c.args.after code.number number c.requires.after.1 (until.same number from to) c.requires.whole (until.inside number later to)
          (λ left some few. c.prefix_may_be_inside.ensures c.if-prefix_may_be_inside.false number left (until.same number from to) some few)
      | inr here ↦ let same : code.number ≡ number = omega arith in subst (IsWholeNumber layers len) same c.requires.whole
    ]

pub returns-then-prefix_may_be_inside-clause-whole : goal.returns-then-prefix_may_be_inside-clause-whole
returns-then-prefix_may_be_inside-clause-whole c = λ number from to.
    let same : c.args.code.number ≡ number = omega arith in subst (IsWholeNumber c.args.encoding.now (length_of c.args.code.len)) same c.requires.whole
