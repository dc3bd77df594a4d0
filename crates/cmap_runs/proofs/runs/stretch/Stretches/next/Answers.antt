use Rattle.std.proofs.Common.{map, ◌+◌, ◌<◌, ◌≤◌, ◌^◌, refl, sym, ap, subst, arith}
use Rattle.std.specs.Prelude.{IfSome, IsTrue}
use Rattle.std.specs.Option.{option_copied}
use Rattle.std.proofs.lemmas.Option.{MatchOption-from_none}
use Rattle.cmap_runs.specs.Order.{IsFirstLeft}
use Rattle.cmap_runs.specs.Ranges.{contains}
use Rattle.cmap_runs.specs.Stretches.{IsLongest, IsStretch}
use Rattle.cmap_runs.proofs.StretchesEnd.{code_fits, past_codes}
use Rattle.cmap_runs.proofs.runs.stretch.Stretches.next.Goals as goal

pub returns-in_err-code : goal.returns-in_err-code
returns-in_err-code g c =
    let past = past_codes c.self.inside.next c.try_from.result c.try_from.ensures c.in_err-code.ensures.value in
    let none = c.from_residual.ensures in
    record {
      same = MatchOption-from_none _ _ none;
      contains = MatchOption-from_none _ _ none;
      longest = MatchOption-from_none _ _ none;
      within = MatchOption-from_none _ _ none;
      next = MatchOption-from_none _ _ none;
      none = rw (none, ← c.self.view_is) past;
      declarations = refl;
      looks = (omega arith, omega arith);
      grows = (omega arith, omega arith);
      looked = MatchOption-from_none _ _ none;
    }

pub stretch_at-stretch-requires-clause-runs : goal.stretch_at-stretch-requires-clause-runs
stretch_at-stretch-requires-clause-runs g c = c.self.invariant.0

pub stretch_at-stretch-requires-clause-ended : goal.stretch_at-stretch-requires-clause-ended
stretch_at-stretch-requires-clause-ended g c =
    let is = code_fits c.self.inside.next c.in_ok-code.code c.try_from.result c.try_from.ensures c.in_ok-code.ensures.value in
    subst (λ n. IsFirstLeft c.self.inside.held.now.runs n c.self.inside.ended) (sym is) c.self.invariant.1

pub invariant_of-self : goal.invariant_of-self
invariant_of-self g c = (c.self.invariant.0, rw c.from.ensures c.stretch_at-stretch.ensures.ended)

pub returns : goal.returns
returns g c =
    let is = code_fits c.self.inside.next c.in_ok-code.code c.try_from.result c.try_from.ensures c.in_ok-code.ensures.value in
    let span = g.T.HasRange.span in let stretch = c.stretch_at-stretch.result in
    record {
      same = rw (← c.self.view_is) (subst (λ n. IsStretch span c.self.inside.held.now.declarations n stretch.last (option_copied stretch.declaration)) is c.stretch_at-stretch.ensures.same);
      contains = rw (← c.self.view_is) (subst (λ n. IfSome stretch.declaration (λ declaration. IsTrue (contains (span declaration.now) n))) is c.stretch_at-stretch.ensures.contains);
      longest = rw (← c.self.view_is) (subst (λ n. IsLongest (map span c.self.inside.held.now.declarations) n stretch.last) is c.stretch_at-stretch.ensures.longest);
      within = rw (← c.self.view_is) (subst (λ n. (n ≤ stretch.last) × (stretch.last < 2 ^ 32)) is c.stretch_at-stretch.ensures.within);
      next = ap (λ n. n + 1) c.from.ensures;
      none = tt;
      declarations = rw (← c.self.view_is);
      looks = c.stretch_at-stretch.ensures.looks;
      grows = c.stretch_at-stretch.ensures.grows;
      looked = c.stretch_at-stretch.ensures.looked;
    }
