use Rattle.std.proofs.Common.{◌∙◌, ap, arith, subst}
use Rattle.std.proofs.lemmas.List.{take_rest}
use Rattle.cmap_tokens.specs.Scanner.{rest_of}
use Rattle.cmap_tokens.specs.Stops.{StopsAt}
use Rattle.cmap_tokens.proofs.Fronts.{stop_is}
use Rattle.cmap_tokens.proofs.Stops.{one_stop, stops_at}
use Rattle.cmap_tokens.proofs.token.Scanner.stop.Goals as goal

pub returns-clause-offset : goal.returns-clause-offset
returns-clause-offset c = λ empty.
    omega (arith, ap (λ p. p.passed) c.self.view_is, stop_is c.args.self.now _ c.gap_len-gap.result c.malformed_len.result (take_rest _ c.self.inside.offset ∙ ap rest_of c.self.view_is) c.gap_len-gap.ensures.exact c.malformed_len.ensures.exact empty)

pub returns-clause-first : goal.returns-clause-first
returns-clause-first c = λ none.
    subst (StopsAt c.args.self.now) (omega (arith, ap (λ p. p.passed) c.self.view_is)) (stops_at c.args.self.now _ c.gap_len-gap.result c.malformed_len.result (take_rest _ c.self.inside.offset ∙ ap rest_of c.self.view_is) c.gap_len-gap.ensures.exact c.malformed_len.ensures.exact none)

pub returns-clause-only : goal.returns-clause-only
returns-clause-only c = λ none other is. one_stop c.args.self.now _ other (returns-clause-first c none) is
