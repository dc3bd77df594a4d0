use Rattle.std.proofs.Common.{map, sym, ap, ◌∙◌, arith}
use Rattle.std.proofs.lemmas.List.{get_or-map, get_or_past, length-map}
use Rattle.cmap_runs.specs.Ranges.{Span}
use Rattle.cmap_runs.proofs.runs.ranges.start_at.Goals as goal

pub returns-in-Some : goal.returns-in-Some
returns-in-Some g c =
    let span = g.T.HasRange.span in let list = c.args.declarations.now in let item = c.in-Some.declaration.now in
    let (within, is) = c.in-Some.ensures.lookup.3 in
    c.range.ensures.start ∙ ap (λ (s : Span). s.start) (ap span (is item) ∙ sym (get_or-map span list c.args.index item (record { start = 1; end = 0 }) within))

pub returns-in-None : goal.returns-in-None
returns-in-None g c =
    let span = g.T.HasRange.span in let list = c.args.declarations.now in
    sym (ap (λ (s : Span). s.start) (get_or_past (map span list) c.args.index (record { start = 1; end = 0 }) (omega (arith, length-map list span, c.in-None.ensures.lookup.3))))
