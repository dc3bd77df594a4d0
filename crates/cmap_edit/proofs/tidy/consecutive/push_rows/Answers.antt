use Rattle.std.proofs.Common.{◌≡◌, ℕ, ◌+◌, ◌-◌, Some, map, ap, ◌∙◌, sym, subst, arith}
use Rattle.std.specs.Prelude.{if◌then◌else◌}
use Rattle.cmap_runs.specs.Ranges.{contains}
use Rattle.cmap_values.specs.Spans.{Span}
use Rattle.cmap_edit.specs.Consecutive.{said_in}
use Rattle.cmap_edit.specs.TidyAdded.{IsSaidTo}
use Rattle.cmap_edit.proofs.InPart.{on_err}
use Rattle.cmap_edit.proofs.RowsSaid.{row_said}
use Rattle.cmap_edit.proofs.tidy.consecutive.push_rows.Goals as goal

pub row-requires-clause-fits : goal.row-requires-clause-fits
row-requires-clause-fits g c =
    let first = c.args.range.start in let next = c.loop-next.next in let from = c.loop-next.invariant.from in
    let all : c.args.range.end - first ≡ next - first + (c.args.range.end - next) = omega (arith, from) in
    subst (g.C.Consecutive.Fits c.args.first.now) all c.requires.counts.1

pub add_row-requires-clause-after : goal.add_row-requires-clause-after
add_row-requires-clause-after g c =
    let row = c.in_ok-row.ensures in let start = ap (λ (s : Span). s.start) row.spans ∙ row.starts in
    λ k d lt. omega (arith, c.loop-next.invariant.before k d lt, start)

pub loop-next-preserved : goal.loop-next-preserved
loop-next-preserved g c =
    let kind = g.C.Consecutive in let old = c.loop-next.invariant in let added = c.in_ok-add_row.ensures.added in
    let row = c.in_ok-row.ensures in let seen = kind.seen c.in_ok-row.row in let end = (kind.layout.span seen).end in
    let first = c.args.range.start in let next = c.loop-next.next in
    let ends : c.from-next-in-loop-next.result ≡ end = c.from-next-in-loop-next.ensures ∙ c.range.ensures.end ∙ sym (ap (λ (s : Span). s.end) row.spans) in
    let within = ap (λ (s : Span). s.end) row.spans in
    let here = λ (code : ℕ). kind.here c.args.first.now (code - first) in let before = said_in kind.layout (map kind.seen c.args.list.now.items) in
    let mid = said_in kind.layout (map kind.seen c.loop-next.list.items) in let now = said_in kind.layout (map kind.seen c.add_row.new.list.items) in
    let begins : kind.layout.span seen ≡ record { start = next; end = end } = ap (λ start. record { start = start; end = end }) (ap (λ (s : Span). s.start) row.spans ∙ row.starts) in
    record {
      tidy = added.tidy;
      before = λ k d lt. omega (arith, added.last k d lt, ends);
      from = omega (arith, old.from, ends, within, row.filled);
      to = omega (arith, ends, within, row.ends, c.from-end.ensures);
      said = subst (λ end. IsSaidTo first (end + 1) here before now) (sym ends)
          (row_said here before first next end mid now (kind.layout.at seen) old.from (omega (arith, within, row.filled)) old.said
          (λ code. subst (λ span. now code ≡ (if contains span code then Some (kind.layout.at seen code) else mid code)) begins (added.said code))
          (λ code from to.
          let sum : next - first + (code - next) ≡ code - first = omega (arith, old.from, from) in
          row.answers code from (omega (arith, to, within)) ∙ ap (kind.here c.args.first.now) sum));
    }

pub returns-in_err-row-clause-kept : goal.returns-in_err-row-clause-kept
returns-in_err-row-clause-kept g c = on_err c.from_residual.result _ (c.loop-next.next, omega arith, c.loop-next.invariant.said)

pub returns-in_err-add_row-clause-kept : goal.returns-in_err-add_row-clause-kept
returns-in_err-add_row-clause-kept g c = on_err c.from_residual-in_err-add_row.result _
    (c.loop-next.next, omega arith, λ code. ap (λ items. said_in g.C.Consecutive.layout (map g.C.Consecutive.seen items) code) c.in_err-add_row.ensures.same ∙ c.loop-next.invariant.said code)
