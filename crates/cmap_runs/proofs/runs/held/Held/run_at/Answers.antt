use Rattle.std.proofs.Common.{◌≡◌, ◌<◌, ℕ, length, map, sym, ap, ◌∙◌, subst, refl, arith, Some, option_map}
use Rattle.std.specs.Prelude.{slice_get}
use Rattle.std.proofs.lemmas.List.{length-map}
use Rattle.std.proofs.lemmas.Option.{slice_get_read, slice_get-map}
use Rattle.cmap_runs.specs.DeclaredRanges.{range_at}
use Rattle.cmap_runs.specs.HeldRuns.{indices_within, runs_held}
use Rattle.cmap_runs.specs.Ranges.{Run}
use Rattle.cmap_runs.proofs.runs.held.Held.run_at.Goals as goal
use Rattle.cmap_runs.proofs.runs.held.Held.run_at.Given.{Over}
use Rattle.cmap_runs.proofs.runs.held.Held.run_at.Goals.{After-deref}

-- the runs are ranges of declarations
ranges : (g : Over) (c : After-deref g) → c.args.self.now.runs ≡ map (range_at (map g.T.HasRange.span c.self.inside.declarations.items)) c.in-Ranges.indices.items
ranges g c = ap (λ held. held.runs) (sym c.self.view_is) ∙ ap (runs_held (map g.T.HasRange.span c.self.inside.declarations.items)) c.in-Ranges.is

within : (g : Over) (c : After-deref g) → c.args.i < length c.in-Ranges.indices.items
within g c = omega (arith, c.requires, ap length (ranges g c), length-map {A = ℕ} {B = Run})

pub index-requires : goal.index-requires
index-requires g c = omega (arith, within g c, c.in-Ranges.indices.ok.0)

pub range_at-requires : goal.range_at-requires
range_at-requires g c =
    let all = subst (indices_within (length c.self.inside.declarations.items)) c.in-Ranges.is c.self.invariant in
    omega (arith, all c.args.i c.index.result.now (within g (goal.at.range_at-requires g c).After-deref), c.index.ensures, ap length c.deref.ensures.value)

pub returns-in-Ranges : goal.returns-in-Ranges
returns-in-Ranges g c =
    let before = (goal.at.returns-in-Ranges g c).After-deref in
    let spans = map g.T.HasRange.span c.self.inside.declarations.items in let indices = c.in-Ranges.indices.items in
    let index = slice_get_read indices _ c.args.i c.index.result.now refl (within g before) c.index.ensures in
    let range = c.range_at.ensures ∙ ap (λ declarations. range_at (map g.T.HasRange.span declarations) c.index.result.now) c.deref.ensures.value in
    ap (λ runs. slice_get runs c.args.i) (ranges g before) ∙ slice_get-map (range_at spans) indices c.args.i ∙ ap (option_map (range_at spans)) index ∙ ap Some (sym range)

pub returns-in-Swept : goal.returns-in-Swept
returns-in-Swept g c =
    let runs = c.runs.inside.list.items in
    let held : c.args.self.now.runs ≡ runs = ap (λ held. held.runs) (sym c.self.view_is) ∙ ap (runs_held (map g.T.HasRange.span c.self.inside.declarations.items)) c.in-Swept.is ∙ sym c.runs.view_is in
    let run = slice_get_read runs _ c.args.i c.index-run.result.now refl (omega (arith, c.requires, ap length held)) c.index-run.ensures in
    ap (λ runs. slice_get runs c.args.i) held ∙ run ∙ ap Some (sym (c.new.ensures ∙ c.run.view_is))
