use Rattle.std.proofs.Common.{◌≡◌, ℕ, ◌<◌, List, length, get_or, map, sym, ap, ◌∙◌, subst, refl, arith, Some, option_map}
use Rattle.std.specs.Prelude.{All, slice_get}
use Rattle.std.proofs.lemmas.List.{length-map}
use Rattle.std.proofs.lemmas.Option.{get_or_from_slice_get, slice_get_read, slice_get-map}
use Rattle.cmap_runs.specs.DeclaredRanges.{range_at}
use Rattle.cmap_runs.specs.HeldRuns.{indices_within, runs_held}
use Rattle.cmap_runs.specs.Ranges.{Run, Span}
use Rattle.cmap_runs.proofs.runs.held.Held.reaching.Goals as goal
use Rattle.cmap_runs.proofs.runs.held.Held.reaching.Goals.{in-Ranges+else-range-code, in-Swept+else-run-code}

-- the run is the range of the declaration at the index
is_range : {T : Type 0} (span : T → Span) (list : List T) (runs : List Run) (indices : List ℕ) (i index : ℕ) (x : T)
    → runs ≡ map (range_at (map span list)) indices → i < length runs → All (λ index. index < length list) indices → index ≡ get_or indices i index → x ≡ get_or list index x
    → (slice_get runs i ≡ Some (record { low = (span x).start; high = (span x).end; index = index })) × (slice_get list index ≡ Some x)
is_range span list runs indices i index x are within all place at =
    let spans = map span list in
    let inside : i < length indices = omega (arith, within, ap length are, length-map {A = ℕ} {B = Run}) in
    let found = slice_get_read list _ index x refl (omega (arith, all i index inside, place)) at in
    let is : get_or spans index (record { start = 1; end = 0 }) ≡ span x = get_or_from_slice_get spans index (span x) _ (slice_get-map span list index ∙ ap (option_map span) found) in
    let run : Span → Run = λ s. record { low = s.start; high = s.end; index = index } in (
      ap (λ runs. slice_get runs i) are ∙ slice_get-map (range_at spans) indices i ∙ ap (option_map (range_at spans)) (slice_get_read indices _ i index refl inside place) ∙ ap (λ s. Some (run s)) is,
      found,
    )

pub returns-then-range-code-clause-none : goal.returns-then-range-code-clause-none
returns-then-range-code-clause-none g c =
    let span = g.T.HasRange.span in let list = c.self.inside.declarations.items in
    let are = ap (λ held. held.runs) (sym c.self.view_is) ∙ ap (runs_held (map span list)) c.in-Ranges.is in
    let all = subst (indices_within (length list)) c.in-Ranges.is c.self.invariant in
    let range = is_range span list c.args.self.now.runs c.in-Ranges.indices.items c.args.i c.index.result.now c.index-declaration.result.now are c.requires.run all c.index.ensures c.index-declaration.ensures in
    record { run = _; at = range.0; ends = omega (arith, c.if-range-code.true, c.range.ensures.end) }

pub returns-then-run-code-clause-none : goal.returns-then-run-code-clause-none
returns-then-run-code-clause-none g c =
    let runs = c.runs.inside.list.items in
    let are : c.args.self.now.runs ≡ runs = ap (λ held. held.runs) (sym c.self.view_is) ∙ ap (runs_held (map g.T.HasRange.span c.self.inside.declarations.items)) c.in-Swept.is ∙ sym c.runs.view_is in
    let run = slice_get_read runs _ c.args.i c.index-run.result.now refl (omega (arith, c.requires.run, ap length are)) c.index-run.ensures in
    record { run = _; at = ap (λ runs. slice_get runs c.args.i) are ∙ run; ends = omega (arith, c.if-run-code.true, ap (λ (run : Run). run.high) c.run.view_is) }

pub returns-clause-some : goal.returns-clause-some
returns-clause-some g c =
    let span = g.T.HasRange.span in let list = c.self.inside.declarations.items in let all_runs = c.args.self.now.runs in
    let same = ap (λ held. held.declarations) c.self.view_is in
    elim c.match-self.branch [
      | in-Ranges+else-range-code w ↦
          let are = ap (λ held. held.runs) (sym c.self.view_is) ∙ ap (runs_held (map span list)) w.in-Ranges.is in
          let all = subst (indices_within (length list)) w.in-Ranges.is c.self.invariant in
          let range = is_range span list all_runs w.in-Ranges.indices.items c.args.i w.index.result.now w.index-declaration.result.now are c.requires.run all w.index.ensures w.index-declaration.ensures in
          rw (w.declaration-is, ← same) (record { run = _; at = range.0; reaches = omega (arith, w.if-range-code.false, w.range.ensures.end); decides = range.1 })
      | in-Swept+else-run-code w ↦
          let runs = w.runs.inside.list.items in
          let are : all_runs ≡ runs = ap (λ held. held.runs) (sym c.self.view_is) ∙ ap (runs_held (map span list)) w.in-Swept.is ∙ sym w.runs.view_is in
          let run = slice_get_read runs _ c.args.i w.index-run.result.now refl (omega (arith, c.requires.run, ap length are)) w.index-run.ensures in
          let at = ap (λ runs. slice_get runs c.args.i) are ∙ run in
          let index = ap (λ (run : Run). run.index) (w.run.view_is ∙ sym (get_or_from_slice_get all_runs c.args.i _ w.index-run.result.now at)) in
          let inside : w.run.inside.index < length list = omega (arith, c.requires.within c.args.i w.index-run.result.now c.requires.run, index, ap length same) in
          let found = slice_get_read list _ w.run.inside.index w.index-in-Swept.result.now refl inside w.index-in-Swept.ensures in
          rw (w.declaration-is, ← same) (record { run = _; at = at; reaches = omega (arith, w.if-run-code.false, ap (λ (run : Run). run.high) w.run.view_is); decides = ap (λ (run : Run). slice_get list run.index) (sym w.run.view_is) ∙ found })
    ]

pub index-requires : goal.index-requires
index-requires g c =
    let spans = map g.T.HasRange.span c.self.inside.declarations.items in let indices = c.in-Ranges.indices in
    let are = ap (λ held. held.runs) (sym c.self.view_is) ∙ ap (runs_held spans) c.in-Ranges.is in
    omega (arith, c.requires.run, ap length are, length-map indices.items (range_at spans), indices.ok.0)

pub index-declaration-requires : goal.index-declaration-requires
index-declaration-requires g c =
    let list = c.self.inside.declarations in let indices = c.in-Ranges.indices.items in
    let spans = map g.T.HasRange.span list.items in
    let are = ap (λ held. held.runs) (sym c.self.view_is) ∙ ap (runs_held spans) c.in-Ranges.is in
    let inside : c.args.i < length indices =
    omega (arith, c.requires.run, ap length are, length-map indices (range_at spans)) in
    let all = subst (indices_within (length list.items)) c.in-Ranges.is c.self.invariant in
    omega (arith, all c.args.i c.index.result.now inside, c.index.ensures, list.ok.0)

pub index-run-requires : goal.index-run-requires
index-run-requires g c =
    let spans = map g.T.HasRange.span c.self.inside.declarations.items in
    let held = ap (λ held. held.runs) (sym c.self.view_is) ∙ ap (runs_held spans) c.in-Swept.is in
    omega (arith, c.requires.run, ap length (held ∙ sym c.runs.view_is), c.runs.inside.list.ok.0)

pub index-requires-in-Swept : goal.index-requires-in-Swept
index-requires-in-Swept g c =
    let list = c.self.inside.declarations in let i = c.args.i in let run = c.index-run.result.now in
    let spans = map g.T.HasRange.span list.items in
    let held = ap (λ held. held.runs) (sym c.self.view_is) ∙ ap (runs_held spans) c.in-Swept.is in
    let at = ap (λ runs. get_or runs i run) (held ∙ sym c.runs.view_is) ∙ sym c.index-run.ensures ∙ sym c.run.view_is in
    let same = ap (λ held. length held.declarations) c.self.view_is in
    omega (arith, c.requires.within i run c.requires.run, ap (λ (run : Run). run.index) at, same, list.ok.0)
