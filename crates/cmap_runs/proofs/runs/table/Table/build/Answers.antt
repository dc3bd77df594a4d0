use Rattle.std.proofs.Common.{◌≡◌, ◌-◌, ◌*◌, ◌≤◌, List, Option, map, length, ap, ◌∙◌, subst, sym, arith}
use Rattle.std.proofs.lemmas.List.{length-map}
use Rattle.std.proofs.lemmas.Result.{IfOk-from_err}
use Rattle.cmap_runs.specs.Blocks.{AreBlocks}
use Rattle.cmap_runs.specs.DeclaredRanges.{DecidedRuns}
use Rattle.cmap_runs.specs.Ranges.{Run, Span, runs_of}
use Rattle.cmap_runs.specs.HeldRuns.{indices_within, runs_held}
use Rattle.cmap_runs.specs.declared.runs.block_maker.BlockMaker.{BlockMaker}
use Rattle.cmap_runs.specs.declared.runs.held.Blocks.{Blocks}
use Rattle.cmap_runs.specs.declared.runs.held.RunList.{RunList}
use Rattle.cmap_runs.specs.Made.{AreFound, AreMadeBy}
use Rattle.cmap_runs.specs.Order.{IsInOrder}
use Rattle.cmap_runs.proofs.FoundIndex.{runs_in_order}
use Rattle.cmap_runs.proofs.runs.table.Table.build.Goals as goal
use Rattle.cmap_runs.proofs.runs.table.Table.build.Goals.{After-finished-blocks, in-Some, in-None+in_ok-maker-in-None}
use Rattle.cmap_runs.proofs.runs.table.Table.build.Given.{Over}

pub new-held-requires : goal.new-held-requires
new-held-requires g c =
    let span = g.T.HasRange.span in let list = c.shrink_to_fit.new.self.items in let found = c.in_ok-found.found in
    let are = subst (λ items. AreFound (map span items) found.runs found.blocks) c.as_slice.ensures.value c.in_ok-found.ensures in
    subst (λ n. indices_within n found.runs) (length-map list span) are.held.within

in_order : {T : Type 0} (span : T → Span) (list seen : List T) (runs : List Run) (found : RunList) (blocks : Option BlockMaker)
    → seen ≡ list → AreFound (map span seen) found blocks → runs ≡ runs_held (map span list) found → IsInOrder runs
in_order span list seen runs found blocks same are is =
    runs_in_order (map span list) (is ∙ (subst (λ items. AreFound (map span items) found blocks) same are).held.runs)

pub made-requires : goal.made-requires
made-requires g c =
    let found = c.in_ok-found.found in
    in_order g.T.HasRange.span c.shrink_to_fit.new.self.items _ c.new-held.result.runs found.runs found.blocks c.as_slice.ensures.value c.in_ok-found.ensures c.new-held.ensures.runs

pub finished-blocks-requires-clause-order : goal.finished-blocks-requires-clause-order
finished-blocks-requires-clause-order g c =
    let found = c.in_ok-found.found in
    let old : IsInOrder c.new-held.result.runs =
    in_order g.T.HasRange.span c.shrink_to_fit.new.self.items _ c.new-held.result.runs found.runs found.blocks c.as_slice.ensures.value c.in_ok-found.ensures c.new-held.ensures.runs in
    let runs = λ (held : DecidedRuns g.row.T.Denot). held.runs in
    elim c.match-found.branch [
      | in-Some w ↦ subst IsInOrder (ap runs (sym w.held-is)) old
      | in-None+in_ok-maker-in-None w ↦ subst IsInOrder (ap runs (sym (w.held-is ∙ w.made.ensures.same))) old
    ]

-- made of the same runs
made_same : {T : Type 0} (held now : DecidedRuns T) (maker made : BlockMaker) → now ≡ held → maker ≡ made
    → AreMadeBy held.runs (length held.runs) made → AreMadeBy now.runs (length now.runs) maker
made_same held now maker made held_is maker_is are = rw (held_is, maker_is) are

pub finished-blocks-requires-clause-made : goal.finished-blocks-requires-clause-made
finished-blocks-requires-clause-made g c =
    let span = g.T.HasRange.span in let found = c.in_ok-found.found in let held = c.new-held.result in
    let same = c.as_slice.ensures.value in let now = c.match-found.held in let maker = c.match-found.maker in
    let are = subst (λ items. AreFound (map span items) found.runs found.blocks) same c.in_ok-found.ensures in
    elim c.match-found.branch [
      | in-Some w ↦
          let made = rw (w.in-Some.is, ← c.new-held.ensures.runs) at are.made in
          made_same held now maker w.in-Some.maker w.held-is (rw w.in-Some.is at w.maker-is) made
      | in-None+in_ok-maker-in-None w ↦
          let made = w.in_ok-maker-in-None in
          made_same held now maker made.maker (w.held-is ∙ w.made.ensures.same) w.maker-is made.ensures.made
    ]

-- declarations with their runs, and the blocks of these
is_table : {T : Type 0} (span : T → Span) (list : List T) (found : RunList) (made : Option BlockMaker)
    → (held now : DecidedRuns T) (blocks : Blocks) → AreFound (map span list) found made
    → held.declarations ≡ list → held.runs ≡ runs_held (map span list) found → now ≡ held → AreBlocks held.runs blocks
    → (now.runs ≡ runs_of (map span now.declarations)) × AreBlocks now.runs blocks
    × (length now.runs ≤ 2 * length now.declarations - 1)
is_table span list found made held now blocks are declarations runs same of_runs =
    rw (same, declarations, runs) (are.held.runs, rw runs at of_runs, omega (arith, are.held.few, length-map list span))

same_held : (g : Over) (c : After-finished-blocks g) → c.finished-blocks.new.self ≡ c.new-held.result
same_held g c =
    c.finished-blocks.ensures.same
    ∙ elim c.match-found.branch [
      | in-Some w ↦ w.held-is
      | in-None+in_ok-maker-in-None w ↦ w.held-is ∙ w.made.ensures.same
    ]

pub invariant_of-result : goal.invariant_of-result
invariant_of-result g c =
    let span = g.T.HasRange.span in let found = c.in_ok-found.found in
    let list = c.shrink_to_fit.new.self.items in let held = c.new-held.result in let now = c.finished-blocks.new.self in
    let blocks = c.finished-blocks.result in let same = same_held g c in
    let are : AreFound (map span list) found.runs found.blocks = rw c.as_slice.ensures.value at c.in_ok-found.ensures in
    let of_runs = rw (← c.finished-blocks.ensures.same, same) at c.finished-blocks.ensures.blocks in
    is_table span list found.runs found.blocks held now blocks are c.new-held.ensures.declarations
    c.new-held.ensures.runs same of_runs

pub returns : goal.returns
returns g c =
    ap (λ (held : DecidedRuns g.row.T.Denot). held.declarations) (same_held g c)
    ∙ c.new-held.ensures.declarations ∙ c.shrink_to_fit.ensures.items

pub returns-in_err-found : goal.returns-in_err-found
returns-in_err-found g c = IfOk-from_err _ _ c.from_residual.ensures.0

pub returns-in_err-maker-in-None : goal.returns-in_err-maker-in-None
returns-in_err-maker-in-None g c = IfOk-from_err _ _ c.from_residual-in_err-maker-in-None.ensures.0
