use Rattle.std.proofs.Common.{◌≡◌, ℕ, Bool, true, false, List, [], None, Some, get_or, map, refl, sym, ap, ◌∙◌, arith}
use Rattle.std.specs.Prelude.{if◌then◌else◌, unwrap_or}
use Rattle.std.proofs.lemmas.Bool.{false≢true}
use Rattle.std.proofs.lemmas.List.{get_or-map, length-map}
use Rattle.cmap_encode.specs.Alike.{line_with}
use Rattle.cmap_encode.proofs.FirstGiven.{none_more, some_here}
use Rattle.cmap_encode.proofs.alike.line_of.Goals as goal

with_line : (has : Bool) (line : List ℕ) → has ≡ true → (if has then Some line else None) ≡ Some line
with_line true line is = refl
with_line false line is = absurd (false≢true is)

without_line : (has : Bool) (line : List ℕ) → has ≡ false → (if has then Some line else None) ≡ None
without_line true line is = absurd (false≢true (sym is))
without_line false line is = refl

pub returns-then-contains : goal.returns-then-contains
returns-then-contains c =
    let lines = map (λ line. line.now) c.args.lines.now in let i = c.loop-line.line-index in
    let line = (get_or c.args.lines.now i (record { ref_ptr = (0, 0); now = [] })).now in
    let at : get_or lines i [] ≡ line = get_or-map (λ line. line.now) c.args.lines.now i (record { ref_ptr = (0, 0); now = [] }) [] (omega arith) in
    let gives : line_with c.args.character (get_or lines i []) ≡ Some line = ap (line_with c.args.character) at ∙ with_line _ line (sym c.contains.ensures.value ∙ c.if-contains.true) in
    sym (ap (λ o. unwrap_or o []) (some_here (line_with c.args.character) lines i [] (omega (arith, length-map c.args.lines.now (λ line. line.now))) c.loop-line.invariant line gives))

pub loop-line-preserved : goal.loop-line-preserved
loop-line-preserved c =
    let lines = map (λ line. line.now) c.args.lines.now in let i = c.loop-line.line-index in
    let line = (get_or c.args.lines.now i (record { ref_ptr = (0, 0); now = [] })).now in
    let at : get_or lines i [] ≡ line = get_or-map (λ line. line.now) c.args.lines.now i (record { ref_ptr = (0, 0); now = [] }) [] (omega arith) in
    none_more (line_with c.args.character) lines i [] (omega (arith, length-map c.args.lines.now (λ line. line.now))) c.loop-line.invariant (ap (line_with c.args.character) at ∙ without_line _ line (sym c.contains.ensures.value ∙ c.if-contains.false))
