use Rattle.std.proofs.Common.{ℕ, List, [], ◌∷◌, arith}
use Rattle.cmap_values.specs.Only.{IsOnly, HoldsOfNone}
use Rattle.cmap_binary.specs.Fronts.{FieldAt, RowOf}
use Rattle.cmap_binary.proofs.Fronts.{row_start, row_more, row_wrong, then_none, row_end, row_more, row_start}
use Rattle.cmap_binary.proofs.entries.take_two.Goals as goal

no_second : (text rest : List ℕ) (first : ℕ) → IsOnly (FieldAt 2 text) (first, rest) → HoldsOfNone (FieldAt 2 rest) → HoldsOfNone (RowOf (FieldAt 2) 2 text)
no_second text rest first one none =
    row_wrong (FieldAt 2) 2 text 1 rest (first ∷ []) (row_more (FieldAt 2) 2 text 0 text rest [] first (row_start (FieldAt 2) 2 text) (omega arith) one) (omega arith) none

pub returns-in_err-first : goal.returns-in_err-first
returns-in_err-first c = rw c.from_residual.ensures (then_none _ _ c.in_err-first.ensures)

pub returns-in_err-second : goal.returns-in_err-second
returns-in_err-second c = rw c.from_residual-in_err-second.ensures (no_second _ _ _ c.in_ok-first.ensures c.in_err-second.ensures)

two_fields : (text mid end : List ℕ) (first second : ℕ) → IsOnly (FieldAt 2 text) (first, mid) → IsOnly (FieldAt 2 mid) (second, end) → IsOnly (RowOf (FieldAt 2) 2 text) (first ∷ second ∷ [], end)
two_fields text mid end first second one two =
    let item = FieldAt 2 in
    row_end item 2 text 2 end (first ∷ second ∷ []) (row_more item 2 text 1 mid end (first ∷ []) second (row_more item 2 text 0 text mid [] first (row_start item 2 text) (omega arith) one) (omega arith) two) (omega arith)

pub returns : goal.returns
returns c = two_fields _ _ _ _ _ c.in_ok-first.ensures c.in_ok-second.ensures
