-- A code that lies before one run of a table lies before each later one, and likewise after.
use Rattle.std.proofs.Common.{ℕ, ◌<◌, ◌≤◌, List, length, get_or, arith}
use Rattle.cmap_runs.specs.Order.{IsInOrder}
use Rattle.cmap_runs.specs.Ranges.{Run}

pub before_later : (runs : List Run) (code i k : ℕ) (d : Run)
    → IsInOrder runs → i ≤ k → k < length runs → code < (get_or runs i d).low → code < (get_or runs k d).low
before_later runs code i k d order le lt before = grind (arith, order.apart i k d, order.filled i d)

pub after_earlier : (runs : List Run) (code i k : ℕ) (d : Run)
    → IsInOrder runs → k ≤ i → i < length runs → (get_or runs i d).high < code → (get_or runs k d).high < code
after_earlier runs code i k d order le lt after = grind (arith, order.apart k i d, order.filled i d)
