use Rattle.std.proofs.Common.{refl}
use Rattle.cmap_binary.proofs.TablesTaken.{TakesTable-passed, rest_within}
use Rattle.cmap_binary.proofs.prefix.reading.parse.Goals as goal

pub overflow_sub-size : goal.overflow_sub-size
overflow_sub-size c = rest_within _ _ _ _ (rw c.in-Some.is at c.in_ok-table.ensures).holds

pub returns-in_default : goal.returns-in_default
returns-in_default c = record { ok = (rw (c.in_default.is, c.left-text.ensures) at c.in_ok-table.ensures, refl); err = tt }

pub returns : goal.returns
returns c = record { ok = TakesTable-passed _ _ _ _ _ c.requires.at_byte (rw (c.in-Some.is, c.left-text.ensures) at c.in_ok-table.ensures) (rw c.left-text.ensures at c.skip_bytes.ensures); err = tt }
