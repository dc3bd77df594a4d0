use Rattle.std.proofs.Common.{refl}
use Rattle.std.proofs.lemmas.Result.{IfOk-from_err}
use Rattle.cmap_binary.proofs.BytesTaken.{IsAtByte-moved}
use Rattle.cmap_binary.proofs.Fronts.{gives, then_none, then_next, then_only}
use Rattle.cmap_binary.proofs.bundle.Tables.parse.Goals as goal

pub returns-in_default : goal.returns-in_default
returns-in_default c = then_none _ _ (rw c.new-reader.ensures at (rw c.in_default.is at c.in_ok-delta.ensures.ok).0)

pub parse_count-requires : goal.parse_count-requires
parse_count-requires c = IsAtByte-moved _ _ _ (rw c.new-reader.ensures refl) (rw c.in-Some.is at c.in_ok-delta.ensures.ok).moves

pub returns-in_default-2 : goal.returns-in_default-2
returns-in_default-2 c = then_next _ (rw (c.new-reader.ensures, c.in-Some.is) at c.in_ok-delta.ensures.ok).front (then_none _ _ (rw c.in_default-2.is at c.in_ok-count.ensures.ok).0)

pub returns : goal.returns
returns c = then_only _ (rw (c.new-reader.ensures, c.in-Some.is) at c.in_ok-delta.ensures.ok).front (then_only _ (rw c.in-Some-2.is at c.in_ok-count.ensures.ok).front gives)

pub returns-in_err-delta : goal.returns-in_err-delta
returns-in_err-delta c = IfOk-from_err _ _ c.from_residual.ensures.0

pub returns-in_err-count : goal.returns-in_err-count
returns-in_err-count c = IfOk-from_err _ _ c.from_residual-in_err-count.ensures.0
