use Rattle.cmap_io.specs.Escapes.{byte_shown}
use Rattle.cmap_io.proofs.Adds.{adds_both, one_more_at}
use Rattle.cmap_io.proofs.escape.push_name.Goals as goal

pub returns-in_err-push_name_byte-clause-printable : goal.returns-in_err-push_name_byte-clause-printable
returns-in_err-push_name_byte-clause-printable c =
    adds_both _ _ _ c.loop-byte.invariant.0 c.push_name_byte.ensures.printable

pub loop-byte-preserved : goal.loop-byte-preserved
loop-byte-preserved c = (
  adds_both _ _ _ c.loop-byte.invariant.0 c.push_name_byte.ensures.printable,
  one_more_at byte_shown _ _ _ _ _ c.loop-byte-test.true c.loop-byte.invariant.1 c.in_ok-push_name_byte.ensures.shown,
)
