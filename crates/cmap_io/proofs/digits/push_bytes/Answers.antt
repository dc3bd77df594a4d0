use Rattle.cmap_io.specs.Escapes.{digits_of}
use Rattle.cmap_io.specs.declared.digits.Letters.TheVariants.{Capital}
use Rattle.cmap_io.proofs.Adds.{adds_both, one_more_at}
use Rattle.cmap_io.proofs.digits.push_bytes.Goals as goal

pub returns-in_err-push_byte-clause-printable : goal.returns-in_err-push_byte-clause-printable
returns-in_err-push_byte-clause-printable c = adds_both _ _ _ c.loop-byte.invariant.0 c.push_byte.ensures.printable

pub loop-byte-preserved : goal.loop-byte-preserved
loop-byte-preserved c = (
  adds_both _ _ _ c.loop-byte.invariant.0 c.push_byte.ensures.printable,
  one_more_at (digits_of Capital) _ _ _ _ _ c.loop-byte-test.true c.loop-byte.invariant.1 c.in_ok-push_byte.ensures.digits,
)
