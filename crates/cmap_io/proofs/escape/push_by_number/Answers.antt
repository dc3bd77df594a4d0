use Rattle.std.proofs.Common.{[], ◌∷◌, arith, rules}
use Rattle.cmap_io.proofs.Adds.{adds_both, adds_bytes, adds_character}
use Rattle.cmap_io.proofs.escape.push_by_number.Goals as goal

pub returns-clause-printable : goal.returns-clause-printable
returns-clause-printable c =
    adds_both _ _ _
    (adds_both _ _ _ (adds_bytes _ _ _ (0x5C ∷ 0x75 ∷ 0x7B ∷ []) c.push_str.ensures.bytes (search rules)) c.push_number.ensures.printable)
    (adds_character _ _ _ 0x7D c.push.ensures.bytes (omega arith) (omega arith))
