use Rattle.std.proofs.Common.{[], ◌∷◌, rules}
use Rattle.cmap_io.proofs.Adds.{adds_both, adds_bytes}
use Rattle.cmap_io.proofs.json.push_unit.Goals as goal

pub returns-in_err-push_byte-clause-printable : goal.returns-in_err-push_byte-clause-printable
returns-in_err-push_byte-clause-printable c =
    adds_both _ _ _ (adds_bytes _ _ _ (0x5C ∷ 0x75 ∷ []) c.push_str.ensures.bytes (search rules)) c.push_byte.ensures.printable

pub returns-clause-printable : goal.returns-clause-printable
returns-clause-printable c =
    adds_both _ _ _
    (adds_both _ _ _ (adds_bytes _ _ _ (0x5C ∷ 0x75 ∷ []) c.push_str.ensures.bytes (search rules)) c.push_byte.ensures.printable)
    c.push_byte-2.ensures.printable
