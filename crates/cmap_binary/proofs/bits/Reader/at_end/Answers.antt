use Rattle.std.proofs.Common.{◌+◌, ◌*◌, length, ap, arith, eq-eqb, eqb-true}
use Rattle.std.proofs.lemmas.List.{drop_all, length-drop}
use Rattle.cmap_binary.specs.PrefixWords.{bits}
use Rattle.cmap_binary.proofs.BitsOfBytes.{length-bits}
use Rattle.cmap_binary.proofs.bits.Reader.at_end.Goals as goal

pub returns : goal.returns
returns c =
    let r = c.self.inside in
    let size = length-bits r.bytes.now in
    rw (← c.self.view_is) (
      λ h. drop_all (8 * r.byte + r.bit) (bits r.bytes.now) (omega (arith, size, eqb-true _ _ h)),
      λ none. eq-eqb _ _ (omega (arith, size, length-drop (8 * r.byte + r.bit) (bits r.bytes.now), ap length none)),
    )
