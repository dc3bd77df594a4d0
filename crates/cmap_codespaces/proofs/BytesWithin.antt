-- The bytes of a code.
use Rattle.std.proofs.Common.{◌≡◌, ℕ, ◌+◌, ◌*◌, ◌/◌, ◌%◌, ◌^◌, zero, suc, refl, sym, ap, ◌∙◌, bit_and, arith}
use Rattle.std.proofs.Math.Nat.{pow-suc}
use Rattle.std.proofs.lemmas.Nat.{and_mask, pow-add}
use Rattle.cmap_values.specs.CodeLengths.{IsCodeLength, length_of}
use Rattle.cmap_values.specs.declared.code_length.CodeLength.{CodeLength}
use Rattle.cmap_values.specs.declared.code_length.CodeLength.TheVariants.{One, Two, Three, Four}
use Rattle.cmap_codespaces.specs.CodesWithin.{byte_at}

eight_bits : (after : ℕ) → 2 ^ (8 * after) ≡ 256 ^ after
eight_bits zero = refl
eight_bits (suc after) =
    let more : 8 * suc after ≡ 8 * after + 8 = omega arith in
    ap (λ bits. 2 ^ bits) more ∙ pow-add 2 (8 * after) 8 ∙ ap (λ power. power * 256) (eight_bits after) ∙ sym (pow-suc 256 after)

-- a shift and a mask take one byte
pub byte_at-shifted : (n after : ℕ) → bit_and (n / 2 ^ (8 * after)) 255 ≡ byte_at n after
byte_at-shifted n after = and_mask (n / 2 ^ (8 * after)) 8 ∙ ap (λ power. n / power % 256) (eight_bits after)

-- codes have one to four bytes
pub length_fits : (len : CodeLength) → IsCodeLength (length_of len)
length_fits One = (omega arith, omega arith)
length_fits Two = (omega arith, omega arith)
length_fits Three = (omega arith, omega arith)
length_fits Four = (omega arith, omega arith)
