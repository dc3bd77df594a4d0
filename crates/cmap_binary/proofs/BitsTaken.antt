-- The next of the last bits of a number.
use Rattle.std.proofs.Common.{◌≡◌, ℕ, zero, suc, ◌-◌, ◌/◌, ◌%◌, ◌^◌, ◌<◌, List, length, get_or, refl, ◌∙◌, sym, arith}
use Rattle.cmap_binary.specs.PrefixWords.{bits_of}
use Rattle.cmap_binary.proofs.BitsOfBytes.{length-bits_of}
use Rattle.cmap_binary.proofs.WordsSearched.{NextBit}

get_or-bits_of : (count n i : ℕ) → i < count → get_or (bits_of count n) i 0 ≡ n / 2 ^ (count - 1 - i) % 2
get_or-bits_of zero n i h = absurd (omega arith)
get_or-bits_of (suc count) n zero h = let e : suc count - 1 - 0 ≡ count = omega arith in rw e refl
get_or-bits_of (suc count) n (suc i) h = let e : suc count - 1 - suc i ≡ count - 1 - i = omega arith in rw e (get_or-bits_of count n i (omega arith))

pub NextBit-held : (counts : List ℕ) (held n i count bit : ℕ) → i < held → bit ≡ n / 2 ^ (held - 1 - i) % 2 → (i < length counts) × (count ≡ get_or counts i 0) → NextBit counts (bits_of held n) i count bit
NextBit-held counts held n i count bit within is (counted, count_is) = record {
  within = omega (arith, length-bits_of held n);
  bit_is = is ∙ sym (get_or-bits_of held n i within);
  small = omega (arith, is);
  counted = counted;
  count_is = count_is;
}
