-- The bits of bytes: how many there are, and which one stands at an index.
use Rattle.std.proofs.Common.{◌≡◌, ℕ, zero, suc, ◌+◌, ◌-◌, ◌*◌, ◌/◌, ◌%◌, ◌^◌, ◌<◌, ◌≤◌, List, [], ◌∷◌, ◌++◌, length, get_or, take, drop, Some, refl, ap, ◌∙◌, sym, arith}
use Rattle.std.specs.List.{slice_get}
use Rattle.std.proofs.lemmas.List.{append_assoc, drop-drop, drop_at, drop_more, get_or-drop, length-drop, length-take-le, take-append-drop}
use Rattle.std.proofs.lemmas.List.Concat.{flat_map-append}
use Rattle.std.proofs.lemmas.List.Elements.{All-append, All-cons, All-drop, All-nil}
use Rattle.std.proofs.lemmas.Nat.{mod_below, shr-shr}
use Rattle.std.proofs.lemmas.Option.{slice_get-get_or}
use Rattle.cmap_binary.specs.BitQueues.{Queue, bits_ahead}
use Rattle.cmap_binary.specs.PrefixWords.{bits_of, bits}
use Rattle.cmap_binary.specs.WordsByLength.{AreBits}
use Rattle.cmap_binary.specs.Reader.{Reading, bits_left}

pub length-bits_of : (count n : ℕ) → length (bits_of count n) ≡ count
length-bits_of zero n = refl
length-bits_of (suc count) n = ap suc (length-bits_of count n)

pub length-bits : (bytes : List ℕ) → length (bits bytes) ≡ 8 * length bytes
length-bits [] = refl
length-bits (b ∷ bytes) = omega (arith, length-bits bytes)

-- the high bits, and the low ones
pub bits_of-split : (high low n : ℕ) → bits_of (high + low) n ≡ bits_of high (n / 2 ^ low) ++ bits_of low n
bits_of-split zero low n = let e : 0 + low ≡ low = omega arith in rw e refl
bits_of-split (suc high) low n =
    let e : suc high + low ≡ suc (high + low) = omega arith in
    let swap : low + high ≡ high + low = omega arith in
    let first : n / 2 ^ (high + low) ≡ n / 2 ^ low / 2 ^ high = sym (rw swap at (shr-shr n low high)) in
    rw (e, first) (ap (λ bs. n / 2 ^ low / 2 ^ high % 2 ∷ bs) (bits_of-split high low n))

-- ---- the bits that are left
pub left-within : (bytes : List ℕ) (taken count : ℕ) → taken ≤ 8 * length bytes → count ≤ length (drop taken (bits bytes)) → taken + count ≤ 8 * length bytes
left-within bytes taken count within h = omega (arith, length-bits bytes, length-drop taken (bits bytes))

-- those of a byte, and of the bytes after it
pub bits-at : (bytes : List ℕ) (byte bit : ℕ) → byte < length bytes → bit ≤ 8 → drop (8 * byte + bit) (bits bytes) ≡ bits_of (8 - bit) (get_or bytes byte 0) ++ bits (drop (byte + 1) bytes)
bits-at bytes byte bit h most =
    let x = get_or bytes byte 0 in
    let later = bits (drop (byte + 1) bytes) in
    let high = bits_of bit (x / 2 ^ (8 - bit)) in
    let whole : bit + (8 - bit) ≡ 8 = omega arith in
    let size : length (bits (take byte bytes)) ≡ 8 * byte = omega (arith, length-bits (take byte bytes), length-take-le byte bytes (omega arith)) in
    let opened = ap bits (sym (take-append-drop byte bytes) ∙ ap (λ bs. take byte bytes ++ bs) (drop_more bytes byte 0 h)) ∙ flat_map-append (bits_of 8) (take byte bytes) (x ∷ drop (byte + 1) bytes) in
    sym (drop-drop bit (8 * byte) (bits bytes))
    ∙ ap (drop bit) (ap (drop (8 * byte)) opened ∙ drop_at (bits (take byte bytes)) (bits_of 8 x ++ later) (8 * byte) size ∙ ap (λ bs. bs ++ later) (rw whole at (bits_of-split bit (8 - bit) x)) ∙ append_assoc high _ later)
    ∙ drop_at high (bits_of (8 - bit) x ++ later) bit (length-bits_of bit _)

pub slice_get-bits : (bytes : List ℕ) (byte bit : ℕ) → byte < length bytes → bit < 8 → slice_get (bits bytes) (8 * byte + bit) ≡ Some (get_or bytes byte 0 / 2 ^ (7 - bit) % 2)
slice_get-bits bytes byte bit h small =
    let e : 8 - bit ≡ suc (7 - bit) = omega arith in
    let here : 8 * byte + bit + 0 ≡ 8 * byte + bit = omega arith in
    slice_get-get_or (bits bytes) (8 * byte + bit) 0 (omega (arith, length-bits bytes))
    ∙ ap Some (sym (rw here at (get_or-drop (8 * byte + bit) (bits bytes) 0 0)) ∙ ap (λ bs. get_or bs 0 0) (rw e at (bits-at bytes byte bit h (omega arith))))

AreBits-bits_of : (count n : ℕ) → AreBits (bits_of count n)
AreBits-bits_of zero n = All-nil (λ d. d < 2)
AreBits-bits_of (suc count) n = All-cons (λ d. d < 2) _ _ (mod_below (n / 2 ^ count) 2 (omega arith)) (AreBits-bits_of count n)

AreBits-bits : (bytes : List ℕ) → AreBits (bits bytes)
AreBits-bits [] = All-nil (λ d. d < 2)
AreBits-bits (b ∷ bytes) = All-append (λ d. d < 2) (bits_of 8 b) (bits bytes) (AreBits-bits_of 8 b) (AreBits-bits bytes)

pub AreBits-ahead : (q : Queue) → AreBits (bits_ahead q)
AreBits-ahead q = All-append (λ d. d < 2) (bits_of q.held q.ahead) (bits q.rest) (AreBits-bits_of q.held q.ahead) (AreBits-bits q.rest)

pub AreBits-left : (r : Reading) → AreBits (bits_left r)
AreBits-left r = All-drop (λ d. d < 2) r.taken (bits r.source) (AreBits-bits r.source)
