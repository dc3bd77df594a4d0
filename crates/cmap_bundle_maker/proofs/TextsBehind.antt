-- A text behind a comment that holds its length.
use Rattle.std.proofs.Common.{◌≡◌, ℕ, zero, suc, ◌+◌, ◌/◌, ◌%◌, ◌^◌, ◌<◌, List, [], ◌∷◌, ◌++◌, get_or, length, false, ap, refl, ◌∙◌, arith}
use Rattle.std.specs.Prelude.{codes}
use Rattle.std.specs.Int.{to_be_bytes, w32}
use Rattle.std.specs.List.{All}
use Rattle.std.proofs.lemmas.List.Elements.{All-head, All-tail}
use Rattle.cmap_tokens.specs.Gaps.{ends_comment}
use Rattle.cmap_bundle_maker.specs.Slots.{IsTextBehind}
use Rattle.cmap_binary_writer.specs.Written.{Appends, IsFramed, bytes_of}
use Rattle.cmap_binary_writer.proofs.FrontsWritten.{FramedAt-written}

abbrev pub text_head : List ℕ
text_head = codes "% text"

pub behind : (text spaces payload old new : List ℕ) → payload ≡ 10 ∷ (text ++ spaces) → All (λ b. b ≡ 32) spaces → All (λ b. ends_comment b ≡ false) (bytes_of 4 (10 + length payload)) → Appends old new (IsFramed text_head payload) → Appends old new (IsTextBehind text)
behind text spaces payload old new is blank ends (bytes, new_is, framed) =
    let size = bytes_of 4 (10 + length payload) in (
      bytes,
      new_is,
      (size, spaces, framed.bytes_are ∙ ap (λ p. (text_head ++ size) ++ p) is, ends, blank, λ rest. FramedAt-written text_head payload bytes rest framed, refl),
    )

-- the four bytes of a number
pub bytes_of_four : (n : ℕ) → bytes_of 4 n ≡ to_be_bytes w32 n
bytes_of_four n =
    let last : n / 1 % 256 ≡ n % 256 = omega arith in
    ap (λ b. n / 16777216 % 256 ∷ (n / 65536 % 256 ∷ (n / 256 % 256 ∷ (b ∷ [])))) last

pub small_at : (bytes : List ℕ) → All (λ b. b < 2 ^ 8) bytes → (i : ℕ) → get_or bytes i 0 < 256
small_at [] small i = omega arith
small_at (b ∷ bytes) small zero = All-head (λ b. b < 2 ^ 8) b bytes small
small_at (b ∷ bytes) small (suc i) = small_at bytes (All-tail (λ b. b < 2 ^ 8) b bytes small) i
