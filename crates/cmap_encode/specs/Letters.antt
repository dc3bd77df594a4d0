-- Characters that belong to the character before them.
use Rattle.std.specs.Prelude.{ℕ, zero, suc, ◌+◌, Bool, ◌&&◌, ◌||◌, List, [], ◌∷◌, ◌++◌, nat_le}

abbrev pub is_between : ℕ → ℕ → ℕ → Bool
is_between first last character = nat_le first character && nat_le character last

-- variation selectors. The Unicode Standard, 23.4
abbrev pub is_selector : ℕ → Bool
is_selector character = is_between 0xFE00 0xFE0F character || is_between 0xE0100 0xE01EF character

-- consecutive numbers, from a first number on
unfoldable pub counted : ℕ → ℕ → List ℕ
counted first zero = []
counted first (suc count) = first ∷ counted (first + 1) count

-- all variation selectors, one after another
unfoldable pub selectors : List ℕ
selectors = counted 0xFE00 16 ++ counted 0xE0100 240

-- marks of the letter before them: variation selectors, diacritical marks, vowels and finals of old and new jamo, marks for symbols, and voiced sound marks
abbrev pub is_mark : ℕ → Bool
is_mark character = is_selector character || is_between 0x300 0x36F character || is_between 0x1160 0x11FF character || is_between 0x20D0 0x20FF character || is_between 0x3099 0x309A character || is_between 0xD7B0 0xD7FB character
