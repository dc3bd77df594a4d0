-- Private aid: the open parentheses, while the bytes of a text are passed.
use Rattle.std.specs.Prelude.{◌≡◌, ◌<◌, ℕ, suc, Bool, List, [], ◌∷◌, length, get_or, drop, Some, None, if◌then◌else◌}
use Rattle.cmap_tokens.specs.TokenReading.{text_len, opened}
use Rattle.cmap_tokens.specs.declared.token.unclosed.Open.{Open}

-- how many open parentheses have no backslash before them
abbrev pub plain_count : List Open → ℕ
plain_count [] = 0
plain_count (one ∷ rest) = if one.escaped then plain_count rest else suc (plain_count rest)

-- each entry is a ( of the text; if the bytes from the index i on don't close the (, it is unclosed in the whole text
abbrev pub Tracks : List ℕ → ℕ → Bool → List Open → Type 0
Tracks text i escaped [] = Unit {0}
Tracks text i escaped (one ∷ rest) =
    (one.offset < length text)
    × (get_or text one.offset 0 ≡ 40)
    × (text_len (Some (record { escaped = escaped; depth = suc (plain_count rest) })) (drop i text) ≡ None → text_len opened (drop (suc one.offset) text) ≡ None)
    × Tracks text i escaped rest
