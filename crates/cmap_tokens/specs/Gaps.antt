-- Gaps between tokens: white bytes and comments. PostScript Language Reference, third edition, 3.2.1.
use Rattle.std.specs.Prelude.{◌≡◌, ℕ, Bool, true, false, not, ◌==◌, List, [], ◌∷◌, codes, Option, Some, None, IsTrue, is_some, if◌then◌else◌}
use Rattle.std.specs.List.{list_any}
use Rattle.cmap_tokens.specs.Ascii.{byte}
use Rattle.cmap_tokens.specs.Bytes.{is_white}

-- a comment goes from % to a line feed, a form feed or a carriage return
abbrev pub ends_comment : ℕ → Bool
ends_comment b = list_any (λ c. b == c) (codes "\n\u{c}\r")

-- whether a comment is open after a text, where in_comment states whether a comment is open before the text; None if a byte is neither white nor in a comment
abbrev pub comment_after : Bool → List ℕ → Option Bool
comment_after in_comment [] = Some in_comment
comment_after true (b ∷ text) = comment_after (not (ends_comment b)) text
comment_after false (b ∷ text) = if b == byte "%" then comment_after true text else if is_white b then comment_after false text else None

-- white bytes and comments; no comment is open at the end
abbrev pub IsGap : List ℕ → Type 0
IsGap text = comment_after false text ≡ Some false

-- a text without tokens: white bytes and comments; the last comment may be open at the end
abbrev pub IsBlank : List ℕ → Type 0
IsBlank text = IsTrue (is_some (comment_after false text))
