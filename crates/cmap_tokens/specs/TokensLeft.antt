-- The tokens that are left of a text: the end of each token, whether the text ends after them, and the byte that rules out a further token.
use Rattle.std.specs.Prelude.{◌≡◌, ◌↔◌, ◌+◌, ◌<◌, ◌≤◌, ℕ, zero, suc, nat_le, Bool, true, false, List, [], ◌∷◌, ◌++◌, length, map, take, drop, Some, None}
use Rattle.cmap_tokens.specs.Malformed.{Malformed, malformed_kind}
use Rattle.cmap_tokens.specs.Scanner.{Cursor, rest_of}
use Rattle.cmap_tokens.specs.Tokens.{Token, Tokens}
use Rattle.cmap_tokens.specs.TokenReading.{gap_len, first_piece, malformed_len}

-- a token, and how many bytes of the text are passed after it
pub record EndedToken : Type 0 where
  pub token : Token
  pub end : ℕ

-- what is left of a text from an offset on: the tokens up to its end, or up to the first offset where no token stands
pub record Left : Type 0 where
  pub passed : ℕ
  pub tokens : List EndedToken
  pub ends : Bool
  -- why no further token comes, if the text doesn't end after the tokens
  pub kind : Malformed
  -- an aid: the offset of the byte that rules out a further token, or the length of the text, as the code computes it. Stops defines this byte
  pub stop : ℕ

-- what is left from an offset on: this token, which comes next, and the rest after the token
abbrev pub with_token : Token → ℕ → Left → Left
with_token token passed next = record { passed = passed; tokens = record { token = token; end = next.passed } ∷ next.tokens; ends = next.ends; kind = next.kind; stop = next.stop }

-- the text after its first gap
abbrev pub after_gap : List ℕ → List ℕ
after_gap text = drop (gap_len false text) text

-- what is left of a text where no token comes next
abbrev pub no_token : ℕ → List ℕ → Left
no_token passed text = record { passed = passed; tokens = []; ends = nat_le (length text) (gap_len false text); kind = malformed_kind (after_gap text); stop = passed + (gap_len false text + malformed_len (after_gap text)) }

-- what is left of a text of at most n bytes
unfoldable pub tokens_within : ℕ → ℕ → List ℕ → Left
tokens_within zero passed text = no_token passed text
tokens_within (suc n) passed text =
    elim (first_piece (after_gap text)) [
      | None ↦ no_token passed text
      | Some first ↦ with_token first.0 passed (tokens_within n (passed + (gap_len false text + first.1)) (drop first.1 (after_gap text)))
    ]

unfoldable pub tokens_of : Cursor → Left
tokens_of cursor = tokens_within (length (rest_of cursor)) cursor.passed (rest_of cursor)

abbrev pub start_of : List ℕ → Cursor
start_of text = record { source = text; passed = 0 }

-- the tokens that are left are the tokens of the text, if the text ends after them
abbrev pub HasTokens : List ℕ → Left → Type 0
HasTokens text left = (tokens : List Token) → Tokens text tokens ↔ ((map (λ p. p.token) left.tokens ≡ tokens) × (left.ends ≡ true))

-- the tokens that are left from the old cursor on are this token, and then the tokens that are left from the new cursor on
abbrev pub LeavesAfter : Token → Cursor → Cursor → Type 0
LeavesAfter token old new = tokens_of old ≡ with_token token old.passed (tokens_of new)

-- no token is left, and ends states whether the text ends there
abbrev pub LeavesNone : Bool → Cursor → Type 0
LeavesNone ends cursor = ((tokens_of cursor).tokens ≡ []) × ((tokens_of cursor).ends ≡ ends)

-- no token is left and the text doesn't end there, for this reason
abbrev pub LeavesMalformed : Malformed → Cursor → Type 0
LeavesMalformed kind cursor = LeavesNone false cursor × ((tokens_of cursor).kind ≡ kind)

-- ---- which bytes decide on the tokens
-- the tokens end in order, from the offset passed on and up to the offset stop
abbrev pub AreInOrder : ℕ → List EndedToken → ℕ → Type 0
AreInOrder passed [] stop = passed ≤ stop
AreInOrder passed (p ∷ tokens) stop = (passed ≤ p.end) × AreInOrder p.end tokens stop

abbrev pub EndInOrder : Left → Type 0
EndInOrder left = AreInOrder left.passed left.tokens left.stop

-- the other list begins with the tokens that end at k or before it; if the stop is at most k, the other list ends at the same token, with the same kind and stop
abbrev pub Agree : ℕ → List EndedToken → Left → List EndedToken → Left → Type 0
Agree k [] left others other = left.stop ≤ k → (left.ends ≡ false) × (others ≡ []) × (other.ends ≡ false) × (other.kind ≡ left.kind) × (other.stop ≡ left.stop)
Agree k (p ∷ tokens) left others other = p.end ≤ k → (rest : List EndedToken) × (others ≡ p ∷ rest) × Agree k tokens left rest other

abbrev pub AgreesTo : ℕ → Left → Left → Type 0
AgreesTo k left other = (other.passed ≡ left.passed) × Agree k left.tokens left other.tokens other

-- the bytes up to and including the byte at k decide which tokens end at k or before it, and whether a byte up to k rules out a further token
abbrev pub IsDecidedByFronts : List ℕ → Type 0
IsDecidedByFronts text = (k : ℕ) (more : List ℕ) → k < length text → AgreesTo k (tokens_of (start_of text)) (tokens_of (start_of (take (1 + k) text ++ more)))

-- ---- where the tokens lie
-- each token takes at least one byte, the tokens lie in a text of len bytes, and bytes are left if the text doesn't end after the tokens
abbrev pub AreWithin : ℕ → Bool → ℕ → List EndedToken → ℕ → Type 0
AreWithin len ends passed [] stop = (passed ≤ stop) × (stop ≤ len) × (ends ≡ false → passed < len)
AreWithin len ends passed (p ∷ tokens) stop = (passed < p.end) × AreWithin len ends p.end tokens stop

abbrev pub IsWithin : ℕ → Left → Type 0
IsWithin len left = AreWithin len left.ends left.passed left.tokens left.stop
