-- Parsers of tokens: the value that each parser finds in the tokens that are left of a text, or the wrong token and the reason.
use Rattle.std.specs.Prelude.{ℕ, zero, suc, ◌+◌, List, [], ◌∷◌, length, Option, Some, None, Result, Ok, Err, option_map, ok_or, if◌then◌else◌}
use Rattle.cmap_tokens.specs.Malformed.{Malformed, unclosed_text, unclosed_hexadecimal, wrong_digit, stray}
use Rattle.cmap_tokens.specs.Tokens.{Token}
use Rattle.cmap_tokens.specs.TokensLeft.{EndedToken, Left}
use Rattle.cmap_values.specs.declared.fault.Reason.{Reason}
use Rattle.cmap_values.specs.declared.fault.Reason.TheVariants.{EndWithinSection, StrayDelimiter, UnclosedString, WrongDigit}

-- ---- what is found
-- why nothing is found
pub record Refused : Type 0 where
  -- the token that can't stand at its place, or None if no token comes
  pub token : Option Token
  pub reason : Reason
  -- what is left after the token
  pub left : Left

abbrev pub wrong : Reason → Token → Left → Refused
wrong reason t left = record { token = Some t; reason = reason; left = left }

abbrev pub missing : Reason → Left → Refused
missing reason left = record { token = None; reason = reason; left = left }

-- the offset of the end of the wrong token, or of the byte that rules out a token
abbrev pub offset_of : Refused → ℕ
offset_of e = elim e.token [ Some t ↦ e.left.passed | None ↦ e.left.stop ]

-- a value and what is left after it, or why nothing is found
abbrev pub Found : Type 0 → Type 0
Found A = Result (A × Left) Refused

-- first a value is found, and then `more` finds a value in what is left
abbrev pub followed_by : {A B : Type 0} → (A → Left → Found B) → Found A → Found B
followed_by more (Ok p) = more p.0 p.1
followed_by more (Err e) = Err e

-- the value that is found; if nothing is found, the token that was read last is wrong
abbrev pub or_wrong : {A : Type 0} → Reason → Option A → Token → Left → Found A
or_wrong reason found t left = ok_or (option_map (λ x. (x, left)) found) (wrong reason t left)

-- what is left after this token, where the other tokens come next
abbrev pub after : EndedToken → List EndedToken → Left → Left
after p rest left = record { passed = p.end; tokens = rest; ends = left.ends; kind = left.kind; stop = left.stop }

-- why no token comes
abbrev pub malformed_reason : Malformed → Reason
malformed_reason unclosed_text = UnclosedString
malformed_reason unclosed_hexadecimal = UnclosedString
malformed_reason wrong_digit = WrongDigit
malformed_reason stray = StrayDelimiter

-- the next token
abbrev pub token_in : Left → Found Token
token_in left = elim left.tokens [
  | [] ↦ Err (missing (if left.ends then EndWithinSection else malformed_reason left.kind) left)
  | p ∷ rest ↦ Ok (p.token, after p rest left)
]

-- the next token, or None at the end of the text
abbrev pub next_in : Left → Found (Option Token)
next_in left = elim left.tokens [
  | [] ↦ if left.ends then Ok (None, left) else Err (missing (malformed_reason left.kind) left)
  | p ∷ rest ↦ Ok (Some p.token, after p rest left)
]

-- the value of the next token, or why the token is wrong
abbrev pub head_in : {A : Type 0} → (Token → Reason) → (Token → Option A) → Left → Found A
head_in fault read left = followed_by (λ t. or_wrong (fault t) (read t) t) (token_in left)

-- a round that begins with this value, and then the later rounds; or no further round
abbrev pub round : {S X : Type 0} → (S → Left → Found S) → (S → X → Left → Found S) → S → Option X → Left → Found S
round later more now None next = Ok (now, next)
round later more now (Some x) next = followed_by later (more now x next)

-- rounds, fewer than count, from the state now on: begins reads the start of a round, and more reads the rest; the rounds end where no round begins
unfoldable pub repeated_within : {S X : Type 0} → ℕ → (Left → Found (Option X)) → (S → X → Left → Found S) → S → Left → Found S
repeated_within zero begins more now left = Err (missing EndWithinSection left)
repeated_within (suc count) begins more now left = followed_by (round (repeated_within count begins more) more now) (begins left)

-- each round takes a token, so the number of tokens bounds the number of rounds
unfoldable pub repeated : {S X : Type 0} → (Left → Found (Option X)) → (S → X → Left → Found S) → S → Left → Found S
repeated begins more now left = repeated_within (1 + length left.tokens) begins more now left

-- ---- parsers
pub data Parser : Type 0 → Type 1 where
  -- this value, without a token
  done : {A : Type 0} → A → Parser A
  -- the value of the next token, or why the token is wrong
  head : {A : Type 0} → (Token → Reason) → (Token → Option A) → Parser A
  -- a function of the value that a parser gives
  giving : {A B : Type 0} → (A → B) → Parser A → Parser B
  -- first one parser, and then the parser that its value gives
  chain : {A B : Type 0} → Parser A → (A → Parser B) → Parser B
  -- rounds from a state on: the next token begins a round, and a parser reads the rest of the round; a token that begins no round ends the rounds
  repeat : {S X : Type 0} → (Token → Reason) → (Token → Option (Option X)) → (S → X → Parser S) → S → Parser S

abbrev pub run : {A : Type 0} → Parser A → Left → Found A
run (done x) left = Ok (x, left)
run (head fault read) left = head_in fault read left
run (giving f parser) left = followed_by (λ x next. Ok (f x, next)) (run parser left)
run (chain first more) left = followed_by (λ x. run (more x)) (run first left)
run (repeat fault begins more start) left = repeated (head_in fault begins) (λ now x. run (more now x)) start left

-- the rest of an item after its first token: the tokens that a parser reads; one token, the value, unless the text ends; or nothing, but the first token may be wrong
pub data ItemParser : Type 0 → Type 1 where
  reads : {A : Type 0} → Parser A → ItemParser A
  takes_value : {A : Type 0} → (Option Token → A) → ItemParser A
  wanted : {A : Type 0} → Reason → Option A → ItemParser A

abbrev pub run_item : {A : Type 0} → Token → ItemParser A → Left → Found A
run_item t (reads parser) left = run parser left
run_item t (takes_value set) left = followed_by (λ value next. Ok (set value, next)) (next_in left)
run_item t (wanted reason found) left = or_wrong reason found t left
