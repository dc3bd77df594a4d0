-- What options tell of what they are made of, and what single tokens are read as.
use Rattle.std.proofs.Common.{◌≡◌, ℕ, ◌≤◌, ◌<◌, ◌^◌, ◌&&◌, Bool, true, false, refl, subst, sym, ap, ◌∙◌, List, [], ◌∷◌, length, arith}
use Rattle.std.proofs.lemmas.Bool.{and_parts, eqb-true, le-leb, leb-true, lt-ltb, ltb-true}
use Rattle.std.proofs.lemmas.Option.{none-some, same_Some}
use Rattle.std.proofs.lemmas.Slice.Eq.{bytes_eq-Decides}
use Rattle.std.specs.Prelude.{pos, ◌==◌, nat_le, nat_lt, Option, Some, None, option_map, option_and_then, Result, Ok, Err, if◌then◌else◌}
use Rattle.cmap_values.specs.BigEndian.{big_endian}
use Rattle.cmap_tokens.specs.Numbers.{Number}
use Rattle.cmap_tokens.specs.Pieces.{Piece, Wrong}
use Rattle.cmap_tokens.specs.Strings.{IsValue, WritesTwoBytes}
use Rattle.cmap_tokens.proofs.StringValues.{IsValue-read, IsValue-from}
use Rattle.cmap_tokens.specs.Texts.{units_of}
use Rattle.cmap_tokens.specs.Tokens.{Token}
use Rattle.cmap_text.specs.Salvage.{empty_text_of}
use Rattle.cmap_text.specs.Standing.{IsEmptyString}
use Rattle.cmap_text.specs.TextFiles.{IsCode, IsCid, IsDestination}
use Rattle.cmap_text.specs.TextReading.{Code, code_of, code_in, cid_in, destination_of, destination_in, is_executable, value_in}

pub some_bound : {A B : Type 0} (f : A → Option B) (o : Option A) (y : B) → option_and_then f o ≡ Some y → (x : A) × (o ≡ Some x) × (f x ≡ Some y)
some_bound f None y is = absurd (none-some y is)
some_bound f (Some x) y is = (x, refl, is)

pub some_mapped : {A B : Type 0} (f : A → B) (o : Option A) (y : B) → option_map f o ≡ Some y → (x : A) × (o ≡ Some x) × (f x ≡ y)
some_mapped f None y is = absurd (none-some y is)
some_mapped f (Some x) y is = (x, refl, same_Some (f x) y is)

-- none where none can be
pub no_answer : {A : Type 0} (o : Option A) → ((x : A) → o ≡ Some x → ⊥) → o ≡ None
no_answer None none = refl
no_answer (Some x) none = absurd (none x refl)

-- what is read of a piece is read of a token
pub token_read : {A : Type 0} (piece : Piece) (read : Token → Option A) (x : A) → (elim piece.token as (λ r. Option A) [ Ok t ↦ read t | Err w ↦ None ]) ≡ Some x → (t : Token) × (piece.token ≡ Ok t) × (read t ≡ Some x)
token_read {A} piece read x is = by piece.token refl is
  where
    by : (r : Result Token Wrong) → piece.token ≡ r → (elim r as (λ r. Option A) [ Ok t ↦ read t | Err w ↦ None ]) ≡ Some x → (t : Token) × (piece.token ≡ Ok t) × (read t ≡ Some x)
    by (Ok t) token is = (t, token, is)
    by (Err w) token is = absurd (none-some x is)

pub tested : {A : Type 0} (b : Bool) (x y : A) → (if b then Some x else None) ≡ Some y → (b ≡ true) × (x ≡ y)
tested true x y is = (refl, same_Some x y is)
tested false x y is = absurd (none-some y is)

-- ---- names
pub is_executable-found : (name : List ℕ) (t : Token) → is_executable name t ≡ true → t ≡ Token.Name false name
is_executable-found name (Token.Name false bytes) is = ap (Token.Name false) ((bytes_eq-Decides bytes name).0 is)
is_executable-found name _ is = cc

pub is_executable-own : (name : List ℕ) → is_executable name (Token.Name false name) ≡ true
is_executable-own name = (bytes_eq-Decides name name).1 refl

-- ---- codes, CIDs and destinations
-- a code of these bytes
abbrev pub written : List ℕ → Code
written bytes = record { len = length bytes; number = big_endian bytes }

pub code_of-is : (bytes : List ℕ) → 1 ≤ length bytes → length bytes ≤ 4 → code_of bytes ≡ Some (written bytes)
code_of-is bytes least most = rw (le-leb 1 (length bytes) least, le-leb (length bytes) 4 most) refl

pub destination_of-is : (bytes : List ℕ) → 0 < length bytes → destination_of bytes ≡ Some (units_of bytes)
destination_of-is bytes filled = rw (lt-ltb 0 (length bytes) filled) refl

pub destination_of-none : (bytes : List ℕ) → length bytes ≡ 0 → destination_of bytes ≡ None
destination_of-none bytes empty = rw empty refl

pub cid_found : (t : Token) (cid : ℕ) → cid_in t ≡ Some cid → IsCid t cid
cid_found (Token.Numeral (Number.Integer (pos n))) cid is =
    let (within, same) = tested (nat_lt n (2 ^ 32)) n cid is in
    (ap (λ m. Token.Numeral (Number.Integer (pos m))) same, omega (arith, ltb-true n (2 ^ 32) within, same))
cid_found _ cid is = absurd (none-some cid is)

pub cid_is : (t : Token) (cid : ℕ) → IsCid t cid → cid_in t ≡ Some cid
cid_is t cid (is, within) = rw (is, lt-ltb cid (2 ^ 32) within) refl

-- a string is read by its value
pub read_value : {A : Type 0} (read : List ℕ → Option A) (t : Token) (piece value : List ℕ) → t ≡ Token.String piece → IsValue piece value → option_and_then read (value_in t) ≡ read value
read_value read t piece value is holds = rw (is, IsValue-read piece value holds) refl

found_value : {A : Type 0} (read : List ℕ → Option A) (t : Token) (x : A) → option_and_then read (value_in t) ≡ Some x → (piece value : List ℕ) × (t ≡ Token.String piece) × IsValue piece value × (read value ≡ Some x)
found_value read (Token.String piece) x is = let (value, read_is, gives) = some_bound read (value_in (Token.String piece)) x is in (piece, value, refl, IsValue-from piece value read_is, gives)
found_value read _ x is = absurd (none-some x is)

pub code_is : (t : Token) (bytes : List ℕ) → IsCode t bytes → code_in t ≡ Some (written bytes)
code_is t bytes (piece, is, value, least, most) = read_value code_of t piece bytes is value ∙ code_of-is bytes least most

-- by the number that its two bytes write
pub two_bytes_code : (piece : List ℕ) (n : ℕ) (code : Code) → WritesTwoBytes piece n → code ≡ record { len = 2; number = n } → code_in (Token.String piece) ≡ Some code
two_bytes_code piece n code (value, only, bytes, two, number) is =
    read_value code_of (Token.String piece) piece value refl only.holds ∙ code_of-is value (omega (arith, two)) (omega (arith, two)) ∙ rw (two, ← number, is) refl

pub code_found : (t : Token) (code : Code) → code_in t ≡ Some code → (bytes : List ℕ) × IsCode t bytes × (code ≡ written bytes)
code_found t code is =
    let (piece, bytes, string, value, gives) = found_value code_of t code is in
    let (within, same) = tested (nat_le 1 (length bytes) && nat_le (length bytes) 4) (written bytes) code gives in
    let (least, most) = and_parts (nat_le 1 (length bytes)) (nat_le (length bytes) 4) within in
    (bytes, (piece, string, value, leb-true 1 (length bytes) least, leb-true (length bytes) 4 most), sym same)

pub destination_is : (t : Token) (units : List ℕ) → IsDestination t units → destination_in t ≡ Some units
destination_is t units (piece, bytes, is, value, filled, units_are) = read_value destination_of t piece bytes is value ∙ destination_of-is bytes filled ∙ ap Some (sym units_are)

pub destination_found : (t : Token) (units : List ℕ) → destination_in t ≡ Some units → IsDestination t units
destination_found t units is =
    let (piece, bytes, string, value, gives) = found_value destination_of t units is in
    let (filled, same) = tested (nat_lt 0 (length bytes)) (units_of bytes) units gives in
    (piece, bytes, string, value, ltb-true 0 (length bytes) filled, sym same)

-- an empty string
pub empty_found : (t : Token) (units : List ℕ) → option_and_then empty_text_of (value_in t) ≡ Some units → IsEmptyString t × (units ≡ [])
empty_found t units is =
    let (raw, bytes, string, value, gives) = found_value empty_text_of t units is in
    let (empty, same) = tested (length bytes == 0) [] units gives in
    ((raw, string, subst (IsValue raw) (no_bytes bytes (eqb-true (length bytes) 0 empty)) value), sym same)
  where
    no_bytes : (bytes : List ℕ) → length bytes ≡ 0 → bytes ≡ []
    no_bytes [] none = refl
    no_bytes (b ∷ bytes) none = absurd (omega (arith, none))
