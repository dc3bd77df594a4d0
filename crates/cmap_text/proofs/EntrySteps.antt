-- What entries come to, by what their tokens are found to be.
use Rattle.std.proofs.Common.{◌≡◌, ℕ, suc, ◌+◌, ◌-◌, true, false, refl, sym, ap, ◌∙◌, ◌∷◌, []}
use Rattle.std.specs.Prelude.{Bool, List, codes, not, Option, Some, None, Ok, Err, option_and_then, option_map, is_some, ◌==◌, if◌then◌else◌}
use denote.Enum.Bare.{sameb}
use Rattle.cmap_tokens.specs.Tokens.{Token}
use Rattle.cmap_tokens.specs.TokensLeft.{Left}
use Rattle.cmap_values.specs.Files.{CidEntry, Declaration, Lists}
use Rattle.cmap_values.specs.CodeLengths.{length_of}
use Rattle.cmap_values.specs.contracts.code_length.CodeLength.{the_type}
use Rattle.cmap_values.specs.declared.code_length.CodeLength.{CodeLength}
use Rattle.cmap_values.specs.declared.code_length.CodeLength.TheVariants.{One, Two, Three, Four}
use Rattle.cmap_values.specs.declared.fault.Reason.{Reason}
use Rattle.cmap_values.specs.declared.fault.Reason.TheVariants.{BracketExpected, TextExpected, UnequalLengths}
use Rattle.cmap_text.specs.TextFiles.{CidKind, Extent, Section, bf_char, bf_range, cids, codespace_range, declares_cid}
use Rattle.cmap_text.specs.TextReading.{adding, cids_after, Code, code_fault, code_in, code_or_closer, codespace, codespace_fault, codespace_to, destination_in, entry_after, is_executable, list_in, list_or_destination, next_code, next_destination, text_of, texts_from, closer}
use Rattle.cmap_text.specs.TokenParsers.{Found, followed_by, or_wrong, Refused, run, token_in, wrong}
use Rattle.cmap_text.proofs.TokenParsers.{err-ok, same_Err, same_Ok}

-- a token that is wrong is so whatever is made of a right one, and a right one is what it is read as
wrong_as : {A B : Type 0} (f : A → B) (o : Option A) (reason : Reason) (t : Token) (next : Left) (e : Refused) → or_wrong reason o t next ≡ Err e → or_wrong reason (option_map f o) t next ≡ Err e
wrong_as f None reason t next e is = ap Err (same_Err (wrong reason t next) e is)
wrong_as f (Some x) reason t next e is = absurd (err-ok e (x, next) (sym is))

read_as : {A : Type 0} (o : Option A) (reason : Reason) (t : Token) (next : Left) (x : A) (here : Left) → or_wrong reason o t next ≡ Ok (x, here) → (o ≡ Some x) × (next ≡ here)
read_as None reason t next x here is = absurd (err-ok (wrong reason t next) (x, here) is)
read_as (Some y) reason t next x here is = let same = same_Ok (y, next) (x, here) is in (ap (λ p. Some p.0) same, ap (λ p. p.1) same)

-- ---- a destination or a list, after the two codes of a range
module _ (start end : ℕ) (lists : Lists) (t : Token) (next : Left) where
  abbrev pub texts : Found Lists
  texts = followed_by (λ found. run (texts_from start end lists found)) (or_wrong TextExpected (list_or_destination t) t next)

  pub texts_list : true ≡ is_executable (codes "[") t → texts ≡ run (list_in (end + 1 - start) start lists) next
  texts_list opens = rw (← opens) refl

  module _ (other : false ≡ is_executable (codes "[") t) where
    pub texts_wrong : (e : Refused) → or_wrong TextExpected (destination_in t) t next ≡ Err e → texts ≡ Err e
    texts_wrong e is = rw (← other, wrong_as Some (destination_in t) TextExpected t next e is) refl

    pub texts_made : (units : List ℕ) (here : Left) → or_wrong TextExpected (destination_in t) t next ≡ Ok (units, here) → (new : Lists) → new ≡ adding lists (text_of start end units) → texts ≡ Ok (new, here)
    texts_made units here is new adds = let (text, same) = read_as (destination_in t) TextExpected t next units here is in rw (← other, text, ← same, adds) refl

module _ (start end : Code) (lists : Lists) (old mid : Left) (codes_are : run next_code old ≡ Ok (end, mid)) where
  pub range_ends : (e : Refused) → token_in mid ≡ Err e → run (entry_after bf_range start lists) old ≡ Err e
  range_ends e is = rw (codes_are, is) refl

  pub range_texts : (t : Token) (next : Left) → token_in mid ≡ Ok (t, next) → run (entry_after bf_range start lists) old ≡ texts start.number end.number lists t next
  range_texts t next reads = rw (codes_are, reads) refl

-- ---- the second code of a codespace range
module _ (low : Code) (lists : Lists) (old : Left) where
  -- by what the next token is found to be
  abbrev space_in : Found Token → Found Lists
  space_in found = followed_by (λ declared here. Ok (adding lists declared, here)) (followed_by (λ t. or_wrong (codespace_fault t) (codespace_to low t) t) found)

  abbrev code_of_found : Found Token → Found Code
  code_of_found found = followed_by (λ t. or_wrong (code_fault t) (code_in t) t) found

  pub space_wrong : (e : Refused) → run next_code old ≡ Err e → run (entry_after codespace_range low lists) old ≡ Err e
  space_wrong e is = at (token_in old) is
    where
      within : (t : Token) (next : Left) (o : Option Code) → or_wrong (code_fault t) o t next ≡ Err e → followed_by (λ declared here. Ok (adding lists declared, here)) (or_wrong (if is_some o then UnequalLengths else code_fault t) (option_and_then (codespace low) o) t next) ≡ Err e
      within t next None wrong_is = ap Err (same_Err (wrong (code_fault t) t next) e wrong_is)
      within t next (Some x) right = absurd (err-ok e (x, next) (sym right))

      at : (found : Found Token) → code_of_found found ≡ Err e → space_in found ≡ Err e
      at (Err d) wrong_is = ap Err (same_Err d e wrong_is)
      at (Ok (t, next)) wrong_is = within t next (code_in t) wrong_is

  module _ (high : Code) (here : Left) (is : run next_code old ≡ Ok (high, here)) where
    pub space_unequal : (low.len == high.len) ≡ false → (t : Token) × (run (entry_after codespace_range low lists) old ≡ Err (wrong UnequalLengths t here))
    space_unequal differ = at (token_in old) is
      where
        at : (found : Found Token) → code_of_found found ≡ Ok (high, here) → (t : Token) × (space_in found ≡ Err (wrong UnequalLengths t here))
        at (Err d) wrong_is = absurd (err-ok d (high, here) wrong_is)
        at (Ok (t, next)) right = let (code, same) = read_as (code_in t) (code_fault t) t next high here right in (t, rw (code, differ, same) refl)

    pub space_added : (low.len == high.len) ≡ true → (new : Lists) → new ≡ adding lists (Declaration.codespace (record { len = low.len; low = low.number; high = high.number }) ∷ []) → run (entry_after codespace_range low lists) old ≡ Ok (new, here)
    space_added equal new adds = at (token_in old) is
      where
        at : (found : Found Token) → code_of_found found ≡ Ok (high, here) → space_in found ≡ Ok (new, here)
        at (Err d) wrong_is = absurd (err-ok d (high, here) wrong_is)
        at (Ok (t, next)) right = let (code, same) = read_as (code_in t) (code_fault t) t next high here right in rw (code, equal, ← same, adds) refl

same_lengths : (a b : CodeLength) → sameb the_type a b ≡ (length_of a == length_of b)
same_lengths One One = refl
same_lengths Two Two = refl
same_lengths Three Three = refl
same_lengths Four Four = refl
same_lengths _ _ = refl

not_so : (b : Bool) → true ≡ not b → b ≡ false
not_so true is = is
not_so false is = refl

so : (b : Bool) → false ≡ not b → b ≡ true
so true is = refl
so false is = is

pub lengths_differ : (a b : CodeLength) → true ≡ not (sameb the_type a b) → (length_of a == length_of b) ≡ false
lengths_differ a b is = sym (same_lengths a b) ∙ not_so _ is

pub lengths_agree : (a b : CodeLength) → false ≡ not (sameb the_type a b) → (length_of a == length_of b) ≡ true
lengths_agree a b is = sym (same_lengths a b) ∙ so _ is

-- ---- a list of destinations
module _ (start : ℕ) (lists : Lists) (here : Left) where
  pub list_wrong : (count : ℕ) (e : Refused) → run next_destination here ≡ Err e → run (list_in (suc count) start lists) here ≡ Err e
  unfolding list_in
  list_wrong count e is = rw is refl

  pub list_more : (count : ℕ) (units : List ℕ) (next : Left) → run next_destination here ≡ Ok (units, next) → (new : Lists) → new ≡ adding lists (text_of start start units) → run (list_in (suc count) start lists) here ≡ run (list_in count (start + 1) new) next
  unfolding list_in
  list_more count units next is new adds = rw (is, adds) refl

  pub list_ends : (e : Refused) → token_in here ≡ Err e → run (list_in 0 start lists) here ≡ Err e
  unfolding list_in
  list_ends e is = rw is refl

  module _ (t : Token) (next : Left) (reads : token_in here ≡ Ok (t, next)) where
    pub list_open : false ≡ is_executable (codes "]") t → run (list_in 0 start lists) here ≡ Err (wrong BracketExpected t next)
    unfolding list_in
    list_open other = rw (reads, ← other) refl

    pub list_closed : true ≡ is_executable (codes "]") t → run (list_in 0 start lists) here ≡ Ok (lists, next)
    unfolding list_in
    list_closed closes = rw (reads, ← closes) refl

-- ---- what follows the first code of an entry of CIDs, or of one with a destination
module _ (kind : CidKind) (extent : Extent) (start : Code) (lists : Lists) (old : Left) where
  pub cids_wrong : (e : Refused) → run (cids_after extent start) old ≡ Err e → run (entry_after (cids kind extent) start lists) old ≡ Err e
  cids_wrong e is = rw is refl

  pub cids_added : (filed : ℕ × CidEntry) (here : Left) → run (cids_after extent start) old ≡ Ok (filed, here) → (new : Lists) → new ≡ adding lists (declares_cid kind filed.0 filed.1 ∷ []) → run (entry_after (cids kind extent) start lists) old ≡ Ok (new, here)
  cids_added filed here is new adds = rw (is, adds) refl

module _ (start : Code) (lists : Lists) (old : Left) where
  pub char_wrong : (e : Refused) → run next_destination old ≡ Err e → run (entry_after bf_char start lists) old ≡ Err e
  char_wrong e is = rw is refl

  pub char_text : (units : List ℕ) (here : Left) → run next_destination old ≡ Ok (units, here) → (new : Lists) → new ≡ adding lists (text_of start.number start.number units) → run (entry_after bf_char start lists) old ≡ Ok (new, here)
  char_text units here is new adds = rw (is, adds) refl

-- ---- the first code of an entry, or the closer
module _ (section : Section) (t : Token) (next : Left) where
  abbrev pub started : Found (Option Code)
  started = or_wrong (code_fault t) (code_or_closer section t) t next

  pub start_closes : true ≡ is_executable (closer section) t → started ≡ Ok (None, next)
  start_closes closes = rw (← closes) refl

  pub start_is : false ≡ is_executable (closer section) t → started ≡ followed_by (λ code here. Ok (Some code, here)) (or_wrong (code_fault t) (code_in t) t next)
  start_is other = rw (← other) (at (code_in t))
    where
      at : (o : Option Code) → or_wrong (code_fault t) (option_map Some o) t next ≡ followed_by (λ code here. Ok (Some code, here)) (or_wrong (code_fault t) o t next)
      at None = refl
      at (Some x) = refl
