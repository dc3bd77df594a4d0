-- Parts of ranges of texts.
use Rattle.std.proofs.Common.{◌≡◌, ℕ, ◌+◌, ◌-◌, ◌^◌, ◌<◌, ◌≤◌, inl, inr, Bool, true, false, List, [], ◌∷◌, ◌++◌, length, length-append, get_or, take, Some, None, refl, ap, ◌∙◌, sym, subst, arith}
use Rattle.std.specs.Prelude.{Option, nat_le, nat_lt, option_and_then, unwrap_or, if◌then◌else◌}
use Rattle.std.specs.List.{All, slice_get}
use Rattle.std.proofs.lemmas.Bool.{and_from, and_parts, cases_lt, le-leb, le-ltb, leb-true, lt-ltb}
use Rattle.std.proofs.lemmas.List.{append_assoc, append-nil}
use Rattle.std.proofs.lemmas.List.Elements.{All-append, All-head, All-nil, All-push, All-tail}
use Rattle.cmap_tokens.specs.Texts.{characters, text_at}
use Rattle.cmap_values.specs.Files.{BfEntry}
use Rattle.cmap_layers.specs.Lookups.{bf_at, bf_span}
use Rattle.cmap_binary_writer.specs.Pieces.{AllSayAs, CanBeSplitText, Cover, Has, IsShortText, PushesPieces, SaysAs}
use Rattle.cmap_binary_writer.specs.TextParts.{GivesUnits, IsShifted, ShiftsTo, units_at, units_from}
use Rattle.cmap_binary_writer.proofs.CidParts.{last_split}
use Rattle.cmap_binary_writer.proofs.Told.{Any-head, Any-left, Any-right}

-- ---- the text at an offset
-- the text of units of which this is the last one
abbrev text_with : List ℕ → ℕ → Option (List ℕ)
text_with front value = if nat_lt value (2 ^ 16) then characters (front ++ value ∷ []) else None

either : (b : Bool) (units : List ℕ) → option_and_then characters (if b then Some units else None) ≡ (if b then characters units else None)
either true units = refl
either false units = refl

last_got : (front : List ℕ) (last : ℕ) → slice_get (front ++ last ∷ []) (length front) ≡ Some last
last_got [] last = refl
last_got (x ∷ front) last = last_got front last

front_kept : (front : List ℕ) (last : ℕ) → take (length front) (front ++ last ∷ []) ≡ front
front_kept [] last = refl
front_kept (x ∷ front) last = ap (λ xs. x ∷ xs) (front_kept front last)

text_split : (front : List ℕ) (last offset : ℕ) → text_at (front ++ last ∷ []) offset ≡ text_with front (last + offset)
text_split front last offset =
    let units = front ++ last ∷ [] in
    let count : length units - 1 ≡ length front = omega (arith, length-append front (last ∷ [])) in
    rw (count, last_got front last, front_kept front last) (either (nat_lt (last + offset) (2 ^ 16)) (front ++ (last + offset) ∷ []))

-- the units of which this is the last one
abbrev pub units_with : List ℕ → ℕ → List ℕ
units_with front value = if nat_lt value (2 ^ 16) then front ++ value ∷ [] else []

either_units : (b : Bool) (units : List ℕ) → unwrap_or (if b then Some units else None) [] ≡ (if b then units else [])
either_units true units = refl
either_units false units = refl

pub units_split : (front : List ℕ) (last offset : ℕ) → units_from (front ++ last ∷ []) offset ≡ units_with front (last + offset)
units_split front last offset =
    let units = front ++ last ∷ [] in
    let count : length units - 1 ≡ length front = omega (arith, length-append front (last ∷ [])) in
    rw (count, last_got front last, front_kept front last) (either_units (nat_lt (last + offset) (2 ^ 16)) (front ++ (last + offset) ∷ []))

last_small : (front : List ℕ) (last : ℕ) → All (λ u. u < 2 ^ 16) (front ++ last ∷ []) → last < 2 ^ 16
last_small [] last small = All-head (λ u. u < 2 ^ 16) last [] small
last_small (x ∷ front) last small = last_small front last (All-tail (λ u. u < 2 ^ 16) x (front ++ last ∷ []) small)

-- the units at the first code are all of them
pub units_first : (units : List ℕ) → All (λ u. u < 2 ^ 16) units → units_from units 0 ≡ units
units_first [] small = refl
units_first (x ∷ units) small =
    let all = x ∷ units in
    let front = take (length all - 1) all in
    let last = get_or all (length all - 1) 0 in
    let parted : all ≡ front ++ last ∷ [] = last_split all 0 (omega arith) in
    let fits : last + 0 < 2 ^ 16 = omega (arith, last_small front last (subst (All (λ u. u < 2 ^ 16)) parted small)) in
    let whole : units_with front (last + 0) ≡ front ++ last ∷ [] = rw (lt-ltb (last + 0) (2 ^ 16) fits) (ap (λ u. front ++ u ∷ []) (omega arith)) in
    ap (λ us. units_from us 0) parted ∙ units_split front last 0 ∙ whole ∙ sym parted

-- ---- units with an offset added
pub raised : (front : List ℕ) (last offset : ℕ) → All (λ u. u < 2 ^ 16) (front ++ (last + offset) ∷ []) → IsShifted (front ++ last ∷ []) offset (front ++ (last + offset) ∷ [])
raised front last offset small = record {
  texts = λ more. text_split front (last + offset) more ∙ ap (text_with front) (omega arith) ∙ sym (text_split front last (offset + more));
  exact = λ more. units_split front (last + offset) more ∙ ap (units_with front) (omega arith) ∙ sym (units_split front last (offset + more));
  counted = omega (arith, length-append front (last ∷ []), length-append front ((last + offset) ∷ []));
  small = small;
}

pub lost : (front : List ℕ) (last offset : ℕ) → 2 ^ 16 ≤ last + offset → IsShifted (front ++ last ∷ []) offset []
lost front last offset past = record {
  texts = λ more. sym (text_split front last (offset + more) ∙ none more);
  exact = λ more. sym (units_split front last (offset + more) ∙ no_units more);
  counted = omega arith;
  small = All-nil (λ u. u < 2 ^ 16);
}
  where
    no_units : (more : ℕ) → units_with front (last + (offset + more)) ≡ []
    no_units more = rw (le-ltb (last + (offset + more)) (2 ^ 16) (omega (arith, past))) refl

    none : (more : ℕ) → text_with front (last + (offset + more)) ≡ None
    none more = rw (le-ltb (last + (offset + more)) (2 ^ 16) (omega (arith, past))) refl

pub without : (offset : ℕ) → IsShifted [] offset []
without offset = record { texts = λ more. refl; exact = λ more. refl; counted = omega arith; small = All-nil (λ u. u < 2 ^ 16) }

-- ---- what a range says, its part says
pub text_has : (e : BfEntry) (code : ℕ) → e.start ≤ code → code ≤ e.end → Has bf_span e code
text_has e code low high = and_from (nat_le e.start code) (nat_le code e.end) (le-leb e.start code low) (le-leb code e.end high)

pub text_within : (e : BfEntry) (code : ℕ) → Has bf_span e code → (e.start ≤ code) × (code ≤ e.end)
text_within e code h = let both = and_parts (nat_le e.start code) (nat_le code e.end) h in (leb-true e.start code both.0, leb-true code e.end both.1)

pub same_text : (e part : BfEntry) (code : ℕ) → e.start ≤ part.start → part.start ≤ code → ShiftsTo e.units (part.start - e.start) part.units → bf_at e code ≡ bf_at part code
same_text e part code low after shifts =
    let sum : code - e.start ≡ part.start - e.start + (code - part.start) = omega (arith, low, after) in
    ap (text_at e.units) sum ∙ sym (shifts (code - part.start))

pub same_units : (e part : BfEntry) (code : ℕ) → e.start ≤ part.start → part.start ≤ code → ((more : ℕ) → units_from part.units more ≡ units_from e.units (part.start - e.start + more)) → units_at e code ≡ units_at part code
same_units e part code low after units =
    let sum : code - e.start ≡ part.start - e.start + (code - part.start) = omega (arith, low, after) in
    ap (units_from e.units) sum ∙ sym (units (code - part.start))

part_units : (e part : BfEntry) (es : List BfEntry) → e.start ≤ part.start → part.end ≤ e.end → ((more : ℕ) → units_from part.units more ≡ units_from e.units (part.start - e.start + more)) → SaysAs bf_span units_at es e → SaysAs bf_span units_at es part
part_units e part es low high units whole code here =
    let within = text_within part code here in
    whole code (text_has e code (omega (arith, within.0, low)) (omega (arith, within.1, high))) ∙ ap Some (same_units e part code low within.0 units)

part_says : (e part : BfEntry) (es : List BfEntry) → e.start ≤ part.start → part.end ≤ e.end → ShiftsTo e.units (part.start - e.start) part.units → SaysAs bf_span bf_at es e → SaysAs bf_span bf_at es part
part_says e part es low high shifts whole code here =
    let within = text_within part code here in
    whole code (text_has e code (omega (arith, within.0, low)) (omega (arith, within.1, high))) ∙ ap Some (same_text e part code low within.0 shifts)

-- ---- a range in pieces
-- short pieces so far, which have its codes before this one
pub record PiecesBefore (e : BfEntry) (start : ℕ) (old new : List BfEntry) : Type 0 where
  pub pieces : List BfEntry
  pub new_is : new ≡ old ++ pieces
  pub short : All IsShortText pieces
  pub say : (es : List BfEntry) → SaysAs bf_span bf_at es e → AllSayAs bf_span bf_at es pieces
  pub say_units : (es : List BfEntry) → SaysAs bf_span units_at es e → AllSayAs bf_span units_at es pieces
  pub cover : (code : ℕ) → Has bf_span e code → code < start → Cover bf_span pieces code

pub pieces_start : (e : BfEntry) (old : List BfEntry) → PiecesBefore e e.start old old
pieces_start e old = record {
  pieces = [];
  new_is = sym (append-nil old);
  short = All-nil IsShortText;
  say = λ es whole. All-nil (SaysAs bf_span bf_at es);
  say_units = λ es whole. All-nil (SaysAs bf_span units_at es);
  cover = λ code has below. absurd (omega (arith, below, (text_within e code has).0));
}

module _ (e part : BfEntry) (start later : ℕ) (can : CanBeSplitText e) (low : e.start ≤ start) (start_is : part.start ≡ start) (filled : start ≤ part.end) (high : part.end ≤ e.end) (few : part.end - start ≤ 256) (after : later ≡ part.end + 1) (shifted : IsShifted e.units (start - e.start) part.units) where
  texts : ShiftsTo e.units (part.start - e.start) part.units
  texts = subst (λ s. ShiftsTo e.units (s - e.start) part.units) (sym start_is) shifted.texts

  units : (more : ℕ) → units_from part.units more ≡ units_from e.units (part.start - e.start + more)
  units = subst (λ s. (more : ℕ) → units_from part.units more ≡ units_from e.units (s - e.start + more)) (sym start_is) shifted.exact

  short_part : IsShortText part
  short_part = ((omega (arith, filled, start_is), omega (arith, high, can.1), omega (arith, shifted.counted, can.2), shifted.small), omega (arith, few, start_is))

  pub pieces_next : (old now new : List BfEntry) → PiecesBefore e start old now → new ≡ now ++ part ∷ [] → PiecesBefore e later old new
  pieces_next old now new h is = record {
    pieces = h.pieces ++ part ∷ [];
    new_is = is ∙ ap (λ es. es ++ part ∷ []) h.new_is ∙ append_assoc old h.pieces (part ∷ []);
    short = All-push IsShortText h.pieces part h.short short_part;
    say = λ es whole. All-push (SaysAs bf_span bf_at es) h.pieces part (h.say es whole) (part_says e part es (omega (arith, low, start_is)) high texts whole);
    say_units = λ es whole. All-push (SaysAs bf_span units_at es) h.pieces part (h.say_units es whole) (part_units e part es (omega (arith, low, start_is)) high units whole);
    cover = λ code has below. elim (cases_lt code start) [
      | inl before ↦ Any-left (λ p. Has bf_span p code) h.pieces (part ∷ []) (h.cover code has before)
      | inr here ↦ Any-right (λ p. Has bf_span p code) h.pieces (part ∷ []) (Any-head (λ p. Has bf_span p code) part [] (text_has part code (omega (arith, here, start_is)) (omega (arith, below, after))))
    ];
  }

pub pieces_end : (e : BfEntry) (later : ℕ) (old new : List BfEntry) → e.end < later → PiecesBefore e later old new → PushesPieces bf_span bf_at IsShortText e old new
pieces_end e later old new past h = (h.pieces, h.new_is, h.short, (h.say, λ code has. h.cover code has (omega (arith, past, (text_within e code has).1))))

pub pieces_units : (e : BfEntry) (later : ℕ) (old new : List BfEntry) → PiecesBefore e later old new → GivesUnits e old new
pieces_units e later old new h es before whole = subst (AllSayAs bf_span units_at es) (sym h.new_is) (All-append (SaysAs bf_span units_at es) old h.pieces before (h.say_units es whole))
