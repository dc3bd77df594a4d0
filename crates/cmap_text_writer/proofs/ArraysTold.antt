-- Arrays of texts that are written, and what a reader finds in them.
use Rattle.std.proofs.Common.{◌≡◌, ◌∙◌, ℕ, zero, suc, ◌+◌, ◌-◌, ◌^◌, ◌<◌, ◌≤◌, false, List, [], ◌∷◌, ◌++◌, drop, get_or, inl, inr, length, map, take, refl, sym, ap, subst, arith}
use Rattle.std.specs.Prelude.{All, codes, flat_map}
use Rattle.std.specs.Int.{bytes_high_first}
use Rattle.std.specs.List.{enumerate_from}
use Rattle.std.proofs.lemmas.List.{append_assoc, append-nil, length-append, length-map, length-take-le, map_more, map-append, get_or-map, take_all}
use Rattle.std.proofs.lemmas.List.Concat.{flat_map-append}
use Rattle.std.proofs.lemmas.List.Elements.{All-cons, All-head, All-nil, All-push, All-tail}
use Rattle.cmap_values.specs.Files.{BfEntry, Declaration}
use Rattle.cmap_values.specs.DeclarationsSeen.{bf_entry_seen}
use Rattle.cmap_values.specs.declared.declarations.BfRange.{BfRange}
use Rattle.cmap_values.specs.UnitsSeen.{units_seen}
use Rattle.cmap_tokens.specs.Tokens.{Token}
use Rattle.cmap_text.specs.TextFiles.{bf_range, declares_bf, range}
use Rattle.cmap_text_writer.specs.Fits.{AreSmallUnits, Fits, HasUnits, IsLine, IsRow, IsSmallText}
use Rattle.cmap_text_writer.specs.Layout.{array_spelled, line_spelled, next_text_spelled}
use Rattle.cmap_text_writer.specs.Spelled.{codes_spelled, end_length, hex_string, text_spelled, units_spelled}
use Rattle.cmap_text_writer.specs.Told.{HasLines, TellsArray, TellsEntries, TellsEntry, TellsTexts, TellsTokens}
use Rattle.cmap_text_writer.proofs.EntriesTold.{end_fits, entries_both, no_entries, one_entry}
use Rattle.cmap_text_writer.proofs.StringsTold.{code_back, code_is_token, code_string, is_code, is_destination, units_is_token, units_string}
use Rattle.cmap_text_writer.proofs.TextsTold.{HaveRoom, fits_text, text_told}
use Rattle.cmap_text_writer.proofs.Walked.{all_after, all_before, all_both}
use Rattle.cmap_text_writer.proofs.TokensTold.{closed, gap_told, is_bracket_token, lined, no_tokens, spaced, tokens_both}

-- ---- texts
abbrev pub open_token : Token
open_token = Token.Name false (codes "[")

abbrev pub close_token : Token
close_token = Token.Name false (codes "]")

string_told : (units : List ℕ) → TellsTokens (units_string units ∷ []) (units_spelled units)
string_told units = closed (units_spelled units) (units_string units) (units_is_token units) refl

next_told : (units : List ℕ) → TellsTokens (units_string units ∷ []) (next_text_spelled units)
next_told units = tokens_both [] (units_string units ∷ []) (32 ∷ []) (units_spelled units) (gap_told (32 ∷ []) (λ rest. refl)) (string_told units)

abbrev pub texts_of : List BfEntry → List (List ℕ)
texts_of es = map (λ e. e.units) es

texts_told : (es : List BfEntry) → All HasUnits es → All IsSmallText es → TellsTexts (texts_of es) (flat_map next_text_spelled (texts_of es))
texts_told [] units small = record { tokens = []; told = no_tokens; are = tt }
texts_told (e ∷ es) units small =
    let h = texts_told es (All-tail HasUnits e es units) (All-tail IsSmallText e es small) in
    let t = units_string e.units in record {
      tokens = t ∷ h.tokens;
      told = tokens_both (t ∷ []) h.tokens (next_text_spelled e.units) (flat_map next_text_spelled (texts_of es)) (next_told e.units) h.told;
      are = (is_destination e.units (All-head HasUnits e es units) (All-head IsSmallText e es small).units, h.are);
    }

-- ---- an array
array_told : (first : List ℕ) (others : List (List ℕ)) (bytes : List ℕ) → 0 < length first → All (λ u. u < 2 ^ 16) first → TellsTexts others bytes → TellsArray (first ∷ others) (91 ∷ (units_spelled first ++ (bytes ++ 93 ∷ 10 ∷ [])))
array_told first others bytes some small h =
    let t = units_string first in record {
      tokens = t ∷ h.tokens;
      told = tokens_both (open_token ∷ []) (t ∷ (h.tokens ++ close_token ∷ [])) (91 ∷ []) _ (closed (91 ∷ []) open_token (is_bracket_token 91 refl) refl)
          (tokens_both (t ∷ []) (h.tokens ++ close_token ∷ []) (units_spelled first) _ (string_told first) (tokens_both h.tokens (close_token ∷ []) bytes (93 ∷ 10 ∷ []) h.told (lined (93 ∷ []) close_token (is_bracket_token 93 refl))));
      are = (is_destination first some small, h.are);
    }

-- ---- codes in a row
same : (e : BfEntry) (start end : ℕ) → start ≡ e.start → end ≡ e.end → Declaration.bf e ≡ declares_bf start end e.units
same e start end a b = rw (a, b) refl

row_declared : (code : ℕ) (es : List BfEntry) → IsRow code es → map Declaration.bf es ≡ map (λ p. declares_bf p.0 p.0 p.1) (enumerate_from code (map (λ e. e.units) es))
row_declared code [] row = refl
row_declared code (e ∷ es) (start, end, later) = ap (λ d. d ∷ map Declaration.bf es) (same e code code (sym start) (sym end)) ∙ ap (λ ds. declares_bf code code e.units ∷ ds) (row_declared (code + 1) es later)

row_push : (code : ℕ) (es : List BfEntry) (e : BfEntry) → IsRow code es → e.start ≡ code + length es → e.end ≡ code + length es → IsRow code (es ++ e ∷ [])
row_push code [] e row start end = (omega (arith, start), omega (arith, end), tt)
row_push code (x ∷ es) e (a, b, later) start end = (a, b, row_push (code + 1) es e later (omega (arith, start)) (omega (arith, end)))

pub row_more : (code : ℕ) (xs : List BfRange) (i : ℕ) (x : BfRange) → i < length xs → IsRow code (map bf_entry_seen (take i xs)) → (get_or xs i x).range.start ≡ code + i → (get_or xs i x).range.end ≡ code + i → IsRow code (map bf_entry_seen (take (i + 1) xs))
row_more code xs i x within row start end =
    let before = map bf_entry_seen (take i xs) in
    let long : length before ≡ i = length-map (take i xs) bf_entry_seen ∙ length-take-le i xs (omega (arith, within)) in
    subst (IsRow code) (sym (map_more bf_entry_seen xs i x within)) (row_push code before (bf_entry_seen (get_or xs i x)) row (omega (arith, start, long)) (omega (arith, end, long)))

pub record IsAt (code : ℕ) (e : BfEntry) : Type 0 where
  pub start : e.start ≡ code
  pub end : e.end ≡ code

row_at : (code : ℕ) (es : List BfEntry) (i : ℕ) (d : BfEntry) → i < length es → IsRow code es → IsAt (code + i) (get_or es i d)
row_at code [] i d within row = absurd (omega (arith, within))
row_at code (e ∷ es) zero d within (start, end, later) = record { start = omega (arith, start); end = omega (arith, end) }
row_at code (e ∷ es) (suc i) d within (start, end, later) =
    let more = row_at (code + 1) es i d (omega (arith, within)) later in
    record { start = omega (arith, more.start); end = omega (arith, more.end) }

-- an array, with its codes
array_entry : (len start end : ℕ) (es : List BfEntry) (bytes : List ℕ) → Fits len start → end < 2 ^ 32 → IsRow start es → end + 1 ≡ start + length es → TellsArray (map (λ e. e.units) es) bytes → TellsEntry bf_range (map Declaration.bf es) (codes_spelled len start end range ++ bytes)
array_entry len start end es bytes first small row long array =
    let longer = end_length len end in
    let last = end_fits len end first.some first.few small in
    let a = code_string len start in
    let b = code_string longer end in
    let starts = bytes_high_first len start in
    let ends = bytes_high_first longer end in
    let starts_back = code_back len start first in
    let ends_back = code_back longer end last in
    let texts = map (λ (e : BfEntry). e.units) es in record {
      tokens = a ∷ b ∷ (open_token ∷ (array.tokens ++ close_token ∷ []));
      told = tokens_both (a ∷ b ∷ []) (open_token ∷ (array.tokens ++ close_token ∷ [])) _ _ (tokens_both (a ∷ []) (b ∷ []) _ _ (spaced (hex_string starts) a (code_is_token len start)) (spaced (hex_string ends) b (code_is_token longer end))) array.told;
      is = λ rest. (
        a,
        b,
        starts,
        ends,
        is_code len start first.some first.few,
        is_code longer end last.some last.few,
        inr (
          array.tokens,
          texts,
          ap (λ ts. a ∷ b ∷ open_token ∷ ts) (append_assoc array.tokens (close_token ∷ []) rest),
          array.are,
          omega (arith, length-map es (λ (e : BfEntry). e.units), starts_back, ends_back, long),
          subst (λ n. map Declaration.bf es ≡ map (λ p. declares_bf p.0 p.0 p.1) (enumerate_from n texts)) (sym starts_back) (row_declared start es row),
        ),
      );
    }

row_of : (es : List BfEntry) → 1 < length es → IsLine es → (code : ℕ) × IsRow code es
row_of es many (inl one) = absurd (omega (arith, many, one))
row_of es many (inr row) = row

-- ---- lines
line_told : (lengths : ℕ → ℕ) → HaveRoom lengths → (e : BfEntry) (es : List BfEntry) → IsLine (e ∷ es) → All HasUnits (e ∷ es) → All IsSmallText (e ∷ es) → TellsEntry bf_range (map Declaration.bf (e ∷ es)) (line_spelled lengths (e ∷ es))
line_told lengths room e [] line units small =
    let here = All-head IsSmallText e [] small in
    text_told (lengths e.start) range e (room e.start here.start) (fits_text e (All-head HasUnits e [] units) here) tt
line_told lengths room e (f ∷ es) line units small =
    let n = length (f ∷ es) in
    let all = e ∷ f ∷ es in
    let (code, row) = row_of all (omega arith) line in
    let last = row_at code all n e (omega arith) row in
    let end : e.start + n < 2 ^ 32 = omega (arith, row.0, last.end, (small n e (omega arith)).end) in
    let array = array_told e.units (texts_of (f ∷ es)) (flat_map next_text_spelled (texts_of (f ∷ es))) (All-head HasUnits e (f ∷ es) units) (All-head IsSmallText e (f ∷ es) small).units (texts_told (f ∷ es) (All-tail HasUnits e (f ∷ es) units) (All-tail IsSmallText e (f ∷ es) small)) in
    array_entry (lengths e.start) e.start (e.start + n) all (array_spelled (texts_of all)) (room e.start (All-head IsSmallText e (f ∷ es) small).start) end (subst (λ k. IsRow k all) (sym row.0) row) (omega arith) array

-- the texts of these lines
abbrev pub texts_in : List (BfEntry × List BfEntry) → List BfEntry
texts_in ls = flat_map (λ l. l.0 ∷ l.1) ls

pub declared_texts : (ls : List (BfEntry × List BfEntry)) → flat_map (λ l. map Declaration.bf (l.0 ∷ l.1)) ls ≡ map Declaration.bf (texts_in ls)
declared_texts [] = refl
declared_texts (l ∷ ls) = ap (λ ds. map Declaration.bf (l.0 ∷ l.1) ++ ds) (declared_texts ls) ∙ sym (map-append Declaration.bf (l.0 ∷ l.1) (texts_in ls))

pub lines_told : (lengths : ℕ → ℕ) → HaveRoom lengths → (ls : List (BfEntry × List BfEntry)) → All (λ l. IsLine (l.0 ∷ l.1)) ls → All HasUnits (texts_in ls) → All IsSmallText (texts_in ls) → TellsEntries bf_range (flat_map (λ l. map Declaration.bf (l.0 ∷ l.1)) ls) (flat_map (λ l. line_spelled lengths (l.0 ∷ l.1)) ls)
lines_told lengths room [] rows units small = no_entries bf_range
lines_told lengths room (l ∷ ls) rows units small =
    let here = l.0 ∷ l.1 in
    let first = line_told lengths room l.0 l.1 (All-head (λ l. IsLine (l.0 ∷ l.1)) l ls rows) (all_before HasUnits here (texts_in ls) units) (all_before IsSmallText here (texts_in ls) small) in
    entries_both bf_range (map Declaration.bf here) (flat_map (λ l. map Declaration.bf (l.0 ∷ l.1)) ls) (line_spelled lengths here) (flat_map (λ l. line_spelled lengths (l.0 ∷ l.1)) ls) (one_entry bf_range (map Declaration.bf here) (line_spelled lengths here) first)
    (lines_told lengths room ls (All-tail (λ l. IsLine (l.0 ∷ l.1)) l ls rows) (all_after HasUnits here (texts_in ls) units) (all_after IsSmallText here (texts_in ls) small))

-- ---- how lines are spelled
-- the texts after the first one
abbrev pub after_first : List BfRange → List BfRange
after_first xs = take (length xs - 1) (drop 1 xs)

parts_of : (xs : List BfRange) (x : BfRange) → 0 < length xs → x ≡ get_or xs 0 x → xs ≡ x ∷ after_first xs
parts_of [] x some is = absurd (omega (arith, some))
parts_of (y ∷ ys) x some is = ap (λ z. z ∷ ys) (sym is) ∙ ap (λ zs. x ∷ zs) (sym (take_all (length (y ∷ ys) - 1) ys (omega arith)))

pub array_made : (xs : List BfRange) (x : BfRange) (text : List ℕ) (old a b c new : List ℕ) → 0 < length xs → x ≡ get_or xs 0 x → text ≡ units_seen x.units → a ≡ old ++ 91 ∷ [] → b ≡ a ++ units_spelled text
    → c ≡ b ++ flat_map next_text_spelled (texts_of (map bf_entry_seen (after_first xs))) → new ≡ c ++ 93 ∷ 10 ∷ [] → new ≡ old ++ array_spelled (texts_of (map bf_entry_seen xs))
array_made xs x text old a b c new some is same_text first second third last =
    let more = flat_map next_text_spelled (texts_of (map bf_entry_seen (after_first xs))) in
    let whole : array_spelled (text ∷ texts_of (map bf_entry_seen (after_first xs))) ≡ array_spelled (texts_of (map bf_entry_seen xs)) = ap (λ us. array_spelled (us ∷ texts_of (map bf_entry_seen (after_first xs)))) same_text ∙ ap (λ (ys : List BfRange). array_spelled (texts_of (map bf_entry_seen ys))) (sym (parts_of xs x some is)) in
    let parts : (((old ++ 91 ∷ []) ++ units_spelled text) ++ more) ++ 93 ∷ 10 ∷ [] ≡ old ++ array_spelled (text ∷ texts_of (map bf_entry_seen (after_first xs))) = simp append_assoc in
    last ∙ ap (λ bs. bs ++ 93 ∷ 10 ∷ []) (third ∙ ap (λ bs. bs ++ more) (second ∙ ap (λ bs. bs ++ units_spelled text) first)) ∙ parts ∙ ap (λ bs. old ++ bs) whole

pub array_small : (xs : List BfRange) (x : BfRange) (text : List ℕ) → 0 < length xs → x ≡ get_or xs 0 x → text ≡ units_seen x.units → AreSmallUnits text → All AreSmallUnits (texts_of (map bf_entry_seen (after_first xs))) → All AreSmallUnits (texts_of (map bf_entry_seen xs))
array_small xs x text some is same_text small more =
    subst (λ (ys : List BfRange). All AreSmallUnits (texts_of (map bf_entry_seen ys))) (sym (parts_of xs x some is)) (All-cons AreSmallUnits (units_seen x.units) (texts_of (map bf_entry_seen (after_first xs))) (subst AreSmallUnits same_text small) more)

pub units_more : (xs : List BfRange) (i : ℕ) (x : BfRange) (text : List ℕ) → i < length xs → x ≡ get_or xs i x → text ≡ units_seen x.units → AreSmallUnits text → All AreSmallUnits (texts_of (map bf_entry_seen (take i xs))) → All AreSmallUnits (texts_of (map bf_entry_seen (take (i + 1) xs)))
units_more xs i x text within is same_text small all =
    let here : AreSmallUnits (bf_entry_seen (get_or xs i x)).units = subst AreSmallUnits (same_text ∙ ap (λ (y : BfRange). units_seen y.units) is) small in
    let parted : texts_of (map bf_entry_seen (take (i + 1) xs)) ≡ texts_of (map bf_entry_seen (take i xs)) ++ (bf_entry_seen (get_or xs i x)).units ∷ [] = ap texts_of (map_more bf_entry_seen xs i x within) ∙ map-append (λ e. e.units) (map bf_entry_seen (take i xs)) (bf_entry_seen (get_or xs i x) ∷ []) in
    subst (All AreSmallUnits) (sym parted) (All-push AreSmallUnits (texts_of (map bf_entry_seen (take i xs))) ((bf_entry_seen (get_or xs i x)).units) all here)

pub next_more : (xs : List BfRange) (i : ℕ) (x : BfRange) (text : List ℕ) (old now new : List ℕ) → i < length xs → x ≡ get_or xs i x → text ≡ units_seen x.units → now ≡ old ++ flat_map next_text_spelled (texts_of (map bf_entry_seen (take i xs))) → new ≡ now ++ next_text_spelled text
    → new ≡ old ++ flat_map next_text_spelled (texts_of (map bf_entry_seen (take (i + 1) xs)))
next_more xs i x text old now new within is same_text first second =
    let here : text ≡ (bf_entry_seen (get_or xs i x)).units = same_text ∙ ap (λ (y : BfRange). units_seen y.units) is in
    let before = texts_of (map bf_entry_seen (take i xs)) in
    let parted : flat_map next_text_spelled (texts_of (map bf_entry_seen (take (i + 1) xs))) ≡ flat_map next_text_spelled before ++ next_text_spelled text =
    ap (λ es. flat_map next_text_spelled (texts_of es)) (map_more bf_entry_seen xs i x within) ∙ ap (flat_map next_text_spelled) (map-append (λ e. e.units) (map bf_entry_seen (take i xs)) (bf_entry_seen (get_or xs i x) ∷ []))
    ∙ flat_map-append next_text_spelled before ((bf_entry_seen (get_or xs i x)).units ∷ []) ∙ ap (λ bs. flat_map next_text_spelled before ++ bs) (append-nil (next_text_spelled ((bf_entry_seen (get_or xs i x)).units)) ∙ ap next_text_spelled (sym here)) in
    second ∙ ap (λ bs. bs ++ next_text_spelled text) first ∙ append_assoc old (flat_map next_text_spelled before) (next_text_spelled text) ∙ ap (λ bs. old ++ bs) (sym parted)

-- the code of the last text of an array
last_code : (xs : List BfRange) (first last : BfRange) → 2 ≤ length xs → first ≡ get_or xs 0 first → last ≡ get_or xs (length xs - 1) last → IsLine (map bf_entry_seen xs) → last.range.end + 1 ≡ first.range.start + length xs
last_code xs first last many first_is last_is line =
    let es = map bf_entry_seen xs in
    let i = length xs - 1 in
    let long = length-map xs bf_entry_seen in
    let (code, row) = row_of es (omega (arith, many, long)) line in
    let at_first : IsAt (code + 0) (bf_entry_seen (get_or xs 0 first)) = subst (IsAt (code + 0)) (get_or-map bf_entry_seen xs 0 first (bf_entry_seen first) (omega (arith, many))) (row_at code es 0 (bf_entry_seen first) (omega (arith, many, long)) row) in
    let at_last : IsAt (code + i) (bf_entry_seen (get_or xs i last)) = subst (IsAt (code + i)) (get_or-map bf_entry_seen xs i last (bf_entry_seen last) (omega (arith, many))) (row_at code es i (bf_entry_seen last) (omega (arith, many, long)) row) in
    let begins : first.range.start ≡ code + 0 = ap (λ (y : BfRange). y.range.start) first_is ∙ at_first.start in
    let ends : last.range.end ≡ code + i = ap (λ (y : BfRange). y.range.end) last_is ∙ at_last.end in
    omega (arith, begins, ends, many)

array_spelled_so : (lengths : ℕ → ℕ) (xs : List BfRange) (first : BfRange) (end : ℕ) → 2 ≤ length xs → first ≡ get_or xs 0 first → end + 1 ≡ first.range.start + length xs
    → codes_spelled (lengths first.range.start) first.range.start end range ++ array_spelled (texts_of (map bf_entry_seen xs)) ≡ line_spelled lengths (map bf_entry_seen xs)
array_spelled_so lengths [] first end many is ends = absurd (omega (arith, many))
array_spelled_so lengths (x ∷ []) first end many is ends = absurd (omega (arith, many))
array_spelled_so lengths (x ∷ y ∷ zs) first end many is ends =
    let start : first.range.start ≡ x.range.start = ap (λ (z : BfRange). z.range.start) is in
    let last : end ≡ x.range.start + length (bf_entry_seen y ∷ map bf_entry_seen zs) = omega (arith, start, ends, length-map zs bf_entry_seen) in
    let array = array_spelled (texts_of (map bf_entry_seen (x ∷ y ∷ zs))) in
    ap (λ n. codes_spelled (lengths n) n end range ++ array) start ∙ ap (λ n. codes_spelled (lengths x.range.start) x.range.start n range ++ array) last

pub array_line : (lengths : ℕ → ℕ) (len : ℕ) (xs : List BfRange) (first last : BfRange) (old mid new : List ℕ) → len ≡ lengths first.range.start → 2 ≤ length xs → first ≡ get_or xs 0 first → last ≡ get_or xs (length xs - 1) last → IsLine (map bf_entry_seen xs)
    → mid ≡ old ++ codes_spelled len first.range.start last.range.end range → new ≡ mid ++ array_spelled (texts_of (map bf_entry_seen xs)) → new ≡ old ++ line_spelled lengths (map bf_entry_seen xs)
array_line lengths len xs first last old mid new long many first_is last_is line codes_are array_is =
    let array = array_spelled (texts_of (map bf_entry_seen xs)) in
    array_is ∙ ap (λ bs. bs ++ array) (codes_are ∙ ap (λ n. old ++ codes_spelled n first.range.start last.range.end range) long) ∙ append_assoc old (codes_spelled (lengths first.range.start) first.range.start last.range.end range) array
    ∙ ap (λ bs. old ++ bs) (array_spelled_so lengths xs first last.range.end many first_is (last_code xs first last many first_is last_is line))

small_row : (code : ℕ) (es : List BfEntry) → IsRow code es → code + length es ≤ 2 ^ 32 → All AreSmallUnits (texts_of es) → All IsSmallText es
small_row code [] row few units = All-nil IsSmallText
small_row code (e ∷ es) (start, end, later) few units =
    All-cons IsSmallText e es (record { start = omega (arith, start, few); end = omega (arith, end, few); units = All-head AreSmallUnits e.units (texts_of es) units }) (small_row (code + 1) es later (omega (arith, few)) (All-tail AreSmallUnits e.units (texts_of es) units))

pub small_array : (xs : List BfRange) (first last : BfRange) → 2 ≤ length xs → first ≡ get_or xs 0 first → last ≡ get_or xs (length xs - 1) last → IsLine (map bf_entry_seen xs) → last.range.end < 2 ^ 32 → All AreSmallUnits (texts_of (map bf_entry_seen xs)) → All IsSmallText (map bf_entry_seen xs)
small_array xs first last many first_is last_is line small units =
    let es = map bf_entry_seen xs in
    let long = length-map xs bf_entry_seen in
    let (code, row) = row_of es (omega (arith, many, long)) line in
    let at_first : IsAt (code + 0) (bf_entry_seen (get_or xs 0 first)) = subst (IsAt (code + 0)) (get_or-map bf_entry_seen xs 0 first (bf_entry_seen first) (omega (arith, many))) (row_at code es 0 (bf_entry_seen first) (omega (arith, many, long)) row) in
    let begins : first.range.start ≡ code + 0 = ap (λ (y : BfRange). y.range.start) first_is ∙ at_first.start in
    small_row code es row (omega (arith, long, begins, last_code xs first last many first_is last_is line, small)) units

only_one : (xs : List BfRange) (x : BfRange) → 1 ≤ length xs → length xs < 2 → x ≡ get_or xs 0 x → xs ≡ x ∷ []
only_one [] x some few is = absurd (omega (arith, some))
only_one (y ∷ []) x some few is = ap (λ z. z ∷ []) (sym is)
only_one (y ∷ z ∷ zs) x some few is = absurd (omega (arith, few))

pub one_line : (lengths : ℕ → ℕ) (xs : List BfRange) (x : BfRange) (old new : List ℕ) → 1 ≤ length xs → length xs < 2 → x ≡ get_or xs 0 x → new ≡ old ++ text_spelled (lengths x.range.start) range (bf_entry_seen x) → new ≡ old ++ line_spelled lengths (map bf_entry_seen xs)
one_line lengths xs x old new some few is written = written ∙ ap (λ (ys : List BfRange). old ++ line_spelled lengths (map bf_entry_seen ys)) (sym (only_one xs x some few is))

pub one_small : (xs : List BfRange) (x : BfRange) → 1 ≤ length xs → length xs < 2 → x ≡ get_or xs 0 x → IsSmallText (bf_entry_seen x) → All IsSmallText (map bf_entry_seen xs)
one_small xs x some few is small = subst (λ (ys : List BfRange). All IsSmallText (map bf_entry_seen ys)) (sym (only_one xs x some few is)) (All-cons IsSmallText (bf_entry_seen x) [] small (All-nil IsSmallText))

pub no_line : (lengths : ℕ → ℕ) (xs : List BfRange) (old : List ℕ) → length xs < 1 → old ≡ old ++ line_spelled lengths (map bf_entry_seen xs)
no_line lengths [] old none = sym (append-nil old)
no_line lengths (x ∷ xs) old none = absurd (omega (arith, none))

pub no_small : (xs : List BfRange) → length xs < 1 → All IsSmallText (map bf_entry_seen xs)
no_small [] none = All-nil IsSmallText
no_small (x ∷ xs) none = absurd (omega (arith, none))

-- what is a line
pub line_of_one : (xs : List BfRange) → 0 < length xs → IsLine (map bf_entry_seen (take 1 xs))
line_of_one xs some = inl (length-map (take 1 xs) bf_entry_seen ∙ length-take-le 1 xs (omega (arith, some)))

pub line_of_row : (code : ℕ) (es : List BfEntry) → IsRow code es → IsLine es
line_of_row code es row = inr (code, row)

-- ---- a list, line by line
pub record LinesTo (lengths : ℕ → ℕ) (all left : List BfRange) (count : ℕ) (old now : List ℕ) : Type 0 where
  pub done : List BfRange
  pub parts : all ≡ done ++ left
  pub few : count + length left ≤ length all
  pub has : HasLines lengths (map bf_entry_seen done) count old now

pub lines_none : (lengths : ℕ → ℕ) (all : List BfRange) (old : List ℕ) → LinesTo lengths all all 0 old old
lines_none lengths all old = record { done = []; parts = refl; few = omega arith; has = record { each = []; counted = refl; flat = refl; rows = All-nil (λ (l : BfEntry × List BfEntry). IsLine (l.0 ∷ l.1)); small = All-nil IsSmallText; spelled = sym (append-nil old) } }

line_more : (lengths : ℕ → ℕ) (es here : List BfEntry) (count : ℕ) (old now new : List ℕ) → HasLines lengths es count old now → 0 < length here → IsLine here → All IsSmallText here → new ≡ now ++ line_spelled lengths here → HasLines lengths (es ++ here) (count + 1) old new
line_more lengths es [] count old now new h some line small written = absurd (omega (arith, some))
line_more lengths es (e ∷ more) count old now new h some line small written =
    let l : BfEntry × List BfEntry = (e, more) in
    let spelled = λ (l : BfEntry × List BfEntry). line_spelled lengths (l.0 ∷ l.1) in
    let texts = λ (l : BfEntry × List BfEntry). l.0 ∷ l.1 in record {
      each = h.each ++ l ∷ [];
      counted = length-append h.each (l ∷ []) ∙ ap (λ n. n + 1) h.counted;
      flat = flat_map-append texts h.each (l ∷ []) ∙ ap (λ xs. xs ++ flat_map texts (l ∷ [])) h.flat ∙ ap (λ xs. es ++ xs) (append-nil (e ∷ more));
      rows = All-push (λ (l : BfEntry × List BfEntry). IsLine (l.0 ∷ l.1)) h.each l h.rows line;
      small = all_both IsSmallText es (e ∷ more) h.small small;
      spelled = written ∙ ap (λ bs. bs ++ spelled l) h.spelled ∙ append_assoc old (flat_map spelled h.each) (spelled l) ∙ ap (λ bs. old ++ bs) (sym (flat_map-append spelled h.each (l ∷ []) ∙ ap (λ bs. flat_map spelled h.each ++ bs) (append-nil (spelled l))));
    }

pub lines_more : (lengths : ℕ → ℕ) (all left here later : List BfRange) (count : ℕ) (old now new : List ℕ) → LinesTo lengths all left count old now → left ≡ here ++ later → 0 < length here → IsLine (map bf_entry_seen here) → All IsSmallText (map bf_entry_seen here) → new ≡ now ++ line_spelled lengths (map bf_entry_seen here)
    → LinesTo lengths all later (count + 1) old new
lines_more lengths all left here later count old now new h cut some line small written = record {
  done = h.done ++ here;
  parts = h.parts ∙ ap (λ xs. h.done ++ xs) cut ∙ sym (append_assoc h.done here later);
  few = omega (arith, h.few, ap (λ (xs : List BfRange). length xs) cut, length-append here later, some);
  has = subst (λ es. HasLines lengths es (count + 1) old new) (sym (map-append bf_entry_seen h.done here)) (line_more lengths (map bf_entry_seen h.done) (map bf_entry_seen here) count old now new h.has (omega (arith, some, length-map here bf_entry_seen)) line small written);
}

pub lines_all : (lengths : ℕ → ℕ) (all : List BfRange) (count : ℕ) (old now : List ℕ) → LinesTo lengths all [] count old now → HasLines lengths (map bf_entry_seen all) count old now
lines_all lengths all count old now h = subst (λ (xs : List BfRange). HasLines lengths (map bf_entry_seen xs) count old now) (sym (h.parts ∙ append-nil h.done)) h.has
