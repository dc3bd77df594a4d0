-- Entries of sections that are written, and what a reader finds in them.
use Rattle.std.proofs.Common.{◌≡◌, ◌∙◌, ℕ, ◌+◌, ◌^◌, ◌<◌, ◌≤◌, List, [], ◌∷◌, ◌++◌, get_or, inl, inr, length, map, take, refl, sym, ap, subst, arith}
use Rattle.std.specs.Prelude.{All, decimal, flat_map}
use Rattle.std.specs.Int.{bytes_high_first}
use Rattle.std.proofs.lemmas.Bool.{cases_lt, le-ltb, lt-ltb}
use Rattle.std.proofs.lemmas.List.{append_assoc, append-nil}
use Rattle.std.proofs.lemmas.List.Elements.{All-head, All-tail}
use Rattle.std.proofs.lemmas.List.Concat.{flat_map-append}
use Rattle.cmap_values.specs.Files.{CidEntry, Codespace, Declaration}
use Rattle.cmap_text.specs.TextFiles.{AreEntries, CidKind, Extent, Section, cids, codespace_range, declares_cid, range, single}
use Rattle.cmap_text_writer.specs.Fits.{BeginsFitting, CidFits, Fits, IsOfExtent, IsSmallCid, IsSpaceFitting}
use Rattle.cmap_text_writer.specs.Spelled.{cid_spelled, end_length, hex_string, space_spelled}
use Rattle.cmap_text_writer.specs.Told.{TellsEntries, TellsEntry, TellsTokens}
use Rattle.cmap_text_writer.proofs.StringsTold.{code_back, code_is_token, code_string, decimal_is_token, is_cid, is_code, length-code, number_token}
use Rattle.cmap_text_writer.proofs.Walked.{all_more}
use Rattle.cmap_text_writer.proofs.TokensTold.{lined, no_tokens, spaced, tokens_both}

-- ---- codespace ranges
space_same : (s : Codespace) (len low high : ℕ) → len ≡ s.len → low ≡ s.low → high ≡ s.high → Declaration.codespace s ∷ [] ≡ Declaration.codespace (record { len = len; low = low; high = high }) ∷ []
space_same s len low high a b c = rw (a, b, c) refl

pub space_told : (s : Codespace) → Fits s.len s.low → Fits s.len s.high → TellsEntry codespace_range (Declaration.codespace s ∷ []) (space_spelled s)
space_told s low high =
    let a = code_string s.len s.low in
    let b = code_string s.len s.high in
    let lows = bytes_high_first s.len s.low in
    let highs = bytes_high_first s.len s.high in record {
      tokens = a ∷ b ∷ [];
      told = tokens_both (a ∷ []) (b ∷ []) _ _ (spaced (hex_string lows) a (code_is_token s.len s.low)) (lined (hex_string highs) b (code_is_token s.len s.high));
      is = λ rest. (
        a,
        b,
        lows,
        highs,
        refl,
        is_code s.len s.low low.some low.few,
        is_code s.len s.high low.some low.few,
        length-code s.len s.low ∙ sym (length-code s.len s.high),
        space_same s (length lows) _ _ (length-code s.len s.low) (code_back s.len s.low low) (code_back s.len s.high high),
      );
    }

pub space_by : (s : Codespace) → IsSpaceFitting s → TellsEntry codespace_range (Declaration.codespace s ∷ []) (space_spelled s)
space_by s fits = space_told s fits.0 fits.1

-- ---- CIDs
cid_same : (kind : CidKind) (e : CidEntry) (len n start end : ℕ) → n ≡ len → start ≡ e.start → end ≡ e.end → declares_cid kind len e ∷ [] ≡ declares_cid kind n (record { start = start; end = end; cid = e.cid }) ∷ []
cid_same kind e len n start end a b c = rw (a, b, c) refl

-- the last code of a range fits the bytes that it is given
pub end_fits : (len end : ℕ) → 1 ≤ len → len ≤ 4 → end < 2 ^ 32 → Fits (end_length len end) end
end_fits len end some few small =
    elim (cases_lt end (256 ^ len)) [
      | inl fits ↦ rw (lt-ltb end (256 ^ len) fits) (record { some = some; few = few; small = fits })
      | inr past ↦ rw (le-ltb end (256 ^ len) past) (record { some = omega arith; few = omega arith; small = small })
    ]

cid_lined : (n : ℕ) → n < 2 ^ 32 → TellsTokens (number_token n ∷ []) (decimal n ++ 10 ∷ [])
cid_lined n small = lined (decimal n) (number_token n) (decimal_is_token n (omega arith))

pub range_told : (kind : CidKind) (len : ℕ) (e : CidEntry) → CidFits len e → TellsEntry (cids kind range) (declares_cid kind len e ∷ []) (cid_spelled len range e)
range_told kind len e fits =
    let longer = end_length len e.end in
    let last = end_fits len e.end fits.start.some fits.start.few fits.end in
    let a = code_string len e.start in
    let b = code_string longer e.end in
    let starts = bytes_high_first len e.start in
    let ends = bytes_high_first longer e.end in record {
      tokens = a ∷ b ∷ number_token e.cid ∷ [];
      told = tokens_both (a ∷ b ∷ []) (number_token e.cid ∷ []) _ _ (tokens_both (a ∷ []) (b ∷ []) _ _ (spaced (hex_string starts) a (code_is_token len e.start)) (spaced (hex_string ends) b (code_is_token longer e.end))) (cid_lined e.cid fits.cid);
      is = λ rest. (
        a,
        b,
        number_token e.cid,
        starts,
        ends,
        e.cid,
        refl,
        is_code len e.start fits.start.some fits.start.few,
        is_code longer e.end last.some last.few,
        is_cid e.cid fits.cid,
        cid_same kind e len (length starts) _ _ (length-code len e.start) (code_back len e.start fits.start) (code_back longer e.end last),
      );
    }

pub single_told : (kind : CidKind) (len : ℕ) (e : CidEntry) → CidFits len e → e.start ≡ e.end → TellsEntry (cids kind single) (declares_cid kind len e ∷ []) (cid_spelled len single e)
single_told kind len e fits one =
    let a = code_string len e.start in
    let code = bytes_high_first len e.start in
    let back = code_back len e.start fits.start in record {
      tokens = a ∷ number_token e.cid ∷ [];
      told = tokens_both (a ∷ []) (number_token e.cid ∷ []) _ _ (spaced (hex_string code) a (code_is_token len e.start)) (cid_lined e.cid fits.cid);
      is = λ rest. (a, number_token e.cid, code, e.cid, refl, is_code len e.start fits.start.some fits.start.few, is_cid e.cid fits.cid, cid_same kind e len (length code) _ _ (length-code len e.start) back (back ∙ one));
    }

pub cid_told : (kind : CidKind) (len : ℕ) (extent : Extent) (e : CidEntry) → CidFits len e → IsOfExtent extent e.start e.end → TellsEntry (cids kind extent) (declares_cid kind len e ∷ []) (cid_spelled len extent e)
cid_told kind len single e fits one = single_told kind len e fits one
cid_told kind len range e fits any = range_told kind len e fits

-- ---- entries in a row
pub no_entries : (section : Section) → TellsEntries section [] []
no_entries section = record { tokens = []; each = []; flat = refl; told = no_tokens; are = λ rest end others are. are }

pub one_entry : (section : Section) (ds : List Declaration) (bytes : List ℕ) → TellsEntry section ds bytes → TellsEntries section ds bytes
one_entry section ds bytes entry = record { tokens = entry.tokens; each = ds ∷ []; flat = append-nil ds; told = entry.told; are = λ rest end others later. (rest, entry.is rest, later) }

pub entries_both : (section : Section) (ds es : List Declaration) (a b : List ℕ) → TellsEntries section ds a → TellsEntries section es b → TellsEntries section (ds ++ es) (a ++ b)
entries_both section ds es a b first second = let ts = first.tokens in let us = second.tokens in record {
  tokens = ts ++ us;
  each = first.each ++ second.each;
  flat = flat_map-append (λ xs. xs) first.each second.each ∙ ap (λ xs. xs ++ flat_map (λ ys. ys) second.each) first.flat ∙ ap (λ xs. ds ++ xs) second.flat;
  told = tokens_both ts us a b first.told second.told;
  are = λ rest end others later.
      let all = first.are (us ++ rest) end (second.each ++ others) (second.are rest end others later) in
      subst (λ tokens. AreEntries section tokens ((first.each ++ second.each) ++ others) end) (sym (append_assoc ts us rest)) (subst (λ es. AreEntries section (ts ++ (us ++ rest)) es end) (sym (append_assoc first.each second.each others)) all);
}

pub spaces_told : (ss : List Codespace) → All IsSpaceFitting ss → TellsEntries codespace_range (map Declaration.codespace ss) (flat_map space_spelled ss)
spaces_told [] all = no_entries codespace_range
spaces_told (s ∷ ss) all = entries_both codespace_range (Declaration.codespace s ∷ []) (map Declaration.codespace ss) (space_spelled s) (flat_map space_spelled ss) (one_entry codespace_range (Declaration.codespace s ∷ []) (space_spelled s) (space_by s (All-head IsSpaceFitting s ss all))) (spaces_told ss (All-tail IsSpaceFitting s ss all))

cid_fits : (len : ℕ) (e : CidEntry) → BeginsFitting len e → IsSmallCid e → CidFits len e
cid_fits len e start small = record { start = start; end = small.end; cid = small.cid }

pub cids_told : (kind : CidKind) (len : ℕ) (extent : Extent) (es : List CidEntry) → All (BeginsFitting len) es → All IsSmallCid es → All (λ e. IsOfExtent extent e.start e.end) es → TellsEntries (cids kind extent) (map (declares_cid kind len) es) (flat_map (cid_spelled len extent) es)
cids_told kind len extent [] starts small extents = no_entries (cids kind extent)
cids_told kind len extent (e ∷ es) starts small extents =
    let first = cid_told kind len extent e (cid_fits len e (All-head (BeginsFitting len) e es starts) (All-head IsSmallCid e es small)) (All-head (λ e. IsOfExtent extent e.start e.end) e es extents) in
    entries_both (cids kind extent) (declares_cid kind len e ∷ []) (map (declares_cid kind len) es) (cid_spelled len extent e) (flat_map (cid_spelled len extent) es) (one_entry (cids kind extent) (declares_cid kind len e ∷ []) (cid_spelled len extent e) first)
    (cids_told kind len extent es (All-tail (BeginsFitting len) e es starts) (All-tail IsSmallCid e es small) (All-tail (λ e. IsOfExtent extent e.start e.end) e es extents))

-- one of a list more
pub small_more : {X : Type 0} (seen : X → CidEntry) (xs : List X) (i : ℕ) (d : X) → i < length xs → All IsSmallCid (map seen (take i xs)) → (seen (get_or xs i d)).end < 2 ^ 32 → (seen (get_or xs i d)).cid < 2 ^ 32 → All IsSmallCid (map seen (take (i + 1) xs))
small_more seen xs i d within all end cid = all_more IsSmallCid seen xs i d within all (record { end = end; cid = cid })
