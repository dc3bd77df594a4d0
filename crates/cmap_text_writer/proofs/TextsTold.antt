-- Entries of texts that are written, and what a reader finds in them.
use Rattle.std.proofs.Common.{◌≡◌, ◌∙◌, ℕ, ◌^◌, ◌<◌, ◌≤◌, List, [], ◌∷◌, inl, map, refl, arith}
use Rattle.std.specs.Prelude.{All, flat_map}
use Rattle.std.proofs.lemmas.List.Elements.{All-head, All-tail}
use Rattle.std.specs.Int.{bytes_high_first}
use Rattle.cmap_values.specs.Files.{BfEntry, Declaration}
use Rattle.cmap_values.specs.CodeLengths.{length_of}
use Rattle.cmap_values.specs.declared.code_length.CodeLength.{CodeLength}
use Rattle.cmap_values.specs.declared.code_length.CodeLength.TheVariants.{One, Two, Three, Four}
use Rattle.cmap_text.specs.TextFiles.{Extent, bf_char, declares_bf, range, single}
use Rattle.cmap_text_writer.specs.Fits.{Fits, HasUnits, IsOfExtent, IsSmallText, TextFits}
use Rattle.cmap_text_writer.specs.Layout.{char_spelled}
use Rattle.cmap_text_writer.specs.Lengths.{length_around, text_length}
use Rattle.cmap_text_writer.specs.Spelled.{end_length, hex_string, text_spelled}
use Rattle.cmap_text_writer.specs.declared.text_lengths.TextLengths.{TextLengths}
use Rattle.cmap_text_writer.specs.Told.{TellsEntries, TellsEntry, text_section}
use Rattle.cmap_text_writer.proofs.EntriesTold.{end_fits, entries_both, no_entries, one_entry}
use Rattle.cmap_text_writer.proofs.StringsTold.{code_back, code_is_token, code_string, is_code, is_destination, units_is_token, units_string}
use Rattle.cmap_text_writer.proofs.TokensTold.{lined, spaced, tokens_both}

text_same : (e : BfEntry) (start end : ℕ) → start ≡ e.start → end ≡ e.end → Declaration.bf e ∷ [] ≡ declares_bf start end e.units ∷ []
text_same e start end a b = rw (a, b) refl

pub text_told : (len : ℕ) (extent : Extent) (e : BfEntry) → Fits len e.start → TextFits e → IsOfExtent extent e.start e.end → TellsEntry (text_section extent) (Declaration.bf e ∷ []) (text_spelled len extent e)
text_told len single e first fits one =
    let a = code_string len e.start in
    let d = units_string e.units in
    let code = bytes_high_first len e.start in
    let back = code_back len e.start first in record {
      tokens = a ∷ d ∷ [];
      told = tokens_both (a ∷ []) (d ∷ []) _ _ (spaced (hex_string code) a (code_is_token len e.start)) (lined _ d (units_is_token e.units));
      is = λ rest. (a, d, code, e.units, refl, is_code len e.start first.some first.few, is_destination e.units fits.some fits.units, text_same e _ _ back (back ∙ one));
    }
text_told len range e first fits any =
    let longer = end_length len e.end in
    let last = end_fits len e.end first.some first.few fits.end in
    let a = code_string len e.start in
    let b = code_string longer e.end in
    let d = units_string e.units in
    let starts = bytes_high_first len e.start in
    let ends = bytes_high_first longer e.end in record {
      tokens = a ∷ b ∷ d ∷ [];
      told = tokens_both (a ∷ b ∷ []) (d ∷ []) _ _ (tokens_both (a ∷ []) (b ∷ []) _ _ (spaced (hex_string starts) a (code_is_token len e.start)) (spaced (hex_string ends) b (code_is_token longer e.end))) (lined _ d (units_is_token e.units));
      is = λ rest. (
        a,
        b,
        starts,
        ends,
        is_code len e.start first.some first.few,
        is_code longer e.end last.some last.few,
        inl (d, e.units, refl, is_destination e.units fits.some fits.units, text_same e _ _ (code_back len e.start first) (code_back longer e.end last)),
      );
    }

is_length : (len : CodeLength) → (1 ≤ length_of len) × (length_of len ≤ 4)
is_length One = (omega arith, omega arith)
is_length Two = (omega arith, omega arith)
is_length Three = (omega arith, omega arith)
is_length Four = (omega arith, omega arith)

around_is : (l : TextLengths) (code : ℕ) → (1 ≤ length_around l code) × (length_around l code ≤ 4)
around_is l code = grind (arith, is_length l.other)

pub fits_text : (e : BfEntry) → HasUnits e → IsSmallText e → TextFits e
fits_text e some small = record { end = small.end; some = some; units = small.units }

-- lengths with room for each code
abbrev pub HaveRoom : (ℕ → ℕ) → Type 0
HaveRoom lengths = (code : ℕ) → code < 2 ^ 32 → Fits (lengths code) code

pub chars_told : (lengths : ℕ → ℕ) → HaveRoom lengths → (es : List BfEntry) → All HasUnits es → All IsSmallText es → All (λ e. IsOfExtent single e.start e.end) es → TellsEntries bf_char (map Declaration.bf es) (flat_map (char_spelled lengths) es)
chars_told lengths room [] units small singles = no_entries bf_char
chars_told lengths room (e ∷ es) units small singles =
    let here = All-head IsSmallText e es small in
    let first = text_told (lengths e.start) single e (room e.start here.start) (fits_text e (All-head HasUnits e es units) here) (All-head (λ e. IsOfExtent single e.start e.end) e es singles) in
    entries_both bf_char (Declaration.bf e ∷ []) (map Declaration.bf es) (char_spelled lengths e) (flat_map (char_spelled lengths) es) (one_entry bf_char (Declaration.bf e ∷ []) (char_spelled lengths e) first)
    (chars_told lengths room es (All-tail HasUnits e es units) (All-tail IsSmallText e es small) (All-tail (λ e. IsOfExtent single e.start e.end) e es singles))

pub of_lengths : (lengths : TextLengths) → HaveRoom (text_length lengths)
of_lengths l code small = let (some, few) = around_is l code in end_fits (length_around l code) code some few small
