-- Codes in a row that have no text by themselves, and glyphs that count on.
use Rattle.std.proofs.Common.{◌≡◌, ℕ, ◌+◌, ◌^◌, ◌<◌, ◌≤◌, true, List, length, Option, Some, None, refl, sym, ap, ◌∙◌, inl, inr, arith}
use Rattle.std.specs.Prelude.{◌↔◌, IfSome, option_map}
use Rattle.std.proofs.lemmas.Bool.{cases_Bool}
use Rattle.std.proofs.lemmas.Option.{none-some}
use Rattle.cmap_tokens.specs.TextSeen.{text_seen}
use Rattle.cmap_tokens.specs.declared.utf16.BfString.{BfString}
use Rattle.cmap_unicode.specs.Given.{given}
use Rattle.cmap_unicode.specs.TextRows.{AreTexts}
use Rattle.cmap_unicode.specs.TextsOfCodes.{text_in}
use Rattle.cmap_unicode.specs.declared.rows.TextRow.{TextRow}
use Rattle.cmap_values.specs.BigEndian.{big_endian}
use Rattle.cmap_values.specs.CodeLengths.{length_of}
use Rattle.cmap_encode.specs.Codes.{IsWhole}
use Rattle.cmap_encode.specs.Strings.{IsString}
use Rattle.cmap_encode.specs.GlyphsSeen.{AreGlyphs, AreSilent, glyph_after}
use Rattle.cmap_encode.specs.Maps.{Maps, glyph_of}
use Rattle.cmap_encode.specs.StandsFor.{IsSilent}
use Rattle.cmap_encode.specs.WholeSeen.{AreWhole}
use Rattle.cmap_encode.specs.declared.code.Code.{Code}
use Rattle.cmap_encode.specs.declared.glyphs.Glyphs.{Glyphs}
use Rattle.cmap_encode.specs.declared.glyphs.Glyphs.TheVariants.{CountOn, Missing, Undeclared}
use Rattle.cmap_encode.specs.declared.glyphs.GlyphStretch.{GlyphStretch}
use Rattle.cmap_encode.specs.declared.whole.WholeStretch.{WholeStretch}
use Rattle.cmap_encode.proofs.CidsAdded.{no_text_in_row}
use Rattle.cmap_encode.proofs.GatheredRows.{not_whole_by, whole_by}

module _ (maps : Maps) (code : Code) (row : TextRow) (stretch : GlyphStretch) (whole : WholeStretch) (texts : AreTexts (text_in maps.font.to_unicode) code.number row)
    (are : AreGlyphs (λ n. glyph_of maps n (length_of code.len)) (λ n. given maps.font.encoding n (length_of code.len)) code.number stretch) (are_whole : AreWhole maps.font.encoding (length_of code.len) code.number whole) where
  text_there : (text : BfString) (count : ℕ) → row.text ≡ Some text → code.number + count ≤ row.last → text_in maps.font.to_unicode (code.number + count) ≡ None → ⊥
  text_there text count some within none =
      none-some _ (sym none ∙ texts.further count within ∙ ap (option_map _) (sym texts.text ∙ ap (option_map text_seen) some))

  no_text : (text : Option BfString) (count : ℕ) → row.text ≡ text → code.number + count ≤ row.last → text_in maps.font.to_unicode (code.number + count) ≡ None → row.text ≡ None
  no_text None count is within none = is
  no_text (Some text) count is within none = absurd (text_there text count is within none)

  is_whole : (bytes : List ℕ) → IsString bytes → length bytes ≡ length_of code.len → code.number ≤ big_endian bytes → big_endian bytes ≤ whole.last → IsWhole maps.font.encoding bytes → whole.are_whole ≡ true
  is_whole bytes string long from to is =
      elim (cases_Bool whole.are_whole) [
        | inl same ↦ same
        | inr not ↦ absurd (not_whole_by whole.are_whole (IsWhole maps.font.encoding bytes) not (are_whole bytes string long from to) is)
      ]

  counts_on : (glyphs : Glyphs) (count cid : ℕ) → glyph_after glyphs count ≡ Some cid → (first : ℕ) × (glyphs ≡ CountOn first) × (Some (first + count) ≡ Some cid)
  counts_on (CountOn first) count cid is = (first, refl, is)
  counts_on Undeclared count cid is = absurd (none-some cid is)
  counts_on Missing count cid is = absurd (none-some cid is)

  module _ (found : Option ℕ) (last : ℕ) (within : code.number ≤ last) (in_row : last ≤ row.last) (in_stretch : last ≤ stretch.last) (in_whole : last ≤ whole.last) (fits : whole.are_whole ≡ true → whole.last < 256 ^ length_of code.len)
      (is : (cid : ℕ) → (found ≡ Some cid) ↔ ((row.text ≡ None) × (whole.are_whole ≡ true) × (stretch.glyphs ≡ CountOn cid))) where
    glyph_at : (count : ℕ) (bytes : List ℕ) → code.number + count ≤ last → length bytes ≡ length_of code.len → big_endian bytes ≡ code.number + count → glyph_of maps (big_endian bytes) (length bytes) ≡ glyph_after stretch.glyphs count
    glyph_at count bytes to long number = ap (glyph_of maps (big_endian bytes)) long ∙ ap (λ n. glyph_of maps n (length_of code.len)) number ∙ are.glyphs count (omega arith)

    silent_so : (count cid : ℕ) (bytes : List ℕ) → code.number + count ≤ last → length bytes ≡ length_of code.len → big_endian bytes ≡ code.number + count → IsSilent maps cid bytes → option_map (λ first. first + count) found ≡ Some cid
    silent_so count cid bytes to long number silent =
        let none = no_text row.text count refl (omega arith) (ap (text_in maps.font.to_unicode) (sym number) ∙ silent.silent) in
        let so = is_whole bytes silent.string long (omega arith) (omega arith) silent.whole in
        let (first, glyphs, at) = counts_on stretch.glyphs count cid (sym (glyph_at count bytes to long number) ∙ silent.glyph) in
        ap (option_map (λ first. first + count)) ((is first).1 (none, so, glyphs)) ∙ at

    so_silent : (some : Option ℕ) (count cid : ℕ) (bytes : List ℕ) → found ≡ some → code.number + count ≤ last → IsString bytes → length bytes ≡ length_of code.len → big_endian bytes ≡ code.number + count → option_map (λ first. first + count) some ≡ Some cid → IsSilent maps cid bytes
    so_silent None count cid bytes at to string long number has = absurd (none-some cid has)
    so_silent (Some first) count cid bytes at to string long number has =
        let (none, so, glyphs) = (is first).0 at in
        record {
          string = string;
          whole = whole_by whole.are_whole (IsWhole maps.font.encoding bytes) so (are_whole bytes string long (omega arith) (omega arith));
          silent = no_text_in_row (text_in maps.font.to_unicode) code.number (big_endian bytes) row texts none (omega arith) (omega arith);
          glyph = glyph_at count bytes to long number ∙ ap (λ g. glyph_after g count) glyphs ∙ has;
        }

    fits_so : (some : Option ℕ) → found ≡ some → IfSome some (λ cid. last < 256 ^ length_of code.len)
    fits_so None at = tt
    fits_so (Some first) at = let (none, so, glyphs) = (is first).0 at in let below = fits so in omega arith

    pub silent_codes : AreSilent maps code (record { cid = found; last = last })
    silent_codes = record {
      within = within;
      fits = fits_so found refl;
      silent = λ count cid bytes to string long number. (silent_so count cid bytes to long number, λ has. so_silent found count cid bytes refl to string long number has);
    }
