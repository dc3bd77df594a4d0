-- The codes of characters, added by their glyphs.
use Rattle.std.proofs.Common.{◌≡◌, ℕ, ◌+◌, ◌-◌, ◌^◌, ◌<◌, ◌≤◌, Bool, true, false, List, [], ◌∷◌, length, Option, Some, None, refl, sym, ap, ◌∙◌, subst, inl, inr, arith}
use Rattle.std.specs.Prelude.{◌↔◌, IfSome, IsTrue, MatchOption, if◌then◌else◌, option_and_then, option_map}
use Rattle.std.proofs.lemmas.Bool.{cases_lt, false≢true}
use Rattle.std.proofs.lemmas.Bool.Decides.{nat_tests}
use Rattle.std.proofs.lemmas.Option.{none-some, same_Some}
use Rattle.cmap_tokens.specs.Texts.{Text, one, more}
use Rattle.cmap_tokens.specs.TextSeen.{text_seen}
use Rattle.cmap_unicode.specs.CountedTexts.{counted_on, text_after}
use Rattle.cmap_unicode.specs.TextRows.{AreTexts}
use Rattle.cmap_unicode.specs.TextsOfCodes.{text_in}
use Rattle.cmap_unicode.specs.declared.rows.TextRow.{TextRow}
use Rattle.cmap_values.specs.BigEndian.{big_endian}
use Rattle.cmap_values.specs.CodeLengths.{length_of}
use Rattle.cmap_encode.specs.Codes.{code_bytes}
use Rattle.cmap_encode.specs.GlyphCodesSeen.{codes_by_place}
use Rattle.cmap_encode.specs.KeyCodesSeen.{IsKeyStretch, code_for}
use Rattle.cmap_encode.specs.Forms.{code_in}
use Rattle.cmap_encode.specs.GatheredSeen.{AddsGlyphs, GivesCharacter, IsOwnFormOf}
use Rattle.cmap_encode.specs.Glyphs.{glyph_by}
use Rattle.cmap_encode.specs.GlyphsSeen.{AreOfCharacters, AreReadSo, AreSilent}
use Rattle.cmap_encode.specs.Maps.{Maps, Unicode, glyph_of_character}
use Rattle.cmap_encode.specs.Ranks.{Candidate, as_ranked, candidate_of, code_after, ranked_after}
use Rattle.cmap_encode.specs.RunsSeen.{AddsCharacters, IsFurther}
use Rattle.cmap_encode.specs.StandsFor.{HasGlyph, IsSilent, is_other, only_one, reads_other}
use Rattle.cmap_encode.specs.declared.by_character.GlyphRow.{GlyphRow}
use Rattle.cmap_encode.specs.declared.code.Code.{Code}
use Rattle.cmap_encode.specs.declared.glyph_codes.GlyphCodes.{GlyphCodes}
use Rattle.cmap_encode.specs.declared.key_codes.KeyStretch.{KeyStretch}
use Rattle.cmap_encode.specs.declared.rank.Rank.TheVariants.{Canonical, OwnForm}
use Rattle.cmap_encode.specs.declared.rank.Ranked.{Ranked}
use Rattle.cmap_encode.specs.declared.runs_by_prefix.RunsByPrefix.{RunsByPrefix}
use Rattle.cmap_encode.specs.declared.silent.SilentStretch.{SilentStretch}
use Rattle.cmap_encode.proofs.Numbers.{are_bytes_of}

abbrev pub canonical_of : Option Ranked → Option Ranked
canonical_of own = option_map (λ ranked. record { code = ranked.code; rank = Canonical }) own

abbrev character_of : Text → ℕ
character_of (one c) = c
character_of (more cs) = 0

abbrev is_one : Text → Bool
is_one (one c) = true
is_one (more cs) = false

module _ (maps : Maps) (unicode : Unicode) (glyphs : GlyphCodes) where
  -- characters of which none has a glyph
  no_glyphs : (all : RunsByPrefix) (first limit : ℕ) → ((text : List ℕ) (candidate : Candidate) → GivesCharacter maps unicode glyphs first limit text candidate → ⊥) → AddsGlyphs maps unicode glyphs first limit all all
  no_glyphs all first limit none text candidate = (λ given. inl given, λ either. elim either [ inl given ↦ given | inr added ↦ absurd (none text candidate added) ])

  pub no_characters : (all : RunsByPrefix) (first : ℕ) → AddsGlyphs maps unicode glyphs first first all all
  no_characters all first = no_glyphs all first first (λ text candidate given. let from = given.from in let below = given.below in omega arith)

  -- one character after another
  -- an added character, within other limits
  narrow : (first limit from to : ℕ) (text : List ℕ) (candidate : Candidate) (added : GivesCharacter maps unicode glyphs first limit text candidate) → from ≤ added.character → added.character < to → GivesCharacter maps unicode glyphs from to text candidate
  narrow first limit from to text candidate added le lt = record { character = added.character; from = le; below = lt; is_text = added.is_text; cid = added.cid; glyph = added.glyph; chosen = added.chosen }

  pub more_characters : (old middle new : RunsByPrefix) (first next limit : ℕ) → first ≤ next → next ≤ limit → AddsGlyphs maps unicode glyphs first next old middle → AddsGlyphs maps unicode glyphs next limit middle new → AddsGlyphs maps unicode glyphs first limit old new
  more_characters old middle new first next limit le le_too before after text candidate = (
    λ given.
        elim ((after text candidate).0 given) [
          | inl between ↦
              elim ((before text candidate).0 between) [
                | inl oldest ↦ inl oldest
                | inr added ↦ inr (narrow first next first limit text candidate added added.from (let below = added.below in omega arith))
              ]
          | inr added ↦ inr (narrow next limit first limit text candidate added (let from = added.from in omega arith) added.below)
        ],
    λ either.
        elim either [
          | inl oldest ↦ (after text candidate).1 (inl ((before text candidate).1 (inl oldest)))
          | inr added ↦
              elim (cases_lt added.character next) [
                | inl earlier ↦ (after text candidate).1 (inl ((before text candidate).1 (inr (narrow first limit first next text candidate added added.from earlier))))
                | inr from ↦ (after text candidate).1 (inr (narrow first limit next limit text candidate added from added.below))
              ]
        ],
  )

  module _ (first : ℕ) (row : GlyphRow) (are : AreOfCharacters unicode.form (HasGlyph maps unicode) first row) where
    -- a character of the row
    glyph_there : (character cid : ℕ) → first ≤ character → character ≤ first + row.more → HasGlyph maps unicode character cid → option_map (λ glyph. glyph + (character - first)) row.cid ≡ Some cid
    glyph_there character cid from to has =
        let at : first + (character - first) ≡ character = omega arith in
        (are.glyphs (character - first) cid (omega arith)).0 (subst (λ c. HasGlyph maps unicode c cid) (sym at) has)

    pub none_has_glyphs : (all : RunsByPrefix) → row.cid ≡ None → AddsGlyphs maps unicode glyphs first (first + row.more + 1) all all
    none_has_glyphs all none = no_glyphs all first (first + row.more + 1) (λ text candidate given.
        let from = given.from in let below = given.below in
        none-some given.cid (sym (ap (option_map (λ glyph. glyph + (given.character - first))) none) ∙ glyph_there given.character given.cid from (omega arith) given.glyph))

    pub none_has_codes : (all : RunsByPrefix) → row.code ≡ None → AddsGlyphs maps unicode glyphs first (first + row.more + 1) all all
    none_has_codes all none = no_glyphs all first (first + row.more + 1) (λ text candidate given.
        let from = given.from in let below = given.below in
        let at : first + (given.character - first) ≡ given.character = omega arith in
        let no_code : code_in unicode.form given.character ≡ None = ap (code_in unicode.form) (sym at) ∙ are.codes (given.character - first) (omega arith) ∙ ap (option_map (code_after (given.character - first))) none in
        none-some given.cid (sym (ap (option_and_then (λ code. glyph_by unicode.lower unicode.all code.number (length_of code.len))) no_code) ∙ given.glyph.glyph))

    -- ---- codes and glyphs that count on
    module _ (code : Code) (cid : ℕ) (stretch : KeyStretch) (silent : SilentStretch) (further : ℕ) (has_code : row.code ≡ Some code) (has_cid : row.cid ≡ Some cid) (others : AreReadSo maps first row) (keys : IsKeyStretch (codes_by_place glyphs row.reads_other) cid stretch) (own : AreSilent maps code silent)
        (in_row : further ≤ row.more) (in_keys : cid + further ≤ stretch.last) (in_silent : code.number + further ≤ silent.last) where
      abbrev Added : List ℕ → Candidate → Type 0
      Added text candidate = GivesCharacter maps unicode glyphs first (first + further + 1) text candidate

      abbrev Row : Option Ranked → List ℕ → Candidate → Type 0
      Row begin text candidate = MatchOption begin ⊥ (λ ranked. IsFurther (one first) ranked further text candidate)

      glyph_at : (count : ℕ) → count ≤ further → HasGlyph maps unicode (first + count) (cid + count)
      glyph_at count within = (are.glyphs count (cid + count) (omega arith)).1 (ap (option_map (λ glyph. glyph + count)) has_cid)

      -- which of the codes of a glyph its character has
      code_is : (count : ℕ) → count ≤ further → code_for (codes_by_place glyphs (reads_other maps (first + count) (cid + count))) (cid + count) ≡ option_map (ranked_after count) stretch.first
      code_is count within =
          ap (λ last. code_for (codes_by_place glyphs last) (cid + count)) (others count (cid + count) (omega arith) (ap (option_map (λ glyph. glyph + count)) has_cid)) ∙ keys.codes count (omega arith)

      code_at : (count : ℕ) → count ≤ further → code_in unicode.form (first + count) ≡ Some (code_after count code)
      code_at count within = are.codes count (omega arith) ∙ ap (option_map (code_after count)) has_code

      -- the glyph and the code of one that is added
      cid_is : (text : List ℕ) (candidate : Candidate) (added : Added text candidate) → cid + (added.character - first) ≡ added.cid
      cid_is text candidate added =
          let from = added.from in let below = added.below in
          same_Some (cid + (added.character - first)) added.cid (sym (ap (option_map (λ glyph. glyph + (added.character - first))) has_cid) ∙ glyph_there added.character added.cid from (omega arith) added.glyph)

      text_is : (text : List ℕ) (candidate : Candidate) (added : Added text candidate) → text ≡ (first + (added.character - first)) ∷ []
      text_is text candidate added = let from = added.from in let at : added.character ≡ first + (added.character - first) = omega arith in added.is_text ∙ ap (λ c. c ∷ []) at

      pub code_fits : code.number + row.more < 256 ^ length_of code.len
      code_fits = subst (λ o. IfSome o (λ code. code.number + row.more < 256 ^ length_of code.len)) has_code are.fits

      -- ---- the first codes of glyphs
      canonical_added : (its : Option Ranked) → stretch.first ≡ its → (text : List ℕ) (candidate : Candidate) → Row (canonical_of its) text candidate → Added text candidate
      canonical_added None is text candidate row = absurd row
      canonical_added (Some ranked) is text candidate at = let within = at.within in record {
        character = first + at.count;
        from = omega arith;
        below = omega arith;
        is_text = at.is_text;
        cid = cid + at.count;
        glyph = glyph_at at.count at.within;
        chosen = inl (ap (option_map (as_ranked Canonical)) (code_is at.count at.within ∙ ap (option_map (ranked_after at.count)) is) ∙ ap Some (sym at.is_code));
      }

      added_code : (text : List ℕ) (candidate : Candidate) (added : Added text candidate) → code_for (codes_by_place glyphs (reads_other maps added.character added.cid)) added.cid ≡ option_map (ranked_after (added.character - first)) stretch.first
      added_code text candidate added =
          let from = added.from in let below = added.below in let count = added.character - first in
          let at : added.character ≡ first + count = omega arith in
          ap (λ c. code_for (codes_by_place glyphs (reads_other maps c added.cid)) added.cid) at
          ∙ ap (λ n. code_for (codes_by_place glyphs (reads_other maps (first + count) n)) n) (sym (cid_is text candidate added)) ∙ code_is count (omega arith)

      added_canonical : (its : Option Ranked) → stretch.first ≡ its → (text : List ℕ) (candidate : Candidate) (added : Added text candidate)
          → option_map (as_ranked Canonical) (code_for (codes_by_place glyphs (reads_other maps added.character added.cid)) added.cid) ≡ Some candidate → Row (canonical_of its) text candidate
      added_canonical None is text candidate added chosen =
          none-some candidate (sym (ap (option_map (as_ranked Canonical)) (added_code text candidate added ∙ ap (option_map (ranked_after (added.character - first))) is)) ∙ chosen)
      added_canonical (Some ranked) is text candidate added chosen =
          let from = added.from in let below = added.below in let count = added.character - first in
          record {
            count = count;
            within = omega arith;
            is_text = text_is text candidate added;
            is_code = same_Some candidate (candidate_of (ranked_after count (record { code = ranked.code; rank = Canonical })))
                (sym chosen ∙ ap (option_map (as_ranked Canonical)) (added_code text candidate added ∙ ap (option_map (ranked_after count)) is));
          }

      -- ---- codes in the form of the map from Unicode
      fits_when : (some : Option ℕ) → silent.cid ≡ some → (some ≡ Some cid) → silent.last < 256 ^ length_of code.len
      fits_when None is same = absurd (none-some cid same)
      fits_when (Some glyph) is same = subst (λ o. IfSome o (λ cid. silent.last < 256 ^ length_of code.len)) is own.fits

      form_added : (form : Option Ranked) → IsOwnFormOf code silent.cid cid form → (text : List ℕ) (candidate : Candidate) → Row form text candidate → Added text candidate
      form_added None is text candidate row = absurd row
      form_added (Some ranked) (silent_is, ranked_is) text candidate at =
          let within = at.within in
          let below = fits_when silent.cid refl silent_is in
          let bytes = are_bytes_of code.len (code.number + at.count) (omega arith) in
          let same : candidate ≡ candidate_of (ranked_after at.count (record { code = code; rank = OwnForm })) = at.is_code ∙ ap (λ begin. candidate_of (ranked_after at.count begin)) ranked_is in
          record {
            character = first + at.count;
            from = omega arith;
            below = omega arith;
            is_text = at.is_text;
            cid = cid + at.count;
            glyph = glyph_at at.count at.within;
            chosen = inr (
              ap (λ (c : Candidate). c.rank) same,
              subst (λ (c : Candidate). IsSilent maps (cid + at.count) c.bytes) (sym same) ((own.silent at.count (cid + at.count) (code_bytes (code_after at.count code)) (omega arith) bytes.string bytes.count bytes.writes).1 (ap (option_map (λ glyph. glyph + at.count)) silent_is)),
              ap (option_map code_bytes) (code_at at.count at.within) ∙ ap Some (sym (ap (λ (c : Candidate). c.bytes) same)),
            );
          }

      -- such a code is silent with the glyph of its character
      form_is_silent : (text : List ℕ) (candidate : Candidate) (added : Added text candidate) → IsSilent maps added.cid candidate.bytes → candidate.bytes ≡ code_bytes (code_after (added.character - first) code) → code.number + (added.character - first) < 256 ^ length_of code.len → silent.cid ≡ Some cid
      form_is_silent text candidate added is same below =
          let from = added.from in let less = added.below in let count = added.character - first in
          let bytes = are_bytes_of code.len (code.number + count) below in
          let counted = (own.silent count added.cid candidate.bytes (omega arith) is.string (ap length same ∙ bytes.count) (ap big_endian same ∙ bytes.writes)).0 is in
          by_cid silent.cid refl (counted ∙ ap Some (sym (cid_is text candidate added)))
        where
          by_cid : (some : Option ℕ) → silent.cid ≡ some → option_map (λ glyph. glyph + (added.character - first)) some ≡ Some (cid + (added.character - first)) → silent.cid ≡ Some cid
          by_cid None is same = absurd (none-some _ same)
          by_cid (Some glyph) is same = let sum = same_Some (glyph + (added.character - first)) (cid + (added.character - first)) same in let equal : glyph ≡ cid = omega arith in is ∙ ap Some equal

      added_form : (form : Option Ranked) → IsOwnFormOf code silent.cid cid form → (text : List ℕ) (candidate : Candidate) (added : Added text candidate) → candidate.rank ≡ OwnForm → IsSilent maps added.cid candidate.bytes → option_map code_bytes (code_in unicode.form added.character) ≡ Some candidate.bytes → Row form text candidate
      added_form form is text candidate added rank silent_is code_is = by_form form is
        where
          count : ℕ
          count = added.character - first

          in_form : candidate.bytes ≡ code_bytes (code_after (added.character - first) code)
          in_form =
              let from = added.from in let less = added.below in let at : first + (added.character - first) ≡ added.character = omega arith in
              same_Some candidate.bytes (code_bytes (code_after (added.character - first) code)) (sym code_is ∙ ap (λ c. option_map code_bytes (code_in unicode.form c)) (sym at) ∙ ap (option_map code_bytes) (code_at (added.character - first) (omega arith)))

          has : silent.cid ≡ Some cid
          has = let from = added.from in let less = added.below in let below = code_fits in form_is_silent text candidate added silent_is in_form (omega arith)

          by_form : (form : Option Ranked) → IsOwnFormOf code silent.cid cid form → Row form text candidate
          by_form None none = absurd (none has)
          by_form (Some ranked) (same, ranked_is) =
              let from = added.from in let less = added.below in
              record {
                count = added.character - first;
                within = omega arith;
                is_text = text_is text candidate added;
                is_code = (λ i. record { bytes = in_form i; rank = rank i }) ∙ ap (λ begin. candidate_of (ranked_after (added.character - first) begin)) (sym ranked_is);
              }

      pub row_added : (form : Option Ranked) → IsOwnFormOf code silent.cid cid form → (old middle new : RunsByPrefix) → AddsCharacters old middle first (canonical_of stretch.first) further → AddsCharacters middle new first form further → AddsGlyphs maps unicode glyphs first (first + further + 1) old new
      row_added form is old middle new before after text candidate = (
        λ given.
            elim ((after text candidate).0 given) [
              | inl between ↦ elim ((before text candidate).0 between) [ inl oldest ↦ inl oldest | inr row ↦ inr (canonical_added stretch.first refl text candidate row) ]
              | inr row ↦ inr (form_added form is text candidate row)
            ],
        λ either.
            elim either [
              | inl oldest ↦ (after text candidate).1 (inl ((before text candidate).1 (inl oldest)))
              | inr added ↦
                  elim added.chosen [
                    | inl chosen ↦ (after text candidate).1 (inl ((before text candidate).1 (inr (added_canonical stretch.first refl text candidate added chosen))))
                    | inr (rank, silent_is, code_is) ↦ (after text candidate).1 (inr (added_form form is text candidate added rank silent_is code_is))
                  ]
            ],
      )

-- ---- how the collection's map reads glyphs of characters
pub none_read : (maps : Maps) (first : ℕ) (row : GlyphRow) → row.cid ≡ None → AreReadSo maps first row
none_read maps first row none = λ count cid within is. absurd (none-some cid (sym (ap (option_map (λ glyph. glyph + count)) none) ∙ is))

module _ (maps : Maps) (unicode : Unicode) (first : ℕ) (row : GlyphRow) (are : AreOfCharacters unicode.form (λ c cid. glyph_of_character unicode c ≡ Some cid) first row) where
  pub none_reads : row.cid ≡ None → AreOfCharacters unicode.form (HasGlyph maps unicode) first row
  none_reads none = record {
    within = are.within;
    codes = are.codes;
    fits = are.fits;
    glyphs = λ count cid within. (λ has. (are.glyphs count cid within).0 has.glyph, λ is. absurd (none-some cid (sym (ap (option_map (λ glyph. glyph + count)) none) ∙ is)));
  }

  -- ---- as the texts of glyphs are those of the characters from the first one on, or are not
  module _ (cid : ℕ) (texts : TextRow) (has_cid : row.cid ≡ Some cid) (in_texts : AreTexts (text_in maps.font.collection) cid texts) (counts : texts.counts_on ≡ true) (further : ℕ) (in_row : further ≤ row.more) (in_last : cid + further ≤ texts.last) where
    abbrev read : Option ℕ
    read = option_and_then only_one (option_map text_seen texts.text)

    abbrev read_row : Bool → Bool → GlyphRow
    read_row kept other = record { code = row.code; cid = if kept then row.cid else None; reads_other = other; more = further }

    cid_of : (count its : ℕ) → option_map (λ glyph. glyph + count) row.cid ≡ Some its → cid + count ≡ its
    cid_of count its is = same_Some (cid + count) its (sym (ap (option_map (λ glyph. glyph + count)) has_cid) ∙ is)

    text_at : (count its : ℕ) → count ≤ further → cid + count ≡ its → text_in maps.font.collection its ≡ option_map (λ text. text_after text count) (option_map text_seen texts.text)
    text_at count its within at =
        ap (text_in maps.font.collection) (sym at) ∙ in_texts.further count (omega arith) ∙ ap (λ b. option_map (λ text. text_after text (if b then count else 0)) (text_in maps.font.collection cid)) counts ∙ ap (option_map (λ text. text_after text count)) (sym in_texts.text)

    fewer_fit : (code : Option Code) → IfSome code (λ code. code.number + row.more < 256 ^ length_of code.len) → IfSome code (λ code. code.number + further < 256 ^ length_of code.len)
    fewer_fit None fits = tt
    fewer_fit (Some code) fits = omega (arith, fits)

    read_so : (kept other : Bool) → ((count its : ℕ) → count ≤ further → HasGlyph maps unicode (first + count) its ↔ (option_map (λ glyph. glyph + count) (if kept then row.cid else None) ≡ Some its)) → AreOfCharacters unicode.form (HasGlyph maps unicode) first (read_row kept other)
    read_so kept other glyphs = record {
      within = (let within = are.within in omega arith);
      codes = λ count to. are.codes count (omega arith);
      fits = fewer_fit row.code are.fits;
      glyphs = λ count its within. glyphs count its within;
    }

    -- ---- a text that is just one character
    counted_from : (text : Option Text) (count : ℕ) → option_map (λ text. text_after text count) text ≡ Some (one (first + count)) → option_and_then only_one text ≡ Some first
    counted_from None count is = absurd (none-some (one (first + count)) is)
    counted_from (Some (one c)) count is =
        let same : c + count ≡ first + count = ap character_of (same_Some (one (c + count)) (one (first + count)) is) in
        let equal : c ≡ first = omega arith in
        ap Some equal
    counted_from (Some (more cs)) count is = absurd (false≢true (ap is_one (same_Some (more (counted_on cs count)) (one (first + count)) is)))

    counted_to : (text : Option Text) (count : ℕ) → option_and_then only_one text ≡ Some first → option_map (λ text. text_after text count) text ≡ Some (one (first + count))
    counted_to None count is = absurd (none-some first is)
    counted_to (Some (one c)) count is = ap (λ n. Some (one (n + count))) (same_Some c first is)
    counted_to (Some (more cs)) count is = absurd (none-some first is)

    pub reads_so : (kept other : Bool) → IsTrue kept ↔ (IsTrue maps.exact → read ≡ Some first) → AreOfCharacters unicode.form (HasGlyph maps unicode) first (read_row kept other)
    reads_so true other is = read_so true other (λ count its within. (
      λ has. (are.glyphs count its (omega arith)).0 has.glyph,
      λ same. record {
        glyph = (are.glyphs count its (omega arith)).1 same;
        exact = λ exact. text_at count its within (cid_of count its same) ∙ counted_to (option_map text_seen texts.text) count (is.0 refl exact);
      },
    ))
    reads_so false other is = read_so false other (λ count its within. (
      λ has.
          let same = (are.glyphs count its (omega arith)).0 has.glyph in
          absurd (false≢true (is.1 (λ exact. counted_from (option_map text_seen texts.text) count (sym (text_at count its within (cid_of count its same)) ∙ has.exact exact)))),
      λ same. absurd (none-some its same),
    ))

    -- ---- read as other characters
    other_on : (text : Option Text) (count : ℕ) → is_other (first + count) (option_and_then only_one (option_map (λ text. text_after text count) text)) ≡ is_other first (option_and_then only_one text)
    other_on None count = refl
    other_on (Some (one c)) count = grind (arith, nat_tests)
    other_on (Some (more cs)) count = refl

    kept_cid : (kept : Bool) (count its : ℕ) → option_map (λ glyph. glyph + count) (if kept then row.cid else None) ≡ Some its → option_map (λ glyph. glyph + count) row.cid ≡ Some its
    kept_cid true count its is = is
    kept_cid false count its is = absurd (none-some its is)

    pub others_so : (kept : Bool) → AreReadSo maps first (read_row kept (is_other first read))
    others_so kept = λ count its within is.
        ap (λ text. is_other (first + count) (option_and_then only_one text)) (text_at count its within (cid_of count its (kept_cid kept count its is))) ∙ other_on (option_map text_seen texts.text) count
