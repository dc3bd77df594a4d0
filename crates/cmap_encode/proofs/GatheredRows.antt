-- Codes in a row with texts, or with glyphs, gathered.
use Rattle.std.proofs.Common.{◌≡◌, ℕ, ◌+◌, ◌-◌, ◌^◌, ◌<◌, ◌≤◌, ◌⊎◌, Bool, true, false, List, [], ◌∷◌, ◌++◌, length, Option, Some, None, refl, sym, ap, ◌∙◌, subst, inl, inr, arith}
use Rattle.std.specs.Prelude.{◌↔◌, All, Any, IsSome, not}
use Rattle.std.specs.Bool.{MatchBool}
use Rattle.std.proofs.lemmas.Bool.{false≢true}
use Rattle.std.proofs.lemmas.List.Quantifiers.{Any-push}
use Rattle.std.proofs.lemmas.Option.{none-some, same_Some}
use Rattle.cmap_tokens.specs.Texts.{Text}
use Rattle.cmap_unicode.specs.Characters.{characters_of}
use Rattle.cmap_unicode.specs.CountedTexts.{text_after}
use Rattle.cmap_unicode.specs.Given.{given}
use Rattle.cmap_unicode.specs.TextsOfCodes.{text_in}
use Rattle.cmap_values.specs.BigEndian.{big_endian}
use Rattle.cmap_values.specs.CodeLengths.{length_of}
use Rattle.cmap_encode.specs.Codes.{IsBetween, IsWhole, code_bytes}
use Rattle.cmap_encode.specs.Strings.{IsString}
use Rattle.cmap_encode.specs.KeyCodesSeen.{Gives, IsCodeRun}
use Rattle.cmap_encode.specs.GatheredSeen.{AreGathered, AreJust, AreShown, HasNoTexts, HasTexts, HaveGlyphs, IsSilentOne, IsStatedOne}
use Rattle.cmap_encode.specs.GlyphsSeen.{AreGlyphs, IsDeclaredSo, glyph_after}
use Rattle.cmap_encode.specs.Maps.{Maps, glyph_of}
use Rattle.cmap_encode.specs.Ranks.{Candidate, candidate_of, code_after, ranked_after}
use Rattle.cmap_encode.specs.RunsSeen.{AddsTexts, AreRunsByPrefix, GivesText, IsFurther}
use Rattle.cmap_encode.specs.StandsFor.{IsShown, IsSilent, IsStated}
use Rattle.cmap_encode.specs.WholeSeen.{AreWhole}
use Rattle.cmap_encode.specs.declared.code.Code.{Code}
use Rattle.cmap_encode.specs.declared.key_codes.CodeRun.{CodeRun}
use Rattle.cmap_encode.specs.declared.gathered.Gathered.{Gathered}
use Rattle.cmap_encode.specs.declared.glyphs.Glyphs.{Glyphs}
use Rattle.cmap_encode.specs.declared.glyphs.Glyphs.TheVariants.{CountOn, Missing, Undeclared}
use Rattle.cmap_encode.specs.declared.glyphs.GlyphStretch.{GlyphStretch}
use Rattle.cmap_encode.specs.declared.rank.Rank.{Rank}
use Rattle.cmap_encode.specs.declared.rank.Rank.TheVariants.{Collection, Stated}
use Rattle.cmap_encode.specs.declared.rank.Ranked.{Ranked}
use Rattle.cmap_encode.specs.declared.whole.WholeStretch.{WholeStretch}
use Rattle.cmap_encode.proofs.Gathering.{length_gathered, more_gathered, none_gathered, none_more}
use Rattle.cmap_encode.proofs.Numbers.{are_bytes_of, fits_length, one_string}
use Rattle.cmap_encode.proofs.RunsAdded.{any_kept, any_split}

pub whole_by : (b : Bool) (Whole : Type 0) → b ≡ true → MatchBool b Whole (Whole → ⊥) → Whole
whole_by true Whole is whole = whole
whole_by false Whole is whole = cc

pub not_whole_by : (b : Bool) (Whole : Type 0) → b ≡ false → MatchBool b Whole (Whole → ⊥) → Whole → ⊥
not_whole_by true Whole is whole = cc
not_whole_by false Whole is whole = whole

pub is_so : (b : Bool) → not b ≡ false → b ≡ true
is_so true is = refl
is_so false is = cc

pub is_false : (b : Bool) → not b ≡ true → b ≡ false
is_false true is = cc
is_false false is = refl

is_none_so : {A : Type 0} (o : Option A) → o ≡ None → IsSome o → ⊥
is_none_so None is some = false≢true some
is_none_so (Some x) is some = none-some x (sym is)

module _ (maps : Maps) where
  real_stated : (text : List ℕ) (candidate : Candidate) → IsStatedOne maps text candidate → IsString candidate.bytes × IsWhole maps.font.encoding candidate.bytes
  real_stated text candidate (rank, is) = (is.string, is.whole)

  real_silent : (cid : ℕ) (candidate : Candidate) → IsSilentOne maps cid candidate → IsString candidate.bytes × IsWhole maps.font.encoding candidate.bytes
  real_silent cid candidate (rank, is) = (is.string, is.whole)

  -- ---- all codes of a length, and none
  pub nothing_gathered : (gathered : Gathered) → ((text : List ℕ) (candidate : Candidate) → GivesText gathered.texts text candidate → ⊥) → ((cid : ℕ) (candidate : Candidate) → Any (Gives cid candidate) gathered.cids.items → ⊥) → ((text : List ℕ) → AreJust 1 0 (IsStatedOne maps text) (GivesText gathered.texts text)) × ((cid : ℕ) → AreJust 1 0 (IsSilentOne maps cid) (λ candidate. Any (Gives cid candidate) gathered.cids.items))
  nothing_gathered gathered no_text no_cid = (
    λ text. none_gathered maps.font.encoding (IsStatedOne maps text) (real_stated text) (GivesText gathered.texts text) (no_text text),
    λ cid. none_gathered maps.font.encoding (IsSilentOne maps cid) (real_silent cid) (λ candidate. Any (Gives cid candidate) gathered.cids.items) (no_cid cid),
  )

  pub all_gathered : (len limit : ℕ) (gathered : Gathered) → 256 ^ len ≤ limit → AreGathered maps len limit gathered → AreGathered maps (len + 1) 0 gathered
  all_gathered len limit gathered all are = record {
    texts = are.texts;
    cids = are.cids;
    stated = λ text. length_gathered maps.font.encoding (IsStatedOne maps text) (real_stated text) len limit (GivesText gathered.texts text) all (are.stated text);
    silent = λ cid. length_gathered maps.font.encoding (IsSilentOne maps cid) (real_silent cid) len limit (λ candidate. Any (Gives cid candidate) gathered.cids.items) all (are.silent cid);
  }

  -- ---- codes that stand for nothing
  pub none_stand : (len limit more : ℕ) (gathered : Gathered) → limit ≤ more → ((text bytes : List ℕ) → IsBetween len limit more bytes → IsStated maps text bytes → ⊥) → ((cid : ℕ) (bytes : List ℕ) → IsBetween len limit more bytes → IsSilent maps cid bytes → ⊥)
      → AreGathered maps len limit gathered → AreGathered maps len more gathered
  none_stand len limit more gathered later no_text no_cid are = record {
    texts = are.texts;
    cids = are.cids;
    stated = λ text. none_more maps.font.encoding (IsStatedOne maps text) (real_stated text) len limit more later (GivesText gathered.texts text) (λ candidate between is. no_text text candidate.bytes between is.1) (are.stated text);
    silent = λ cid. none_more maps.font.encoding (IsSilentOne maps cid) (real_silent cid) len limit more later (λ candidate. Any (Gives cid candidate) gathered.cids.items) (λ candidate between is. no_cid cid candidate.bytes between is.1) (are.silent cid);
  }

  -- neither texts nor glyphs
  pub silent_over : (len first last : ℕ) (glyphs : Glyphs) (gathered : Gathered) → first ≤ last → ((k : ℕ) → glyph_after glyphs k ≡ None) → HasNoTexts maps.font.to_unicode first last → HaveGlyphs maps len first last glyphs → AreGathered maps len first gathered → AreGathered maps len (last + 1) gathered
  silent_over len first last glyphs gathered le nothing none have = none_stand len first (last + 1) gathered (omega arith)
      (λ text bytes (long, from, less) is. none-some is.has.its (sym (none (big_endian bytes) from (omega arith)) ∙ is.has.is_text))
      (λ cid bytes (long, from, less) is.
      let count = big_endian bytes - first in
      let at : first + count ≡ big_endian bytes = omega arith in
      none-some cid (sym (ap (glyph_of maps (big_endian bytes)) long ∙ ap (λ n. glyph_of maps n len) (sym at) ∙ have count (omega arith) ∙ nothing count) ∙ is.glyph))

  -- codes that are declared, without glyphs
  pub missing_over : (len first : ℕ) (stretch : GlyphStretch) (gathered : Gathered) → AreGlyphs (λ n. glyph_of maps n len) (λ n. given maps.font.encoding n len) first stretch → stretch.glyphs ≡ Missing → AreGathered maps len first gathered → AreGathered maps len (stretch.last + 1) gathered
  missing_over len first stretch gathered are is = let within = are.within in none_stand len first (stretch.last + 1) gathered (omega arith)
      (λ text bytes (long, from, less) has.
      let at : first + (big_endian bytes - first) ≡ big_endian bytes = omega arith in
      elim has.shown [
        | inl undeclared ↦ is_none_so (given maps.font.encoding (big_endian bytes) len) (ap (given maps.font.encoding (big_endian bytes)) (sym long) ∙ undeclared) (subst (λ n. IsSome (given maps.font.encoding n len)) at (declared (big_endian bytes - first) (omega arith)))
        | inr some ↦ is_none_so (glyph_of maps (big_endian bytes) (length bytes)) (no_glyph bytes long from less) some
      ])
      (λ cid bytes (long, from, less) has. none-some cid (sym (no_glyph bytes long from less) ∙ has.glyph))
    where
      no_glyph : (bytes : List ℕ) → length bytes ≡ len → first ≤ big_endian bytes → big_endian bytes < stretch.last + 1 → glyph_of maps (big_endian bytes) (length bytes) ≡ None
      no_glyph bytes long from less =
          let at : first + (big_endian bytes - first) ≡ big_endian bytes = omega arith in
          ap (glyph_of maps (big_endian bytes)) long ∙ ap (λ n. glyph_of maps n len) (sym at) ∙ are.glyphs (big_endian bytes - first) (omega arith) ∙ ap (λ glyphs. glyph_after glyphs (big_endian bytes - first)) is

      declared : (count : ℕ) → first + count ≤ stretch.last → IsSome (given maps.font.encoding (first + count) len)
      declared count in_stretch = by_glyphs stretch.glyphs is (are.declared count in_stretch)
        where
          by_glyphs : (glyphs : Glyphs) → glyphs ≡ Missing → IsDeclaredSo glyphs (given maps.font.encoding (first + count) len) → IsSome (given maps.font.encoding (first + count) len)
          by_glyphs (CountOn cid) same so = cc
          by_glyphs Undeclared same so = cc
          by_glyphs Missing same so = so

  -- ---- codes in a row
  module _ (code : Code) (whole : WholeStretch) (are_whole : AreWhole maps.font.encoding (length_of code.len) code.number whole) where
    abbrev len : ℕ
    len = length_of code.len

    -- codes that aren't whole
    pub passed_over : (gathered : Gathered) → code.number ≤ whole.last → whole.are_whole ≡ false → AreGathered maps len code.number gathered → AreGathered maps len (whole.last + 1) gathered
    passed_over gathered within none = none_stand len code.number (whole.last + 1) gathered (omega arith) (λ text bytes between is. no_whole bytes between is.string is.whole) (λ cid bytes between is. no_whole bytes between is.string is.whole)
      where
        no_whole : (bytes : List ℕ) → IsBetween len code.number (whole.last + 1) bytes → IsString bytes → IsWhole maps.font.encoding bytes → ⊥
        no_whole bytes (long, from, less) string = not_whole_by whole.are_whole (IsWhole maps.font.encoding bytes) none (are_whole bytes string long from (omega arith))

    module _ (is : whole.are_whole ≡ true) (fits : whole.last < 256 ^ len) (further : ℕ) (in_whole : code.number + further ≤ whole.last) (rank : Rank) where
      abbrev begin : Ranked
      begin = record { code = code; rank = rank }

      -- a code of the row
      record IsRowCode (count : ℕ) (candidate : Candidate) : Type 0 where
        pub string : IsString candidate.bytes
        pub is_whole : IsWhole maps.font.encoding candidate.bytes
        pub between : IsBetween len code.number (code.number + further + 1) candidate.bytes
        pub number : big_endian candidate.bytes ≡ code.number + count
        pub long : length candidate.bytes ≡ len

      row_code : (count : ℕ) (candidate : Candidate) → count ≤ further → candidate ≡ candidate_of (ranked_after count begin) → IsRowCode count candidate
      row_code count candidate within same =
          let at = are_bytes_of code.len (code.number + count) (omega arith) in
          let bytes = code_bytes (code_after count code) in
          subst (IsRowCode count) (sym same) (record {
            string = at.string;
            is_whole = whole_by whole.are_whole (IsWhole maps.font.encoding bytes) is (are_whole bytes at.string at.count (omega (arith, at.writes)) (omega (arith, at.writes)));
            between = (at.count, omega (arith, at.writes), omega (arith, at.writes));
            number = at.writes;
            long = at.count;
          })

      -- its bytes are the only ones
      its_code : (candidate : Candidate) → IsString candidate.bytes → IsBetween len code.number (code.number + further + 1) candidate.bytes → candidate.rank ≡ rank → candidate ≡ candidate_of (ranked_after (big_endian candidate.bytes - code.number) begin)
      its_code candidate string (long, from, less) ranked =
          let count = big_endian candidate.bytes - code.number in
          let at = are_bytes_of code.len (code.number + count) (omega arith) in
          let (some, few) = fits_length code.len in
          let same : candidate.bytes ≡ code_bytes (code_after count code) = one_string (code_bytes (code_after count code)) candidate.bytes at.string string (omega (arith, at.count)) (omega (arith, at.count)) (omega (arith, at.count)) (omega (arith, at.writes)) in
          λ i. record { bytes = same i; rank = ranked i }

    -- ---- texts of the ToUnicode CMap
    module _ (is : whole.are_whole ≡ true) (fits : whole.last < 256 ^ len) (its : Text) (last further : ℕ) (in_whole : code.number + further ≤ whole.last) (in_last : code.number + further ≤ last)
        (texts : HasTexts maps.font.to_unicode code.number last its) (shown : AreShown maps len code.number last) where
      abbrev stated_begin : Ranked
      stated_begin = begin is fits further in_whole Stated

      stated_of : (text : List ℕ) (candidate : Candidate) → IsFurther its stated_begin further text candidate → IsBetween len code.number (code.number + further + 1) candidate.bytes × IsStatedOne maps text candidate
      stated_of text candidate at =
          let within = at.within in
          let row = row_code is fits further in_whole Stated at.count candidate at.within at.is_code in (
            row.between,
            (
              ap (λ (c : Candidate). c.rank) at.is_code,
              record {
                string = row.string;
                whole = row.is_whole;
                has = record { its = text_after its at.count; is_text = ap (text_in maps.font.to_unicode) row.number ∙ texts at.count (omega arith); characters = sym at.is_text };
                shown = subst (λ n. IsShown maps n (length candidate.bytes)) (sym row.number) (subst (IsShown maps (code.number + at.count)) (sym row.long) (shown at.count (omega arith)));
              },
            ),
          )

      of_stated : (text : List ℕ) (candidate : Candidate) → IsBetween len code.number (code.number + further + 1) candidate.bytes → IsStatedOne maps text candidate → IsFurther its stated_begin further text candidate
      of_stated text candidate (long, from, less) (rank, has) =
          let count = big_endian candidate.bytes - code.number in
          let at : code.number + count ≡ big_endian candidate.bytes = omega arith in
          let same = same_Some has.has.its (text_after its count) (sym has.has.is_text ∙ ap (text_in maps.font.to_unicode) (sym at) ∙ texts count (omega arith)) in
          record {
            count = count;
            within = omega arith;
            is_text = sym has.has.characters ∙ ap characters_of same;
            is_code = its_code is fits further in_whole Stated candidate has.string (long, from, less) rank;
          }

      pub texts_gathered : (old new : Gathered) → new.cids.items ≡ old.cids.items → AreRunsByPrefix new.texts → AddsTexts old.texts new.texts its stated_begin further → AreGathered maps len code.number old → AreGathered maps len (code.number + further + 1) new
      texts_gathered old new same runs adds are = record {
        texts = runs;
        cids = subst (λ cids. All IsCodeRun cids) (sym same) are.cids;
        stated = λ text. more_gathered maps.font.encoding (IsStatedOne maps text) (real_stated text) len code.number (code.number + further + 1) (omega arith) (GivesText old.texts text) (IsFurther its stated_begin further text) (GivesText new.texts text)
            (adds text) (λ candidate. (stated_of text candidate, λ (between, has). of_stated text candidate between has)) (are.stated text);
        silent = λ cid. none_more maps.font.encoding (IsSilentOne maps cid) (real_silent cid) len code.number (code.number + further + 1) (omega arith) (λ candidate. Any (Gives cid candidate) new.cids.items) (λ candidate between has. not_silent cid candidate between has)
            (subst (λ cids. AreJust len code.number (IsSilentOne maps cid) (λ candidate. Any (Gives cid candidate) cids)) (sym same) (are.silent cid));
      }
        where
          not_silent : (cid : ℕ) (candidate : Candidate) → IsBetween len code.number (code.number + further + 1) candidate.bytes → IsSilentOne maps cid candidate → ⊥
          not_silent cid candidate (long, from, less) (rank, has) =
              let at : code.number + (big_endian candidate.bytes - code.number) ≡ big_endian candidate.bytes = omega arith in
              none-some (text_after its (big_endian candidate.bytes - code.number)) (sym has.silent ∙ ap (text_in maps.font.to_unicode) (sym at) ∙ texts (big_endian candidate.bytes - code.number) (omega arith))

    -- ---- glyphs, where it has no texts
    module _ (is : whole.are_whole ≡ true) (fits : whole.last < 256 ^ len) (cid last further : ℕ) (in_whole : code.number + further ≤ whole.last) (in_last : code.number + further ≤ last)
        (none : HasNoTexts maps.font.to_unicode code.number last) (glyphs : HaveGlyphs maps len code.number last (CountOn cid)) (run : CodeRun) (first : run.first ≡ begin is fits further in_whole Collection) (start : run.range.start ≡ cid) (end : run.range.end ≡ cid + further) where
      silent_of : (its : ℕ) (candidate : Candidate) → Gives its candidate run → IsBetween len code.number (code.number + further + 1) candidate.bytes × IsSilentOne maps its candidate
      silent_of its candidate (from, to, is_one) =
          let count = its - run.range.start in
          let within : count ≤ further = omega arith in
          let same : candidate ≡ candidate_of (ranked_after count (begin is fits further in_whole Collection)) = is_one ∙ ap (λ ranked. candidate_of (ranked_after count ranked)) first in
          let row = row_code is fits further in_whole Collection count candidate within same in
          let at : cid + count ≡ its = omega arith in (
            row.between,
            (
              ap (λ (c : Candidate). c.rank) same,
              record {
                string = row.string;
                whole = row.is_whole;
                silent = none (big_endian candidate.bytes) (omega (arith, row.number)) (omega (arith, row.number));
                glyph = ap (glyph_of maps (big_endian candidate.bytes)) row.long ∙ ap (λ n. glyph_of maps n len) row.number ∙ glyphs count (omega arith) ∙ ap Some at;
              },
            ),
          )

      of_silent : (its : ℕ) (candidate : Candidate) → IsBetween len code.number (code.number + further + 1) candidate.bytes → IsSilentOne maps its candidate → Gives its candidate run
      of_silent its candidate (long, from, less) (rank, has) =
          let count = big_endian candidate.bytes - code.number in
          let at : code.number + count ≡ big_endian candidate.bytes = omega arith in
          let key : its ≡ cid + count = same_Some its (cid + count) (sym has.glyph ∙ ap (glyph_of maps (big_endian candidate.bytes)) long ∙ ap (λ n. glyph_of maps n len) (sym at) ∙ glyphs count (omega arith)) in
          let back : count ≡ its - run.range.start = omega (arith, key) in (
            omega (arith, key),
            omega (arith, key),
            its_code is fits further in_whole Collection candidate has.string (long, from, less) rank ∙ ap (λ k. candidate_of (ranked_after k (begin is fits further in_whole Collection))) back ∙ ap (λ ranked. candidate_of (ranked_after (its - run.range.start) ranked)) (sym first),
          )

      any_more : (cids : List CodeRun) (its : ℕ) (candidate : Candidate) → Any (Gives its candidate) (cids ++ run ∷ []) ↔ (Any (Gives its candidate) cids ⊎ Gives its candidate run)
      any_more cids its candidate = (any_split (Gives its candidate) cids run, λ either. elim either [ inl before ↦ any_kept (Gives its candidate) cids (run ∷ []) before | inr here ↦ Any-push (Gives its candidate) cids run here ])

      pub cids_gathered : (old new : Gathered) → new.texts ≡ old.texts → new.cids.items ≡ old.cids.items ++ run ∷ [] → All IsCodeRun new.cids.items → AreGathered maps len code.number old → AreGathered maps len (code.number + further + 1) new
      cids_gathered old new same items runs are = record {
        texts = subst AreRunsByPrefix (sym same) are.texts;
        cids = runs;
        stated = λ text. none_more maps.font.encoding (IsStatedOne maps text) (real_stated text) len code.number (code.number + further + 1) (omega arith) (GivesText new.texts text) (λ candidate between has. not_stated text candidate between has)
            (subst (λ texts. AreJust len code.number (IsStatedOne maps text) (GivesText texts text)) (sym same) (are.stated text));
        silent = λ its. subst (λ cids. AreJust len (code.number + further + 1) (IsSilentOne maps its) (λ candidate. Any (Gives its candidate) cids)) (sym items)
            (more_gathered maps.font.encoding (IsSilentOne maps its) (real_silent its) len code.number (code.number + further + 1) (omega arith) (λ candidate. Any (Gives its candidate) old.cids.items) (λ candidate. Gives its candidate run) (λ candidate. Any (Gives its candidate) (old.cids.items ++ run ∷ []))
            (any_more old.cids.items its) (λ candidate. (silent_of its candidate, λ (between, has). of_silent its candidate between has)) (are.silent its));
      }
        where
          not_stated : (text : List ℕ) (candidate : Candidate) → IsBetween len code.number (code.number + further + 1) candidate.bytes → IsStatedOne maps text candidate → ⊥
          not_stated text candidate (long, from, less) (rank, has) = none-some has.has.its (sym (none (big_endian candidate.bytes) from (omega arith)) ∙ has.has.is_text)
