-- The first code of a text, of those that runs give.
use Rattle.std.proofs.Common.{◌≡◌, ℕ, Bool, true, false, zero, suc, ◌<◌, ◌⊎◌, List, [], ◌∷◌, ◌++◌, length, ◌^◌, take, ◌-◌, Option, Some, None, refl, sym, ap, ◌∙◌, subst, inl, inr, arith, length-append}
use Rattle.std.specs.Prelude.{◌↔◌, Any, IsSomeAnd, MatchOption, option_and_then, option_map, slice_get}
use Rattle.std.specs.Global.{Box, Vec}
use Rattle.std.specs.List.{AllZip}
use Rattle.std.proofs.lemmas.Bool.{cases_lt, false≢true}
use Rattle.std.proofs.lemmas.Option.{none-some, same_Some}
use Rattle.std.proofs.lemmas.Slice.Zip.{AllZip-left}
use Rattle.cmap_values.specs.CodeLengths.{length_of}
use Rattle.cmap_encode.specs.Codes.{IsBefore, IsWhole, code_bytes}
use Rattle.cmap_encode.specs.GlyphCodesSeen.{AreGlyphCodes, codes_by_place}
use Rattle.cmap_encode.specs.KeyCodesSeen.{Gives, IsCodeRun, IsFirstGiven, IsLastGiven, code_for}
use Rattle.cmap_encode.specs.GatheredSeen.{AddsAllGlyphs, AddsCids, AddsGlyphs, AreGathered, GivesCharacter}
use Rattle.cmap_encode.specs.Glyphs.{glyph_by}
use Rattle.cmap_encode.specs.IndexSeen.{AreFirstsOf, IsIndexOf, first_in, own_after, own_at, own_in}
use Rattle.cmap_encode.specs.Maps.{Maps, Unicode}
use Rattle.cmap_encode.specs.Ranks.{Candidate, IsFirstAmong, IsNoLater, as_ranked, candidate_of, place_of}
use Rattle.cmap_encode.specs.RunsSeen.{AreRunsByPrefix, GivesText, items_of, number_of, runs_of}
use Rattle.cmap_encode.specs.Strings.{IsNotAfter}
use Rattle.cmap_encode.specs.StandsFor.{HasGlyph, IsOfGlyph, IsSilent, StandsFor, reads_other}
use Rattle.cmap_encode.specs.declared.glyph_codes.GlyphCodes.{GlyphCodes}
use Rattle.cmap_encode.specs.declared.key_codes.CodeRun.{CodeRun}
use Rattle.cmap_encode.specs.declared.gathered.Gathered.{Gathered}
use Rattle.cmap_encode.specs.declared.index.Index.{Index}
use Rattle.cmap_encode.specs.declared.rank.Rank.{Rank}
use Rattle.cmap_encode.specs.declared.rank.Rank.TheVariants.{Canonical, Collection, OwnForm, Stated}
use Rattle.cmap_encode.specs.declared.rank.Ranked.{Ranked}
use Rattle.cmap_encode.specs.declared.runs_by_prefix.RunsByPrefix.{RunsByPrefix}
use Rattle.cmap_encode.proofs.CodesRead.{whole_length}
use Rattle.cmap_encode.proofs.FormCodes.{none_above}
use Rattle.cmap_encode.proofs.Order.{not_after_chain, not_after_itself}
use Rattle.cmap_encode.proofs.TextEnds.{prefix_taken, last_got, same_end, text_ends}

-- one more of two lists
pub zip_push : {A B : Type 0} (R : A → B → Type 0) (xs : List A) (ys : List B) (x : A) (y : B) → AllZip R xs ys → R x y → AllZip R (xs ++ x ∷ []) (ys ++ y ∷ [])
zip_push R [] [] x y zip holds = (holds, tt)
zip_push R [] (b ∷ ys) x y zip holds = absurd zip
zip_push R (a ∷ xs) [] x y zip holds = absurd zip
zip_push R (a ∷ xs) (b ∷ ys) x y (first, rest) holds = (first, zip_push R xs ys x y rest holds)

-- ---- an order of candidates
pub no_later_itself : (candidate : Candidate) → IsNoLater candidate candidate
no_later_itself candidate = inr (refl, not_after_itself candidate.bytes)

pub no_later_chain : (candidate other last : Candidate) → IsNoLater candidate other → IsNoLater other last → IsNoLater candidate last
no_later_chain candidate other last (inl less) (inl below) = inl (omega arith)
no_later_chain candidate other last (inl less) (inr (same, more)) = inl (omega arith)
no_later_chain candidate other last (inr (same, more)) (inl below) = inl (omega arith)
no_later_chain candidate other last (inr (same, more)) (inr (also, rest)) = inr (same ∙ also, not_after_chain candidate.bytes other.bytes last.bytes more rest)

-- the first of some is the first of more, where each of these comes after one of them
pub first_of_more : (Some_of More : Candidate → Type 0) → ((candidate : Candidate) → Some_of candidate → More candidate) → ((candidate : Candidate) → More candidate → (first : Candidate) × Some_of first × IsNoLater first candidate) → (found : Option Candidate) → IsFirstAmong Some_of found → IsFirstAmong More found
first_of_more Some_of More sound complete None none = λ candidate more. let (first, some, earlier) = complete candidate more in none first some
first_of_more Some_of More sound complete (Some first) (some, least) = (
  sound first some,
  λ other more. let (candidate, also, earlier) = complete other more in no_later_chain first candidate other (least candidate also) earlier,
)

-- ---- the code of a text
pub own_at_end : (index : Index) (prefix : List ℕ) (last : ℕ) → own_in index (prefix ++ last ∷ []) ≡ own_after index prefix last
own_at_end index prefix last =
    ap (option_and_then (own_after index (take (length (prefix ++ last ∷ []) - 1) (prefix ++ last ∷ [])))) (last_got prefix last) ∙ ap (λ f. own_after index f last) (prefix_taken prefix last)

got_within : {A : Type 0} (xs : List A) (n : ℕ) → n < length xs → slice_get xs n ≡ None → ⊥
got_within [] n within none = omega arith
got_within (x ∷ xs) zero within none = none-some x (sym none)
got_within (x ∷ xs) (suc n) within none = got_within xs n (omega arith) none

none_given : (key : ℕ) (candidate : Candidate) → Any (Gives key candidate) [] → ⊥
none_given key candidate (k, run, within, is, gives) = omega arith

module _ (all : RunsByPrefix) (firsts : Vec (Option (Box (List CodeRun)))) (are : AreRunsByPrefix all) (zip : AllZip (λ (list : Vec CodeRun). AreFirstsOf list.items) all.lists.items firsts.items) where
  abbrev pub index : Index
  index = record { tree = all.tree; firsts = firsts }

  first_after : (prefix : List ℕ) (last : ℕ) → IsFirstGiven (runs_of all prefix) last (option_map candidate_of (own_after index prefix last))
  first_after prefix last = by_number (number_of all prefix) refl
    where
      by_runs : (runs : List CodeRun) (found : Option (Box (List CodeRun))) → AreFirstsOf runs found → IsFirstGiven runs last (option_map candidate_of (first_in found last))
      by_runs runs None none = subst (λ l. IsFirstGiven l last None) (sym none) (none_given last)
      by_runs runs (Some firsts) are = are last

      by_list : (list : Option (Vec CodeRun)) (found : Option (Option (Box (List CodeRun)))) → (list ≡ None → ⊥) → MatchOption list (Unit {0}) (λ runs. IsSomeAnd found (AreFirstsOf runs.items))
          → IsFirstGiven (items_of list) last (option_map candidate_of (option_and_then (λ found. first_in found last) found))
      by_list None found some is = absurd (some refl)
      by_list (Some list) None some is = absurd is
      by_list (Some list) (Some found) some is = by_runs list.items found is

      by_number : (number : Option ℕ) → number_of all prefix ≡ number → IsFirstGiven (items_of (option_and_then (slice_get all.lists.items) number)) last (option_map candidate_of (own_at index number last))
      by_number None has = none_given last
      by_number (Some number) has = by_list (slice_get all.lists.items number) (slice_get firsts.items number) (got_within all.lists.items number (are.within prefix number has)) (AllZip-left _ all.lists.items firsts.items zip number)

  given_at_end : (prefix : List ℕ) (last : ℕ) (candidate : Candidate) → GivesText all (prefix ++ last ∷ []) candidate → Any (Gives last candidate) (runs_of all prefix)
  given_at_end prefix last candidate given =
      let (prefixes, lasts) = same_end prefix given.prefix last given.last given.is in
      subst (λ f. Any (Gives last candidate) (runs_of all f)) (sym prefixes) (subst (λ l. Any (Gives l candidate) (runs_of all given.prefix)) (sym lasts) given.given)

  nothing_before : (prefix : List ℕ) (last : ℕ) → [] ≡ prefix ++ last ∷ [] → ⊥
  nothing_before prefix last same = omega (arith, ap (λ (l : List ℕ). length l) same, length-append prefix (last ∷ []))

  -- it has the first code that the runs give to a text
  pub first_of_text : (text : List ℕ) → IsFirstAmong (GivesText all text) (option_map candidate_of (own_in index text))
  first_of_text text =
      elim (text_ends text) [
        | inl empty ↦ subst (λ t. IsFirstAmong (GivesText all t) (option_map candidate_of (own_in index t))) (sym empty) (λ candidate given. nothing_before given.prefix given.last given.is)
        | inr (prefix, last, is) ↦ subst (λ t. IsFirstAmong (GivesText all t) (option_map candidate_of (own_in index t))) (sym is)
            (subst (λ found. IsFirstAmong (GivesText all (prefix ++ last ∷ [])) (option_map candidate_of found)) (sym (own_at_end index prefix last))
            (first_of_more (λ candidate. Any (Gives last candidate) (runs_of all prefix)) (GivesText all (prefix ++ last ∷ [])) (λ candidate given. record { prefix = prefix; last = last; is = refl; given = given }) (λ candidate given. (candidate, given_at_end prefix last candidate given, no_later_itself candidate))
            (option_map candidate_of (own_after index prefix last)) (first_after prefix last)))
      ]

-- ---- the codes that stand for a text
module _ (maps : Maps) (gathered : Gathered) (new last : RunsByPrefix) (glyphs : GlyphCodes) (all : AreGathered maps 5 0 gathered) (are : AreGlyphCodes gathered.cids.items glyphs) (adds : AddsCids maps.font.collection glyphs.firsts 0 (2 ^ 32) gathered.texts new)
    (adds_last : AddsAllGlyphs maps glyphs new last) where
  short : (bytes : List ℕ) → IsWhole maps.font.encoding bytes → IsBefore 5 0 bytes
  short bytes whole = let few = (whole_length maps.font.encoding bytes whole).1 in inl (omega arith)

  -- ---- the first code of a glyph, and the last
  silent_one : (cid : ℕ) (rank : Rank) (found : Ranked) (candidate : Candidate) → as_ranked rank found ≡ candidate → Any (Gives cid (candidate_of found)) gathered.cids.items → (candidate.rank ≡ rank) × IsSilent maps cid candidate.bytes
  silent_one cid rank found candidate same among =
      let (before, (its, silent)) = (all.silent cid (candidate_of found)).0 among in
      (ap (λ (c : Candidate). c.rank) (sym same), subst (λ (c : Candidate). IsSilent maps cid c.bytes) same silent)

  given_silent : (cid : ℕ) (bytes : List ℕ) → IsSilent maps cid bytes → Any (Gives cid (record { bytes = bytes; rank = Collection })) gathered.cids.items
  given_silent cid bytes silent = (all.silent cid (record { bytes = bytes; rank = Collection })).1 (short bytes silent.whole, (refl, silent))

  first_silent : (cid : ℕ) (rank : Rank) (first : Option Ranked) (candidate : Candidate) → option_map (as_ranked rank) first ≡ Some candidate → IsFirstGiven gathered.cids.items cid (option_map candidate_of first) → (candidate.rank ≡ rank) × IsSilent maps cid candidate.bytes
  first_silent cid rank None candidate given is = absurd (none-some candidate given)
  first_silent cid rank (Some first) candidate given (among, least) = silent_one cid rank first candidate (same_Some (as_ranked rank first) candidate given) among

  -- no silent code of the glyph comes after the last one
  last_silent : (cid : ℕ) (rank : Rank) (last : Option Ranked) (candidate : Candidate) → option_map (as_ranked rank) last ≡ Some candidate → IsLastGiven gathered.cids.items cid (option_map candidate_of last)
      → (candidate.rank ≡ rank) × IsSilent maps cid candidate.bytes × ((other : List ℕ) → IsSilent maps cid other → IsNotAfter other candidate.bytes)
  last_silent cid rank None candidate given is = absurd (none-some candidate given)
  last_silent cid rank (Some last) candidate given (among, greatest) =
      let same : as_ranked rank last ≡ candidate = same_Some (as_ranked rank last) candidate given in
      let (its, silent) = silent_one cid rank last candidate same among in
      (its, silent, λ other is. subst (λ (c : Candidate). IsNotAfter other c.bytes) same (greatest (record { bytes = other; rank = Collection }) (given_silent cid other is)))

  key_below : (cid : ℕ) (candidate : Candidate) → Any (Gives cid candidate) gathered.cids.items → cid < 2 ^ 32
  key_below cid candidate (k, run, within, at, (from, to, is)) = let keys = (subst IsCodeRun at (all.cids k run within)).keys in omega arith

  -- it comes no later than another code of the glyph
  first_before : (cid : ℕ) (bytes : List ℕ) (rank : Rank) → IsSilent maps cid bytes → (found : Option Ranked) → code_for glyphs.firsts cid ≡ found → IsFirstGiven gathered.cids.items cid (option_map candidate_of found)
      → (first : Candidate) × (option_map (as_ranked rank) (code_for glyphs.firsts cid) ≡ Some first) × IsNoLater first (record { bytes = bytes; rank = rank }) × (cid < 2 ^ 32)
  first_before cid bytes rank silent None at none = absurd (none (record { bytes = bytes; rank = Collection }) (given_silent cid bytes silent))
  first_before cid bytes rank silent (Some first) at (among, least) =
      let candidate : Candidate = record { bytes = bytes; rank = Collection } in
      let given = given_silent cid bytes silent in
      let (before, (its, is)) = (all.silent cid (candidate_of first)).0 among in
      (as_ranked rank first, ap (option_map (as_ranked rank)) at, other_rank first bytes rank its (least candidate given), key_below cid candidate given)
    where
      other_rank : (first : Ranked) (bytes : List ℕ) (rank : Rank) → first.rank ≡ Collection → IsNoLater (candidate_of first) (record { bytes = bytes; rank = Collection }) → IsNoLater (as_ranked rank first) (record { bytes = bytes; rank = rank })
      other_rank first bytes rank its (inl less) = absurd (omega (arith, ap place_of its))
      other_rank first bytes rank its (inr (same, earlier)) = inr (refl, earlier)

  -- the last one comes no later than a code after which no silent code of the glyph comes
  last_before : (cid : ℕ) (bytes : List ℕ) (rank : Rank) → IsSilent maps cid bytes → ((other : List ℕ) → IsSilent maps cid other → IsNotAfter other bytes) → (found : Option Ranked) → code_for glyphs.lasts cid ≡ found → IsLastGiven gathered.cids.items cid (option_map candidate_of found)
      → (last : Candidate) × (option_map (as_ranked rank) (code_for glyphs.lasts cid) ≡ Some last) × IsNoLater last (record { bytes = bytes; rank = rank })
  last_before cid bytes rank silent is_last None at none = absurd (none (record { bytes = bytes; rank = Collection }) (given_silent cid bytes silent))
  last_before cid bytes rank silent is_last (Some last) at (among, greatest) =
      let (its, is) = silent_one cid rank last (as_ranked rank last) refl among in
      (as_ranked rank last, ap (option_map (as_ranked rank)) at, inr (refl, is_last (code_bytes last.code) is))

  -- ---- by the map from Unicode
  abbrev GivenByUnicode : List ℕ → Candidate → Type 0
  GivenByUnicode text candidate = (unicode : Unicode) × (maps.unicode ≡ Some unicode) × GivesCharacter maps unicode glyphs 0 0x110000 text candidate

  last_adds : (text : List ℕ) (candidate : Candidate) → GivesText last text candidate ↔ (GivesText new text candidate ⊎ GivenByUnicode text candidate)
  last_adds text candidate = by_unicode maps.unicode refl adds_last
    where
      by_unicode : (found : Option Unicode) → maps.unicode ≡ found → MatchOption found (last ≡ new) (λ unicode. AddsGlyphs maps unicode glyphs 0 0x110000 new last) → GivesText last text candidate ↔ (GivesText new text candidate ⊎ GivenByUnicode text candidate)
      by_unicode None is same = (
        λ given. inl (subst (λ texts. GivesText texts text candidate) same given),
        λ either. elim either [ inl given ↦ subst (λ texts. GivesText texts text candidate) (sym same) given | inr (unicode, some, given) ↦ absurd (none-some unicode (sym is ∙ some)) ],
      )
      by_unicode (Some unicode) is added = (
        λ given. elim ((added text candidate).0 given) [ inl before ↦ inl before | inr character ↦ inr (unicode, is, character) ],
        λ either.
            elim either [
              | inl before ↦ (added text candidate).1 (inl before)
              | inr (its, some, character) ↦ (added text candidate).1 (inr (subst (λ u. GivesCharacter maps u glyphs 0 0x110000 text candidate) (same_Some its unicode (sym some ∙ is)) character))
            ],
      )

  sound_unicode : (text : List ℕ) (candidate : Candidate) → GivenByUnicode text candidate → StandsFor maps text candidate.bytes candidate.rank
  sound_unicode text candidate (unicode, some, given) =
      elim given.chosen [
        | inl chosen ↦ by_place (reads_other maps given.character given.cid) refl chosen
        | inr (rank, silent, code) ↦ subst (StandsFor maps text candidate.bytes) (sym rank) (record { of_glyph = of_glyph silent; is_code = code })
      ]
    where
      of_glyph : IsSilent maps given.cid candidate.bytes → IsOfGlyph maps text candidate.bytes
      of_glyph silent = record { unicode = unicode; has = some; character = given.character; is_text = given.is_text; cid = given.cid; glyph = given.glyph; silent = silent }

      by_place : (other : Bool) → reads_other maps given.character given.cid ≡ other → option_map (as_ranked Canonical) (code_for (codes_by_place glyphs other) given.cid) ≡ Some candidate → StandsFor maps text candidate.bytes candidate.rank
      by_place true is chosen =
          let (rank, silent, last) = last_silent given.cid Canonical (code_for glyphs.lasts given.cid) candidate chosen (are.lasts given.cid) in
          subst (StandsFor maps text candidate.bytes) (sym rank) (record { of_glyph = of_glyph silent; last = λ other. last })
      by_place false is chosen =
          let (rank, silent) = first_silent given.cid Canonical (code_for glyphs.firsts given.cid) candidate chosen (are.firsts given.cid) in
          subst (StandsFor maps text candidate.bytes) (sym rank) (record { of_glyph = of_glyph silent; last = λ other. absurd (false≢true (sym is ∙ other)) })

  -- ---- all that are given stand for the text
  sound_texts : (text : List ℕ) (candidate : Candidate) → GivesText last text candidate → StandsFor maps text candidate.bytes candidate.rank
  sound_texts text candidate given =
      elim ((last_adds text candidate).0 given) [
        | inl before ↦
            elim ((adds text candidate).0 before) [
              | inl stated ↦ let (limit, (rank, is)) = (all.stated text candidate).0 stated in subst (StandsFor maps text candidate.bytes) (sym rank) is
              | inr found ↦
                  let (rank, silent) = first_silent found.cid Collection (code_for glyphs.firsts found.cid) candidate found.given (are.firsts found.cid) in
                  subst (StandsFor maps text candidate.bytes) (sym rank) (record { cid = found.cid; silent = silent; has = found.has })
            ]
        | inr by_unicode ↦ sound_unicode text candidate by_unicode
      ]

  -- ---- and for each that stands for it one is given that comes no later
  character_below : (unicode : Unicode) (character cid : ℕ) → HasGlyph maps unicode character cid → character < 0x110000
  character_below unicode character cid has =
      elim (cases_lt character 0x110000) [
        | inl less ↦ less
        | inr above ↦ absurd (none-some cid (sym (ap (option_and_then (λ code. glyph_by unicode.lower unicode.all code.number (length_of code.len))) (none_above unicode.form character above)) ∙ has.glyph))
      ]

  first_text : (text bytes : List ℕ) (rank : Rank) → StandsFor maps text bytes rank → (first : Candidate) × GivesText last text first × IsNoLater first (record { bytes = bytes; rank = rank })
  first_text text bytes Stated is =
      let candidate : Candidate = record { bytes = bytes; rank = Stated } in
      (candidate, (last_adds text candidate).1 (inl ((adds text candidate).1 (inl ((all.stated text candidate).1 (short bytes is.whole, (refl, is)))))), no_later_itself candidate)
  first_text text bytes OwnForm is =
      let candidate : Candidate = record { bytes = bytes; rank = OwnForm } in let of_glyph = is.of_glyph in
      let given : GivesCharacter maps of_glyph.unicode glyphs 0 0x110000 text candidate = record {
        character = of_glyph.character;
        from = omega arith;
        below = character_below of_glyph.unicode of_glyph.character of_glyph.cid of_glyph.glyph;
        is_text = of_glyph.is_text;
        cid = of_glyph.cid;
        glyph = of_glyph.glyph;
        chosen = inr (refl, of_glyph.silent, is.is_code);
      } in
      (candidate, (last_adds text candidate).1 (inr (of_glyph.unicode, of_glyph.has, given)), no_later_itself candidate)
  first_text text bytes Canonical is =
      let of_glyph = is.of_glyph in
      let (found, chosen, earlier) = by_place (reads_other maps of_glyph.character of_glyph.cid) refl in
      let given : GivesCharacter maps of_glyph.unicode glyphs 0 0x110000 text found = record {
        character = of_glyph.character;
        from = omega arith;
        below = character_below of_glyph.unicode of_glyph.character of_glyph.cid of_glyph.glyph;
        is_text = of_glyph.is_text;
        cid = of_glyph.cid;
        glyph = of_glyph.glyph;
        chosen = inl chosen;
      } in
      (found, (last_adds text found).1 (inr (of_glyph.unicode, of_glyph.has, given)), earlier)
    where
      by_place : (other : Bool) → reads_other maps is.of_glyph.character is.of_glyph.cid ≡ other
          → (found : Candidate) × (option_map (as_ranked Canonical) (code_for (codes_by_place glyphs other) is.of_glyph.cid) ≡ Some found) × IsNoLater found (record { bytes = bytes; rank = Canonical })
      by_place true other = last_before is.of_glyph.cid bytes Canonical is.of_glyph.silent (is.last other) (code_for glyphs.lasts is.of_glyph.cid) refl (are.lasts is.of_glyph.cid)
      by_place false other = let (first, chosen, earlier, below) = first_before is.of_glyph.cid bytes Canonical is.of_glyph.silent (code_for glyphs.firsts is.of_glyph.cid) refl (are.firsts is.of_glyph.cid) in (first, chosen, earlier)
  first_text text bytes Collection is =
      let (first, chosen, earlier, below) = first_before is.cid bytes Collection is.silent (code_for glyphs.firsts is.cid) refl (are.firsts is.cid) in
      (first, (last_adds text first).1 (inl ((adds text first).1 (inr (record { cid = is.cid; from = omega arith; below = below; given = chosen; has = is.has })))), earlier)

  pub texts_found : (index : Index) → ((text : List ℕ) → IsFirstAmong (GivesText last text) (option_map candidate_of (own_in index text))) → IsIndexOf maps index
  texts_found index first = λ text. first_of_more (GivesText last text) (λ candidate. StandsFor maps text candidate.bytes candidate.rank) (sound_texts text) (λ candidate is. first_text text candidate.bytes candidate.rank is) (option_map candidate_of (own_in index text)) (first text)
