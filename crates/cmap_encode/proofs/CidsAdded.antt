-- The first codes of CIDs, added for their texts.
use Rattle.std.proofs.Common.{◌≡◌, ℕ, ◌+◌, ◌-◌, ◌≤◌, true, List, Option, Some, None, sym, ap, ◌∙◌, inl, inr, arith}
use Rattle.std.specs.Prelude.{option_map, if◌then◌else◌}
use Rattle.std.proofs.lemmas.Bool.{cases_lt}
use Rattle.std.proofs.lemmas.Option.{none-some, same_Some}
use Rattle.cmap_layers.specs.Layers.{Layer}
use Rattle.cmap_tokens.specs.Texts.{Text}
use Rattle.cmap_tokens.specs.TextSeen.{text_seen}
use Rattle.cmap_tokens.specs.declared.utf16.BfString.{BfString}
use Rattle.cmap_unicode.specs.Characters.{characters_of}
use Rattle.cmap_unicode.specs.CountedTexts.{text_after}
use Rattle.cmap_unicode.specs.TextRows.{AreTexts}
use Rattle.cmap_unicode.specs.TextsOfCodes.{text_in}
use Rattle.cmap_unicode.specs.declared.rows.TextRow.{TextRow}
use Rattle.cmap_encode.specs.KeyCodesSeen.{IsKeyStretch, code_for}
use Rattle.cmap_encode.specs.GatheredSeen.{AddsCids, GivesFirst}
use Rattle.cmap_encode.specs.Ranks.{Candidate, as_ranked, candidate_of, ranked_after}
use Rattle.cmap_encode.specs.RunsSeen.{AddsTexts, IsFurther}
use Rattle.cmap_encode.specs.declared.key_codes.CodeRun.{CodeRun}
use Rattle.cmap_encode.specs.declared.key_codes.KeyStretch.{KeyStretch}
use Rattle.cmap_encode.specs.declared.rank.Rank.TheVariants.{Collection}
use Rattle.cmap_encode.specs.declared.rank.Ranked.{Ranked}
use Rattle.cmap_encode.specs.declared.runs_by_prefix.RunsByPrefix.{RunsByPrefix}

-- the text of a code in a row of texts that count on
pub text_in_row : (texts : ℕ → Option Text) (first count : ℕ) (row : TextRow) (text : BfString) → AreTexts texts first row → row.text ≡ Some text → row.counts_on ≡ true → first + count ≤ row.last → texts (first + count) ≡ Some (text_after (text_seen text) count)
text_in_row texts first count row text are some counts within =
    are.further count within ∙ ap (option_map (λ t. text_after t (if row.counts_on then count else 0))) (sym are.text ∙ ap (option_map text_seen) some) ∙ ap (λ b. Some (text_after (text_seen text) (if b then count else 0))) counts

pub no_text_in_row : (texts : ℕ → Option Text) (first code : ℕ) (row : TextRow) → AreTexts texts first row → row.text ≡ None → first ≤ code → code ≤ row.last → texts code ≡ None
no_text_in_row texts first code row are none from to =
    let at : first + (code - first) ≡ code = omega arith in
    ap texts (sym at) ∙ are.further (code - first) (omega arith) ∙ ap (option_map (λ t. text_after t (if row.counts_on then code - first else 0))) (sym are.text ∙ ap (option_map text_seen) none)

module _ (collection : Option (List Layer)) (firsts : List CodeRun) where
  -- CIDs of which none has a code with a text
  silent_cids : (all : RunsByPrefix) (first limit : ℕ) → ((text : List ℕ) (candidate : Candidate) → GivesFirst collection firsts first limit text candidate → ⊥) → AddsCids collection firsts first limit all all
  silent_cids all first limit none text candidate = (λ given. inl given, λ either. elim either [ inl given ↦ given | inr first ↦ absurd (none text candidate first) ])

  pub no_cids : (all : RunsByPrefix) (first : ℕ) → AddsCids collection firsts first first all all
  no_cids all first = silent_cids all first first (λ text candidate given. let from = given.from in let below = given.below in omega arith)

  pub no_code : (all : RunsByPrefix) (first : ℕ) (stretch : KeyStretch) → IsKeyStretch firsts first stretch → stretch.first ≡ None → AddsCids collection firsts first (stretch.last + 1) all all
  no_code all first stretch is none = silent_cids all first (stretch.last + 1) (λ text candidate given.
      let from = given.from in let below = given.below in
      let at : first + (given.cid - first) ≡ given.cid = omega arith in
      none-some candidate (ap (option_map (as_ranked Collection)) (ap (option_map (ranked_after (given.cid - first))) (sym none) ∙ sym (is.codes (given.cid - first) (omega arith)) ∙ ap (code_for firsts) at) ∙ given.given))

  pub no_text : (all : RunsByPrefix) (first last : ℕ) (row : TextRow) → AreTexts (text_in collection) first row → row.text ≡ None → last ≤ row.last → AddsCids collection firsts first (last + 1) all all
  no_text all first last row are none within = silent_cids all first (last + 1) (λ text candidate given.
      let from = given.from in let below = given.below in
      none-some given.has.its (sym (no_text_in_row (text_in collection) first given.cid row are none from (omega arith)) ∙ given.has.is_text))

  -- one CID after another
  pub more_cids : (old middle new : RunsByPrefix) (first next limit : ℕ) → first ≤ next → next ≤ limit → AddsCids collection firsts first next old middle → AddsCids collection firsts next limit middle new → AddsCids collection firsts first limit old new
  more_cids old middle new first next limit le more before after text candidate = (
    λ given.
        elim ((after text candidate).0 given) [
          | inl middle ↦ elim ((before text candidate).0 middle) [ inl oldest ↦ inl oldest | inr found ↦ inr (record { cid = found.cid; from = found.from; below = (let below = found.below in omega arith); given = found.given; has = found.has }) ]
          | inr found ↦ inr (record { cid = found.cid; from = (let from = found.from in omega arith); below = found.below; given = found.given; has = found.has })
        ],
    λ either.
        elim either [
          | inl oldest ↦ (after text candidate).1 (inl ((before text candidate).1 (inl oldest)))
          | inr found ↦
              elim (cases_lt found.cid next) [
                | inl earlier ↦ (after text candidate).1 (inl ((before text candidate).1 (inr (record { cid = found.cid; from = found.from; below = earlier; given = found.given; has = found.has }))))
                | inr from ↦ (after text candidate).1 (inr (record { cid = found.cid; from = from; below = found.below; given = found.given; has = found.has }))
              ]
        ],
  )

  -- codes and texts that count on
  module _ (first further : ℕ) (stretch : KeyStretch) (own : Ranked) (row : TextRow) (text : BfString) (is : IsKeyStretch firsts first stretch) (has_code : stretch.first ≡ Some own) (are : AreTexts (text_in collection) first row) (has_text : row.text ≡ Some text)
      (counts : row.counts_on ≡ true) (in_stretch : first + further ≤ stretch.last) (in_row : first + further ≤ row.last) where
    abbrev begin : Ranked
    begin = record { code = own.code; rank = Collection }

    code_there : (count : ℕ) → count ≤ further → option_map (as_ranked Collection) (code_for firsts (first + count)) ≡ Some (candidate_of (ranked_after count begin))
    code_there count within = ap (option_map (as_ranked Collection)) (is.codes count (omega arith) ∙ ap (option_map (ranked_after count)) has_code)

    text_there : (count : ℕ) → count ≤ further → text_in collection (first + count) ≡ Some (text_after (text_seen text) count)
    text_there count within = text_in_row (text_in collection) first count row text are has_text counts (omega arith)

    first_of : (its : List ℕ) (candidate : Candidate) → IsFurther (text_seen text) begin further its candidate → GivesFirst collection firsts first (first + further + 1) its candidate
    first_of its candidate at = record {
      cid = first + at.count;
      from = omega arith;
      below = (let within = at.within in omega arith);
      given = code_there at.count at.within ∙ ap Some (sym at.is_code);
      has = record { its = text_after (text_seen text) at.count; is_text = text_there at.count at.within; characters = sym at.is_text };
    }

    further_of : (its : List ℕ) (candidate : Candidate) → GivesFirst collection firsts first (first + further + 1) its candidate → IsFurther (text_seen text) begin further its candidate
    further_of its candidate given =
        let from = given.from in let below = given.below in
        let count = given.cid - first in
        let within : count ≤ further = omega arith in
        let at : first + count ≡ given.cid = omega arith in
        record {
          count = count;
          within = within;
          is_text = sym given.has.characters ∙ ap characters_of (same_Some given.has.its (text_after (text_seen text) count) (sym given.has.is_text ∙ ap (text_in collection) (sym at) ∙ text_there count within));
          is_code = same_Some candidate (candidate_of (ranked_after count begin)) (sym given.given ∙ ap (λ n. option_map (as_ranked Collection) (code_for firsts n)) (sym at) ∙ code_there count within);
        }

    pub row_added : (old new : RunsByPrefix) → AddsTexts old new (text_seen text) begin further → AddsCids collection firsts first (first + further + 1) old new
    row_added old new adds its candidate = (
      λ given. elim ((adds its candidate).0 given) [ inl before ↦ inl before | inr at ↦ inr (first_of its candidate at) ],
      λ either. elim either [ inl before ↦ (adds its candidate).1 (inl before) | inr found ↦ (adds its candidate).1 (inr (further_of its candidate found)) ],
    )
