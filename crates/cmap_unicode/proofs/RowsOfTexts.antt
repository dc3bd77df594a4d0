-- Codes in a row: their texts by the ToUnicode CMap, or by their CIDs.
use Rattle.std.proofs.Common.{◌≡◌, ℕ, ◌+◌, ◌-◌, ◌≤◌, List, Option, Some, None, refl, sym, ap, ◌∙◌, arith}
use Rattle.std.specs.Prelude.{option_and_then, option_map, if◌then◌else◌}
use Rattle.std.specs.Option.{option_or}
use Rattle.cmap_tokens.specs.Texts.{Text}
use Rattle.cmap_layers.specs.CodeStretches.{cid_after}
use Rattle.cmap_layers.specs.Layers.{Layer}
use Rattle.cmap_layers.specs.declared.stretches.Cids.{Cids}
use Rattle.cmap_layers.specs.declared.stretches.Cids.TheVariants.{CountOn}
use Rattle.cmap_unicode.specs.Cids.{declared_cid}
use Rattle.cmap_unicode.specs.CountedTexts.{text_after}
use Rattle.cmap_unicode.specs.TextsOfCodes.{Font, text_in}
use Rattle.cmap_unicode.specs.TextRows.{AreTexts, its_text, texts_of_cids}
use Rattle.cmap_unicode.specs.declared.rows.TextRow.{TextRow}
use Rattle.cmap_unicode.proofs.TextsCounted.{same_text}

-- how far a text is counted on
abbrev step : TextRow → ℕ → ℕ
step row k = if row.counts_on then k else 0

module _ (font : Font) (len first : ℕ) where
  abbrev by_cid : ℕ → Option Text
  by_cid code = option_and_then (text_in font.collection) (declared_cid font.encoding code len)

  -- the ToUnicode CMap has texts for the codes
  pub with_code : (row : TextRow) (text : Text) → AreTexts (text_in font.to_unicode) first row → text_in font.to_unicode first ≡ Some text → AreTexts (its_text font len) first row
  with_code row text are is =
      let its : its_text font len first ≡ Some text = ap (λ o. option_or o (by_cid first)) is in
      record {
        within = are.within;
        text = are.text ∙ is ∙ sym its;
        further = λ k le.
            let here : text_in font.to_unicode (first + k) ≡ Some (text_after text (step row k)) = are.further k le ∙ ap (option_map (λ t. text_after t (step row k))) is in
            ap (λ o. option_or o (by_cid (first + k))) here ∙ sym (ap (option_map (λ t. text_after t (step row k))) its);
      }

  -- it has none
  pub without_code : (by_code row : TextRow) (cids : Cids) (last : ℕ) → AreTexts (text_in font.to_unicode) first by_code → text_in font.to_unicode first ≡ None → AreTexts (texts_of_cids font.collection cids first) first row
      → ((code : ℕ) → first ≤ code → code ≤ last → declared_cid font.encoding code len ≡ cid_after cids (code - first)) → first ≤ last → last ≤ by_code.last → last ≤ row.last → AreTexts (its_text font len) first (record row { last = last })
  without_code by_code row cids last are none of_cids declared le fits within =
      let its : (k : ℕ) → first + k ≤ last → its_text font len (first + k) ≡ texts_of_cids font.collection cids first (first + k) = λ k before.
      let here : text_in font.to_unicode (first + k) ≡ None = are.further k (omega arith) ∙ ap (option_map (λ t. text_after t (step by_code k))) none in
      ap (λ o. option_or o (by_cid (first + k))) here ∙ ap (option_and_then (text_in font.collection)) (declared (first + k) (omega arith) before) in
      let same : its_text font len first ≡ texts_of_cids font.collection cids first first = ap (λ o. option_or o (by_cid first)) none ∙ ap (option_and_then (text_in font.collection)) (declared first (omega arith) le) in
      record {
        within = le;
        text = of_cids.text ∙ sym same;
        further = λ k before. its k before ∙ of_cids.further k (omega arith) ∙ sym (ap (option_map (λ t. text_after t (step row k))) same);
      }

-- the text of one CID
pub same_texts : (o : Option Text) → o ≡ option_map (λ text. text_after text 0) o
same_texts None = refl
same_texts (Some text) = ap Some (sym (same_text text))

-- texts of CIDs that count on
pub counted_cids : (collection : Option (List Layer)) (cid first last : ℕ) (row : TextRow) → AreTexts (text_in collection) cid row → first ≤ last → last - first ≤ row.last - cid → AreTexts (texts_of_cids collection (CountOn cid) first) first (record row { last = last })
counted_cids collection cid first last row are le fits =
    let begin : cid + (first - first) ≡ cid = omega arith in
    let first_text : texts_of_cids collection (CountOn cid) first first ≡ text_in collection cid = ap (text_in collection) begin in
    record {
      within = le;
      text = are.text ∙ sym first_text;
      further = λ k before.
          let at : cid + (first + k - first) ≡ cid + k = omega arith in
          let there : cid + k ≤ row.last = omega (arith, are.within) in
          ap (text_in collection) at ∙ are.further k there ∙ sym (ap (option_map (λ t. text_after t (step row k))) first_text);
    }
