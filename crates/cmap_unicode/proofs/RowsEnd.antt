-- How far rows of texts go.
use Rattle.std.proofs.Common.{◌≡◌, ℕ, ◌+◌, ◌-◌, ◌<◌, ◌≤◌, ◌^◌, List, Option, Some, None, ap, ◌∙◌, sym, subst, inl, inr, min, arith}
use Rattle.std.specs.Prelude.{◌⊎◌, IsSomeAnd}
use Rattle.std.proofs.lemmas.Bool.{cases_lt}
use Rattle.cmap_values.specs.Files.{BfEntry}
use Rattle.cmap_layers.specs.CodeStretches.{EndsCids, HasNoText, HoldsBelow, IsRowEnd, IsTextStretch, TextsEnd}
use Rattle.cmap_layers.specs.Layers.{Layer}
use Rattle.cmap_layers.specs.declared.stretches.Cids.{Cids}
use Rattle.cmap_layers.specs.declared.stretches.Cids.TheVariants.{Absent, CountOn, Same}
use Rattle.cmap_layers.specs.declared.stretches.CidStretch.{CidStretch}
use Rattle.cmap_layers.proofs.LayerStretches.{at_lesser}
use Rattle.cmap_unicode.specs.Given.{AreDeclaredCids, DeclarationsEnd, DeclaresNone, as_cid, given, given_after}
use Rattle.cmap_unicode.specs.TextRows.{CidsEnd, CountedEnd, IsLongestRow, IsLongestTextRow, MapEnds}
use Rattle.cmap_unicode.specs.TextsOfCodes.{Font, text_in}

-- the declaration ends, or a row of its texts
pub map_ends : (layers : List Layer) (first last more lesser : ℕ) (entry : BfEntry) → IsTextStretch layers first last (Some entry) → entry.start ≤ first → first ≤ last → last < 2 ^ 32 → lesser ≡ first + min (last - first) more
    → (more ≡ 2 ^ 32 - 1) ⊎ IsRowEnd entry.units (first - entry.start + more) → lesser + 1 < 2 ^ 32 → MapEnds first lesser layers
map_ends layers first last more lesser entry stretch start le fits is ends small =
    elim (cases_lt more (last - first)) [
      | inl less ↦
          elim ends [
            | inl most ↦ absurd (omega arith)
            | inr row ↦
                let at : first - entry.start + more ≡ lesser - entry.start = omega arith in
                inr (subst (λ o. IsSomeAnd o (λ entry. IsRowEnd entry.units (lesser - entry.start))) (sym (stretch.decides lesser (omega arith) (omega arith))) (subst (IsRowEnd entry.units) at row))
          ]
      | inr whole ↦
          let at : last ≡ lesser = omega arith in
          inl (subst (λ l. HoldsBelow (HasNoText first) (TextsEnd first l) layers) at (stretch.longest (omega arith)))
    ]

-- CIDs that count on end, or their texts
pub counted_end : (collection : Option (List Layer)) (cid first last texts lesser : ℕ) → first ≤ last → cid ≤ texts → lesser ≡ first + min (last - first) (texts - cid) → IsLongestRow collection cid texts
    → (lesser ≡ last) ⊎ CountedEnd collection (CountOn cid) (lesser - first)
counted_end collection cid first last texts lesser le from is longest =
    elim (cases_lt (texts - cid) (last - first)) [
      | inl less ↦ let at : texts ≡ cid + (lesser - first) = omega arith in inr (subst (IsLongestRow collection cid) at longest)
      | inr whole ↦ inl (omega arith)
    ]

module _ (font : Font) (len first : ℕ) where
  counts : (cids : Cids) (last : ℕ) → given font.encoding first len ≡ given_after cids (first - first) → CountedEnd font.collection cids (last - first) → CidsEnd font len first last
  counts (CountOn cid) last declared ends =
      let begin : cid + (first - first) ≡ cid = omega arith in inr (cid, declared ∙ ap (λ n. Some (as_cid n)) begin, ends)
  counts (Same cid) last declared ends = absurd ends
  counts Absent last declared ends = absurd ends

  last_cid : (cids : Cids) (last : ℕ) → given font.encoding first len ≡ given_after cids (first - first) → EndsCids cids (last - first) → CidsEnd font len first last
  last_cid (CountOn cid) last declared ends = counts (CountOn cid) last declared (λ small. absurd (omega (arith, ends)))
  last_cid (Same cid) last declared ends = absurd ends
  last_cid Absent last declared ends = absurd ends

  -- by their CIDs, where the ToUnicode CMap has no text
  pub row_ends : (stretch : CidStretch) (by_code by_cid lesser : ℕ) → AreDeclaredCids font.encoding len first stretch → text_in font.to_unicode first ≡ None → IsLongestRow font.to_unicode first by_code
      → (by_cid ≡ stretch.last) ⊎ CountedEnd font.collection stretch.cids (by_cid - first) → lesser ≡ min by_cid by_code → IsLongestTextRow font len first lesser
  row_ends stretch by_code by_cid lesser are none of_code of_cid is =
      let declared = are.declared first (omega arith) are.within in
      elim (cases_lt (lesser + 1) (2 ^ 32)) [
        | inr large ↦ inl (λ small. absurd (omega (arith, small, large)))
        | inl small ↦
            at_lesser (IsLongestTextRow font len first) by_cid by_code lesser is
            (λ below. inr (
              none,
              elim of_cid [
                | inl same ↦
                    elim (are.longest (omega (arith, below, same))) [
                      | inl ends ↦ inl (subst (λ l. HoldsBelow (DeclaresNone len first) (DeclarationsEnd len first l) font.encoding) (sym same) ends)
                      | inr ends ↦ last_cid stretch.cids by_cid declared (subst (λ l. EndsCids stretch.cids (l - first)) (sym same) ends)
                    ]
                | inr ends ↦ counts stretch.cids by_cid declared ends
              ],
            ))
            (λ below. inl of_code) small
      ]
