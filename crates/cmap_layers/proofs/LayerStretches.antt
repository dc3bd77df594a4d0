-- What a layer decides for codes in a row, by what its lists say of them.
use Rattle.std.proofs.Common.{◌≡◌, ℕ, ◌+◌, ◌<◌, ◌≤◌, ◌^◌, List, [], ◌∷◌, ◌++◌, Option, Some, None, arith, drop, get_or, inl, inr, length, map, min, refl, ap, subst, sym, take, ◌∙◌, true}
use Rattle.std.proofs.lemmas.Bool.{cases_lt}
use Rattle.std.proofs.lemmas.List.{map-append, take-append-drop, take_more}
use Rattle.std.proofs.lemmas.List.Elements.{All-append, All-cons, All-nil}
use Rattle.std.specs.Prelude.{◌&&◌, ◌⊎◌, All, IsSomeAnd, nat_le, option_map, unwrap_or}
use Rattle.std.specs.Option.{option_or}
use Rattle.cmap_runs.specs.Stretches.{IsLongest, IsStretch}
use Rattle.cmap_values.specs.CodeLengths.{length_of}
use Rattle.cmap_values.specs.DeclarationsSeen.{bf_entry_seen, bf_range_span, cid_entry_seen, cid_range_span, entries_seen}
use Rattle.cmap_values.specs.Files.{BfEntry, CidEntry}
use Rattle.cmap_values.specs.declared.code_length.CodeLength.{CodeLength}
use Rattle.cmap_values.specs.declared.code_length.CodeLength.TheVariants.{One, Two, Three, Four}
use Rattle.cmap_values.specs.declared.declarations.BfRange.{BfRange}
use Rattle.cmap_values.specs.declared.declarations.CidRange.{CidRange}
use Rattle.cmap_layers.specs.Layers.{Layer}
use Rattle.cmap_layers.specs.LayersDecide.{deciding_bf, layer_cid}
use Rattle.cmap_layers.specs.Lookups.{bf_span, cid_in, cid_of, cid_span, last_bf, last_cid}
use Rattle.cmap_layers.specs.CodeStretches.{AreDeclaredBy, DeclarationsEnd, EndsAfter, HasNoText, HoldsBelow, TextsEnd}
use Rattle.cmap_layers.specs.LayersSeen.{layer_seen, layers_seen}
use Rattle.cmap_layers.specs.declared.layer.Layer as declared
use Rattle.cmap_layers.specs.declared.stretches.Cids.{Cids}
use Rattle.cmap_layers.specs.declared.stretches.Cids.TheVariants.{Same}
use Rattle.cmap_layers.proofs.LastFound.{decided_cid-decided_in, last_of-map, spans-map}
use Rattle.cmap_layers.proofs.LayersSearched.{drop_next, has_length}

-- the last declaration of a list that contains a code of a stretch
pub found_in : (table : List CidRange) (entries : List CidEntry) (first last code : ℕ) (d : Option CidRange) → entries_seen table ≡ entries → IsStretch cid_range_span table first last d
    → first ≤ code → code ≤ last → last_cid entries code ≡ option_map cid_entry_seen d
found_in table entries first last code d seen same le within =
    sym (ap (λ list. last_cid list code) seen) ∙ last_of-map cid_span cid_entry_seen table code ∙ ap (option_map cid_entry_seen) (same code le within)

-- what a layer decides is the CID, and else what those below it say
pub layer_decides : (layer : Layer) (below : List Layer) (code len : ℕ) (decision : Option (Option ℕ)) → layer_cid layer code len ≡ decision → cid_in (layer ∷ below) code len ≡ unwrap_or decision (cid_in below code len)
layer_decides layer below code len decision is = decided_cid-decided_in code _ _ _ (cid_in below code len) ∙ ap (λ decided. unwrap_or decided (cid_in below code len)) is

is_length : (len : CodeLength) → nat_le 1 (length_of len) && nat_le (length_of len) 4 ≡ true
is_length One = refl
is_length Two = refl
is_length Three = refl
is_length Four = refl

pub has_code_length : (layers : List Layer) (code : ℕ) (len : CodeLength) → cid_of layers code (length_of len) ≡ cid_in layers code (length_of len)
has_code_length layers code len = has_length layers code (length_of len) (is_length len)

-- ---- what a layer declares
-- no declaration of a CID decides, and so a notdef does, if there is one
pub notdef_declared : (k code : ℕ) (found : Option CidRange) (cid notdef : Option CidEntry) → cid ≡ None → notdef ≡ option_map cid_entry_seen found → AreDeclaredBy (option_map (λ e. Same e.cid) found) k code cid notdef
notdef_declared k code None cid notdef none is = (none, is)
notdef_declared k code (Some d) cid notdef none is = (none, ap (option_map (λ e. e.cid)) is)

pub declarations_end : (len first last : ℕ) (layer : Layer) → DeclarationsEnd len first last layer → EndsAfter len first last layer
declarations_end len first last layer (inl cids) = inl cids
declarations_end len first last layer (inr (none, notdefs)) = inr (none, inl notdefs)

-- ---- how far stretches go
-- a stretch of a table is one of the list that it holds
pub longest_cids : (table : List CidRange) (entries : List CidEntry) (first last : ℕ) → entries_seen table ≡ entries → IsLongest (map cid_range_span table) first last → IsLongest (map cid_span entries) first last
longest_cids table entries first last seen is = subst (λ spans. IsLongest spans first last) (sym (spans-map cid_span cid_entry_seen table) ∙ ap (map cid_span) seen) is

pub longest_texts : (table : List BfRange) (entries : List BfEntry) (first last : ℕ) → map bf_entry_seen table ≡ entries → IsLongest (map bf_range_span table) first last → IsLongest (map bf_span entries) first last
longest_texts table entries first last seen is = subst (λ spans. IsLongest spans first last) (sym (spans-map bf_span bf_entry_seen table) ∙ ap (map bf_span) seen) is

-- what holds at either of two ends holds at the one that comes first
pub at_lesser : (P : ℕ → Type 0) (one other lesser : ℕ) → lesser ≡ min one other → (one + 1 < 2 ^ 32 → P one) → (other + 1 < 2 ^ 32 → P other) → lesser + 1 < 2 ^ 32 → P lesser
at_lesser P one other lesser is here there small =
    elim (cases_lt one other) [
      | inl before ↦ let same : one ≡ lesser = omega arith in subst P same (here (omega arith))
      | inr after ↦ let same : other ≡ lesser = omega arith in subst P same (there (omega arith))
    ]

-- where a layer decides nothing, no CIDs end
pub no_cids : (Ends : Type 0) (P : Cids → Type 0) → Ends ⊎ IsSomeAnd None P → Ends
no_cids Ends P (inl ends) = ends
no_cids Ends P (inr none) = absurd none

-- the layers before an index, the one there, and those after it
layers_at : (layers : List declared.Layer) (k : ℕ) (layer : declared.Layer) → k < length layers → layer ≡ get_or layers k layer → layers_seen layers ≡ layers_seen (take k layers) ++ layer_seen layer ∷ layers_seen (drop (k + 1) layers)
layers_at layers k layer within is = ap layers_seen (sym (take-append-drop k layers) ∙ ap (λ rest. take k layers ++ rest) (drop_next layers k layer within is)) ∙ map-append layer_seen (take k layers) (layer ∷ drop (k + 1) layers)

-- what holds of the layer at an index, above which all are passed over
pub at_layer : (IsPassed Holds : Layer → Type 0) (layers : List declared.Layer) (k : ℕ) (layer : declared.Layer) → k < length layers → layer ≡ get_or layers k layer → All IsPassed (layers_seen (take k layers)) → Holds (layer_seen layer) → HoldsBelow IsPassed Holds (layers_seen layers)
at_layer IsPassed Holds layers k layer within is passed holds = (layers_seen (take k layers), layer_seen layer, layers_seen (drop (k + 1) layers), layers_at layers k layer within is, passed, holds)

-- one more layer is passed over
pub passed_next : (IsPassed : Layer → Type 0) (layers : List declared.Layer) (k : ℕ) (layer : declared.Layer) → k < length layers → layer ≡ get_or layers k layer → All IsPassed (layers_seen (take k layers)) → IsPassed (layer_seen layer) → All IsPassed (layers_seen (take (k + 1) layers))
passed_next IsPassed layers k layer within is passed here =
    let next : take (k + 1) layers ≡ take k layers ++ layer ∷ [] = take_more layers k layer within ∙ ap (λ x. take k layers ++ x ∷ []) (sym is) in
    rw (next, map-append layer_seen (take k layers) (layer ∷ [])) (All-append IsPassed (layers_seen (take k layers)) (layer_seen layer ∷ []) passed (All-cons IsPassed (layer_seen layer) [] here (All-nil IsPassed)))

-- the texts of a layer, or those of the layers above it, whichever end first
pub texts_end : (layers : List declared.Layer) (k : ℕ) (layer : declared.Layer) (table : List BfRange) (first above here lesser : ℕ) → k < length layers → layer ≡ get_or layers k layer → map bf_entry_seen table ≡ (layer_seen layer).lists.bfs
    → lesser ≡ min above here → All (HasNoText first) (layers_seen (take k layers)) → (above + 1 < 2 ^ 32 → HoldsBelow (HasNoText first) (TextsEnd first above) (layers_seen layers)) → IsLongest (map bf_range_span table) first here
    → lesser + 1 < 2 ^ 32 → HoldsBelow (HasNoText first) (TextsEnd first lesser) (layers_seen layers)
texts_end layers k layer table first above here lesser within is seen least passed of_above of_here =
    at_lesser (λ last. HoldsBelow (HasNoText first) (TextsEnd first last) (layers_seen layers)) above here lesser least of_above
    (λ _. at_layer (HasNoText first) (TextsEnd first here) layers k layer within is passed (longest_texts table (layer_seen layer).lists.bfs first here seen of_here))

-- the declaration of a text, of the first layer that has one
pub found_text : (table : List BfRange) (entries : List BfEntry) (first last code : ℕ) (d : Option BfRange) → map bf_entry_seen table ≡ entries → IsStretch bf_range_span table first last d
    → first ≤ code → code ≤ last → last_bf entries code ≡ option_map bf_entry_seen d
found_text table entries first last code d seen same le within =
    sym (ap (λ list. last_bf list code) seen) ∙ last_of-map bf_span bf_entry_seen table code ∙ ap (option_map bf_entry_seen) (same code le within)

pub text_decided : (layers below : List Layer) (layer : Layer) (code : ℕ) (found : Option BfEntry) → deciding_bf layers code ≡ deciding_bf (layer ∷ below) code → last_bf layer.lists.bfs code ≡ found → deciding_bf layers code ≡ option_or found (deciding_bf below code)
text_decided layers below layer code found passed is = passed ∙ ap (λ o. option_or o (deciding_bf below code)) is
