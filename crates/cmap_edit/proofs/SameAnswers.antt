-- A map whose files were written anew answers the same.
use Rattle.std.proofs.Common.{◌≡◌, ℕ, ◌<◌, ◌^◌, List, [], ◌∷◌, Option, Some, None, length, get_or, refl, sym, ap, subst, ◌∙◌, inl, inr, arith}
use Rattle.std.specs.Prelude.{◌↔◌, ◌&&◌, Any, nat_le, option_and_then, option_map, if◌then◌else◌}
use Rattle.std.specs.List.{AllZip}
use Rattle.std.proofs.lemmas.List.Elements.{AllZip-get_or, length_all_zip}
use Rattle.std.proofs.lemmas.Option.{same_Some, slice_get-get_or}
use Rattle.cmap_tokens.specs.Texts.{characters, only_character}
use Rattle.cmap_values.specs.Files.{BfEntry, CidEntry, of_length}
use Rattle.cmap_layers.specs.Layers.{Layer}
use Rattle.cmap_layers.specs.Lookups.{InCodespace, IsWithin, bf_at, bf_of, cid_at, cid_in, cid_of, decided_cid, decided_text, last_bf, last_cid}
use Rattle.cmap_edit.specs.Tidied.{AreTidiedCids, AreTidiedLists, AreTidiedTexts}
use Rattle.cmap_edit.specs.Tidy.{cid_said, notdef_at, notdef_said, units_at, units_said}

cids_same : (old new : List CidEntry) (code : ℕ) → AreTidiedCids old new → code < 2 ^ 32 → cid_said new code ≡ cid_said old code
cids_same old new code (inl tidied) small = tidied.1 code small
cids_same old new code (inr kept) small = ap (λ entries. cid_said entries code) kept.1

texts_same : (old new : List BfEntry) (code : ℕ) → AreTidiedTexts old new → code < 2 ^ 32 → units_said new code ≡ units_said old code
texts_same old new code (inl tidied) small = tidied.1 code small
texts_same old new code (inr kept) small = ap (λ entries. units_said entries code) kept.1

-- what decides, by what is said
decided : Option (Option ℕ) → Option ℕ → Option ℕ → Option ℕ → Option ℕ
decided (Some cid) notdef character below = cid
decided None (Some cid) character below = Some cid
decided None None (Some c) below = Some c
decided None None None below = below

decided_by : (code : ℕ) (cid notdef : Option CidEntry) (character below : Option ℕ)
    → decided_cid code cid notdef character below ≡ decided (option_map (λ e. cid_at e code) cid) (option_map (λ e. notdef_at e code) notdef) character below
unfolding decided
decided_by code (Some e) notdef character below = refl
decided_by code None (Some e) character below = refl
decided_by code None None (Some c) below = refl
decided_by code None None None below = refl

text_by : (code : ℕ) (o : Option BfEntry) → option_and_then (λ e. bf_at e code) o ≡ option_and_then (λ units. option_and_then characters units) (option_map (λ e. units_at e code) o)
text_by code None = refl
text_by code (Some e) = refl

-- the text, by what is said
decided_texts : Option (Option (List ℕ)) → Option (List ℕ) → Option (List ℕ)
decided_texts (Some units) below = option_and_then characters units
decided_texts None below = below

decided_text_by : (code : ℕ) (o : Option BfEntry) (below : Option (List ℕ)) → decided_text code o below ≡ decided_texts (option_map (λ e. units_at e code) o) below
unfolding decided_texts
decided_text_by code (Some e) below = refl
decided_text_by code None below = refl

-- the only character of a text, by what is said of its units
abbrev character_by : Option (Option (List ℕ)) → Option ℕ
character_by o = only_character (option_and_then (λ units. option_and_then characters units) o)

layer_by : (layer : Layer) (code len : ℕ) (below : Option ℕ)
    → decided_cid code (last_cid (of_length layer.lists.cids len) code) (last_cid (of_length layer.lists.notdefs len) code) (only_character (option_and_then (λ e. bf_at e code) (last_bf layer.lists.bfs code))) below
    ≡ decided (cid_said (of_length layer.lists.cids len) code) (notdef_said (of_length layer.lists.notdefs len) code) (character_by (units_said layer.lists.bfs code)) below
layer_by layer code len below =
    ap (λ o. decided_cid code (last_cid (of_length layer.lists.cids len) code) (last_cid (of_length layer.lists.notdefs len) code) (only_character o) below) (text_by code (last_bf layer.lists.bfs code))
    ∙ decided_by code (last_cid (of_length layer.lists.cids len) code) (last_cid (of_length layer.lists.notdefs len) code) (character_by (units_said layer.lists.bfs code)) below

-- each layer is that of a file written anew
abbrev pub AreTidiedLayers : List Layer → List Layer → Type 0
AreTidiedLayers old new = AllZip (λ (layer tidied : Layer). AreTidiedLists layer.lists tidied.lists) old new

same_cid_in : (old new : List Layer) (code len : ℕ) → AreTidiedLayers old new → code < 2 ^ 32 → cid_in new code len ≡ cid_in old code len
same_cid_in [] [] code len tidied small = refl
same_cid_in [] (layer ∷ layers) code len tidied small = absurd tidied
same_cid_in (layer ∷ layers) [] code len tidied small = absurd tidied
same_cid_in (layer ∷ layers) (anew ∷ others) code len (tidied, more) small =
    let cids = cids_same (of_length layer.lists.cids len) (of_length anew.lists.cids len) code (tidied.cids len) small in
    let notdefs = (tidied.notdefs len).1 code small in
    let texts = texts_same layer.lists.bfs anew.lists.bfs code tidied.texts small in
    let below = same_cid_in layers others code len more small in
    layer_by anew code len (cid_in others code len)
    ∙ ap (λ o. decided o (notdef_said (of_length anew.lists.notdefs len) code) (character_by (units_said anew.lists.bfs code)) (cid_in others code len)) cids
    ∙ ap (λ o. decided (cid_said (of_length layer.lists.cids len) code) o (character_by (units_said anew.lists.bfs code)) (cid_in others code len)) notdefs
    ∙ ap (λ o. decided (cid_said (of_length layer.lists.cids len) code) (notdef_said (of_length layer.lists.notdefs len) code) (character_by o) (cid_in others code len)) texts
    ∙ ap (decided (cid_said (of_length layer.lists.cids len) code) (notdef_said (of_length layer.lists.notdefs len) code) (character_by (units_said layer.lists.bfs code))) below
    ∙ sym (layer_by layer code len (cid_in layers code len))

pub same_cid : (old new : List Layer) (code len : ℕ) → AreTidiedLayers old new → code < 2 ^ 32 → cid_of new code len ≡ cid_of old code len
same_cid old new code len tidied small = ap (λ o. if nat_le 1 len && nat_le len 4 then o else None) (same_cid_in old new code len tidied small)

pub same_text : (old new : List Layer) (code : ℕ) → AreTidiedLayers old new → code < 2 ^ 32 → bf_of new code ≡ bf_of old code
same_text [] [] code tidied small = refl
same_text [] (layer ∷ layers) code tidied small = absurd tidied
same_text (layer ∷ layers) [] code tidied small = absurd tidied
same_text (layer ∷ layers) (anew ∷ others) code (tidied, more) small =
    let texts = texts_same layer.lists.bfs anew.lists.bfs code tidied.texts small in
    let below = same_text layers others code more small in
    decided_text_by code (last_bf anew.lists.bfs code) (bf_of others code) ∙ ap (λ o. decided_texts o (bf_of others code)) texts
    ∙ ap (decided_texts (units_said layer.lists.bfs code)) below ∙ sym (decided_text_by code (last_bf layer.lists.bfs code) (bf_of layers code))

-- ---- codespace ranges
turned : (old new : List Layer) → AreTidiedLayers old new → AllZip (λ (anew layer : Layer). AreTidiedLists layer.lists anew.lists) new old
turned [] [] tidied = tidied
turned [] (layer ∷ layers) tidied = absurd tidied
turned (layer ∷ layers) [] tidied = absurd tidied
turned (layer ∷ layers) (anew ∷ others) (tidied, more) = (tidied, turned layers others more)

any_zip : {A : Type 0} (R : A → A → Type 0) (P : A → Type 0) (xs ys : List A) → AllZip R xs ys → ((x y : A) → R x y → P x → P y) → Any P xs → Any P ys
any_zip R P xs ys zip same (k, x, lt, is, holds) =
    let count = length_all_zip R xs ys zip in
    let y = get_or ys k x in
    let within : k < length ys = omega arith in
    (k, y, within, same_Some _ _ (sym (slice_get-get_or ys k y within) ∙ slice_get-get_or ys k x within), same (get_or xs k x) y (AllZip-get_or R xs ys k x x zip lt) (subst P (sym is) holds))

abbrev HasCode : ℕ → ℕ → Layer → Type 0
HasCode code len layer = Any (λ space. IsWithin space code len) layer.lists.spaces

pub same_codespace : (old new : List Layer) (code len : ℕ) → AreTidiedLayers old new → InCodespace new code len ↔ InCodespace old code len
same_codespace old new code len tidied = (
  λ (least, most, small, found). (
    least,
    most,
    small,
    any_zip (λ anew layer. AreTidiedLists layer.lists anew.lists) (HasCode code len) new old (turned old new tidied) (λ anew layer lists has. subst (λ spaces. Any (λ space. IsWithin space code len) spaces) lists.spaces has) found,
  ),
  λ (least, most, small, found). (
    least,
    most,
    small,
    any_zip (λ layer anew. AreTidiedLists layer.lists anew.lists) (HasCode code len) old new tidied (λ layer anew lists has. subst (λ spaces. Any (λ space. IsWithin space code len) spaces) (sym lists.spaces) has) found,
  ),
)
