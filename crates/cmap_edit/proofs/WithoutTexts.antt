-- Maps whose layers declare no texts: their CIDs are those that are declared.
use Rattle.std.proofs.Common.{◌≡◌, ℕ, ◌+◌, ◌<◌, ◌≤◌, List, [], ◌∷◌, ◌++◌, Option, Some, None, get_or, length, map, take, refl, sym, ap, ◌∙◌, subst, arith}
use Rattle.std.specs.Prelude.{All}
use Rattle.std.specs.Option.{option_or}
use Rattle.std.proofs.lemmas.List.{map_push, take_more}
use Rattle.std.proofs.lemmas.List.Elements.{All-head, All-push, All-tail}
use Rattle.cmap_tokens.specs.Texts.{only_character}
use Rattle.cmap_values.specs.DeclarationsSeen.{bf_entry_seen}
use Rattle.cmap_values.specs.Files.{BfEntry}
use Rattle.cmap_values.specs.declared.declarations.BfRange.{BfRange}
use Rattle.cmap_layers.specs.Layers.{Layer}
use Rattle.cmap_layers.specs.LayersSeen.{layer_seen, layers_seen}
use Rattle.cmap_layers.specs.Lookups.{bf_of, cid_of, decided_text, last_bf}
use Rattle.cmap_layers.specs.declared.layer.Layer as declared
use Rattle.cmap_unicode.specs.Cids.{declared_cid, without_texts}
use Rattle.cmap_edit.specs.Parts.{AreTexts}
use Rattle.cmap_edit.specs.Subsets.{IsKept}
use Rattle.cmap_edit.specs.declared.flatten.codes.Codes.{Codes}
use Rattle.cmap_edit.proofs.TidyLists.{no_texts as no_entries}

same_layer : (layer : Layer) → layer.lists.bfs ≡ [] → without_texts layer ≡ layer
same_layer layer none = sym (ap (λ bfs. record layer { lists = record layer.lists { bfs = bfs } }) none)

same_layers : (layers : List Layer) → All (λ layer. layer.lists.bfs ≡ []) layers → map without_texts layers ≡ layers
same_layers [] none = refl
same_layers (layer ∷ below) none =
    ap (λ first. first ∷ map without_texts below) (same_layer layer (All-head (λ layer. layer.lists.bfs ≡ []) layer below none))
    ∙ ap (λ rest. layer ∷ rest) (same_layers below (All-tail (λ layer. layer.lists.bfs ≡ []) layer below none))

no_text : (layers : List Layer) (code : ℕ) → All (λ layer. layer.lists.bfs ≡ []) layers → bf_of layers code ≡ None
no_text [] code none = refl
no_text (layer ∷ below) code none =
    ap (λ bfs. decided_text code (last_bf bfs code) (bf_of below code)) (All-head (λ layer. layer.lists.bfs ≡ []) layer below none)
    ∙ no_text below code (All-tail (λ layer. layer.lists.bfs ≡ []) layer below none)

or_none : (found : Option ℕ) → option_or found None ≡ found
or_none None = refl
or_none (Some cid) = refl

-- one file can give them all
pub is_kept : (layers : List Layer) (code len : ℕ) → All (λ layer. layer.lists.bfs ≡ []) layers → IsKept layers code len
is_kept layers code len none =
    sym (ap (λ layers. cid_of layers code len) (same_layers layers none)) ∙ sym (or_none (declared_cid layers code len))
    ∙ sym (ap (λ text. option_or (declared_cid layers code len) (only_character text)) (no_text layers code none))

-- there are no texts to declare
pub AreTexts-none : (layers : List Layer) (chosen : List Codes) → All (λ layer. layer.lists.bfs ≡ []) layers → AreTexts layers chosen []
AreTexts-none layers chosen none = record { tidy = no_entries; codes = λ code small. (λ is. sym (no_text layers code none), λ other. refl) }

-- ---- layer by layer
pub no_texts : (table : List BfRange) (bfs : List BfEntry) → length table ≤ 0 → map bf_entry_seen table ≡ bfs → bfs ≡ []
no_texts [] bfs few is = sym is
no_texts (e ∷ es) bfs few is = absurd (omega (arith, few))

pub one_more : (layers : List declared.Layer) (i : ℕ) (layer : declared.Layer) → i < length layers → layer ≡ get_or layers i layer → All (λ layer. layer.lists.bfs ≡ []) (layers_seen (take i layers)) → (layer_seen layer).lists.bfs ≡ []
    → All (λ layer. layer.lists.bfs ≡ []) (layers_seen (take (i + 1) layers))
one_more layers i layer lt is above none =
    let P = λ (layer : Layer). layer.lists.bfs ≡ [] in
    subst (All P) (sym (map_push layer_seen (take i layers) layer) ∙ ap layers_seen (ap (λ next. take i layers ++ next ∷ []) is ∙ sym (take_more layers i layer lt)))
    (All-push P (layers_seen (take i layers)) (layer_seen layer) above none)
