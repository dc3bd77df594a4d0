-- The first layer that decides for codes in a row.
use Rattle.std.proofs.Common.{◌≡◌, ℕ, ◌+◌, ◌<◌, List, [], ◌∷◌, Option, Some, None, true, false, ap, drop, get_or, inl, inr, length, refl, sym, ◌∙◌}
use Rattle.std.specs.Prelude.{◌⊎◌, IsSomeAnd, is_some, option_map, unwrap_or}
use Rattle.std.specs.Option.{option_or}
use Rattle.cmap_layers.specs.CodeStretches.{EndsCids}
use Rattle.cmap_layers.specs.FirstDecided.{first_of}
use Rattle.cmap_layers.specs.Layers.{Layer}
use Rattle.cmap_layers.specs.LayersDecide.{layer_cid}
use Rattle.cmap_layers.specs.LayersSeen.{layer_seen, layers_seen}
use Rattle.cmap_layers.specs.Lookups.{cid_in}
use Rattle.cmap_layers.specs.declared.layer.Layer as declared
use Rattle.cmap_layers.specs.declared.stretches.Cids.{Cids}
use Rattle.cmap_layers.specs.declared.stretches.Cids.TheVariants.{Absent}
use Rattle.cmap_layers.proofs.LayerStretches.{layer_decides}
use Rattle.cmap_layers.proofs.LayersSearched.{drop_next}

module _ {X : Type 0} (decided : Layer → Option X) (layers : List declared.Layer) (k : ℕ) (layer : declared.Layer) (within : k < length layers) (is : layer ≡ get_or layers k layer) where
  -- the layer at an index decides, or else those below it
  here_or_below : first_of decided (layers_seen (drop k layers)) ≡ option_or (decided (layer_seen layer)) (first_of decided (layers_seen (drop (k + 1) layers)))
  here_or_below = ap (λ rest. first_of decided (layers_seen rest)) (drop_next layers k layer within is)

  pub passed_over : decided (layer_seen layer) ≡ None → first_of decided (layers_seen (drop k layers)) ≡ first_of decided (layers_seen (drop (k + 1) layers))
  passed_over none = here_or_below ∙ ap (λ o. option_or o (first_of decided (layers_seen (drop (k + 1) layers)))) none

  pub found : (x : X) → decided (layer_seen layer) ≡ Some x → first_of decided (layers_seen (drop k layers)) ≡ Some x
  found x some = here_or_below ∙ ap (λ o. option_or o (first_of decided (layers_seen (drop (k + 1) layers)))) some

-- some CIDs, or none
pub some_cids : (cids : Option Cids) → true ≡ is_some cids → (these : Cids) × (cids ≡ Some these)
some_cids (Some these) is = (these, refl)
some_cids None is = absurd cc

pub none_cids : (cids : Option Cids) → false ≡ is_some cids → cids ≡ None
none_cids (Some these) is = absurd cc
none_cids None is = refl

-- ---- where no layer decides, no code has a CID
pub else_below : {Y : Type 0} (decision : Option (Option Y)) (below : Option Y) (first : Option (Option Y)) → below ≡ unwrap_or first None → unwrap_or decision below ≡ unwrap_or (option_or decision first) None
else_below (Some y) below first is = refl
else_below None below first is = is

pub first_cid : (layers : List Layer) (code len : ℕ) → cid_in layers code len ≡ unwrap_or (first_of (λ layer. layer_cid layer code len) layers) None
first_cid [] code len = refl
first_cid (layer ∷ below) code len = layer_decides layer below code len (layer_cid layer code len) refl ∙ else_below (layer_cid layer code len) _ _ (first_cid below code len)

pub after_absent : {Y : Type 0} (said : Cids → ℕ → Option Y) → ((k : ℕ) → said Absent k ≡ None) → (cids : Option Cids) (k : ℕ) → unwrap_or (option_map (λ these. said these k) cids) None ≡ said (unwrap_or cids Absent) k
after_absent said absent (Some these) k = refl
after_absent said absent None k = sym (absent k)

pub ends_absent : (Ends : Type 0) (cids : Option Cids) (more : ℕ) → Ends ⊎ IsSomeAnd cids (λ these. EndsCids these more) → Ends ⊎ EndsCids (unwrap_or cids Absent) more
ends_absent Ends cids more (inl ends) = inl ends
ends_absent Ends (Some these) more (inr ends) = inr ends
ends_absent Ends None more (inr none) = absurd none
