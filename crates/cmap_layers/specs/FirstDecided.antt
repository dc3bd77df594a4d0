-- The first layer that decides for codes in a row.
use Rattle.std.specs.Prelude.{◌≡◌, ◌⊎◌, ℕ, ◌+◌, ◌-◌, ◌<◌, ◌≤◌, ◌^◌, List, [], ◌∷◌, Option, None, IfSome, IsSomeAnd, option_map}
use Rattle.std.specs.Option.{option_or}
use Rattle.cmap_layers.specs.CodeStretches.{EndsAfter, EndsCids, HoldsBelow, cid_after}
use Rattle.cmap_layers.specs.Layers.{Layer}
use Rattle.cmap_layers.specs.LayersDecide.{layer_cid}
use Rattle.cmap_layers.specs.declared.stretches.Cids.{Cids}
use Rattle.cmap_layers.specs.declared.stretches.LayerStretch.{LayerStretch}

-- a kind of decisions
pub record Decision (X : Type 0) : Type 1 where
  -- the decision of a layer by itself for a code of len bytes, if it decides
  pub decided : Layer → ℕ → ℕ → Option X
  -- the decision for the code that comes k codes after the first, where the codes have these CIDs
  pub said : Cids → ℕ → X
  pub Fits : Cids → ℕ → Type 0
  -- another declaration of the layer decides the code after the last one than decides the first
  pub Ends : ℕ → ℕ → ℕ → Layer → Type 0

-- the CID of a code, or that the code has no CID
abbrev pub cid_decision : Decision (Option ℕ)
cid_decision = record { decided = layer_cid; said = cid_after; Fits = λ cids k. Unit {0}; Ends = EndsAfter }

-- the decision of the first layer that decides
abbrev pub first_of : {X : Type 0} → (Layer → Option X) → List Layer → Option X
first_of decided [] = None
first_of decided (layer ∷ below) = option_or (decided layer) (first_of decided below)

module _ {X : Type 0} (decision : Decision X) where
  abbrev pub IsUndecided : ℕ → ℕ → Layer → Type 0
  IsUndecided len code layer = decision.decided layer code len ≡ None

  -- these are the decisions for the codes from the first to the last one
  pub record AreDecided (decided : ℕ → Option X) (first : ℕ) (stretch : LayerStretch) : Type 0 where
    pub within : first ≤ stretch.last
    pub said : (code : ℕ) → first ≤ code → code ≤ stretch.last → decided code ≡ option_map (λ these. decision.said these (code - first)) stretch.cids
    pub fit : (code : ℕ) → first ≤ code → code ≤ stretch.last → IfSome stretch.cids (λ these. decision.Fits these (code - first))

  -- unless the stretch ends with the last code of 32 bits, Ends holds of the layer, or the stretch ends with the last CID
  abbrev pub EndsInLayer : Layer → ℕ → ℕ → LayerStretch → Type 0
  EndsInLayer layer len first stretch = stretch.last + 1 < 2 ^ 32
      → decision.Ends len first stretch.last layer ⊎ IsSomeAnd stretch.cids (λ these. EndsCids these (stretch.last - first))

  -- the same, with a layer above which no layer decides the first code
  abbrev pub EndsInLayers : List Layer → ℕ → ℕ → LayerStretch → Type 0
  EndsInLayers layers len first stretch = stretch.last + 1 < 2 ^ 32
      → HoldsBelow (IsUndecided len first) (decision.Ends len first stretch.last) layers ⊎ IsSomeAnd stretch.cids (λ these. EndsCids these (stretch.last - first))
