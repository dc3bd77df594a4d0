-- The CIDs that layers declare for codes in a row.
use Rattle.std.proofs.Common.{◌≡◌, ℕ, ◌+◌, ◌<◌, ◌≤◌, ◌^◌, List, [], ◌∷◌, Option, Some, None, map, refl, ap, ◌∙◌, ◌-◌}
use Rattle.std.specs.Prelude.{◌⊎◌, IfSome, option_map, unwrap_or}
use Rattle.std.specs.Option.{option_or}
use Rattle.cmap_values.specs.CodeLengths.{length_of}
use Rattle.cmap_values.specs.Files.{CidEntry, of_length}
use Rattle.cmap_values.specs.declared.code_length.CodeLength.{CodeLength}
use Rattle.cmap_layers.specs.CodeStretches.{AreDeclaredBy, EndsCids, HoldsBelow, cid_after}
use Rattle.cmap_layers.specs.FirstDecided.{first_of}
use Rattle.cmap_layers.specs.Layers.{Layer}
use Rattle.cmap_layers.specs.declared.stretches.CidStretch.{CidStretch}
use Rattle.cmap_layers.specs.Lookups.{cid_at, cid_in, decided_cid, last_cid}
use Rattle.cmap_layers.specs.declared.stretches.Cids.{Cids}
use Rattle.cmap_layers.specs.declared.stretches.Cids.TheVariants.{Absent, Same, CountOn}
use Rattle.cmap_layers.proofs.FirstDecided.{else_below}
use Rattle.cmap_layers.proofs.LayerStretches.{has_code_length}
use Rattle.cmap_unicode.specs.Cids.{declared_cid, without_texts}
use Rattle.cmap_unicode.specs.Given.{AreDeclaredCids, DeclarationsEnd, DeclaresNone, Fits, Given, as_cid, as_notdef, cid_given, given, given_after, given_by, given_in, notdef_given}

-- what the first layer that declares anything says
pub first_given : (layers : List Layer) (code len : ℕ) → given layers code len ≡ unwrap_or (first_of (λ layer. given_in layer code len) layers) None
first_given [] code len = refl
first_given (layer ∷ below) code len = else_below (given_in layer code len) _ _ (first_given below code len)

-- a declaration gives what the CIDs of its layer say
pub declared_gives : (cids : Option Cids) (k code : ℕ) (cid notdef : Option CidEntry) → AreDeclaredBy cids k code cid notdef → given_by code cid notdef ≡ option_map (λ these. given_after these k) cids
declared_gives (Some Absent) k code (Some e) notdef is = ap (option_map (option_map as_cid)) is
declared_gives (Some Absent) k code None notdef is = absurd cc
declared_gives (Some (CountOn begin)) k code (Some e) notdef is = ap (option_map (option_map as_cid)) is
declared_gives (Some (CountOn begin)) k code None notdef is = absurd cc
declared_gives (Some (Same same)) k code (Some e) notdef is = absurd cc
declared_gives (Some (Same same)) k code None (Some e) is = ap (option_map (λ cid. Some (as_notdef cid))) is.1
declared_gives (Some (Same same)) k code None None is = absurd cc
declared_gives None k code cid notdef is = rw (is.0, is.1) refl

-- where no layer declares anything, no CIDs are to fit
pub absent_fit : (cids : Option Cids) (more : ℕ) → IfSome cids (λ these. Fits these more) → Fits (unwrap_or cids Absent) more
absent_fit (Some these) more fit = fit
absent_fit None more fit = tt

-- ---- the CID, as whatever it is declared
abbrev pub number : Option Given → Option ℕ
number declared = option_or (cid_given declared) (notdef_given declared)

counted : (cid : Option ℕ) → cid ≡ number (option_map as_cid cid)
counted None = refl
counted (Some cid) = refl

by_layer : (code : ℕ) (cid notdef : Option CidEntry) (below : Option ℕ) (declared : Option Given) → below ≡ number declared → decided_cid code cid notdef None below ≡ number (unwrap_or (given_by code cid notdef) declared)
by_layer code (Some e) notdef below declared is = counted (cid_at e code)
by_layer code None (Some e) below declared is = refl
by_layer code None None below declared is = is

in_turn : (layers : List Layer) (code len : ℕ) → cid_in (map without_texts layers) code len ≡ number (given layers code len)
in_turn [] code len = refl
in_turn (layer ∷ below) code len =
    by_layer code (last_cid (of_length layer.lists.cids len) code) (last_cid (of_length layer.lists.notdefs len) code) (cid_in (map without_texts below) code len) (given below code len) (in_turn below code len)

-- of a length that codes have
pub declared_is : (layers : List Layer) (code : ℕ) (len : CodeLength) → declared_cid layers code (length_of len) ≡ number (given layers code (length_of len))
declared_is layers code len = has_code_length (map without_texts layers) code len ∙ in_turn layers code (length_of len)

after : (cids : Cids) (k : ℕ) → number (given_after cids k) ≡ cid_after cids k
after Absent k = refl
after (Same cid) k = refl
after (CountOn cid) k = refl

-- CIDs that are declared so, with those that a layer's clauses tell of
pub declared_cids : (layers : List Layer) (len : CodeLength) (first : ℕ) (stretch : CidStretch) → first ≤ stretch.last → ((code : ℕ) → first ≤ code → code ≤ stretch.last → given layers code (length_of len) ≡ given_after stretch.cids (code - first))
    → Fits stretch.cids (stretch.last - first) → (stretch.last + 1 < 2 ^ 32 → HoldsBelow (DeclaresNone (length_of len) first) (DeclarationsEnd (length_of len) first stretch.last) layers ⊎ EndsCids stretch.cids (stretch.last - first)) → AreDeclaredCids layers (length_of len) first stretch
declared_cids layers len first stretch within declared fit longest = record {
  within = within;
  cids = λ code le lt. declared_is layers code len ∙ ap number (declared code le lt) ∙ after stretch.cids (code - first);
  declared = declared;
  fit = fit;
  longest = longest;
}
