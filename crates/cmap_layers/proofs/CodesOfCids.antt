-- The codes of a CID, stretch by stretch.
use Rattle.std.proofs.Common.{◌≡◌, ℕ, ◌+◌, ◌≤◌, List, Some, None, sym, ◌∙◌, arith}
use Rattle.cmap_values.specs.declared.range.Range.{Range}
use Rattle.cmap_layers.specs.CodeRanges.{joined}
use Rattle.cmap_layers.specs.CodeStretches.{AreCodesAmong, AreCodesBelow, IsCidStretch}
use Rattle.cmap_layers.specs.Layers.{Layer}
use Rattle.cmap_layers.specs.Lookups.{cid_of}
use Rattle.cmap_layers.specs.declared.stretches.CidStretch.{CidStretch}
use Rattle.cmap_layers.proofs.CodeRanges as ranges

module _ (layers : List Layer) (len cid next last : ℕ) (stretch : CidStretch) (before : List Range) (are : AreCodesBelow layers len cid next before) (same : IsCidStretch layers len next stretch) (le : next ≤ last) (within : last ≤ stretch.last) where
  pub passed_over : AreCodesAmong stretch.cids cid next last None → AreCodesBelow layers len cid (last + 1) before
  passed_over none = ranges.passed_over (λ code. cid_of layers code len ≡ Some cid) next last before are le (λ code from to is. none code from to (sym (same.cids code from (omega arith)) ∙ is))

  pub added : (range : Range) → AreCodesAmong stretch.cids cid next last (Some range) → AreCodesBelow layers len cid (last + 1) (joined before range)
  added range among = ranges.added (λ code. cid_of layers code len ≡ Some cid) next last before range are le among.0 among.1 among.2 (λ code from to. (
    λ is. (among.3 code from to).0 (sym (same.cids code from (omega arith)) ∙ is),
    λ in_range. same.cids code from (omega arith) ∙ (among.3 code from to).1 in_range,
  ))
