use Rattle.std.proofs.Common.{◌∙◌, inl}
use Rattle.cmap_binary.specs.Bundles.{Bundle}
use Rattle.cmap_handles.proofs.HandlesRead.{shared}
use Rattle.cmap_c.proofs.bundle.hayro_cmap_bundle_share.Goals as goal

pub returns-in-Some-clause-shared : goal.returns-in-Some-clause-shared
returns-in-Some-clause-shared c = shared {M = Bundle} _ _ c.share.result _ _ _ c.in-Some.ensures.bundle c.share.ensures c.keep.ensures

pub returns-in-None-clause-shared : goal.returns-in-None-clause-shared
returns-in-None-clause-shared c = inl (c.number.ensures, c.clear.ensures ∙ c.in-None.ensures.bundle)
