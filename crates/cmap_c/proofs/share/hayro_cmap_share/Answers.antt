use Rattle.std.proofs.Common.{◌∙◌, List, inl}
use Rattle.cmap_layers.specs.Layers.{Layer}
use Rattle.cmap_handles.proofs.HandlesRead.{shared}
use Rattle.cmap_c.proofs.share.hayro_cmap_share.Goals as goal

pub returns-in-Some-clause-shared : goal.returns-in-Some-clause-shared
returns-in-Some-clause-shared c = shared {M = List Layer} _ _ c.share.result _ _ _ c.in-Some.ensures.map c.share.ensures c.keep.ensures

pub returns-in-None-clause-shared : goal.returns-in-None-clause-shared
returns-in-None-clause-shared c = inl (c.number.ensures, c.clear.ensures ∙ c.in-None.ensures.map)
