use Rattle.std.proofs.Common.{◌∙◌, inl}
use Rattle.cmap_encode.specs.declared.encoder.Encoder.{Encoder}
use Rattle.cmap_handles.proofs.HandlesRead.{shared}
use Rattle.cmap_c_writer.proofs.share.hayro_cmap_encoder_share.Goals as goal

pub returns-in-Some-clause-shared : goal.returns-in-Some-clause-shared
returns-in-Some-clause-shared c = shared {M = Encoder} _ _ c.share.result _ _ _ c.in-Some.ensures.encoder c.share.ensures c.keep.ensures

pub returns-in-None-clause-shared : goal.returns-in-None-clause-shared
returns-in-None-clause-shared c = inl (c.number.ensures, c.clear.ensures ∙ c.in-None.ensures.encoder)
