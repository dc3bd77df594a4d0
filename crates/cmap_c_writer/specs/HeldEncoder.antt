-- The memory that a handle of an encoder owns.
use denote.RattleType.{RattleType}
use Rattle.cmap_encode.specs.contracts.encoder.Encoder as encoder
use Rattle.cmap_handles.specs.contracts.shared.Shared as shared

abbrev pub shared_encoder : RattleType
shared_encoder = shared.the_row encoder.the_row
