-- What a slot and a handle are once the borrow of their encoder ends.
use mathlib.Core.Option.{none}
use Rattle.std.specs.Prelude.{◌≡◌, Some, ⊤}
use Rattle.std.specs.Borrow.{Lends, MutBor, Fml, follows_so}
use Rattle.cmap_encode.specs.declared.encoder.Encoder.{Encoder}
use Rattle.cmap_c_writer.specs.HeldEncoder.{shared_encoder}
use Rattle.cmap_c_writer.specs.declared.handle.EncoderHandle.{EncoderHandle}
use Rattle.cmap_c_writer.specs.declared.slot.EncoderSlot.{EncoderSlot}
use Rattle.cmap_c_writer.specs.contracts.handle.EncoderHandle as handle
use Rattle.cmap_c_writer.specs.contracts.slot.EncoderSlot as slot

-- the slot then has the encoder that was left behind the reference
abbrev pub LendsEncoder : MutBor EncoderSlot → MutBor Encoder → Fml
LendsEncoder given lent = Lends slot.the_row shared_encoder given lent (λ encoder. record given.now { encoder = Some encoder })

-- the handle then has the encoder that it had before
abbrev pub RestsEncoder : MutBor EncoderHandle → Fml
RestsEncoder given = follows_so handle.the_row handle.the_row given.ghost_name none (λ _ _. ⊤) (λ last. last.slot.encoder ≡ given.now.slot.encoder)
