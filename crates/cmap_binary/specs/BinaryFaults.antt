-- The fault for which a binary file is refused: at its header, or else at the first segment at fault.
use Rattle.std.specs.Prelude.{◌≡◌, ◌≢◌, ◌⊎◌, ℕ, ◌+◌, List, [], length}
use Rattle.cmap_values.specs.Only.{IsOnly, HoldsOfNone}
use Rattle.cmap_values.specs.declared.fault.Reason.{Reason}
use Rattle.cmap_values.specs.declared.fault.Reason.TheVariants.{SegmentLength}
use Rattle.cmap_values.specs.declared.fault.Stop.{Stop}
use Rattle.cmap_binary.specs.Bundles.{PrefixTables}
use Rattle.cmap_binary.specs.Fronts.{FramedAt}
use Rattle.cmap_binary.specs.BinaryFiles.{BodyOf, Content}
use Rattle.cmap_binary.specs.BinarySalvage.{SaysNothing, SegmentSays, header_fault}

-- the first fault of the segments from this offset of a file on
pub data SegmentFault (tables : PrefixTables) : ℕ → List ℕ → Stop → Type 0 where
  -- the bytes don't begin with a whole segment
  no_segment : {offset : ℕ} {bytes : List ℕ} → bytes ≢ [] → HoldsOfNone (FramedAt 1 bytes) → SegmentFault tables offset bytes (record { offset = offset; reason = SegmentLength })
  -- the first segment can't be read
  says_nothing : {offset : ℕ} {bytes segment rest : List ℕ} → (reason : Reason) → FramedAt 1 bytes (segment, rest) → SaysNothing tables segment reason
      → SegmentFault tables offset bytes (record { offset = offset; reason = reason })
  -- the first fault after a segment that can be read
  after_segment : {offset : ℕ} {bytes segment rest : List ℕ} {content : Content} {stop : Stop} → FramedAt 1 bytes (segment, rest) → IsOnly (SegmentSays tables segment) content
      → SegmentFault tables (offset + length segment) rest stop → SegmentFault tables offset bytes stop

-- the first fault of bytes that aren't a binary file
abbrev pub IsBinaryFault : PrefixTables → List ℕ → Stop → Type 0
IsBinaryFault tables bytes stop = (HoldsOfNone (BodyOf bytes) × (stop ≡ header_fault)) ⊎ ((body : List ℕ) × BodyOf bytes body × SegmentFault tables 10 body stop)
