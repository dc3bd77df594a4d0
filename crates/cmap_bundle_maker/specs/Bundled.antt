-- The parts of a bundle.
use Rattle.std.specs.Prelude.{ℕ, ◌<◌, ◌^◌, List, All}
use Rattle.cmap_values.specs.Files.{File}
use Rattle.cmap_binary.specs.Bundles.{PrefixTables}
use Rattle.cmap_binary_writer.specs.Encoded.{IsEncodedFor}
use Rattle.cmap_binary_writer.specs.Keeps.{IsWritten}

-- tables with deltas of four bytes and counts of one byte
pub record HaveSymbols (tables : PrefixTables) : Type 0 where
  pub deltas : All (λ p. p.symbol < 2 ^ 32) tables.delta
  pub counts : All (λ p. p.symbol < 2 ^ 8) tables.count

-- the bytes of a file in the binary form, which keeps what the file says
pub record IsFileWritten (tables : PrefixTables) (file : File) (bytes : List ℕ) : Type 0 where
  pub encoded : IsEncodedFor tables file bytes
  pub written : IsWritten tables file bytes
