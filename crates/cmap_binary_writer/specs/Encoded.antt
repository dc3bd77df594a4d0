-- The bytes of a written file: the bytes are determined where each symbol has one code word.
use Rattle.std.specs.Prelude.{◌≡◌, ℕ, List, [], ◌∷◌, ◌++◌, Some, slice_get}
use Rattle.cmap_values.specs.Files.{File}
use Rattle.cmap_binary.specs.Bundles.{PrefixTables}
use Rattle.cmap_binary.specs.PrefixWords.{CodeWord}
use Rattle.cmap_binary.specs.BinaryFiles.{magic}
use Rattle.cmap_binary_writer.specs.Obstacles.{IsPreparedFor}
use Rattle.cmap_binary_writer.specs.Segments.{AreSegmentBytes}
use Rattle.cmap_binary_writer.specs.Written.{IsFramed}
use Rattle.cmap_binary_writer.specs.declared.prepared.Prepared.{Prepared}

-- the bytes of a prepared file: the head of version 1 with the length of the whole, the fields, and the segments with their numbers spelled by these
-- tables
pub record IsEncoded (tables : PrefixTables) (prepared : Prepared) (bytes : List ℕ) : Type 0 where
  pub segments : List ℕ
  pub are : AreSegmentBytes tables prepared.segments.items segments
  pub framed : IsFramed (magic ++ 1 ∷ []) (prepared.fields.items ++ segments) bytes

-- the bytes of the prepared form of the file
abbrev pub IsEncodedFor : PrefixTables → File → List ℕ → Type 0
IsEncodedFor tables file bytes = (prepared : Prepared) × IsPreparedFor file prepared × IsEncoded tables prepared bytes

-- no symbol has two code words
abbrev pub HasOneWordEach : List CodeWord → Type 0
HasOneWordEach table = (i j : ℕ) (a b : CodeWord) → slice_get table i ≡ Some a → slice_get table j ≡ Some b → a.symbol ≡ b.symbol → i ≡ j

pub record HaveOneWordEach (tables : PrefixTables) : Type 0 where
  pub deltas : HasOneWordEach tables.delta
  pub counts : HasOneWordEach tables.count
