-- The numbers of the warnings in the C interface.
use Rattle.std.specs.Prelude.{ℕ}
use Rattle.cmap_lint.specs.declared.warning.Warning.{Warning}
use Rattle.cmap_lint.specs.declared.warning.Warning.TheVariants.{NothingDeclared, NoCodespace, OutsideCodespace, Overlap, InvertedRange, CrossesRow, LastByte, NoText, PrivateUse, Noncharacter, ReplacementCharacter, NullCharacter, NoMapping, NameDiffers, ModeDiffers, CountDiffers, LongSection, NoEndcmap, CodeLength, OddDigits, OddText}

-- the index in the order of reports
abbrev pub number : Warning → ℕ
number NothingDeclared = 0
number NoCodespace = 1
number OutsideCodespace = 2
number Overlap = 3
number InvertedRange = 4
number CrossesRow = 5
number LastByte = 6
number NoText = 7
number PrivateUse = 8
number Noncharacter = 9
number ReplacementCharacter = 10
number NullCharacter = 11
number NoMapping = 12
number NameDiffers = 13
number ModeDiffers = 14
number CountDiffers = 15
number LongSection = 16
number NoEndcmap = 17
number CodeLength = 18
number OddDigits = 19
number OddText = 20
