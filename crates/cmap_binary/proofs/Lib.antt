pub mod BitsAhead
pub mod BitsOfBytes
pub mod BitsTaken
pub mod BytesTaken
pub mod FilesAt
pub mod Fronts
pub mod FrontsAlone
pub mod Lengths
pub mod RankedWords
pub mod TablesDecoded
pub mod TablesTaken
pub mod WordsSearched
pub mod BinarySalvaged
pub mod Bodies
mod CidsOfTwo
pub mod EntriesByColumns
pub mod EntrySums
pub mod FaultsFirst
pub mod OneFile
pub mod RawCids
pub mod Reading
mod ReasonsAlone
pub mod RowsAdded
pub mod SegmentsSaid
pub mod SegmentsSalvaged
