pub mod BytesWithin
pub mod FrontRows
pub mod RowBits
pub mod SpacesFound
