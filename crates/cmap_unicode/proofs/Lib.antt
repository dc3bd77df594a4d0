pub mod CharactersInRow
pub mod OneText
pub mod TextsCounted
pub mod RowsEnd
pub mod RowsOfTexts
pub mod DeclaredStretches
pub mod TextsFilled
pub mod RowsWithText
