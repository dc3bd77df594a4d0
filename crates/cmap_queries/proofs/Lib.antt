pub mod CodeArgumentParts
pub mod InputPieces
pub mod OneMore
pub mod OptionFronts
