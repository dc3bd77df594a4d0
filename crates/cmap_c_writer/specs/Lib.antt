pub mod Encoded
pub mod Folded
pub mod PiecesSeen
pub mod HeldEncoder
pub mod LentEncoder
pub mod Given
pub mod Made
pub mod Whole
