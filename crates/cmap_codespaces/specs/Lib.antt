pub mod CodesWithin
pub mod SpaceBits
