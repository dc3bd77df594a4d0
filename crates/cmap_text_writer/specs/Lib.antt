pub mod Fits
pub mod Spelled
pub mod Told
pub mod FileItems
pub mod Obstacles
pub mod Lengths
pub mod Layout
pub mod Written
