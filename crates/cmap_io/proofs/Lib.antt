pub mod Adds
pub mod AddsShown
pub mod Hexadecimal
pub mod HiddenRanges
pub mod Ranges
pub mod Spelled
mod Absent
mod PathsTaken
