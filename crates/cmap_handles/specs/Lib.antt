pub mod Handles
pub mod Held
pub mod Lent
pub mod Ranges
pub mod Rooms
pub mod Statuses
