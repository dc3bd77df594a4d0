pub mod FilledRows
pub mod HandlesRead
pub mod StatusNumbers
pub mod Steps
pub mod Values
mod BundleSlots
mod MapSlots
