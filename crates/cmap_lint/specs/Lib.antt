pub mod PartsRead
pub mod Warnings
