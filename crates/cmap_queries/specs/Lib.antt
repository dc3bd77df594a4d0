pub mod CodeArguments
pub mod Decimals
pub mod Failures
pub mod OptionArguments
pub mod Queries
