pub mod Refusals
pub mod TokenParsers
pub mod TokensRead
pub mod EntriesRead
mod EntrySteps
pub mod ItemsRead
mod ItemSteps
pub mod ItemsSaid
pub mod TextRead
pub mod UnitsRead
pub mod ValuesRead
pub mod Local
mod TextsAdded
mod Stops
mod FaultsAdded
mod FaultPlaces
mod ListsKept
mod WholeRead
mod RowsRead
mod FrontsKept
mod Places
mod FaultyPassed
mod FaultyLists
mod FaultyPlaces
mod FaultyEntries
mod FaultyItems
mod FaultyTotal
mod FaultyRead
pub mod TextFaults
mod Declared
