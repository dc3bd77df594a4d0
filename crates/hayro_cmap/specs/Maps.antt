-- What is said of a file over those that it uses: by the tables of a bundle, where there is one, and with these answers to names.
pub use Rattle.cmap_load.specs.Maps.{ExceedsBudget, FitsBudget, HasNoMap, IsMapOf, LeadsToFault}
