-- Maps of files that are opened by their names: the file that answers the name, or a predefined CMap.
pub use Rattle.cmap_load.specs.Opened.{ExceedsBudgetNamed, FitsBudgetNamed, HasNoMapNamed, IsIdentity, IsMapNamed, IsNoIdentity, IsUnknown, LeadsToFaultNamed, OfFile}
