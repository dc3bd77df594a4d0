-- Private aid: what is found of a file and of its uses, and what the files that are opened for it take from a budget.
pub use Rattle.cmap_load.specs.BytesSpent.{About, GoesOver, GoesOverAt, Leaves, Refuses, Resolves, Spends, of_file, of_use, of_uses}
