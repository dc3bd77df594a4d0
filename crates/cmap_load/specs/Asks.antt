-- Private aid: names whose files are wanted.
use Rattle.cmap_load.specs.Kept.{IsWanted}
use Rattle.cmap_load.specs.declared.salvage.asker.Asked.{Asked}
use Rattle.cmap_load.specs.declared.salvage.asker.Asked.TheVariants as asked
use Rattle.cmap_load.specs.declared.graph.Graph.{Graph}

abbrev pub IsAsked : Graph → Asked → Type 0
IsAsked graph asked.Further = Unit {0}
IsAsked graph (asked.Wanted unread) = IsWanted graph unread
IsAsked graph asked.Nothing = Unit {0}
