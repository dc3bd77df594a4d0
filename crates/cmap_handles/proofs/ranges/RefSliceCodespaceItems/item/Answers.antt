use Rattle.cmap_values.specs.DeclarationsSeen.{codespace_seen}
use Rattle.cmap_values.specs.declared.code_length.CodeLength.TheVariants.{One}
use Rattle.cmap_handles.specs.Handles.{range_seen}
use Rattle.cmap_handles.proofs.FilledRows.{mapped_index, mapped_within}
use Rattle.cmap_handles.proofs.ranges.RefSliceCodespaceItems.item.Goals as goal

pub returns : goal.returns
returns c =
    let from = c.from.ensures in
    let count = c.count.ensures in
    rw (from, count) (mapped_index codespace_seen range_seen c.args.self.now.now c.args.index (record { len = One; low = 0; high = 0 }) c.requires)

pub bounds-self-index : goal.bounds-self-index
bounds-self-index c = mapped_within codespace_seen range_seen c.args.self.now.now c.args.index c.requires
