use Rattle.cmap_values.specs.DeclarationsSeen.{cid_entry_seen}
use Rattle.cmap_handles.specs.Ranges.{cid_range_seen}
use Rattle.cmap_handles.proofs.FilledRows.{mapped_at, mapped_within}
use Rattle.cmap_handles.proofs.ranges.TableCidRangeItems.item.Goals as goal

pub decl-declared-requires : goal.decl-declared-requires
decl-declared-requires c = mapped_within cid_entry_seen cid_range_seen c.args.self.now c.args.index c.requires

pub returns : goal.returns
returns c = mapped_at cid_entry_seen cid_range_seen c.args.self.now c.args.index c.decl-declared.result.now c.decl-declared.ensures.declaration
