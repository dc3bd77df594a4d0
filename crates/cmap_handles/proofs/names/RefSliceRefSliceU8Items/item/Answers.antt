use Rattle.std.proofs.Common.{[], length}
use Rattle.cmap_handles.proofs.FilledRows.{mapped_index, mapped_within}
use Rattle.cmap_handles.proofs.names.RefSliceRefSliceU8Items.item.Goals as goal

pub returns : goal.returns
returns c = mapped_index (λ name. name.now) length c.args.self.now.now c.args.index (record { ref_ptr = (0, 0); now = [] }) c.requires

pub bounds-self-index : goal.bounds-self-index
bounds-self-index c = mapped_within (λ name. name.now) length c.args.self.now.now c.args.index c.requires
