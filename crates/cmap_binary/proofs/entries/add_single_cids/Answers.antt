use Rattle.cmap_binary.proofs.entries.add_single_cids.Goals as goal

pub returns : goal.returns
returns c = rw c.replace-list.ensures.value at (c.push_single_cids-added.ensures c.args.lists.now)
