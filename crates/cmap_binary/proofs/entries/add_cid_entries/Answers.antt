use Rattle.cmap_binary.proofs.entries.add_cid_entries.Goals as goal

pub returns-in-Two : goal.returns-in-Two
returns-in-Two c = rw c.in-Two.is c.add_single_cids.ensures

pub returns-in-Two-2 : goal.returns-in-Two-2
returns-in-Two-2 c = rw c.in-Two-2.is c.add_each_cid.ensures

pub returns-in-One : goal.returns-in-One
returns-in-One c = rw c.in-One.is c.add_each_cid-in-One.ensures

pub returns-in-Three : goal.returns-in-Three
returns-in-Three c = rw c.in-Three.is c.add_each_cid-in-Three.ensures

pub returns-in-Four : goal.returns-in-Four
returns-in-Four c = rw c.in-Four.is c.add_each_cid-in-Four.ensures
