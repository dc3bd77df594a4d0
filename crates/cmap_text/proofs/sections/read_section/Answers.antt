use Rattle.cmap_text.proofs.sections.read_section.Goals as goal

pub returns-in-Cids : goal.returns-in-Cids
returns-in-Cids c = rw c.in-Cids.is c.read_cid_section.ensures

pub returns-in-BfChar : goal.returns-in-BfChar
returns-in-BfChar c = rw c.in-BfChar.is c.read_entries.ensures
