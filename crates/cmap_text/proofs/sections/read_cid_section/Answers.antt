use Rattle.cmap_text.proofs.sections.read_cid_section.Goals as goal

pub returns-in-Range : goal.returns-in-Range
returns-in-Range c = rw (c.in-Cid.is, c.in-Range.is) c.read_entries.ensures

pub returns-in-Single : goal.returns-in-Single
returns-in-Single c = rw (c.in-Cid.is, c.in-Single.is) c.read_entries-in-Single.ensures

pub returns-in-Notdef : goal.returns-in-Notdef
returns-in-Notdef c = rw c.in-Notdef.is c.read_entries-in-Notdef.ensures
