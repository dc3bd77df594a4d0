use Rattle.cmap_values.specs.DeclarationsSeen.{entries_seen}
use Rattle.cmap_edit.proofs.ListsAdded.{cids_added, none_added, notdefs_added, on_ok_all}
use Rattle.cmap_edit.proofs.flatten.cids.Declared.add.Goals as goal

pub returns-in-Absent : goal.returns-in-Absent
returns-in-Absent c = rw c.in-Absent.is (none_added (entries_seen c.args.self.now.cids.items) (entries_seen c.args.self.now.notdefs.items) c.args.range c.requires.room c.requires.range)

pub returns-in-Same : goal.returns-in-Same
returns-in-Same c =
    let called = c.push_notdefs.ensures in
    rw c.in-Same.is (on_ok_all c.push_notdefs.result (notdefs_added (entries_seen c.args.self.now.cids.items) (entries_seen c.args.self.now.notdefs.items) c.args.range c.requires.room c.requires.range
    c.in-Same.cid (entries_seen c.push_notdefs.new.list.items)) called.tidy called.said called.last)

pub returns-in-CountOn : goal.returns-in-CountOn
returns-in-CountOn c =
    let called = c.push_cids.ensures in
    rw c.in-CountOn.is (on_ok_all c.push_cids.result (cids_added (entries_seen c.args.self.now.cids.items) (entries_seen c.args.self.now.notdefs.items) c.args.range c.requires.room c.requires.range
    c.in-CountOn.cid (entries_seen c.push_cids.new.list.items)) called.tidy called.said called.last)
