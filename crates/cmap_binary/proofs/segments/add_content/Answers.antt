use Rattle.cmap_values.specs.FilesSeen.{file_seen}
use Rattle.cmap_binary.proofs.RowsAdded.{declares_to_file}
use Rattle.cmap_binary.proofs.segments.add_content.Goals as goal

pub returns-in-Cids : goal.returns-in-Cids
returns-in-Cids c = rw c.in-Cids.is (declares_to_file _ _ (file_seen c.args.file.now) _ c.add_cids.result c.add_cids.ensures)

pub returns-in-Texts : goal.returns-in-Texts
returns-in-Texts c = rw c.in-Texts.is (declares_to_file _ _ (file_seen c.args.file.now) _ c.add_texts.result c.add_texts.ensures)

pub returns-in-Notdefs : goal.returns-in-Notdefs
returns-in-Notdefs c = rw c.in-Notdefs.is (declares_to_file _ _ (file_seen c.args.file.now) _ c.add_notdefs.result c.add_notdefs.ensures)

pub returns-in-Mode : goal.returns-in-Mode
returns-in-Mode c = rw c.in-Mode.is c.set_mode.ensures

pub returns-in-Codespaces : goal.returns-in-Codespaces
returns-in-Codespaces c = rw c.in-Codespaces.is (declares_to_file _ _ (file_seen c.args.file.now) _ c.add_codespaces.result c.add_codespaces.ensures)

pub returns-in-Collection : goal.returns-in-Collection
returns-in-Collection c = rw c.in-Collection.is c.set_collection.ensures

pub returns-in-Base : goal.returns-in-Base
returns-in-Base c = rw c.in-Base.is c.add_use.ensures

pub returns-in-Name : goal.returns-in-Name
returns-in-Name c = rw c.in-Name.is c.set_name.ensures
