use Rattle.cmap_binary.specs.BundleSeen.{tables_seen}
use Rattle.cmap_load.proofs.FilesMeant.{binary_decided, binary_first, reads_binary, reads_text, text_decided, text_first}
use Rattle.cmap_load.proofs.chain.read_file.Goals.{in_default-via-in-Some+else-is_marked_binary, in_default-via-in_default}
use Rattle.cmap_load.proofs.chain.read_file.Goals as goal

pub returns-in-Some : goal.returns-in-Some
returns-in-Some c =
    let marked = c.is_marked_binary.ensures.0 c.if-is_marked_binary.true in
    record {
      reads = rw c.in-Some.is (reads_binary _ _ _ marked c.read_binary.ensures.file);
      decided = rw c.in-Some.is (binary_decided (tables_seen c.in-Some.bundle.now.tables) _ _ marked);
      place = rw c.in-Some.is (binary_first _ _ _ marked c.read_binary.ensures.place);
    }

pub returns-in_default : goal.returns-in_default
returns-in_default c = record {
  reads = elim c.in_default.branch [
    | in_default-via-in-Some+else-is_marked_binary w ↦ rw w.in-Some.is (reads_text _ _ _ (λ marked. let is = w.if-is_marked_binary.ensures.1 marked in cc) c.read_text.ensures.file)
    | in_default-via-in_default w ↦ rw w.in_default.is c.read_text.ensures.file
  ];
  decided = text_decided _ _ _ c.read_text.ensures.decided;
  place = elim c.in_default.branch [
    | in_default-via-in-Some+else-is_marked_binary w ↦ rw w.in-Some.is (text_first _ _ _ (λ marked. let is = w.if-is_marked_binary.ensures.1 marked in cc) c.read_text.ensures.place)
    | in_default-via-in_default w ↦ rw w.in_default.is c.read_text.ensures.place
  ];
}
