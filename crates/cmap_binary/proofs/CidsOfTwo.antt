-- Declarations of CIDs for codes of two bytes, added to their list.
use Rattle.std.proofs.Common.{◌≡◌, ◌++◌, [], ◌∷◌, append-nil, refl, map}
use Rattle.std.proofs.lemmas.List.{map-append}
use Rattle.std.specs.Global.{Vec}
use Rattle.cmap_values.specs.DeclarationsSeen.{bf_entry_seen, cid_entry_seen, codespace_seen, entries_seen, lists_seen}
use Rattle.cmap_values.specs.Files.{cid, lists_of}
use Rattle.cmap_values.specs.ListsAppended.{append_lists}
use Rattle.cmap_values.specs.declared.declarations.CidRange.{CidRange}
use Rattle.cmap_values.specs.declared.declarations.Lists.{Lists}
use Rattle.cmap_binary.specs.BinarySeen.{with_cids_of_two}

-- one more at the end of the list
pub cid_added : (old new : Vec CidRange) (range : CidRange) (others : Lists) → new.items ≡ old.items ++ range ∷ []
    → lists_seen (with_cids_of_two new others) ≡ append_lists (lists_seen (with_cids_of_two old others)) (lists_of (cid 2 (cid_entry_seen range) ∷ []))
cid_added old new range others is =
    let two : entries_seen new.items ≡ entries_seen old.items ++ cid_entry_seen range ∷ [] = rw is (map-append cid_entry_seen old.items (range ∷ [])) in
    rw (
      two,
      append-nil (entries_seen others.cids.one.items),
      append-nil (entries_seen others.cids.three.items),
      append-nil (entries_seen others.cids.four.items),
      append-nil (entries_seen others.notdefs.one.items),
      append-nil (entries_seen others.notdefs.two.items),
      append-nil (entries_seen others.notdefs.three.items),
      append-nil (entries_seen others.notdefs.four.items),
      append-nil (map bf_entry_seen others.bfs.items),
      append-nil (map codespace_seen others.spaces.items),
    ) refl
