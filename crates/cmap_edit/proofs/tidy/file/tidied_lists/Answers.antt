use Rattle.std.proofs.Common.{ℕ, rules}
use Rattle.cmap_values.specs.DeclarationsSeen.{by_length_seen}
use Rattle.cmap_values.specs.Files.{of_length}
use Rattle.cmap_edit.specs.Kinds.{AreTidiedOf, cid_kind, notdef_kind}
use Rattle.cmap_edit.proofs.EachLength.{notdefs_tidied}
use Rattle.cmap_edit.proofs.tidy.file.tidied_lists.Goals as goal

pub returns : goal.returns
returns c =
    let lists = c.args.lists.now in
    let cids : (len : ℕ) → AreTidiedOf cid_kind (of_length (by_length_seen lists.cids) len) (of_length (by_length_seen c.in_ok-cids.cids) len) = search rules in
    let notdefs : (len : ℕ) → AreTidiedOf notdef_kind (of_length (by_length_seen lists.notdefs) len) (of_length (by_length_seen c.in_ok-cids.notdefs) len) = search rules in
    record { cids = cids; notdefs = λ len. notdefs_tidied _ _ (notdefs len); texts = search rules; spaces = search rules }
