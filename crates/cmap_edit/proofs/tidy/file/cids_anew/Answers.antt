use Rattle.std.proofs.Common.{subst}
use Rattle.cmap_values.specs.DeclarationsSeen.{by_length_seen, entries_seen}
use Rattle.cmap_edit.specs.Kinds.{AreTidiedOf}
use Rattle.cmap_edit.proofs.EachLength.{each_length, none_anew}
use Rattle.cmap_edit.proofs.tidy.file.cids_anew.Goals as goal

pub returns : goal.returns
returns g c =
    each_length (AreTidiedOf g.K.Counting.kind) (by_length_seen c.args.lists.now) (by_length_seen (record { one = c.in_ok-tidied_cids.field-0; two = c.in_ok-tidied_cids-2.field-0; three = c.in_ok-tidied_cids-3.field-0; four = c.in_ok-tidied_cids-4.field-0 }))
    (subst (λ l. AreTidiedOf g.K.Counting.kind (entries_seen l) (entries_seen c.in_ok-tidied_cids.field-0.items)) c.as_slice.ensures.value c.in_ok-tidied_cids.ensures)
    (subst (λ l. AreTidiedOf g.K.Counting.kind (entries_seen l) (entries_seen c.in_ok-tidied_cids-2.field-0.items)) c.as_slice-2.ensures.value c.in_ok-tidied_cids-2.ensures)
    (subst (λ l. AreTidiedOf g.K.Counting.kind (entries_seen l) (entries_seen c.in_ok-tidied_cids-3.field-0.items)) c.as_slice-3.ensures.value c.in_ok-tidied_cids-3.ensures)
    (subst (λ l. AreTidiedOf g.K.Counting.kind (entries_seen l) (entries_seen c.in_ok-tidied_cids-4.field-0.items)) c.as_slice-4.ensures.value c.in_ok-tidied_cids-4.ensures)
    (none_anew g.K.Counting.kind)
