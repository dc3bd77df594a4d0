use Rattle.std.proofs.Common.{◌∙◌, refl, sym, ap, Err, take}
use Rattle.std.specs.Prelude.{map}
use Rattle.std.proofs.lemmas.List.{length-map}
use Rattle.std.proofs.lemmas.List.{take-map}
use Rattle.cmap_values.specs.DeclarationsSeen.{bf_entry_seen, lists_seen}
use Rattle.cmap_values.specs.declared.fault.Fault.TheVariants.{Memory}
use Rattle.cmap_text.proofs.Refusals.{none_refused}
use Rattle.cmap_text.proofs.TokenParsers.{err-ok}
use Rattle.cmap_text.proofs.TextsAdded.{cut_back}
use Rattle.cmap_text.proofs.entries.add_list.Goals as goal

pub returns-in-Err-Refused-clause-stays : goal.returns-in-Err-Refused-clause-stays
returns-in-Err-Refused-clause-stays c = λ wrong is.
    let (more, texts) = c.in-Err-Refused.ensures.texts c.in-Err-Refused.wrong (ap Err c.in-Err-Refused.field-0-is) in
    let kept = ap (map bf_entry_seen) c.truncate.ensures.items in
    cut_back (lists_seen c.args.lists.now) (lists_seen c.add_destinations.new.lists) more _ texts (kept ∙ sym (take-map bf_entry_seen c.len-count.result _) ∙ ap (λ n. take n (map bf_entry_seen c.add_destinations.new.lists.bfs.items)) (c.len-count.ensures ∙ c.args.lists.now.bfs.ok.0 ∙ sym (length-map _ bf_entry_seen)))

pub returns-in-Ok : goal.returns-in-Ok
returns-in-Ok c = record {
  adds = (c.in-Ok.ensures.adds.0, tt);
  stays = λ wrong is. absurd (err-ok _ _ (sym is));
}

pub returns-in-Err-Memory : goal.returns-in-Err-Memory
returns-in-Err-Memory c = record {
  adds = (tt, tt);
  stays = none_refused {T = Unit {0}} (Err Memory) _ refl;
}

pub returns-in-Err-Refused-clause-adds : goal.returns-in-Err-Refused-clause-adds
returns-in-Err-Refused-clause-adds c =
    (tt, rw c.in-Err-Refused.field-0-is at c.in-Err-Refused.ensures.adds.1)
