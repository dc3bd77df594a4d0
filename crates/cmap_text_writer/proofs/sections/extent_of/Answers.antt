use Rattle.std.proofs.Common.{◌≡◌, ◌∙◌, arith, sym, true≢false}
use Rattle.std.proofs.lemmas.List.{length-map}
use Rattle.std.proofs.lemmas.List.Elements.{All-map}
use Rattle.cmap_values.specs.DeclarationsSeen.{cid_entry_seen}
use Rattle.cmap_text_writer.proofs.Walked.{all_unseen}
use Rattle.cmap_text_writer.proofs.sections.extent_of.Goals as goal

pub returns-then-are_single : goal.returns-then-are_single
returns-then-are_single c =
    let es = c.args.entries.now in (
      omega (arith, length-map es cid_entry_seen, c.requires),
      All-map (λ e. e.start ≡ e.end) cid_entry_seen es (c.are_single.ensures.yes c.if-are_single.true),
    )

pub returns-else-are_single : goal.returns-else-are_single
returns-else-are_single c = λ all. true≢false (sym (c.are_single.ensures.no (all_unseen (λ e. e.start ≡ e.end) cid_entry_seen c.args.entries.now all)) ∙ c.if-are_single.false)
