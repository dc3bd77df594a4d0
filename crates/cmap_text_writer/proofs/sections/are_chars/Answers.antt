use Rattle.std.proofs.Common.{◌≡◌}
use Rattle.std.proofs.lemmas.List.Elements.{All-map}
use Rattle.cmap_values.specs.DeclarationsSeen.{bf_entry_seen}
use Rattle.cmap_text_writer.proofs.Walked.{all_unseen}
use Rattle.cmap_text_writer.proofs.sections.are_chars.Goals as goal

pub returns-then-count-entries-clause-yes : goal.returns-then-count-entries-clause-yes
returns-then-count-entries-clause-yes c = λ is. All-map (λ e. e.start ≡ e.end) bf_entry_seen c.args.entries.now (c.are_single.ensures.yes is)

pub returns-then-count-entries-clause-no : goal.returns-then-count-entries-clause-no
returns-then-count-entries-clause-no c = λ same all. c.are_single.ensures.no (all_unseen (λ e. e.start ≡ e.end) bf_entry_seen c.args.entries.now all)
