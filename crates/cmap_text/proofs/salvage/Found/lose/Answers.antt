use Rattle.std.proofs.Common.{◌∙◌, refl, sym, ap}
use Rattle.std.specs.Prelude.{map}
use Rattle.std.proofs.lemmas.List.{take-map}
use Rattle.cmap_values.specs.DeclarationsSeen.{bf_entry_seen}
use Rattle.cmap_text.proofs.salvage.Found.lose.Goals as goal

pub returns : goal.returns
returns c = rw (ap (map bf_entry_seen) c.truncate.ensures.items ∙ sym (take-map bf_entry_seen c.args.list.kept c.args.self.now.said.lists.bfs.items)) refl
