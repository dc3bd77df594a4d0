use Rattle.std.proofs.Common.{sym, ap, ◌∙◌, subst}
use Rattle.std.specs.Prelude.{is_some, option_map}
use Rattle.cmap_runs.specs.SearchLooks.{LooksAtMost}
use Rattle.cmap_values.specs.DeclarationsSeen.{cid_entry_seen}
use Rattle.cmap_layers.specs.Lookups.{cid_span}
use Rattle.cmap_layers.specs.Searches.{search_looks}
use Rattle.cmap_layers.proofs.LastFound.{last_of-map, spans-map}
use Rattle.cmap_layers.proofs.lookup.find_cid.Goals as goal

pub returns-clause-found : goal.returns-clause-found
returns-clause-found c = ap (option_map cid_entry_seen) c.find.ensures.found ∙ sym (last_of-map cid_span cid_entry_seen c.args.cids.now c.args.code)

pub returns-clause-looks : goal.returns-clause-looks
returns-clause-looks c = subst (λ spans. LooksAtMost c.args.looks.now c.find.new.looks (search_looks spans) 1 (is_some c.find.result)) (sym (spans-map cid_span cid_entry_seen c.args.cids.now)) c.find.ensures.looks
