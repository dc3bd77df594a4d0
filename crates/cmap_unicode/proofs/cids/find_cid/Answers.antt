use Rattle.std.proofs.Common.{sym, ap, ◌∙◌}
use Rattle.std.specs.Prelude.{option_map}
use Rattle.cmap_values.specs.DeclarationsSeen.{cid_entry_seen}
use Rattle.cmap_layers.specs.Lookups.{cid_span}
use Rattle.cmap_layers.proofs.LastFound.{last_of-map}
use Rattle.cmap_unicode.proofs.cids.find_cid.Goals as goal

pub returns-clause-found : goal.returns-clause-found
returns-clause-found c = ap (option_map cid_entry_seen) c.find.ensures.found ∙ sym (last_of-map cid_span cid_entry_seen c.args.cids.now c.args.code)
