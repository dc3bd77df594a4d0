use Rattle.cmap_values.proofs.OneName.{index-variant}
use Rattle.cmap_values.proofs.names.known_name.Goals as goal

pub returns : goal.returns
returns c = index-variant c.args.at _ c.requires
