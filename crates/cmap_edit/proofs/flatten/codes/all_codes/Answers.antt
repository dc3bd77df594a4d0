use Rattle.cmap_edit.proofs.LengthsTried.{all_chosen}
use Rattle.cmap_edit.proofs.flatten.codes.all_codes.Goals as goal

pub returns : goal.returns
returns c = all_chosen
