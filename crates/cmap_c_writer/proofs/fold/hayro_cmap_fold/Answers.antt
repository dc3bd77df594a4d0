use Rattle.cmap_c_writer.proofs.StringsPut.{folded_put}
use Rattle.cmap_c_writer.proofs.fold.hayro_cmap_fold.Goals as goal

pub returns : goal.returns
returns c = folded_put c.args.text.now c.folded.result _ _ _ _ _ _ _ c.folded.ensures c.put_string.ensures
