use Rattle.cmap_codespaces.proofs.BytesWithin.{byte_at-shifted}
use Rattle.cmap_encode.proofs.outside.byte_of.Goals as goal

pub returns : goal.returns
returns c = byte_at-shifted c.args.number c.args.place
