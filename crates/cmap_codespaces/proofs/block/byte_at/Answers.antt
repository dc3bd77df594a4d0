use Rattle.cmap_codespaces.proofs.BytesWithin.{byte_at-shifted}
use Rattle.cmap_codespaces.proofs.block.byte_at.Goals as goal

pub returns : goal.returns
returns c = byte_at-shifted c.args.number c.args.after
