use Rattle.std.proofs.Common.{sym}
use Rattle.cmap_values.proofs.OneName.{IsNameOf-own_text}
use Rattle.cmap_values.proofs.names.CMapName.to_bytes.Goals as goal

pub returns-clause-known : goal.returns-clause-known
returns-clause-known c some = IsNameOf-own_text _ _ (sym c.text.ensures) some
