use Rattle.std.proofs.Common.{List, sym, subst, arith}
use Rattle.cmap_codespaces.specs.CodesWithin.{IsLeast}
use Rattle.cmap_codespaces.proofs.SpacesFound.{only_item}
use Rattle.cmap_layers.specs.LayersSeen.{layers_seen}
use Rattle.cmap_layers.specs.StringCodes.{BeginsInside}
use Rattle.cmap_layers.specs.declared.layer.Layer.{Layer}
use Rattle.cmap_layers.proofs.CodesInside.{least_only}
use Rattle.cmap_layers.proofs.codespaces.shortest.Goals as goal

pub returns-in-len1 : goal.returns-in-len1
returns-in-len1 c =
    let layer = c.only-item.result in
    let is = only_item c.args.layers.now layer (omega (arith, c.in-len1.len_at_least, c.in-len1.len_below)) c.only-item.is in
    subst (λ (layers : List Layer). IsLeast (BeginsInside (layers_seen layers) c.args.text.now) c.shortest.result) (sym is) (least_only c.args.text.now layer c.shortest.result (λ k. omega (arith, c.type_inv.text k)) c.shortest.ensures)
