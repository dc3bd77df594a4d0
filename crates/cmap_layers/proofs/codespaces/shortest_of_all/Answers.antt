use Rattle.std.proofs.Common.{◌≡◌, ◌+◌, length, sym, subst, refl, arith}
use Rattle.std.proofs.lemmas.Option.{slice_get_read}
use Rattle.cmap_codespaces.specs.CodesWithin.{IsLeast}
use Rattle.cmap_layers.proofs.CodesInside.{IsInsideFirst, least_inside, least_layer}
use Rattle.cmap_layers.proofs.codespaces.shortest_of_all.Goals as goal

pub loop-layer-preserved : goal.loop-layer-preserved
loop-layer-preserved c =
    let layers = c.args.layers.now in let at = c.loop-layer.layer-index in
    subst (IsLeast (IsInsideFirst c.args.text.now layers (at + 1))) (sym c.lesser-shortest.ensures)
    (least_layer c.args.text.now layers at c.layer-item.result c.loop-layer.shortest c.shortest.result (slice_get_read layers _ at _ refl (omega arith) c.layer-item.is) c.loop-layer.invariant c.shortest.ensures)

pub returns : goal.returns
returns c =
    let end : c.loop-layer.layer-index ≡ length c.args.layers.now = omega arith in
    least_inside c.args.text.now c.args.layers.now c.loop-layer.shortest (λ k. omega (arith, c.type_inv.text k)) (subst (λ n. IsLeast (IsInsideFirst c.args.text.now c.args.layers.now n) c.loop-layer.shortest) end c.loop-layer.invariant)
