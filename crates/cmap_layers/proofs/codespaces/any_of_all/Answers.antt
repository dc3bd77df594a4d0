use Rattle.std.proofs.Common.{rules}
use borrow.Author.Tests.{tests}
use Rattle.std.specs.Prelude.{Any}
use Rattle.std.proofs.lemmas.Iterator.{YieldsList-from_slice, cases_from_any}
use Rattle.cmap_codespaces.specs.SpaceBits.{InRows}
use Rattle.cmap_layers.specs.Layers as layers
use Rattle.cmap_layers.specs.LayersSeen.{layer_seen}
use Rattle.cmap_layers.specs.declared.layer.Layer.{Layer}
use Rattle.cmap_layers.proofs.BytesWithin.{any_seen}
use Rattle.cmap_layers.proofs.codespaces.any_of_all.Goals as goal

pub returns : goal.returns
returns c =
    let HasOne = λ (layer : layers.Layer). Any (InRows c.args.query.now) layer.lists.spaces in
    let HasSeen = λ (layer : Layer). HasOne (layer_seen layer) in
    let answer = cases_from_any _ _ _ HasSeen (λ layer. HasSeen layer → ⊥) c.any.ensures.ran (YieldsList-from_slice c.args.layers.now cc) (λ x q k. search (rules, tests)) (λ x q k. search (rules, tests)) in
    any_seen layer_seen HasOne c.args.layers.now c.any.result answer
