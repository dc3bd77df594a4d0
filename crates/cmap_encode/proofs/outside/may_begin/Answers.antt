use Rattle.std.proofs.Common.{rules}
use borrow.Author.Tests.{tests}
use Rattle.std.specs.Prelude.{Any}
use Rattle.std.proofs.lemmas.Iterator.{YieldsList-from_slice, cases_from_any}
use Rattle.cmap_values.specs.CodeLengths.{length_of}
use Rattle.cmap_layers.specs.Layers as layers
use Rattle.cmap_layers.specs.LayersSeen.{layer_seen}
use Rattle.cmap_layers.specs.declared.layer.Layer.{Layer}
use Rattle.cmap_layers.proofs.BytesWithin.{any_seen}
use Rattle.cmap_encode.specs.Outside.{BeginsSo}
use Rattle.cmap_encode.proofs.outside.may_begin.Goals as goal

pub returns : goal.returns
returns c =
    let len = length_of c.args.code.len in
    let Begins = λ (layer : layers.Layer). Any (BeginsSo len c.args.code.number c.args.after) layer.lists.spaces in
    let Seen = λ (layer : Layer). Begins (layer_seen layer) in
    let answer = cases_from_any _ _ _ Seen (λ layer. Seen layer → ⊥) c.any.ensures.ran (YieldsList-from_slice c.as_slice.result.now cc) (λ x q k. search (rules, tests)) (λ x q k. search (rules, tests)) in
    rw c.as_slice.ensures.layers at (any_seen layer_seen Begins c.as_slice.result.now c.any.result answer)
