use Rattle.std.proofs.Common.{List, subst, arith}
use Rattle.std.specs.Prelude.{Any}
use Rattle.cmap_codespaces.specs.CodesWithin.{IsWithin}
use Rattle.cmap_layers.specs.Layers as layers
use Rattle.cmap_layers.specs.LayersSeen.{layer_seen}
use Rattle.cmap_layers.specs.declared.layer.Layer.{Layer}
use Rattle.cmap_values.specs.CodeLengths.{length_of}
use Rattle.cmap_values.specs.Files.{Codespace}
use Rattle.cmap_encode.specs.Outside.{IsInside}
use Rattle.cmap_encode.proofs.WholeCodes.{any_at}
use Rattle.cmap_encode.proofs.whole.inside_until.Goals as goal

pub returns-then-code-last-clause-inside : goal.returns-then-code-last-clause-inside
returns-then-code-last-clause-inside c = λ number from to.
    let len = length_of c.args.code.len in
    let Here = λ (spaces : List Codespace). Any (λ space. IsWithin space number len) spaces in
    let here = subst Here c.codespaces.ensures (c.last_in-last.ensures.inside number from to) in
    let found = subst (λ (layer : Layer). Here (layer_seen layer).lists.spaces) c.layer-item.is here in
    subst (λ all. IsInside all len number) c.as_slice-layer-items.ensures.layers (any_at layer_seen (λ (layer : layers.Layer). Here layer.lists.spaces) c.as_slice-layer-items.result.now c.loop-layer.layer-index c.layer-item.result (omega arith) found)
