use Rattle.std.proofs.Common.{◌≡◌, ℕ, Some, None, ap, ◌+◌, ◌≤◌, drop, ◌∙◌, subst, sym, arith}
use Rattle.std.specs.Prelude.{option_and_then, option_map}
use Rattle.std.specs.Option.{option_copied}
use Rattle.std.proofs.lemmas.List.{drop_all}
use Rattle.cmap_runs.specs.Stretches.{IsStretch}
use Rattle.cmap_values.specs.DeclarationsSeen.{bf_entry_seen, bf_range_span}
use Rattle.cmap_layers.specs.CodeStretches.{HasNoText}
use Rattle.cmap_layers.specs.LayersDecide.{deciding_bf}
use Rattle.cmap_layers.specs.LayersSeen.{layer_seen, layers_seen}
use Rattle.cmap_layers.specs.Lookups.{bf_at, bf_of}
use Rattle.cmap_layers.proofs.LayerStretches.{found_text, passed_next, text_decided, texts_end}
use Rattle.cmap_layers.proofs.LayersSearched.{bf_of-deciding_bf, drop_next}
use Rattle.cmap_layers.proofs.layers.Layers.text_stretch.Goals as goal
use Rattle.cmap_layers.proofs.layers.Layers.text_stretch.Goals.{In-Some}

-- the declaration that a layer has decides, where none above it has one
decided : (c : In-Some) (code : ℕ) → c.args.first ≤ code → code ≤ c.min-last.result → deciding_bf (layers_seen c.as_slice-layers.result.now) code ≡ Some (bf_entry_seen c.in-Some.declaration.now)
decided c code le lt =
    let layers = layers_seen c.as_slice-layers.result.now in let below = layers_seen (drop (c.loop-layer.layer-index + 1) c.as_slice-layers.result.now) in
    let layer = layer_seen c.layer-item.result in let last = c.stretch-stretch.result.last in let d = c.in-Some.declaration.now in
    let next = ap layers_seen (drop_next c.as_slice-layers.result.now c.loop-layer.layer-index c.layer-item.result c.loop-layer-test.true c.layer-item.is) in
    let passed = c.loop-layer.invariant.passed code le (omega arith) ∙ ap (λ rest. deciding_bf rest code) next in
    let here = subst (λ o. IsStretch bf_range_span c.texts.result.now c.args.first last (option_copied o)) c.in-Some.is c.stretch-stretch.ensures.same in
    let found = found_text c.texts.result.now layer.lists.bfs c.args.first last code (Some d) c.texts.ensures here le (omega arith) in
    text_decided layers below layer code (option_map bf_entry_seen (Some d)) passed found

pub returns-in-Some-clause-texts : goal.returns-in-Some-clause-texts
returns-in-Some-clause-texts c =
    let layers = c.as_slice-layers.ensures.layers in
    record {
      decides = λ code le lt. ap (λ layers. deciding_bf layers code) (sym layers) ∙ decided c code le lt;
      texts = λ code le lt. ap (λ layers. bf_of layers code) (sym layers) ∙ bf_of-deciding_bf (layers_seen c.as_slice-layers.result.now) code ∙ ap (option_and_then (λ e. bf_at e code)) (decided c code le lt);
      longest = rw layers at (texts_end c.as_slice-layers.result.now c.loop-layer.layer-index c.layer-item.result c.texts.result.now c.args.first c.loop-layer.last c.stretch-stretch.result.last c.min-last.result
          c.loop-layer-test.true c.layer-item.is c.texts.ensures (omega (arith, c.min-last.ensures)) c.loop-layer.invariant.undecided c.loop-layer.invariant.longest c.stretch-stretch.ensures.longest);
    }

pub loop-layer-preserved : goal.loop-layer-preserved
loop-layer-preserved c = record {
  within = omega arith;
  longest = texts_end c.as_slice-layers.result.now c.loop-layer.layer-index c.layer-item.result c.texts.result.now c.args.first c.loop-layer.last c.stretch-stretch.result.last c.min-last.result
      c.loop-layer-test.true c.layer-item.is c.texts.ensures (omega (arith, c.min-last.ensures)) c.loop-layer.invariant.undecided c.loop-layer.invariant.longest c.stretch-stretch.ensures.longest;
  undecided =
      let layer = layer_seen c.layer-item.result in
      let none = subst (λ o. IsStretch bf_range_span c.texts.result.now c.args.first c.stretch-stretch.result.last (option_copied o)) c.in_default.is c.stretch-stretch.ensures.same in
      passed_next (HasNoText c.args.first) c.as_slice-layers.result.now c.loop-layer.layer-index c.layer-item.result c.loop-layer-test.true c.layer-item.is c.loop-layer.invariant.undecided
      (found_text c.texts.result.now layer.lists.bfs c.args.first c.stretch-stretch.result.last c.args.first None c.texts.ensures none (omega arith) (omega arith));
  passed = λ code le lt.
      let layers = layers_seen c.as_slice-layers.result.now in let below = layers_seen (drop (c.loop-layer.layer-index + 1) c.as_slice-layers.result.now) in
      let layer = layer_seen c.layer-item.result in let last = c.stretch-stretch.result.last in
      let next = ap layers_seen (drop_next c.as_slice-layers.result.now c.loop-layer.layer-index c.layer-item.result c.loop-layer-test.true c.layer-item.is) in
      let passed = c.loop-layer.invariant.passed code le (omega arith) ∙ ap (λ rest. deciding_bf rest code) next in
      let none = subst (λ o. IsStretch bf_range_span c.texts.result.now c.args.first last (option_copied o)) c.in_default.is c.stretch-stretch.ensures.same in
      let missed = found_text c.texts.result.now layer.lists.bfs c.args.first last code None c.texts.ensures none le (omega arith) in
      text_decided layers below layer code None passed missed;
}

pub returns-clause-texts : goal.returns-clause-texts
returns-clause-texts c =
    let layers = c.as_slice-layers.result.now in let same = c.as_slice-layers.ensures.layers in
    let none_left = λ (code : ℕ). ap (λ rest. deciding_bf (layers_seen rest) code) (drop_all c.loop-layer.layer-index layers (omega arith)) in
    record {
      decides = λ code le lt. ap (λ layers. deciding_bf layers code) (sym same) ∙ c.loop-layer.invariant.passed code le lt ∙ none_left code;
      texts = λ code le lt. ap (λ layers. bf_of layers code) (sym same) ∙ bf_of-deciding_bf (layers_seen layers) code ∙ ap (option_and_then (λ e. bf_at e code)) (c.loop-layer.invariant.passed code le lt ∙ none_left code);
      longest = rw same at c.loop-layer.invariant.longest;
    }
