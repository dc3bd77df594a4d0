use Rattle.std.proofs.Common.{◌≡◌, ℕ, None, ap, ◌+◌, ◌-◌, ◌<◌, ◌≤◌, ◌^◌, inl, inr, sym, ◌∙◌, arith}
use Rattle.std.specs.Prelude.{◌⊎◌, IsSomeAnd, option_map}
use Rattle.std.proofs.lemmas.List.{drop_all}
use Rattle.cmap_values.specs.CodeLengths.{length_of}
use Rattle.cmap_layers.specs.CodeStretches.{EndsCids, HoldsBelow}
use Rattle.cmap_layers.specs.FirstDecided.{IsUndecided, first_of}
use Rattle.cmap_layers.specs.LayersSeen.{layer_seen, layers_seen}
use Rattle.cmap_layers.proofs.FirstDecided.{found, none_cids, passed_over, some_cids}
use Rattle.cmap_layers.proofs.LayerStretches.{at_layer, at_lesser, no_cids, passed_next}
use Rattle.cmap_layers.proofs.stretches.first_stretch.Goals as goal

pub loop-layer-preserved : goal.loop-layer-preserved
loop-layer-preserved g c =
    let decision = g.D.Deciding.decision in let len = length_of c.args.len in let first = c.args.first in
    let layers = c.args.layers.now in let k = c.loop-layer.layer-index in let layer = c.layer-item.result in let here = c.stretch-stretch.result.last in
    let none = none_cids c.stretch-stretch.result.cids c.if-is_some.ensures in
    let said : (code : ℕ) → first ≤ code → code ≤ here → decision.decided (layer_seen layer) code len ≡ None =
    λ code from to. c.stretch-stretch.ensures.decided.said code from to ∙ ap (option_map (λ these. decision.said these (code - first))) none in
    record {
      within = let within = c.stretch-stretch.ensures.decided.within in omega arith;
      undecided = passed_next (IsUndecided decision len first) layers k layer c.loop-layer-test.true c.layer-item.is c.loop-layer.invariant.undecided (said first (omega arith) c.stretch-stretch.ensures.decided.within);
      longest =
          let ends = λ (small : here + 1 < 2 ^ 32). no_cids (decision.Ends len first here (layer_seen layer)) (λ these. EndsCids these (here - first)) (rw none at c.stretch-stretch.ensures.longest small) in
          at_lesser (λ last. HoldsBelow (IsUndecided decision len first) (decision.Ends len first last) (layers_seen layers)) c.loop-layer.last here c.min-last.result (omega (arith, c.min-last.ensures)) c.loop-layer.invariant.longest
          (λ small. at_layer (IsUndecided decision len first) (decision.Ends len first here) layers k layer c.loop-layer-test.true c.layer-item.is c.loop-layer.invariant.undecided (ends small));
      passed = λ code from to.
          c.loop-layer.invariant.passed code from (omega arith)
          ∙ passed_over (λ layer. decision.decided layer code len) layers k layer c.loop-layer-test.true c.layer-item.is (said code from (omega arith));
    }

pub returns-then-is_some : goal.returns-then-is_some
returns-then-is_some g c =
    let decision = g.D.Deciding.decision in let len = length_of c.args.len in let first = c.args.first in
    let layers = c.args.layers.now in let k = c.loop-layer.layer-index in let layer = c.layer-item.result in
    let cids = c.stretch-stretch.result.cids in let here = c.stretch-stretch.result.last in let at = c.stretch-stretch.ensures.decided in
    let (these, some) = some_cids cids c.if-is_some.ensures in
    let ends = λ (last : ℕ). HoldsBelow (IsUndecided decision len first) (decision.Ends len first last) (layers_seen layers) ⊎ IsSomeAnd cids (λ these. EndsCids these (last - first)) in
    let in_layer : here + 1 < 2 ^ 32 → ends here = λ small.
    elim (c.stretch-stretch.ensures.longest small) [
      | inl is ↦ inl (at_layer (IsUndecided decision len first) (decision.Ends len first here) layers k layer c.loop-layer-test.true c.layer-item.is c.loop-layer.invariant.undecided is)
      | inr is ↦ inr is
    ] in
    record {
      decided = record {
        within = let within = at.within in omega arith;
        said = λ code from to.
            let said = at.said code from (omega arith) in let all = option_map (λ these. decision.said these (code - first)) in
            c.loop-layer.invariant.passed code from (omega arith)
            ∙ found (λ layer. decision.decided layer code len) layers k layer c.loop-layer-test.true c.layer-item.is (decision.said these (code - first)) (said ∙ ap all some)
            ∙ sym (ap all some);
        fit = λ code from to. at.fit code from (omega arith);
      };
      longest = at_lesser ends c.loop-layer.last here c.min-last.result (omega (arith, c.min-last.ensures)) (λ small. inl (c.loop-layer.invariant.longest small)) in_layer;
    }

pub returns : goal.returns
returns g c = record {
  decided = record {
    within = c.loop-layer.invariant.within;
    said = λ code from to.
        let decided = first_of (λ layer. g.D.Deciding.decision.decided layer code (length_of c.args.len)) in
        c.loop-layer.invariant.passed code from to ∙ ap (λ rest. decided (layers_seen rest)) (drop_all c.loop-layer.layer-index c.args.layers.now (omega arith));
    fit = λ code from to. tt;
  };
  longest = λ small. inl (c.loop-layer.invariant.longest small);
}
