use Rattle.std.proofs.Common.{None, ap, ◌-◌, refl, ◌∙◌}
use Rattle.std.specs.Prelude.{unwrap_or}
use Rattle.cmap_values.specs.CodeLengths.{length_of}
use Rattle.cmap_layers.specs.CodeStretches.{cid_after}
use Rattle.cmap_layers.specs.LayersSeen.{layers_seen}
use Rattle.cmap_layers.proofs.FirstDecided.{after_absent, ends_absent, first_cid}
use Rattle.cmap_layers.proofs.LayerStretches.{has_code_length}
use Rattle.cmap_layers.proofs.layers.Layers.cid_stretch.Goals as goal

pub returns-clause-cids : goal.returns-clause-cids
returns-clause-cids c =
    let len = length_of c.args.len in let first = c.args.first in let stretch = c.first_stretch.result in
    let layers = layers_seen c.as_slice.result.now in let same = c.as_slice.ensures.layers in
    rw (c.decided.ensures, ← same) record {
      cids = λ code from to.
          has_code_length layers code c.args.len ∙ first_cid layers code len ∙ ap (λ o. unwrap_or o None) (c.first_stretch.ensures.decided.said code from to)
          ∙ after_absent cid_after (λ k. refl) stretch.cids (code - first);
      longest = λ small. ends_absent _ stretch.cids (stretch.last - first) (c.first_stretch.ensures.longest small);
    }
