use Rattle.std.proofs.Common.{None, ap, ◌-◌, refl, ◌∙◌, arith}
use Rattle.std.specs.Prelude.{unwrap_or}
use Rattle.cmap_values.specs.CodeLengths.{length_of}
use Rattle.cmap_layers.specs.LayersSeen.{layers_seen}
use Rattle.cmap_layers.proofs.FirstDecided.{after_absent, ends_absent}
use Rattle.cmap_unicode.specs.Given.{given_after}
use Rattle.cmap_unicode.proofs.DeclaredStretches.{absent_fit, declared_cids, first_given}
use Rattle.cmap_unicode.proofs.cids.stretch_of_layers.Goals as goal

pub returns : goal.returns
returns c =
    let first = c.args.first in let layers = layers_seen c.args.layers.now in
    let stretch = c.first_stretch.result in let decided = c.first_stretch.ensures.decided in
    rw c.decided.ensures
    (declared_cids layers c.args.len first _ decided.within
    (λ code from to. first_given layers code (length_of c.args.len) ∙ ap (λ o. unwrap_or o None) (decided.said code from to) ∙ after_absent given_after (λ k. refl) stretch.cids (code - first))
    (absent_fit stretch.cids (stretch.last - first) (decided.fit stretch.last decided.within (omega arith)))
    (λ small. ends_absent _ stretch.cids (stretch.last - first) (c.first_stretch.ensures.longest small)))
