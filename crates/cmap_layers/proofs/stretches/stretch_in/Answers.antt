use Rattle.std.proofs.Common.{◌≡◌, ◌-◌, false, Option, Some, None, inl, inr, map, refl, sym, ◌∙◌, subst, arith}
use Rattle.std.specs.Prelude.{◌⊎◌, IsSomeAnd, is_some}
use Rattle.cmap_runs.specs.Stretches.{IsLongest}
use Rattle.cmap_values.specs.CodeLengths.{length_of}
use Rattle.cmap_values.specs.Files.{of_length}
use Rattle.cmap_layers.specs.CodeStretches.{AreDeclaredBy, DeclarationsEnd, EndsAfter, EndsCids, EndsRow}
use Rattle.cmap_layers.specs.LayersSeen.{layer_seen}
use Rattle.cmap_layers.specs.Lookups.{bf_span, last_cid}
use Rattle.cmap_layers.proofs.LayerStretches.{at_lesser, declarations_end, no_cids}
use Rattle.cmap_layers.proofs.stretches.stretch_in.Goals as goal

none_of : {X : Type 0} (found : Option X) → is_some found ≡ false → found ≡ None
none_of None is = refl
none_of (Some x) is = absurd cc

pub returns-clause-longest : goal.returns-clause-longest
returns-clause-longest c = λ small.
    let first = c.args.first in let layer = layer_seen c.args.layer.now in let len = length_of c.args.len in
    let declared = c.declared_stretch_in-declared.result.last in let characters = c.characters_in-characters.result.last in
    let none = none_of c.declared_stretch_in-declared.result.cids (sym c.is_some.ensures ∙ c.if-is_some.false) in
    let missed = subst (λ cids. AreDeclaredBy cids (first - first) first (last_cid (of_length layer.lists.cids len) first) (last_cid (of_length layer.lists.notdefs len) first)) none
    (c.declared_stretch_in-declared.ensures.cids first (omega arith) c.declared_stretch_in-declared.ensures.within) in
    let texts : IsLongest (map bf_span layer.lists.bfs) first characters ⊎ EndsRow layer.lists.bfs characters = rw c.texts.ensures at c.characters_in-characters.ensures.ends in
    inl (at_lesser (λ last. EndsAfter len first last layer) declared characters c.min.result (omega (arith, c.min.ensures))
    (λ small. declarations_end len first declared layer (no_cids _ (λ these. EndsCids these (declared - first))
    (subst (λ cids. DeclarationsEnd len first declared layer ⊎ IsSomeAnd cids (λ these. EndsCids these (declared - first))) none (c.declared_stretch_in-declared.ensures.longest small))))
    (λ _. inr (missed.0, inr (missed.1, texts))) small)
