use Rattle.std.proofs.Common.{◌-◌, Some, None, inl, inr, map, subst, sym, arith}
use Rattle.std.specs.Option.{option_copied}
use Rattle.cmap_runs.specs.Stretches.{IsLongest, IsStretch}
use Rattle.cmap_values.specs.CodeLengths.{length_of}
use Rattle.cmap_values.specs.DeclarationsSeen.{cid_range_span}
use Rattle.cmap_values.specs.Files.{of_length}
use Rattle.cmap_layers.specs.CodeStretches.{AreDeclaredBy, DeclarationsEnd}
use Rattle.cmap_layers.specs.LayersSeen.{layer_seen}
use Rattle.cmap_layers.specs.Lookups.{cid_span, last_cid}
use Rattle.cmap_layers.proofs.LayerStretches.{at_lesser, found_in, longest_cids, notdef_declared}
use Rattle.cmap_layers.proofs.stretches.declared_stretch_in.Goals as goal

pub returns-in-Some-clause-cids : goal.returns-in-Some-clause-cids
returns-in-Some-clause-cids c = λ code le lt.
    let first = c.args.first in let layer = layer_seen c.args.layer.now in let len = length_of c.args.len in
    let table = c.cids.result.now in let last = c.stretch-cids.result.last in let d = c.in-Some.declaration.now in
    let here = subst (λ o. IsStretch cid_range_span table first last (option_copied o)) c.in-Some.is c.stretch-cids.ensures.same in
    let found = found_in table (of_length layer.lists.cids len) first last code (Some d) c.cids.ensures here le (omega (arith, lt, c.declared_cids.ensures.within)) in
    let notdef = last_cid (of_length layer.lists.notdefs len) code in
    subst (λ o. AreDeclaredBy c.declared_cids.result.cids (code - first) code o notdef) (sym found) (c.declared_cids.ensures.cids code notdef le lt)

pub returns-clause-cids : goal.returns-clause-cids
returns-clause-cids c = λ code le lt.
    let first = c.args.first in let layer = layer_seen c.args.layer.now in let len = length_of c.args.len in
    let none = subst (λ o. IsStretch cid_range_span c.cids.result.now first c.stretch-cids.result.last (option_copied o)) c.in_default.is c.stretch-cids.ensures.same in
    let missed = found_in c.cids.result.now (of_length layer.lists.cids len) first c.stretch-cids.result.last code None c.cids.ensures none le (omega arith) in
    let notdef = option_copied c.stretch-notdefs.result.declaration in
    let found = found_in c.notdefs.result.now (of_length layer.lists.notdefs len) first c.stretch-notdefs.result.last code notdef c.notdefs.ensures c.stretch-notdefs.ensures.same le (omega arith) in
    subst (λ cids. AreDeclaredBy cids (code - first) code (last_cid (of_length layer.lists.cids len) code) (last_cid (of_length layer.lists.notdefs len) code)) (sym c.same_cid.ensures)
    (notdef_declared (code - first) code notdef _ _ missed found)

pub returns-in-Some-clause-longest : goal.returns-in-Some-clause-longest
returns-in-Some-clause-longest c = λ small.
    let first = c.args.first in let layer = layer_seen c.args.layer.now in let len = length_of c.args.len in
    elim c.declared_cids.ensures.ends [
      | inl same ↦ inl (inl (subst (IsLongest (map cid_span (of_length layer.lists.cids len)) first) (sym same)
          (longest_cids c.cids.result.now (of_length layer.lists.cids len) first c.stretch-cids.result.last c.cids.ensures c.stretch-cids.ensures.longest)))
      | inr ends ↦ inr ends
    ]

pub returns-clause-longest : goal.returns-clause-longest
returns-clause-longest c = λ small.
    let first = c.args.first in let layer = layer_seen c.args.layer.now in let len = length_of c.args.len in
    let none = subst (λ o. IsStretch cid_range_span c.cids.result.now first c.stretch-cids.result.last (option_copied o)) c.in_default.is c.stretch-cids.ensures.same in
    let missed = found_in c.cids.result.now (of_length layer.lists.cids len) first c.stretch-cids.result.last first None c.cids.ensures none (omega arith) (omega arith) in
    inl (at_lesser (λ last. DeclarationsEnd len first last layer) c.stretch-cids.result.last c.stretch-notdefs.result.last c.min.result (omega (arith, c.min.ensures))
    (λ _. inl (longest_cids c.cids.result.now (of_length layer.lists.cids len) first c.stretch-cids.result.last c.cids.ensures c.stretch-cids.ensures.longest))
    (λ _. inr (missed, longest_cids c.notdefs.result.now (of_length layer.lists.notdefs len) first c.stretch-notdefs.result.last c.notdefs.ensures c.stretch-notdefs.ensures.longest)) small)
