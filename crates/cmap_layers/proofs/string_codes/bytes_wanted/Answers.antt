use Rattle.std.proofs.Common.{◌≡◌, ◌+◌, ◌-◌, refl, subst, inl, inr, arith}
use Rattle.cmap_layers.specs.LayersSeen.{layers_seen}
use Rattle.cmap_layers.specs.StringCodes.{ranges_of}
use Rattle.cmap_layers.proofs.BestMatch.{MatchAtMost, all_at_most, best_with_front, fewer_match, no_ranges}
use Rattle.cmap_layers.proofs.string_codes.bytes_wanted.Goals as goal

pub loop-fewer-init : goal.loop-fewer-init
loop-fewer-init c = all_at_most c.args.layers.now c.args.text.now c.min-most.result (omega (arith, c.min-most.ensures)) (λ k. omega (arith, c.type_inv.text k)) c.requires

pub returns-in-Some-clause-wanted : goal.returns-in-Some-clause-wanted
returns-in-Some-clause-wanted c =
    let most = c.min-most.result in let fewer = c.loop-fewer.fewer in
    inl (most - fewer, best_with_front (ranges_of (layers_seen c.args.layers.now)) c.args.text.now fewer most (most - fewer) c.in-Some.byte_len (omega arith) (omega (arith, c.min-most.ensures)) c.loop-fewer.invariant c.in-Some.ensures)

pub returns-clause-wanted : goal.returns-clause-wanted
returns-clause-wanted c =
    let end : c.loop-fewer.fewer ≡ c.min-most.result + 1 = omega arith in
    inr (no_ranges (ranges_of (layers_seen c.args.layers.now)) c.args.text.now c.min-most.result (subst (λ fewer. MatchAtMost (ranges_of (layers_seen c.args.layers.now)) c.args.text.now fewer c.min-most.result) end c.loop-fewer.invariant), refl)

pub loop-fewer-preserved : goal.loop-fewer-preserved
loop-fewer-preserved c =
    let most = c.min-most.result in let fewer = c.loop-fewer.fewer in
    fewer_match (ranges_of (layers_seen c.args.layers.now)) c.args.text.now fewer most (most - fewer) (omega arith) (omega (arith, c.min-most.ensures)) c.loop-fewer.invariant c.in_default.ensures

pub returns-in-Some-clause-length : goal.returns-in-Some-clause-length
returns-in-Some-clause-length c = c.in-Some.ensures.0

pub returns-clause-length : goal.returns-clause-length
returns-clause-length c = (omega arith, omega arith)
