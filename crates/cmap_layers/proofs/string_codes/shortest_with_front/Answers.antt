use Rattle.std.proofs.Common.{sym, ◌∙◌, subst, inl, inr, arith}
use Rattle.std.proofs.lemmas.Bool.{cases_lt, false≢true}
use Rattle.cmap_codespaces.proofs.SpacesFound.{only_item}
use Rattle.cmap_layers.specs.LayersSeen.{layers_seen}
use Rattle.cmap_layers.proofs.BestMatch.{HaveFront, none_found, shortest_found, shortest_of_layer, too_short}
use Rattle.cmap_layers.proofs.string_codes.shortest_with_front.Goals as goal

pub loop-byte_len-init : goal.loop-byte_len-init
loop-byte_len-init c = λ n some below. too_short (layers_seen c.args.layers.now) c.args.front.now n (omega (arith, c.max-byte_len.ensures))

pub returns-then-any_has_front : goal.returns-then-any_has_front
returns-then-any_has_front c =
    shortest_found c.args.layers.now c.args.front.now c.loop-byte_len.byte_len (omega arith, omega arith) c.loop-byte_len.invariant (c.any_has_front.ensures.0 c.if-any_has_front.true)

pub loop-byte_len-preserved : goal.loop-byte_len-preserved
loop-byte_len-preserved c = λ n some below found.
    elim (cases_lt n c.loop-byte_len.byte_len) [
      | inl before ↦ c.loop-byte_len.invariant n some before found
      | inr last ↦ false≢true (sym c.if-any_has_front.false ∙ c.any_has_front.ensures.1 (subst (HaveFront (layers_seen c.args.layers.now) c.args.front.now) (omega arith) found))
    ]

pub returns : goal.returns
returns c = none_found c.args.layers.now c.args.front.now (λ n some below. c.loop-byte_len.invariant n some (omega arith))

pub returns-in-len1 : goal.returns-in-len1
returns-in-len1 c =
    let layer = c.only-item.result in
    let is = only_item c.args.layers.now layer (omega (arith, c.in-len1.len_at_least, c.in-len1.len_below)) c.only-item.is in
    rw is (shortest_of_layer layer c.args.front.now c.fewest_with_front.result c.fewest_with_front.ensures)
