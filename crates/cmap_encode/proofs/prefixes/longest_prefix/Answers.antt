use Rattle.std.proofs.Common.{◌≡◌, ◌+◌, ◌≤◌, [], length, take, refl, sym, ◌∙◌, subst, inl, inr, arith}
use Rattle.std.specs.Prelude.{◌↔◌, IsTrue, vec_len}
use Rattle.std.proofs.lemmas.Bool.{cases_Bool, eqb-true, false≢true}
use Rattle.std.proofs.lemmas.List.{nil_from_length}
use Rattle.cmap_encode.specs.ChoicesSeen.{choices_of}
use Rattle.cmap_encode.specs.Pieces.{IsEncodable, nothing}
use Rattle.cmap_encode.specs.Prefixes.{AreNodes, IsLongestBelow}
use Rattle.cmap_encode.proofs.PrefixesFound.{falls_next, first_nodes, longer_below, longest_all, longest_more, longest_stuck, nodes_next, not_next, nothing_longest}
use Rattle.cmap_encode.proofs.prefixes.longest_prefix.Goals as goal

pub loop-count-init : goal.loop-count-init
loop-count-init c = record {
  below = omega arith;
  nodes = subst (AreNodes c.args.choices.now c.args.text.now 0) (sym c.new-nodes.ensures.items) (first_nodes c.args.choices.now c.args.text.now);
  begins = (λ _. nothing, λ _. refl);
  longest = nothing_longest (choices_of c.args.choices.now) c.args.text.now;
}

pub returns-then-is_empty : goal.returns-then-is_empty
returns-then-is_empty c =
    let choices = c.args.choices.now in let text = c.args.text.now in let count = c.loop-count.count in
    let empty : c.loop-count.nodes.items ≡ [] = nil_from_length c.loop-count.nodes.items (omega (arith, eqb-true (vec_len c.loop-count.nodes) 0 (sym c.is_empty.ensures ∙ c.if-is_empty.true), c.loop-count.nodes.ok.0)) in
    longest_stuck choices text count c.loop-count.longest (subst (AreNodes choices text count) empty c.loop-count.invariant.nodes) c.loop-count.invariant.longest
    (λ encodable. false≢true (sym c.if-not-may_begin.true ∙ c.loop-count.invariant.begins.1 encodable)) (omega arith)

pub loop-count-preserved : goal.loop-count-preserved
loop-count-preserved c =
    let text = c.args.text.now in let count = c.loop-count.count in let choices = c.args.choices.now in
    let may_begin = c.loop-count.may_begin in let ends = c.ends_piece-ends.result in
    let within : count + 1 ≤ length text = omega arith in
    let are = subst (AreNodes choices text count) (sym c.deref.ensures.value) c.loop-count.invariant.nodes in
    let known : IsTrue ends ↔ IsEncodable (choices_of choices) (take (count + 1) text) = (
      λ ended. falls_next choices text count c.index-text-count.result c.deref.result.now may_begin are c.loop-count.invariant.begins within c.index-text-count.is (c.ends_piece-ends.ensures.0 ended),
      λ encodable. elim (cases_Bool ends) [
        | inl same ↦ same
        | inr unlike ↦ absurd (not_next choices text count c.index-text-count.result c.deref.result.now may_begin are c.loop-count.invariant.begins within c.index-text-count.is (λ ended. false≢true (sym unlike ∙ c.ends_piece-ends.ensures.1 ended)) encodable)
      ],
    ) in
    let also = subst (AreNodes choices text count) (sym c.deref-in-loop-count.ensures.value) c.loop-count.invariant.nodes in
    record {
      below = rw c.longer-longest.ensures (longer_below count c.loop-count.longest ends c.loop-count.invariant.below);
      nodes = nodes_next choices text count c.index-text-count-in-loop-count.result c.deref-in-loop-count.result.now may_begin also c.loop-count.invariant.begins within c.index-text-count-in-loop-count.is c.in_ok-nodes.nodes.items c.in_ok-nodes.ensures;
      begins = known;
      longest = subst (IsLongestBelow (choices_of choices) text (count + 1 + 1)) (sym c.longer-longest.ensures) (longest_more (choices_of choices) text (count + 1) c.loop-count.longest ends known c.loop-count.invariant.longest);
    }

pub returns : goal.returns
returns c = longest_all (choices_of c.args.choices.now) c.args.text.now (c.loop-count.count + 1) c.loop-count.longest (omega arith) c.loop-count.invariant.longest
