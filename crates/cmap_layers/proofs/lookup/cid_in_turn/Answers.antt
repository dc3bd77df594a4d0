use Rattle.std.proofs.Common.{ap, subst, refl, ◌∙◌}
use Rattle.std.proofs.lemmas.List.{drop_all}
use Rattle.cmap_layers.specs.LayersSeen.{layers_seen}
use Rattle.cmap_layers.proofs.LayersSearched.{drop_next, within_lengths, Answers, Answers-outside, IsSearched, IsSearched-none, IsSearched-more, IsSearched-decided, IsSearched-end}
use Rattle.cmap_layers.proofs.lookup.cid_in_turn.Goals as goal
use Rattle.cmap_layers.proofs.lookup.cid_in_turn.Goals.{In-Some}

decided : (c : In-Some) → Answers (layers_seen c.args.layers.now) c.args.code c.args.byte_len c.in-Some.decided c.args.looks.now c.decided_by.new.looks
decided c =
    let (few, len_is) = c.in_ok-len.ensures in
    let next = ap layers_seen (drop_next c.args.layers.now c.loop-layer.layer-index c.layer-item.result c.loop-layer-test.true c.layer-item.is) in
    let searched = subst (λ rest. IsSearched (layers_seen c.args.layers.now) rest c.args.code c.args.byte_len c.args.looks.now c.loop-layer.looks) next c.loop-layer.invariant in
    IsSearched-decided _ _ _ _ _ _ _ _ _ (within_lengths _ few) searched (rw len_is at c.in-Some.ensures.value) (rw len_is at c.in-Some.ensures.looks)

pub returns-in-Some : goal.returns-in-Some
returns-in-Some c =
    let few = c.in_ok-len.ensures.0 in
    record { value = (decided c).value; looks = (decided c).looks; outside = λ outside. absurd (outside few) }

pub loop-layer-init : goal.loop-layer-init
loop-layer-init c = IsSearched-none (layers_seen c.args.layers.now) c.args.code c.args.byte_len c.args.looks.now

pub loop-layer-preserved : goal.loop-layer-preserved
loop-layer-preserved c =
    let len_is = c.in_ok-len.ensures.1 in
    let next = ap layers_seen (drop_next c.args.layers.now c.loop-layer.layer-index c.layer-item.result c.loop-layer-test.true c.layer-item.is) in
    let searched = subst (λ rest. IsSearched (layers_seen c.args.layers.now) rest c.args.code c.args.byte_len c.args.looks.now c.loop-layer.looks) next c.loop-layer.invariant in
    IsSearched-more _ _ _ _ _ _ _ _ _ searched (rw len_is at c.in_default.ensures.value) (rw len_is at c.in_default.ensures.looks)

pub returns-in_err-len : goal.returns-in_err-len
returns-in_err-len c =
    let none = Answers-outside (layers_seen c.args.layers.now) c.args.code c.args.byte_len c.args.looks.now c.in_err-len.ensures in
    let is = c.from_residual.ensures in
    record { value = is ∙ none.value; looks = rw is none.looks; outside = λ _. refl }

pub returns : goal.returns
returns c =
    let few = c.in_ok-len.ensures.0 in
    let past = ap layers_seen (drop_all c.loop-layer.layer-index c.args.layers.now c.loop-layer-test.false) in
    let searched = subst (λ rest. IsSearched (layers_seen c.args.layers.now) rest c.args.code c.args.byte_len c.args.looks.now c.loop-layer.looks) past c.loop-layer.invariant in
    let none = IsSearched-end (layers_seen c.args.layers.now) c.args.code c.args.byte_len c.args.looks.now c.loop-layer.looks (within_lengths _ few) searched in
    record { value = none.value; looks = none.looks; outside = λ outside. absurd (outside few) }
