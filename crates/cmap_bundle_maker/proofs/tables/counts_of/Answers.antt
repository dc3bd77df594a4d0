use Rattle.std.proofs.Common.{◌≡◌, ◌+◌, ◌<◌, ◌∙◌, ◌^◌, ap, false, inl, inr, max, sym, true, arith}
use Rattle.std.proofs.lemmas.Bool.{cases_lt}
use Rattle.std.proofs.lemmas.List.{length-map, length-set, take_all}
use Rattle.std.proofs.lemmas.List.Elements.{All-set}
use Rattle.cmap_bundle_maker.specs.Seen.{word_seen, words_seen}
use Rattle.cmap_bundle_maker.specs.declared.lengths.WordLength.{WordLength}
use Rattle.cmap_bundle_maker.proofs.TablesMade.{counts_fit, lengths_filled, none_counted, once_counted, over_many, word_bits}
use Rattle.cmap_bundle_maker.proofs.tables.counts_of.Goals as goal

abbrev none : WordLength
none = record { number = 0; len = 0 }

pub returns-in_default : goal.returns-in_default
returns-in_default c =
    let counts = c.loop-word.counts in
    let k = c.saturating_sub.result in
    elim (cases_lt k 32) [
      | inl less ↦ let clash : false ≡ true = c.in_default.ensures.variant.1 (omega (arith, less, c.loop-word.invariant.0, counts.ok)) in cc
      | inr past ↦ none_counted word_seen c.args.words.now counts.items c.loop-word.word-index k none c.loop-word-test.true c.saturating_sub.ensures past
    ]

pub returns-in_default-checked_add : goal.returns-in_default-checked_add
returns-in_default-checked_add c =
    let counts = c.loop-word.counts in
    let k = c.saturating_sub.result in
    let (within, at) = c.in-Some.ensures.item.3 in
    elim (cases_lt (c.in-Some.count.now + 1) 65536) [
      | inl less ↦ absurd (c.in_default-checked_add.ensures less)
      | inr many ↦ over_many word_seen c.args.words.now counts.items c.loop-word.word-index k none c.loop-word-test.true c.saturating_sub.ensures c.loop-word.invariant.2 (omega (arith, within, counts.ok)) (omega (arith, many, at 0))
    ]

pub loop-word-preserved : goal.loop-word-preserved
loop-word-preserved c =
    let counts = c.loop-word.counts in
    let k = c.saturating_sub.result in
    let more = c.in-Some-checked_add.more in
    let (within, at) = c.in-Some.ensures.item.3 in
    let (size, small, counted) = c.loop-word.invariant in (
      omega (arith, size, length-set counts.items k more),
      All-set (λ n. n < 2 ^ 16) counts.items k more (omega (arith, c.in-Some-checked_add.ensures.0, c.in-Some-checked_add.ensures.1)) small,
      once_counted word_seen c.args.words.now counts.items c.loop-word.word-index k none c.loop-word-test.true c.saturating_sub.ensures counted (omega (arith, within, counts.ok)) c.requires more (c.in-Some-checked_add.ensures.1 ∙ ap (λ n. n + 1) (at 0)),
    )

pub returns : goal.returns
returns c =
    let words = words_seen c.args.words.now in
    let counts = c.loop-word.counts.items in
    let (size, small, counted) = c.loop-word.invariant in
    let all = counted ∙ take_all c.loop-word.word-index (word_bits words) (omega (arith, c.loop-word-test.false, length-map c.args.words.now word_seen, length-map words (λ w. max 1 w.len))) in
    (size, all ∙ sym (lengths_filled words), counts_fit words counts size small all)
