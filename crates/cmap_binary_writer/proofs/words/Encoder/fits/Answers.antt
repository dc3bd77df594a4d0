use Rattle.std.proofs.Common.{◌≡◌, ◌≤◌, ◌<◌, refl, get_or, length, take, ap, sym, subst, ◌∙◌, arith}
use Rattle.std.specs.List.{All}
use Rattle.std.proofs.Math.ListN.{get_or-map, length-map}
use Rattle.std.proofs.lemmas.Bool.{false≢true}
use Rattle.std.proofs.lemmas.List.{take_all}
use Rattle.std.proofs.lemmas.List.Elements.{All-more, All-map, All-same}
use Rattle.cmap_binary_writer.specs.WordsHeld.{word_seen, words_seen}
use Rattle.cmap_binary_writer.specs.declared.words.Word.{Word}
use Rattle.cmap_binary_writer.proofs.words.Encoder.fits.Goals as goal

pub loop-word-preserved : goal.loop-word-preserved
loop-word-preserved c =
    let none : Word = record { symbol = 0; len = 0; value = 0 } in
    All-more (λ (w : Word). w.symbol ≤ c.args.most) c.deref-word-items.result.now c.loop-word.word-index none (omega arith) c.loop-word.invariant (omega (arith, c.if-word-most.false))

pub returns-then-word-most : goal.returns-then-word-most
returns-then-word-most c =
    let items = c.deref-word-items.result.now in
    let i = c.loop-word.word-index in
    let none : Word = record { symbol = 0; len = 0; value = 0 } in
    let seen : words_seen items ≡ c.args.self.now = ap words_seen c.deref-word-items.ensures.value ∙ c.self.view_is in
    let size : length (words_seen items) ≡ length items = length-map items word_seen in
    let same : get_or (words_seen items) i (word_seen none) ≡ word_seen (get_or items i none) = get_or-map word_seen items i none in
    let first : (get_or (words_seen items) i (word_seen none)).symbol ≡ (get_or items i none).symbol = ap (λ w. w.symbol) same in
    let inside : i < length (words_seen items) = omega (arith, size) in (
      λ holds. absurd (false≢true holds),
      λ all.
          let each : All (λ p. p.symbol ≤ c.args.most) (words_seen items) = subst (λ t. All (λ p. p.symbol ≤ c.args.most) t) (sym seen) all in
          let here : (get_or (words_seen items) i (word_seen none)).symbol ≤ c.args.most = each i (word_seen none) inside in
          absurd (omega (arith, here, first, c.if-word-most.true)),
    )

pub returns : goal.returns
returns c =
    let items = c.deref-word-items.result.now in
    let i = c.loop-word.word-index in
    let past : length items ≤ i = omega arith in
    let all : All (λ (w : Word). w.symbol ≤ c.args.most) items = All-same (λ (w : Word). w.symbol ≤ c.args.most) items (take i items) (sym (take_all i items past)) c.loop-word.invariant in
    (λ _. subst (λ t. All (λ p. p.symbol ≤ c.args.most) t) (ap words_seen c.deref-word-items.ensures.value ∙ c.self.view_is) (All-map (λ p. p.symbol ≤ c.args.most) word_seen items all), λ _. refl)
