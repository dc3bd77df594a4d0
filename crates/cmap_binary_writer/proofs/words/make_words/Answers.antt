use Rattle.std.proofs.Common.{◌≤◌, ◌<◌, ◌∷◌, get_or, length, take, ap, sym, refl, ◌∙◌, arith}
use Rattle.std.proofs.lemmas.List.{take_all}
use Rattle.std.proofs.Math.Numerals.{add-one}
use Rattle.std.proofs.lemmas.Result.{IfOk-from_err}
use Rattle.cmap_binary.specs.PrefixWords.{zip_words}
use Rattle.cmap_binary_writer.proofs.WordsMade.{AreWordsTo-push, IsSound-made, zip_words-more, no_word_more}
use Rattle.cmap_binary_writer.specs.declared.words.Word.{Word}
use Rattle.cmap_binary_writer.proofs.words.make_words.Goals as goal

pub loop-i-preserved : goal.loop-i-preserved
loop-i-preserved c =
    let lens = c.args.lens.now in
    let symbols = c.args.symbols.now in
    let i = c.loop-i.i in
    let words = c.loop-i.words.items in
    let w : Word = record { symbol = get_or symbols i 0; len = get_or lens i 0; value = c.in-Some.value } in
    let e = c.in-Some.ensures.some in
    let in_lens : i < length lens = omega arith in
    let in_symbols : i < length symbols = omega arith in
    rw (c.in_ok-push.ensures.items, c.from-next.ensures) (
      zip_words-more i lens symbols words w in_lens in_symbols c.loop-i.invariant.0 refl refl,
      AreWordsTo-push words c.loop-i.last c.loop-i.next w c.loop-i.invariant.1 e.0 e.1 e.2 e.3 e.4,
      ap (λ k. get_or (0 ∷ lens) k 0) (sym (add-one i)),
    )

pub returns : goal.returns
returns c =
    let lens = c.args.lens.now in
    let symbols = c.args.symbols.now in
    let i = c.loop-i.i in
    let words = c.loop-i.words.items in
    let past : length lens ≤ i = omega arith in
    let past_too : length symbols ≤ i = omega arith in
    record {
      words_are = c.loop-i.invariant.0 ∙ ap (λ ls. zip_words ls (take i symbols)) (take_all i lens past) ∙ ap (zip_words lens) (take_all i symbols past_too);
      sound = IsSound-made words c.loop-i.last c.loop-i.next c.loop-i.invariant.1;
      held = c.loop-i.invariant.1.held;
    }

pub returns-in_default : goal.returns-in_default
returns-in_default c = no_word_more c.args.lens.now c.args.symbols.now c.loop-i.words.items c.loop-i.last c.loop-i.next c.loop-i.i (omega arith) c.requires c.loop-i.invariant.0 c.loop-i.invariant.1 c.loop-i.invariant.2 c.in_default.ensures.none

pub returns-in_err-push : goal.returns-in_err-push
returns-in_err-push c = IfOk-from_err _ _ c.from_residual.ensures.0
