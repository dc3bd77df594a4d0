use Rattle.std.proofs.Common.{◌≡◌, ◌∙◌, length, ap, subst, sym, arith}
use Rattle.std.specs.List.Sorted.{IsPermutation}
use Rattle.std.proofs.lemmas.Result.{IfOk-from_err}
use Rattle.cmap_binary.specs.PrefixWords.{AreWordLengths, lengths_from, lengths_of, zip_words}
use Rattle.cmap_binary_writer.proofs.WordsMade.{lengths-zip_words}
use Rattle.cmap_binary_writer.proofs.words.Encoder.new.Goals as goal

pub invariant_of-result : goal.invariant_of-result
invariant_of-result c =
    let made = rw c.in-Some.is at c.in_ok-words.ensures in
    let lens = c.deref-2.result.now in
    let lens_are : lens ≡ lengths_from 1 c.args.counts.items = c.deref-2.ensures.value ∙ c.in_ok-lens.ensures ∙ ap (lengths_from 1) c.deref.ensures.value in
    let size : length c.args.symbols.now ≡ length lens = omega (arith, c.deref-2.ensures.len) in
    record {
      sound = made.sound;
      words = made.held;
      counts = ap lengths_of made.words_are ∙ lengths-zip_words lens c.args.symbols.now size ∙ lens_are;
      few = c.requires.few;
      same = subst (λ ws. IsPermutation ws c.in_ok-by_symbol.by_symbol.items) c.deref-3.ensures.value c.in_ok-by_symbol.ensures.same;
      sorted = c.in_ok-by_symbol.ensures.sorted;
    }

pub returns-in_default : goal.returns-in_default
returns-in_default c =
    let lens_are = c.deref-2.ensures.value ∙ c.in_ok-lens.ensures ∙ ap (lengths_from 1) c.deref.ensures.value in
    let none = rw c.in_default.is at c.in_ok-words.ensures in
    λ same sound. none (subst AreWordLengths (sym lens_are) sound)

pub returns : goal.returns
returns c =
    let symbols = c.args.symbols.now in
    let made = rw c.in-Some.is at c.in_ok-words.ensures in
    let lens = c.deref-2.result.now in
    let lens_are : lens ≡ lengths_from 1 c.args.counts.items = c.deref-2.ensures.value ∙ c.in_ok-lens.ensures ∙ ap (lengths_from 1) c.deref.ensures.value in
    let size : length symbols ≡ length lens = omega (arith, c.deref-2.ensures.len) in
    (size ∙ ap length lens_are, made.words_are ∙ ap (λ ls. zip_words ls symbols) lens_are)

pub returns-in_err-lens : goal.returns-in_err-lens
returns-in_err-lens c = IfOk-from_err _ _ c.from_residual.ensures.0

pub returns-in_err-words : goal.returns-in_err-words
returns-in_err-words c = IfOk-from_err _ _ c.from_residual-in_err-words.ensures.0

pub returns-in_err-by_symbol : goal.returns-in_err-by_symbol
returns-in_err-by_symbol c = IfOk-from_err _ _ c.from_residual-in_err-by_symbol.ensures.0
