use Rattle.std.proofs.Common.{◌≡◌, ◌∙◌, ap, false, map, subst, sym, true}
use Rattle.std.proofs.lemmas.Result.{IfOk-weaker}
use Rattle.std.proofs.lemmas.Simd.{map-map}
use Rattle.cmap_binary.specs.PrefixWords.{CodeWord, lengths_from, lengths_of}
use Rattle.cmap_bundle_maker.specs.Seen.{frequencies_seen, word_seen, words_seen}
use Rattle.cmap_bundle_maker.specs.Tables.{filled, fits}
use Rattle.cmap_bundle_maker.specs.declared.lengths.WordLength.{WordLength}
use Rattle.cmap_bundle_maker.proofs.TablesMade.{huffman_made, huffman_misfit}
use Rattle.cmap_bundle_maker.proofs.tables.huffman_encoder.Goals as goal

pub returns-in-Some : goal.returns-in-Some
returns-in-Some c =
    let words = c.in_ok-words.words.items in
    let counted = rw c.in-Some.is at c.in_ok-counts.ensures in
    let lens = subst (λ ws. lengths_from 1 c.in-Some.counts.items ≡ lengths_of (map filled (words_seen ws))) c.deref.ensures.value counted.1 in
    let fit = subst (λ ws. fits (map filled (words_seen ws)) ≡ true) c.deref.ensures.value counted.2 in
    let numbers = c.deref-in-Some-2.ensures.value ∙ (c.in_ok-numbers_of_words-in-Some).ensures ∙ ap (map (λ (w : WordLength). w.number)) c.deref-in-Some.ensures.value ∙ sym (map-map (λ (w : CodeWord). w.symbol) word_seen words) in
    IfOk-weaker c.new.result _ _ (λ o made. huffman_made (frequencies_seen c.args.frequencies.now) (words_seen words) (lengths_from 1 c.in-Some.counts.items) c.deref-in-Some-2.result.now o c.in_ok-words.ensures lens numbers fit made) c.new.ensures

pub returns : goal.returns
returns c = huffman_misfit (frequencies_seen c.args.frequencies.now) (words_seen c.in_ok-words.words.items) c.in_ok-words.ensures (subst (λ ws. fits (map filled (words_seen ws)) ≡ false) c.deref.ensures.value (rw c.in-None.is at c.in_ok-counts.ensures))
