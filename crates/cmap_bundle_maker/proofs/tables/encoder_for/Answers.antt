use Rattle.std.proofs.Common.{◌∙◌, ap, subst, sym}
use Rattle.std.proofs.lemmas.Result.{IfOk-weaker}
use Rattle.cmap_binary_writer.specs.Encoded.{HasOneWordEach}
use Rattle.cmap_bundle_maker.specs.Counted.{AreDistinct}
use Rattle.cmap_bundle_maker.specs.Huffman.{is_rarer}
use Rattle.cmap_bundle_maker.specs.InOrder.{AreInOrder}
use Rattle.cmap_bundle_maker.specs.Seen.{frequencies_seen}
use Rattle.cmap_bundle_maker.proofs.TablesMade.{distinct_frequencies, flat_once, order_frequencies}
use Rattle.cmap_bundle_maker.proofs.tables.encoder_for.Goals as goal

pub huffman_encoder-requires-clause-order : goal.huffman_encoder-requires-clause-order
huffman_encoder-requires-clause-order c = subst (AreInOrder is_rarer) (sym (ap frequencies_seen c.deref.ensures.value ∙ c.in_ok-frequencies.ensures.found)) (order_frequencies c.args.numbers.items)

pub huffman_encoder-requires-clause-distinct : goal.huffman_encoder-requires-clause-distinct
huffman_encoder-requires-clause-distinct c = subst AreDistinct (sym (ap frequencies_seen c.deref.ensures.value ∙ c.in_ok-frequencies.ensures.found)) (distinct_frequencies c.args.numbers.items)

pub returns-clause-alone : goal.returns-clause-alone
returns-clause-alone c =
    let same = ap frequencies_seen c.deref-in-None.ensures.value ∙ c.in_ok-frequencies.ensures.found in
    IfOk-weaker c.flat_encoder.result _ _ (λ encoder made. subst HasOneWordEach (sym made.0) (flat_once (frequencies_seen c.deref-in-None.result.now) (subst AreDistinct (sym same) (distinct_frequencies c.args.numbers.items)))) c.flat_encoder.ensures.made
