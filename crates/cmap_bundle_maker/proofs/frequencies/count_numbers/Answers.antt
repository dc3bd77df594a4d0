use Rattle.std.proofs.Common.{arith}
use Rattle.std.proofs.lemmas.List.{length-take-le}
use Rattle.cmap_bundle_maker.specs.Huffman.{Frequency}
use Rattle.cmap_bundle_maker.specs.Seen.{frequencies_seen, frequency_seen}
use Rattle.cmap_bundle_maker.proofs.HuffmanWords.{sum_map}
use Rattle.cmap_bundle_maker.proofs.NumbersCounted.{counted_more}
use Rattle.cmap_bundle_maker.proofs.frequencies.count_numbers.Goals as goal

pub count_number-requires : goal.count_number-requires
count_number-requires c = omega (arith, c.loop-number.invariant.total, sum_map (λ (f : Frequency). f.times) frequency_seen c.loop-number.frequencies.items, length-take-le c.loop-number.number-index c.args.numbers.now (omega arith))

pub loop-number-preserved : goal.loop-number-preserved
loop-number-preserved c = counted_more c.args.numbers.now c.loop-number.number-index (frequencies_seen c.loop-number.frequencies.items) (frequencies_seen c.count_number.new.frequencies.items) (omega arith) c.requires c.loop-number.invariant c.in_ok-count_number.ensures
