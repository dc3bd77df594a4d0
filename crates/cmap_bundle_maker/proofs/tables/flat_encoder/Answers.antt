use Rattle.std.proofs.Common.{◌≡◌, ◌∙◌, ap, length, replicate, rules, set, arith}
use Rattle.cmap_binary.specs.PrefixWords.{lengths_from, zip_words}
use Rattle.cmap_bundle_maker.specs.Seen.{frequency_seen}
use Rattle.cmap_bundle_maker.proofs.TablesMade.{flat_lengths, zip_flat}
use Rattle.cmap_bundle_maker.proofs.tables.flat_encoder.Goals as goal

pub returns-in-Some-clause-made : goal.returns-in-Some-clause-made
returns-in-Some-clause-made c =
    let fs = c.args.frequencies.now in
    let made = rw c.in-Some.is at c.in_ok-encoder.ensures in
    let count : c.in-Ok.count ≡ length fs = search rules in
    let lens = ap (λ cs. lengths_from 1 (set cs 15 c.in-Ok.count)) (c.in_ok-counts.ensures.items_if_clones_equal (λ y h. h)) ∙ flat_lengths c.in-Ok.count ∙ ap (λ n. replicate n 16) count in
    let numbers = c.deref.ensures.value ∙ c.in_ok-numbers.ensures in
    (made.1 ∙ ap (λ ls. zip_words ls c.deref.result.now) lens ∙ ap (zip_words (replicate (length fs) 16)) numbers ∙ zip_flat frequency_seen fs, omega (arith, count))
