use Rattle.std.proofs.Common.{rules, sym, subst}
use Rattle.std.specs.List.Sorted.{IsNonDecreasing, IsSortedByKey, IsStableByKey}
use Rattle.std.specs.Ordering.{nat_cmp}
use Rattle.std.proofs.lemmas.List.Sorted.{IsNonDecreasingBy-from_sort, answers_always}
use Rattle.cmap_bundle_maker.specs.Counted.{AreFrequencies}
use Rattle.cmap_bundle_maker.specs.Seen.{frequencies_seen}
use Rattle.cmap_bundle_maker.specs.declared.frequencies.Frequency.{Frequency}
use Rattle.cmap_bundle_maker.proofs.NumbersCounted.{frequencies_are, frequencies_permuted, total_after}
use Rattle.cmap_bundle_maker.proofs.frequencies.frequencies_of.Goals as goal

pub count_numbers-requires : goal.count_numbers-requires
count_numbers-requires c = subst IsNonDecreasing (sym c.deref.ensures.value) (IsNonDecreasingBy-from_sort (λ n. n) c.sort.new.self.items c.in_ok-sort.ensures.sorted)

counted : (c : goal.After-drop-numbers-2) → AreFrequencies c.args.numbers.items (frequencies_seen c.in_ok-frequencies.frequencies.items)
counted c = frequencies_permuted c.args.numbers.items c.sort.new.self.items (frequencies_seen c.in_ok-frequencies.frequencies.items) c.in_ok-sort.ensures.permutation (subst (λ ns. AreFrequencies ns (frequencies_seen c.in_ok-frequencies.frequencies.items)) c.deref.ensures.value c.in_ok-frequencies.ensures)

sorted : (c : goal.After-drop-numbers-2) → IsSortedByKey (λ (f : Frequency). f.times) nat_cmp c.sort_by_key.new.self.items
sorted c = c.in_ok-sort_by_key.ensures.sorted (λ (f : Frequency). f.times) (answers_always _ _ _ (λ f a r g h. search rules))

stable : (c : goal.After-drop-numbers-2) → IsStableByKey (λ (f : Frequency). f.times) nat_cmp c.in_ok-frequencies.frequencies.items c.sort_by_key.new.self.items
stable c = c.in_ok-sort_by_key.ensures.stable (λ (f : Frequency). f.times) (answers_always _ _ _ (λ f a r g h. search rules))

pub returns-clause-found : goal.returns-clause-found
returns-clause-found c = frequencies_are (λ (f : Frequency). f.number) (λ (f : Frequency). f.times) c.args.numbers.items c.in_ok-frequencies.frequencies.items c.sort_by_key.new.self.items (counted c) c.in_ok-sort_by_key.ensures.permutation (sorted c) (stable c)

pub returns-clause-total : goal.returns-clause-total
returns-clause-total c = total_after (λ (f : Frequency). f.number) (λ (f : Frequency). f.times) c.args.numbers.items c.in_ok-frequencies.frequencies.items c.sort_by_key.new.self.items (counted c) c.in_ok-sort_by_key.ensures.permutation (sorted c) (stable c)
