use Rattle.std.proofs.Common.{◌≤◌, ◌≡◌, ◌-◌, ◌/◌, ◌^◌, bit_and, inl, inr, length, refl, subst, arith}
use Rattle.std.specs.Prelude.{◌⊎◌}
use Rattle.std.proofs.lemmas.Bool.{cases_lt}
use Rattle.std.proofs.lemmas.Nat.{and_mask}
use Rattle.cmap_binary.proofs.BitsTaken.{NextBit-held}
use Rattle.cmap_binary.proofs.BitsOfBytes.{length-bits_of}
use Rattle.cmap_binary.proofs.WordsSearched.{searched_counts-on, searched_end, searched_hit, searched_next, symbol_within}
use Rattle.cmap_binary.specs.PrefixWords.{bits_of}
use Rattle.cmap_binary.specs.WordsByLength.{IsSearched}
use Rattle.cmap_binary.proofs.prefix.words.find.Goals as goal

pub loop-i-init : goal.loop-i-init
loop-i-init c = c.requires.start

pub returns-in_default-clause-none : goal.returns-in_default-clause-none
returns-in_default-clause-none c = λ more follows. searched_counts-on c.loop-i.invariant (grind (arith, c.in_default.ensures)) more

pub bounds-symbols-rank : goal.bounds-symbols-rank
bounds-symbols-rank c =
    let at = NextBit-held c.args.counts.now c.args.held c.args.number c.loop-i.i c.in-Some.count.now (bit_and (c.args.number / 2 ^ (c.args.held - 1 - c.loop-i.i)) 1) (omega (arith, c.loop-i-test.true, c.min-end.ensures)) (and_mask _ 1) (grind (arith, c.in-Some.ensures)) in
    symbol_within c.loop-i.invariant at c.requires.table c.if-past-count.true

pub returns-then-past-count-clause-found : goal.returns-then-past-count-clause-found
returns-then-past-count-clause-found c =
    let at = NextBit-held c.args.counts.now c.args.held c.args.number c.loop-i.i c.in-Some.count.now (bit_and (c.args.number / 2 ^ (c.args.held - 1 - c.loop-i.i)) 1) (omega (arith, c.loop-i-test.true, c.min-end.ensures)) (and_mask _ 1) (grind (arith, c.in-Some.ensures)) in
    (omega (arith, c.loop-i-test.true, c.min-end.ensures), λ more. (_, searched_hit c.loop-i.invariant at c.if-past-count.true more, refl))

pub loop-i-preserved : goal.loop-i-preserved
loop-i-preserved c =
    let at = NextBit-held c.args.counts.now c.args.held c.args.number c.loop-i.i c.in-Some.count.now (bit_and (c.args.number / 2 ^ (c.args.held - 1 - c.loop-i.i)) 1) (omega (arith, c.loop-i-test.true, c.min-end.ensures)) (and_mask _ 1) (grind (arith, c.in-Some.ensures)) in
    searched_next c.loop-i.invariant at (omega (arith, c.type_inv.counts c.loop-i.i)) (omega (arith, c.loop-i-test.true, c.min-end.ensures)) c.if-past-count.false

pub returns-clause-none : goal.returns-clause-none
returns-clause-none c = λ more follows.
    let size = length-bits_of c.args.held c.args.number in
    let past : (32 ≤ c.loop-i.i) ⊎ (length (bits_of c.args.held c.args.number) ≤ c.loop-i.i) =
    elim (cases_lt c.loop-i.i 32) [ inl below ↦ inr (omega (arith, size, below, c.loop-i-test.false, c.min-end.ensures)) | inr all ↦ inl all ] in
    searched_end c.requires.table c.loop-i.invariant past more (elim follows [ inl long ↦ inl (omega (arith, size, long)) | inr none ↦ inr none ])

pub returns-clause-searched : goal.returns-clause-searched
returns-clause-searched c =
    let h = c.loop-i.invariant in
    let size = length-bits_of c.args.held c.args.number in
    let last : c.loop-i.i ≡ c.min-end.result = omega (arith, size, h.enough, h.most, c.loop-i-test.false, c.min-end.ensures) in
    subst (λ len. IsSearched c.args.counts.now (bits_of c.args.held c.args.number) (record { len = len; rank = c.loop-i.rank; past = c.loop-i.past })) last h
