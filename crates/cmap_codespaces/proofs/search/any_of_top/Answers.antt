use Rattle.std.proofs.Common.{◌≡◌, ◌+◌, ◌*◌, refl, sym, ◌∙◌, subst, arith, inl, inr}
use Rattle.std.proofs.lemmas.Bool.{cases_lt, false≢true}
use Rattle.cmap_codespaces.specs.SpaceBits.{IsFoundWithin}
use Rattle.cmap_codespaces.proofs.search.any_of_top.Goals as goal

pub loop-bit-init : goal.loop-bit-init
loop-bit-init c = record { within = omega arith; none = λ bit below. absurd (omega (arith, below)) }

pub loop-bit-preserved : goal.loop-bit-preserved
loop-bit-preserved c =
    let here = c.in-Some.bit in
    record {
      within = omega (arith, c.in-Some.ensures.within);
      none = λ bit below set found. elim (cases_lt bit here) [
        | inl before ↦ elim (cases_lt bit c.loop-bit.next) [
          | inl earlier ↦ c.loop-bit.invariant.none bit earlier set found
          | inr from ↦ c.in-Some.ensures.first.1 bit before (from, set)
        ]
        | inr after ↦
            let is : 64 * (c.args.first + bit) ≡ 64 * (c.args.first + here) = omega (arith, below, after) in
            false≢true (sym c.if-finds_in_group.false ∙ c.finds_in_group.ensures.1 (subst (λ from. IsFoundWithin c.args.blocks.now c.args.query.now from 64) is found))
      ];
    }

pub returns-then-finds_in_group : goal.returns-then-finds_in_group
returns-then-finds_in_group c = record {
  found = λ _. let (k, from, below, found) = c.if-finds_in_group.ensures.0 refl in (k, found);
  none = λ bit below set found. refl;
}

pub returns : goal.returns
returns c = record {
  found = λ yes. absurd (false≢true yes);
  none = λ bit below set found. elim (cases_lt bit c.loop-bit.next) [
    | inl earlier ↦ absurd (c.loop-bit.invariant.none bit earlier set found)
    | inr from ↦ absurd (c.in_default.ensures.first bit (from, set))
  ];
}
