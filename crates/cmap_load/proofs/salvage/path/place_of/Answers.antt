use Rattle.std.proofs.Common.{◌≡◌, ◌∙◌, arith, eq-eqb, get_or, refl, sym, ap, inl, inr, true, false, ℕ, Option, Some, None}
use Rattle.std.specs.Option.{option_eq}
use Rattle.std.proofs.Math.Dec.{eqb}
use Rattle.std.proofs.lemmas.Bool.{cases_lt}
use Rattle.std.proofs.lemmas.Option.{slice_get-get_or}
use Rattle.cmap_load.proofs.salvage.path.place_of.Goals as goal

same_option : (read : Option ℕ) → option_eq eqb read read ≡ true
same_option None = refl
same_option (Some at) = eq-eqb at at refl

pub loop-i-preserved : goal.loop-i-preserved
loop-i-preserved c = record {
  none = λ k lt is. elim (cases_lt k c.loop-i.i) [
    | inl before ↦ c.loop-i.invariant.none k before is
    | inr past ↦ (
        let here : k ≡ c.loop-i.i = omega (arith, lt, past) in
        let path = c.args.path.now in
        let one = slice_get-get_or path c.loop-i.i None c.loop-i-test.true in
        let other = slice_get-get_or path c.loop-i.i c.args.read c.loop-i-test.true in
        let both : Some (get_or path c.loop-i.i None) ≡ Some (get_or path c.loop-i.i c.args.read) = sym one ∙ other in
        let same : get_or path c.loop-i.i None ≡ get_or path c.loop-i.i c.args.read = cc in
        let found : get_or path c.loop-i.i None ≡ c.args.read = same ∙ ap (λ n. get_or path n c.args.read) (sym here) ∙ is in
        let test : false ≡ true = c.if-eq.ensures ∙ ap (λ x. option_eq eqb x c.args.read) found ∙ same_option c.args.read in
        absurd (cc))
  ];
}

pub returns : goal.returns
returns c = λ there.
    let (k, lt, is) = there in
    c.loop-i.invariant.none k (omega (arith, lt, c.loop-i-test.false)) is
