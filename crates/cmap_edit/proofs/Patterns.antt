-- CIDs of codes in a row, compared and joined.
use Rattle.std.proofs.Common.{◌≡◌, ℕ, ◌+◌, ◌-◌, ◌≤◌, Bool, true, false, Option, Some, None, refl, sym, ap, ◌∙◌, inl, inr, arith}
use Rattle.std.specs.Prelude.{MatchOption}
use Rattle.std.specs.Bool.{then_some}
use Rattle.std.proofs.lemmas.Bool.{cases_lt}
use Rattle.std.proofs.lemmas.Option.{same_Some}
use Rattle.cmap_layers.specs.CodeStretches.{cid_after}
use Rattle.cmap_layers.specs.declared.stretches.Cids.{Cids}
use Rattle.cmap_layers.specs.declared.stretches.Cids.TheVariants.{Absent, Same, CountOn}
use Rattle.cmap_edit.specs.Differences.{DiffersIf, HasCids}

pub differ_both : (differs : Bool) (x y : ℕ) → DiffersIf differs x y → DiffersIf differs (Some x) (Some y)
differ_both true x y apart = λ same. apart (same_Some x y same)
differ_both false x y same = ap Some same

pub differ_back : {A : Type 0} (differs : Bool) (x y : A) → DiffersIf differs x y → DiffersIf differs y x
differ_back true x y apart = λ same. apart (sym same)
differ_back false x y same = sym same

-- ---- of two ranges that meet
module _ (answer : ℕ → Option ℕ) (start end then last : ℕ) (front back : Cids) (filled : start ≤ end) (filled_too : then ≤ last) (meets : end + 1 ≡ then) (has : HasCids answer start end front) (has_too : HasCids answer then last back) where
  -- what holds of the front's and of the back's codes holds of all
  of_both : (P : ℕ → Type 0) → ((code : ℕ) → start ≤ code → code ≤ end → P code) → ((code : ℕ) → then ≤ code → code ≤ last → P code) → (code : ℕ) → start ≤ code → code ≤ last → P code
  of_both P one other code from to =
      elim (cases_lt code then) [
        | inl before ↦ one code from (omega arith)
        | inr after ↦ other code after to
      ]

  abbrev AreAll : Cids → ℕ → Option ℕ → Type 0
  AreAll cids more cid = (k : ℕ) → k ≤ more → cid_after cids k ≡ cid

  abbrev CountFrom : Cids → ℕ → ℕ → Type 0
  CountFrom cids more cid = (k : ℕ) → k ≤ more → cid_after cids k ≡ Some (cid + k)

  pub same_whole : (cid : Option ℕ) (cids : Cids) → AreAll front (end - start) cid → AreAll back (last - then) cid → ((k : ℕ) → cid_after cids k ≡ cid) → HasCids answer start last cids
  same_whole cid cids are are_too of = of_both (λ code. answer code ≡ cid_after cids (code - start))
      (λ code from to. has code from to ∙ are (code - start) (omega arith) ∙ sym (of (code - start)))
      (λ code from to. has_too code from to ∙ are_too (code - then) (omega arith) ∙ sym (of (code - start)))

  pub counted_whole : (cid : ℕ) → CountFrom front (end - start) cid → CountFrom back (last - then) (cid + (then - start)) → HasCids answer start last (CountOn cid)
  counted_whole cid count count_too = of_both (λ code. answer code ≡ Some (cid + (code - start)))
      (λ code from to. has code from to ∙ count (code - start) (omega arith))
      (λ code from to. has_too code from to ∙ count_too (code - then) (omega arith) ∙ ap Some (let at : cid + (then - start) + (code - then) ≡ cid + (code - start) = omega arith in at))

  -- what the front has k codes after its first one, and the back after its own
  in_front : (cids : Cids) → HasCids answer start last cids → (k : ℕ) → k ≤ end - start → cid_after front k ≡ cid_after cids k
  in_front cids all k le =
      let at : start + k - start ≡ k = omega arith in
      sym (ap (cid_after front) at) ∙ sym (has (start + k) (omega arith) (omega arith)) ∙ all (start + k) (omega arith) (omega arith) ∙ ap (cid_after cids) at

  in_back : (cids : Cids) → HasCids answer start last cids → (k : ℕ) → k ≤ last - then → cid_after back k ≡ cid_after cids (then - start + k)
  in_back cids all k le =
      let at : then + k - then ≡ k = omega arith in
      let of_all : then + k - start ≡ then - start + k = omega arith in
      sym (ap (cid_after back) at) ∙ sym (has_too (then + k) (omega arith) (omega arith)) ∙ all (then + k) (omega arith) (omega arith) ∙ ap (cid_after cids) of_all

  abbrev AreSame : Type 0
  AreSame = AreAll front (end - start) (cid_after front 0) × AreAll back (last - then) (cid_after front 0)

  abbrev AreCounted : Type 0
  AreCounted = (cid : ℕ) × (cid_after front 0 ≡ Some cid) × CountFrom front (end - start) cid × CountFrom back (last - then) (cid + (then - start))

  steady : (cid : Option ℕ) (cids : Cids) → ((k : ℕ) → cid_after cids k ≡ cid) → HasCids answer start last cids → AreSame
  steady cid cids of all =
      let first : cid_after front 0 ≡ cid = in_front cids all 0 (omega arith) ∙ of 0 in (
        λ k le. in_front cids all k le ∙ of k ∙ sym first,
        λ k le. in_back cids all k le ∙ of (then - start + k) ∙ sym first,
      )

  -- CIDs of all codes are those that the code looks for
  pub no_whole : (AreSame → ⊥) → (AreCounted → ⊥) → (cids : Cids) → HasCids answer start last cids → ⊥
  no_whole unlike uncounted Absent all = unlike (steady None Absent (λ k. refl) all)
  no_whole unlike uncounted (Same cid) all = unlike (steady (Some cid) (Same cid) (λ k. refl) all)
  no_whole unlike uncounted (CountOn cid) all = uncounted (
    cid,
    in_front (CountOn cid) all 0 (omega arith) ∙ ap Some (let at : cid + 0 ≡ cid = omega arith in at),
    in_front (CountOn cid) all,
    λ k le. in_back (CountOn cid) all k le ∙ ap Some (let at : cid + (then - start + k) ≡ cid + (then - start) + k = omega arith in at),
  )

  -- CIDs that count on, if the code finds that they do
  pub if_counted : (found : Bool) (cid : ℕ) → (found ≡ true → HasCids answer start last (CountOn cid)) → (found ≡ false → (cids : Cids) → HasCids answer start last cids → ⊥)
      → MatchOption (then_some found (CountOn cid)) ((cids : Cids) → HasCids answer start last cids → ⊥) (λ cids. HasCids answer start last cids)
  if_counted true cid counts none = counts refl
  if_counted false cid counts none = none refl
