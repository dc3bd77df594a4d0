-- How the differences grow with the limit, whatever it is that differs.
use Rattle.std.proofs.Common.{◌≡◌, ℕ, ◌+◌, ◌<◌, ◌≤◌, List, [], ◌∷◌, ◌++◌, length, get_or, refl, ap, subst, inl, inr, arith}
use Rattle.std.specs.Prelude.{Some}
use Rattle.std.proofs.lemmas.Bool.{cases_lt}
use Rattle.std.proofs.lemmas.List.Elements.{All-nil, All-push, All-pop, All-weaker, Contains-push_cases}
use Rattle.std.proofs.lemmas.List.{get_or_append_left, get_or_push, length_push}
use Rattle.std.proofs.lemmas.List.Quantifiers.{Any-push, all_pairs_push}
use Rattle.cmap_values.specs.declared.range.Range.{Range}
use Rattle.cmap_runs.proofs.MaximalRuns.{Any-old}
use Rattle.cmap_layers.specs.CodeRanges.{IsIn}
use Rattle.cmap_edit.specs.Differences.{AreDifferences}

module _ {D : Type 0} (range_of : D → Range) (IsDifference : D → Type 0) (Differs : ℕ → Type 0) (CouldBeOne : D → D → Type 0) where
  abbrev Are : ℕ → List D → Type 0
  Are limit ds = AreDifferences range_of IsDifference Differs CouldBeOne limit ds

  abbrev IsWithin : ℕ → D → Type 0
  IsWithin limit d = ((range_of d).start ≤ (range_of d).end) × ((range_of d).end < limit)

  abbrev HasCode : ℕ → D → Type 0
  HasCode code d = IsIn code (range_of d)

  pub no_difference : Are 0 []
  no_difference = record {
    each = All-nil IsDifference;
    all = λ code lt. absurd (omega (arith, lt));
    within = All-nil (IsWithin 0);
    apart = λ i j d lt within. absurd (omega (arith, within));
    longest = λ i j d lt within. absurd (omega (arith, within));
  }

  -- codes that agree
  pub passed_over : (next last : ℕ) (ds : List D) → Are next ds → next ≤ last → ((code : ℕ) → next ≤ code → code ≤ last → Differs code → ⊥) → Are (last + 1) ds
  passed_over next last ds are le none = record {
    each = are.each;
    all = λ code lt differs.
        elim (cases_lt code next) [
          | inl before ↦ are.all code before differs
          | inr from ↦ absurd (none code from (omega arith) differs)
        ];
    within = All-weaker (IsWithin next) (IsWithin (last + 1)) (λ d was. (was.0, omega (arith, was.1))) ds are.within;
    apart = are.apart;
    longest = are.longest;
  }

  -- one more at the end, which could be one with none of those before it
  put_at_end : (next last : ℕ) (ds : List D) (d : D) → Are next ds → next ≤ last → IsDifference d → next ≤ (range_of d).start → (range_of d).start ≤ (range_of d).end → (range_of d).end ≤ last
      → ((code : ℕ) → next ≤ code → code ≤ last → Differs code → HasCode code d) → ((k : ℕ) (e : D) → k < length ds → CouldBeOne (get_or ds k e) d → ⊥) → Are (last + 1) (ds ++ d ∷ [])
  put_at_end next last ds d are le is starts filled ends here apart = record {
    each = All-push IsDifference ds d are.each is;
    all = λ code lt differs.
        elim (cases_lt code next) [
          | inl before ↦ Any-old (HasCode code) ds d (are.all code before differs)
          | inr from ↦ Any-push (HasCode code) ds d (here code from (omega arith) differs)
        ];
    within = All-push (IsWithin (last + 1)) ds d (All-weaker (IsWithin next) (IsWithin (last + 1)) (λ e was. (was.0, omega (arith, was.1))) ds are.within) (filled, omega arith);
    apart = all_pairs_push (λ (e later : D). (range_of e).end < (range_of later).start) ds d are.apart (λ k e lt. let below = (are.within k e lt).1 in omega arith);
    longest = all_pairs_push (λ (e later : D). CouldBeOne e later → ⊥) ds d are.longest apart;
  }

  -- the first one
  pub put_first : (next last : ℕ) (d : D) → Are next [] → next ≤ last → IsDifference d → next ≤ (range_of d).start → (range_of d).start ≤ (range_of d).end → (range_of d).end ≤ last
      → ((code : ℕ) → next ≤ code → code ≤ last → Differs code → HasCode code d) → Are (last + 1) (d ∷ [])
  put_first next last d are le is starts filled ends here = put_at_end next last [] d are le is starts filled ends here (λ k e lt. absurd (omega (arith, lt)))

  -- without the last one, of codes before it
  without_last : (next : ℕ) (ds : List D) (last : D) → Are next (ds ++ last ∷ []) → IsDifference last × IsWithin next last × Are (range_of last).start ds × ((k : ℕ) (e : D) → k < length ds → (range_of (get_or ds k e)).end < (range_of last).start) × ((k : ℕ) (e : D) → k < length ds → CouldBeOne (get_or ds k e) last → ⊥)
  without_last next ds last are =
      let is = All-pop (IsWithin next) _ ds (Some last) refl are.within in
      let tells = All-pop IsDifference _ ds (Some last) refl are.each in
      let count : length (ds ++ last ∷ []) ≡ length ds + 1 = length_push ds last in
      let old : (k : ℕ) (e : D) → k < length ds → get_or (ds ++ last ∷ []) k e ≡ get_or ds k e = λ k e lt. get_or_append_left ds (last ∷ []) e k lt in
      let new : (e : D) → get_or (ds ++ last ∷ []) (length ds) e ≡ last = λ e. get_or_push ds last e (length ds) refl in
      let before : (k : ℕ) (e : D) → k < length ds → (range_of (get_or ds k e)).end < (range_of last).start =
      λ k e lt. subst (λ (d : D). (range_of d).end < (range_of last).start) (old k e lt) (subst (λ (d : D). (range_of (get_or (ds ++ last ∷ []) k e)).end < (range_of d).start) (new e) (are.apart k (length ds) e lt (omega arith))) in (
        tells.1,
        is.1,
        record {
          each = tells.0;
          all = λ code lt differs.
              let found = are.all code (omega (arith, is.1.0, is.1.1)) differs in
              elim (Contains-push_cases ds last found.1 (found.0, found.2, found.3)) [
                | inl is_old ↦ (is_old.0, found.1, is_old.1, is_old.2, found.4)
                | inr same ↦ absurd (omega (arith, ap (λ (d : D). (range_of d).start) same, found.4.0))
              ];
          within = λ k e lt. ((is.0 k e lt).0, before k e lt);
          apart = λ i j e lt within. subst (λ (d : D). (range_of d).end < (range_of (get_or ds j e)).start) (old i e (omega arith)) (subst (λ (d : D). (range_of (get_or (ds ++ last ∷ []) i e)).end < (range_of d).start) (old j e within) (are.apart i j e lt (omega arith)));
          longest = λ i j e lt within. subst (λ (d : D). CouldBeOne d (get_or ds j e) → ⊥) (old i e (omega arith)) (subst (λ (d : D). CouldBeOne (get_or (ds ++ last ∷ []) i e) d → ⊥) (old j e within) (are.longest i j e lt (omega arith)));
        },
        before,
        λ k e lt. subst (λ (d : D). CouldBeOne d last → ⊥) (old k e lt) (subst (λ (d : D). CouldBeOne (get_or (ds ++ last ∷ []) k e) d → ⊥) (new e) (are.longest k (length ds) e lt (omega arith))),
      )

  -- one more that couldn't be one with the last one
  pub put_behind : ((d later : D) → CouldBeOne d later → (range_of d).end + 1 ≡ (range_of later).start) → (next last : ℕ) (front : List D) (was d : D) → Are next (front ++ was ∷ []) → next ≤ last → IsDifference d → next ≤ (range_of d).start → (range_of d).start ≤ (range_of d).end → (range_of d).end ≤ last
      → ((code : ℕ) → next ≤ code → code ≤ last → Differs code → HasCode code d) → (CouldBeOne was d → ⊥) → Are (last + 1) ((front ++ was ∷ []) ++ d ∷ [])
  put_behind meets next last front was d are le is starts filled ends here unlike =
      let (tells, within, earlier, apart, one) = without_last next front was are in
      put_at_end next last (front ++ was ∷ []) d are le is starts filled ends here
      (All-push (λ (e : D). CouldBeOne e d → ⊥) front was (λ k e lt could. let at = meets (get_or front k e) d could in let gap = apart k e lt in absurd (omega (arith, within.0, within.1))) unlike)

  -- one that begins just after the last one, and is one with it
  pub put_as_one : (next last : ℕ) (front : List D) (was both : D) → Are next (front ++ was ∷ []) → next ≤ last → IsDifference both → (range_of was).end + 1 ≡ next → (range_of both).start ≡ (range_of was).start → (range_of both).end ≡ last
      → ((e : D) → CouldBeOne e both → CouldBeOne e was) → Are (last + 1) (front ++ both ∷ [])
  put_as_one next last front was both are le is meets starts ends could =
      let (tells, within, earlier, apart, one) = without_last next front was are in
      put_at_end (range_of was).start last front both earlier (omega (arith, within.0)) is (omega arith) (omega (arith, within.0)) (omega arith)
      (λ code from to differs. (omega arith, omega arith))
      (λ k e lt may. one k e lt (could (get_or front k e) may))
