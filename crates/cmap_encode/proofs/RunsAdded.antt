-- One more run of a prefix, as what it gives to texts.
use Rattle.std.proofs.Common.{◌≡◌, ℕ, ◌+◌, ◌-◌, ◌≤◌, ◌⊎◌, false, List, [], ◌∷◌, ◌++◌, length, refl, sym, ap, ◌∙◌, subst, inl, inr, arith, length-append}
use Rattle.std.specs.Prelude.{Any, if◌then◌else◌, slice_index_or}
use Rattle.std.specs.Str.{bytes_eq}
use Rattle.std.proofs.Math.ListN.{get_or-append}
use Rattle.std.proofs.Math.Seq.{get_or-append_seam}
use Rattle.std.proofs.lemmas.Bool.{cases_Bool, cases_lt}
use Rattle.std.proofs.lemmas.List.Quantifiers.{Any-push}
use Rattle.std.proofs.lemmas.Slice.Eq.{bytes_eq-Decides}
use Rattle.cmap_tokens.specs.Texts.{Text, more, one}
use Rattle.cmap_unicode.specs.Characters.{characters_of}
use Rattle.cmap_unicode.specs.CountedTexts.{counted_on, text_after}
use Rattle.cmap_encode.specs.KeyCodesSeen.{Gives}
use Rattle.cmap_encode.specs.Ranks.{Candidate, candidate_of, ranked_after}
use Rattle.cmap_encode.specs.RunsSeen.{AddsTexts, GivesText, IsFurther, runs_of}
use Rattle.cmap_encode.specs.declared.key_codes.CodeRun.{CodeRun}
use Rattle.cmap_encode.specs.declared.rank.Ranked.{Ranked}
use Rattle.cmap_encode.specs.declared.runs_by_prefix.RunsByPrefix.{RunsByPrefix}

-- ---- an element of a list with one more
pub any_kept : {A : Type 0} (P : A → Type 0) (xs ys : List A) → Any P xs → Any P (xs ++ ys)
any_kept P xs ys (k, x, within, at, holds) = (k, x, omega (arith, length-append xs ys), get_or-append xs ys x k within ∙ at, holds)

pub any_split : {A : Type 0} (P : A → Type 0) (xs : List A) (y : A) → Any P (xs ++ y ∷ []) → Any P xs ⊎ P y
any_split P xs y (k, x, within, at, holds) =
    elim (cases_lt k (length xs)) [
      | inl before ↦ inl (k, x, before, sym (get_or-append xs (y ∷ []) x k before) ∙ at, holds)
      | inr last ↦
          let here : length xs ≡ k = omega (arith, length-append xs (y ∷ [])) in
          inr (subst P (sym at ∙ subst (λ j. slice_index_or (xs ++ y ∷ []) j x ≡ y) here (get_or-append_seam xs y [] x)) holds)
    ]

-- ---- the last character counts on
counted : (prefix : List ℕ) (last k : ℕ) → counted_on (prefix ++ last ∷ []) k ≡ prefix ++ (last + k) ∷ []
counted [] last k = refl
counted (c ∷ []) last k = refl
counted (c ∷ d ∷ prefix) last k = ap (λ l. c ∷ l) (counted (d ∷ prefix) last k)

of_text : (its : Text) (k : ℕ) → characters_of (text_after its k) ≡ counted_on (characters_of its) k
of_text (one c) k = refl
of_text (more cs) k = refl

pub ends_so : (its : Text) (prefix : List ℕ) (last k : ℕ) → characters_of its ≡ prefix ++ last ∷ [] → characters_of (text_after its k) ≡ prefix ++ (last + k) ∷ []
ends_so its prefix last k is = of_text its k ∙ ap (λ cs. counted_on cs k) is ∙ counted prefix last k

module _ (old new : RunsByPrefix) (prefix : List ℕ) (key : ℕ) (its : Text) (begin : Ranked) (run : CodeRun) (is : characters_of its ≡ prefix ++ key ∷ []) (start : run.range.start ≡ key) (first : run.first ≡ begin) (filled : run.range.start ≤ run.range.end)
    (runs : (other : List ℕ) → runs_of new other ≡ (if bytes_eq other prefix then runs_of old other ++ run ∷ [] else runs_of old other)) where
  at_prefix : (other : List ℕ) → other ≡ prefix → runs_of new other ≡ runs_of old other ++ run ∷ []
  at_prefix other same = runs other ∙ ap (λ b. if b then runs_of old other ++ run ∷ [] else runs_of old other) ((bytes_eq-Decides other prefix).1 same)

  elsewhere : (other : List ℕ) → bytes_eq other prefix ≡ false → runs_of new other ≡ runs_of old other
  elsewhere other apart = runs other ∙ ap (λ b. if b then runs_of old other ++ run ∷ [] else runs_of old other) apart

  by_run : (text : List ℕ) (candidate : Candidate) (last : ℕ) → text ≡ prefix ++ last ∷ [] → Gives last candidate run → IsFurther its begin (run.range.end - run.range.start) text candidate
  by_run text candidate last text_is (from, to, is_one) =
      let sum : key + (last - run.range.start) ≡ last = omega arith in
      record {
        count = last - run.range.start;
        within = omega arith;
        is_text = text_is ∙ sym (ends_so its prefix key (last - run.range.start) is ∙ ap (λ n. prefix ++ n ∷ []) sum);
        is_code = is_one ∙ ap (λ ranked. candidate_of (ranked_after (last - run.range.start) ranked)) first;
      }

  given_by : (text : List ℕ) (candidate : Candidate) → GivesText new text candidate → GivesText old text candidate ⊎ IsFurther its begin (run.range.end - run.range.start) text candidate
  given_by text candidate given =
      elim (cases_Bool (bytes_eq given.prefix prefix)) [
        | inl equal ↦
            let same : given.prefix ≡ prefix = (bytes_eq-Decides given.prefix prefix).0 equal in
            elim (any_split (Gives given.last candidate) (runs_of old given.prefix) run (subst (Any (Gives given.last candidate)) (at_prefix given.prefix same) given.given)) [
              | inl before ↦ inl (record { prefix = given.prefix; last = given.last; is = given.is; given = before })
              | inr here ↦ inr (by_run text candidate given.last (given.is ∙ ap (λ f. f ++ given.last ∷ []) same) here)
            ]
        | inr apart ↦ inl (record { prefix = given.prefix; last = given.last; is = given.is; given = subst (Any (Gives given.last candidate)) (elsewhere given.prefix apart) given.given })
      ]

  given_still : (text : List ℕ) (candidate : Candidate) → GivesText old text candidate → GivesText new text candidate
  given_still text candidate given = record {
    prefix = given.prefix;
    last = given.last;
    is = given.is;
    given =
        elim (cases_Bool (bytes_eq given.prefix prefix)) [
          | inl equal ↦ subst (Any (Gives given.last candidate)) (sym (at_prefix given.prefix ((bytes_eq-Decides given.prefix prefix).0 equal))) (any_kept (Gives given.last candidate) (runs_of old given.prefix) (run ∷ []) given.given)
          | inr apart ↦ subst (Any (Gives given.last candidate)) (sym (elsewhere given.prefix apart)) given.given
        ];
  }

  given_further : (text : List ℕ) (candidate : Candidate) → IsFurther its begin (run.range.end - run.range.start) text candidate → GivesText new text candidate
  given_further text candidate further =
      let within = further.within in
      let count : key + further.count - run.range.start ≡ further.count = omega arith in
      record {
        prefix = prefix;
        last = key + further.count;
        is = further.is_text ∙ ends_so its prefix key further.count is;
        given = subst (Any (Gives (key + further.count) candidate)) (sym (at_prefix prefix refl)) (Any-push (Gives (key + further.count) candidate) (runs_of old prefix) run
            (omega arith, omega arith, further.is_code ∙ sym (ap (λ ranked. candidate_of (ranked_after (key + further.count - run.range.start) ranked)) first ∙ ap (λ k. candidate_of (ranked_after k begin)) count)));
      }

  pub texts_added : AddsTexts old new its begin (run.range.end - run.range.start)
  texts_added text candidate = (given_by text candidate, λ either. elim either [ inl before ↦ given_still text candidate before | inr further ↦ given_further text candidate further ])
