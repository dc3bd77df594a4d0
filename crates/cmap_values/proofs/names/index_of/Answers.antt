use Rattle.std.proofs.Common.{rules, ◌≡◌, ℕ, ◌<◌, ◌≤◌, List, [], get_or, false, true, cond, nat_lt, Some, None, sym, ap, ◌∙◌, arith, below_more}
use Rattle.std.specs.Prelude.{bytes_eq}
use Rattle.std.proofs.lemmas.List.Sums.{position_or_len_is}
use Rattle.cmap_values.specs.Names.{known_names, index_of_text}
use Rattle.cmap_values.proofs.OneName.{known_text}
use Rattle.cmap_values.proofs.names.index_of.Goals as goal

-- the index is the first with this text
index_of-first : (text : List ℕ) (at : ℕ) → at < 65 → ((k : ℕ) → k < at → bytes_eq (get_or known_names k []) text ≡ false) → bytes_eq (get_or known_names at []) text ≡ true
    → Some at ≡ index_of_text text
unfolding known_names
index_of-first text at below before here =
    let within : at ≤ 65 = omega arith in
    let fits : nat_lt at 65 ≡ true = search rules in
    sym (ap (λ (n : ℕ). cond (nat_lt n 65) (Some n) None) (position_or_len_is (λ known. bytes_eq known text) known_names at [] within before (λ _. here)) ∙ ap (λ b. cond b (Some at) None) fits)

-- a text that stands at no index has none
index_of-none : (text : List ℕ) → ((k : ℕ) → k < 65 → bytes_eq (get_or known_names k []) text ≡ false) → None ≡ index_of_text text
unfolding known_names
index_of-none text differs =
    let within : 65 ≤ 65 = omega arith in
    sym (ap (λ (n : ℕ). cond (nat_lt n 65) (Some n) None) (position_or_len_is (λ known. bytes_eq known text) known_names 65 [] within differs (λ lt. let below : 65 < 65 = lt in absurd (omega arith))))

pub loop-index-preserved : goal.loop-index-preserved
loop-index-preserved c = below_more _ _ c.loop-index.invariant (rw (← known_text _ _ c.known_name.ensures, ← c.text.ensures) (search (rules, c.if-eq.ensures, c.eq.ensures)))

pub returns-then-eq-clause-index : goal.returns-then-eq-clause-index
returns-then-eq-clause-index c =
    let same : bytes_eq (get_or known_names c.loop-index.index []) c.args.text.now ≡ true = rw (← known_text _ _ c.known_name.ensures, ← c.text.ensures) (search (rules, c.if-eq.ensures, c.eq.ensures)) in
    index_of-first _ _ (omega arith) c.loop-index.invariant same

pub returns-clause-index : goal.returns-clause-index
returns-clause-index c = index_of-none c.args.text.now (λ k lt. c.loop-index.invariant k (omega arith))

pub returns-then-eq-clause-known : goal.returns-then-eq-clause-known
returns-then-eq-clause-known c =
    let same : c.text.result.now ≡ c.args.text.now = search (rules, c.if-eq.ensures, c.eq.ensures) in
    (search rules, sym (known_text _ _ c.known_name.ensures) ∙ sym c.text.ensures ∙ same)
