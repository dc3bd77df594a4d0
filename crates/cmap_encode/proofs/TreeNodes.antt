-- The nodes to which texts lead: one more character, and one more step.
use Rattle.std.proofs.Common.{◌≡◌, ℕ, zero, suc, ◌+◌, ◌<◌, false, List, [], ◌∷◌, ◌++◌, length, Option, Some, None, refl, sym, ap, ◌∙◌, inl, inr, arith, length-append, subst}
use Rattle.std.specs.Prelude.{if◌then◌else◌, option_and_then}
use Rattle.std.specs.Str.{bytes_eq}
use Rattle.std.proofs.lemmas.Bool.{cases_Bool, cases_lt, false≢true}
use Rattle.std.proofs.lemmas.Option.{none-some, same_Some}
use Rattle.std.proofs.lemmas.Slice.Eq.{bytes_eq-Decides}
use Rattle.cmap_encode.specs.TreeSeen.{PutsStep, node_after}
use Rattle.cmap_encode.proofs.TextEnds.{same_end, text_ends}

-- one more character
pub one_further : (step : ℕ → ℕ → Option ℕ) (node : Option ℕ) (prefix : List ℕ) (last : ℕ) → node_after step node (prefix ++ last ∷ []) ≡ option_and_then (λ n. step n last) (node_after step node prefix)
one_further step begin [] last = refl
one_further step begin (c ∷ prefix) last = one_further step (option_and_then (λ n. step n c) begin) prefix last

none_further : (step : ℕ → ℕ → Option ℕ) (text : List ℕ) → node_after step None text ≡ None
none_further step [] = refl
none_further step (c ∷ text) = none_further step text

-- what goes on from a text without a node has none
pub none_beyond : (step : ℕ → ℕ → Option ℕ) (node : Option ℕ) (prefix more : List ℕ) → node_after step node prefix ≡ None → node_after step node (prefix ++ more) ≡ None
none_beyond step begin [] more none = ap (λ o. node_after step o more) none ∙ none_further step more
none_beyond step begin (c ∷ prefix) more none = none_beyond step (option_and_then (λ n. step n c) begin) prefix more none

-- without a step only the empty text has a node
pub only_empty : (step : ℕ → ℕ → Option ℕ) (text : List ℕ) (n : ℕ) → ((n c : ℕ) → step n c ≡ None) → node_after step (Some 0) text ≡ Some n → (text ≡ []) × (n ≡ 0)
only_empty step [] n none is = (refl, same_Some n 0 (sym is))
only_empty step (c ∷ text) n none is = absurd (none-some n (sym (ap (λ o. node_after step o text) (none 0 c) ∙ none_further step text) ∙ is))

unequal : (text other : List ℕ) → (text ≡ other → ⊥) → bytes_eq text other ≡ false
unequal text other apart = elim (cases_Bool (bytes_eq text other)) [ inl same ↦ absurd (apart ((bytes_eq-Decides text other).0 same)) | inr unlike ↦ unlike ]

-- one more step, from the node of a prefix by a character
module _ (old new : ℕ → ℕ → Option ℕ) (count node character : ℕ) (prefix : List ℕ) (inside : (n c next : ℕ) → old n c ≡ Some next → n < count)
    (apart : (one other : List ℕ) (n : ℕ) → node_after old (Some 0) one ≡ Some n → node_after old (Some 0) other ≡ Some n → one ≡ other)
    (at : node_after old (Some 0) prefix ≡ Some node) (within : node < count) (none : old node character ≡ None) (puts : PutsStep old node character count new) where
  abbrev full : List ℕ
  full = prefix ++ character ∷ []

  abbrev Puts : List ℕ → Type 0
  Puts text = node_after new (Some 0) text ≡ (if bytes_eq text full then Some count else node_after old (Some 0) text)

  pub none_at : node_after old (Some 0) full ≡ None
  none_at = one_further old (Some 0) prefix character ∙ ap (option_and_then (λ n. old n character)) at ∙ none

  none_inside : (found : Option ℕ) (c : ℕ) → old count c ≡ found → found ≡ None
  none_inside None c is = refl
  none_inside (Some next) c is = absurd (let less = inside count c next is in omega arith)

  -- no step leads on from the new node
  none_after_new : (c : ℕ) → new count c ≡ None
  none_after_new c = puts.others count c (λ same. let is = same.0 in omega arith) ∙ none_inside (old count c) c refl

  at_empty : Puts []
  at_empty = sym (ap (λ b. if b then Some count else Some 0) (unequal [] full (λ same. omega (arith, ap (λ (l : List ℕ). length l) same, length-append prefix (character ∷ [])))))

  after_new : (text : List ℕ) (last : ℕ) → text ≡ full → Puts text → Puts (text ++ last ∷ [])
  after_new text last same is =
      let here : node_after new (Some 0) text ≡ Some count = is ∙ ap (λ b. if b then Some count else node_after old (Some 0) text) ((bytes_eq-Decides text full).1 same) in
      let longer : bytes_eq (text ++ last ∷ []) full ≡ false = unequal (text ++ last ∷ []) full (λ equal. omega (arith, ap (λ (l : List ℕ). length l) equal, ap (λ (l : List ℕ). length l) same, length-append text (last ∷ []))) in
      let was : node_after old (Some 0) (text ++ last ∷ []) ≡ None = one_further old (Some 0) text last ∙ ap (λ t. option_and_then (λ n. old n last) (node_after old (Some 0) t)) same ∙ ap (option_and_then (λ n. old n last)) none_at in
      one_further new (Some 0) text last ∙ ap (option_and_then (λ n. new n last)) here ∙ none_after_new last
      ∙ sym (ap (λ b. if b then Some count else node_after old (Some 0) (text ++ last ∷ [])) longer ∙ was)

  from_old : (found : Option ℕ) (text : List ℕ) (last : ℕ) → node_after old (Some 0) text ≡ found → node_after new (Some 0) text ≡ found → Puts (text ++ last ∷ [])
  from_old None text last was is =
      let other : bytes_eq (text ++ last ∷ []) full ≡ false = unequal (text ++ last ∷ []) full (λ equal.
      let (prefixes, lasts) = same_end text prefix last character equal in none-some node (sym was ∙ ap (node_after old (Some 0)) prefixes ∙ at)) in
      one_further new (Some 0) text last ∙ ap (option_and_then (λ n. new n last)) is
      ∙ sym (ap (λ b. if b then Some count else node_after old (Some 0) (text ++ last ∷ [])) other ∙ one_further old (Some 0) text last ∙ ap (option_and_then (λ n. old n last)) was)
  from_old (Some m) text last was is =
      elim (cases_Bool (bytes_eq (text ++ last ∷ []) full)) [
        | inl equal ↦
            let (prefixes, lasts) = same_end text prefix last character ((bytes_eq-Decides (text ++ last ∷ []) full).0 equal) in
            let here : m ≡ node = same_Some m node (sym was ∙ ap (node_after old (Some 0)) prefixes ∙ at) in
            one_further new (Some 0) text last ∙ ap (option_and_then (λ n. new n last)) is ∙ ap (λ n. new n last) here ∙ ap (new node) lasts ∙ puts.here
            ∙ sym (ap (λ b. if b then Some count else node_after old (Some 0) (text ++ last ∷ [])) equal)
        | inr unlike ↦
            let elsewhere : (m ≡ node) × (last ≡ character) → ⊥ = λ same.
            let prefixes : text ≡ prefix = apart text prefix m was (at ∙ ap Some (sym same.0)) in
            false≢true (sym unlike ∙ (bytes_eq-Decides (text ++ last ∷ []) full).1 (ap (λ f. f ++ last ∷ []) prefixes ∙ ap (λ c. prefix ++ c ∷ []) same.1)) in
            one_further new (Some 0) text last ∙ ap (option_and_then (λ n. new n last)) is ∙ puts.others m last elsewhere
            ∙ sym (ap (λ b. if b then Some count else node_after old (Some 0) (text ++ last ∷ [])) unlike ∙ one_further old (Some 0) text last ∙ ap (option_and_then (λ n. old n last)) was)
      ]

  one_longer : (text : List ℕ) (last : ℕ) → Puts text → Puts (text ++ last ∷ [])
  one_longer text last is =
      elim (cases_Bool (bytes_eq text full)) [
        | inl same ↦ after_new text last ((bytes_eq-Decides text full).0 same) is
        | inr unlike ↦ from_old (node_after old (Some 0) text) text last refl (is ∙ ap (λ b. if b then Some count else node_after old (Some 0) text) unlike)
      ]

  of_length : (k : ℕ) (text : List ℕ) → length text ≡ k → Puts text
  of_length zero [] is = at_empty
  of_length zero (c ∷ text) is = absurd (omega arith)
  of_length (suc k) text is =
      elim (text_ends text) [
        | inl empty ↦ absurd (omega (arith, ap (λ (l : List ℕ). length l) empty))
        | inr (before, last, ends) ↦ subst Puts (sym ends) (one_longer before last (of_length k before (omega (arith, ap (λ (l : List ℕ). length l) ends, length-append before (last ∷ [])))))
      ]

  -- to the new node leads one text, and to the others those that led there
  pub put_step : (text : List ℕ) → Puts text
  put_step text = of_length (length text) text refl

  pub steps_inside : (n c next : ℕ) → new n c ≡ Some next → n < count + 1
  steps_inside n c next leads =
      elim (cases_lt n (count + 1)) [
        | inl less ↦ less
        | inr more ↦ absurd (let before = inside n c next (sym (puts.others n c (λ same. let is = same.0 in omega arith)) ∙ leads) in omega arith)
      ]
