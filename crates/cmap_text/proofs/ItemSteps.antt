-- What items come to, by what their tokens are found to be.
use Rattle.std.proofs.Common.{◌≡◌, ℕ, true, false, refl, sym, ap, ◌∙◌, List, [], ◌∷◌, ◌++◌}
use Rattle.std.proofs.lemmas.List.{map-append}
use Rattle.std.specs.Borrow.{Bor}
use Rattle.std.specs.Option.{option_copied}
use Rattle.std.specs.Prelude.{Option, Some, None, Result, Ok, Err, IfErr, OnOk, option_map}
use Rattle.cmap_tokens.specs.Tokens.{Token}
use Rattle.cmap_tokens.specs.TokensLeft.{Left}
use Rattle.cmap_tokens.specs.TokenSeen.{token_seen}
use Rattle.cmap_tokens.specs.declared.token.Token as declared
use Rattle.cmap_values.specs.Files.{Lists}
use Rattle.cmap_values.specs.NamesSeen.{names_seen}
use Rattle.cmap_values.specs.Outcomes.{Outcome, RefusesWith}
use Rattle.cmap_values.specs.declared.fault.Fault.{Fault}
use Rattle.cmap_values.specs.declared.fault.Fault.TheVariants as fault
use Rattle.cmap_values.specs.declared.fault.Reason.TheVariants.{UseWithoutName}
use Rattle.cmap_text.specs.EntriesSeen.{RefusesAt}
use Rattle.cmap_text.specs.TextFiles.{Section, literal_head, other}
use Rattle.cmap_text.specs.TextReading.{Said, body_in, is_executable, item_after, item_said, key_in, opened_by, with_key, with_lists, with_use, with_value, use_word}
use Rattle.cmap_text.specs.TokenParsers.{followed_by, giving, next_in, reads, run, run_item, takes_value, wanted}
use Rattle.cmap_text.specs.declared.wrong_token.WrongToken.{WrongToken}
use Rattle.cmap_text.proofs.ItemsRead.{key_in-found, opened_by-found}
use Rattle.cmap_text.proofs.Refusals.{read_on_as}
use Rattle.cmap_text.proofs.TokensRead.{is_executable-found}

module _ (old : Said) (t : Token) (left : Left) (head : Option (List ℕ)) (head_is : head ≡ literal_head (other t)) where
  pub section_said : {R : Type 0} (section : Section) (new : Lists) (here : Left) (r : Result R (Fault WrongToken)) → Some section ≡ opened_by t → Outcome (λ done. run (body_in section old.lists) left ≡ Ok (new, here)) (RefusesAt here (run (body_in section old.lists) left)) r
      → Outcome (λ done. item_said old t left ≡ Ok (record { values = old.values; lists = new; uses = old.uses; operand = head }, here)) (RefusesAt here (item_said old t left)) r
  section_said section new here r opens read =
      let is : item_after old t ≡ reads (giving (with_lists old) (body_in section old.lists)) = rw (← opens, item_after) refl in
      let none : None ≡ head = sym (head_is ∙ ap (λ u. literal_head (other u)) (opened_by-found t section (sym opens))) in
      read_on_as (with_lists old) here (run (body_in section old.lists) left) (item_said old t left) new _ r (ap (λ i. run_item t i left) is) (ap (λ o. record { values = old.values; lists = new; uses = old.uses; operand = o }) none) read

  module _ (no_section : None ≡ opened_by t) where
    used : true ≡ is_executable use_word t → item_after old t ≡ wanted UseWithoutName (option_map (with_use old) old.operand)
    used is = rw (← no_section, ← is, item_after) refl

    pub use_said : (name : List ℕ) (uses : List (List ℕ)) → true ≡ is_executable use_word t → old.operand ≡ Some name → uses ≡ old.uses ++ name ∷ [] → item_said old t left ≡ Ok (record { values = old.values; lists = old.lists; uses = uses; operand = head }, left)
    use_said name uses is operand added =
        let none : head ≡ None = head_is ∙ ap (λ u. literal_head (other u)) (is_executable-found use_word t (sym is)) in
        ap (λ i. run_item t i left) (used is) ∙ rw (operand, none, added) refl

    pub use_wrong : true ≡ is_executable use_word t → old.operand ≡ None → item_said old t left ≡ Err (record { token = Some t; reason = UseWithoutName; left = left })
    use_wrong is operand = ap (λ i. run_item t i left) (used is) ∙ rw operand refl

    -- ---- what is no use
    module _ (no_use : false ≡ is_executable use_word t) where
      pub other_said : None ≡ key_in t → item_said old t left ≡ Ok (record { values = old.values; lists = old.lists; uses = old.uses; operand = head }, left)
      other_said no_key = rw (← no_section, ← no_use, ← no_key, item_after, head_is) refl

      pub key_said : (k : List ℕ) → Some k ≡ key_in t → item_said old t left ≡ followed_by (λ value next. Ok (record { values = with_value old.values k value; lists = old.lists; uses = old.uses; operand = head }, next)) (next_in left)
      key_said k is =
          let takes : item_after old t ≡ takes_value (with_key old k) = rw (← no_section, ← no_use, ← is, item_after) refl in
          let named : Some k ≡ head = sym (head_is ∙ ap (λ u. literal_head (other u)) (key_in-found t k (sym is)).1) in
          ap (λ i. run_item t i left) takes ∙ ap (λ o. followed_by (λ value next. Ok (record { values = with_value old.values k value; lists = old.lists; uses = old.uses; operand = o }, next)) (next_in left)) named

-- what a use adds, or why it is refused
pub use_ends : (old : Said) (first : declared.Token) (left : Left) (head : Option (List ℕ)) (operand : Option (Bor (List ℕ))) (before after : List (Bor (List ℕ))) (r : Result (Unit {0}) (Fault WrongToken)) → head ≡ literal_head (other (token_seen first)) → None ≡ opened_by (token_seen first) → true ≡ is_executable use_word (token_seen first)
    → old.operand ≡ option_copied operand → old.uses ≡ names_seen before
    → OnOk r ((name : Bor (List ℕ)) × (operand ≡ Some name) × (after ≡ before ++ name ∷ [])) → IfErr r (RefusesWith (λ (wrong : WrongToken). (option_copied operand ≡ None) × (wrong ≡ record { is_token = true; reason = UseWithoutName })))
    → Outcome (λ done. item_said old (token_seen first) left ≡ Ok (record { values = old.values; lists = old.lists; uses = names_seen after; operand = head }, left)) (RefusesAt left (item_said old (token_seen first) left)) r
use_ends old first left head operand before after (Ok added_one) head_is no_section is operand_is uses_are (name, same, adds) refused =
    (use_said old (token_seen first) left head head_is no_section name.now (names_seen after) is (operand_is ∙ ap option_copied same) (ap names_seen adds ∙ map-append (λ (n : Bor (List ℕ)). n.now) before (name ∷ []) ∙ ap (λ u. u ++ name.now ∷ []) (sym uses_are)), tt)
use_ends old first left head operand before after (Err (fault.Refused wrong)) head_is no_section is operand_is uses_are added (none, wrong_is) =
    (tt, rw wrong_is (Some (token_seen first), use_wrong old (token_seen first) left head head_is no_section is (operand_is ∙ none), refl))
use_ends old first left head operand before after (Err fault.Memory) head_is no_section is operand_is uses_are added refused = (tt, tt)
