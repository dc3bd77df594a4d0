-- Declarations in a row, each added to a file.
use Rattle.std.proofs.Common.{arith, Ok, Err, Result, ◌≡◌, ℕ, zero, suc, subst, ◌+◌, ◌<◌, ◌≤◌, refl, sym, ap, ◌∙◌, List, [], ◌∷◌, ◌++◌, map}
use Rattle.std.proofs.lemmas.List.{map-append}
use Rattle.cmap_values.specs.Files.{Declaration, File, Lists, lists_of}
use Rattle.cmap_values.specs.ListsAppended.{append_lists}
use Rattle.std.specs.Prelude.{IsErrAnd}
use Rattle.cmap_values.specs.Outcomes.{Outcome}
use Rattle.cmap_values.specs.declared.fault.Fault.{Fault}
use Rattle.cmap_values.specs.declared.fault.Fault.TheVariants.{Refused, Memory}
use Rattle.cmap_values.specs.declared.fault.Reason.{Reason}
use Rattle.cmap_values.specs.Only.{IsOnly, HoldsOfNone}
use Rattle.cmap_values.proofs.ListsMade.{added_more, append_lists-none}
use Rattle.cmap_binary.specs.BinaryFiles.{Content, declares}
use Rattle.cmap_binary.specs.BinarySeen.{Adds, Declares, IsWrong}
use Rattle.cmap_binary.specs.WrongSegments.{WrongInRow}
use Rattle.cmap_binary.specs.Fronts.{RowOf}
use Rattle.cmap_binary.proofs.Fronts.{HasRow, row_start, row_more, row_wrong, row_end}

-- n things in a row: those before index i are added to the lists, as declarations of this kind
pub record HasAdded {A S : Type 0} (item : S → A × S → Type 0) (kind : A → Declaration) (n : ℕ) (start : S) (old : Lists) (i : ℕ) (here : S) (now : Lists) : Type 0 where
  pub entries : List A
  pub row : HasRow item n start i here entries
  pub front : RowOf item i start (entries, here)
  pub says : now ≡ append_lists old (lists_of (map kind entries))

pub adds_none : (lists : Lists) → lists ≡ append_lists lists (lists_of [])
adds_none lists = sym (append_lists-none lists)

-- one more in a row
module _ {A S : Type 0} (item : S → A × S → Type 0) where
  row_on : (i : ℕ) (start here next : S) (xs : List A) (x : A) → RowOf item i start (xs, here) → item here (x, next) → RowOf item (i + 1) start (xs ++ x ∷ [], next)
  row_on zero start here next xs x none at =
      let begins : start ≡ here = sym (ap (λ p. p.1) none) in
      let row : RowOf item 1 start (x ∷ [], next) = (x, next, subst (λ s. item s (x, next)) (sym begins) at, ([], next, refl, refl)) in
      subst (λ l. RowOf item 1 start (l ++ x ∷ [], next)) (sym (ap (λ p. p.0) none)) row
  row_on (suc i) start here next xs x (y, mid, first, (ys, end, more, same)) at =
      let ends : end ≡ here = sym (ap (λ p. p.1) same) in
      let later = row_on i mid here next ys x (subst (λ e. RowOf item i mid (ys, e)) ends more) at in
      let row : RowOf item (suc (i + 1)) start (y ∷ ys ++ x ∷ [], next) = (y, mid, first, (ys ++ x ∷ [], next, later, refl)) in
      let count : suc (i + 1) ≡ suc i + 1 = omega arith in
      subst (λ n. RowOf item n start (xs ++ x ∷ [], next)) count (subst (λ l. RowOf item (suc (i + 1)) start (l ++ x ∷ [], next)) (sym (ap (λ p. p.0) same)) row)

module _ {A S : Type 0} {item : S → A × S → Type 0} {kind : A → Declaration} {n : ℕ} {start : S} {old : Lists} {i : ℕ} {here : S} {now : Lists} (has : HasAdded item kind n start old i here now) where
  pub adds_more : {next : S} {x : A} (new : Lists) → i < n → IsOnly (item here) (x, next) → new ≡ append_lists now (lists_of (kind x ∷ [])) → HasAdded item kind n start old (i + 1) next new
  adds_more {next} {x} new below only says = record {
    entries = has.entries ++ x ∷ [];
    row = row_more item n start i here next has.entries x has.row below only;
    front = row_on item i start here next has.entries x has.front only.holds;
    says =
        says ∙ ap (λ lists. append_lists lists (lists_of (kind x ∷ []))) has.says
        ∙ added_more old (append_lists old (lists_of (map kind has.entries))) _ (map kind has.entries) (kind x ∷ []) refl refl
        ∙ ap (λ ds. append_lists old (lists_of ds)) (sym (map-append kind has.entries (x ∷ [])));
  }

  pub adds_wrong : (wrong : S → Reason → Type 0) (reason : Reason) → i < n → HoldsOfNone (item here) → wrong here reason → IsWrong (RowOf item n start) (λ why. WrongInRow item wrong n start why) reason
  adds_wrong wrong reason below none is = (row_wrong item n start i here has.entries has.row below none, (i, (has.entries, here), below, has.front, is))

  pub adds_end : n ≤ i → IsOnly (RowOf item n start) (has.entries, here)
  adds_end = row_end item n start i here has.entries has.row

pub adds_start : {A S : Type 0} (item : S → A × S → Type 0) (kind : A → Declaration) (n : ℕ) (start : S) (old : Lists) → HasAdded item kind n start old 0 start old
adds_start item kind n start old = record { entries = []; row = row_start item n start; front = refl; says = adds_none old }

-- what a call answers in other words
pub in_words : {P P' : Type 0} {Q Q' : Reason → Type 0} (result : Result Unit (Fault Reason)) → Outcome (λ done. P) Q result → (P → P') → ((reason : Reason) → Q reason → Q' reason) → Outcome (λ done. P') Q' result
in_words (Ok done) holds succeeds refuses = (succeeds holds.0, tt)
in_words (Err (Refused reason)) holds succeeds refuses = (tt, refuses reason holds.1)
in_words (Err Memory) holds succeeds refuses = (tt, tt)

-- what declares to the lists of a file says it to the file
pub declares_to_file : (reads : Content → Type 0) (wrong : Reason → Type 0) (file : File) (new : Lists) (result : Result Unit (Fault Reason)) → Declares reads wrong file.lists new result → Adds reads wrong file (record { metadata = file.metadata; lists = new; uses = file.uses }) result
declares_to_file reads wrong file new result declaring =
    in_words result declaring
    (λ says. record {
      content = declares says.declared;
      only = says.only;
      says = ap (λ lists. record { metadata = file.metadata; lists = lists; uses = file.uses }) says.says;
    })
    (λ reason is. is)

-- a want of memory, passed on by `?`
pub out_of_memory : {A R : Type 0} (S : A → Type 0) (Q : R → Type 0) (result : Result A (Fault R)) → IsErrAnd result (λ e. e ≡ Memory) → Outcome S Q result
out_of_memory S Q (Ok x) is = absurd is
out_of_memory S Q (Err e) is = (tt, rw is tt)
