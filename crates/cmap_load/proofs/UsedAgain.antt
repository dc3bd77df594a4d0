-- A file that is known has layers again where it is used again, and what it spends is spent again.
use Rattle.std.proofs.Common.{◌≡◌, ◌∙◌, ap, refl, sym, subst, arith, inl, inr, ℕ, cond, Option, Some, None, List, [], ◌∷◌, length, zero, suc, ◌<◌}
use Rattle.std.specs.Prelude.{◌==◌, ◌⊎◌, IfSome, slice_get}
use Rattle.std.proofs.Math.ListN.{set}
use Rattle.std.proofs.lemmas.Bool.{cases_eq}
use Rattle.cmap_load.specs.BytesSpent.{Leaves}
use Rattle.cmap_load.specs.KnownFiles.{IsSpent, SpendsAgain, file_known, known_at}
use Rattle.cmap_load.specs.declared.known.KnownFile.{KnownFile}
use Rattle.cmap_load.specs.declared.known.KnownFiles.{KnownFiles}
use Rattle.cmap_load.proofs.GraphGrowing.{slice_get-set_other}
use Rattle.cmap_load.proofs.NumbersEqual.{equal-is, equal-not}

pub leaves_again : (before after : Option ℕ) (count : ℕ) → Leaves before count after → (spent : Option ℕ) → IfSome spent (IsSpent before after) → (budget left : Option ℕ) → SpendsAgain spent budget left → Leaves budget count left
leaves_again before after count was spent is None left again = again
leaves_again before after count was None is (Some budget) left again = absurd again
leaves_again None after count was (Some n) is (Some budget) left again = absurd is
leaves_again (Some start) None count was (Some n) is (Some budget) left again = absurd is
leaves_again (Some start) (Some end) count was (Some n) is (Some budget) None again = absurd again
leaves_again (Some start) (Some end) count was (Some n) is (Some budget) (Some left) again = omega (arith, was, is, again)

set_there : {A : Type 0} (xs : List A) (i : ℕ) (x : A) → i < length xs → slice_get (set xs i x) i ≡ Some x
set_there [] i x lt = absurd (omega (arith, lt))
set_there (y ∷ xs) zero x lt = refl
set_there (y ∷ xs) (suc i) x lt = set_there xs i x (omega (arith, lt))

-- a file is noted at a number
pub known_set : (files : List (Option KnownFile)) (name other : ℕ) (file : KnownFile) → name < length files → known_at (slice_get (set files name (Some file)) other) ≡ cond (name == other) (Some file) (known_at (slice_get files other))
known_set files name other file lt = elim (cases_eq name other) [
  | inl same ↦ ap (λ n. known_at (slice_get (set files name (Some file)) n)) (sym same) ∙ ap known_at (set_there files name (Some file) lt) ∙ sym (ap (λ b. cond b (Some file) (known_at (slice_get files other))) (equal-is name other same))
  | inr differs ↦ ap known_at (slice_get-set_other files name other (Some file) (λ same. differs (sym same))) ∙ sym (ap (λ b. cond b (Some file) (known_at (slice_get files other))) (equal-not name other differs))
]

-- ---- what holds of all that are known
module _ (P : ℕ → KnownFile → Type 0) where
  abbrev pub HoldsOfKnown : KnownFiles → Type 0
  HoldsOfKnown known = (name : ℕ) (file : KnownFile) → file_known known name ≡ Some file → P name file

  -- no file is known
  pub known-none : (known : KnownFiles) → ((name : ℕ) → file_known known name ≡ None) → HoldsOfKnown known
  known-none known none = λ name file is. let same : None ≡ Some file = sym (none name) ∙ is in absurd (cc)

  -- one more is
  module _ (old new : KnownFiles) (name : ℕ) (file : KnownFile) (known : HoldsOfKnown old) (is_known : P name file) where
    known_of : (other : ℕ) (found : KnownFile) → (name ≡ other) ⊎ (name ≡ other → ⊥) → cond (name == other) (Some file) (file_known old other) ≡ Some found → P other found
    known_of other found here is = elim here [
      | inl same_name ↦ (
          let is_file : Some file ≡ Some found = sym (ap (λ b. cond b (Some file) (file_known old other)) (equal-is name other same_name)) ∙ is in
          let same : file ≡ found = cc in
          subst (λ n. P n found) same_name (subst (P name) same is_known))
      | inr differs ↦ known other found (sym (ap (λ b. cond b (Some file) (file_known old other)) (equal-not name other differs)) ∙ is)
    ]

    pub known-more : ((other : ℕ) → file_known new other ≡ cond (name == other) (Some file) (file_known old other)) → HoldsOfKnown new
    known-more added = λ other found is. known_of other found (cases_eq name other) (sym (added other) ∙ is)
