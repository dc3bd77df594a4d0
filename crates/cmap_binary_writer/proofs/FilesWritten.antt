-- Segments in a row, and the file that they make.
use Rattle.std.proofs.Common.{ℕ, List, [], ◌∷◌, ◌++◌, refl, ap, ◌∙◌, sym, subst}
use Rattle.std.proofs.lemmas.List.{append_assoc, append-nil}
use Rattle.cmap_binary.specs.Fronts.{AllOf}
use Rattle.cmap_binary_writer.specs.Written.{Appends, Writes, WritesAll}

module _ {A : Type 0} (item : List ℕ → A × List ℕ → Type 0) where
  -- one value more
  pub WritesAll-push : (xs : List A) (bytes : List ℕ) (x : A) (last : List ℕ) → WritesAll item xs bytes → Writes item x last → WritesAll item (xs ++ x ∷ []) (bytes ++ last)
  WritesAll-push [] bytes x last none here = (last, [], ap (λ bs. bs ++ last) none ∙ sym (append-nil last), here, refl)
  WritesAll-push (y ∷ ys) bytes x last (first, later, parts, at, more) here = (first, later ++ last, ap (λ bs. bs ++ last) parts ∙ append_assoc first later last, at, WritesAll-push ys later x last more here)

  -- values after others
  pub joined : (xs ys : List A) (a b : List ℕ) → WritesAll item xs a → WritesAll item ys b → WritesAll item (xs ++ ys) (a ++ b)
  joined [] ys a b none more = subst (λ bs. WritesAll item ys (bs ++ b)) (sym none) more
  joined (x ∷ xs) ys a b (first, later, parts, at, all) more = (first, later ++ b, ap (λ bs. bs ++ b) parts ∙ append_assoc first later b, at, joined xs ys later b all more)

  pub AllOf-written : (xs : List A) (bytes : List ℕ) → WritesAll item xs bytes → AllOf item bytes xs
  AllOf-written [] bytes none = none
  AllOf-written (x ∷ xs) bytes (first, later, parts, at, more) = (later, subst (λ bs. item bs (x, later)) (sym parts) (at later), AllOf-written xs later more)

  pub appended_more : (old now new : List ℕ) (xs : List A) (x : A) → Appends old now (WritesAll item xs) → Appends now new (Writes item x) → Appends old new (WritesAll item (xs ++ x ∷ []))
  appended_more old now new xs x (bytes, first, all) (last, second, here) = (bytes ++ last, second ∙ ap (λ bs. bs ++ last) first ∙ append_assoc old bytes last, WritesAll-push xs bytes x last all here)

  pub appended_none : (old : List ℕ) → Appends old old (WritesAll item [])
  appended_none old = ([], sym (append-nil old), refl)
