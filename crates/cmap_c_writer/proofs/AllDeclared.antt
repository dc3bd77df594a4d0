-- What declarations say, one after another.
use Rattle.std.proofs.Common.{◌≡◌, ◌∙◌, List, [], ◌∷◌, ◌++◌, ◌<◌, ◌+◌, ℕ, Option, Some, None, ap, drop, get_or, length, refl, subst, sym, take}
use Rattle.std.proofs.lemmas.List.{append_assoc, take_more, take-append-drop}
use Rattle.std.specs.Prelude.{option_and_then, option_map}
use Rattle.cmap_values.specs.Files.{Lists, lists_of}
use Rattle.cmap_values.specs.Files as files
use Rattle.cmap_values.specs.ListsAppended.{append_lists}
use Rattle.cmap_values.proofs.ListsMade.{lists_of-append}
use Rattle.cmap_c_writer.specs.Given.{all_declared, declared_by}
use Rattle.cmap_c_writer.specs.declared.declaration.Declaration.{Declaration}

-- what one says, and what those after it say
abbrev joined : Option files.Declaration → Option (List files.Declaration) → Option (List files.Declaration)
joined first rest = option_and_then (λ said. option_map (λ more. said ∷ more) rest) first

-- what these say, and what those say
abbrev both : Option (List files.Declaration) → Option (List files.Declaration) → Option (List files.Declaration)
both front back = option_and_then (λ said. option_map (λ more. said ++ more) back) front

both-nil : (back : Option (List files.Declaration)) → back ≡ both (Some []) back
both-nil None = refl
both-nil (Some said) = refl

joined_both : (first : Option files.Declaration) (front back : Option (List files.Declaration)) → joined first (both front back) ≡ both (joined first front) back
joined_both None front back = refl
joined_both (Some said) None back = refl
joined_both (Some said) (Some more) None = refl
joined_both (Some said) (Some more) (Some rest) = refl

all_declared-append : (ds es : List Declaration) → all_declared (ds ++ es) ≡ both (all_declared ds) (all_declared es)
all_declared-append [] es = both-nil (all_declared es)
all_declared-append (d ∷ ds) es = ap (joined (declared_by d)) (all_declared-append ds es) ∙ joined_both (declared_by d) (all_declared ds) (all_declared es)

-- these say this, and the lists have it
abbrev pub AreDeclared : List Declaration → Lists → Type 0
AreDeclared ds lists = (said : List files.Declaration) × (all_declared ds ≡ Some said) × (lists ≡ lists_of said)

pub declared_none : AreDeclared [] (lists_of [])
declared_none = ([], refl, refl)

declared_more : (ds : List Declaration) (d : Declaration) (said : files.Declaration) (old new : Lists) → AreDeclared ds old → declared_by d ≡ Some said → new ≡ append_lists old (lists_of (said ∷ [])) → AreDeclared (ds ++ d ∷ []) new
declared_more ds d said old new (front, all, is) one added = (
  front ++ said ∷ [],
  all_declared-append ds (d ∷ []) ∙ rw (all, one) refl,
  added ∙ ap (λ lists. append_lists lists (lists_of (said ∷ []))) is ∙ sym (lists_of-append front (said ∷ [])),
)

-- one among them says nothing
declared_none_at : (ds : List Declaration) (d : Declaration) (es : List Declaration) → declared_by d ≡ None → all_declared (ds ++ d ∷ es) ≡ None
declared_none_at [] d es none = rw none refl
declared_none_at (e ∷ ds) d es none = ap (joined (declared_by e)) (declared_none_at ds d es none) ∙ joined_none (declared_by e)
  where
    joined_none : (first : Option files.Declaration) → joined first None ≡ None
    joined_none None = refl
    joined_none (Some said) = refl

-- the one at an index, after those before it
pub declared_at : (ds : List Declaration) (i : ℕ) (d : Declaration) (said : files.Declaration) (old new : Lists) → i < length ds → AreDeclared (take i ds) old → declared_by (get_or ds i d) ≡ Some said → new ≡ append_lists old (lists_of (said ∷ [])) → AreDeclared (take (i + 1) ds) new
declared_at ds i d said old new within front one added = subst (λ xs. AreDeclared xs new) (sym (take_more ds i d within)) (declared_more (take i ds) (get_or ds i d) said old new front one added)

pub none_at : (ds : List Declaration) (i : ℕ) (d : Declaration) → i < length ds → declared_by (get_or ds i d) ≡ None → all_declared ds ≡ None
none_at ds i d within none =
    let parted : take i ds ++ get_or ds i d ∷ drop (i + 1) ds ≡ ds = sym (append_assoc (take i ds) (get_or ds i d ∷ []) (drop (i + 1) ds)) ∙ ap (λ xs. xs ++ drop (i + 1) ds) (sym (take_more ds i d within)) ∙ take-append-drop (i + 1) ds in
    ap all_declared (sym parted) ∙ declared_none_at (take i ds) (get_or ds i d) (drop (i + 1) ds) none

pub all_declared_lists : (ds : List Declaration) (lists : Lists) → AreDeclared ds lists → option_map lists_of (all_declared ds) ≡ Some lists
all_declared_lists ds lists (said, all, is) = ap (option_map lists_of) all ∙ ap Some (sym is)
