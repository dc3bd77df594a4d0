-- The lists of declarations, one part of a file after another.
use Rattle.std.proofs.Common.{◌≡◌, ℕ, ◌++◌, List, [], ◌∷◌, refl, sym, ap, ◌∙◌, append_assoc, append-nil, inl, inr}
use Rattle.std.specs.Prelude.{◌==◌}
use Rattle.std.proofs.lemmas.Bool.{cases_Bool}
use Rattle.cmap_values.specs.Files.{Declaration, ByLength, Lists, cid, notdef, bf, codespace, cids_of, notdefs_of, bfs_of, spaces_of, lists_of}
use Rattle.cmap_values.specs.ListsAppended.{append_by_length, append_lists}

-- a list of what each declaration gives
of_both : {A : Type 0} (f : List Declaration → List A) → f [] ≡ [] → ((d : Declaration) (ds : List Declaration) → f (d ∷ ds) ≡ f (d ∷ []) ++ f ds) → (a b : List Declaration) → f (a ++ b) ≡ f a ++ f b
of_both f none each [] b = rw none refl
of_both f none each (d ∷ a) b = each d (a ++ b) ∙ ap (λ l. f (d ∷ []) ++ l) (of_both f none each a b) ∙ sym (append_assoc (f (d ∷ [])) (f a) (f b)) ∙ ap (λ l. l ++ f b) (sym (each d a))

cids_of-each : (len : ℕ) (d : Declaration) (ds : List Declaration) → cids_of len (d ∷ ds) ≡ cids_of len (d ∷ []) ++ cids_of len ds
cids_of-each len (cid n e) ds = elim (cases_Bool (n == len)) [ inl same ↦ rw same refl | inr other ↦ rw other refl ]
cids_of-each len d ds = refl

notdefs_of-each : (len : ℕ) (d : Declaration) (ds : List Declaration) → notdefs_of len (d ∷ ds) ≡ notdefs_of len (d ∷ []) ++ notdefs_of len ds
notdefs_of-each len (notdef n e) ds = elim (cases_Bool (n == len)) [ inl same ↦ rw same refl | inr other ↦ rw other refl ]
notdefs_of-each len d ds = refl

bfs_of-each : (d : Declaration) (ds : List Declaration) → bfs_of (d ∷ ds) ≡ bfs_of (d ∷ []) ++ bfs_of ds
bfs_of-each (bf e) ds = refl
bfs_of-each d ds = refl

spaces_of-each : (d : Declaration) (ds : List Declaration) → spaces_of (d ∷ ds) ≡ spaces_of (d ∷ []) ++ spaces_of ds
spaces_of-each (codespace e) ds = refl
spaces_of-each d ds = refl

pub lists_of-append : (a b : List Declaration) → lists_of (a ++ b) ≡ append_lists (lists_of a) (lists_of b)
lists_of-append a b =
    let cids : (len : ℕ) → cids_of len (a ++ b) ≡ cids_of len a ++ cids_of len b = λ len. of_both (cids_of len) refl (cids_of-each len) a b in
    let notdefs : (len : ℕ) → notdefs_of len (a ++ b) ≡ notdefs_of len a ++ notdefs_of len b = λ len. of_both (notdefs_of len) refl (notdefs_of-each len) a b in
    rw (cids 1, cids 2, cids 3, cids 4, notdefs 1, notdefs 2, notdefs 3, notdefs 4, of_both bfs_of refl bfs_of-each a b, of_both spaces_of refl spaces_of-each a b) refl

pub append_lists-none : (a : Lists) → append_lists a (lists_of []) ≡ a
append_lists-none a = rw (append-nil a.cids.one, append-nil a.cids.two, append-nil a.cids.three, append-nil a.cids.four, append-nil a.notdefs.one, append-nil a.notdefs.two, append-nil a.notdefs.three, append-nil a.notdefs.four, append-nil a.bfs, append-nil a.spaces) refl

append_by_length-assoc : (a b c : ByLength) → append_by_length (append_by_length a b) c ≡ append_by_length a (append_by_length b c)
append_by_length-assoc a b c = rw (append_assoc a.one b.one c.one, append_assoc a.two b.two c.two, append_assoc a.three b.three c.three, append_assoc a.four b.four c.four) refl

pub append_lists-assoc : (a b c : Lists) → append_lists (append_lists a b) c ≡ append_lists a (append_lists b c)
append_lists-assoc a b c = rw (append_assoc a.bfs b.bfs c.bfs, append_assoc a.spaces b.spaces c.spaces, append_by_length-assoc a.cids b.cids c.cids, append_by_length-assoc a.notdefs b.notdefs c.notdefs) refl

-- what is added, and what is added after it
pub added_more : (old here new : Lists) (a b : List Declaration) → here ≡ append_lists old (lists_of a) → new ≡ append_lists here (lists_of b) → new ≡ append_lists old (lists_of (a ++ b))
added_more old here new a b first second =
    second ∙ ap (λ l. append_lists l (lists_of b)) first ∙ append_lists-assoc old (lists_of a) (lists_of b) ∙ sym (ap (append_lists old) (lists_of-append a b))
