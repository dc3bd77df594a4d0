-- Obstacles of parts of a file, and of the whole.
use Rattle.std.proofs.Common.{◌≡◌, ℕ, ◌≤◌, ◌^◌, inl, inr, List, [], Some, None, refl, sym, subst, arith}
use Rattle.std.specs.Prelude.{◌==◌, All, Any, IfSome, IsSomeAnd, Option}
use Rattle.std.proofs.lemmas.Bool.{cases_Bool, eqb-true}
use Rattle.cmap_values.specs.Files.{BfEntry, ByLength, CidEntry, Codespace, File, Lists, of_length}
use Rattle.cmap_text_writer.specs.Fits.{BeginsFitting, Fits, HasOwnFamily, HasUnits, IsName, IsSayable, IsSayableName, IsSpaceFitting, ListsFit}
use Rattle.cmap_text_writer.specs.Obstacles.{BeginsLarge, HasLargeStart, IsByLengthObstacle, IsCidsObstacle, IsEmptyText, IsLargeEnd, IsListsObstacle, IsObstacle, IsSpacesObstacle, IsTextsObstacle, NoTextSays}
use Rattle.cmap_text_writer.specs.declared.obstacle.Obstacle.{Obstacle}
use Rattle.cmap_text_writer.specs.declared.obstacle.Obstacle.TheVariants.{CustomFamily, EmptyText, LargeCode, Name, Use}
use Rattle.cmap_text_writer.proofs.Sayable.{says_sayable}

-- ---- parts of lists
pub space_low : (spaces : List Codespace) (s : Codespace) (o : Obstacle) → (o ≡ LargeCode s.low) × (256 ^ s.len ≤ s.low) → ((P : Codespace → Type 0) → P s → Any P spaces) → IsSpacesObstacle spaces o
space_low spaces s o (is, past) among = subst (IsSpacesObstacle spaces) (sym is) (among (λ t. IsLargeEnd s.low t.len t.low t.high) (inl refl, past))

pub space_high : (spaces : List Codespace) (s : Codespace) (o : Obstacle) → (o ≡ LargeCode s.high) × (256 ^ s.len ≤ s.high) → ((P : Codespace → Type 0) → P s → Any P spaces) → IsSpacesObstacle spaces o
space_high spaces s o (is, past) among = subst (IsSpacesObstacle spaces) (sym is) (among (λ t. IsLargeEnd s.high t.len t.low t.high) (inr refl, past))

pub cid_start : (len : ℕ) (es : List CidEntry) (e : CidEntry) (o : Obstacle) → (o ≡ LargeCode e.start) × (256 ^ len ≤ e.start) → ((P : CidEntry → Type 0) → P e → Any P es) → IsCidsObstacle len es o
cid_start len es e o (is, past) among = subst (IsCidsObstacle len es) (sym is) (among (BeginsLarge e.start len) (refl, past))

pub by_cids : (lists : ByLength) (len : ℕ) (es : List CidEntry) → es ≡ of_length lists len → (o : Obstacle) → IsCidsObstacle len es o → IsByLengthObstacle lists o
by_cids lists len es is (LargeCode code) h = (len, subst (Any (BeginsLarge code len)) is h)
by_cids lists len es is other h = absurd h

pub by_spaces : (lists : Lists) (spaces : List Codespace) → spaces ≡ lists.spaces → (o : Obstacle) → IsSpacesObstacle spaces o → IsListsObstacle lists o
by_spaces lists spaces is (LargeCode code) h = inl (subst (Any (λ s. IsLargeEnd code s.len s.low s.high)) is h)
by_spaces lists spaces is other h = absurd h

pub by_notdefs : (lists : Lists) (o : Obstacle) → IsByLengthObstacle lists.notdefs o → IsListsObstacle lists o
by_notdefs lists (LargeCode code) h = inr (inl h)
by_notdefs lists other h = absurd h

pub by_cid_lists : (lists : Lists) (o : Obstacle) → IsByLengthObstacle lists.cids o → IsListsObstacle lists o
by_cid_lists lists (LargeCode code) h = inr (inr h)
by_cid_lists lists other h = absurd h

pub by_texts : (lists : Lists) (es : List BfEntry) → es ≡ lists.bfs → (o : Obstacle) → IsTextsObstacle es o → IsListsObstacle lists o
by_texts lists es is (EmptyText range) h = subst (Any (IsEmptyText range)) is h
by_texts lists es is other h = absurd h

-- ---- parts of a file
pub by_lists : (file : File) (o : Obstacle) → IsListsObstacle file.lists o → IsObstacle file o
by_lists file (LargeCode code) h = h
by_lists file (EmptyText range) h = h
by_lists file other h = absurd h

pub by_use : (file : File) (names : List (List ℕ)) → names ≡ file.uses → (o : Obstacle) → (o ≡ Use) × Any (λ n. IsName n → ⊥) names → IsObstacle file o
by_use file names is o (same, h) = subst (IsObstacle file) (sym same) (subst (Any (λ n. IsName n → ⊥)) is h)

pub by_name : (file : File) (o : Obstacle) → (o ≡ Name) × IsSomeAnd file.metadata.name (λ n. IsSayableName n → ⊥) → IsObstacle file o
by_name file o (same, h) = subst (IsObstacle file) (sym same) h

pub by_collection : (file : File) (o : Obstacle) → (o ≡ CustomFamily) × IsSomeAnd file.metadata.collection (λ c. HasOwnFamily c → ⊥) → IsObstacle file o
by_collection file o (same, h) = subst (IsObstacle file) (sym same) h

-- ---- a file with an obstacle isn't said
not_all : {E : Type 0} (P Q : E → Type 0) (es : List E) → Any Q es → ((e : E) → Q e → P e → ⊥) → All P es → ⊥
not_all P Q es (i, e, within, is, q) clash all = clash e q (subst P is (all i e within))

not_some : {A : Type 0} (P : A → Type 0) (o : Option A) → IsSomeAnd o (λ x. P x → ⊥) → IfSome o P → ⊥
not_some P None h is = absurd h
not_some P (Some x) h is = h is

large : (len code : ℕ) → 256 ^ len ≤ code → Fits len code → ⊥
large len code past fits = omega (arith, past, fits.small)

large_end : (code : ℕ) (s : Codespace) → IsLargeEnd code s.len s.low s.high → IsSpaceFitting s → ⊥
large_end code s (inl is, past) (low, high) = large s.len s.low (subst (λ n. 256 ^ s.len ≤ n) is past) low
large_end code s (inr is, past) (low, high) = large s.len s.high (subst (λ n. 256 ^ s.len ≤ n) is past) high

large_start : (code len : ℕ) (e : CidEntry) → BeginsLarge code len e → BeginsFitting len e → ⊥
large_start code len e (is, past) fits = large len e.start (subst (λ n. 256 ^ len ≤ n) (sym is) past) fits

no_element : {E : Type 0} (Q : E → Type 0) → Any Q [] → ⊥
no_element Q (i, e, within, is, q) = omega (arith, within)

large_of : (code len : ℕ) (es : List CidEntry) → All (BeginsFitting len) es → Any (BeginsLarge code len) es → ⊥
large_of code len es fit any = not_all (BeginsFitting len) (BeginsLarge code len) es any (λ e begins fits. large_start code len e begins fits) fit

abbrev NoneLarge : ℕ → ByLength → ℕ → Type 0
NoneLarge code lists n = Any (BeginsLarge code n) (of_length lists n) → ⊥

none_large : (code : ℕ) (lists : ByLength) → ListsFit lists → (n : ℕ) → NoneLarge code lists n
none_large code lists fit n =
    elim (cases_Bool (n == 1)) [
      | inl is ↦ subst (NoneLarge code lists) (sym (eqb-true n 1 is)) (large_of code 1 lists.one fit.one)
      | inr a ↦ elim (cases_Bool (n == 2)) [
        | inl is ↦ subst (NoneLarge code lists) (sym (eqb-true n 2 is)) (large_of code 2 lists.two fit.two)
        | inr b ↦ elim (cases_Bool (n == 3)) [
          | inl is ↦ subst (NoneLarge code lists) (sym (eqb-true n 3 is)) (large_of code 3 lists.three fit.three)
          | inr d ↦ elim (cases_Bool (n == 4)) [
            | inl is ↦ subst (NoneLarge code lists) (sym (eqb-true n 4 is)) (large_of code 4 lists.four fit.four)
            | inr e ↦ λ here. no_element (BeginsLarge code n) (rw (a, b, d, e) at here)
          ]
        ]
      ]
    ]

large_list : (code : ℕ) (lists : ByLength) → HasLargeStart code lists → ListsFit lists → ⊥
large_list code lists (len, any) fit = none_large code lists fit len any

obstacle_not : (file : File) (o : Obstacle) → IsObstacle file o → IsSayable file → ⊥
obstacle_not file Use h fit = not_all IsName (λ n. IsName n → ⊥) file.uses h (λ n not is. not is) fit.uses
obstacle_not file Name h fit = not_some IsSayableName file.metadata.name h fit.name
obstacle_not file CustomFamily h fit = not_some HasOwnFamily file.metadata.collection h fit.family
obstacle_not file (LargeCode code) (inl h) fit = not_all IsSpaceFitting (λ s. IsLargeEnd code s.len s.low s.high) file.lists.spaces h (λ s end fits. large_end code s end fits) fit.lists.spaces
obstacle_not file (LargeCode code) (inr (inl h)) fit = large_list code file.lists.notdefs h fit.lists.notdefs
obstacle_not file (LargeCode code) (inr (inr h)) fit = large_list code file.lists.cids h fit.lists.cids
obstacle_not file (EmptyText range) h fit = not_all HasUnits (IsEmptyText range) file.lists.bfs h (λ e (start, end, none) some. omega (arith, none, some)) fit.lists.texts

pub no_text : (file : File) (o : Obstacle) → IsObstacle file o → NoTextSays file
no_text file o h text small is = obstacle_not file o h (says_sayable text file small is)
