-- Items: what is read says what a list of items says, and each such list is read.
use Rattle.std.proofs.Common.{◌≡◌, ℕ, zero, suc, ◌<◌, ◌≤◌, Bool, true, false, refl, sym, ap, ◌∙◌, subst, List, [], ◌∷◌, length, arith, inl, inr}
use Rattle.std.proofs.lemmas.Bool.{cases_Bool, false≢true}
use Rattle.std.proofs.lemmas.Option.{none-some, same_Some}
use Rattle.std.proofs.lemmas.Slice.Eq.{bytes_eq-Decides}
use Rattle.std.specs.Prelude.{◌⊎◌, ◌↔◌, Contains, IsTrue, MatchOption, bytes_eq, find, flat_map, is_some, Option, Some, None, Ok, option_map}
use Rattle.cmap_values.specs.Only.{HoldsOfNone, IsOnly}
use Rattle.cmap_tokens.specs.Tokens.{Token}
use Rattle.cmap_tokens.specs.TokensLeft.{EndedToken, Left}
use Rattle.cmap_values.specs.declared.fault.Reason.TheVariants.{UseWithoutName}
use Rattle.cmap_text.specs.TextFiles.{Section, cids, mapped, notdef, range, keys, Item, key, entries, use_of_base, other, IsKey, IsOtherToken, Opens, IsItem, AreItems}
use Rattle.cmap_text.specs.TokenParsers.{after, followed_by, ItemParser, reads, done, giving, wanted, takes_value, next_in, repeated, repeated_within, round, run_item}
use Rattle.cmap_text.specs.TextReading.{adding, all_said, body_in, is_executable, item_after, item_said, key_in, opened_by, Said, sections, with_key, with_lists, with_other, with_use, opener, use_word}
use Rattle.cmap_text.proofs.TokensRead.{is_executable-found, no_answer, some_bound}
use Rattle.cmap_text.proofs.TokenParsers.{bound, same_Ok, err-ok, having, length-words, words, Implies, Means, Relation, IsThere, is_there, IsFound, is_found, known, then_found, repeated_next, wrong_there}
use Rattle.cmap_text.proofs.EntriesRead.{entries_there, entries_found}
use Rattle.cmap_text.proofs.ItemsSaid.{says, says_all}

abbrev opening : Section → Token
opening section = Token.Name false (opener section)

found_in : {A : Type 0} (test : A → Bool) (xs : List A) (x : A) → find test xs ≡ Some x → Contains xs x × (test x ≡ true)
found_in test [] x is = absurd (none-some x is)
found_in test (y ∷ xs) x is =
    elim (cases_Bool (test y)) [
      | inl passes ↦ let same = same_Some y x (rw passes at is) in ((zero, omega arith, same), ap test (sym same) ∙ passes)
      | inr fails ↦ let ((at, less, there), passes) = found_in test xs x (rw fails at is) in ((suc at, omega (arith, less), there), passes)
    ]

-- ---- sections, keys and other tokens by themselves
pub opened_by-own : (section : Section) → opened_by (opening section) ≡ Some section
opened_by-own (cids mapped range) = refl
opened_by-own (cids notdef range) = refl
opened_by-own _ = refl

pub opened_by-found : (t : Token) (section : Section) → opened_by t ≡ Some section → t ≡ opening section
opened_by-found t section is = is_executable-found (opener section) t (found_in (λ s. is_executable (opener s) t) sections section is).1

pub key_in-own : (k : List ℕ) → Contains keys k → key_in (Token.Name true k) ≡ Some k
key_in-own k (zero, less, is) = rw (← is) refl
key_in-own k (suc zero, less, is) = rw (← is) refl
key_in-own k (suc (suc zero), less, is) = rw (← is) refl
key_in-own k (suc (suc (suc zero)), less, is) = rw (← is) refl
key_in-own k (suc (suc (suc (suc zero))), less, is) = rw (← is) refl
key_in-own k (suc (suc (suc (suc (suc i)))), less, is) = absurd (omega arith)

pub key_in-found : (t : Token) (k : List ℕ) → key_in t ≡ Some k → Contains keys k × (t ≡ Token.Name true k)
key_in-found (Token.Name true name) k is = let (contained, named) = found_in (bytes_eq name) keys k is in (contained, ap (Token.Name true) ((bytes_eq-Decides name k).0 named))
key_in-found _ k is = absurd (none-some k is)

-- a key is what is found as one, and a section what a token opens
pub is_key_if : (t : Token) (found : Option (List ℕ)) → key_in t ≡ found → IsTrue (is_some found) ↔ IsKey t
is_key_if t None is = (λ some. absurd (false≢true some), λ (k, contained, named). absurd (none-some k (sym is ∙ ap key_in named ∙ key_in-own k contained)))
is_key_if t (Some k) is = (λ _. let (contained, named) = key_in-found t k is in (k, contained, named), λ _. refl)

pub finds_section : (t : Token) (found : Option Section) → opened_by t ≡ found → MatchOption found (HoldsOfNone (Opens t)) (IsOnly (Opens t))
finds_section t None is = λ section opens. none-some section (sym is ∙ ap opened_by opens ∙ opened_by-own section)
finds_section t (Some section) is = record {
  holds = opened_by-found t section is;
  alone = λ other opens. same_Some other section (sym (opened_by-own other) ∙ ap opened_by (sym opens) ∙ is);
}

-- what the first token of an item is
pub data Kind : Token → Type 0 where
  opens : (section : Section) → Kind (opening section)
  uses : Kind (Token.Name false use_word)
  takes : (k : List ℕ) → Contains keys k → Kind (Token.Name true k)
  alone : (t : Token) → IsOtherToken t → Kind t

cases_Option : {A : Type 0} (o : Option A) → (o ≡ None) ⊎ ((x : A) × (o ≡ Some x))
cases_Option None = inl refl
cases_Option (Some x) = inr (x, refl)

pub kind_of : (t : Token) → Kind t
kind_of t =
    elim (cases_Option (opened_by t)) [
      | inr (section, is) ↦ rw (opened_by-found t section is) (opens section)
      | inl no_section ↦ elim (cases_Bool (is_executable use_word t)) [
        | inl used ↦ rw (is_executable-found use_word t used) uses
        | inr no_use ↦ elim (cases_Option (key_in t)) [
          | inr (k, is) ↦ let (contained, named) = key_in-found t k is in rw named (takes k contained)
          | inl no_key ↦ alone t (
            λ k contained same. none-some k (sym no_key ∙ ap key_in same ∙ key_in-own k contained),
            λ section same. none-some section (sym no_section ∙ ap opened_by same ∙ opened_by-own section),
            λ same. false≢true (sym no_use ∙ ap (is_executable use_word) same),
          )
        ]
      ]
    ]

abbrev item_of : Said → {t : Token} → Kind t → ItemParser Said
item_of old (opens section) = reads (giving (with_lists old) (body_in section old.lists))
item_of old uses = wanted UseWithoutName (option_map (with_use old) old.operand)
item_of old (takes k contained) = takes_value (with_key old k)
item_of old (alone t plain) = reads (done (with_other old t))

other_after : (old : Said) (t : Token) → IsOtherToken t → item_after old t ≡ reads (done (with_other old t))
other_after old t (no_key, no_opener, no_use) =
    let key_none = no_answer (key_in t) (λ k is. let (contained, named) = key_in-found t k is in no_key k contained named) in
    let section_none = no_answer (opened_by t) (λ section is. no_opener section (opened_by-found t section is)) in
    let use_none : is_executable use_word t ≡ false = elim (cases_Bool (is_executable use_word t)) [ inl used ↦ absurd (no_use (is_executable-found use_word t used)) | inr differs ↦ differs ] in
    rw (section_none, use_none, key_none, item_after) refl

item_as : (old : Said) {t : Token} (kind : Kind t) → item_after old t ≡ item_of old kind
item_as old (opens section) = rw (opened_by-own section, item_after) refl
item_as old uses = refl
item_as old (takes k contained) = rw (key_in-own k contained, item_after) refl
item_as old (alone t plain) = other_after old t plain

-- ---- what comes after the first token of an item
-- the next token, or none at the end
abbrev IsNext : Bool → Relation (Option Token)
IsNext ends tokens None rest = (tokens ≡ []) × (rest ≡ []) × (ends ≡ true)
IsNext ends tokens (Some t) rest = tokens ≡ t ∷ rest

abbrev MeansItem : {A : Type 0} → Bool → ItemParser A → Relation A
MeansItem ends (reads parser) tokens x rest = Means parser tokens x rest
MeansItem ends (wanted reason found) tokens x rest = (found ≡ Some x) × (tokens ≡ rest)
MeansItem ends (takes_value set) tokens x rest = (value : Option Token) × IsNext ends tokens value rest × (x ≡ set value)

abbrev ending : Bool → Left → Left
ending ends left = record { passed = left.passed; tokens = left.tokens; ends = ends; kind = left.kind; stop = left.stop }

next_there : (left : Left) (p : Option Token × Left) → next_in left ≡ Ok p → IsThere (IsNext left.ends) left p
next_there left p is = at left.tokens left.ends is
  where
    at : (tokens : List EndedToken) (ends : Bool) → next_in (ending ends (having tokens left)) ≡ Ok p → IsThere (IsNext ends) (ending ends (having tokens left)) p
    at [] true e = subst (IsThere (IsNext true) (ending true (having [] left))) (same_Ok _ p e) ((refl, refl, refl), refl, omega arith)
    at [] false e = absurd (err-ok _ p e)
    at (q ∷ rest) ends e = subst (IsThere (IsNext ends) (ending ends (having (q ∷ rest) left))) (same_Ok _ p e) (refl, refl, omega arith)

next_found : (left : Left) (tokens : List Token) (value : Option Token) (rest : List Token) → words left ≡ tokens → IsNext left.ends tokens value rest → IsFound (next_in left) value rest left
next_found left tokens value rest whole is = at left.tokens value whole is
  where
    at : (placed : List EndedToken) (v : Option Token) → words (having placed left) ≡ tokens → IsNext left.ends tokens v rest → IsFound (next_in (having placed left)) v rest (having placed left)
    at [] None e (none, end, ends) = rw ends (known refl (sym end))
    at (q ∷ others) None e (none, end, ends) = absurd (cc)
    at [] (Some t) e comes = absurd (cc)
    at (q ∷ others) (Some t) e comes =
        let token : q.token ≡ t = cc in
        record { next = after q others left; is = ap (λ u. Ok (Some u, after q others left)) token; whole = cc; ends = refl }

item_there : {A : Type 0} (t : Token) (i : ItemParser A) (left : Left) (p : A × Left) → run_item t i left ≡ Ok p → IsThere (MeansItem left.ends i) left p
item_there t (reads parser) left p is = is_there parser left p is
item_there t (wanted reason found) left p is = wrong_there reason found t left p is
item_there t (takes_value set) left p is =
    let (q, next, later) = bound _ (next_in left) p is in
    let (means, ends, fewer) = next_there left q next in
    subst (IsThere (MeansItem left.ends (takes_value set)) left) (same_Ok (set q.0, q.1) p later) ((q.0, means, refl), ends, fewer)

item_found : {A : Type 0} (t : Token) (i : ItemParser A) (left : Left) (tokens : List Token) (x : A) (rest : List Token) → words left ≡ tokens → MeansItem left.ends i tokens x rest → IsFound (run_item t i left) x rest left
item_found t (reads parser) left tokens x rest at means = is_found parser tokens x rest means left at
item_found t (wanted reason found) left tokens x rest at (is, whole) = rw is (known refl (at ∙ whole))
item_found t (takes_value set) left tokens x rest at (value, next, same) = then_found (λ v n. Ok (set v, n)) (next_found left tokens value rest at next) (λ n. known (sym same))

-- ---- items
-- an item that says this
abbrev Says : Said → Relation Said
Says old tokens new rest = (item : Item) × IsItem tokens item rest × (says old item ≡ Some new)

-- the first token of an item, and what is read after it
abbrev IsBegun : Bool → Said → Relation Said
IsBegun ends old tokens new rest = (t : Token) × (kind : Kind t) × (later : List Token) × (tokens ≡ t ∷ later) × MeansItem ends (item_of old kind) later new rest

is_item : (ends : Bool) (old : Said) → Implies (IsBegun ends old) (Says old)
is_item ends old tokens new rest (t, opens section, later, begins, (lists, (n, rounds), same)) =
    let (each, are, lists_are) = entries_there section n old.lists later lists rest rounds in
    (entries _, (section, later, each, begins, are, refl), ap (λ l. Some (with_lists old l)) (sym lists_are) ∙ ap Some (sym same))
is_item ends old tokens new rest (t, uses, later, begins, (said, whole)) = (use_of_base, cc, said)
is_item ends old tokens new rest (t, takes k contained, later, begins, (None, (none, end, is), same)) = (key k None, (contained, cc, end), ap Some (sym same))
is_item ends old tokens new rest (t, takes k contained, later, begins, (Some value, whole, same)) = (key k (Some value), (contained, cc), ap Some (sym same))
is_item ends old tokens new rest (t, alone u plain, later, begins, (same, whole)) = (other u, (plain, cc), ap Some same)

is_begun : (old : Said) → Implies (Says old) (IsBegun true old)
is_begun old tokens new rest (key k None, (contained, shape, none), said) = (_, takes k contained, _, shape, (None, (refl, none, refl), sym (same_Some _ new said)))
is_begun old tokens new rest (key k (Some value), (contained, shape), said) = (_, takes k contained, _, shape, (Some value, refl, sym (same_Some _ new said)))
is_begun old tokens new rest (entries declared, (section, body, each, shape, are, declares), said) =
    (_, opens section, _, shape, (adding old.lists (flat_map (λ ds. ds) each), (length each, entries_found section each old.lists body rest are), sym (same_Some _ new said) ∙ ap (λ ds. with_lists old (adding old.lists ds)) declares))
is_begun old tokens new rest (use_of_base, shape, said) = (_, uses, _, shape, (said, refl))
is_begun old tokens new rest (other t, (plain, shape), said) = (_, alone t plain, _, shape, (same_Some _ new said, refl))

-- ---- an item by itself
begun_now : (ends : Bool) (old : Said) (tokens : List Token) (new : Said) (rest : List Token) (item : Item) → IsItem tokens item rest → says old item ≡ Some new → ((k : List ℕ) × (item ≡ key k None)) ⊎ IsBegun ends old tokens new rest
begun_now ends old tokens new rest (key k None) is said = inl (k, refl)
begun_now ends old tokens new rest (key k (Some value)) (contained, shape) said = inr (_, takes k contained, _, shape, (Some value, refl, sym (same_Some _ new said)))
begun_now ends old tokens new rest (entries declared) (section, body, each, shape, are, declares) said =
    inr (_, opens section, _, shape, (adding old.lists (flat_map (λ ds. ds) each), (length each, entries_found section each old.lists body rest are), sym (same_Some _ new said) ∙ ap (λ ds. with_lists old (adding old.lists ds)) declares))
begun_now ends old tokens new rest use_of_base shape said = inr (_, uses, _, shape, (said, refl))
begun_now ends old tokens new rest (other t) (plain, shape) said = inr (_, alone t plain, _, shape, (same_Some _ new said, refl))

-- what follows its first token is read, whether the text ends after all tokens or not, unless it is a key without a value
pub one_found : (item : Item) (old : Said) (p : EndedToken) (others : List EndedToken) (left : Left) (new : Said) (rest : List Token) → IsItem (p.token ∷ words (after p others left)) item rest → says old item ≡ Some new
    → ((k : List ℕ) × (item ≡ key k None)) ⊎ IsFound (item_said old p.token (after p others left)) new rest (after p others left)
one_found item old p others left new rest is said = by (begun_now left.ends old (p.token ∷ words (after p others left)) new rest item is said)
  where
    next : Left
    next = after p others left

    by : ((k : List ℕ) × (item ≡ key k None)) ⊎ IsBegun left.ends old (p.token ∷ words next) new rest → ((k : List ℕ) × (item ≡ key k None)) ⊎ IsFound (item_said old p.token next) new rest next
    by (inl none) = inl none
    by (inr (t, kind, later, shape, means)) =
        let token : t ≡ p.token = cc in
        let whole : words next ≡ later = cc in
        inr (subst (λ u. IsFound (item_said old u next) new rest next) token (item_found t (item_after old t) next later new rest whole (rw (item_as old kind) means)))

pub no_item : (item : Item) (rest : List Token) → IsItem [] item rest → ⊥
no_item (key k None) rest (contained, shape, end) = cc
no_item (key k (Some value)) rest (contained, shape) = cc
no_item (entries declared) rest (section, body, each, shape, are, declares) = cc
no_item use_of_base rest shape = cc
no_item (other t) rest (plain, shape) = cc

-- the items that say this
abbrev Say : Said → Left → Said → Type 0
Say old here said = (here.ends ≡ true) × (items : List Item) × AreItems (words here) items × (says_all old items ≡ Some said)

items_there : (count : ℕ) (old : Said) (here : Left) (p : Said × Left) → repeated_within count next_in item_said old here ≡ Ok p → Say old here p.0
unfolding repeated_within
items_there zero old here p is = absurd (err-ok _ p is)
items_there (suc count) old here p is =
    let (q, first, later) = bound _ (next_in here) p is in
    let (next, ends, fewer) = next_there here q first in
    from q.0 q.1 next ends later (items_there count)
  where
    from : (found : Option Token) (next : Left) → IsNext here.ends (words here) found (words next) → next.ends ≡ here.ends → round (repeated_within count next_in item_said) item_said old found next ≡ Ok p
        → ((new : Said) (mid : Left) (r : Said × Left) → repeated_within count next_in item_said new mid ≡ Ok r → Say new mid r.0) → Say old here p.0
    from None next (none, end, is_end) ends e again = (is_end, [], none, ap (λ r. Some r.0) (same_Ok (old, next) p e))
    from (Some t) next whole ends e again =
        let (r, goes_on, later) = bound _ (item_said old t next) p e in
        let (means, item_ends, fewer) = item_there t (item_after old t) next r goes_on in
        let kind = kind_of t in
        let (item, is_one, said) = is_item next.ends old (words here) r.0 (words r.1) (t, kind, words next, whole, subst (λ i. MeansItem next.ends i (words next) r.0 (words r.1)) (item_as old kind) means) in
        let (end, items, are, sayings) = again r.0 r.1 p later in
        (sym ends ∙ sym item_ends ∙ end, item ∷ items, (words r.1, is_one, are), rw said sayings)

pub all_there : (old : Said) (here : Left) (p : Said × Left) → all_said old here ≡ Ok p → Say old here p.0
unfolding all_said repeated
all_there old here p is = items_there _ old here p is

pub next-shorter : (left : Left) (t : Token) (next : Left) → next_in left ≡ Ok (Some t, next) → length next.tokens < length left.tokens
next-shorter left t next is = omega (arith, length-words left, length-words next, ap length (next_there left (Some t, next) is).0)

pub item-shorter : {A : Type 0} (t : Token) (i : ItemParser A) (left : Left) (p : A × Left) → run_item t i left ≡ Ok p → length p.1.tokens ≤ length left.tokens
item-shorter t i left p is = (item_there t i left p is).2

pub said_next : (now : Said) (here : Left) → all_said now here ≡ followed_by (round all_said item_said now) (next_in here)
unfolding all_said
said_next = repeated_next next_in item_said next-shorter (λ s t. item-shorter t (item_after s t))

pub all_found : (items : List Item) (old : Said) (here : Left) (said : Said) → AreItems (words here) items → here.ends ≡ true → says_all old items ≡ Some said → (left : Left) × (all_said old here ≡ Ok (said, left))
all_found [] old here said are ends sayings =
    let first = next_found here (words here) None [] refl (are, refl, ends) in
    (first.next, rw (said_next old here, first.is) (ap (λ s. Ok (s, first.next)) (same_Some old said sayings)))
all_found (item ∷ items) old here said (rest, is, are) ends sayings =
    let (mid, says_item, says_rest) = some_bound (λ mid. says_all mid items) (says old item) said sayings in
    let (t, kind, later, shape, means) = is_begun old (words here) mid rest (item, is, says_item) in
    let first = next_found here (words here) (Some t) later refl shape in
    let still_ends = first.ends ∙ ends in
    let read = item_found t (item_after old t) first.next later mid rest first.whole (rw (item_as old kind, still_ends) means) in
    let (left, others) = all_found items mid read.next said (rw read.whole are) (rw read.ends still_ends) says_rest in
    (left, rw (said_next old here, first.is, read.is) others)
