-- The faults that are listed: those of each file once, where it is first opened.
use Rattle.std.proofs.Common.{◌≡◌, ◌-◌, ◌<◌, ℕ, zero, suc, arith, inl, inr, refl, sym, ap, subst, ◌∙◌, Bool, true, false, cond, List, [], ◌∷◌, ◌++◌, length, append-nil, append_assoc, Option, Some, None}
use Rattle.std.specs.Prelude.{◌==◌, ◌&&◌, ◌||◌, ◌⊎◌, IfSome, map, option_map, slice_get}
use Rattle.std.proofs.lemmas.Bool.{cases_eq}
use Rattle.std.specs.BTreeMap.{get_by}
use Rattle.std.specs.List.{All, last_or, list_any}
use Rattle.std.specs.Ordering.{nat_cmp}
use Rattle.std.proofs.lemmas.List.{map-append}
use Rattle.std.proofs.lemmas.List.Elements.{All-append, All-cons, All-head, All-nil, All-tail}
use Rattle.std.proofs.lemmas.List.Folds.{list_any-append}
use Rattle.std.proofs.lemmas.Slice.Eq.{bytes_eq-Decides}
use Rattle.cmap_values.specs.declared.fault.Stop.{Stop}
use Rattle.cmap_load.specs.Salvage.{NamedFault, Reading, faults_of, is_fault_of, is_listed, is_name, is_same_kind, list_causes, list_each}
use Rattle.cmap_load.specs.Numbers.{AreDistinct, AreWithin, text_at}
use Rattle.cmap_load.specs.SalvageSeen.{AddsFaults, AddsNothing, AreMarked, AreNamed, NumberedFault, ReadingAddsNothing, fault_named, fault_of, found_of, has_kind, has_kind_of, is_last, is_marked, is_marked_last, listed}
use Rattle.cmap_load.specs.declared.faults.Faults.{Faults}
use Rattle.cmap_load.specs.declared.faults.Kinds.{Kinds}
use Rattle.cmap_load.specs.declared.refusal.Cause.{Cause}
use Rattle.cmap_load.specs.declared.refusal.Cause.TheVariants.{Malformed, NoFile, ChainLength, OverBudget}
use Rattle.cmap_load.specs.declared.faults.FoundFault.{FoundFault}
use Rattle.cmap_load.proofs.Numbered.{text_at-there}
use Rattle.cmap_load.proofs.NumbersEqual.{equal-is, equal-not, same_text}

-- ---- one after another
pub list_each-append : (faults : List NamedFault) (first more : List Reading) → list_each faults (first ++ more) ≡ list_each (list_each faults first) more
list_each-append faults [] more = refl
list_each-append faults (reading ∷ first) more = list_each-append (list_causes faults reading.names reading.causes) first more

-- what is listed stays, with more after it
abbrev IsFrontOf : List NamedFault → List NamedFault → Type 0
IsFrontOf front whole = (rest : List NamedFault) × (whole ≡ front ++ rest)

either : (faults more : List NamedFault) (here : Bool) → IsFrontOf faults (cond here faults (faults ++ more))
either faults more true = ([], sym (append-nil faults))
either faults more false = (more, refl)

list_causes-front : (faults : List NamedFault) (names : List (List ℕ)) (causes : List Cause) → IsFrontOf faults (list_causes faults names causes)
list_causes-front faults names [] = ([], sym (append-nil faults))
list_causes-front faults names (cause ∷ more) = either faults (faults_of names (cause ∷ more)) (is_listed faults (last_or None names) cause)

pub list_each-front : (faults : List NamedFault) (readings : List Reading) → IsFrontOf faults (list_each faults readings)
list_each-front faults [] = ([], sym (append-nil faults))
list_each-front faults (reading ∷ readings) =
    let (here, first) = list_causes-front faults reading.names reading.causes in
    let (later, whole) = list_each-front (list_causes faults reading.names reading.causes) readings in
    (here ++ later, whole ∙ ap (λ f. f ++ later) first ∙ append_assoc faults here later)

-- ---- nothing, or something
-- without faults nothing is listed
pub list_each-none : (faults : List NamedFault) (readings : List Reading) → All (λ (r : Reading). r.causes ≡ []) readings → list_each faults readings ≡ faults
list_each-none faults [] none = refl
list_each-none faults (reading ∷ readings) none =
    let here = All-head (λ (r : Reading). r.causes ≡ []) reading readings none in
    ap (λ c. list_each (list_causes faults reading.names c) readings) here ∙ list_each-none faults readings (All-tail (λ (r : Reading). r.causes ≡ []) reading readings none)

none_listed : (name : Option (List ℕ)) (cause : Cause) → is_listed [] name cause ≡ false
none_listed None cause = refl
none_listed (Some name) cause = refl

-- the first fault is the first that is listed
pub list_each-first : (before more : List Reading) (reading : Reading) (cause : Cause) (causes : List Cause) → All (λ (r : Reading). r.causes ≡ []) before → reading.causes ≡ cause ∷ causes
    → (rest : List NamedFault) × (list_each [] (before ++ reading ∷ more) ≡ record { names = reading.names; cause = cause } ∷ rest)
list_each-first before more reading cause causes none begins =
    let first : NamedFault = record { names = reading.names; cause = cause } in
    let alone : list_causes [] reading.names (cause ∷ causes) ≡ first ∷ faults_of reading.names causes = ap (λ b. cond b [] (faults_of reading.names (cause ∷ causes))) (none_listed (last_or None reading.names) cause) in
    let (rest, whole) = list_each-front (first ∷ faults_of reading.names causes) more in (
      faults_of reading.names causes ++ rest,
      list_each-append [] before (reading ∷ more) ∙ ap (λ f. list_each f (reading ∷ more)) (list_each-none [] before none) ∙ ap (λ c. list_each (list_causes [] reading.names c) more) begins ∙ ap (λ f. list_each f more) alone ∙ whole,
    )

-- ---- what holds of each
module _ (P : List (List ℕ) → Type 0) where
  abbrev Named : NamedFault → Type 0
  Named fault = P fault.names

  of_all : (names : List (List ℕ)) (causes : List Cause) → P names → All Named (faults_of names causes)
  of_all names [] holds = All-nil Named
  of_all names (cause ∷ causes) holds = All-cons Named (record { names = names; cause = cause }) (faults_of names causes) holds (of_all names causes holds)

  if_either : (faults more : List NamedFault) (here : Bool) → All Named faults → All Named more → All Named (cond here faults (faults ++ more))
  if_either faults more true so_far holds = so_far
  if_either faults more false so_far holds = All-append Named faults more so_far holds

  list_causes-All : (faults : List NamedFault) (names : List (List ℕ)) (causes : List Cause) → All Named faults → P names → All Named (list_causes faults names causes)
  list_causes-All faults names [] so_far holds = so_far
  list_causes-All faults names (cause ∷ more) so_far holds = if_either faults (faults_of names (cause ∷ more)) (is_listed faults (last_or None names) cause) so_far (of_all names (cause ∷ more) holds)

  pub list_each-All : (faults : List NamedFault) (readings : List Reading) → All Named faults → All (λ (r : Reading). P r.names) readings → All Named (list_each faults readings)
  list_each-All faults [] so_far holds = so_far
  list_each-All faults (reading ∷ readings) so_far holds =
      list_each-All (list_causes faults reading.names reading.causes) readings
      (list_causes-All faults reading.names reading.causes so_far (All-head (λ (r : Reading). P r.names) reading readings holds))
      (All-tail (λ (r : Reading). P r.names) reading readings holds)

-- ---- once
pub or_true : (a b : Bool) → a ≡ true → (a || b) ≡ true
or_true a b is = rw is refl

any_first : {A : Type 0} (p : A → Bool) (x : A) (xs : List A) → p x ≡ true → list_any p (x ∷ xs) ≡ true
any_first p x xs is = rw is refl

any_later : {A : Type 0} (p : A → Bool) (xs ys : List A) → list_any p ys ≡ true → list_any p (xs ++ ys) ≡ true
any_later p xs ys is = list_any-append p xs ys ∙ or_second (list_any p xs) (list_any p ys) is
  where
    or_second : (a b : Bool) → b ≡ true → (a || b) ≡ true
    or_second true b is = refl
    or_second false b is = is

pub AddsNothing-more : (faults more : List NamedFault) (name : Option (List ℕ)) (causes : List Cause) → AddsNothing faults name causes → AddsNothing (faults ++ more) name causes
AddsNothing-more faults more None causes nothing = tt
AddsNothing-more faults more (Some name) [] nothing = tt
AddsNothing-more faults more (Some name) (cause ∷ causes) nothing = list_any-append (is_fault_of name cause) faults more ∙ or_true _ _ nothing

-- so nothing more is listed
pub adds_nothing : (faults : List NamedFault) (names : List (List ℕ)) (causes : List Cause) (name : List ℕ) → last_or None names ≡ Some name → AddsNothing faults (last_or None names) causes → list_causes faults names causes ≡ faults
adds_nothing faults names [] name is nothing = refl
adds_nothing faults names (cause ∷ causes) name is nothing =
    let here : list_any (is_fault_of name cause) faults ≡ true = rw is at nothing in
    ap (λ n. cond (is_listed faults n cause) faults (faults ++ faults_of names (cause ∷ causes))) is ∙ ap (λ b. cond b faults (faults ++ faults_of names (cause ∷ causes))) here

same_kind : (cause : Cause) → is_same_kind cause cause ≡ true
same_kind (Malformed stop) = refl
same_kind NoFile = refl
same_kind ChainLength = refl
same_kind OverBudget = refl

is_of_itself : (name : List ℕ) (names : List (List ℕ)) (cause : Cause) → last_or None names ≡ Some name → is_fault_of name cause (record { names = names; cause = cause }) ≡ true
is_of_itself name names cause is = ap (λ n. is_name name n && is_same_kind cause cause) is ∙ rw ((bytes_eq-Decides name name).1 refl, same_kind cause) refl

-- what is listed adds nothing more
then_nothing : (faults : List NamedFault) (names : List (List ℕ)) (name : Option (List ℕ)) (causes : List Cause) → last_or None names ≡ name → AddsNothing (list_causes faults names causes) name causes
then_nothing faults names None causes is = tt
then_nothing faults names (Some name) [] is = tt
then_nothing faults names (Some name) (cause ∷ causes) is = by (is_listed faults (last_or None names) cause) refl
  where
    more : List NamedFault
    more = faults_of names (cause ∷ causes)

    by : (here : Bool) → is_listed faults (last_or None names) cause ≡ here → list_any (is_fault_of name cause) (cond here faults (faults ++ faults_of names (cause ∷ causes))) ≡ true
    by true listed = ap (λ n. is_listed faults n cause) (sym is) ∙ listed
    by false listed = any_later (is_fault_of name cause) faults (faults_of names (cause ∷ causes)) (any_first (is_fault_of name cause) (record { names = names; cause = cause }) (faults_of names causes) (is_of_itself name names cause is))

pub ReadingAddsNothing-more : (faults : List NamedFault) (readings : List Reading) (reading : Reading) → ReadingAddsNothing faults reading → ReadingAddsNothing (list_each faults readings) reading
ReadingAddsNothing-more faults readings reading nothing =
    let (more, is) = list_each-front faults readings in
    subst (λ f. ReadingAddsNothing f reading) (sym is) (AddsNothing-more faults more (last_or None reading.names) reading.causes nothing)

pub all_listed : (faults : List NamedFault) (readings : List Reading) → All (ReadingAddsNothing (list_each faults readings)) readings
all_listed faults [] = All-nil (ReadingAddsNothing faults)
all_listed faults (reading ∷ readings) =
    let now = list_causes faults reading.names reading.causes in
    All-cons (ReadingAddsNothing (list_each now readings)) reading readings
    (ReadingAddsNothing-more now readings reading (then_nothing faults reading.names (last_or None reading.names) reading.causes refl))
    (all_listed now readings)

-- nothing more is listed of readings of files with names whose faults are listed
abbrev pub IsNamed : Reading → Type 0
IsNamed reading = (name : List ℕ) × (last_or None reading.names ≡ Some name)

pub list_each-again : (faults : List NamedFault) (readings : List Reading) → All (ReadingAddsNothing faults) readings → All IsNamed readings → list_each faults readings ≡ faults
list_each-again faults [] nothing named = refl
list_each-again faults (reading ∷ readings) nothing named =
    let (name, is) = All-head IsNamed reading readings named in
    let here = adds_nothing faults reading.names reading.causes name is (All-head (ReadingAddsNothing faults) reading readings nothing) in
    ap (λ f. list_each f readings) here ∙ list_each-again faults readings (All-tail (ReadingAddsNothing faults) reading readings nothing) (All-tail IsNamed reading readings named)

-- ---- marks
or_false : (a : Bool) → (a || false) ≡ a
or_false true = refl
or_false false = refl

pub any_one : (names : List (List ℕ)) (cause : Cause) (name : List ℕ) (kind : Cause) → list_any (is_fault_of name kind) (faults_of names (cause ∷ [])) ≡ (is_name name (last_or None names) && is_same_kind kind cause)
any_one names cause name kind = or_false (is_name name (last_or None names) && is_same_kind kind cause)

-- a fault of this kind is among those that are added
pub any_stops : (name : List ℕ) (cause : Cause) (names : List (List ℕ)) (stop : Stop) (stops : List Stop)
    → list_any (is_fault_of name cause) (faults_of names (map Malformed (stop ∷ stops))) ≡ (is_name name (last_or None names) && is_same_kind cause (Malformed stop))
any_stops name cause names stop [] = any_one names (Malformed stop) name cause
any_stops name cause names stop (other ∷ stops) =
    ap (λ b. (is_name name (last_or None names) && is_same_kind cause (Malformed stop)) || b) (any_stops name cause names other stops ∙ ap (λ k. is_name name (last_or None names) && k) (one_kind cause)) ∙ or_self (is_name name (last_or None names) && is_same_kind cause (Malformed stop))
  where
    one_kind : (cause : Cause) → is_same_kind cause (Malformed other) ≡ is_same_kind cause (Malformed stop)
    one_kind (Malformed this) = refl
    one_kind NoFile = refl
    one_kind ChainLength = refl
    one_kind OverBudget = refl

    or_self : (a : Bool) → (a || a) ≡ a
    or_self true = refl
    or_self false = refl

-- one more is marked
pub marked_more : (key number : ℕ) (kinds : Kinds) (old new : Faults) (cause other : Cause) → get_by (λ k. nat_cmp number k) new.kinds ≡ cond (key == number) (Some kinds) (get_by (λ k. nat_cmp number k) old.kinds)
    → has_kind kinds other ≡ (is_same_kind other cause || is_marked old key other) → is_marked new number other ≡ (is_last number (Some key) && is_same_kind other cause || is_marked old number other)
marked_more key number kinds old new cause other updates has = by (cases_eq key number)
  where
    by : (key ≡ number) ⊎ (key ≡ number → ⊥) → is_marked new number other ≡ (is_last number (Some key) && is_same_kind other cause || is_marked old number other)
    by (inl same) =
        ap (λ k. has_kind_of k other) (updates ∙ ap (λ b. cond b (Some kinds) (get_by (λ k. nat_cmp number k) old.kinds)) (equal-is key number same)) ∙ has
        ∙ ap (λ n. is_same_kind other cause || is_marked old n other) same
        ∙ ap (λ b. b && is_same_kind other cause || is_marked old number other) (sym (equal-is key number same))
    by (inr differs) =
        ap (λ k. has_kind_of k other) (updates ∙ ap (λ b. cond b (Some kinds) (get_by (λ k. nat_cmp number k) old.kinds)) (equal-not key number differs))
        ∙ ap (λ b. b && is_same_kind other cause || is_marked old number other) (sym (equal-not key number differs))

or_swap : (a b : Bool) → (a || b) ≡ (b || a)
or_swap true true = refl
or_swap true false = refl
or_swap false true = refl
or_swap false false = refl

-- the last of numbers, and the last of their names
last_mapped : (texts : List (List ℕ)) (start : Option ℕ) (numbers : List ℕ) → last_or (option_map (text_at texts) start) (map (text_at texts) numbers) ≡ option_map (text_at texts) (last_or start numbers)
last_mapped texts start [] = refl
last_mapped texts start (number ∷ numbers) = last_mapped texts (Some number) numbers

last_within : (texts : List (List ℕ)) (start : Option ℕ) (numbers : List ℕ) → IfSome start (λ number. number < length texts) → AreWithin texts numbers → IfSome (last_or start numbers) (λ number. number < length texts)
last_within texts start [] within all = within
last_within texts start (number ∷ numbers) within all = last_within texts (Some number) numbers (All-head (λ number. number < length texts) number numbers all) (All-tail (λ number. number < length texts) number numbers all)

is_name_last : (texts : List (List ℕ)) (number : ℕ) (name : List ℕ) (last : Option ℕ) → AreDistinct texts → IfSome last (λ other. other < length texts) → slice_get texts number ≡ Some name → is_name name (option_map (text_at texts) last) ≡ is_last number last
is_name_last texts number name None distinct within said = refl
is_name_last texts number name (Some other) distinct within said = same_text texts number other name distinct within said

pub found_all : (texts : List (List ℕ)) (faults : List FoundFault) → map (fault_named texts) faults ≡ map (fault_of texts) (map found_of faults)
found_all texts [] = refl
found_all texts (fault ∷ faults) = ap (λ l. fault_named texts fault ∷ l) (found_all texts faults)

-- these faults of the file that the names of these numbers lead to
abbrev pub numbered : List ℕ → List Cause → List NumberedFault
numbered numbers causes = map (λ cause. record { names = numbers; cause = cause }) causes

numbered_all : (texts : List (List ℕ)) (numbers : List ℕ) (causes : List Cause) → map (fault_of texts) (numbered numbers causes) ≡ faults_of (map (text_at texts) numbers) causes
numbered_all texts numbers [] = refl
numbered_all texts numbers (cause ∷ causes) = ap (λ l. record { names = map (text_at texts) numbers; cause = cause } ∷ l) (numbered_all texts numbers causes)

names_within : (texts : List (List ℕ)) (faults : List FoundFault) (found : List NumberedFault) → map found_of faults ≡ found → All (λ fault. AreWithin texts fault.names) found → AreNamed texts faults
names_within texts [] found are all = All-nil (λ fault. AreWithin texts fault.names.items)
names_within texts (fault ∷ faults) found are all =
    let within = subst (All (λ (f : NumberedFault). AreWithin texts f.names)) (sym are) all in
    All-cons (λ (f : FoundFault). AreWithin texts f.names.items) fault faults (All-head (λ (f : NumberedFault). AreWithin texts f.names) (found_of fault) (map found_of faults) within)
    (names_within texts faults (map found_of faults) refl (All-tail (λ (f : NumberedFault). AreWithin texts f.names) (found_of fault) (map found_of faults) within))

names_found : (texts : List (List ℕ)) (faults : List FoundFault) → AreNamed texts faults → All (λ fault. AreWithin texts fault.names) (map found_of faults)
names_found texts [] all = All-nil (λ fault. AreWithin texts fault.names)
names_found texts (fault ∷ faults) all = All-cons (λ (f : NumberedFault). AreWithin texts f.names) (found_of fault) (map found_of faults) (All-head (λ (f : FoundFault). AreWithin texts f.names.items) fault faults all) (names_found texts faults (All-tail (λ (f : FoundFault). AreWithin texts f.names.items) fault faults all))

numbered_within : (texts : List (List ℕ)) (numbers : List ℕ) (causes : List Cause) → AreWithin texts numbers → All (λ fault. AreWithin texts fault.names) (numbered numbers causes)
numbered_within texts numbers [] within = All-nil (λ fault. AreWithin texts fault.names)
numbered_within texts numbers (cause ∷ causes) within = All-cons (λ (f : NumberedFault). AreWithin texts f.names) (record { names = numbers; cause = cause }) (numbered numbers causes) within (numbered_within texts numbers causes within)

module _ (old new : Faults) (numbers : List ℕ) (cause : Cause) (more : List Cause) where
  -- such a fault is listed exactly if it is marked
  listed_as : (texts : List (List ℕ)) → AreWithin texts numbers → AreMarked texts old → (last : Option ℕ) → last_or None numbers ≡ last → is_marked_last old last cause ≡ is_listed (listed texts old) (option_map (text_at texts) last) cause
  listed_as texts within marked None is = refl
  listed_as texts within marked (Some number) is =
      let lt = subst (λ l. IfSome l (λ n. n < length texts)) is (last_within texts None numbers tt within) in
      marked.marks number (text_at texts number) cause (text_at-there texts number lt)

  listed_is : (texts : List (List ℕ)) → AreWithin texts numbers → AreMarked texts old → is_listed (listed texts old) (last_or None (map (text_at texts) numbers)) cause ≡ is_marked_last old (last_or None numbers) cause
  listed_is texts within marked = ap (λ l. is_listed (listed texts old) l cause) (last_mapped texts None numbers) ∙ sym (listed_as texts within marked (last_or None numbers) refl)

  -- such a fault is listed already
  pub lists_same : is_marked_last old (last_or None numbers) cause ≡ true → AddsFaults old old numbers (cause ∷ more)
  lists_same is = record {
    over = λ texts distinct within marked.
        let names = map (text_at texts) numbers in
        record { all = ap (λ b. cond b (listed texts old) (listed texts old ++ faults_of names (cause ∷ more))) (sym (listed_is texts within marked ∙ is)); marked = marked };
  }

  -- none is
  pub lists_new : is_marked_last old (last_or None numbers) cause ≡ false → map found_of new.list.items ≡ map found_of old.list.items ++ numbered numbers (cause ∷ more)
      → ((names : List (List ℕ)) (name : List ℕ) (kind : Cause) → list_any (is_fault_of name kind) (faults_of names (cause ∷ more)) ≡ (is_name name (last_or None names) && is_same_kind kind cause))
      → ((number : ℕ) (kind : Cause) → is_marked new number kind ≡ (is_last number (last_or None numbers) && is_same_kind kind cause || is_marked old number kind)) → AddsFaults old new numbers (cause ∷ more)
  lists_new is added found marks = record {
    over = λ texts distinct within marked.
        let names = map (text_at texts) numbers in
        let all : listed texts new ≡ listed texts old ++ faults_of names (cause ∷ more) =
        found_all texts new.list.items ∙ ap (map (fault_of texts)) added ∙ map-append (fault_of texts) (map found_of old.list.items) (numbered numbers (cause ∷ more))
        ∙ ap (λ l. l ++ map (fault_of texts) (numbered numbers (cause ∷ more))) (sym (found_all texts old.list.items)) ∙ ap (λ l. listed texts old ++ l) (numbered_all texts numbers (cause ∷ more)) in
        record {
          all = all ∙ ap (λ b. cond b (listed texts old) (listed texts old ++ faults_of names (cause ∷ more))) (sym (listed_is texts within marked ∙ is));
          marked = record {
            marks = λ number name kind said.
                let any = list_any (is_fault_of name kind) in
                let here = is_name name (last_or None names) && is_same_kind kind cause in
                let last : is_last number (last_or None numbers) ≡ is_name name (last_or None names) =
                sym (ap (is_name name) (last_mapped texts None numbers) ∙ is_name_last texts number name (last_or None numbers) distinct (last_within texts None numbers tt within) said) in
                marks number kind ∙ ap (λ b. b && is_same_kind kind cause || is_marked old number kind) last
                ∙ ap (λ m. here || m) (marked.marks number name kind said) ∙ or_swap here (any (listed texts old)) ∙ ap (λ m. any (listed texts old) || m) (sym (found names name kind))
                ∙ sym (list_any-append (is_fault_of name kind) (listed texts old) (faults_of names (cause ∷ more))) ∙ ap any (sym all);
            named = names_within texts new.list.items _ added (All-append (λ (f : NumberedFault). AreWithin texts f.names) (map found_of old.list.items) (numbered numbers (cause ∷ more)) (names_found texts old.list.items marked.named) (numbered_within texts numbers (cause ∷ more) within));
          };
        };
  }

-- without names nothing more is listed
pub lists_none : (faults : Faults) (numbers : List ℕ) → AddsFaults faults faults numbers []
lists_none faults numbers = record { over = λ texts distinct within marked. record { all = refl; marked = marked } }

-- the last of the numbers of a slice
pub last_at : (start : Option ℕ) (numbers : List ℕ) (number n : ℕ) → length numbers ≡ suc n → Some number ≡ slice_get numbers n → last_or start numbers ≡ Some number
last_at start [] number n long is = absurd (omega (arith, long))
last_at start (first ∷ []) number zero long is = sym is
last_at start (first ∷ []) number (suc n) long is = absurd (omega (arith, long))
last_at start (first ∷ next ∷ numbers) number zero long is = absurd (omega (arith, long))
last_at start (first ∷ next ∷ numbers) number (suc n) long is = last_at (Some first) (next ∷ numbers) number n (omega (arith, long)) is

pub last_numbered : (numbers : List ℕ) (number : ℕ) → Some number ≡ slice_get numbers (length numbers - 1) → last_or None numbers ≡ Some number
last_numbered [] number is = absurd (cc)
last_numbered (first ∷ numbers) number is = last_at None (first ∷ numbers) number (length numbers) (omega arith) (is ∙ ap (slice_get (first ∷ numbers)) (omega arith))

pub begins_with : (stops : List Stop) (first : Stop) → Some first ≡ slice_get stops 0 → (more : List Stop) × (stops ≡ first ∷ more)
begins_with [] first is = absurd (cc)
begins_with (stop ∷ stops) first is = let same : first ≡ stop = cc in (stops, ap (λ s. s ∷ stops) (sym same))

-- a fault is put after the others
pub fault_put : (old new : List FoundFault) (fault : FoundFault) (numbers : List ℕ) (cause : Cause) → new ≡ old ++ fault ∷ [] → fault.names.items ≡ numbers → fault.cause ≡ cause → map found_of new ≡ map found_of old ++ numbered numbers (cause ∷ [])
fault_put old new fault numbers cause is same same_cause =
    ap (map found_of) is ∙ map-append found_of old (fault ∷ []) ∙ ap (λ n. map found_of old ++ record { names = n; cause = fault.cause } ∷ []) same ∙ ap (λ k. map found_of old ++ record { names = numbers; cause = k } ∷ []) same_cause

pub numbered_stops : (numbers : List ℕ) (stops : List Stop) → map (λ stop. record { names = numbers; cause = Malformed stop }) stops ≡ numbered numbers (map Malformed stops)
numbered_stops numbers [] = refl
numbered_stops numbers (stop ∷ stops) = ap (λ l. record { names = numbers; cause = Malformed stop } ∷ l) (numbered_stops numbers stops)

pub none_first : (stops : List Stop) → None ≡ slice_get stops 0 → stops ≡ []
none_first [] none = refl
none_first (stop ∷ stops) none = absurd (cc)
