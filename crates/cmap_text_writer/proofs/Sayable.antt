-- What a text says of a file, a text can say.
use Rattle.std.proofs.Common.{◌≡◌, ◌∙◌, ℕ, zero, suc, ◌+◌, ◌-◌, ◌%◌, ◌^◌, ◌<◌, true, false, List, [], ◌∷◌, ◌++◌, Some, None, inl, inr, length, map, take, drop, refl, sym, ap, subst, arith}
use Rattle.std.specs.Prelude.{◌==◌, Bool, IfSome, Option, bytes_eq, codes, filter, filter_map, flat_map, option_and_then, option_map, ℤ}
use Rattle.std.specs.List.{AllByRecursion, AllZip, enumerate_from, last_or}
use Rattle.std.specs.Char.{digit_value, is_digit}
use Rattle.std.proofs.lemmas.Bool.{cases_Bool, cond_both, eqb-true, ltb-true}
use Rattle.std.proofs.lemmas.Int.Digits.{number_lt}
use Rattle.std.proofs.lemmas.List.Elements.{All-from_recursion}
use Rattle.cmap_values.specs.Files.{CidEntry, Collection, Declaration, File, bfs_of, cids_of, lists_of, notdefs_of, spaces_of}
use Rattle.cmap_values.specs.BigEndian.{big_endian}
use Rattle.cmap_values.specs.Names.{Family, custom, family_of, ordering_of, registry_of}
use Rattle.cmap_tokens.specs.Numbers.{Number, numeral}
use Rattle.cmap_tokens.specs.Strings.{IsCut, IsPart, IsValue, continued, digit_pairs, escape_value, escaped, inside, line_end, octal, plain}
use Rattle.cmap_tokens.specs.Texts.{units_of}
use Rattle.cmap_tokens.specs.Tokens.{IsBracket, IsToken, Token, Tokens, name_or_number}
use Rattle.cmap_text.specs.TextFiles.{AreEntries, AreItems, CidKind, declares_cid, IsCode, IsDestination, IsEntry, IsItem, IsTextFile, Item, Section, bf_char, bf_range, cids, codespace_range, collection_of, declared_by, declares_bf, entries, key, last_value, mapped, name_in, names_used, notdef, other, range, single, use_of_base, value_under}
use Rattle.cmap_text_writer.specs.Fits.{AllBytes, AllFit, BeginsFitting, Fits, HasOwnFamily, HasUnits, IsName, IsSayable, IsSayableName, IsSpaceFitting}

-- ---- bytes
bytes_before : (xs ys : List ℕ) → AllBytes (xs ++ ys) → AllBytes xs
bytes_before [] ys all = tt
bytes_before (x ∷ xs) ys (first, later) = (first, bytes_before xs ys later)

bytes_after : (xs ys : List ℕ) → AllBytes (xs ++ ys) → AllBytes ys
bytes_after [] ys all = all
bytes_after (x ∷ xs) ys (first, later) = bytes_after xs ys later

bytes_both : (xs ys : List ℕ) → AllBytes xs → AllBytes ys → AllBytes (xs ++ ys)
bytes_both [] ys all more = more
bytes_both (x ∷ xs) ys (first, later) more = (first, bytes_both xs ys later more)

bytes_take : (n : ℕ) (xs : List ℕ) → AllBytes xs → AllBytes (take n xs)
bytes_take zero xs all = tt
bytes_take (suc n) [] all = tt
bytes_take (suc n) (x ∷ xs) (first, later) = (first, bytes_take n xs later)

bytes_drop : (n : ℕ) (xs : List ℕ) → AllBytes xs → AllBytes (drop n xs)
bytes_drop zero xs all = all
bytes_drop (suc n) [] all = tt
bytes_drop (suc n) (x ∷ xs) (first, later) = bytes_drop n xs later

-- ---- the value of a string
abbrev AllDigits : List ℕ → Type 0
AllDigits digits = AllByRecursion (λ d. d < 16) digits

pairs_small : (digits : List ℕ) → AllDigits digits → AllBytes (digit_pairs digits)
pairs_small [] all = tt
pairs_small (high ∷ []) (first, none) = (omega arith, tt)
pairs_small (high ∷ low ∷ digits) (first, (second, later)) = (omega arith, pairs_small digits later)

digits_small : (body : List ℕ) → AllDigits (map digit_value (filter (λ b. is_digit b 16) body))
digits_small [] = tt
digits_small (b ∷ body) = elim (cases_Bool (is_digit b 16)) [ inl digit ↦ rw digit (ltb-true (digit_value b) 16 digit, digits_small body) | inr differs ↦ rw differs (digits_small body) ]

escape_small : (c : ℕ) → c < 2 ^ 8 → escape_value c < 2 ^ 8
escape_small c small =
    let P : ℕ → Type 0 = λ b. b < 2 ^ 8 in
    cond_both (c == 110) 10 _ P (λ _. omega arith) (λ _.
    cond_both (c == 114) 13 _ P (λ _. omega arith) (λ _.
    cond_both (c == 116) 9 _ P (λ _. omega arith) (λ _.
    cond_both (c == 98) 8 _ P (λ _. omega arith) (λ _.
    cond_both (c == 102) 12 c P (λ _. omega arith) (λ _. small)))))

part_small : (part value next : List ℕ) → IsPart part value next → AllBytes part → AllBytes value
part_small _ _ _ (plain b next is) all = all
part_small _ _ _ (line_end text next is) all = (omega arith, tt)
part_small _ _ _ (escaped c next is) (first, (second, none)) = (escape_small c second, tt)
part_small _ _ _ (octal digits next are few ends) all = (omega arith, tt)
part_small _ _ _ (continued text next is) all = tt

cut_small : (parts : List (List ℕ × List ℕ)) (body value : List ℕ) → IsCut parts body value → AllBytes body → AllBytes value
cut_small [] body value (none, is) all = subst AllBytes (sym is) tt
cut_small (part ∷ parts) body value (next, more, whole, is, is_part, cut) all =
    let here = subst AllBytes whole all in
    subst AllBytes (sym is) (bytes_both part.1 more (part_small part.0 part.1 next is_part (bytes_before part.0 next here)) (cut_small parts next more cut (bytes_after part.0 next here)))

value_small : (piece value : List ℕ) → IsValue piece value → AllBytes piece → AllBytes value
value_small piece value (inl (hex, is)) all = subst AllBytes (sym is) (pairs_small _ (digits_small (inside piece)))
value_small piece value (inr (text, parts, cut)) all = cut_small parts (inside piece) value cut (bytes_drop 1 (take (length piece - 1) piece) (bytes_take (length piece - 1) piece all))

-- ---- tokens
-- a token that a text of bytes has
record IsRead (t : Token) : Type 0 where
  piece : List ℕ
  small : AllBytes piece
  is : IsToken piece t

abbrev AllRead : List Token → Type 0
AllRead tokens = AllByRecursion IsRead tokens

all_read : (tokens : List Token) (bytes : List ℕ) → AllBytes bytes → Tokens bytes tokens → AllRead tokens
all_read [] bytes all blank = tt
all_read (t ∷ tokens) bytes all (gap, piece, rest, front, later) =
    let whole = subst AllBytes front.whole all in
    (record { piece = piece; small = bytes_after gap piece (bytes_before (gap ++ piece) rest whole); is = front.piece_is }, all_read tokens rest (bytes_after (gap ++ piece) rest whole) later)

-- a run is no string, and no literal name
run_is : (run : List ℕ) (o : Option Number) → numeral run ≡ o → (piece bytes : List ℕ) → (name_or_number run ≡ Token.String piece → ⊥) × (name_or_number run ≡ Token.Name true bytes → ⊥) × (name_or_number run ≡ Token.Name false bytes → run ≡ bytes)
run_is run None is piece bytes = (λ same. let clash : Token.Name false run ≡ Token.String piece = rw is at same in cc, λ same. let clash : Token.Name false run ≡ Token.Name true bytes = rw is at same in cc, λ same. let named : Token.Name false run ≡ Token.Name false bytes = rw is at same in cc)
run_is run (Some n) is piece bytes = (λ same. let clash : Token.Numeral n ≡ Token.String piece = rw is at same in cc, λ same. let clash : Token.Numeral n ≡ Token.Name true bytes = rw is at same in cc, λ same. let clash : Token.Numeral n ≡ Token.Name false bytes = rw is at same in cc)

string_small : (t : Token) (piece : List ℕ) → IsRead t → t ≡ Token.String piece → AllBytes piece
string_small t piece read same = by read.is
  where
    by : IsToken read.piece t → AllBytes piece
    by (inl (run, is)) = absurd ((run_is read.piece (numeral read.piece) refl piece []).0 (sym is ∙ same))
    by (inr (inl (name, shape, regular, is))) = absurd (cc)
    by (inr (inr (inl (bracket, is)))) = absurd (cc)
    by (inr (inr (inr (string, is)))) = let one : read.piece ≡ piece = cc in subst AllBytes one read.small

name_regular : (t : Token) (bytes : List ℕ) → IsRead t → t ≡ Token.Name true bytes → IsName bytes
name_regular t bytes read same = by read.is
  where
    by : IsToken read.piece t → IsName bytes
    by (inl (run, is)) = absurd ((run_is read.piece (numeral read.piece) refl [] bytes).1 (sym is ∙ same))
    by (inr (inl (name, shape, regular, is))) = let one : name ≡ bytes = cc in subst IsName one regular
    by (inr (inr (inl (bracket, is)))) = absurd (cc)
    by (inr (inr (inr (string, is)))) = absurd (cc)

name_sayable : (t : Token) (literal : Bool) (bytes : List ℕ) → IsRead t → t ≡ Token.Name literal bytes → IsSayableName bytes
name_sayable t true bytes read same = inl (name_regular t bytes read same)
name_sayable t false bytes read same = by read.is
  where
    by : IsToken read.piece t → IsSayableName bytes
    by (inl (run, is)) = let one = (run_is read.piece (numeral read.piece) refl [] bytes).2 (sym is ∙ same) in inl (subst IsName one run.1)
    by (inr (inl (name, shape, regular, is))) = absurd (cc)
    by (inr (inr (inl (bracket, is)))) = let one : read.piece ≡ bytes = cc in inr (subst IsBracket one bracket)
    by (inr (inr (inr (string, is)))) = absurd (cc)

-- ---- declarations
-- a text can say a declaration like this
IsGood : Declaration → Type 0
IsGood (Declaration.cid len e) = BeginsFitting len e
IsGood (Declaration.notdef len e) = BeginsFitting len e
IsGood (Declaration.bf e) = HasUnits e
IsGood (Declaration.codespace s) = IsSpaceFitting s

abbrev AllGood : List Declaration → Type 0
AllGood declared = AllByRecursion IsGood declared

code_fits : (t : Token) (bytes : List ℕ) → IsRead t → IsCode t bytes → Fits (length bytes) (big_endian bytes)
code_fits t bytes read (piece, is, value, some, few) = record { some = some; few = few; small = number_lt 256 bytes (value_small piece bytes value (string_small t piece read is)) }

units_some : (bytes : List ℕ) → 0 < length bytes → 0 < length (units_of bytes)
units_some [] some = absurd (omega (arith, some))
units_some (b ∷ []) some = omega arith
units_some (b ∷ c ∷ bytes) some = cond_both (length (c ∷ bytes) % 2 == 0) _ _ (λ (us : List ℕ). 0 < length us) (λ _. omega arith) (λ _. omega arith)

has_units : (t : Token) (start end : ℕ) (units : List ℕ) → IsDestination t units → HasUnits (record { start = start; end = end; units = units })
has_units t start end units (piece, bytes, is, value, some, units_are) = subst (λ (us : List ℕ). 0 < length us) (sym units_are) (units_some bytes some)

good_cid : (kind : CidKind) (len : ℕ) (e : CidEntry) → BeginsFitting len e → IsGood (declares_cid kind len e)
unfolding IsGood
good_cid mapped len e fits = fits
good_cid notdef len e fits = fits

listed_good : (ds : List Token) (texts : List (List ℕ)) (n : ℕ) → AllZip IsDestination ds texts → AllGood (map (λ p. declares_bf p.0 p.0 p.1) (enumerate_from n texts))
unfolding IsGood
listed_good [] [] n zip = tt
listed_good [] (units ∷ texts) n zip = absurd zip
listed_good (d ∷ ds) [] n zip = absurd zip
listed_good (d ∷ ds) (units ∷ texts) n (first, later) = (has_units d n n units first, listed_good ds texts (n + 1) later)

read_after : (ts us : List Token) → AllRead (ts ++ us) → AllRead us
read_after [] us all = all
read_after (t ∷ ts) us (first, later) = read_after ts us later

entry_good : (section : Section) (tokens : List Token) (declared : List Declaration) (rest : List Token) → AllRead tokens → IsEntry section tokens declared rest → AllGood declared × AllRead rest
unfolding IsGood
entry_good codespace_range tokens declared rest all (a, b, low, high, is, low_is, high_is, same, declares) =
    let (first, (second, later)) = subst AllRead is all in
    (subst AllGood (sym declares) ((code_fits a low first low_is, subst (λ len. Fits len (big_endian high)) (sym same) (code_fits b high second high_is)), tt), later)
entry_good (cids kind range) tokens declared rest all (a, b, c, start, end, n, is, start_is, end_is, cid_is, declares) =
    let (first, (second, (third, later))) = subst AllRead is all in
    (subst AllGood (sym declares) (good_cid kind (length start) _ (code_fits a start first start_is), tt), later)
entry_good (cids kind single) tokens declared rest all (a, c, code, n, is, code_is, cid_is, declares) =
    let (first, (second, later)) = subst AllRead is all in
    (subst AllGood (sym declares) (good_cid kind (length code) _ (code_fits a code first code_is), tt), later)
entry_good bf_char tokens declared rest all (a, d, code, units, is, code_is, units_are, declares) =
    let (first, (second, later)) = subst AllRead is all in
    (subst AllGood (sym declares) (has_units d (big_endian code) (big_endian code) units units_are, tt), later)
entry_good bf_range tokens declared rest all (a, b, start, end, start_is, end_is, inl (d, units, is, units_are, declares)) =
    let (first, (second, (third, later))) = subst AllRead is all in
    (subst AllGood (sym declares) (has_units d (big_endian start) (big_endian end) units units_are, tt), later)
entry_good bf_range tokens declared rest all (a, b, start, end, start_is, end_is, inr (ds, texts, is, zip, count, declares)) =
    let (first, (second, (third, later))) = subst AllRead is all in
    (subst AllGood (sym declares) (listed_good ds texts (big_endian start) zip), (read_after ds _ later).1)

good_both : (a b : List Declaration) → AllGood a → AllGood b → AllGood (a ++ b)
good_both [] b all more = more
good_both (d ∷ a) b (first, later) more = (first, good_both a b later more)

entries_good : (section : Section) (tokens : List Token) (each : List (List Declaration)) (rest : List Token) → AllRead tokens → AreEntries section tokens each rest → AllGood (flat_map (λ ds. ds) each) × AllRead rest
entries_good section tokens [] rest all is = (tt, (subst AllRead is all).1)
entries_good section tokens (declared ∷ others) rest all (mid, is, are) =
    let (first, left) = entry_good section tokens declared mid all is in
    let (later, end) = entries_good section mid others rest left are in
    (good_both declared (flat_map (λ ds. ds) others) first later, end)

-- ---- items
ItemGood : Item → Type 0
ItemGood (key k None) = IsName k
ItemGood (key k (Some value)) = IsName k × IsRead value
ItemGood (entries declared) = AllGood declared
ItemGood use_of_base = Unit {0}
ItemGood (other t) = IsRead t

item_good : (tokens : List Token) (item : Item) (rest : List Token) → AllRead tokens → IsItem tokens item rest → ItemGood item × AllRead rest
unfolding ItemGood
item_good tokens (key k None) rest all (contained, is, none) = (name_regular (Token.Name true k) k (subst AllRead is all).0 refl, subst AllRead (sym none) tt)
item_good tokens (key k (Some value)) rest all (contained, is) = let (first, (second, later)) = subst AllRead is all in ((name_regular (Token.Name true k) k first refl, second), later)
item_good tokens (entries declared) rest all (section, body, each, is, are, flat) = let (good, later) = entries_good section body each rest (subst AllRead is all).1 are in (subst AllGood (sym flat) good, later)
item_good tokens use_of_base rest all is = (tt, (subst AllRead is all).1)
item_good tokens (other t) rest all (alone, is) = subst AllRead is all

abbrev AllItemsGood : List Item → Type 0
AllItemsGood items = AllByRecursion ItemGood items

items_good : (tokens : List Token) (items : List Item) → AllRead tokens → AreItems tokens items → AllItemsGood items
items_good tokens [] all none = tt
items_good tokens (item ∷ items) all (rest, is, are) = let (first, left) = item_good tokens item rest all is in (first, items_good rest items left are)

-- ---- the names that are used
abbrev AllNames : List (List ℕ) → Type 0
AllNames names = AllByRecursion IsName names

after_use : (name : List ℕ) (later : Option (List (List ℕ))) (uses : List (List ℕ)) → IsName name → option_map (λ names. name ∷ names) later ≡ Some uses → ((names : List (List ℕ)) → later ≡ Some names → AllNames names) → AllNames uses
after_use name None uses is used all = absurd (cc)
after_use name (Some names) uses is used all = let same : name ∷ names ≡ uses = cc in subst AllNames same (is, all names refl)

uses_good : (before : Option (List ℕ)) (items : List Item) (uses : List (List ℕ)) → IfSome before IsName → AllItemsGood items → names_used before items ≡ Some uses → AllNames uses
unfolding ItemGood
uses_good before [] uses named all used = let same : [] ≡ uses = cc in subst AllNames same tt
uses_good None (use_of_base ∷ items) uses named all used = absurd (cc)
uses_good (Some name) (use_of_base ∷ items) uses named (first, all) used = after_use name (names_used None items) uses named used (λ names is. uses_good None items names tt all is)
uses_good before (key k None ∷ items) uses named (name, all) used = uses_good (Some k) items uses name all used
uses_good before (key k (Some value) ∷ items) uses named ((name, read), all) used = uses_good (Some k) items uses name all used
uses_good before (entries declared ∷ items) uses named (first, all) used = uses_good None items uses tt all used
uses_good before (other (Token.Name true bytes) ∷ items) uses named (read, all) used = uses_good (Some bytes) items uses (name_regular (Token.Name true bytes) bytes read refl) all used
uses_good before (other (Token.Name false bytes) ∷ items) uses named (read, all) used = uses_good None items uses tt all used
uses_good before (other (Token.String piece) ∷ items) uses named (read, all) used = uses_good None items uses tt all used
uses_good before (other (Token.Numeral n) ∷ items) uses named (read, all) used = uses_good None items uses tt all used

-- ---- the values of keys
abbrev IsReadValue : Option Token → Type 0
IsReadValue value = IfSome value IsRead

last_read : (o : Option (Option Token)) (vs : List (Option Token)) → IsReadValue (option_and_then (λ value. value) o) → AllByRecursion IsReadValue vs → IsReadValue (option_and_then (λ value. value) (last_or o vs))
last_read o [] now all = now
last_read o (v ∷ vs) now (first, later) = last_read (Some v) vs first later

values_read : (name : List ℕ) (items : List Item) → AllItemsGood items → AllByRecursion IsReadValue (filter_map (value_under name) items)
unfolding ItemGood
values_read name [] all = tt
values_read name (key k None ∷ items) (is, all) = elim (cases_Bool (bytes_eq k name)) [ inl same ↦ rw same (tt, values_read name items all) | inr differs ↦ rw differs (values_read name items all) ]
values_read name (key k (Some value) ∷ items) ((is, read), all) = elim (cases_Bool (bytes_eq k name)) [ inl same ↦ rw same (read, values_read name items all) | inr differs ↦ rw differs (values_read name items all) ]
values_read name (entries declared ∷ items) (first, all) = values_read name items all
values_read name (use_of_base ∷ items) (first, all) = values_read name items all
values_read name (other t ∷ items) (first, all) = values_read name items all

name_good : (value : Option Token) (name : Option (List ℕ)) → IsReadValue value → name ≡ name_in value → IfSome name IsSayableName
name_good None name read is = rw is tt
name_good (Some (Token.Name literal bytes)) name read is = rw is (name_sayable (Token.Name literal bytes) literal bytes read refl)
name_good (Some (Token.String piece)) name read is = rw is tt
name_good (Some (Token.Numeral n)) name read is = rw is tt

own_family : (r o : List ℕ) → family_of (registry_of (family_of r o)) (ordering_of (family_of r o)) ≡ family_of r o
own_family r o =
    let again : Family → Family = λ f. family_of (registry_of f) (ordering_of f) in
    elim (cases_Bool (bytes_eq r (codes "Adobe"))) [
      | inr differs ↦ let is : family_of r o ≡ custom r o = rw differs refl in ap again is
      | inl same ↦ elim (cases_Bool (bytes_eq o (codes "Japan1"))) [
        | inl japan ↦ rw (same, japan) refl
        | inr not_japan ↦ elim (cases_Bool (bytes_eq o (codes "GB1"))) [
          | inl china ↦ rw (same, not_japan, china) refl
          | inr not_china ↦ elim (cases_Bool (bytes_eq o (codes "CNS1"))) [
            | inl taiwan ↦ rw (same, not_japan, not_china, taiwan) refl
            | inr not_taiwan ↦ elim (cases_Bool (bytes_eq o (codes "Korea1"))) [
              | inl korea ↦ rw (same, not_japan, not_china, not_taiwan, korea) refl
              | inr not_korea ↦ elim (cases_Bool (bytes_eq o (codes "Identity"))) [
                | inl identity ↦ rw (same, not_japan, not_china, not_taiwan, not_korea, identity) refl
                | inr none ↦ let is : family_of r o ≡ custom r o = rw (same, not_japan, not_china, not_taiwan, not_korea, none) refl in ap again is
              ]
            ]
          ]
        ]
      ]
    ]

collection_good : (r o : Option (List ℕ)) (s : Option ℤ) (c : Option Collection) → c ≡ collection_of r o s → IfSome c HasOwnFamily
collection_good None o s c is = rw is tt
collection_good (Some r) None s c is = rw is tt
collection_good (Some r) (Some o) None c is = rw is tt
collection_good (Some r) (Some o) (Some s) c is = rw is (own_family r o)

-- ---- the lists
module _ (len : ℕ) where
  cids_good : (ds : List Declaration) → AllGood ds → AllByRecursion (BeginsFitting len) (cids_of len ds)
  unfolding IsGood
  cids_good [] all = tt
  cids_good (Declaration.cid n e ∷ ds) (first, all) = elim (cases_Bool (n == len)) [ inl same ↦ rw same (subst (λ k. BeginsFitting k e) (eqb-true n len same) first, cids_good ds all) | inr differs ↦ rw differs (cids_good ds all) ]
  cids_good (Declaration.notdef n e ∷ ds) (first, all) = cids_good ds all
  cids_good (Declaration.bf e ∷ ds) (first, all) = cids_good ds all
  cids_good (Declaration.codespace s ∷ ds) (first, all) = cids_good ds all

  notdefs_good : (ds : List Declaration) → AllGood ds → AllByRecursion (BeginsFitting len) (notdefs_of len ds)
  unfolding IsGood
  notdefs_good [] all = tt
  notdefs_good (Declaration.notdef n e ∷ ds) (first, all) = elim (cases_Bool (n == len)) [ inl same ↦ rw same (subst (λ k. BeginsFitting k e) (eqb-true n len same) first, notdefs_good ds all) | inr differs ↦ rw differs (notdefs_good ds all) ]
  notdefs_good (Declaration.cid n e ∷ ds) (first, all) = notdefs_good ds all
  notdefs_good (Declaration.bf e ∷ ds) (first, all) = notdefs_good ds all
  notdefs_good (Declaration.codespace s ∷ ds) (first, all) = notdefs_good ds all

bfs_good : (ds : List Declaration) → AllGood ds → AllByRecursion HasUnits (bfs_of ds)
unfolding IsGood
bfs_good [] all = tt
bfs_good (Declaration.bf e ∷ ds) (first, all) = (first, bfs_good ds all)
bfs_good (Declaration.cid n e ∷ ds) (first, all) = bfs_good ds all
bfs_good (Declaration.notdef n e ∷ ds) (first, all) = bfs_good ds all
bfs_good (Declaration.codespace s ∷ ds) (first, all) = bfs_good ds all

spaces_good : (ds : List Declaration) → AllGood ds → AllByRecursion IsSpaceFitting (spaces_of ds)
unfolding IsGood
spaces_good [] all = tt
spaces_good (Declaration.codespace s ∷ ds) (first, all) = (first, spaces_good ds all)
spaces_good (Declaration.cid n e ∷ ds) (first, all) = spaces_good ds all
spaces_good (Declaration.notdef n e ∷ ds) (first, all) = spaces_good ds all
spaces_good (Declaration.bf e ∷ ds) (first, all) = spaces_good ds all

lists_good : (ds : List Declaration) → AllGood ds → AllFit (lists_of ds)
lists_good ds all = record {
  spaces = All-from_recursion IsSpaceFitting (spaces_of ds) (spaces_good ds all);
  notdefs = record {
    one = All-from_recursion (BeginsFitting 1) (notdefs_of 1 ds) (notdefs_good 1 ds all);
    two = All-from_recursion (BeginsFitting 2) (notdefs_of 2 ds) (notdefs_good 2 ds all);
    three = All-from_recursion (BeginsFitting 3) (notdefs_of 3 ds) (notdefs_good 3 ds all);
    four = All-from_recursion (BeginsFitting 4) (notdefs_of 4 ds) (notdefs_good 4 ds all);
  };
  cids = record {
    one = All-from_recursion (BeginsFitting 1) (cids_of 1 ds) (cids_good 1 ds all);
    two = All-from_recursion (BeginsFitting 2) (cids_of 2 ds) (cids_good 2 ds all);
    three = All-from_recursion (BeginsFitting 3) (cids_of 3 ds) (cids_good 3 ds all);
    four = All-from_recursion (BeginsFitting 4) (cids_of 4 ds) (cids_good 4 ds all);
  };
  texts = All-from_recursion HasUnits (bfs_of ds) (bfs_good ds all);
}

all_declared : (items : List Item) → AllItemsGood items → AllGood (flat_map declared_by items)
unfolding ItemGood
all_declared [] all = tt
all_declared (entries declared ∷ items) (first, all) = good_both declared (flat_map declared_by items) first (all_declared items all)
all_declared (key k value ∷ items) (first, all) = all_declared items all
all_declared (use_of_base ∷ items) (first, all) = all_declared items all
all_declared (other t ∷ items) (first, all) = all_declared items all

-- ---- the file
pub says_sayable : (bytes : List ℕ) (file : File) → AllBytes bytes → IsTextFile bytes file → IsSayable file
unfolding IsTextFile
says_sayable bytes file small (tokens, items, here, are, used, ((r, o, gives_r, gives_o, collection), name, mode), lists) =
    let good = items_good tokens items (all_read tokens bytes small here) are in
    let values : (k : List ℕ) → IsReadValue (last_value k items) = λ k. last_read None (filter_map (value_under k) items) tt (values_read k items good) in
    record {
      uses = All-from_recursion IsName file.uses (uses_good None items file.uses tt good used);
      name = name_good (last_value (codes "CMapName") items) file.metadata.name (values (codes "CMapName")) name;
      family = collection_good r o _ file.metadata.collection collection;
      lists = subst AllFit (sym lists) (lists_good (flat_map declared_by items) (all_declared items good));
    }
