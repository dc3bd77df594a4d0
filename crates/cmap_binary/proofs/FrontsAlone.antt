-- What bytes begin with is one thing, and so are the symbols that bits spell.
use Rattle.std.proofs.Common.{◌≡◌, ℕ, zero, suc, ◌+◌, ◌<◌, refl, sym, ap, ◌∙◌, subst, List, [], ◌∷◌, ◌++◌, inl, inr, length, take, drop, arith}
use Rattle.std.specs.Prelude.{◌⊎◌, slice_get}
use Rattle.std.proofs.lemmas.List.{drop_at}
use Rattle.std.proofs.lemmas.Option.{same_Some}
use Rattle.cmap_binary.specs.Bundles.{HoldsTables, PrefixTables}
use Rattle.cmap_binary.specs.Fronts.{Then, Gives, GivesIf, RowOf, AllOf, ByteAt, BytesAt, CodeAt, FieldAt, SizedAt, TerminatedAt}
use Rattle.cmap_binary.specs.PrefixWords.{CodeWord, Decodes, IsPrefixFree, IsWord}
use Rattle.cmap_values.specs.BigEndian.{big_endian}
use Rattle.cmap_values.specs.Only.{HoldsOfNone}
use Rattle.cmap_binary.proofs.Fronts.{pair_is}
use Rattle.cmap_binary.proofs.TablesDecoded.{IsPrefixFree-table}
use Rattle.cmap_binary.proofs.TablesTaken.{TableAt-ends}

-- it holds of one value at the most
abbrev pub Alone : {A : Type 0} → (A → Type 0) → Type 0
Alone {A = A} P = (x y : A) → P x → P y → x ≡ y

pub gives_alone : {A : Type 0} (x : A) → Alone (Gives x)
gives_alone x a b is also = is ∙ sym also

pub gives_if_alone : {A : Type 0} (C : Type 0) (x : A) → Alone (GivesIf C x)
gives_if_alone C x a b is also = is.1 ∙ sym also.1

pub then_alone : {A S B : Type 0} (P : A × S → Type 0) (Q : A → S → B → Type 0) → Alone P → ((x : A) (rest : S) → Alone (Q x rest)) → Alone (Then P Q)
then_alone P Q first second b c (x, rest, at, later) (y, mid, also, too) = second y mid b c (subst (λ p. Q p.0 p.1 b) (first (x, rest) (y, mid) at also) later) too

pub row_alone : {A S : Type 0} (item : S → A × S → Type 0) → ((s : S) → Alone (item s)) → (n : ℕ) (start : S) → Alone (RowOf item n start)
row_alone item each zero start = gives_alone ([], start)
row_alone item each (suc n) start = then_alone (item start) _ (each start) (λ x rest. then_alone (RowOf item n rest) _ (row_alone item each n rest) (λ xs end. gives_alone (x ∷ xs, end)))

pub list_alone : {A S : Type 0} (item : S → A × S → Type 0) → ((s : S) → Alone (item s)) → (n : ℕ) (start : S) → Alone (Then (RowOf item n start) (λ xs ignored. Gives xs))
list_alone item each n start = then_alone (RowOf item n start) _ (row_alone item each n start) (λ xs ignored. gives_alone xs)

pub all_alone : {A : Type 0} (item : List ℕ → A × List ℕ → Type 0) → HoldsOfNone (item []) → ((bytes : List ℕ) → Alone (item bytes)) → (bytes : List ℕ) → Alone (AllOf item bytes)
all_alone item none each bytes [] [] is also = refl
all_alone item none each bytes [] (y ∷ ys) is (rest, at, all) = absurd (none (y, rest) (subst (λ b. item b (y, rest)) is at))
all_alone item none each bytes (x ∷ xs) [] (rest, at, all) is = absurd (none (x, rest) (subst (λ b. item b (x, rest)) is at))
all_alone item none each bytes (x ∷ xs) (y ∷ ys) (rest, at, all) (mid, also, others) =
    let same = each bytes (x, rest) (y, mid) at also in
    let later : xs ≡ ys = all_alone item none each mid xs ys (subst (λ p. AllOf item p.1 xs) same all) others in
    ap (λ p. p.0 ∷ xs) same ∙ ap (λ l. y ∷ l) later

pub byte_alone : (bytes : List ℕ) → Alone (ByteAt bytes)
byte_alone bytes p q is also = let same : p.0 ∷ p.1 ≡ q.0 ∷ q.1 = sym is ∙ also in let first : p.0 ≡ q.0 = cc in let rest : p.1 ≡ q.1 = cc in pair_is p q first rest

pub bytes_alone : (len : ℕ) (bytes : List ℕ) → Alone (BytesAt len bytes)
bytes_alone len bytes p q is also = pair_is p q (is.1 ∙ sym also.1) (is.2 ∙ sym also.2)

pub field_alone : (width : ℕ) (bytes : List ℕ) → Alone (FieldAt width bytes)
field_alone width bytes = then_alone (BytesAt width bytes) _ (bytes_alone width bytes) (λ field rest. gives_alone (big_endian field, rest))

pub code_alone : (width : ℕ) (bytes : List ℕ) → Alone (CodeAt width bytes)
code_alone width bytes p q is also = field_alone width bytes p q is.1 also.1

pub sized_alone : (bytes : List ℕ) → Alone (SizedAt bytes)
sized_alone bytes = then_alone (FieldAt 4 bytes) BytesAt (field_alone 4 bytes) (λ len rest. bytes_alone len rest)

pub terminated_alone : (bytes : List ℕ) → Alone (TerminatedAt bytes)
terminated_alone bytes p q (end, within, is_nul, first, is) (stop, inside, also_nul, before, also) =
    let not_less : end < stop → ⊥ = λ less. before end less is_nul in
    let not_more : stop < end → ⊥ = λ less. first stop less also_nul in
    let same : end ≡ stop = omega (arith, not_less, not_more) in
    is ∙ ap (λ n. (take n bytes, drop (n + 1) bytes)) same ∙ sym also

-- ---- code words
-- of two fronts of one list one begins the other
front_of : (a b r s : List ℕ) → a ++ r ≡ b ++ s → ((more : List ℕ) × (b ≡ a ++ more)) ⊎ ((more : List ℕ) × (a ≡ b ++ more))
front_of [] b r s same = inl (b, refl)
front_of (x ∷ a) [] r s same = inr (x ∷ a, refl)
front_of (x ∷ a) (y ∷ b) r s same =
    let head : x ≡ y = cc in
    let tail : a ++ r ≡ b ++ s = cc in
    elim (front_of a b r s tail) [
      | inl (more, is) ↦ inl (more, rw (head, is) refl)
      | inr (more, is) ↦ inr (more, rw (head, is) refl)
    ]

-- bits begin with one code word, which is followed by one rest
pub symbol_alone : (table : List CodeWord) → IsPrefixFree table → (stream : List ℕ) (symbol other len size : ℕ) (rest left : List ℕ) → Decodes table stream symbol len rest → Decodes table stream other size left → (symbol ≡ other) × (rest ≡ left)
symbol_alone table free stream symbol other len size rest left one two =
    let first : CodeWord = record { len = len; symbol = symbol } in
    let second : CodeWord = record { len = size; symbol = other } in
    let whole : one.word ++ rest ≡ two.word ++ left = sym one.bits_are ∙ two.bits_are in
    let index : one.index ≡ two.index = elim (front_of one.word two.word rest left whole) [
      | inl (more, is) ↦ free one.index two.index one.word more (first, one.word_is) (second, subst (λ w. IsWord table two.index second w) is two.word_is)
      | inr (more, is) ↦ sym (free two.index one.index two.word more (second, two.word_is) (first, subst (λ w. IsWord table one.index first w) is one.word_is))
    ] in
    let entry : first ≡ second = same_Some first second (sym one.word_is.entry_is ∙ ap (slice_get table) index ∙ two.word_is.entry_is) in
    let long : length one.word ≡ length two.word = one.word_is.length_is ∙ ap (λ (w : CodeWord). w.len) entry ∙ sym two.word_is.length_is in
    (ap (λ (w : CodeWord). w.symbol) entry, sym (drop_at one.word rest (length one.word) refl) ∙ ap (drop (length one.word)) whole ∙ drop_at two.word left (length one.word) (sym long))

-- no code word of the tables of a bundle begins another one
pub record ArePrefixFree (tables : PrefixTables) : Type 0 where
  pub delta : IsPrefixFree tables.delta
  pub count : IsPrefixFree tables.count

pub tables_free : (text : List ℕ) (tables : PrefixTables) → HoldsTables text tables → ArePrefixFree tables
tables_free text tables (delta, mid, at, (count, ignored, also, is)) =
    let first = TableAt-ends 4 text mid delta at in
    let second = TableAt-ends 1 mid ignored count also in
    rw is (record { delta = rw first.table_is (IsPrefixFree-table first.is_table); count = rw second.table_is (IsPrefixFree-table second.is_table) })
