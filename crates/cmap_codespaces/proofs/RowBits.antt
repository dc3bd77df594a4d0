-- Bits of codespace ranges: which are set by a range, and which rows the range is in.
use Rattle.std.proofs.Common.{◌≡◌, ◌≢◌, ℕ, suc, ◌+◌, ◌-◌, ◌*◌, ◌/◌, ◌%◌, ◌^◌, ◌<◌, ◌≤◌, ◌⊎◌, ◌++◌, not, List, [], ◌∷◌, length, take, drop, set, get_or, true≢false, eq-eqb, ne_eqb, min, Some, replicate, sym, ap, ◌∙◌, subst, inl, inr, w8, w64, get_or-set_same, get_or-set_other, slice_get, bit_and, bit_or, arith}
use Rattle.std.specs.Prelude.{◌↔◌, IsSomeAnd, IsTrue, nat_eq}
use Rattle.std.specs.Int.{bit_at, trailing_zeros}
use Rattle.std.proofs.lemmas.Bool.{cases_eq, cases_lt}
use Rattle.std.proofs.lemmas.Nat.Bits.{bit_at-lt, bit_at-trailing_zeros, bit_at_and, bit_at_set_same, bit_at_set_other, bit_at-zero}
use Rattle.std.proofs.lemmas.List.{get_or-append-add, get_or-replicate, get_or_append_left, length-append, length-replicate, replicate-append-replicate, take_all}
use Rattle.std.proofs.lemmas.Option.{slice_get_cases}
use Rattle.std.proofs.Math.Seq.{take-append_seam}
use Rattle.cmap_values.specs.Files.{Codespace}
use Rattle.cmap_codespaces.specs.CodesWithin.{IsAt, byte_at}
use Rattle.cmap_codespaces.specs.SpaceBits.{HaveBitsOf, InRow, row_count, row_of_length, row_of_value, value_row_count}

-- ---- bits
pub both_set : (a b i : ℕ) → (bit_at (bit_and a b) i ≡ 1) ↔ ((bit_at a i ≡ 1) × (bit_at b i ≡ 1))
both_set a b i =
    let least = bit_at_and a b i in
    let first = bit_at-lt a i in
    let second = bit_at-lt b i in
    (λ both. (omega arith, omega arith), λ both. omega (arith, both.0, both.1))

pub all_set : (a b c d e i : ℕ) → (bit_at (bit_and (bit_and (bit_and (bit_and a b) c) d) e) i ≡ 1) ↔ ((bit_at a i ≡ 1) × (bit_at b i ≡ 1) × (bit_at c i ≡ 1) × (bit_at d i ≡ 1) × (bit_at e i ≡ 1))
all_set a b c d e i =
    let two = both_set a b i in
    let three = both_set (bit_and a b) c i in
    let four = both_set (bit_and (bit_and a b) c) d i in
    let five = both_set (bit_and (bit_and (bit_and a b) c) d) e i in (
      λ all. let (abcd, its) = five.0 all in let (abc, fourth) = four.0 abcd in let (ab, third) = three.0 abc in let (first, second) = two.0 ab in (first, second, third, fourth, its),
      λ each. five.1 (four.1 (three.1 (two.1 (each.0, each.1), each.2), each.3), each.4),
    )

one_more : (n new k i : ℕ) → bit_at new k ≡ 1 → ((j : ℕ) → j ≢ k → bit_at new j ≡ bit_at n j) → (bit_at new i ≡ 1) ↔ ((bit_at n i ≡ 1) ⊎ (i ≡ k))
one_more n new k i its others =
    elim (cases_eq i k) [
      | inl same ↦ (λ _. inr same, λ _. subst (λ j. bit_at new j ≡ 1) (sym same) its)
      | inr other ↦ (λ now. inl (sym (others i other) ∙ now), λ either. elim either [ inl was ↦ others i other ∙ was | inr same ↦ absurd (other same) ])
    ]

-- one bit more in one row
row_put : (rows : List ℕ) (at new bit row i : ℕ) → at < length rows → bit_at new bit ≡ 1 → ((j : ℕ) → j ≢ bit → bit_at new j ≡ bit_at (get_or rows at 0) j)
    → (bit_at (get_or (set rows at new) row 0) i ≡ 1) ↔ ((bit_at (get_or rows row 0) i ≡ 1) ⊎ ((i ≡ bit) × (row ≡ at)))
row_put rows at new bit row i within its others =
    let more = one_more (get_or rows at 0) new bit i its others in
    elim (cases_eq row at) [
      | inl same ↦
          let is : get_or (set rows at new) row 0 ≡ new = ap (λ r. get_or (set rows at new) r 0) same ∙ get_or-set_same rows at new 0 within in
          let old : get_or rows row 0 ≡ get_or rows at 0 = ap (λ r. get_or rows r 0) same in (
            λ now. elim (more.0 (ap (λ n. bit_at n i) (sym is) ∙ now)) [ inl was ↦ inl (ap (λ n. bit_at n i) old ∙ was) | inr its ↦ inr (its, same) ],
            λ either. ap (λ n. bit_at n i) is ∙ more.1 (elim either [ inl was ↦ inl (ap (λ n. bit_at n i) (sym old) ∙ was) | inr its ↦ inr its.0 ]),
          )
      | inr other ↦
          let is : get_or (set rows at new) row 0 ≡ get_or rows row 0 = get_or-set_other rows at row new 0 other in
          (λ now. inl (ap (λ n. bit_at n i) (sym is) ∙ now), λ either. ap (λ n. bit_at n i) is ∙ elim either [ inl was ↦ was | inr its ↦ absurd (other its.1) ])
    ]

pub row_set : (rows : List ℕ) (at bit row i : ℕ) → at < length rows → bit < 64
    → (bit_at (get_or (set rows at (bit_or (get_or rows at 0) (1 * 2 ^ bit % 2 ^ 64))) row 0) i ≡ 1) ↔ ((bit_at (get_or rows row 0) i ≡ 1) ⊎ ((i ≡ bit) × (row ≡ at)))
row_set rows at bit row i within small = row_put rows at (bit_or (get_or rows at 0) (1 * 2 ^ bit % 2 ^ 64)) bit row i within (bit_at_set_same w64 (get_or rows at 0) bit small) (bit_at_set_other w64 (get_or rows at 0) bit small)

-- and in one of eight bits
pub short_row_set : (rows : List ℕ) (at bit row i : ℕ) → at < length rows → bit < 8
    → (bit_at (get_or (set rows at (bit_or (get_or rows at 0) (1 * 2 ^ bit % 2 ^ 8))) row 0) i ≡ 1) ↔ ((bit_at (get_or rows row 0) i ≡ 1) ⊎ ((i ≡ bit) × (row ≡ at)))
short_row_set rows at bit row i within small = row_put rows at (bit_or (get_or rows at 0) (1 * 2 ^ bit % 2 ^ 8)) bit row i within (bit_at_set_same w8 (get_or rows at 0) bit small) (bit_at_set_other w8 (get_or rows at 0) bit small)

-- some bit is set just where the number isn't 0
pub any_bit : (n : ℕ) → n < 2 ^ 64 → IsTrue (not (nat_eq n 0)) ↔ ((i : ℕ) × (bit_at n i ≡ 1))
any_bit n fits =
    elim (cases_eq n 0) [
      | inl none ↦ (λ yes. absurd (true≢false (sym yes ∙ ap not (eq-eqb n 0 none))), λ some. absurd (omega (arith, ap (λ m. bit_at m some.0) none, bit_at-zero some.0, some.1)))
      | inr some ↦ (λ _. (trailing_zeros w64 n, (bit_at-trailing_zeros w64 n (omega arith) fits).1), λ _. ap not (ne_eqb n 0 some))
    ]

pub some_bit : (n : ℕ) → n < 2 ^ 64 → n ≢ 0 → (i : ℕ) × (bit_at n i ≡ 1)
some_bit n fits some = (trailing_zeros w64 n, (bit_at-trailing_zeros w64 n (omega arith) fits).1)

-- what is written back over a whole list
pub written_back : (new old : List ℕ) (n : ℕ) → length new ≡ n → take n (new ++ drop (length new) old) ≡ new
written_back new old n whole = subst (λ m. take m (new ++ drop (length new) old) ≡ new) whole (take-append_seam new (drop (length new) old))

-- ---- rows
pub value_in_row : (space : Codespace) (place value : ℕ) → place < 4 → value < 256 → InRow (row_of_value place value) space ↔ IsAt space place value
value_in_row space place value few small =
    let row = row_of_value place value in
    let at : row / 256 ≡ place = omega arith in
    let its : row % 256 ≡ value = omega arith in (
      λ held. subst (λ p. IsAt space p value) at (subst (λ v. IsAt space (row / 256) v) its (held.0 (omega arith))),
      λ is. (λ _. subst (λ p. IsAt space p (row % 256)) (sym at) (subst (λ v. IsAt space place v) (sym its) is), λ past. absurd (omega arith)),
    )

pub length_in_row : (space : Codespace) (len : ℕ) → 1 ≤ len → InRow (row_of_length len) space ↔ (space.len ≡ len)
length_in_row space len some = (λ held. omega (arith, held.1 (omega arith)), λ is. (λ below. absurd (omega arith), λ _. omega arith))

-- the rows of a range are that of its length, and those of the values of its places
abbrev pub IsTouched : Codespace → ℕ → ℕ → Type 0
IsTouched space places row = (row ≡ row_of_length space.len) ⊎ ((row < 256 * places) × IsAt space (row / 256) (row % 256))

pub none_touched : (space : Codespace) (row : ℕ) → IsTouched space 0 row ↔ (row ≡ row_of_length space.len)
none_touched space row = (λ either. elim either [ inl its ↦ its | inr below ↦ let low = below.0 in absurd (omega arith) ], λ its. inl its)

pub all_touched : (space : Codespace) (row : ℕ) → 1 ≤ space.len → space.len ≤ 4 → IsTouched space space.len row ↔ InRow row space
all_touched space row some few = (
  λ either. elim either [
    | inl its ↦ (λ below. absurd (omega arith), λ _. omega arith)
    | inr value ↦ let low = value.0 in (λ _. value.1, λ past. absurd (omega arith))
  ],
  λ held. elim (cases_lt row value_row_count) [
    | inl below ↦ let is = held.0 below in let within = is.0 in inr (omega arith, is)
    | inr past ↦ inl (omega (arith, held.1 past))
  ],
)

-- and those of one place more, from low to high
pub touched_more : (space : Codespace) (place low high first last row : ℕ) → place < space.len → low ≡ byte_at space.low (space.len - suc place) → high ≡ byte_at space.high (space.len - suc place) → first ≡ row_of_value place low → last ≡ row_of_value place high
    → (IsTouched space place row ⊎ ((first ≤ row) × (row ≤ last))) ↔ IsTouched space (place + 1) row
touched_more space place low high first last row within low_is high_is first_is last_is = (
  λ either. elim either [
    | inl old ↦ elim old [ inl its ↦ inl its | inr value ↦ let below = value.0 in inr (omega arith, value.1) ]
    | inr (from, to) ↦
        let at : place ≡ row / 256 = omega arith in
        inr (omega arith, subst (λ p. IsAt space p (row % 256)) at (within, omega arith, omega arith))
  ],
  λ new. elim new [
    | inl its ↦ inl (inl its)
    | inr value ↦ elim (cases_lt row (256 * place)) [
      | inl below ↦ inl (inr (below, value.1))
      | inr from ↦
          let upto = value.0 in
          let at : row / 256 ≡ place = omega arith in
          let is = subst (λ p. IsAt space p (row % 256)) at value.1 in
          let least = is.1 in
          let most = is.2 in
          inr (omega arith, omega arith)
    ]
  ],
)

-- in each row that has it, a bit is set, and no other bit changes
abbrev pub IsSetIn : List ℕ → List ℕ → ℕ → (ℕ → Type 0) → Type 0
IsSetIn old new bit HasIt = (row i : ℕ) → row < row_count → (bit_at (get_or new row 0) i ≡ 1) ↔ ((bit_at (get_or old row 0) i ≡ 1) ⊎ ((i ≡ bit) × HasIt row))

pub set_in_same : (old new : List ℕ) (bit : ℕ) (One Other : ℕ → Type 0) → ((row : ℕ) → One row ↔ Other row) → IsSetIn old new bit One → IsSetIn old new bit Other
set_in_same old new bit One Other same set row i within = (
  λ is. elim ((set row i within).0 is) [ inl was ↦ inl was | inr its ↦ inr (its.0, (same row).0 its.1) ],
  λ either. (set row i within).1 (elim either [ inl was ↦ inl was | inr its ↦ inr (its.0, (same row).1 its.1) ]),
)

pub set_in_more : (old now new : List ℕ) (bit : ℕ) (One Other : ℕ → Type 0) → IsSetIn old now bit One → IsSetIn now new bit Other → IsSetIn old new bit (λ row. One row ⊎ Other row)
set_in_more old now new bit One Other first second row i within = (
  λ is. elim ((second row i within).0 is) [
    | inl was ↦ elim ((first row i within).0 was) [ inl before ↦ inl before | inr its ↦ inr (its.0, inl its.1) ]
    | inr its ↦ inr (its.0, inr its.1)
  ],
  λ either. (second row i within).1 (elim either [
    | inl before ↦ inl ((first row i within).1 (inl before))
    | inr its ↦ elim its.1 [ inl one ↦ inl ((first row i within).1 (inr (its.0, one))) | inr other ↦ inr (its.0, other) ]
  ]),
)

-- the rows from low to high
pub set_in_span : (old new : List ℕ) (bit low high : ℕ) → length old ≡ row_count → ((row i : ℕ) → row < length old → (bit_at (get_or new row 0) i ≡ 1) ↔ ((bit_at (get_or old row 0) i ≡ 1) ⊎ ((i ≡ bit) × (low ≤ row) × (row ≤ high)))) → IsSetIn old new bit (λ row. (low ≤ row) × (row ≤ high))
set_in_span old new bit low high size set row i within = let step = set row i (omega arith) in (
  λ is. elim (step.0 is) [ inl was ↦ inl was | inr its ↦ inr (its.0, (its.1, its.2)) ],
  λ either. step.1 (elim either [ inl was ↦ inl was | inr its ↦ inr (its.0, its.1.0, its.1.1) ]),
)

-- the first row, that of the length
pub touched_first : (space : Codespace) (at row : ℕ) → at ≡ row_of_length space.len → ((at ≤ row) × (row ≤ at)) ↔ IsTouched space 0 row
touched_first space at row is = (λ both. let (from, to) = both in inl (omega arith), λ touched. let its = (none_touched space row).0 touched in (omega arith, omega arith))

-- ---- the bits of items in a row
pub item_within : {A : Type 0} (Holds : A → Type 0) (items : List A) (index : ℕ) → IsSomeAnd (slice_get items index) Holds → index < length items
item_within Holds items index has = elim (slice_get_cases items index).1 [ inl found ↦ found.1 | inr past ↦ absurd (subst (λ o. IsSomeAnd o Holds) past.1 has) ]

pub no_bits : {A : Type 0} (HasRow : ℕ → A → Type 0) (items : List A) (first : ℕ) (rows : List ℕ) → rows ≡ replicate row_count 0 → HaveBitsOf HasRow items first 0 rows
no_bits HasRow items first rows cleared = record {
  size = ap (λ (l : List ℕ). length l) cleared ∙ length-replicate {A = ℕ} row_count 0;
  bits = λ row i within.
      let none = ap (λ (l : List ℕ). get_or l row 0) cleared ∙ get_or-replicate row_count row 0 0 within in
      (λ is. absurd (omega (arith, ap (λ n. bit_at n i) none, bit_at-zero i, is)), λ has. absurd (omega (arith, has.0)));
}

pub more_bits : {A : Type 0} (HasRow : ℕ → A → Type 0) (items : List A) (first n : ℕ) (item : A) (old new : List ℕ) → slice_get items (first + n) ≡ Some item → HaveBitsOf HasRow items first n old → length new ≡ row_count
    → ((row i : ℕ) → row < row_count → (bit_at (get_or new row 0) i ≡ 1) ↔ ((bit_at (get_or old row 0) i ≡ 1) ⊎ ((i ≡ n) × HasRow row item))) → HaveBitsOf HasRow items first (n + 1) new
more_bits HasRow items first n item old new at have size set = record {
  size = size;
  bits = λ row i within.
      let was = have.bits row i within in
      let now = set row i within in
      let here : (i ≡ n) → slice_get items (first + i) ≡ Some item = λ same. ap (λ k. slice_get items (first + k)) same ∙ at in (
        λ is. elim (now.0 is) [
          | inl before ↦ let (below, has) = was.0 before in (omega arith, has)
          | inr its ↦ (omega (arith, its.0), subst (λ o. IsSomeAnd o (HasRow row)) (sym (here its.0)) its.1)
        ],
        λ has. now.1 (elim (cases_lt i n) [
          | inl below ↦ inl (was.1 (below, has.1))
          | inr past ↦ let same : i ≡ n = omega (arith, has.0) in inr (same, subst (λ o. IsSomeAnd o (HasRow row)) (here same) has.1)
        ]),
      );
}

pub all_bits : {A : Type 0} (HasRow : ℕ → A → Type 0) (items : List A) (first count : ℕ) (rows : List ℕ) → first ≤ length items → count ≡ min (length items - first) 64 → HaveBitsOf HasRow items first count rows → HaveBitsOf HasRow items first 64 rows
all_bits HasRow items first count rows within is have = record {
  size = have.size;
  bits = λ row i lt. let bits = have.bits row i lt in (
    λ set. let (below, has) = bits.0 set in (omega arith, has),
    λ has. let index = item_within (HasRow row) items (first + i) has.1 in let below = has.0 in bits.1 (omega arith, has.1),
  );
}

pub row_marked : (old new : List ℕ) (at bit : ℕ) → at < length old → bit < 64 → new ≡ set old at (bit_or (get_or old at 0) (1 * 2 ^ bit % 2 ^ 64)) → (row i : ℕ) → (bit_at (get_or new row 0) i ≡ 1) ↔ ((bit_at (get_or old row 0) i ≡ 1) ⊎ ((i ≡ bit) × (row ≡ at)))
row_marked old new at bit within small is row i = subst (λ rows. (bit_at (get_or rows row 0) i ≡ 1) ↔ ((bit_at (get_or old row 0) i ≡ 1) ⊎ ((i ≡ bit) × (row ≡ at)))) (sym is) (row_set old at bit row i within small)

-- ---- blocks, one after another
pub length_more : {A : Type 0} (old new : List A) (item : A) → new ≡ old ++ (item ∷ []) → length new ≡ length old + 1
length_more old new item is = ap (λ l. length l) is ∙ length-append old (item ∷ [])

-- what holds of each item by its index
pub each_more : {A : Type 0} (Holds : ℕ → A → Type 0) (old new : List A) (item : A) → new ≡ old ++ (item ∷ []) → ((k : ℕ) (d : A) → k < length old → Holds k (get_or old k d)) → Holds (length old) item → (k : ℕ) (d : A) → k < length new → Holds k (get_or new k d)
each_more Holds old new item is each last k d within =
    elim (cases_lt k (length old)) [
      | inl below ↦ subst (Holds k) (sym (ap (λ l. get_or l k d) is ∙ get_or_append_left old (item ∷ []) d k below)) (each k d below)
      | inr from ↦
          let at : k ≡ length old = omega (arith, length_more old new item is) in
          let end : k ≡ length old + 0 = omega arith in
          subst (Holds k) (sym (ap (λ l. get_or l k d) is ∙ ap (λ i. get_or (old ++ (item ∷ [])) i d) end ∙ get_or-append-add old (item ∷ []) 0 d)) (subst (λ i. Holds i item) (sym at) last)
    ]

-- rows that are cleared, and more of them
pub cleared_more : (old new : List ℕ) (m n : ℕ) → old ≡ replicate m 0 → m ≤ n → new ≡ take n old ++ replicate (n - m) 0 → new ≡ replicate n 0
cleared_more old new m n cleared more is =
    let whole : length old ≤ n = omega (arith, ap (λ (l : List ℕ). length l) cleared, length-replicate {A = ℕ} m 0) in
    let sum : m + (n - m) ≡ n = omega arith in
    is ∙ ap (λ l. l ++ replicate (n - m) 0) (take_all n old whole ∙ cleared) ∙ replicate-append-replicate m (n - m) 0 ∙ ap (λ k. replicate k 0) sum
