-- Rows of lengths: which a range is in, and which row the first bytes of a text have.
use Rattle.std.proofs.Common.{◌≡◌, ℕ, ◌+◌, ◌-◌, ◌*◌, ◌/◌, ◌%◌, ◌<◌, ◌≤◌, ◌⊎◌, List, length, map, take, get_or, get_or-take, replicate, Option, Some, None, sym, ap, ◌∙◌, subst, inl, inr, lt-ltb, le-ltb, slice_get, Any, arith}
use Rattle.std.specs.Prelude.{◌↔◌, IsSomeAnd, slice_index, nat_lt, if◌then◌else◌}
use Rattle.std.specs.Int.{bit_at}
use Rattle.std.proofs.lemmas.Bool.{cases_lt}
use Rattle.std.proofs.lemmas.Nat.Bits.{bit_at-zero}
use Rattle.std.proofs.lemmas.List.{get_or-replicate, length-replicate, length-take-le, take_all}
use Rattle.std.proofs.lemmas.Option.{slice_get_cases}
use Rattle.std.specs.Global.{Vec}
use Rattle.cmap_values.specs.CodeLengths.{IsCodeLength, length_of}
use Rattle.cmap_values.specs.DeclarationsSeen.{codespace_seen}
use Rattle.cmap_values.specs.Files.{Codespace}
use Rattle.cmap_values.specs.declared.declarations.Codespace as declared
use Rattle.cmap_codespaces.specs.CodesWithin.{HasFront, IsAt, IsInsideRanges, IsLeast}
use Rattle.cmap_codespaces.specs.SpaceBits.{AreBlocks, BeginsInRow, HasLength, HaveLengths, InRows, MayBeAt, front_row_count, query_of, row_of_front}
use Rattle.cmap_codespaces.proofs.BytesWithin.{length_fits}
use Rattle.cmap_codespaces.proofs.SpacesFound.{AreBytes, NoneBelow, any_at, any_same, at_any, blocks_find, front_rows, query-rows, taken_bytes}

-- ---- the rows that a range is in
-- those of no byte and of first bytes before `stop`, and those of two bytes whose first one is before `end`
abbrev pub IsMarked : ℕ → ℕ → ℕ → ℕ → ℕ → ℕ → Type 0
IsMarked first stop low high end row = (row ≡ 0) ⊎ (((1 + first ≤ row) × (row < 1 + stop)) ⊎ ((257 ≤ row) × (first ≤ (row - 257) / 256) × ((row - 257) / 256 < end) × (low ≤ (row - 257) % 256) × ((row - 257) % 256 ≤ high)))

-- one more row for no byte, then for first bytes, and none of two bytes yet
pub marked_first : (old one two : List ℕ) (len first last low high row i : ℕ) → (bit_at (get_or one row 0) i ≡ 1) ↔ ((bit_at (get_or old row 0) i ≡ 1) ⊎ ((i ≡ len) × (0 ≤ row) × (row ≤ 0)))
    → (bit_at (get_or two row 0) i ≡ 1) ↔ ((bit_at (get_or one row 0) i ≡ 1) ⊎ ((i ≡ len) × (1 + first ≤ row) × (row ≤ 1 + last))) → (bit_at (get_or two row 0) i ≡ 1) ↔ ((bit_at (get_or old row 0) i ≡ 1) ⊎ ((i ≡ len) × IsMarked first (last + 1) low high first row))
marked_first old one two len first last low high row i begun more = (
  λ set. elim (more.0 set) [
    | inl was ↦ elim (begun.0 was) [ inl before ↦ inl before | inr its ↦ let none = its.2 in inr (its.0, inl (omega arith)) ]
    | inr its ↦ let most = its.2 in inr (its.0, inr (inl (its.1, omega arith)))
  ],
  λ either. more.1 (elim either [
    | inl before ↦ inl (begun.1 (inl before))
    | inr (its, marked) ↦ elim marked [
      | inl none ↦ inl (begun.1 (inr (its, omega arith, omega arith)))
      | inr others ↦ elim others [ inl one ↦ let below = one.1 in inr (its, one.0, omega arith) | inr (pair, from, below, least, most) ↦ absurd (omega arith) ]
    ]
  ]),
)

-- the rows of two bytes with one more first byte
pub marked_more : (old new : List ℕ) (before : Type 0) (len first stop low high byte row i : ℕ) → low < 256 → high < 256 → first ≤ byte → (bit_at (get_or old row 0) i ≡ 1) ↔ (before ⊎ ((i ≡ len) × IsMarked first stop low high byte row))
    → (bit_at (get_or new row 0) i ≡ 1) ↔ ((bit_at (get_or old row 0) i ≡ 1) ⊎ ((i ≡ len) × (257 + 256 * byte + low ≤ row) × (row ≤ 257 + 256 * byte + high))) → (bit_at (get_or new row 0) i ≡ 1) ↔ (before ⊎ ((i ≡ len) × IsMarked first stop low high (byte + 1) row))
marked_more old new before len first stop low high byte row i low_fits high_fits from was more = (
  λ set. elim (more.0 set) [
    | inl earlier ↦ elim (was.0 earlier) [
      | inl first ↦ inl first
      | inr (its, marked) ↦ inr (
        its,
        elim marked [
          | inl none ↦ inl none
          | inr others ↦ inr (elim others [ inl one ↦ inl one | inr (pair, least, below, low_is, high_is) ↦ inr (pair, least, omega arith, low_is, high_is) ])
        ],
      )
    ]
    | inr (its, least, most) ↦ inr (its, inr (inr (omega arith, omega arith, omega arith, omega arith, omega arith)))
  ],
  λ either. more.1 (elim either [
    | inl first ↦ inl (was.1 (inl first))
    | inr (its, marked) ↦ elim marked [
      | inl none ↦ inl (was.1 (inr (its, inl none)))
      | inr others ↦ elim others [
        | inl one ↦ inl (was.1 (inr (its, inr (inl one))))
        | inr (pair, least, below, low_is, high_is) ↦ elim (cases_lt ((row - 257) / 256) byte) [
          | inl less ↦ inl (was.1 (inr (its, inr (inr (pair, least, less, low_is, high_is)))))
          | inr same ↦ inr (its, omega arith, omega arith)
        ]
      ]
    ]
  ]),
)

-- a range is in these rows
pub marked_all : (space : Codespace) (first last low high end row : ℕ) → row < front_row_count → last < 256 → (end ≤ last + 1) ⊎ (end ≡ first) → last < end → ((value : ℕ) → value < 256 → MayBeAt space 0 value ↔ ((first ≤ value) × (value ≤ last)))
    → ((value : ℕ) → value < 256 → MayBeAt space 1 value ↔ ((low ≤ value) × (value ≤ high))) → IsMarked first (last + 1) low high end row ↔ BeginsInRow row space
marked_all space first last low high end row within fits upto past one two = (
  λ marked. elim marked [
    | inl none ↦ (λ some below. absurd (omega arith), λ pair. absurd (omega arith))
    | inr others ↦ elim others [
      | inl (least, most) ↦ (λ some below. (one (row - 1) (omega arith)).1 (omega arith, omega arith), λ pair. absurd (omega arith))
      | inr (pair, least, below, low_is, high_is) ↦ (
        λ some below. absurd (omega arith),
        λ _. ((one ((row - 257) / 256) (omega arith)).1 (least, elim upto [ inl more ↦ omega arith | inr none ↦ absurd (omega arith) ]), (two ((row - 257) % 256) (omega arith)).1 (low_is, high_is)),
      )
    ]
  ],
  λ begins. elim (cases_lt row 1) [
    | inl none ↦ inl (omega arith)
    | inr some ↦ elim (cases_lt row 257) [
      | inl below ↦ let (least, most) = (one (row - 1) (omega arith)).0 (begins.0 some below) in inr (inl (omega arith, omega arith))
      | inr pair ↦
          let its = begins.1 pair in
          let (least, most) = (one ((row - 257) / 256) (omega arith)).0 its.0 in
          let (low_is, high_is) = (two ((row - 257) % 256) (omega arith)).0 its.1 in
          inr (inr (pair, least, omega arith, low_is, high_is))
    ]
  ],
)

-- ---- the rows of a list
pub no_lengths_yet : (spaces : List declared.Codespace) (rows : List ℕ) → rows ≡ replicate front_row_count 0 → HaveLengths spaces 0 rows
no_lengths_yet spaces rows cleared = record {
  size = ap (λ (l : List ℕ). length l) cleared ∙ length-replicate {A = ℕ} front_row_count 0;
  bits = λ row i within.
      let none = ap (λ (l : List ℕ). get_or l row 0) cleared ∙ get_or-replicate front_row_count row 0 0 within in
      (λ is. absurd (omega (arith, ap (λ n. bit_at n i) none, bit_at-zero i, is)), λ has. absurd (omega (arith, has.1)));
}

pub lengths_more : (spaces : List declared.Codespace) (n : ℕ) (space : declared.Codespace) (old new : List ℕ) → slice_get spaces n ≡ Some space → HaveLengths spaces n old → length new ≡ front_row_count
    → ((row i : ℕ) → row < front_row_count → (bit_at (get_or new row 0) i ≡ 1) ↔ ((bit_at (get_or old row 0) i ≡ 1) ⊎ ((i ≡ length_of space.len) × BeginsInRow row (codespace_seen space)))) → HaveLengths spaces (n + 1) new
lengths_more spaces n space old new at have size set = record {
  size = size;
  bits = λ row i within.
      let was = have.bits row i within in
      let now = set row i within in (
        λ is. elim (now.0 is) [
          | inl before ↦ let (k, below, has) = was.0 before in (k, omega arith, has)
          | inr its ↦ (n, omega arith, subst (λ o. IsSomeAnd o (HasLength row i)) (sym at) its)
        ],
        λ has. let (k, below, its) = has in now.1 (elim (cases_lt k n) [
          | inl less ↦ inl (was.1 (k, less, its))
          | inr last ↦ let same : k ≡ n = omega arith in inr (subst (λ o. IsSomeAnd o (HasLength row i)) (ap (slice_get spaces) same ∙ at) its)
        ]),
      );
}

-- ---- the row of a front
front_none : (front : List ℕ) → length front ≤ 0 → row_of_front front ≡ 0
front_none front none = ap (λ b. if b then (if nat_lt 1 (length front) then 257 + 256 * slice_index front 0 + slice_index front 1 else 1 + slice_index front 0) else 0) (le-ltb 0 (length front) none)

front_some : (front : List ℕ) → 0 < length front → row_of_front front ≡ (if nat_lt 1 (length front) then 257 + 256 * slice_index front 0 + slice_index front 1 else 1 + slice_index front 0)
front_some front some = ap (λ b. if b then (if nat_lt 1 (length front) then 257 + 256 * slice_index front 0 + slice_index front 1 else 1 + slice_index front 0) else 0) (lt-ltb 0 (length front) some)

front_one : (front : List ℕ) → 0 < length front → length front ≤ 1 → row_of_front front ≡ 1 + slice_index front 0
front_one front some one = front_some front some ∙ ap (λ b. if b then 257 + 256 * slice_index front 0 + slice_index front 1 else 1 + slice_index front 0) (le-ltb 1 (length front) one)

front_two : (front : List ℕ) → 1 < length front → row_of_front front ≡ 257 + 256 * slice_index front 0 + slice_index front 1
front_two front two = front_some front (omega arith) ∙ ap (λ b. if b then 257 + 256 * slice_index front 0 + slice_index front 1 else 1 + slice_index front 0) (lt-ltb 1 (length front) two)

pub front_row_fits : (front : List ℕ) → AreBytes front → row_of_front front < front_row_count
front_row_fits front bytes =
    elim (cases_lt 0 (length front)) [
      | inr none ↦ omega (arith, front_none front none)
      | inl some ↦ elim (cases_lt 1 (length front)) [
        | inr one ↦ omega (arith, front_one front some one, bytes 0)
        | inl two ↦ omega (arith, front_two front two, bytes 0, bytes 1)
      ]
    ]

-- a range is in the row of a front just where its codes have the first two of these bytes, as far as both go
pub in_front_row : (space : Codespace) (front : List ℕ) → AreBytes front → BeginsInRow (row_of_front front) space ↔ ((k : ℕ) → k < 2 → k < length front → MayBeAt space k (slice_index front k))
in_front_row space front bytes =
    elim (cases_lt 0 (length front)) [
      | inr none ↦ let row = front_none front none in (λ begins k few within. absurd (omega arith), λ each. (λ some below. absurd (omega arith), λ pair. absurd (omega arith)))
      | inl some ↦ elim (cases_lt 1 (length front)) [
        | inr one ↦
            let row = front_one front some one in
            let first : row_of_front front - 1 ≡ slice_index front 0 = omega arith in
            let fits = bytes 0 in (
              λ begins k few within. let same : 0 ≡ k = omega arith in subst (λ j. MayBeAt space j (slice_index front j)) same (subst (MayBeAt space 0) first (begins.0 (omega arith) (omega arith))),
              λ each. (λ _ _. subst (MayBeAt space 0) (sym first) (each 0 (omega arith) some), λ pair. absurd (omega arith)),
            )
        | inl two ↦
            let row = front_two front two in
            let fits = bytes 0 in
            let fits_too = bytes 1 in
            let first : (row_of_front front - 257) / 256 ≡ slice_index front 0 = omega arith in
            let second : (row_of_front front - 257) % 256 ≡ slice_index front 1 = omega arith in (
              λ begins k few within. let (one, next) = begins.1 (omega arith) in
                  elim (cases_lt k 1) [
                    | inl least ↦ let same : 0 ≡ k = omega arith in subst (λ j. MayBeAt space j (slice_index front j)) same (subst (MayBeAt space 0) first one)
                    | inr other ↦ let same : 1 ≡ k = omega arith in subst (λ j. MayBeAt space j (slice_index front j)) same (subst (MayBeAt space 1) second next)
                  ],
              λ each. (λ some below. absurd (omega arith), λ _. (subst (MayBeAt space 0) (sym first) (each 0 (omega arith) some), subst (MayBeAt space 1) (sym second) (each 1 (omega arith) two))),
            )
      ]
    ]

-- the lengths of codes that may begin with these bytes, those after the second one left aside
abbrev pub HasBit : List ℕ → List ℕ → ℕ → Type 0
HasBit rows front n = bit_at (get_or rows (row_of_front front) 0) n ≡ 1

few_taken : (text : List ℕ) (n : ℕ) → length (take n text) ≤ n
few_taken text n =
    elim (cases_lt n (length text)) [
      | inl less ↦ omega (arith, length-take-le n text (omega arith))
      | inr most ↦ omega (arith, ap (λ (l : List ℕ). length l) (take_all n text most))
    ]

bit_of_range : (spaces : List declared.Codespace) (rows front : List ℕ) (n : ℕ) → AreBytes front → HaveLengths spaces (length spaces) rows → HasBit rows front n ↔ ((k : ℕ) × (k < length spaces) × IsSomeAnd (slice_get spaces k) (HasLength (row_of_front front) n))
bit_of_range spaces rows front n bytes have = have.bits (row_of_front front) n (front_row_fits front bytes)

some_weaker : {A : Type 0} (P Q : A → Type 0) (o : Option A) → ((x : A) → P x → Q x) → IsSomeAnd o P → IsSomeAnd o Q
some_weaker P Q None weaker holds = holds
some_weaker P Q (Some x) weaker holds = weaker x holds

-- what a text begins with, as far as the codes of a range go
abbrev pub BeginsSo : List ℕ → Codespace → Type 0
BeginsSo front space = (k : ℕ) → k < 2 → k < length front → MayBeAt space k (slice_index front k)

pub bit_set : (spaces : List declared.Codespace) (rows front part : List ℕ) (n : ℕ) → AreBytes front → HaveLengths spaces (length spaces) rows → ((space : Codespace) → HasFront n part space → BeginsSo front space) → Any (HasFront n part) (map codespace_seen spaces) → HasBit rows front n
bit_set spaces rows front part n bytes have begins some =
    let (k, within, has) = at_any codespace_seen (HasFront n part) spaces some in
    let row = row_of_front front in
    (bit_of_range spaces rows front n bytes have).1 (k, within, some_weaker (λ space. HasFront n part (codespace_seen space)) (HasLength row n) (slice_get spaces k) (λ space has. (sym has.0, (in_front_row (codespace_seen space) front bytes).1 (begins (codespace_seen space) has))) has)

pub bit_means : (spaces : List declared.Codespace) (rows front part : List ℕ) (n : ℕ) → AreBytes front → HaveLengths spaces (length spaces) rows → ((space : Codespace) → (space.len ≡ n) → BeginsSo front space → HasFront n part space) → HasBit rows front n → Any (HasFront n part) (map codespace_seen spaces)
bit_means spaces rows front part n bytes have means set =
    let (k, within, has) = (bit_of_range spaces rows front n bytes have).0 set in
    let row = row_of_front front in
    any_at codespace_seen (HasFront n part) spaces k (some_weaker (HasLength row n) (λ space. HasFront n part (codespace_seen space)) (slice_get spaces k) (λ space has. means (codespace_seen space) (sym has.0) ((in_front_row (codespace_seen space) front bytes).0 has.1)) has)

-- a bit is that of a length
pub bit_fits : (spaces : List declared.Codespace) (rows front : List ℕ) (n : ℕ) → AreBytes front → HaveLengths spaces (length spaces) rows → HasBit rows front n → IsCodeLength n
bit_fits spaces rows front n bytes have set =
    let (k, within, has) = (bit_of_range spaces rows front n bytes have).0 set in
    elim (slice_get_cases spaces k).1 [
      | inl (space, below, at, is) ↦ let its = subst (λ o. IsSomeAnd o (HasLength (row_of_front front) n)) at has in subst IsCodeLength (sym its.0) (length_fits space.len)
      | inr past ↦ absurd (subst (λ o. IsSomeAnd o (HasLength (row_of_front front) n)) past.1 has)
    ]

-- ---- the shortest code that a text begins with
taken_len : (text : List ℕ) (n k : ℕ) → k < n → k < length text → k < length (take n text)
taken_len text n k below within =
    elim (cases_lt n (length text)) [
      | inl less ↦ omega (arith, length-take-le n text (omega arith))
      | inr most ↦ omega (arith, ap (λ (l : List ℕ). length l) (take_all n text most))
    ]

text_begins : (text : List ℕ) (n : ℕ) (space : Codespace) → HasFront n (take n text) space → BeginsSo text space
text_begins text n space has k few within below =
    let less : k < n = omega (arith, has.0) in
    subst (IsAt space k) (get_or-take n text k 0 less) (has.1 k (taken_len text n k less within))

text_has : (text : List ℕ) (n : ℕ) (space : Codespace) → n ≤ 2 → n ≤ length text → (space.len ≡ n) → BeginsSo text space → HasFront n (take n text) space
text_has text n space few fits len begins = (
  len,
  λ k within.
      let less : k < n = omega (arith, length-take-le n text fits) in
      subst (IsAt space k) (sym (get_or-take n text k 0 less)) (begins k (omega arith) (omega arith) (omega arith)),
)

-- no length below this one is that of a code which may begin as the text does
abbrev pub NoBitBelow : List ℕ → List ℕ → ℕ → Type 0
NoBitBelow rows text n = (m : ℕ) → 1 ≤ m → m < n → HasBit rows text m → ⊥

pub no_bit_inside : (spaces : List declared.Codespace) (rows text : List ℕ) → AreBytes text → HaveLengths spaces (length spaces) rows → ((n : ℕ) → 1 ≤ n → n ≤ length text → HasBit rows text n → ⊥) → IsLeast (IsInsideRanges text (map codespace_seen spaces)) None
no_bit_inside spaces rows text bytes have none = λ n inside. let ((some, few, within), found) = inside in none n some within (bit_set spaces rows text (take n text) n bytes have (text_begins text n) found)

pub first_bit_inside : (spaces : List declared.Codespace) (rows text : List ℕ) (n : ℕ) → AreBytes text → HaveLengths spaces (length spaces) rows → n ≤ 2 → n ≤ length text → HasBit rows text n → NoBitBelow rows text n → IsLeast (IsInsideRanges text (map codespace_seen spaces)) (Some n)
first_bit_inside spaces rows text n bytes have few within set none =
    let fits = bit_fits spaces rows text n bytes have set in (
      ((fits.0, fits.1, within), bit_means spaces rows text (take n text) n bytes have (λ space. text_has text n space few within) set),
      λ m below inside. let ((some, less, enough), found) = inside in none m some below (bit_set spaces rows text (take m text) m bytes have (text_begins text m) found),
    )

pub none_before_bit : (spaces : List declared.Codespace) (blocks : List (Vec ℕ)) (rows text : List ℕ) (n : ℕ) → AreBytes text → AreBlocks spaces blocks → HaveLengths spaces (length spaces) rows → n ≤ 4 → NoBitBelow rows text n → NoneBelow blocks text n
none_before_bit spaces blocks rows text n bytes are have fits none m some below found =
    let front = take m text in
    let taken = taken_bytes text m bytes in
    let ranges = (blocks_find spaces blocks (query_of m front) are (query-rows m front taken (omega arith))).0 found in
    none m some below (bit_set spaces rows text front m bytes have (text_begins text m) ((any_same (InRows (query_of m front)) (HasFront m front) (map codespace_seen spaces) (λ space. front_rows m front space taken some (omega (arith, few_taken text m)))).0 ranges))

-- ---- the fewest bytes of codes that begin with a front
front_len : (front : List ℕ) (n : ℕ) (space : Codespace) → HasFront n front space → length front ≤ n
front_len front n space has =
    elim (cases_lt n (length front)) [
      | inl longer ↦ let its = has.1 n longer in let below = its.0 in absurd (omega (arith, has.0))
      | inr fits ↦ fits
    ]

any_front_len : (front : List ℕ) (n : ℕ) (spaces : List Codespace) → Any (HasFront n front) spaces → length front ≤ n
any_front_len front n spaces (k, space, below, is, has) = front_len front n space has

pub no_bit_front : (spaces : List declared.Codespace) (rows front : List ℕ) → AreBytes front → HaveLengths spaces (length spaces) rows → ((n : ℕ) → length front ≤ n → HasBit rows front n → ⊥) → IsLeast (λ n. IsCodeLength n × Any (HasFront n front) (map codespace_seen spaces)) None
no_bit_front spaces rows front bytes have none = λ n holds. none n (any_front_len front n (map codespace_seen spaces) holds.1) (bit_set spaces rows front front n bytes have (λ space has k few within below. has.1 k within) holds.1)

pub first_bit_front : (spaces : List declared.Codespace) (rows front : List ℕ) (n : ℕ) → AreBytes front → HaveLengths spaces (length spaces) rows → length front ≤ 2 → length front ≤ n → HasBit rows front n → ((m : ℕ) → m < n → length front ≤ m → HasBit rows front m → ⊥) → IsLeast (λ n. IsCodeLength n × Any (HasFront n front) (map codespace_seen spaces)) (Some n)
first_bit_front spaces rows front n bytes have few fits set none = (
  (bit_fits spaces rows front n bytes have set, bit_means spaces rows front front n bytes have (λ space len begins. (len, λ k within. begins k (omega arith) within (omega arith))) set),
  λ m below holds. none m below (any_front_len front m (map codespace_seen spaces) holds.1) (bit_set spaces rows front front m bytes have (λ space has k few within below. has.1 k within) holds.1),
)
