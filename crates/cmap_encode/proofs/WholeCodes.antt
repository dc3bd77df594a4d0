-- Codes that are whole as another one is, or are not.
use Rattle.std.proofs.Common.{◌≡◌, ℕ, ◌+◌, ◌-◌, ◌*◌, ◌/◌, ◌^◌, ◌<◌, ◌≤◌, List, length, take, drop, sym, ap, ◌∙◌, subst, inl, inr, arith, length-drop}
use Rattle.std.specs.Prelude.{Any, get_or, map}
use Rattle.std.proofs.Math.Nat.{div-div-eq-div-mul, lt-div-mul-add, mod-lt, mul-le-mul_right, one-le-pow}
use Rattle.std.proofs.lemmas.Bool.{cases_lt, cases_order}
use Rattle.std.proofs.lemmas.List.{get_or-map, length-map, length-take-le, take-append-drop, take_all}
use Rattle.std.proofs.lemmas.List.Elements.{All-drop, All-take}
use Rattle.std.proofs.lemmas.Nat.{div-mul-add, div_below, pow-add}
use Rattle.cmap_codespaces.specs.CodesWithin.{IsWithin, byte_at}
use Rattle.cmap_values.specs.BigEndian.{big_endian}
use Rattle.cmap_values.specs.CodeLengths.{IsCodeLength}
use Rattle.cmap_values.specs.Files.{Codespace}
use Rattle.cmap_values.specs.Only.{HoldsOfNone}
use Rattle.cmap_layers.specs.Layers.{Layer}
use Rattle.cmap_layers.specs.StringCodes.{BeginsInside, IsShortestInside}
use Rattle.cmap_encode.specs.Codes.{IsWhole}
use Rattle.cmap_encode.specs.Strings.{IsString}
use Rattle.cmap_encode.specs.Outside.{IsInside}
use Rattle.cmap_encode.specs.WholeSeen.{HasPrefixInside, IsFull, IsWholeNumber}
use Rattle.cmap_encode.proofs.CodesOutside.{same_byte, whole_inside}
use Rattle.cmap_encode.proofs.CodesRead.{whole_length}
use Rattle.cmap_encode.proofs.Numbers.{AreBytesOf, number_append, number_below, one_string}

-- the number of the first bytes
pub prefix_number : (bytes : List ℕ) (m : ℕ) → IsString bytes → m ≤ length bytes → big_endian (take m bytes) ≡ big_endian bytes / 256 ^ (length bytes - m)
prefix_number bytes m are within =
    let rest = drop m bytes in
    let count : length rest ≡ length bytes - m = length-drop m bytes in
    let whole : big_endian bytes ≡ big_endian (take m bytes) * 256 ^ length rest + big_endian rest = ap big_endian (sym (take-append-drop m bytes)) ∙ number_append (take m bytes) rest in
    sym (ap (λ n. n / 256 ^ (length bytes - m)) whole ∙ ap (λ k. (big_endian (take m bytes) * 256 ^ length rest + big_endian rest) / 256 ^ k) (sym count)
    ∙ div-mul-add (big_endian (take m bytes)) (256 ^ length rest) (big_endian rest) (number_below rest (All-drop (λ b. b < 256) m bytes are)))

-- without some of the last bytes, and then without more
pub without_more : (n few more : ℕ) → few ≤ more → n / 256 ^ few / 256 ^ (more - few) ≡ n / 256 ^ more
without_more n few more le =
    let sum : few + (more - few) ≡ more = omega arith in
    div-div-eq-div-mul n (256 ^ few) (256 ^ (more - few)) ∙ ap (λ p. n / p) (sym (pow-add 256 few (more - few)) ∙ ap (λ k. 256 ^ k) sum)

-- numbers that are the same without their last bytes are so without more
pub same_without : (n other few more : ℕ) → few ≤ more → n / 256 ^ few ≡ other / 256 ^ few → n / 256 ^ more ≡ other / 256 ^ more
same_without n other few more le same = sym (without_more n few more le) ∙ ap (λ q. q / 256 ^ (more - few)) same ∙ without_more other few more le

-- a range with the code has the other, which has the same bytes before the last ones, a byte then that the range has, and any others
pub within_too : (space : Codespace) (len after code number : ℕ) → 1 ≤ after → after ≤ len → len ≤ 4 → number / 256 ^ after ≡ code / 256 ^ after → IsFull space (after - 1) → byte_at code (after - 1) ≤ byte_at number (after - 1) → byte_at number (after - 1) ≤ byte_at space.high (after - 1) → IsWithin space code len → IsWithin space number len
within_too space len after code number some most few same full from to (long, bytes) = (long, at)
  where
    at : (k : ℕ) → k < len → (byte_at space.low k ≤ byte_at number k) × (byte_at number k ≤ byte_at space.high k)
    at k lt =
        elim (cases_order k (after - 1)) [
          | inl here ↦
              let low : byte_at space.low (after - 1) ≤ byte_at code (after - 1) = (bytes (after - 1) (omega arith)).0 in
              subst (λ j. (byte_at space.low j ≤ byte_at number j) × (byte_at number j ≤ byte_at space.high j)) (sym here) (omega arith, to)
          | inr (inl last) ↦
              let (low, high) = full k last in
              let byte : byte_at number k < 256 = mod-lt (number / 256 ^ k) (omega arith) in
              (omega (arith, low), omega (arith, high, byte))
          | inr (inr prefix) ↦
              let is : byte_at number k ≡ byte_at code k = same_byte number code after k same some (omega arith) (omega arith) (omega arith) in
              let (low, high) = bytes k lt in
              (subst (λ b. byte_at space.low k ≤ b) (sym is) low, subst (λ b. b ≤ byte_at space.high k) (sym is) high)
        ]

-- an element of a list that clauses see by f
pub any_at : {A B : Type 0} (f : A → B) (P : B → Type 0) (xs : List A) (k : ℕ) (d : A) → k < length xs → P (f (get_or xs k d)) → Any P (map f xs)
any_at f P xs k d within holds = (k, f (get_or xs k d), omega (arith, length-map xs f), get_or-map f xs k d (f (get_or xs k d)) within, holds)

-- ---- codes in a row from a first one on
module _ (layers : List Layer) (first : List ℕ) (len number last : ℕ) (is_len : IsCodeLength len) (are : AreBytesOf len number first) where
  at_first : (bytes : List ℕ) → IsString bytes → length bytes ≡ len → big_endian bytes ≡ number → bytes ≡ first
  at_first bytes strings long same = one_string first bytes are.string strings (omega (arith, are.count, is_len.0)) (omega (arith, are.count, is_len.1)) (omega (arith, are.count)) (same ∙ sym are.writes)

  -- no prefix of the first is inside a range, and no further code is
  pub none_whole : HoldsOfNone (BeginsInside layers first) → ((other : ℕ) → number < other → other ≤ last → IsInside layers len other → ⊥)
      → (bytes : List ℕ) → IsString bytes → length bytes ≡ len → number ≤ big_endian bytes → big_endian bytes ≤ last → IsWhole layers bytes → ⊥
  none_whole none outside bytes strings long from to whole =
      elim (cases_lt number (big_endian bytes)) [
        | inl later ↦ outside (big_endian bytes) later to (subst (λ n. IsInside layers n (big_endian bytes)) long (whole_inside layers bytes whole))
        | inr here ↦ none (length bytes) (subst (λ b. BeginsInside layers b (length bytes)) (at_first bytes strings long (omega arith)) whole.0)
      ]

  -- a shorter prefix is, and those of the further codes are
  pub all_shadowed : (count after : ℕ) → IsShortestInside layers first count → count < len → after ≡ len - count → ((other : ℕ) → number ≤ other → other ≤ last → HasPrefixInside layers count after number other)
      → (bytes : List ℕ) → IsString bytes → length bytes ≡ len → number ≤ big_endian bytes → big_endian bytes ≤ last → IsWhole layers bytes → ⊥
  all_shadowed count after (begins, shortest) fewer is prefixes bytes strings long from to whole =
      let of_first : length first - count ≡ after = omega (arith, are.count) in
      let of_bytes : length bytes - count ≡ after = omega arith in
      let first_prefix = prefix_number first count are.string (omega (arith, are.count)) ∙ ap (λ k. big_endian first / 256 ^ k) of_first ∙ ap (λ n. n / 256 ^ after) are.writes in
      let prefix = prefix_number bytes count strings (omega arith) ∙ ap (λ k. big_endian bytes / 256 ^ k) of_bytes in
      let inside : IsInside layers count (big_endian bytes / 256 ^ after) = elim (prefixes (big_endian bytes) from to) [
        | inl same ↦ subst (IsInside layers count) (first_prefix ∙ sym same) begins.1.3
        | inr there ↦ there
      ] in
      let taken : length (take count bytes) ≡ count = length-take-le count bytes (omega arith) in
      let below : big_endian (take count bytes) < 256 ^ count = subst (λ k. big_endian (take count bytes) < 256 ^ k) taken (number_below (take count bytes) (All-take (λ b. b < 256) count bytes strings)) in
      whole.1 count (omega arith) (omega arith, (begins.1.0, begins.1.1, below, subst (IsInside layers count) (sym prefix) inside))

-- ---- whole codes by their numbers
pub number_whole : (layers : List Layer) (bytes : List ℕ) → IsString bytes → IsWhole layers bytes → IsWholeNumber layers (length bytes) (big_endian bytes)
number_whole layers bytes are whole = record {
  inside = whole_inside layers bytes whole;
  prefixes = λ left some less inside.
      let m = length bytes - left in
      let (one, four) = whole_length layers bytes whole in
      let back : length bytes - m ≡ left = omega arith in
      let prefix : big_endian (take m bytes) ≡ big_endian bytes / 256 ^ left = prefix_number bytes m are (omega arith) ∙ ap (λ k. big_endian bytes / 256 ^ k) back in
      let taken : length (take m bytes) ≡ m = length-take-le m bytes (omega arith) in
      let below : big_endian (take m bytes) < 256 ^ m = subst (λ k. big_endian (take m bytes) < 256 ^ k) taken (number_below (take m bytes) (All-take (λ b. b < 256) m bytes are)) in
      whole.1 m (omega arith) (omega arith, (omega arith, omega arith, below, subst (IsInside layers m) (sym prefix) inside));
}

pub whole_number : (layers : List Layer) (bytes : List ℕ) → IsString bytes → IsCodeLength (length bytes) → IsWholeNumber layers (length bytes) (big_endian bytes) → IsWhole layers bytes
whole_number layers bytes are (one, four) is =
    let all : take (length bytes) bytes ≡ bytes = take_all (length bytes) bytes (omega arith) in (
      (omega arith, (one, four, subst (λ (l : List ℕ). big_endian l < 256 ^ length bytes) (sym all) (number_below bytes are), subst (λ (l : List ℕ). IsInside layers (length bytes) (big_endian l)) (sym all) is.inside)),
      λ m fewer begins.
          let some = begins.1.0 in
          let prefix = prefix_number bytes m are (omega arith) in
          let back : length bytes - (length bytes - m) ≡ m = omega arith in
          is.prefixes (length bytes - m) (omega arith) (omega arith) (subst (λ n. IsInside layers n (big_endian bytes / 256 ^ (length bytes - m))) (sym back) (subst (IsInside layers m) prefix begins.1.3)),
    )

-- a number with the same bytes before the last ones, so many, and with no prefix inside that has some of these
pub whole_as : (layers : List Layer) (len after number other : ℕ) → after ≤ len → other / 256 ^ after ≡ number / 256 ^ after → IsWholeNumber layers len number → IsInside layers len other → ((left : ℕ) → 1 ≤ left → left < after → IsInside layers (len - left) (other / 256 ^ left) → ⊥) → IsWholeNumber layers len other
whole_as layers len after number other le same is inside none = record {
  inside = inside;
  prefixes = λ left some less there.
      elim (cases_lt left after) [
        | inl few ↦ none left some few there
        | inr many ↦ is.prefixes left some less (subst (IsInside layers (len - left)) (same_without other number after left many same) there)
      ];
}

pub still_fits : (len after number last : ℕ) → after ≤ len → last / 256 ^ after ≡ number / 256 ^ after → number < 256 ^ len → last < 256 ^ len
still_fits len after number last le same fits =
    let sum : (len - after) + after ≡ len = omega arith in
    let power : 256 ^ len ≡ 256 ^ (len - after) * 256 ^ after = ap (λ k. 256 ^ k) (sym sum) ∙ pow-add 256 (len - after) after in
    let below : number / 256 ^ after < 256 ^ (len - after) = div_below number (256 ^ after) (256 ^ (len - after)) (one-le-pow after 256 (omega arith)) (subst (λ p. number < p) power fits) in
    let most : (last / 256 ^ after + 1) * 256 ^ after ≤ 256 ^ (len - after) * 256 ^ after = mul-le-mul_right (256 ^ after) (omega (arith, below, same)) in
    let less : last < last / 256 ^ after * 256 ^ after + 256 ^ after = lt-div-mul-add (one-le-pow after 256 (omega arith)) in
    omega (arith, most, less, power)
