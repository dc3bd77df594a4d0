-- A string begins with one code.
use Rattle.std.proofs.Common.{◌≡◌, ℕ, Bool, true, false, min, List, [], length, Option, Some, None, refl, sym, ap, ◌∙◌, subst, inl, inr, arith}
use Rattle.std.specs.Prelude.{◌<◌, ◌↔◌, IsTrue, MatchOption, nat_lt}
use Rattle.std.specs.Bool.{MatchBool}
use Rattle.std.proofs.lemmas.Bool.{cases_lt, false≢true}
use Rattle.std.proofs.lemmas.Bool.Decides.{Decides-ltb, same_from_decides}
use Rattle.cmap_values.specs.Only.{HoldsOfNone, IsOnly}
use Rattle.cmap_layers.specs.Layers.{Layer}
use Rattle.cmap_layers.specs.StringCodes.{BeginsInside, IsCutShort, IsNextCode, IsShortestInside, IsTakenOutside, Wants, front, ranges_of}
use Rattle.cmap_layers.specs.declared.string_codes.StringCode.{StringCode}
use Rattle.cmap_layers.proofs.BestMatch.{same_wanted}

same_shortest : (layers : List Layer) (text : List ℕ) (n m : ℕ) → IsShortestInside layers text n → IsShortestInside layers text m → n ≡ m
same_shortest layers text n m is other =
    elim (cases_lt n m) [
      | inl fewer ↦ absurd (other.1 n fewer is.0)
      | inr no_fewer ↦ elim (cases_lt m n) [ inl fewer ↦ absurd (is.1 m fewer other.0) | inr as_many ↦ omega arith ]
    ]

-- how many bytes are taken, and whether they are a code in a codespace range
same_taken : (layers : List Layer) (text : List ℕ) (inside of_other : Bool) (n m : ℕ) → MatchBool inside (IsShortestInside layers text n) (IsTakenOutside layers text n)
    → MatchBool of_other (IsShortestInside layers text m) (IsTakenOutside layers text m) → (of_other ≡ inside) × (m ≡ n)
same_taken layers text true true n m is other = (refl, same_shortest layers text m n other is)
same_taken layers text true false n m is other = absurd (other.0 n is.0)
same_taken layers text false true n m is other = absurd (is.0 m other.0)
same_taken layers text false false n m (none, wanted, wants, is) (no_other, other, other_wants, other_is) =
    (refl, other_is ∙ ap (λ k. min k (length text)) (same_wanted (ranges_of layers) text other wanted other_wants wants) ∙ sym is)

-- a string that begins with a code in a range doesn't end before its code
pub whole_inside : (layers : List Layer) (text : List ℕ) (n : ℕ) → BeginsInside layers text n → IsTrue false ↔ IsCutShort layers text
whole_inside layers text n begins = (λ yes. absurd (false≢true yes), λ cut. absurd (cut.0 n begins))

-- another string does where it has fewer bytes than are wanted
pub cut_short_outside : (layers : List Layer) (text : List ℕ) (wanted taken : ℕ) → HoldsOfNone (BeginsInside layers text) → Wants (ranges_of layers) text wanted → taken ≡ min wanted (length text)
    → IsTrue (nat_lt taken wanted) ↔ IsCutShort layers text
cut_short_outside layers text wanted taken none wants is =
    let fewer = Decides-ltb taken wanted in (
      λ yes. (none, wanted, wants, omega (arith, fewer.0 yes)),
      λ cut. fewer.1 (omega (arith, same_wanted (ranges_of layers) text cut.1 wanted cut.2 wants, cut.3)),
    )

pub one_code : (layers : List Layer) (text : List ℕ) (found : Option StringCode) → MatchOption found (text ≡ []) (IsNextCode layers text) → MatchOption found (text ≡ []) (IsOnly (IsNextCode layers text))
one_code layers text None none = none
one_code layers text (Some found) is = record {
  holds = is;
  alone = λ other of_other.
      let (inside, byte_len) = same_taken layers text found.in_codespace other.in_codespace found.byte_len other.byte_len is.taken of_other.taken in
      let code : other.code ≡ found.code = of_other.code ∙ ap (front text) byte_len ∙ sym is.code in
      let cut_short = same_from_decides other.cut_short found.cut_short of_other.cut_short is.cut_short in
      λ i. record { code = code i; byte_len = byte_len i; in_codespace = inside i; cut_short = cut_short i };
}

-- a string that begins with a code in a range, and one that begins with none
pub next_inside : (layers : List Layer) (text : List ℕ) (byte_len code : ℕ) → IsShortestInside layers text byte_len → code ≡ front text byte_len
    → IsNextCode layers text (record { code = code; byte_len = byte_len; in_codespace = true; cut_short = nat_lt byte_len byte_len })
next_inside layers text byte_len code shortest is = record {
  some = omega (arith, shortest.0.0, shortest.0.1.0);
  code = is;
  taken = shortest;
  cut_short = (λ yes. absurd (omega (arith, (Decides-ltb byte_len byte_len).0 yes)), λ cut. absurd (cut.0 byte_len shortest.0));
}

pub next_outside : (layers : List Layer) (text : List ℕ) (byte_len code wanted : ℕ) → 0 < length text → HoldsOfNone (BeginsInside layers text) → Wants (ranges_of layers) text wanted
    → byte_len ≡ min wanted (length text) → code ≡ front text byte_len
    → IsNextCode layers text (record { code = code; byte_len = byte_len; in_codespace = false; cut_short = nat_lt byte_len wanted })
next_outside layers text byte_len code wanted some none wants taken is = record {
  some = some;
  code = is;
  taken = (none, wanted, wants, taken);
  cut_short = cut_short_outside layers text wanted byte_len none wants taken;
}

-- what is known of a code by how it was found
pub next_found : (layers : List Layer) (text : List ℕ) (found was : ℕ × ℕ × ℕ) (inside is_inside : Bool) → found ≡ was → inside ≡ is_inside
    → IsNextCode layers text (record { code = was.1; byte_len = was.0; in_codespace = is_inside; cut_short = nat_lt was.0 was.2 })
    → IsOnly (IsNextCode layers text) (record { code = found.1; byte_len = found.0; in_codespace = inside; cut_short = nat_lt found.0 found.2 })
next_found layers text found was inside is_inside same also is =
    let seen = λ (n : ℕ × ℕ × ℕ) (b : Bool). IsNextCode layers text (record { code = n.1; byte_len = n.0; in_codespace = b; cut_short = nat_lt n.0 n.2 }) in
    one_code layers text (Some (record { code = found.1; byte_len = found.0; in_codespace = inside; cut_short = nat_lt found.0 found.2 }))
    (subst (λ n. seen n inside) (sym same) (subst (λ b. seen was b) (sym also) is))
