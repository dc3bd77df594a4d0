use Rattle.std.proofs.Common.{◌≡◌, ℕ, ◌+◌, ◌*◌, ◌-◌, ◌≤◌, ◌%◌, ◌==◌, false, List, [], ◌∷◌, ◌++◌, length, get_or, take, drop, vec_len, vec_capacity, inl, inr, refl, sym, ap, ◌∙◌, arith, append-nil, append_assoc, length-take, length-drop}
use Rattle.std.proofs.lemmas.Bool.{cases_eq, ltb-false, ltb-true, ne_eqb}
use Rattle.std.proofs.lemmas.List.{nil_from_length, take_rest}
use Rattle.std.proofs.lemmas.Result.{IfOk-from_err}
use Rattle.cmap_tokens.specs.Texts.{byte_pairs, units_of}
use Rattle.cmap_tokens.proofs.utf16.units.Goals as goal
use Rattle.cmap_tokens.proofs.utf16.units.Goals.{then-first-lt1, in-len1, else-first-lt1+else-first-lt2}

-- the first byte of an odd number, and pairs
units_begun : (bytes : List ℕ) → take (length bytes % 2) bytes ++ byte_pairs (drop (length bytes % 2) bytes) ≡ units_of bytes
units_begun [] = refl
units_begun (b ∷ bytes) =
    elim (cases_eq (length bytes % 2) 0) [
      | inl even ↦ let odd : length (b ∷ bytes) % 2 ≡ 1 = omega (arith, even) in rw (odd, even) refl
      | inr odd ↦ let even : length (b ∷ bytes) % 2 ≡ 0 = omega (arith, odd) in let test : (length bytes % 2 == 0) ≡ false = ne_eqb _ 0 odd in rw (even, test) refl
    ]

begun : (bytes front back items : List ℕ) → front ≡ take (length bytes % 2) bytes → back ≡ drop (length bytes % 2) bytes → items ≡ front → items ++ byte_pairs back ≡ units_of bytes
begun bytes front back items front_is back_is items_are = rw (items_are, front_is, back_is) (units_begun bytes)

room_left : (len cap before half front n : ℕ) → len ≡ n → cap ≡ before → front + half ≤ before → n ≤ front → len + half ≤ cap
room_left len cap before half front n is same capacity within = omega (arith, is, same, capacity, within)

one_byte : (front : List ℕ) → length front ≡ 1 → front ≡ get_or front 0 0 ∷ []
one_byte [] long = absurd (omega (arith, long))
one_byte (b ∷ front) long = ap (λ t. b ∷ t) (nil_from_length front (omega (arith, long)))

pub loop-pairs-init : goal.loop-pairs-init
loop-pairs-init c =
    let split = c.split_at.ensures in
    elim c.if-first-lt1.branch [
      | then-first-lt1 w ↦ record {
        written = begun _ _ _ _ split.front split.back (ap (λ units. units.items) w.units-is ∙ c.in_ok-units.ensures.items ∙ sym (nil_from_length c.split_at.result.0.now (omega (arith, ltb-true))));
        even = omega (arith, split.back_len);
        room = room_left _ _ _ _ (length c.split_at.result.0.now) 0 (ap (λ units. vec_len units) w.units-is ∙ c.in_ok-units.ensures.len) (ap (λ units. vec_capacity units) w.units-is) c.in_ok-units.ensures.capacity (omega arith);
      }
      | in-len1 w ↦ record {
        written = begun _ _ _ _ split.front split.back
            (ap (λ units. units.items) w.units-is ∙ w.push_reserved.ensures.items ∙ ap (λ items. items ++ w.from.result ∷ []) c.in_ok-units.ensures.items ∙ ap (λ b. b ∷ []) w.from.ensures ∙ sym (one_byte c.split_at.result.0.now (omega arith)));
        even = omega (arith, split.back_len);
        room = room_left _ _ _ _ (length c.split_at.result.0.now) 1 (ap (λ units. vec_len units) w.units-is ∙ w.push_reserved.ensures.len ∙ ap (λ n. n + 1) c.in_ok-units.ensures.len) (ap (λ units. vec_capacity units) w.units-is ∙ w.push_reserved.ensures.capacity) c.in_ok-units.ensures.capacity w.in-len1.len_at_least;
      }
      | else-first-lt1+else-first-lt2 w ↦ absurd (omega (arith, split.front_len, ltb-false))
    ]

byte_pairs-more : (bytes : List ℕ) → 2 ≤ length bytes → byte_pairs bytes ≡ (get_or bytes 0 0 * 256 + get_or bytes 1 0) ∷ byte_pairs (take (length bytes - 2) (drop 2 bytes))
byte_pairs-more [] h = absurd (omega arith)
byte_pairs-more (a ∷ []) h = absurd (omega arith)
byte_pairs-more (a ∷ b ∷ bytes) h =
    let unit : 256 * a + b ≡ a * 256 + b = omega arith in rw (take_rest (a ∷ b ∷ bytes) 2) (ap (λ u. u ∷ byte_pairs bytes) unit)

pub loop-pairs-preserved : goal.loop-pairs-preserved
loop-pairs-preserved c =
    let more = byte_pairs-more c.loop-pairs.pairs.now c.in-len2-up.len_at_least in
    grind (arith, append_assoc, length-take, length-drop)

pub returns-in_err-units : goal.returns-in_err-units
returns-in_err-units c = IfOk-from_err _ _ c.from_residual.ensures.0

pub push_reserved-requires : goal.push_reserved-requires
push_reserved-requires c = omega (arith, c.in-len1.len_at_least, c.in_ok-units.ensures.len, c.in_ok-units.ensures.capacity)

pub push_reserved-requires-in-len2-up : goal.push_reserved-requires-in-len2-up
push_reserved-requires-in-len2-up c = omega (arith, c.in-len2-up.len_at_least, c.loop-pairs.invariant.room)

pub returns : goal.returns
returns c =
    let none : c.loop-pairs.pairs.now ≡ [] = nil_from_length c.loop-pairs.pairs.now (omega (arith, c.in_default-pairs.len_below, c.loop-pairs.invariant.even)) in
    sym (append-nil c.loop-pairs.units.items) ∙ ap (λ pairs. c.loop-pairs.units.items ++ byte_pairs pairs) (sym none) ∙ c.loop-pairs.invariant.written
