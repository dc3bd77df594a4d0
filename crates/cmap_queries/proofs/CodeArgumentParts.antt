-- What the parts of an argument are when it spells a code.
use Rattle.std.proofs.Common.{◌≡◌, ◌≢◌, ℕ, zero, suc, ◌^◌, ◌<◌, ◌≤◌, List, get_or, length, arith, Bor}
use Rattle.std.proofs.Math.Nat.{pow-le-pow_right}
use Rattle.std.specs.declared.option.Option.{Option}
use Rattle.std.specs.Option.{MatchOption}
use Rattle.std.specs.Str.Parse.{IsNumeral, digits_value}
use Rattle.std.proofs.lemmas.Str.Pattern.{IsSplitOnceResult, split_after}
use Rattle.std.proofs.lemmas.Int.Digits.{digits_value-lt}
use Rattle.cmap_queries.specs.declared.query.Asked.{Asked}
use Rattle.cmap_queries.specs.declared.query.Asked.TheVariants.{Cid, Text}
use Rattle.cmap_queries.specs.CodeArguments.{colon, asked_name, HasDigitCount, IsAskable, SpellsQuery}

-- no colon stands in front of the colon
no_colon : (asked : Asked) (i : ℕ) → IsAskable asked → i < length (asked_name asked) → get_or (asked_name asked) i 0 ≢ colon
no_colon (Cid n) zero known at = λ same. absurd (omega (arith, known.1))
no_colon (Cid n) (suc i) known at = absurd (omega arith)
no_colon Text zero known at = λ same. absurd (omega arith)
no_colon Text (suc zero) known at = λ same. absurd (omega arith)
no_colon Text (suc (suc i)) known at = absurd (omega arith)

-- the colon splits an argument into what it asks and its digits
pub split_of : (asked : Asked) (code : ℕ) (argument : List ℕ) (r : Option (Bor (List ℕ) × Bor (List ℕ))) → IsSplitOnceResult colon argument r → (spells : SpellsQuery asked code argument)
    → MatchOption r ⊥ (λ parts. (parts.0.now ≡ asked_name asked) × (parts.1.now ≡ spells.digits))
split_of asked code argument r split spells =
    split_after colon argument (asked_name asked) spells.digits r split (omega arith) spells.parts (λ i at. no_colon asked i spells.known at)

-- a code has one to eight digits
few_digits : (asked : Asked) (count : ℕ) → IsAskable asked → HasDigitCount asked count → (0 < count) × (count ≤ 8)
few_digits (Cid n) count known has = (omega (arith, known.0), omega (arith, known.1))
few_digits Text count known has = (omega (arith, has.0), has.1)

-- the digits of a code are a numeral that fits
pub numeral_fits : (asked : Asked) (code : ℕ) (argument : List ℕ) (spells : SpellsQuery asked code argument) → IsNumeral 16 spells.digits × (digits_value 16 spells.digits < 2 ^ 32)
numeral_fits asked code argument spells =
    let few = few_digits asked (length spells.digits) spells.known spells.count in
    let below = digits_value-lt 16 spells.digits spells.hexadecimal in
    let fits : 16 ^ length spells.digits ≤ 16 ^ 8 = pow-le-pow_right (omega arith) few.1 in
    ((few.0, spells.hexadecimal), omega arith)
