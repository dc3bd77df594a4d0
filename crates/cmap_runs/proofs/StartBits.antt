-- A word with a bit for each start, the first one high: a bit more, and how many there are up to a place.
use Rattle.std.proofs.Common.{◌≡◌, ℕ, suc, ◌+◌, ◌-◌, ◌*◌, ◌/◌, ◌^◌, ◌<◌, ◌≤◌, refl, sym, ap, ◌∙◌, bit_or, arith}
use Rattle.std.specs.Prelude.{count_ones}
use lib.Count.{ones}
use Rattle.std.proofs.Math.Nat.{add-mul, mul_assoc}
use Rattle.cmap_runs.specs.Blocks.{AreBefore}
use Rattle.std.proofs.lemmas.Nat.{ones-le, ones_cat, or_shifted, pow_below, pow_pos, pow-add, shl-shr, shr_high, shr-shr}

none_shifted : (width : ℕ) → 0 / 2 ^ width ≡ 0
none_shifted width =
    let none : 0 * 2 ^ width ≡ 0 = omega arith in
    ap (λ n. n / 2 ^ width) (sym none) ∙ shl-shr 0 width

shifted_past : (high low width more : ℕ) → low < 2 ^ width → (high * 2 ^ width + low) / 2 ^ (width + more) ≡ high / 2 ^ more
shifted_past high low width more lt = sym (shr-shr (high * 2 ^ width + low) width more) ∙ ap (λ n. n / 2 ^ more) (shr_high high width low lt)

-- a start before which another place lies changes nothing there
pub start_later : (starts place other : ℕ) → AreBefore starts place → other < place → place < 32 → (starts + 2 ^ (31 - place)) / 2 ^ (31 - other) ≡ starts / 2 ^ (31 - other)
start_later starts place other before lt within =
    let front = starts / 2 ^ (32 - place) in let more = place - other - 1 in
    let width : 32 - place + more ≡ 31 - other = omega arith in
    let small : 2 ^ (31 - place) < 2 ^ (32 - place) = pow_below (31 - place) (32 - place) (omega arith) in
    let with : (front * 2 ^ (32 - place) + 2 ^ (31 - place)) / 2 ^ (32 - place + more) ≡ front / 2 ^ more = shifted_past front (2 ^ (31 - place)) (32 - place) more small in
    let without : starts / 2 ^ (32 - place + more) ≡ front / 2 ^ more = sym (shr-shr starts (32 - place) more) in
    ap (λ n. (n + 2 ^ (31 - place)) / 2 ^ (31 - other)) before ∙ ap (λ n. (front * 2 ^ (32 - place) + 2 ^ (31 - place)) / 2 ^ n) (sym width) ∙ with ∙ sym without ∙ ap (λ n. starts / 2 ^ n) width

raised : (front width more : ℕ) → front * 2 ^ (width + more) ≡ front * 2 ^ width * 2 ^ more
raised front width more = ap (λ n. front * n) (pow-add 2 width more) ∙ sym (mul_assoc front (2 ^ width) (2 ^ more))

none_set : count_ones 0 ≡ 0
none_set = omega (arith, ones-le 0 0 (omega arith))

one_set : count_ones 1 ≡ 1
unfolding ones
one_set = refl

one_bit : (width : ℕ) → count_ones (2 ^ width) ≡ 1
one_bit width =
    let whole : 1 * 2 ^ width + 0 ≡ 2 ^ width = omega arith in
    let both : count_ones (1 * 2 ^ width + 0) ≡ count_ones 1 + count_ones 0 = ones_cat width 1 0 (pow_pos width) in
    omega (arith, ap count_ones whole, both, one_set, none_set)

shifted_ones : (front width : ℕ) → count_ones (front * 2 ^ width) ≡ count_ones front
shifted_ones front width =
    let whole : front * 2 ^ width + 0 ≡ front * 2 ^ width = omega arith in
    let all : count_ones (front * 2 ^ width + 0) ≡ count_ones front + count_ones 0 = ones_cat width front 0 (pow_pos width) in
    let none : count_ones front + count_ones 0 ≡ count_ones front = omega (arith, none_set) in
    ap count_ones (sym whole) ∙ all ∙ none

-- from its place on there is one more
pub start_by : (starts place other : ℕ) → AreBefore starts place → place ≤ other → other < 32
    → count_ones ((starts + 2 ^ (31 - place)) / 2 ^ (31 - other)) ≡ count_ones (starts / 2 ^ (31 - other)) + 1
start_by starts place other before le within =
    let front = starts / 2 ^ (32 - place) in let after = 31 - other in let width = other - place in
    let high : 32 - place ≡ suc width + after = omega arith in
    let low : 31 - place ≡ width + after = omega arith in
    let old : starts ≡ front * 2 ^ suc width * 2 ^ after = before ∙ ap (λ n. front * 2 ^ n) high ∙ raised front (suc width) after in
    let bit : 2 ^ (31 - place) ≡ 2 ^ width * 2 ^ after = ap (λ n. 2 ^ n) low ∙ pow-add 2 width after in
    let new : starts + 2 ^ (31 - place) ≡ (front * 2 ^ suc width + 2 ^ width) * 2 ^ after =
    ap (λ n. n + 2 ^ (31 - place)) old ∙ ap (λ n. front * 2 ^ suc width * 2 ^ after + n) bit ∙ sym (add-mul (front * 2 ^ suc width) (2 ^ width) (2 ^ after)) in
    let with : count_ones ((starts + 2 ^ (31 - place)) / 2 ^ after) ≡ count_ones front + 1 =
    ap (λ n. count_ones (n / 2 ^ after)) new ∙ ap count_ones (shl-shr (front * 2 ^ suc width + 2 ^ width) after)
    ∙ ones_cat (suc width) front (2 ^ width) (pow_below width (suc width) (omega arith)) ∙ ap (λ n. count_ones front + n) (one_bit width) in
    let without : count_ones (starts / 2 ^ after) ≡ count_ones front =
    ap (λ n. count_ones (n / 2 ^ after)) old ∙ ap count_ones (shl-shr (front * 2 ^ suc width) after) ∙ shifted_ones front (suc width) in
    with ∙ ap (λ n. n + 1) (sym without)

-- and none stands at a later place
pub start_before : (starts place other : ℕ) → AreBefore starts place → place < other → other ≤ 32 → AreBefore (starts + 2 ^ (31 - place)) other
start_before starts place other before lt within =
    let front = starts / 2 ^ (32 - place) in let after = 32 - other in let width = other - place - 1 in
    let high : 32 - place ≡ suc width + after = omega arith in
    let low : 31 - place ≡ width + after = omega arith in
    let old : starts ≡ front * 2 ^ suc width * 2 ^ after = before ∙ ap (λ n. front * 2 ^ n) high ∙ raised front (suc width) after in
    let bit : 2 ^ (31 - place) ≡ 2 ^ width * 2 ^ after = ap (λ n. 2 ^ n) low ∙ pow-add 2 width after in
    let new : starts + 2 ^ (31 - place) ≡ (front * 2 ^ suc width + 2 ^ width) * 2 ^ after =
    ap (λ n. n + 2 ^ (31 - place)) old ∙ ap (λ n. front * 2 ^ suc width * 2 ^ after + n) bit ∙ sym (add-mul (front * 2 ^ suc width) (2 ^ width) (2 ^ after)) in
    let shifted : (starts + 2 ^ (31 - place)) / 2 ^ after ≡ front * 2 ^ suc width + 2 ^ width = ap (λ n. n / 2 ^ after) new ∙ shl-shr (front * 2 ^ suc width + 2 ^ width) after in
    new ∙ ap (λ n. n * 2 ^ after) (sym shifted)

-- the bit is one that isn't there yet
pub start_added : (starts place : ℕ) → AreBefore starts place → place < 32 → bit_or starts (2 ^ (31 - place)) ≡ starts + 2 ^ (31 - place)
start_added starts place before within =
    let front = starts / 2 ^ (32 - place) in
    ap (λ n. bit_or n (2 ^ (31 - place))) before ∙ or_shifted front (32 - place) (2 ^ (31 - place)) (pow_below (31 - place) (32 - place) (omega arith)) ∙ ap (λ n. n + 2 ^ (31 - place)) (sym before)

pub no_starts : (place : ℕ) → AreBefore 0 place
no_starts place = omega (arith, none_shifted (32 - place))

pub no_starts_by : (other : ℕ) → count_ones (0 / 2 ^ other) ≡ 0
no_starts_by other = ap count_ones (none_shifted other) ∙ none_set
