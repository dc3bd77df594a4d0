-- No file that is prepared has a code with a large CID, or a text that is refused.
use Rattle.std.proofs.Common.{◌≡◌, ℕ, ◌+◌, ◌-◌, ◌^◌, ◌<◌, ◌≤◌, inl, inr, Bool, true, false, List, [], ◌∷◌, ◌++◌, length, length-append, get_or, take, Some, None, refl, ap, ◌∙◌, subst, arith}
use Rattle.std.specs.Prelude.{All, IsSome, IsSomeAnd, Option, ◌==◌, nat_lt, option_map, if◌then◌else◌}
use Rattle.std.proofs.lemmas.Bool.{cases_Bool, eqb-true, lt-ltb}
use Rattle.std.proofs.lemmas.Option.{same_Some}
use Rattle.cmap_values.specs.declared.range.Range.{Range}
use Rattle.cmap_values.specs.Files.{BfEntry, ByLength, CidEntry, File}
use Rattle.cmap_layers.specs.Lookups.{bf_at, bf_span, cid_at, cid_span, last_bf}
use Rattle.cmap_binary_writer.specs.Arranged.{AreCidEntries, IsArranged}
use Rattle.cmap_binary_writer.specs.Obstacles.{GivesLargeCid, InSomeList, IsLargeCid, IsObstacle}
use Rattle.cmap_binary_writer.specs.Pieces.{CanBeSplit, Has, IsShortText, SaysAs, cid_told}
use Rattle.cmap_binary_writer.specs.TextParts.{units_at, units_from}
use Rattle.cmap_binary_writer.specs.declared.obstacle.Obstacle.TheVariants.{Text}
use Rattle.cmap_binary_writer.specs.declared.prepared.Prepared.{Prepared}
use Rattle.cmap_binary_writer.proofs.CidParts.{has_within, last_split}
use Rattle.cmap_binary_writer.proofs.TextParts.{units_split}

is_there : {A B : Type 0} (f : A → B) (P : A → Type 0) (o : Option A) → IsSomeAnd o P → IsSome (option_map f o)
is_there f P None h = absurd h
is_there f P (Some x) h = refl

at_one : {E : Type 0} (P : E → Type 0) (xs : List E) (k : ℕ) (x : E) → k < length xs → get_or xs k x ≡ x → All P xs → P x
at_one P xs k x within is all = subst P is (all k x within)

-- ---- texts
either_few : (b : Bool) (front : List ℕ) (last : ℕ) → length (if b then front ++ last ∷ [] else []) ≤ length front + 1
either_few true front last = omega (arith, length-append front (last ∷ []))
either_few false front last = omega arith

-- an offset adds no units
units_fewer : (units : List ℕ) (offset : ℕ) → length (units_from units offset) ≤ length units
units_fewer [] offset = omega arith
units_fewer (x ∷ units) offset =
    let all = x ∷ units in
    let front = take (length all - 1) all in
    let last = get_or all (length all - 1) 0 in
    let parted : all ≡ front ++ last ∷ [] = last_split all 0 (omega arith) in
    omega (arith, ap length (ap (λ us. units_from us offset) parted ∙ units_split front last offset), either_few (nat_lt (last + offset) (2 ^ 16)) front (last + offset), ap length parted, length-append front (last ∷ []))

one_short : (o : Option BfEntry) (code : ℕ) (p : BfEntry) → option_map (λ e. units_at e code) o ≡ Some (units_at p code) → IsShortText p → IsSomeAnd o (λ e. 2 ^ 8 ≤ length (units_at e code)) → ⊥
one_short None code p told short long = long
one_short (Some e) code p told short long = omega (arith, short.0.2, long, ap length (same_Some (units_at e code) (units_at p code) told), units_fewer p.units (code - p.start))

-- no text is too long, and no run of codes
pub no_text : (file : File) (prepared : Prepared) → IsArranged file prepared → (range : Range) → IsObstacle file (Text range) → ⊥
no_text file prepared is range (inl (run, long)) =
    let es = file.lists.bfs in
    let are = is.text_entries in
    let code = range.start in
    let (k, p, within, here, has) = are.same.1 code (is_there (λ e. bf_at e code) (λ e. 2 ^ 8 ≤ length (units_at e code)) (last_bf es code) long) in
    one_short (last_bf es code) code p (at_one (SaysAs bf_span units_at es) are.pieces k p within here are.units code has) (at_one IsShortText are.pieces k p within here are.short) long
no_text file prepared is range (inr (many, (k, run, within, here, (low, high)))) = omega (arith, many, subst (λ r. r.high - r.low < 2 ^ 16) here (is.text_entries.few k run within), low, high)

-- ---- CIDs
one_small : (r : CidEntry) (code : ℕ) → CanBeSplit r → Has cid_span r code → IsLargeCid (cid_at r code) → ⊥
one_small r code can has large =
    let cid = r.cid + (code - r.start) in
    let within = has_within r code has in
    let small : cid < 2 ^ 16 = omega (arith, can.2, within.0, within.1) in
    let at : cid_at r code ≡ Some cid = rw (lt-ltb cid (2 ^ 32) (omega (arith, small))) refl in
    omega (arith, small, subst IsLargeCid at large)

told_small : (o : Option (Option ℕ)) (cid : Option ℕ) → o ≡ Some cid → IsSomeAnd o IsLargeCid → IsLargeCid cid
told_small None cid is h = absurd h
told_small (Some x) cid is h = subst IsLargeCid (same_Some x cid is) h

there : {A : Type 0} (P : A → Type 0) (o : Option A) → IsSomeAnd o P → IsSome o
there P None h = absurd h
there P (Some x) h = refl

none_given : (len : ℕ) (es made : List CidEntry) → AreCidEntries len es made → (range : Range) → GivesLargeCid es range → ⊥
none_given len es made are range (run, large) =
    let code = range.end in
    let (k, r, within, here, has) = are.said.1 code (there IsLargeCid (cid_told es code) large) in
    one_small r code (at_one CanBeSplit are.ranges k r within here are.small) has (told_small (cid_told es code) (cid_at r code) (at_one (SaysAs cid_span cid_at es) are.ranges k r within here are.said.0 code has) large)

chosen : (P : ℕ → List CidEntry → Type 0) (len count : ℕ) (x y : List CidEntry) → (P count x → ⊥) → (P len y → ⊥) → P len (if len == count then x else y) → ⊥
chosen P len count x y first second h = elim (cases_Bool (len == count)) [
  | inl is ↦ first (subst (λ n. P n x) (eqb-true len count is) (rw is at h))
  | inr other ↦ second (rw other at h)
]

-- what holds of the list for no length, and of no empty one
pub in_no_list : (lists : ByLength) (P : ℕ → List CidEntry → Type 0) → (P 1 lists.one → ⊥) → (P 2 lists.two → ⊥) → (P 3 lists.three → ⊥) → (P 4 lists.four → ⊥) → ((len : ℕ) → P len [] → ⊥) → InSomeList lists P → ⊥
in_no_list lists P one two three four none (len, h) = chosen P len 1 lists.one _ one (chosen P len 2 lists.two _ two (chosen P len 3 lists.three _ three (chosen P len 4 lists.four [] four (none len)))) h

-- no code has a large CID
pub no_large_cid : (file : File) (prepared : Prepared) → IsArranged file prepared → (range : Range) → InSomeList file.lists.cids (λ len es. GivesLargeCid es range) → ⊥
no_large_cid file prepared is range =
    let lists = file.lists.cids in
    let are = is.cid_entries in
    in_no_list lists (λ len es. GivesLargeCid es range) (none_given 1 lists.one is.cids.one are.one range) (none_given 2 lists.two is.cids.two are.two range) (none_given 3 lists.three is.cids.three are.three range) (none_given 4 lists.four is.cids.four are.four range) (λ len h. h.1)
