-- The entries of a segment by sums: where each starts and ends, from the columns of deltas and widths, and its CID, from the raw CIDs.
use Rattle.std.proofs.Common.{◌≡◌, ◌≢◌, ℕ, zero, suc, ◌+◌, ◌-◌, ◌<◌, ◌≤◌, List, [], ◌∷◌, length, get_or, take, drop, refl, arith}
use Rattle.std.specs.Prelude.{sum_by, ◌==◌, if◌then◌else◌}
use Rattle.std.proofs.Math.Dec.{eqb-suc-zero}
use Rattle.std.proofs.lemmas.List.Sums.{sum_by-cons}
use Rattle.cmap_values.specs.Files.{CidEntry}
use Rattle.cmap_values.specs.Spans.{Span}
use Rattle.cmap_binary.specs.BinaryEntries.{cid_entries, spans_from}

-- ---- codes
-- span i starts after the deltas up to and including i, and the widths plus one before i
pub start_by_sums : (deltas widths : List ℕ) (base i : ℕ) (d : Span) → length widths ≡ length deltas → i < length deltas
    → (get_or (spans_from base deltas widths) i d).start ≡ base + sum_by (λ x. x) (take (suc i) deltas) + sum_by (λ w. w + 1) (take i widths)
start_by_sums [] widths base i d same within = absurd (omega (arith, within))
start_by_sums (δ ∷ deltas) [] base i d same within = absurd (omega (arith, same))
start_by_sums (δ ∷ deltas) (w ∷ widths) base zero d same within = omega (arith, sum_by-cons (λ x. x) δ [])
start_by_sums (δ ∷ deltas) (w ∷ widths) base (suc i) d same within =
    omega (
      arith,
      start_by_sums deltas widths (base + δ + w + 1) i d (omega (arith, same)) (omega (arith, within)),
      sum_by-cons (λ x. x) δ (take (suc i) deltas),
      sum_by-cons (λ w. w + 1) w (take i widths),
    )

-- and ends its width after that
pub end_by_sums : (deltas widths : List ℕ) (base i : ℕ) (d : Span) → length widths ≡ length deltas → i < length deltas
    → (get_or (spans_from base deltas widths) i d).end ≡ (get_or (spans_from base deltas widths) i d).start + get_or widths i 0
end_by_sums [] widths base i d same within = absurd (omega (arith, within))
end_by_sums (δ ∷ deltas) [] base i d same within = absurd (omega (arith, same))
end_by_sums (δ ∷ deltas) (w ∷ widths) base zero d same within = refl
end_by_sums (δ ∷ deltas) (w ∷ widths) base (suc i) d same within = end_by_sums deltas widths (base + δ + w + 1) i d (omega (arith, same)) (omega (arith, within))

-- ---- CIDs
-- how many CIDs entries have
abbrev pub sizes : List Span → ℕ
sizes spans = sum_by (λ s. s.end - s.start + 1) spans

-- where the raw CIDs up to and including i are 0, the CIDs go on from the next one
pub cid_by_sums : (spans : List Span) (raws : List ℕ) (next i : ℕ) (d : CidEntry) → length raws ≡ length spans → i < length spans
    → ((k : ℕ) → k ≤ i → get_or raws k 0 ≡ 0) → (get_or (cid_entries next spans raws) i d).cid ≡ next + sizes (take i spans)
cid_by_sums [] raws next i d same within zeros = absurd (omega (arith, within))
cid_by_sums (s ∷ spans) [] next i d same within zeros = absurd (omega (arith, same))
cid_by_sums (s ∷ spans) (suc r ∷ raws) next i d same within zeros = absurd (omega (arith, zeros zero (omega arith)))
cid_by_sums (s ∷ spans) (zero ∷ raws) next zero d same within zeros = omega arith
cid_by_sums (s ∷ spans) (zero ∷ raws) next (suc i) d same within zeros =
    omega (
      arith,
      cid_by_sums spans raws (next + (s.end - s.start) + 1) i d (omega (arith, same)) (omega (arith, within)) (λ k le. zeros (suc k) (omega (arith, le))),
      sum_by-cons (λ (s : Span). s.end - s.start + 1) s (take i spans),
    )

-- a raw CID that isn't 0 is the CID itself
cid_itself : (raw next : ℕ) → (if suc raw == 0 then next else suc raw) ≡ suc raw
cid_itself raw next = rw (eqb-suc-zero raw) refl

-- else they go on from the last raw CID up to and including i that isn't 0, at j
pub cid_by_last_raw : (spans : List Span) (raws : List ℕ) (next j i : ℕ) (d : CidEntry) → length raws ≡ length spans → i < length spans
    → j ≤ i → get_or raws j 0 ≢ 0 → ((k : ℕ) → j < k → k ≤ i → get_or raws k 0 ≡ 0)
    → (get_or (cid_entries next spans raws) i d).cid ≡ get_or raws j 0 + sizes (drop j (take i spans))
cid_by_last_raw [] raws next j i d same within le some zeros = absurd (omega (arith, within))
cid_by_last_raw (s ∷ spans) [] next j i d same within le some zeros = absurd (omega (arith, same))
cid_by_last_raw (s ∷ spans) (zero ∷ raws) next zero i d same within le some zeros = absurd (some refl)
cid_by_last_raw (s ∷ spans) (suc r ∷ raws) next zero zero d same within le some zeros = omega (arith, cid_itself r next)
cid_by_last_raw (s ∷ spans) (suc r ∷ raws) next zero (suc i) d same within le some zeros =
    let cid = if suc r == 0 then next else suc r in
    omega (
      arith,
      cid_itself r next,
      cid_by_sums spans raws (cid + (s.end - s.start) + 1) i d (omega (arith, same)) (omega (arith, within)) (λ k at. zeros (suc k) (omega arith) (omega (arith, at))),
      sum_by-cons (λ (s : Span). s.end - s.start + 1) s (take i spans),
    )
cid_by_last_raw (s ∷ spans) (r ∷ raws) next (suc j) zero d same within le some zeros = absurd (omega (arith, le))
cid_by_last_raw (s ∷ spans) (r ∷ raws) next (suc j) (suc i) d same within le some zeros =
    let cid = if r == 0 then next else r in
    cid_by_last_raw spans raws (cid + (s.end - s.start) + 1) j i d (omega (arith, same)) (omega (arith, within)) (omega (arith, le)) some
    (λ k after at. zeros (suc k) (omega (arith, after)) (omega (arith, at)))
