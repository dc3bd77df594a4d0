-- Raw CIDs, which have two bytes each.
use Rattle.std.proofs.Common.{◌≡◌, ℕ, ◌+◌, ◌-◌, ◌*◌, ◌^◌, ◌<◌, ◌≤◌, ap, ◌∙◌, List, [], ◌∷◌, Some, arith, length, get_or, drop}
use Rattle.std.proofs.lemmas.Bool.{le-leb}
use Rattle.std.proofs.lemmas.List.{drop-drop, get_or-drop, length-drop}
use Rattle.cmap_values.specs.Only.{IsOnly}
use Rattle.cmap_binary.specs.Fronts.{FieldAt}
use Rattle.cmap_binary.specs.Reader.{number_at}
use Rattle.cmap_binary.specs.Bundles.{PrefixTables}
use Rattle.cmap_binary.proofs.Fronts.{field_only, gives_if, then_only}
use Rattle.cmap_values.specs.Spans.{Span}
use Rattle.cmap_binary.specs.EntryByEntry.{CidColumns, CidEntryAt, Columns, SpanAt, cid_from}

two_bytes : (bytes : List ℕ) → 2 ≤ length bytes → Some (get_or bytes 0 0 * 256 + get_or bytes 1 0) ≡ number_at 2 bytes
two_bytes [] enough = absurd (omega (arith, enough))
two_bytes (a ∷ []) enough = absurd (omega (arith, enough))
two_bytes (a ∷ b ∷ rest) enough =
    let e : a * 256 + b ≡ (0 + a) * 256 + b = omega arith in
    rw (le-leb 2 (length (a ∷ b ∷ rest)) enough) (ap Some e)

pub raw_only : (bytes : List ℕ) (i raw : ℕ) → 2 * (i + 1) ≤ length bytes → raw ≡ get_or bytes (2 * i) 0 * 256 + get_or bytes (2 * i + 1) 0 → IsOnly (FieldAt 2 (drop (2 * i) bytes)) (raw, drop (2 * (i + 1)) bytes)
raw_only bytes i raw within is =
    let left = drop (2 * i) bytes in
    let high : get_or left 0 0 ≡ get_or bytes (2 * i) 0 = let e : 2 * i + 0 ≡ 2 * i = omega arith in rw e at (get_or-drop (2 * i) bytes 0 0) in
    let low : get_or left 1 0 ≡ get_or bytes (2 * i + 1) 0 = get_or-drop (2 * i) bytes 1 0 in
    let next : drop 2 left ≡ drop (2 * (i + 1)) bytes = let e : 2 * i + 2 ≡ 2 * (i + 1) = omega arith in rw e at (drop-drop 2 (2 * i) bytes) in
    let number : raw ≡ get_or left 0 0 * 256 + get_or left 1 0 = omega (arith, is, high, low) in
    rw next at (field_only 2 raw left (ap Some number ∙ two_bytes left (omega (arith, within, length-drop (2 * i) bytes))))

-- an entry, by its codes and its raw CID
pub entry_only : (tables : PrefixTables) (left : CidColumns) (span : Span) (columns : Columns) (raw cid next : ℕ) (raws : List ℕ) → IsOnly (SpanAt tables left.columns) (span, columns) → IsOnly (FieldAt 2 left.raws) (raw, raws)
    → cid ≡ cid_from raw left.next → cid < 2 ^ 32 → next ≡ cid + (span.end - span.start) + 1
    → IsOnly (CidEntryAt tables left) (record { start = span.start; end = span.end; cid = cid }, record { columns = columns; raws = raws; next = next })
entry_only tables left span columns raw cid next raws one two cid_is fits next_is = rw (next_is, cid_is) (then_only _ one (then_only _ two (gives_if (rw cid_is at fits))))
