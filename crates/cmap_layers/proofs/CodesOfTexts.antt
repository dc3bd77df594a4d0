-- The codes of a text, stretch by stretch.
use Rattle.std.proofs.Common.{◌≡◌, ℕ, ◌+◌, ◌≤◌, List, Option, Some, None, sym, ◌∙◌, arith}
use Rattle.std.specs.Prelude.{◌↔◌, option_and_then}
use Rattle.std.proofs.lemmas.Option.{none-some, same_Some}
use Rattle.cmap_values.specs.declared.range.Range.{Range}
use Rattle.cmap_values.specs.Files.{BfEntry}
use Rattle.cmap_layers.specs.CodeRanges.{AreRangesOf, joined}
use Rattle.cmap_layers.specs.CodeStretches.{IsTextStretch}
use Rattle.cmap_layers.specs.Layers.{Layer}
use Rattle.cmap_layers.specs.Lookups.{bf_at, bf_of}
use Rattle.cmap_layers.proofs.CodeRanges as ranges

-- the codes of a stretch that have a text are one, or none
abbrev IsFound : List ℕ → ℕ → ℕ → Option BfEntry → Option ℕ → Type 0
IsFound text next last declaration found = (code : ℕ) → next ≤ code → code ≤ last → ((option_and_then (λ entry. bf_at entry code) declaration ≡ Some text) ↔ (found ≡ Some code))

module _ (layers : List Layer) (text : List ℕ) (next last : ℕ) (declaration : Option BfEntry) (before : List Range) (are : AreRangesOf (λ code. bf_of layers code ≡ Some text) next before) (same : IsTextStretch layers next last declaration) (le : next ≤ last) where
  pub passed_over : IsFound text next last declaration None → AreRangesOf (λ code. bf_of layers code ≡ Some text) (last + 1) before
  passed_over none = ranges.passed_over (λ code. bf_of layers code ≡ Some text) next last before are le (λ code from to is. none-some code ((none code from to).0 (sym (same.texts code from to) ∙ is)))

  pub added : (found : ℕ) → next ≤ found → found ≤ last → IsFound text next last declaration (Some found) → AreRangesOf (λ code. bf_of layers code ≡ Some text) (last + 1) (joined before (record { start = found; end = found }))
  added found from to one = ranges.added (λ code. bf_of layers code ≡ Some text) next last before (record { start = found; end = found }) are le from (omega arith) to (λ code low high. (
    λ is. let at = same_Some found code ((one code low high).0 (sym (same.texts code low high) ∙ is)) in (omega arith, omega arith),
    λ in_range. same.texts code low high ∙ (one code low high).1 (let at : found ≡ code = omega arith in λ i. Some (at i)),
  ))
