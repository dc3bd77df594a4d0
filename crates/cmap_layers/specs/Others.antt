-- Private aid: the declarations that are searched for codes without a CID.
use Rattle.std.specs.Prelude.{◌≡◌, ℕ, ◌<◌, ◌≤◌, ◌^◌, List, None}
use Rattle.cmap_runs.specs.Ranges.{last_of}
use Rattle.cmap_values.specs.DeclarationsSeen.{bf_range_span, cid_range_span, slot}
use Rattle.cmap_values.specs.declared.code_length.CodeLength.{CodeLength}
use Rattle.cmap_values.specs.declared.declarations.BfRange.{BfRange}
use Rattle.cmap_values.specs.declared.declarations.ByLength.{ByLength}
use Rattle.cmap_values.specs.declared.declarations.CidRange.{CidRange}

-- the lists of notdefs and of texts
pub record OtherLists : Type 0 where
  pub notdefs : ByLength (List CidRange)
  pub bfs : List BfRange

-- no notdef and no text contains the code `end` or a later code
pub record AreBefore (notdefs : ByLength (List CidRange)) (bfs : List BfRange) (end : ℕ) : Type 0 where
  pub no_notdef : (len : CodeLength) (code : ℕ) → code < 2 ^ 32 → end ≤ code → last_of cid_range_span (slot notdefs len) code ≡ None
  pub no_bf : (code : ℕ) → code < 2 ^ 32 → end ≤ code → last_of bf_range_span bfs code ≡ None
