use Rattle.std.proofs.Common.{ap, ◌∙◌, List, ℕ}
use Rattle.std.proofs.lemmas.Result.{IfOk-from_err}
use Rattle.cmap_values.specs.Only.{IsOnly, HoldsOfNone}
use Rattle.cmap_binary.specs.Bundles.{Bundle, HoldsTables, IsBundle, PrefixTables}
use Rattle.cmap_binary.specs.Fronts.{AllOf, FramedAt, SizedAt}
use Rattle.cmap_binary.proofs.Fronts.{then_next, then_none, then_only}
use Rattle.cmap_binary.proofs.bundle.Bundle.parse.Goals as goal

no_bundle : (bytes : List ℕ) → HoldsOfNone (SizedAt bytes) → HoldsOfNone (IsBundle bytes)
unfolding IsBundle
no_bundle bytes none = then_none _ _ none

module _ (bytes text rest : List ℕ) (sized : IsOnly (SizedAt bytes) (text, rest)) where
  no_tables : HoldsOfNone (HoldsTables text) → HoldsOfNone (IsBundle bytes)
  unfolding IsBundle
  no_tables none = then_next _ sized (λ bundle is. none bundle.tables is.0)

  no_files : HoldsOfNone (AllOf (FramedAt 6) rest) → HoldsOfNone (IsBundle bytes)
  unfolding IsBundle
  no_files none = then_next _ sized (λ bundle is. none bundle.files is.1)

  bundle_only : (tables : PrefixTables) (files : List (List ℕ)) → IsOnly (HoldsTables text) tables → IsOnly (AllOf (FramedAt 6) rest) files → IsOnly (IsBundle bytes) (record { tables = tables; files = files })
  unfolding IsBundle
  bundle_only tables files holds are = then_only _ sized (record {
    holds = (holds.holds, are.holds);
    alone = λ other is.
        ap (λ t. let b : Bundle = record { tables = t; files = other.files } in b) (holds.alone other.tables is.0)
        ∙ ap (λ f. let b : Bundle = record { tables = tables; files = f } in b) (are.alone other.files is.1);
  })

pub returns-in_default : goal.returns-in_default
returns-in_default c = no_bundle _ c.in_default.ensures

pub returns-in_default-2 : goal.returns-in_default-2
returns-in_default-2 c = no_files _ _ _ c.in-Some.ensures (rw c.in_default-2.is at c.in_ok-files.ensures)

pub returns-in_default-3 : goal.returns-in_default-3
returns-in_default-3 c = no_tables _ _ _ c.in-Some.ensures (rw c.in_default-3.is at c.in_ok-tables.ensures)

pub returns : goal.returns
returns c = bundle_only _ _ _ c.in-Some.ensures _ _ (rw c.in-Some-3.is at c.in_ok-tables.ensures) (rw c.in-Some-2.is at c.in_ok-files.ensures)

pub returns-in_err-files : goal.returns-in_err-files
returns-in_err-files c = IfOk-from_err _ _ c.from_residual.ensures.0

pub returns-in_err-tables : goal.returns-in_err-tables
returns-in_err-tables c = IfOk-from_err _ _ c.from_residual-in_err-tables.ensures.0
