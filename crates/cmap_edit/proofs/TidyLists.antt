-- Lists without declarations are tidy.
use Rattle.std.proofs.Common.{[], arith}
use Rattle.std.proofs.lemmas.List.Elements.{All-nil}
use Rattle.cmap_runs.specs.Ranges.{Span}
use Rattle.cmap_edit.specs.Tidy.{AreTidy, AreTidyCids, AreTidyNotdefs, AreTidyTexts}

pub no_entries : {E : Type 0} (span : E → Span) (IsRow : E → Type 0) (CouldBeOne : E → E → Type 0) → AreTidy span IsRow CouldBeOne []
no_entries span IsRow CouldBeOne = record { rows = All-nil IsRow; apart = λ i j d lt within. absurd (omega arith); joined = λ i j d lt within. absurd (omega arith) }

pub no_cids : AreTidyCids []
no_cids = no_entries _ _ _

pub no_notdefs : AreTidyNotdefs []
no_notdefs = no_entries _ _ _

pub no_texts : AreTidyTexts []
no_texts = no_entries _ _ _
