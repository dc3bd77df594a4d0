-- The ranges of hidden code points are those of the hidden categories.
use Rattle.std.proofs.Common.{refl}
use Rattle.ucd_category.proofs.GeneralCategoryLemmas.{general_category_stepped}
use Rattle.ucd_category.specs.GeneralCategory.{general_category}
use Rattle.ucd_table.specs.Rows.{HasExactly, IsRising}
use Rattle.ucd_table.proofs.Computing.{tables}
use Rattle.ucd_table.proofs.Stepped.{map_stepped}
use Rattle.cmap_io.specs.Shown.{is_hidden}
use Rattle.cmap_io.specs.declared.hidden.ranges.TheConstants.{HIDDEN}
use Rattle.cmap_io.proofs.Ranges.{has_exactly}

pub hidden_rising : IsRising HIDDEN
unfolding tables
hidden_rising = refl

pub hidden_exact : HasExactly HIDDEN (λ c. is_hidden (general_category c))
unfolding tables general_category_stepped
hidden_exact = has_exactly HIDDEN (λ c. is_hidden (general_category c)) (map_stepped is_hidden general_category general_category_stepped) refl refl
