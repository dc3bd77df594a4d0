use Rattle.std.proofs.lemmas.Result.{IfOk-weaker}
use Rattle.cmap_values.proofs.Outcomes.{refused_on}
use Rattle.cmap_values.specs.FilesSeen.{file_seen}
use Rattle.cmap_edit.specs.Subsets.{IsFlat, IsSubset}
use Rattle.cmap_edit.proofs.OneFile.{all_subset, is_flat}
use Rattle.cmap_edit.proofs.flatten.subsets.flatten.Goals as goal

pub returns-clause-file : goal.returns-clause-file
returns-clause-file c =
    let layers = c.args.layers.now in let codes = c.all_codes.result in let ended = c.subset.ensures.file in (
      IfOk-weaker c.subset.result (λ file. IsSubset layers codes (file_seen file)) (λ file. IsFlat layers (file_seen file)) (λ file is. is_flat layers codes (file_seen file) c.all_codes.ensures is) ended.0,
      refused_on c.subset.result ended.1 (λ at is. is.1),
    )

pub returns-clause-none : goal.returns-clause-none
returns-clause-none c = refused_on c.subset.result c.subset.ensures.none (λ at none file is. none file (all_subset c.args.layers.now c.all_codes.result file c.all_codes.ensures is))
