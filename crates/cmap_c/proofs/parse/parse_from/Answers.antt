use Rattle.std.proofs.Common.{◌∙◌, sym}
use Rattle.cmap_binary.specs.BundleSeen.{tables_given}
use Rattle.cmap_load.specs.Maps.{ExceedsBudget, FitsBudget, HasNoMap, IsMapOf}
use Rattle.cmap_c.specs.NamedFiles.{answers, bundle_in}
use Rattle.cmap_c.proofs.StatusOfCauses.{refused}
use Rattle.cmap_c.proofs.parse.parse_from.Goals as goal

pub returns-in-Ok : goal.returns-in-Ok
returns-in-Ok g c = (c.in-Ok.ensures.accepts, c.in-Ok.ensures.within)

pub returns-in-Err : goal.returns-in-Err
returns-in-Err g c =
    let tables = tables_given c.args.tables in
    let names = answers (bundle_in g.B.BundleFiles.bundle_of c.args.bundle) c.args.files.now in
    let bytes = c.args.data.now in
    let budget = c.args.budget in
    refused (IsMapOf tables names bytes) (HasNoMap tables names bytes) (FitsBudget tables names bytes budget) (ExceedsBudget tables names bytes budget) ⊥ ⊥
    _ _ c.ending_of.ensures c.in-Err.ensures.refuses c.in-Err.ensures.over

pub read_layers-requires-clause-by_name : goal.read_layers-requires-clause-by_name
read_layers-requires-clause-by_name g c _ _ _ one other = one ∙ sym other
