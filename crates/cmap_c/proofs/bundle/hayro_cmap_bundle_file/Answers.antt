use Rattle.std.proofs.Common.{Some, None, refl}
use Rattle.cmap_load.specs.Answers.{embedded}
use Rattle.cmap_handles.proofs.HandlesRead.{given_in}
use Rattle.cmap_c.proofs.bundle.hayro_cmap_bundle_file.Goals as goal

pub returns-in-Some-clause-file : goal.returns-in-Some-clause-file
returns-in-Some-clause-file c = given_in (λ bundle. embedded bundle c.args.name.now) _ (Some c.in-Some.bundle.now) _ _ _ c.file_of.ensures c.in-Some.ensures.bundle c.put_found.ensures

pub returns-in-None-clause-file : goal.returns-in-None-clause-file
returns-in-None-clause-file c = given_in (λ bundle. embedded bundle c.args.name.now) _ None None _ _ refl c.in-None.ensures.bundle (c.number.ensures, refl, refl)
