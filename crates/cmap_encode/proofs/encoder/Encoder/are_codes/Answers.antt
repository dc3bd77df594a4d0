use Rattle.std.proofs.Common.{subst}
use Rattle.std.specs.Prelude.{◌↔◌, IsTrue}
use Rattle.cmap_encode.specs.StringsOfCodes.{AreCodes}
use Rattle.cmap_encode.proofs.StringsCut.{codes_of_spaces}
use Rattle.cmap_encode.proofs.encoder.Encoder.are_codes.Goals as goal

pub returns : goal.returns
returns c = λ maps is.
    let string = c.args.string.now in
    let by = subst (λ layers. IsTrue c.are_codes.result ↔ AreCodes layers string) is.codespaces c.are_codes.ensures in
    let same = codes_of_spaces maps.font.encoding string in
    (λ whole. same.0 (by.0 whole), λ are. by.1 (same.1 are))
