use Rattle.std.proofs.Common.{[], ◌∷◌, get_or, ap}
use Rattle.cmap_values.specs.declared.code_length.CodeLength.TheVariants.{One, Two, Three, Four}
use Rattle.cmap_codespaces.proofs.SpacesFound.{code_found}
use Rattle.cmap_codespaces.proofs.query.Query.of_code.Goals as goal

pub returns-in-One-clause-ranges : goal.returns-in-One-clause-ranges
returns-in-One-clause-ranges c = λ space. code_found One c.args.len c.args.code c.of_front.result _ space c.in-One.is (ap (λ bytes. get_or bytes 3 0 ∷ []) c.to_be_bytes.ensures) (c.of_front.ensures.ranges space)

pub returns-in-Two-clause-ranges : goal.returns-in-Two-clause-ranges
returns-in-Two-clause-ranges c = λ space. code_found Two c.args.len c.args.code c.of_front-in-Two.result _ space c.in-Two.is (ap (λ bytes. get_or bytes 2 0 ∷ get_or bytes 3 0 ∷ []) c.to_be_bytes.ensures) (c.of_front-in-Two.ensures.ranges space)

pub returns-in-Three-clause-ranges : goal.returns-in-Three-clause-ranges
returns-in-Three-clause-ranges c = λ space. code_found Three c.args.len c.args.code c.of_front-in-Three.result _ space c.in-Three.is (ap (λ bytes. get_or bytes 1 0 ∷ get_or bytes 2 0 ∷ get_or bytes 3 0 ∷ []) c.to_be_bytes.ensures) (c.of_front-in-Three.ensures.ranges space)

pub returns-in-Four-clause-ranges : goal.returns-in-Four-clause-ranges
returns-in-Four-clause-ranges c = λ space. code_found Four c.args.len c.args.code c.of_front-in-Four.result _ space c.in-Four.is (ap (λ bytes. get_or bytes 0 0 ∷ get_or bytes 1 0 ∷ get_or bytes 2 0 ∷ get_or bytes 3 0 ∷ []) c.to_be_bytes.ensures) (c.of_front-in-Four.ensures.ranges space)
