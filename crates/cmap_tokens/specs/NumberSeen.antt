-- What contracts see of a number.
use Rattle.cmap_tokens.specs.declared.token.Number.{Number}
use Rattle.cmap_tokens.specs.declared.token.Number.TheVariants as number
use Rattle.cmap_tokens.specs.Numbers as numbers

abbrev pub number_seen : Number → numbers.Number
number_seen (number.Integer n) = numbers.Integer n
number_seen number.Real = numbers.Real
