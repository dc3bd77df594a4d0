use Rattle.std.proofs.Common.{◌≡◌, ◌-◌, length, refl, sym, subst, arith}
use Rattle.cmap_layers.specs.StringCodes.{IsShortestInside}
use Rattle.cmap_values.specs.BigEndian.{big_endian}
use Rattle.cmap_values.specs.CodeLengths.{IsCodeLength, length_of}
use Rattle.cmap_encode.specs.Codes.{code_bytes}
use Rattle.cmap_encode.specs.WholeSeen.{IsWholeNumber}
use Rattle.cmap_encode.proofs.Numbers.{are_bytes_of, fits_length}
use Rattle.cmap_encode.proofs.WholeCodes.{all_shadowed, none_whole, number_whole, whole_number}
use Rattle.cmap_encode.proofs.whole.whole_stretch.Goals as goal

pub returns-in_default-clause-whole : goal.returns-in_default-clause-whole
returns-in_default-clause-whole c =
    let code = c.args.code in
    none_whole c.args.encoding.now (code_bytes code) (length_of code.len) code.number c.outside_until.result (fits_length code.len) (are_bytes_of code.len code.number c.requires) c.in_default.ensures c.outside_until.ensures.outside

pub returns-then-count-clause-whole : goal.returns-then-count-clause-whole
returns-then-count-clause-whole c =
    let code = c.args.code in let few = length_of c.in-Some.len in
    all_shadowed c.args.encoding.now (code_bytes code) (length_of code.len) code.number c.shadowed_until.result (fits_length code.len) (are_bytes_of code.len code.number c.requires) few (length_of code.len - few)
    c.in-Some.ensures (omega (arith, c.count.ensures, c.count-2.ensures)) refl c.shadowed_until.ensures.prefixes

pub whole_until-requires-clause-whole : goal.whole_until-requires-clause-whole
whole_until-requires-clause-whole c =
    let code = c.args.code in let layers = c.args.encoding.now in
    let are = are_bytes_of code.len code.number c.requires in
    let within = c.in-Some.ensures.0.0 in
    let all : length_of c.in-Some.len ≡ length (code_bytes code) = omega (arith, are.count, c.count.ensures, c.count-2.ensures) in
    let whole = number_whole layers (code_bytes code) are.string (subst (IsShortestInside layers (code_bytes code)) all c.in-Some.ensures) in
    subst (λ n. IsWholeNumber layers (length_of code.len) n) are.writes (subst (λ n. IsWholeNumber layers n (big_endian (code_bytes code))) are.count whole)

pub returns-clause-whole : goal.returns-clause-whole
returns-clause-whole c = λ bytes are long from to.
    let layers = c.args.encoding.now in
    whole_number layers bytes are (subst IsCodeLength (sym long) (fits_length c.args.code.len)) (subst (λ n. IsWholeNumber layers n (big_endian bytes)) (sym long) (c.whole_until.ensures.whole (big_endian bytes) from to))
