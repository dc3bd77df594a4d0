use Rattle.std.proofs.Common.{◌≡◌, ◌-◌, ◌/◌, ◌^◌, sym, ap, subst, ◌∙◌, arith}
use Rattle.std.proofs.lemmas.Bool.{false≢true}
use Rattle.cmap_values.specs.CodeLengths.{length_of}
use Rattle.cmap_encode.specs.Outside.{IsInside}
use Rattle.cmap_encode.proofs.CodesOutside.{inside_begins}
use Rattle.cmap_encode.proofs.Numbers.{fits_length}
use Rattle.cmap_encode.proofs.WholeCodes.{without_more}
use Rattle.cmap_encode.proofs.whole.may_begin_without.Goals as goal

pub returns : goal.returns
returns c = λ is number same inside.
    let layers = c.args.encoding.now in let code = c.args.code in
    let left = c.args.left in let after = c.args.after in
    let len = length_of c.in-Some.len in
    let some = c.requires in
    let is_len : length_of code.len - left ≡ len = omega (arith, c.in-Some.ensures.1, c.count.ensures) in
    let most = (fits_length code.len).1 in
    let prefix : number / 256 ^ left / 256 ^ (after - left) ≡ c.without_last-number.result / 256 ^ (after - left) =
    without_more number left after (omega arith) ∙ same ∙ sym (without_more code.number left after (omega arith)) ∙ ap (λ n. n / 256 ^ (after - left)) (sym c.without_last-number.ensures) in
    false≢true (sym is ∙ c.may_begin.ensures.1 (inside_begins layers len (number / 256 ^ left) c.without_last-number.result (after - left) prefix (omega arith) (omega arith) (omega arith) (subst (λ n. IsInside layers n (number / 256 ^ left)) is_len inside)))
