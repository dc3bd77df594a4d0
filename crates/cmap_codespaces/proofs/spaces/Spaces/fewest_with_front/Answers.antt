use Rattle.std.proofs.Common.{◌≡◌, ◌<◌, ◌∙◌, get_or, length, ap, sym, subst, rules, arith}
use Rattle.std.specs.Int.{bit_at}
use Rattle.std.proofs.lemmas.Bool.{eqb-false}
use Rattle.cmap_values.specs.CodeLengths.{IsCodeLength}
use Rattle.cmap_codespaces.specs.CodesWithin.{IsLeast}
use Rattle.cmap_codespaces.specs.SpaceBits.{AreBlocks, IsFound, query_of, row_of_front}
use Rattle.cmap_codespaces.proofs.FrontRows.{first_bit_front, no_bit_front}
use Rattle.cmap_codespaces.proofs.SpacesFound.{fewest_ranges, only_item}
use Rattle.cmap_codespaces.proofs.spaces.Spaces.fewest_with_front.Goals as goal

pub returns-in-len1 : goal.returns-in-len1
returns-in-len1 c =
    let front = c.args.front.now in let block = c.only-item.result in let list = c.self.inside.list.items in
    let blocks : c.self.inside.blocks.items ≡ c.as_slice.result.now = search rules in
    let is = blocks ∙ only_item c.as_slice.result.now block (omega (arith, c.in-len1.len_at_least, c.in-len1.len_below)) c.only-item.is in
    let rows : c.deref.result.now ≡ block.items = search rules in
    let here = subst (λ rows. IsLeast (λ n. IsCodeLength n × IsFound rows (query_of n front)) c.fewest_with_front.result) rows c.fewest_with_front.ensures in
    rw (← c.self.view_is) (fewest_ranges list block front c.fewest_with_front.result (λ k. omega (arith, c.type_inv.front k)) c.requires (subst (AreBlocks list) is c.self.invariant.by_blocks) here)

pub returns-in_err-bit : goal.returns-in_err-bit
returns-in_err-bit c =
    let list = c.self.inside.list.items in let rows = c.self.inside.lengths.items in let front = c.args.front.now in
    let some : 0 < length c.self.inside.lengths.items = omega (arith, eqb-false _ 0 (sym c.if-is_empty.ensures)) in
    let is : c.lengths_with_front-lengths.result ≡ get_or rows (row_of_front front) 0 = c.lengths_with_front-lengths.ensures ∙ ap (λ l. get_or l (row_of_front front) 0) c.deref-2.ensures.value in
    rw (← c.self.view_is) (rw c.from_residual.ensures (no_bit_front list rows front (λ k. omega (arith, c.type_inv.front k)) (c.self.invariant.by_lengths some) (λ n fits set. c.in_err-bit.ensures.first n (fits, ap (λ b. bit_at b n) is ∙ set))))

pub returns-then-front-le-EXACT_LEN : goal.returns-then-front-le-EXACT_LEN
returns-then-front-le-EXACT_LEN c =
    let list = c.self.inside.list.items in let rows = c.self.inside.lengths.items in let front = c.args.front.now in let bit = c.in_ok-bit.bit in
    let some : 0 < length c.self.inside.lengths.items = omega (arith, eqb-false _ 0 (sym c.if-is_empty.ensures)) in
    let is : c.lengths_with_front-lengths.result ≡ get_or rows (row_of_front front) 0 = c.lengths_with_front-lengths.ensures ∙ ap (λ l. get_or l (row_of_front front) 0) c.deref-2.ensures.value in
    let least = c.in_ok-bit.ensures.first in
    rw (← c.self.view_is) (first_bit_front list rows front bit (λ k. omega (arith, c.type_inv.front k)) (c.self.invariant.by_lengths some) c.if-front-le-EXACT_LEN.true least.0.0 (ap (λ b. bit_at b bit) (sym is) ∙ least.0.1) (λ m below fits set. least.1 m below (fits, ap (λ b. bit_at b m) is ∙ set)))
