use Rattle.std.proofs.Common.{◌≡◌, get_or, bit_and, sym, ap, ◌∙◌, inl, inr, arith}
use Rattle.std.proofs.lemmas.Bool.{cases_lt}
use Rattle.cmap_codespaces.specs.SpaceBits.{row_of_length}
use Rattle.cmap_codespaces.proofs.SpacesFound.{found_with_front, none_with_front}
use Rattle.cmap_codespaces.proofs.front.fewest_with_front.Goals as goal

pub returns-then-found-rows-ne0 : goal.returns-then-found-rows-ne0
returns-then-found-rows-ne0 c =
    let rows = c.args.rows.now in let front = c.args.front.now in let n = c.loop-byte_len.byte_len in (
      ((omega arith, omega arith), found_with_front rows front n c.with_front-found.result c.requires.few (omega arith) c.with_front-found.ensures.set (rw (← c.row_of_length.ensures) c.if-found-rows-ne0.true)),
      λ m below holds. c.loop-byte_len.invariant m holds.0.0 below holds.1,
    )

pub loop-byte_len-preserved : goal.loop-byte_len-preserved
loop-byte_len-preserved c = λ n some below found.
    let rows = c.args.rows.now in let front = c.args.front.now in
    elim (cases_lt n c.loop-byte_len.byte_len) [
      | inl before ↦ c.loop-byte_len.invariant n some before found
      | inr last ↦
          let same : c.row_of_length.result ≡ row_of_length n = omega (arith, c.row_of_length.ensures) in
          none_with_front rows front n c.with_front-found.result c.requires.few (λ r. omega (arith, c.type_inv.rows r)) c.with_front-found.ensures.all (sym (ap (λ r. bit_and c.with_front-found.result (get_or rows r 0)) same) ∙ c.if-found-rows-ne0.false) found
    ]

pub returns : goal.returns
returns c = λ n holds. let most = holds.0.1 in c.loop-byte_len.invariant n holds.0.0 (omega arith) holds.1
