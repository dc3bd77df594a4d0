use Rattle.std.proofs.Common.{ℕ, length, ap, sym, ◌∙◌, subst, refl, inl, inr, arith}
use Rattle.std.proofs.lemmas.Bool.{cases_lt, false≢true}
use Rattle.std.proofs.lemmas.Option.{slice_get_read}
use Rattle.std.specs.Global.{Vec}
use Rattle.cmap_codespaces.specs.SpaceBits.{IsFound, IsFoundAt}
use Rattle.cmap_codespaces.proofs.SpacesFound.{found_here, found_within}
use Rattle.cmap_codespaces.proofs.search.any_of_blocks.Goals as goal

pub loop-rows-preserved : goal.loop-rows-preserved
loop-rows-preserved c = λ index below found.
    let blocks = c.args.blocks.now in let query = c.args.query.now in let at = c.loop-rows.rows-index in
    elim (cases_lt index at) [
      | inl before ↦ c.loop-rows.invariant index before found
      | inr last ↦
          let here = found_here blocks query at c.rows-item.result (slice_get_read blocks _ at _ refl (omega arith) c.rows-item.is) (subst (IsFoundAt blocks query) (omega arith) found) in
          let rows = sym c.deref.ensures.value in
          false≢true (sym c.if-finds.false ∙ c.finds.ensures.1 (subst (λ list. IsFound list query) rows here))
    ]

pub returns : goal.returns
returns c = (λ yes. absurd (false≢true yes), λ some. let within = found_within c.args.blocks.now c.args.query.now some.0 some.1 in absurd (c.loop-rows.invariant some.0 (omega arith) some.1))

pub finds-requires-clause-size : goal.finds-requires-clause-size
finds-requires-clause-size c =
    ap length c.deref.ensures.value ∙ ap (λ (rows : Vec ℕ). length rows.items) c.rows-item.is ∙ c.requires.rows c.loop-rows.rows-index c.rows-item.result c.loop-rows-test.true

pub returns-then-finds : goal.returns-then-finds
returns-then-finds c =
    let here = slice_get_read c.args.blocks.now _ c.loop-rows.rows-index c.rows-item.result refl c.loop-rows-test.true c.rows-item.is in
    (λ _. (c.loop-rows.rows-index, rw here (rw c.deref.ensures.value at (c.if-finds.ensures.0 refl))), λ _. refl)

pub loop-rows-init : goal.loop-rows-init
loop-rows-init c = λ index below found. absurd (omega (arith, below))
