use Rattle.std.proofs.Common.{◌≡◌, take, sym, ap, ◌∙◌, subst, inl, inr, arith}
use Rattle.std.proofs.lemmas.Bool.{cases_lt, false≢true}
use Rattle.cmap_codespaces.specs.SpaceBits.{IsFoundAmong, query_of}
use Rattle.cmap_codespaces.proofs.SpacesFound.{least_from, none_from}
use Rattle.cmap_codespaces.proofs.front.shortest_among_groups.Goals as goal
use Rattle.cmap_codespaces.proofs.front.shortest_among_groups.Goals.{After-of_front-query}

query : (c : After-of_front-query) → c.of_front-query.result ≡ query_of c.loop-byte_len.byte_len (take c.loop-byte_len.byte_len c.args.text.now)
query c = c.of_front-query.ensures.is ∙ ap (λ n. query_of c.loop-byte_len.byte_len (take n c.args.text.now)) c.from.ensures

pub returns-then-any_of_tops : goal.returns-then-any_of_tops
returns-then-any_of_tops c =
    let is = query (goal.at.returns-then-any_of_tops c).After-of_front-query in
    least_from c.args.blocks.now c.args.text.now c.loop-byte_len.byte_len (c.loop-byte_len.invariant.some, omega arith, omega arith) c.loop-byte_len.invariant.none (subst (IsFoundAmong c.args.blocks.now) is (c.any_of_tops.ensures.0 c.if-any_of_tops.true))

pub loop-byte_len-preserved : goal.loop-byte_len-preserved
loop-byte_len-preserved c = record {
  some = omega arith;
  none = λ n some below found. elim (cases_lt n c.loop-byte_len.byte_len) [
    | inl before ↦ c.loop-byte_len.invariant.none n some before found
    | inr last ↦
        let same : n ≡ c.loop-byte_len.byte_len = omega arith in
        let is = query (goal.at.loop-byte_len-preserved c).After-of_front-query in
        let here = subst (λ m. IsFoundAmong c.args.blocks.now (query_of m (take m c.args.text.now))) same found in
        false≢true (sym c.if-any_of_tops.false ∙ c.any_of_tops.ensures.1 (subst (IsFoundAmong c.args.blocks.now) (sym is) here))
  ];
}

pub returns : goal.returns
returns c = none_from c.args.blocks.now c.args.text.now c.loop-byte_len.byte_len (omega arith) c.loop-byte_len.invariant.none
