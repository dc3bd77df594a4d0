use Rattle.std.proofs.Common.{◌≡◌, ◌∙◌, Any, get_or, map, sym, subst, inl, inr, arith}
use Rattle.std.proofs.lemmas.Bool.{cases_lt, false≢true}
use Rattle.cmap_values.specs.DeclarationsSeen.{codespace_seen}
use Rattle.cmap_codespaces.specs.CodesWithin.{HasFront}
use Rattle.cmap_codespaces.specs.SpaceBits.{InRows}
use Rattle.cmap_codespaces.proofs.BytesWithin.{length_fits}
use Rattle.cmap_codespaces.proofs.SpacesFound.{any_same, too_few}
use Rattle.cmap_codespaces.proofs.spaces.Spaces.fewest_by_queries.Goals as goal

pub loop-byte_len-init : goal.loop-byte_len-init
loop-byte_len-init c = λ n some below found.
    too_few c.args.self.now c.args.front.now 1 n (λ k d within. (length_fits (get_or c.args.self.now k d).len).0) (omega (arith, c.max-byte_len.ensures)) found

pub returns-then-any_of_all : goal.returns-then-any_of_all
returns-then-any_of_all c =
    let same = any_same (InRows c.of_front.result) (HasFront c.loop-byte_len.byte_len c.args.front.now) (map codespace_seen c.args.self.now) c.of_front.ensures.ranges in
    (((omega arith, omega arith), same.0 (c.any_of_all.ensures.0 c.if-any_of_all.true)), λ m below holds. c.loop-byte_len.invariant m holds.0.0 below holds.1)

pub loop-byte_len-preserved : goal.loop-byte_len-preserved
loop-byte_len-preserved c = λ n some below found.
    elim (cases_lt n c.loop-byte_len.byte_len) [
      | inl before ↦ c.loop-byte_len.invariant n some before found
      | inr last ↦
          let is : n ≡ c.loop-byte_len.byte_len = omega arith in
          let same = any_same (InRows c.of_front.result) (HasFront c.loop-byte_len.byte_len c.args.front.now) (map codespace_seen c.args.self.now) c.of_front.ensures.ranges in
          false≢true (sym c.if-any_of_all.false ∙ c.any_of_all.ensures.1 (same.1 (subst (λ m. Any (HasFront m c.args.front.now) (map codespace_seen c.args.self.now)) is found)))
    ]

pub returns : goal.returns
returns c = λ n holds. let most = holds.0.1 in c.loop-byte_len.invariant n holds.0.0 (omega arith) holds.1
