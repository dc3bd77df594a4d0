use Rattle.std.proofs.Common.{◌≡◌, sym, ◌∙◌, subst}
use Rattle.std.specs.Prelude.{◌↔◌, IsSome, Any}
use Rattle.std.proofs.lemmas.List.{take_all}
use Rattle.std.proofs.lemmas.Result.{IfOk-weaker}
use Rattle.cmap_runs.specs.Ranges.{last_of}
use Rattle.cmap_values.specs.CodeLengths.{length_of}
use Rattle.cmap_layers.specs.CodeRanges.{IsIn}
use Rattle.cmap_edit.specs.Chosen.{Chosen, codes_span}
use Rattle.cmap_edit.proofs.ChosenCodes.{chosen_more, has_any, lengths_agree, lengths_differ, no_codes, none_chosen, passed_over}
use Rattle.cmap_edit.proofs.flatten.codes.codes_of_length.Goals as goal
use Rattle.cmap_edit.proofs.flatten.codes.codes_of_length.Goals.{then-eq+in_ok-push, else-eq}

pub loop-one-init : goal.loop-one-init
loop-one-init c = λ code. rw c.new-list.ensures.items (none_chosen (length_of c.args.len) code)

pub loop-one-preserved : goal.loop-one-preserved
loop-one-preserved c =
    let codes = c.args.codes.now in let i = c.loop-one.one-index in let list = c.loop-one.list.items in let len = length_of c.args.len in
    elim c.if-eq.branch [
      | then-eq+in_ok-push w ↦ λ code. rw (w.list-is, w.in_ok-push.ensures.items)
          (chosen_more codes list i no_codes len c.loop-one-test.true c.loop-one.invariant (lengths_agree _ _ (sym c.eq.ensures ∙ w.if-eq.true)) code)
      | else-eq w ↦ λ code. rw w.list-is (passed_over codes list i no_codes len c.loop-one-test.true c.loop-one.invariant (lengths_differ _ _ (sym c.eq.ensures ∙ w.if-eq.false)) code)
    ]

pub returns : goal.returns
returns c =
    let codes = c.args.codes.now in let len = length_of c.args.len in let list = c.loop-one.list.items in
    IfOk-weaker c.build.result (λ table. table ≡ list) _ (λ table is code.
    let has = has_any codes_span list code in
    let chosen = subst (λ part. Any (λ one. IsIn code one.range) list ↔ Chosen part code len) (take_all c.loop-one.one-index codes c.loop-one-test.false) (c.loop-one.invariant code) in
    subst (λ table. IsSome (last_of codes_span table code) ↔ Chosen codes code len) (sym is) (λ some. chosen.0 (has.0 some), λ any. has.1 (chosen.1 any))) c.build.ensures
