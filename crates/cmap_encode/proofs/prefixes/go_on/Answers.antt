use Rattle.std.proofs.Common.{◌≡◌, ℕ, ◌+◌, List, ◌∷◌, ◌++◌, [], get_or, take, sym, ap, ◌∙◌, subst, arith}
use Rattle.std.specs.Global.{Vec}
use Rattle.std.proofs.lemmas.List.{take_all, take_more}
use Rattle.cmap_encode.specs.Prefixes.{WentOn}
use Rattle.cmap_encode.proofs.PrefixesFound.{went_none, went_some}
use Rattle.cmap_encode.proofs.prefixes.go_on.Goals as goal
use Rattle.cmap_encode.proofs.prefixes.go_on.Goals.{in-Some+in_ok-push, in_default}

pub loop-node-preserved : goal.loop-node-preserved
loop-node-preserved c =
    let choices = c.args.choices.now in let nodes = c.args.nodes.now in let at = c.loop-node.node-index in let old = take at nodes in let node = get_or nodes at 0 in
    let more : take (at + 1) nodes ≡ old ++ node ∷ [] = take_more nodes at 0 (omega arith) in
    let Went = λ (before after : List ℕ). WentOn choices c.args.character c.args.may_begin before after in
    elim c.match-after.branch [
      | in-Some+in_ok-push w ↦
          let after = ap (λ (v : Vec ℕ). v.items) w.after-is ∙ w.in_ok-push.ensures.items in
          subst (λ l. Went l c.match-after.after.items) (sym more) (subst (Went (old ++ node ∷ [])) (sym after)
          (went_some choices c.args.character c.args.may_begin old c.loop-node.after.items node w.in-Some.next c.loop-node.invariant (sym c.after.ensures ∙ w.in-Some.is)))
      | in_default w ↦
          let after = ap (λ (v : Vec ℕ). v.items) w.after-is in
          subst (λ l. Went l c.match-after.after.items) (sym more) (subst (Went (old ++ node ∷ [])) (sym after)
          (went_none choices c.args.character c.args.may_begin old c.loop-node.after.items node c.loop-node.invariant (sym c.after.ensures ∙ w.in_default.is)))
    ]

pub returns : goal.returns
returns c = subst (λ l. WentOn c.args.choices.now c.args.character c.args.may_begin l c.loop-node.after.items) (take_all c.loop-node.node-index c.args.nodes.now (omega arith)) c.loop-node.invariant
