use Rattle.std.proofs.Common.{◌≡◌, ◌∙◌, ap, length}
use Rattle.std.proofs.Math.ListN.{length-set, set}
use Rattle.std.specs.Prelude.{Some, slice_get}
use Rattle.std.specs.Vec.{with_item}
use Rattle.cmap_load.specs.declared.graph.Graph.{Graph}
use Rattle.cmap_load.proofs.GraphGrowing.{IsGraph-file, IsGraph-kept, IsGraph-top, files_still}
use Rattle.cmap_load.proofs.graph.Graph.add.Goals as goal

pub returns-in_err-push-clause-graph : goal.returns-in_err-push-clause-graph
returns-in_err-push-clause-graph c = IsGraph-kept c.args.self.now c.push.new.self c.in_err-push.ensures.kept c.requires.graph

pub returns-in_default-clause-graph : goal.returns-in_default-clause-graph
returns-in_default-clause-graph c =
    let pushed = c.in_ok-push.ensures in
    IsGraph-top c.args.self.now c.push.new.self c.requires.graph c.args.node pushed.budget (ap (λ v. length v.items) pushed.found) (λ name i is. ap (λ v. slice_get v.items name) pushed.found ∙ is)
    pushed.nodes pushed.heights pushed.costs pushed.firsts (ap (λ v. v.items) pushed.found) c.requires.named

pub returns-clause-graph : goal.returns-clause-graph
returns-clause-graph c =
    let pushed = c.in_ok-push.ensures in let old = c.args.self.now in let name = c.in-Some.name in
    let long : c.len-index.result ≡ length old.nodes.items = c.len-index.ensures ∙ old.nodes.ok.0 in
    let is_set = ap (λ v. set v.items name (Some c.len-index.result)) pushed.found ∙ ap (λ n. set old.found.items name (Some n)) long in
    let new : Graph = record c.push.new.self { found = with_item c.push.new.self.found name (Some c.len-index.result) } in
    IsGraph-file old new c.requires.graph c.args.node pushed.budget (ap length is_set ∙ length-set old.found.items name _) (files_still old new name (length old.nodes.items) (rw c.in-Some.is at c.requires.new) is_set)
    pushed.nodes pushed.heights pushed.costs pushed.firsts name is_set c.requires.named
