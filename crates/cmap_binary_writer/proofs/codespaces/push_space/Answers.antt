use Rattle.std.proofs.Common.{◌∙◌, ◌++◌, ◌∷◌, [], ap}
use Rattle.cmap_values.specs.DeclarationsSeen.{codespace_seen}
use Rattle.cmap_values.proofs.Outcomes.{passed_on}
use Rattle.cmap_binary_writer.proofs.ObstaclesMet.{by_high, by_low, handed_on, memory_passed_on}
use Rattle.cmap_binary_writer.proofs.RowsAdded.{added_three}
use Rattle.cmap_binary_writer.proofs.codespaces.push_space.Goals as goal

pub returns : goal.returns
returns c =
    let old = c.args.out.now.items in
    let begun = c.in_ok-push.ensures.items ∙ ap (λ n. old ++ n ∷ []) c.count.ensures in
    let low = c.in_ok-push_code.ensures.0 in
    handed_on c.push_code-2.result c.push_code-2.ensures (λ _ high. ((low.0, high.0), added_three old c.push.new.self.items c.push_code.new.out.items c.push_code-2.new.out.items _ _ _ begun low.1 high.1)) (by_high (codespace_seen c.args.space))

pub returns-in_err-push : goal.returns-in_err-push
returns-in_err-push c = memory_passed_on _ _ _ c.from_residual.ensures.1

pub returns-in_err-push_code : goal.returns-in_err-push_code
returns-in_err-push_code c = passed_on _ _ _ c.from_residual-in_err-push_code.ensures.1 c.in_err-push_code.ensures.1 (by_low (codespace_seen c.args.space))
