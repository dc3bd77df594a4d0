use Rattle.std.proofs.Common.{Some, sym, ap, ◌∙◌}
use Rattle.std.specs.Prelude.{option_map}
use Rattle.std.specs.Option.{option_or}
use Rattle.cmap_encode.specs.Alike.{first_given}
use Rattle.cmap_encode.specs.ChoicesSeen.{own_choice, owned_at}
use Rattle.cmap_encode.specs.Letters.{counted}
use Rattle.cmap_encode.proofs.SelectorsTried.{selected_none, selected_some}
use Rattle.cmap_encode.proofs.choices.Choices.selected.Goals as goal

pub returns-in_err-node : goal.returns-in_err-node
returns-in_err-node c = ap (option_map own_choice) c.from_residual.ensures ∙ sym (selected_none c.args.self.now.index c.args.character (sym c.in_err-node.ensures))

pub returns-in-Some : goal.returns-in-Some
returns-in-Some c =
    let index = c.args.self.now.index in let node = c.in_ok-node.node in
    sym (selected_some index c.args.character node (sym c.in_ok-node.ensures) ∙ ap (λ o. option_or o (first_given (owned_at index (Some node)) (counted 0xE0100 240))) (sym c.in-Some.ensures))

pub returns-in-None : goal.returns-in-None
returns-in-None c =
    let index = c.args.self.now.index in let node = c.in_ok-node.node in
    c.first_after-in-None.ensures
    ∙ sym (selected_some index c.args.character node (sym c.in_ok-node.ensures) ∙ ap (λ o. option_or o (first_given (owned_at index (Some node)) (counted 0xE0100 240))) (sym c.in-None.ensures))
