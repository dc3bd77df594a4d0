use Rattle.std.proofs.Common.{◌∙◌, ap, map}
use Rattle.cmap_values.specs.DeclarationsSeen.{codespace_seen}
use Rattle.cmap_c_writer.specs.Given.{length_of_text}
use Rattle.cmap_c_writer.proofs.text_lengths.text_lengths.Goals as goal

pub returns-in-Some : goal.returns-in-Some
returns-in-Some c = λ code. c.same.ensures code ∙ ap (λ o. length_of_text o (map codespace_seen c.args.spaces.now) code) c.in-Some.ensures

pub returns-in-None : goal.returns-in-None
returns-in-None c = λ code. c.by.ensures code ∙ ap (λ o. length_of_text o (map codespace_seen c.args.spaces.now) code) c.in-None.ensures
