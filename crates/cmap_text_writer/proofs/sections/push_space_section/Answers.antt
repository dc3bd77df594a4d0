use Rattle.std.proofs.Common.{◌≡◌, ◌++◌, arith, map}
use Rattle.std.specs.Prelude.{flat_map}
use Rattle.std.proofs.lemmas.List.{length-map}
use Rattle.std.proofs.lemmas.Result.{IfOk-weaker}
use Rattle.cmap_values.specs.DeclarationsSeen.{codespace_seen}
use Rattle.cmap_text.specs.TextFiles.{codespace_range}
use Rattle.cmap_text_writer.specs.Layout.{section_spelled}
use Rattle.cmap_text_writer.specs.Spelled.{space_spelled}
use Rattle.cmap_text_writer.proofs.SectionsTold.{appended_section, space_section}
use Rattle.cmap_text_writer.proofs.sections.push_space_section.Goals as goal

pub returns : goal.returns
returns c =
    let spaces = map codespace_seen c.args.spaces.now in
    let long = length-map c.args.spaces.now codespace_seen in
    IfOk-weaker _ _ _ (λ _ closed.
    let is : c.push_closer.new.out.items ≡ c.args.out.now.items ++ section_spelled codespace_range space_spelled spaces = appended_section codespace_range _ _ c.args.out.now.items c.push_opener.new.out.items c.push_spaces.new.out.items c.push_closer.new.out.items (flat_map space_spelled spaces) (omega (arith, long)) c.in_ok-push_opener.ensures c.in_ok-push_spaces.ensures closed in
    (section_spelled codespace_range space_spelled spaces, is, space_section spaces (omega (arith, long, c.requires.some)) (omega (arith, long, c.requires.few)) c.requires.fit)) c.push_closer.ensures
