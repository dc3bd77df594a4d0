use Rattle.std.proofs.Common.{◌≡◌, ◌++◌, arith, map}
use Rattle.std.specs.Prelude.{flat_map}
use Rattle.std.proofs.lemmas.List.{length-map}
use Rattle.std.proofs.lemmas.Result.{IfOk-weaker}
use Rattle.cmap_values.specs.DeclarationsSeen.{bf_entry_seen}
use Rattle.cmap_text.specs.TextFiles.{bf_char}
use Rattle.cmap_text_writer.specs.Layout.{char_spelled, section_spelled}
use Rattle.cmap_text_writer.specs.Lengths.{text_length}
use Rattle.cmap_text_writer.proofs.SectionsTold.{appended_section, char_section}
use Rattle.cmap_text_writer.proofs.TextsTold.{of_lengths}
use Rattle.cmap_text_writer.proofs.sections.push_char_section.Goals as goal

pub returns : goal.returns
returns c =
    let lengths = c.args.lengths in
    let es = map bf_entry_seen c.args.entries.now in
    let long = length-map c.args.entries.now bf_entry_seen in
    let wrote = c.in_ok-push_chars.ensures in
    IfOk-weaker _ _ _
    (λ _ closed.
    let is : c.push_closer.new.out.items ≡ c.args.out.now.items ++ section_spelled bf_char (char_spelled (text_length lengths)) es = appended_section bf_char _ _ c.args.out.now.items c.push_opener.new.out.items c.push_chars.new.out.items c.push_closer.new.out.items (flat_map (char_spelled (text_length lengths)) es) (omega (arith, long)) c.in_ok-push_opener.ensures wrote.written closed in
    (section_spelled bf_char (char_spelled (text_length lengths)) es, is, char_section (text_length lengths) (of_lengths lengths) es (omega (arith, long, c.requires.some)) (omega (arith, long, c.requires.few)) c.requires.units wrote.small c.requires.single))
    c.push_closer.ensures
