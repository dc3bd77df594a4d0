use Rattle.std.proofs.Common.{◌≡◌, ◌++◌, arith}
use Rattle.std.specs.Prelude.{flat_map}
use Rattle.std.proofs.lemmas.List.{length-map}
use Rattle.std.proofs.lemmas.Result.{IfOk-weaker}
use Rattle.cmap_values.specs.DeclarationsSeen.{cid_entry_seen, entries_seen}
use Rattle.cmap_text.specs.TextFiles.{cids}
use Rattle.cmap_values.specs.CodeLengths.{length_of}
use Rattle.cmap_text.specs.TextSeen.{extent_seen, kind_seen}
use Rattle.cmap_text_writer.specs.Layout.{section_spelled}
use Rattle.cmap_text_writer.specs.Spelled.{cid_spelled}
use Rattle.cmap_text_writer.proofs.SectionsTold.{appended_section, cid_section}
use Rattle.cmap_text_writer.proofs.sections.push_cid_section.Goals as goal

pub returns : goal.returns
returns c =
    let kind = kind_seen c.args.kind in
    let extent = extent_seen c.extent_of-extent.result in
    let es = entries_seen c.args.entries.now in
    let long = length-map c.args.entries.now cid_entry_seen in
    let wrote = c.in_ok-push_cid_entries.ensures in
    IfOk-weaker _ _ _
    (λ _ closed.
    let is : c.push_closer.new.out.items ≡ c.args.out.now.items ++ section_spelled (cids kind extent) (cid_spelled (length_of c.args.len) extent) es = appended_section (cids kind extent) _ _ c.args.out.now.items c.push_opener.new.out.items c.push_cid_entries.new.out.items c.push_closer.new.out.items (flat_map (cid_spelled (length_of c.args.len) extent) es) (omega (arith, long)) c.in_ok-push_opener.ensures wrote.written closed in
    (section_spelled (cids kind extent) (cid_spelled (length_of c.args.len) extent) es, is, cid_section kind extent (length_of c.args.len) es (omega (arith, long, c.requires.few)) c.requires.start wrote.small c.extent_of-extent.ensures))
    c.push_closer.ensures
