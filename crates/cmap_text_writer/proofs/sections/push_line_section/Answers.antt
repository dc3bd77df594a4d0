use Rattle.std.proofs.Common.{◌≡◌, ◌∙◌, ◌++◌, ap, arith, length, map, refl, subst, sym, true≢false}
use Rattle.std.specs.Prelude.{All}
use Rattle.std.proofs.lemmas.List.{length-map}
use Rattle.std.proofs.lemmas.Result.{IfOk-weaker}
use Rattle.cmap_values.specs.DeclarationsSeen.{bf_entry_seen}
use Rattle.cmap_text.specs.TextFiles.{bf_range}
use Rattle.cmap_text_writer.specs.Lengths.{text_length}
use Rattle.cmap_text_writer.specs.Spelled.{closer_spelled, opener_spelled}
use Rattle.cmap_text_writer.specs.Told.{HasLines}
use Rattle.cmap_text_writer.proofs.SectionsTold.{appended_section, line_section}
use Rattle.cmap_text_writer.proofs.TextsTold.{of_lengths}
use Rattle.cmap_text_writer.proofs.sections.push_line_section.Goals as goal

pub returns : goal.returns
returns c =
    let lengths = c.args.lengths in
    let es = map bf_entry_seen c.args.entries.now in
    let body = c.push_lines.new.out.items in
    let long = length-map c.args.entries.now bf_entry_seen in
    let count = c.in_ok-count.count in
    let has = subst (λ old. HasLines (text_length lengths) es count old body) c.in_ok-lines.ensures.items c.in_ok-count.ensures in
    let others : count ≡ length es → All (λ e. e.start ≡ e.end) es → ⊥ = λ same singles. true≢false (sym (c.are_chars.ensures.no (same ∙ long) singles) ∙ c.if-are_chars.false) in
    IfOk-weaker _ _ _
    (λ _ closed.
    let is : c.push_closer.new.out.items ≡ c.args.out.now.items ++ (opener_spelled count bf_range ++ (body ++ closer_spelled bf_range)) = appended_section bf_range count count c.args.out.now.items c.push_opener.new.out.items c.extend_from_slice.new.self.items c.push_closer.new.out.items body refl c.in_ok-push_opener.ensures (c.in_ok-extend_from_slice.ensures.items ∙ ap (λ bs. c.push_opener.new.out.items ++ bs) c.deref.ensures.value) closed in
    (opener_spelled count bf_range ++ (body ++ closer_spelled bf_range), is, line_section (text_length lengths) (of_lengths lengths) es count body (omega arith) (omega (arith, long, c.requires.few)) c.requires.units others has))
    c.push_closer.ensures
