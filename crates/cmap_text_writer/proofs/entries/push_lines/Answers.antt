use Rattle.std.proofs.Common.{◌∙◌, ◌++◌, ◌≡◌, List, drop, map, ap, arith, sym, subst}
use Rattle.std.proofs.lemmas.List.{take-append-drop}
use Rattle.cmap_values.specs.DeclarationsSeen.{bf_entry_seen}
use Rattle.cmap_values.specs.declared.declarations.BfRange.{BfRange}
use Rattle.cmap_text_writer.specs.Fits.{IsLine}
use Rattle.cmap_text_writer.specs.Lengths.{text_length}
use Rattle.cmap_text_writer.proofs.ArraysTold.{lines_more, lines_none}
use Rattle.cmap_text_writer.proofs.entries.push_lines.Goals as goal

pub loop-left-init : goal.loop-left-init
loop-left-init c = lines_none (text_length c.args.lengths) c.args.entries.now c.args.out.now.items

pub push_line-requires : goal.push_line-requires
push_line-requires c = subst (λ (xs : List BfRange). IsLine (map bf_entry_seen xs)) (sym c.split_at.ensures.front) c.count_line.ensures.line

pub loop-left-preserved : goal.loop-left-preserved
loop-left-preserved c =
    let left = c.loop-left.left.now in
    let here = c.split_at.result.0.now in
    let later = c.split_at.result.1.now in
    let count = c.count_line.result in
    let cut : left ≡ here ++ later = sym (take-append-drop count left) ∙ ap (λ xs. xs ++ drop count left) (sym c.split_at.ensures.front) ∙ ap (λ xs. here ++ xs) (sym c.split_at.ensures.back) in
    let wrote = c.in_ok-push_line.ensures in
    lines_more (text_length c.args.lengths) c.args.entries.now left here later c.loop-left.count c.args.out.now.items c.loop-left.out.items c.push_line.new.out.items c.loop-left.invariant cut (omega arith) (subst (λ (xs : List BfRange). IsLine (map bf_entry_seen xs)) (sym c.split_at.ensures.front) c.count_line.ensures.line) wrote.small wrote.written
