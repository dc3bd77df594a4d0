use Rattle.std.proofs.lemmas.Result.{IfOk-weaker}
use Rattle.cmap_text_writer.specs.Lengths.{text_length}
use Rattle.cmap_text_writer.proofs.ArraysTold.{array_line, no_line, no_small, one_line, one_small, small_array}
use Rattle.cmap_text_writer.proofs.entries.push_line.Goals as goal

pub returns-in-empty-clause-written : goal.returns-in-empty-clause-written
returns-in-empty-clause-written c = no_line (text_length c.args.lengths) c.args.entries.now c.args.out.now.items c.in-empty.len_below

pub returns-in-empty-clause-small : goal.returns-in-empty-clause-small
returns-in-empty-clause-small c = no_small c.args.entries.now c.in-empty.len_below

pub returns-in-len1-clause-written : goal.returns-in-len1-clause-written
returns-in-len1-clause-written c = IfOk-weaker _ _ _ (λ _ written. one_line (text_length c.args.lengths) c.args.entries.now c.entry-item.result c.args.out.now.items c.push_text.new.out.items c.in-len1.len_at_least c.in-len1.len_below c.entry-item.is written) c.push_text.ensures.written

pub returns-in-len1-clause-small : goal.returns-in-len1-clause-small
returns-in-len1-clause-small c = IfOk-weaker _ _ _ (λ _ small. one_small c.args.entries.now c.entry-item.result c.in-len1.len_at_least c.in-len1.len_below c.entry-item.is small) c.push_text.ensures.small

pub returns-in_ok-push_codes-in-len2-up-clause-written : goal.returns-in_ok-push_codes-in-len2-up-clause-written
returns-in_ok-push_codes-in-len2-up-clause-written c =
    let codes = c.in_ok-push_codes-in-len2-up.ensures in
    IfOk-weaker _ _ _
    (λ _ array. array_line (text_length c.args.lengths) _ c.args.entries.now c.first-item.result c.last-item.result c.args.out.now.items c.push_codes.new.out.items c.push_array.new.out.items c.of.ensures c.in-len2-up.len_at_least c.first-item.is c.last-item.is c.requires codes.written array)
    c.push_array.ensures.written

pub returns-in_ok-push_codes-in-len2-up-clause-small : goal.returns-in_ok-push_codes-in-len2-up-clause-small
returns-in_ok-push_codes-in-len2-up-clause-small c = IfOk-weaker _ _ _ (λ _ units. small_array c.args.entries.now c.first-item.result c.last-item.result c.in-len2-up.len_at_least c.first-item.is c.last-item.is c.requires c.in_ok-push_codes-in-len2-up.ensures.end units) c.push_array.ensures.small
