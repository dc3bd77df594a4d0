use Rattle.cmap_text_writer.proofs.ArraysTold.{array_made, array_small}
use Rattle.cmap_text_writer.proofs.entries.push_array.Goals as goal

pub returns-clause-written : goal.returns-clause-written
returns-clause-written c =
    array_made c.args.entries.now c.first-item.result c.as_slice.result.now c.args.out.now.items c.extend_from_slice.new.self.items c.push_units.new.out.items c.push_next_texts.new.out.items c.extend_from_slice-2.new.self.items c.requires c.first-item.is c.as_slice.ensures
    c.in_ok-extend_from_slice.ensures.items c.in_ok-push_units.ensures.written c.in_ok-push_next_texts.ensures.written c.in_ok-extend_from_slice-2.ensures.items

pub returns-clause-small : goal.returns-clause-small
returns-clause-small c = array_small c.args.entries.now c.first-item.result c.as_slice.result.now c.requires c.first-item.is c.as_slice.ensures c.in_ok-push_units.ensures.small c.in_ok-push_next_texts.ensures.small
