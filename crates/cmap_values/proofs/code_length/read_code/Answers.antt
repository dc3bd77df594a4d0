use Rattle.cmap_values.proofs.FewElements.{one_written, two_written, three_written, four_written}
use Rattle.cmap_values.proofs.code_length.read_code.Goals as goal

pub returns-in-len1 : goal.returns-in-len1
returns-in-len1 c = one_written c.args.bytes.now c.from.result c.in-len1.len_at_least c.in-len1.len_below c.from.ensures

pub returns-in-len2 : goal.returns-in-len2
returns-in-len2 c = two_written c.args.bytes.now c.from_be_bytes.result c.in-len2.len_at_least c.in-len2.len_below c.from_be_bytes.ensures

pub returns-in-len3 : goal.returns-in-len3
returns-in-len3 c = three_written c.args.bytes.now c.from_be_bytes-in-len3.result c.in-len3.len_at_least c.in-len3.len_below c.from_be_bytes-in-len3.ensures

pub returns-in-len4 : goal.returns-in-len4
returns-in-len4 c = four_written c.args.bytes.now c.from_be_bytes-in-len4.result c.in-len4.len_at_least c.in-len4.len_below c.from_be_bytes-in-len4.ensures
