use Rattle.std.proofs.Common.{◌==◌, ap}
use Rattle.cmap_values.specs.CodeLengths.{length_of}
use Rattle.cmap_values.specs.DeclarationsSeen.{codespace_seen}
use Rattle.cmap_text_writer.proofs.LengthsTold.{bounds_kept, bounds_more}
use Rattle.cmap_text_writer.proofs.text_lengths.TextLengths.widened.Goals as goal

pub returns-in-One : goal.returns-in-One
returns-in-One c = λ other ss h.
    let s = codespace_seen c.args.space in
    let l = c.args.self in
    let wider = c.widened-lengths in record {
      one = bounds_more l.one wider.result 1 ss s h.one (ap (λ len. length_of len == 1) c.in-One.is) wider.ensures.start wider.ensures.end;
      two = bounds_kept l.two 2 ss s h.two (ap (λ len. length_of len == 2) c.in-One.is);
      three = bounds_kept l.three 3 ss s h.three (ap (λ len. length_of len == 3) c.in-One.is);
      four = bounds_kept l.four 4 ss s h.four (ap (λ len. length_of len == 4) c.in-One.is);
      other = h.other;
    }

pub returns-in-Two : goal.returns-in-Two
returns-in-Two c = λ other ss h.
    let s = codespace_seen c.args.space in
    let l = c.args.self in
    let wider = c.widened-lengths-in-Two in record {
      one = bounds_kept l.one 1 ss s h.one (ap (λ len. length_of len == 1) c.in-Two.is);
      two = bounds_more l.two wider.result 2 ss s h.two (ap (λ len. length_of len == 2) c.in-Two.is) wider.ensures.start wider.ensures.end;
      three = bounds_kept l.three 3 ss s h.three (ap (λ len. length_of len == 3) c.in-Two.is);
      four = bounds_kept l.four 4 ss s h.four (ap (λ len. length_of len == 4) c.in-Two.is);
      other = h.other;
    }

pub returns-in-Three : goal.returns-in-Three
returns-in-Three c = λ other ss h.
    let s = codespace_seen c.args.space in
    let l = c.args.self in
    let wider = c.widened-lengths-in-Three in record {
      one = bounds_kept l.one 1 ss s h.one (ap (λ len. length_of len == 1) c.in-Three.is);
      two = bounds_kept l.two 2 ss s h.two (ap (λ len. length_of len == 2) c.in-Three.is);
      three = bounds_more l.three wider.result 3 ss s h.three (ap (λ len. length_of len == 3) c.in-Three.is) wider.ensures.start wider.ensures.end;
      four = bounds_kept l.four 4 ss s h.four (ap (λ len. length_of len == 4) c.in-Three.is);
      other = h.other;
    }

pub returns-in-Four : goal.returns-in-Four
returns-in-Four c = λ other ss h.
    let s = codespace_seen c.args.space in
    let l = c.args.self in
    let wider = c.widened-lengths-in-Four in record {
      one = bounds_kept l.one 1 ss s h.one (ap (λ len. length_of len == 1) c.in-Four.is);
      two = bounds_kept l.two 2 ss s h.two (ap (λ len. length_of len == 2) c.in-Four.is);
      three = bounds_kept l.three 3 ss s h.three (ap (λ len. length_of len == 3) c.in-Four.is);
      four = bounds_more l.four wider.result 4 ss s h.four (ap (λ len. length_of len == 4) c.in-Four.is) wider.ensures.start wider.ensures.end;
      other = h.other;
    }
