use Rattle.std.proofs.Common.{◌∙◌, arith, inl, inr, refl}
use Rattle.cmap_values.proofs.Outcomes.{passed_on}
use Rattle.cmap_binary.proofs.Fronts.{gives_none, then_none, then_next}
use Rattle.cmap_binary.specs.BundleSeen.{tables_seen}
use Rattle.cmap_binary.specs.WrongSegments.{WrongCidEntry}
use Rattle.cmap_binary.proofs.RawCids.{entry_only, raw_only}
use Rattle.cmap_binary.proofs.RowsAdded.{adds_start, adds_more, adds_wrong, adds_end}
use Rattle.cmap_binary.proofs.CidsOfTwo.{cid_added}
use Rattle.cmap_binary.proofs.entries.push_single_cids.Goals as goal

pub loop-i-init : goal.loop-i-init
loop-i-init c = record { added = λ others. adds_start _ _ _ _ _; room = omega (arith, c.requires.room) }

pub returns-in_err-range : goal.returns-in_err-range
returns-in_err-range c others =
    passed_on _ _ _ c.from_residual.ensures.1 c.in_err-range.ensures.next.1 (λ reason is. adds_wrong (c.loop-i.invariant.added others) (WrongCidEntry (tables_seen c.args.tables.now)) reason (omega arith) (then_none _ _ is.0) (inl is.1))

pub returns-in_default : goal.returns-in_default
returns-in_default c others =
    let raw = raw_only c.args.left.raws.now c.loop-i.i c.from_be_bytes-raw.result (omega (arith, c.requires.raws, c.loop-i-test.true)) c.from_be_bytes-raw.ensures in
    let range = c.in_ok-range.ensures.next.0 in
    let past = rw c.cid_of.ensures at c.in_default.ensures in
    (tt, adds_wrong (c.loop-i.invariant.added others) (WrongCidEntry (tables_seen c.args.tables.now)) _ (omega arith) (then_next _ range (then_next _ raw (gives_none past))) (inr (_, _, range.holds, inr (_, _, raw.holds, (omega (arith, past), refl)))))

pub push_reserved-requires : goal.push_reserved-requires
push_reserved-requires c = omega (arith, c.loop-i.invariant.room, c.loop-i-test.true)

pub loop-i-preserved : goal.loop-i-preserved
loop-i-preserved c =
    let raw = raw_only c.args.left.raws.now c.loop-i.i c.from_be_bytes-raw.result (omega (arith, c.requires.raws, c.loop-i-test.true)) c.from_be_bytes-raw.ensures in
    let cid = c.in-Ok.ensures.1 ∙ c.cid_of.ensures in
    let pushed = c.push_reserved.ensures in
    record {
      added = λ others.
          adds_more (c.loop-i.invariant.added others) _ (omega arith) (entry_only _ _ _ _ _ _ _ _ c.in_ok-range.ensures.next.0 raw cid (omega (arith, c.in-Ok.ensures)) (omega (arith, c.from.ensures, c.from-in-loop-i.ensures)))
          (cid_added c.loop-i.list c.push_reserved.new.self _ others pushed.items);
      room = omega (arith, c.loop-i.invariant.room, pushed.len, pushed.capacity);
    }

pub returns : goal.returns
returns c others =
    let has = c.loop-i.invariant.added others in
    (record { entries = has.entries; end = _; only = adds_end has (omega arith); says = has.says }, tt)
