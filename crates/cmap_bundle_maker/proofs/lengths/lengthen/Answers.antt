use Rattle.std.proofs.Common.{ap, arith}
use Rattle.cmap_bundle_maker.specs.Huffman.{longer}
use Rattle.cmap_bundle_maker.specs.Seen.{word_seen}
use Rattle.cmap_bundle_maker.specs.declared.lengths.WordLength.{WordLength}
use Rattle.cmap_bundle_maker.proofs.ElementsChanged.{all_changed}
use Rattle.cmap_bundle_maker.proofs.lengths.lengthen.Goals as goal

pub overflow_add-words : goal.overflow_add-words
overflow_add-words c =
    let none : WordLength = record { number = 0; len = 0 } in
    let i = c.loop-i.i in
    let room = c.requires i none (omega (arith, c.loop-i.invariant.0)) in
    omega (arith, room, ap (λ (w : WordLength). w.len) (c.loop-i.invariant.2 i none (omega arith)))

pub returns : goal.returns
returns c = all_changed word_seen longer c.args.words.now c.loop-i.words c.loop-i.invariant.0 (λ k d within. c.loop-i.invariant.1 k d (omega (arith, within, c.loop-i.invariant.0)))
