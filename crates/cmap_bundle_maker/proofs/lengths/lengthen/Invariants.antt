use Rattle.std.proofs.Common.{◌≡◌, ℕ, ◌<◌, ◌≤◌, get_or, length}
use Rattle.cmap_bundle_maker.specs.Huffman.{longer}
use Rattle.cmap_bundle_maker.specs.Seen.{word_seen}
use Rattle.cmap_bundle_maker.specs.declared.lengths.WordLength.{WordLength}
use Rattle.cmap_bundle_maker.proofs.lengths.lengthen.Given as goal

abbrev pub invariant-loop-i : goal.invariant-loop-i
invariant-loop-i l =
    (length l.words ≡ length l.initial.words)
    × ((k : ℕ) (d : WordLength) → k < l.i → word_seen (get_or l.words k d) ≡ longer (word_seen (get_or l.initial.words k d)))
    × ((k : ℕ) (d : WordLength) → l.i ≤ k → get_or l.words k d ≡ get_or l.initial.words k d)
