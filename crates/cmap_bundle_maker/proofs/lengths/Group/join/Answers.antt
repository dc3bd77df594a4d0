use Rattle.std.proofs.Common.{◌+◌, ◌++◌, ◌<◌, ◌^◌, ◌∙◌, All, ap, length, subst, sym, arith}
use Rattle.std.proofs.lemmas.List.{length-append, length-map}
use Rattle.std.proofs.lemmas.List.Elements.{All-append, All-weaker}
use Rattle.cmap_bundle_maker.specs.Seen.{word_seen, words_seen}
use Rattle.cmap_bundle_maker.specs.declared.lengths.WordLength.{WordLength}
use Rattle.cmap_bundle_maker.proofs.HuffmanWords.{all_of_map}
use Rattle.cmap_bundle_maker.proofs.lengths.Group.join.Goals as goal

pub lengthen-requires : goal.lengthen-requires
lengthen-requires c =
    let these = c.args.self.words.items in
    let others = c.args.other.words.items in
    let all = c.deref_mut.ensures.value ∙ c.in_ok-extend_from_slice.ensures.items ∙ ap (λ ws. these ++ ws) c.deref.ensures.value in
    let size = ap length all ∙ length-append these others in
    let room = c.deref_mut.type_inv.1 in
    let first = all_of_map (λ w. w.len < length (words_seen these)) word_seen these c.requires.sized.1 in
    let second = all_of_map (λ w. w.len < length (words_seen others)) word_seen others c.requires.other.1 in
    subst (All (λ (w : WordLength). w.len + 1 < 2 ^ 64)) (sym all) (All-append (λ (w : WordLength). w.len + 1 < 2 ^ 64) these others
    (All-weaker (λ (w : WordLength). w.len < length (words_seen these)) (λ w. w.len + 1 < 2 ^ 64) (λ w less. omega (arith, less, size, room, length-map these word_seen)) these first)
    (All-weaker (λ (w : WordLength). w.len < length (words_seen others)) (λ w. w.len + 1 < 2 ^ 64) (λ w less. omega (arith, less, size, room, length-map others word_seen)) others second))
