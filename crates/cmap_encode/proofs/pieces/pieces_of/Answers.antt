use Rattle.std.proofs.Common.{◌≡◌, ◌+◌, ◌-◌, ◌<◌, length, take, Some, ap, ◌∙◌, subst, arith}
use Rattle.std.specs.Prelude.{flat_map}
use Rattle.std.specs.Char.{encode_utf8}
use Rattle.cmap_encode.specs.ChoicesSeen.{choice_seen}
use Rattle.cmap_encode.specs.Encodings.{IsPieceOf}
use Rattle.cmap_encode.specs.Ways.{IsWay, IsWayOf, last_of}
use Rattle.cmap_encode.proofs.WaysFollowed.{all_pieces, piece_more, way_at}
use Rattle.cmap_encode.proofs.pieces.pieces_of.Goals as goal

pub loop-left-preserved : goal.loop-left-preserved
loop-left-preserved c = record {
  within = omega (arith, c.loop-left.invariant.within);
  first = λ choices are.
      let text = c.args.text.now in let ways = c.args.ways.now in let left = c.loop-left.left in let way = c.in-Some.way in
      let lt : left - 1 < length ways = omega (arith, c.loop-left.invariant.within) in
      let at : left - 1 + 1 ≡ left = omega arith in
      let is = subst (λ n. IsWay choices (last_of n text) way) at (way_at ways (left - 1) _ (Some way) (IsWayOf choices (last_of (left - 1 + 1) text)) lt c.in-Some.is (are.each (left - 1) lt)) in
      let taken : length text - left + way.taken - (length text - left) ≡ way.taken = omega arith in
      let len = c.in_ok-len.ensures ∙ ap (λ n. length (flat_map encode_utf8 (take n (last_of left text)))) taken in
      let of = subst (λ n. IsPieceOf n (choice_seen way.choice) c.piece_of.result) len c.piece_of.ensures in
      rw c.in_ok-push.ensures.items (piece_more choices text c.loop-left.pieces.items left way c.piece_of.result (c.loop-left.invariant.first choices are) is of);
}

pub returns : goal.returns
returns c = λ choices are. all_pieces choices c.args.text.now c.loop-left.pieces.items c.loop-left.left (omega arith) (c.loop-left.invariant.first choices are)
