use Rattle.std.proofs.Common.{◌≡◌, ◌+◌, ◌<◌, None, get_or, length, refl, subst, arith}
use Rattle.std.specs.Prelude.{◌↔◌, IsTrue, is_some}
use Rattle.cmap_encode.specs.Pieces.{IsEncodable}
use Rattle.cmap_encode.specs.Ways.{IsWayOf, last_of}
use Rattle.cmap_encode.proofs.WaysFollowed.{way_at}
use Rattle.cmap_encode.proofs.WaysFound.{ends_nothing, ends_way}
use Rattle.cmap_encode.proofs.ways.has_way.Goals as goal

pub returns-in-None : goal.returns-in-None
returns-in-None c = λ choices text are. (λ _. ends_nothing choices text c.args.left (omega (arith, c.in-None.ensures)), λ _. refl)

pub returns-in-Some : goal.returns-in-Some
returns-in-Some c = λ choices text are.
    let last = c.in-Some.last in
    let same : last + 1 ≡ c.args.left = omega (arith, c.in-Some.ensures) in
    let lt : last < length c.args.ways.now = omega (arith, c.in-Some.ensures, c.requires) in
    let is = way_at c.args.ways.now last None (get_or c.args.ways.now last None) (IsWayOf choices (last_of (last + 1) text)) lt refl (are.each last lt) in
    let both = ends_way choices (last_of (last + 1) text) (get_or c.args.ways.now last None) is in
    rw c.is_some.ensures (subst (λ n. IsTrue (is_some (get_or c.args.ways.now last None)) ↔ IsEncodable choices (last_of n text)) same both)
