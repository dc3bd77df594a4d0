use Rattle.std.proofs.Common.{refl}
use Rattle.std.proofs.lemmas.Bool.{false≢true}
use Rattle.std.proofs.lemmas.Option.{slice_get_past, slice_get_read}
use Rattle.cmap_codespaces.proofs.search.finds_at.Goals as goal

pub returns-in-Some : goal.returns-in-Some
returns-in-Some c =
    let at = c.in-Some.ensures.lookup.3 in
    rw (slice_get_read c.args.blocks.now _ c.args.index c.in-Some.rows.now refl at.0 (at.1 c.in-Some.rows.now)) (rw c.deref.ensures.value at c.finds.ensures)

pub returns-in-None : goal.returns-in-None
returns-in-None c = rw (slice_get_past c.args.blocks.now c.args.index c.in-None.ensures.lookup.3) (λ yes. absurd (false≢true yes), λ found. absurd found)
