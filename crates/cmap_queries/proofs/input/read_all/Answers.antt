use Rattle.std.proofs.Common.{◌<◌, arith, length, take, sym, ap, ◌∙◌, subst}
use Rattle.std.specs.Io.KnownBytes.{Consumes, ReadConsumes}
use Rattle.std.proofs.KnownBytes.{Consumes-nil}
use Rattle.cmap_queries.proofs.InputPieces.{overwritten, Consumes-piece, Consumes-nothing, Consumes-end}
use Rattle.cmap_queries.proofs.input.read_all.Goals as goal
use Rattle.cmap_queries.proofs.input.read_all.Goals.{in-Ok+in_ok-extend_from_slice-in-Ok, in-Err}

pub loop-init : goal.loop-init
loop-init g c = (c.in_ok-piece.ensures.len, subst (Consumes _ _) (sym c.in_ok-bytes.ensures.items) (Consumes-nil _))

pub returns-in-Ok-eq0 : goal.returns-in-Ok-eq0
returns-in-Ok-eq0 g c =
    let read = subst (λ r. ReadConsumes (g.R.Read.remaining c.loop.input) (g.R.Read.remaining c.read.new.self) r c.read.new.buf) c.in-Ok-eq0.is c.read.ensures.bytes in
    let len = c.read.auto.buf ∙ c.deref_mut.ensures.len ∙ c.loop.invariant.0 in
    let room : 0 < length c.read.new.buf = omega arith in
    let none = c.in-Ok-eq0.field-0-test in
    Consumes-end _ _ _ _ _ c.loop.invariant.1 read.0 (ap (λ n. take n c.read.new.buf) none) (read.1 none room)

pub loop-preserved : goal.loop-preserved
loop-preserved g c = elim c.match-read.branch [
  | in-Ok+in_ok-extend_from_slice-in-Ok w ↦
      let held = overwritten _ _ _ _ (c.read.auto.buf ∙ c.deref_mut.ensures.len) w.deref.ensures.value in
      let items = w.in_ok-extend_from_slice-in-Ok.ensures.items in
      let grown = rw held at items in
      (c.loop.invariant.0, Consumes-piece _ _ _ _ _ _ c.loop.invariant.1 w.in-Ok.ensures.bytes.0 (ap (λ v. v.items) w.bytes-is ∙ grown))
  | in-Err w ↦
      (c.loop.invariant.0, Consumes-nothing _ _ _ _ _ c.loop.invariant.1 w.in-Err.ensures.bytes (ap (λ v. v.items) w.bytes-is))
]
