use Rattle.cmap_c.proofs.LoadersAsked.{gives_asked, made_by}
use Rattle.cmap_c.proofs.finish.hayro_cmap_finish.Goals as goal

pub returns-in-Ok-Some-clause-loads : goal.returns-in-Ok-Some-clause-loads
returns-in-Ok-Some-clause-loads c =
    λ done. gives_asked _ c.in-Ok-Some.held.value _ (rw c.in-Ok-Some.field-0-is at c.in-Ok-Some.ensures.taken) (made_by c.in-Ok-Some.held.value _ c.finished-read.result _ _ _ _ _ _ c.tell.result c.keep_read.result _ c.finished-read.ensures c.tell.ensures c.keep_read.ensures done)
