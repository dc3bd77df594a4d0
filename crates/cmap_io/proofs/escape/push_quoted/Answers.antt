use Rattle.cmap_io.proofs.AddsShown.{shows_both, shows_mark}
use Rattle.cmap_io.proofs.escape.push_quoted.Goals as goal

pub returns-in_err-push_text-clause-harmless : goal.returns-in_err-push_text-clause-harmless
returns-in_err-push_text-clause-harmless c = shows_both _ _ _ (shows_mark _ _ _ c.push.ensures.bytes) c.push_text.ensures.harmless

pub returns-clause-harmless : goal.returns-clause-harmless
returns-clause-harmless c =
    shows_both _ _ _
    (shows_both _ _ _ (shows_mark _ _ _ c.push.ensures.bytes) c.push_text.ensures.harmless)
    (shows_mark _ _ _ c.push-2.ensures.bytes)
