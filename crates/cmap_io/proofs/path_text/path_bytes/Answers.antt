use Rattle.cmap_io.proofs.PathsTaken.{all_taken, none_taken, one_taken}
use Rattle.cmap_io.proofs.path_text.path_bytes.Goals as goal

pub loop-byte-init : goal.loop-byte-init
loop-byte-init c = λ bytes are text. none_taken _ _ _ bytes c.new-path.ensures.items c.as_bytes-rest.ensures.value are text

pub loop-byte-preserved : goal.loop-byte-preserved
loop-byte-preserved c = λ bytes are text.
    one_taken _ _ _ _ bytes _ c.in-Some.ensures.takes c.in_ok-push.ensures.items (c.loop-byte.invariant bytes are text)

pub returns : goal.returns
returns c = λ bytes are text. all_taken _ _ _ bytes c.in_default.ensures.takes (c.loop-byte.invariant bytes are text)
