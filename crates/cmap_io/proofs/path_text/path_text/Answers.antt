use Rattle.std.proofs.lemmas.Result.{IfOk-weaker}
use Rattle.cmap_io.proofs.PathsTaken.{is_marked, no_plain_path}
use Rattle.cmap_io.proofs.path_text.path_text.Goals.{in_default-via-in-Ok+else-is_plain, in_default-via-in_default}
use Rattle.cmap_io.proofs.path_text.path_text.Goals as goal

pub returns-in_default : goal.returns-in_default
returns-in_default c = IfOk-weaker c.marked_text.result _ _
    (λ text is. is_marked c.args.path.now _ (elim c.in_default.branch [
      | in_default-via-in-Ok+else-is_plain w ↦ no_plain_path c.args.path.now _ _ w.in-Ok.ensures.cases.0 w.is_plain.ensures w.if-is_plain.false
      | in_default-via-in_default w ↦ λ both. w.in_default.ensures.cases.0 both.0
    ]) is)
    c.marked_text.ensures
