use Rattle.std.proofs.Common.{sym, append-nil}
use Rattle.cmap_encode.proofs.choices.Choice.push_to.Goals as goal

pub returns-in-Some : goal.returns-in-Some
returns-in-Some c = rw c.in-Some.is c.push_to.ensures

pub returns-in-None : goal.returns-in-None
returns-in-None c = rw c.in-None.is (sym (append-nil c.args.string.now.items))
