use Rattle.std.proofs.Common.{ap, refl, sym}
use Rattle.std.proofs.lemmas.Result.{IfOk-from_err}
use Rattle.std.specs.Option.{option_copied}
use Rattle.cmap_text.proofs.Refusals.{memory_only}
use Rattle.cmap_text.proofs.TokenParsers.{err-ok}
use Rattle.cmap_text.proofs.items.add_use.Goals as goal

pub returns-in_default : goal.returns-in_default
returns-in_default c = record {
  added = tt;
  refused = rw c.wrong.ensures (ap option_copied c.in_default.is, refl);
  stays = λ wrong is. refl;
}

pub returns-in_err-push : goal.returns-in_err-push
returns-in_err-push c = record {
  added = IfOk-from_err c.from_residual.result _ c.from_residual.ensures.0;
  refused = memory_only c.from_residual.result _ c.from_residual.ensures.1;
  stays = λ wrong is. c.in_err-push.ensures.items;
}

pub returns : goal.returns
returns c = record {
  added = (c.in-Some.name, c.in-Some.is, c.in_ok-push.ensures.items);
  refused = tt;
  stays = λ wrong is. absurd (err-ok _ _ (sym is));
}
