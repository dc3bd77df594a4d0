use Rattle.std.proofs.Common.{refl, sym}
use Rattle.cmap_text.proofs.Refusals.{passed_on}
use Rattle.cmap_text.proofs.TokenParsers.{err-ok}
use Rattle.cmap_text.proofs.items.read_value.Goals as goal

pub returns-in_err-value : goal.returns-in_err-value
returns-in_err-value c = record {
  reads = passed_on c.from_residual.result _ _ c.next_token.new.self _ _ c.from_residual.ensures.1 c.in_err-value.ensures.1 (λ e is. rw is refl);
  stays = λ wrong is. refl;
}

pub returns : goal.returns
returns c = record {
  reads = (rw (c.in_ok-value.ensures.0, c.set.ensures) refl, tt);
  stays = λ wrong is. absurd (err-ok _ _ (sym is));
}
