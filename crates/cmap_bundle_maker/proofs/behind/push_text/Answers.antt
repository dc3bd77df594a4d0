use Rattle.std.proofs.Common.{length, ap, subst, arith}
use Rattle.cmap_binary_writer.specs.Written.{Appends, IsFramed}
use Rattle.cmap_binary_writer.proofs.ObstaclesMet.{long_on}
use Rattle.cmap_bundle_maker.proofs.TextsBehind.{behind, text_head}
use Rattle.cmap_bundle_maker.proofs.behind.push_text.Goals as goal

pub returns-clause-written : goal.returns-clause-written
returns-clause-written c =
    let payload = c.in_ok-payload.payload.items in
    let (spaces, is, blank, ends) = c.in_ok-payload.ensures.written in
    let framed = subst (λ p. Appends c.args.out.now.items c.push_framed.new.out.items (IsFramed text_head p)) c.deref.ensures.value c.in_ok-push_framed.ensures.written in
    behind c.args.text.now spaces payload c.args.out.now.items c.push_framed.new.out.items is blank ends framed

pub returns-in_err-payload-clause-err : goal.returns-in_err-payload-clause-err
returns-in_err-payload-clause-err c = long_on _ _ _ _ c.from_residual.ensures.1 c.in_err-payload.ensures.err (λ long. long)

pub returns-in_err-push_framed-clause-err : goal.returns-in_err-push_framed-clause-err
returns-in_err-push_framed-clause-err c = long_on _ _ _ _ c.from_residual-in_err-push_framed.ensures.1 c.in_err-push_framed.ensures.err (λ long. omega (arith, long, c.in_ok-payload.ensures.len, ap length c.deref.ensures.value))
