use Rattle.std.proofs.Common.{◌<◌, ◌^◌, ◌≡◌, ◌∙◌, ◌++◌, ◌∷◌, [], All, ap, arith, get_or, sym, take}
use Rattle.std.proofs.lemmas.List.Elements.{All-more, All-nil, All-same}
use Rattle.std.proofs.lemmas.List.{take_all, take_more}
use Rattle.std.proofs.lemmas.Result.{IfOk-from_err, IfOk-weaker}
use Rattle.cmap_values.specs.declared.declarations.CidRange.{CidRange}
use Rattle.cmap_binary_writer.proofs.decided.table_of.Goals as goal

pub loop-entry-preserved : goal.loop-entry-preserved
loop-entry-preserved c =
    let list = c.args.list.now in
    let i = c.loop-entry.entry-index in
    let d : CidRange = record { range = record { start = 0; end = 0 }; cid = 0 } in
    let inv = c.loop-entry.invariant in
    let g = get_or list i d in
    let whole : c.last_code-end.result ≡ g.range.end = c.last_code-end.ensures.is in
    record {
      same = c.in_ok-push.ensures.items ∙ ap (λ n. c.loop-entry.copy.items ++ record { range = record { start = g.range.start; end = n }; cid = g.cid } ∷ []) whole ∙ ap (λ xs. xs ++ g ∷ []) inv.same ∙ sym (take_more list i d (omega arith));
      small = All-more (λ (r : CidRange). r.range.end < 2 ^ 32) list i d (omega arith) inv.small (omega (arith, whole, c.last_code-end.ensures.small));
    }

pub loop-entry-init : goal.loop-entry-init
loop-entry-init c = record { same = c.in_ok-copy.ensures.items; small = All-nil (λ (r : CidRange). r.range.end < 2 ^ 32) }

pub returns : goal.returns
returns c =
    let list = c.args.list.now in
    let i = c.loop-entry.entry-index in
    let inv = c.loop-entry.invariant in
    IfOk-weaker c.build.result _ (λ table. (table ≡ list) × All (λ (r : CidRange). r.range.end < 2 ^ 32) table) (λ table is. (is ∙ inv.same ∙ take_all i list c.loop-entry-test.false, All-same (λ (r : CidRange). r.range.end < 2 ^ 32) table (take i list) (is ∙ inv.same) inv.small)) c.build.ensures

pub returns-in_err-push : goal.returns-in_err-push
returns-in_err-push c = IfOk-from_err _ _ c.from_residual-in_err-push.ensures.0

pub returns-in_err-copy : goal.returns-in_err-copy
returns-in_err-copy c = IfOk-from_err _ _ c.from_residual.ensures.0
