use Rattle.std.proofs.Common.{◌≡◌, ◌∙◌, ◌≤◌, ◌^◌, ap, subst, take}
use Rattle.std.specs.List.{Any}
use Rattle.std.proofs.lemmas.Result.{IfOk-weaker}
use Rattle.cmap_binary_writer.proofs.PartsMade.{take_least}
use Rattle.cmap_binary_writer.proofs.TablesNarrowed.{made_of, many_words}
use Rattle.cmap_binary_writer.proofs.tables.encoder_of.Goals as goal

pub returns : goal.returns
returns c =
    let counts = c.parts.result.0.now in
    let cut : c.split_at.result.0.now ≡ take 32 counts = c.split_at.ensures.front ∙ ap (λ n. take n counts) c.min.ensures ∙ take_least 32 counts in
    let narrow : c.in-Some.counts.items ≡ c.split_at.result.0.now = rw c.in-Some.is at c.in_ok-counts.ensures in
    IfOk-weaker c.new.result _ _ (λ found is. made_of (λ e. e) found counts c.in-Some.counts.items c.parts.result.1.now c.args.table.now c.parts.ensures.words c.parts.ensures.lengths c.parts.ensures.symbols (narrow ∙ cut) is) c.new.ensures

pub returns-in_default : goal.returns-in_default
returns-in_default c =
    let counts = c.parts.result.0.now in
    let cut : c.split_at.result.0.now ≡ take 32 counts = c.split_at.ensures.front ∙ ap (λ n. take n counts) c.min.ensures ∙ take_least 32 counts in
    let many : Any (λ n. 2 ^ 16 ≤ n) c.split_at.result.0.now = rw c.in_default.is at c.in_ok-counts.ensures in
    many_words counts c.parts.result.1.now c.args.table.now c.parts.ensures.words c.parts.ensures.lengths c.parts.ensures.symbols (subst (Any (λ n. 2 ^ 16 ≤ n)) cut many)
