use Rattle.std.proofs.Common.{◌≡◌, ◌≤◌, All, subst}
use Rattle.std.specs.Option.{option_copied}
use Rattle.cmap_runs.specs.Stretches.{IsStretch}
use Rattle.cmap_encode.specs.CodeRuns.{run_span}
use Rattle.cmap_encode.specs.KeyCodesSeen.{IsCodeRun}
use Rattle.cmap_encode.proofs.KeyCodesFound.{key_stretch}
use Rattle.cmap_encode.proofs.key_codes.KeyCodes.stretch.Goals as goal

pub returns-in-Some : goal.returns-in-Some
returns-in-Some c =
    let first = c.args.first in let last = c.in-Some.stretch.last in let run = option_copied c.in-Some.stretch.declaration in
    let le : first ≤ last = subst (λ n. n ≤ last) c.stretches.ensures.next c.in-Some.ensures.within.0 in
    let runs : c.stretches.result.declarations ≡ c.args.self.now = cc (c.stretches.ensures.declarations, c.self.view_is) in
    let same : IsStretch run_span c.args.self.now first last run =
    subst (λ n. IsStretch run_span c.args.self.now n last run) c.stretches.ensures.next
    (subst (λ l. IsStretch run_span l c.stretches.result.next last run) runs c.in-Some.ensures.same) in
    key_stretch c.args.self.now first last le run c.code_of.result (subst (All IsCodeRun) c.self.view_is c.self.invariant) same c.code_of.ensures
