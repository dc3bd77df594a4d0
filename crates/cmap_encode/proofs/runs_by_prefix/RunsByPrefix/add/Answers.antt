use Rattle.std.proofs.Common.{◌≡◌, ◌<◌, ◌++◌, ◌∷◌, [], Some, length, sym, ap, subst, ◌∙◌}
use Rattle.std.specs.Prelude.{All, if◌then◌else◌}
use Rattle.std.specs.Global.{Vec}
use Rattle.std.specs.Str.{bytes_eq}
use Rattle.std.proofs.Math.ListN.{length-set, set}
use Rattle.std.proofs.lemmas.List.Elements.{All-get_or, All-push, All-set}
use Rattle.std.proofs.lemmas.Option.{slice_get-get_or}
use Rattle.cmap_encode.specs.KeyCodesSeen.{IsCodeRun}
use Rattle.cmap_encode.specs.RunsSeen.{number_of}
use Rattle.cmap_encode.specs.declared.key_codes.CodeRun.{CodeRun}
use Rattle.cmap_encode.proofs.RunsNumbered.{run_added}
use Rattle.cmap_encode.proofs.runs_by_prefix.RunsByPrefix.add.Goals as goal

pub returns-clause-are : goal.returns-clause-are
returns-clause-are c =
    let all = c.number.new.self in
    let is = c.in_ok-number.ensures.are in
    let old = all.lists.items in
    let AreRuns = λ (list : Vec CodeRun). All IsCodeRun list.items in
    let number = c.in_ok-number.number in
    let list = c.index_mut.result.now in
    let within = is.within c.args.prefix.now number c.in_ok-number.ensures.number in
    let count : length (set old number c.push.new.self) ≡ length old = length-set old number c.push.new.self in
    let were = subst AreRuns (sym c.index_mut.ensures.value) (All-get_or AreRuns old number list within is.runs) in
    let added : AreRuns c.push.new.self = subst (All IsCodeRun) (sym c.in_ok-push.ensures.items) (All-push IsCodeRun list.items c.args.run were c.requires.run) in
    record {
      within = λ prefix other has. subst (λ n. other < n) (sym count) (is.within prefix other has);
      apart = is.apart;
      inside = λ node character next leads. subst (λ n. node < n) (sym count) (is.inside node character next leads);
      runs = All-set AreRuns old number c.push.new.self added is.runs;
    }

pub returns-clause-runs : goal.returns-clause-runs
returns-clause-runs c = λ other.
    let all = c.number.new.self in
    let is = c.in_ok-number.ensures in
    let list = c.index_mut.result.now in
    let at = slice_get-get_or all.lists.items c.in_ok-number.number list (is.are.within c.args.prefix.now c.in_ok-number.number is.number) ∙ ap Some (sym c.index_mut.ensures.value) in
    run_added (λ prefix. number_of all prefix) all.lists.items is.are.within is.are.apart c.args.prefix.now c.in_ok-number.number c.push.new.self c.args.run list is.number at c.in_ok-push.ensures.items other
    ∙ ap (λ runs. if bytes_eq other c.args.prefix.now then runs ++ c.args.run ∷ [] else runs) (is.runs other)
