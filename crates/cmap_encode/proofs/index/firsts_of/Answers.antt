use Rattle.std.proofs.Common.{Option, List, [], ◌∷◌, sym, ap, subst, ◌++◌, ◌∙◌, append_assoc}
use Rattle.std.specs.Global.{Box, Vec}
use Rattle.std.specs.List.{AllZip}
use Rattle.cmap_encode.specs.IndexSeen.{AreFirstsOf}
use Rattle.cmap_encode.specs.declared.key_codes.CodeRun.{CodeRun}
use Rattle.cmap_encode.proofs.GatheredFound.{zip_push}
use Rattle.cmap_encode.proofs.index.firsts_of.Goals as goal

pub loop-runs-preserved : goal.loop-runs-preserved
loop-runs-preserved c =
    let Are = λ (list : Vec CodeRun) (found : Option (Box (List CodeRun))). AreFirstsOf list.items found in
    let done = c.loop-runs.yielded in let runs = c.in-Some.runs in
    record {
      lists = append_assoc done (runs ∷ []) c.next.new.self.rest.items ∙ ap (λ (l : List (Vec CodeRun)). done ++ l) (sym c.in-Some.ensures.steps.0) ∙ c.loop-runs.invariant.lists;
      firsts = subst (AllZip Are (done ++ runs ∷ [])) (sym c.in_ok-push.ensures.items) (zip_push Are done c.loop-runs.all.items runs _ c.loop-runs.invariant.firsts c.in_ok-first_codes.ensures);
    }
