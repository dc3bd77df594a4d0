use Rattle.std.proofs.Common.{◌≡◌, ◌+◌, ◌<◌, ℕ, List, [], ◌∷◌, ◌++◌, Some, None, refl, sym, ap, subst, ◌∙◌, length-append}
use Rattle.std.specs.Prelude.{All, if◌then◌else◌, length, option_and_then}
use Rattle.std.specs.Global.{Vec}
use Rattle.std.specs.Str.{bytes_eq}
use Rattle.std.proofs.lemmas.List.Elements.{All-nil, All-push, All-same}
use Rattle.std.proofs.lemmas.Slice.Eq.{bytes_eq-Decides}
use Rattle.cmap_encode.specs.KeyCodesSeen.{IsCodeRun}
use Rattle.cmap_encode.specs.RunsSeen.{number_of}
use Rattle.cmap_encode.specs.TreeSeen.{PutsStep, node_of, step_of}
use Rattle.cmap_encode.specs.declared.key_codes.CodeRun.{CodeRun}
use Rattle.cmap_encode.proofs.RunsNumbered.{more_apart, more_within, runs_at, same_runs}
use Rattle.cmap_encode.proofs.TreeNodes.{none_at, one_further, put_step, steps_inside}
use Rattle.cmap_encode.proofs.runs_by_prefix.RunsByPrefix.number_after.Goals as goal

pub returns-in-Some : goal.returns-in-Some
returns-in-Some c = λ prefix at. record {
  are = c.requires;
  number = one_further (step_of c.args.self.now.tree) (Some 0) prefix c.args.character ∙ ap (option_and_then (λ n. step_of c.args.self.now.tree n c.args.character)) at ∙ sym c.step.ensures ∙ c.in-Some.is;
  runs = λ other. refl;
}

pub returns : goal.returns
returns c = λ prefix at.
    let old = c.args.self.now in
    let are = c.requires in
    let lists = old.lists.items in
    let steps = step_of old.tree in
    let more = step_of c.put.new.self in
    let full = prefix ++ c.args.character ∷ [] in
    let numbers = λ (text : List ℕ). number_of old text in
    let new = λ (text : List ℕ). node_of c.put.new.self text in
    let count : c.len-next.result ≡ length lists = c.len-next.ensures ∙ old.lists.ok.0 in
    let none : steps c.args.node c.args.character ≡ None = sym c.step.ensures ∙ c.in_default.is in
    let puts = subst (λ n. PutsStep steps c.args.node c.args.character n more) count c.in_ok-put.ensures in
    let put : (text : List ℕ) → new text ≡ (if bytes_eq text full then Some (length lists) else numbers text) =
    put_step steps more (length lists) c.args.node c.args.character prefix are.inside are.apart at (are.within prefix c.args.node at) none puts in
    let none_before : numbers full ≡ None = none_at steps more (length lists) c.args.node c.args.character prefix are.inside are.apart at (are.within prefix c.args.node at) none puts in
    let grown : length c.push.new.self.items ≡ length lists + 1 = ap (λ (l : List (Vec CodeRun)). length l) c.in_ok-push.ensures.items ∙ length-append lists (c.new.result ∷ []) in
    let AreRuns = λ (list : Vec CodeRun). All IsCodeRun list.items in
    record {
      are = record {
        within = λ text number has. subst (λ n. number < n) (sym grown) (more_within numbers lists are.within are.apart new full none_before put text number has);
        apart = more_apart numbers lists are.within are.apart new full none_before put;
        inside = λ node character next leads. subst (λ n. node < n) (sym grown) (steps_inside steps more (length lists) c.args.node c.args.character prefix are.inside are.apart at (are.within prefix c.args.node at) none puts node character next leads);
        runs = All-same AreRuns c.push.new.self.items _ c.in_ok-push.ensures.items (All-push AreRuns lists c.new.result are.runs (subst (All IsCodeRun) (sym c.new.ensures.items) (All-nil IsCodeRun)));
      };
      number = put full ∙ ap (λ b. if b then Some (length lists) else numbers full) ((bytes_eq-Decides full full).1 refl) ∙ ap Some (sym count);
      runs = λ other. ap (λ all. runs_at numbers lists are.within are.apart new all other) c.in_ok-push.ensures.items
          ∙ same_runs numbers lists are.within are.apart new full none_before put c.new.result c.new.ensures.items other;
    }
