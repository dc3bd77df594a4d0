use Rattle.std.proofs.Common.{◌≡◌, ◌++◌, ◌∷◌, [], ℕ, List, Option, Some, None, length, refl, sym, ap, subst, ◌∙◌, arith}
use Rattle.std.specs.Prelude.{All, option_and_then, slice_get}
use Rattle.std.specs.Global.{Vec}
use Rattle.std.proofs.lemmas.List.Elements.{All-nil, All-push, All-same}
use Rattle.std.proofs.lemmas.Option.{none-some}
use Rattle.cmap_encode.specs.KeyCodesSeen.{IsCodeRun}
use Rattle.cmap_encode.specs.RunsSeen.{items_of}
use Rattle.cmap_encode.specs.TreeSeen.{node_after, step_of}
use Rattle.cmap_encode.specs.declared.key_codes.CodeRun.{CodeRun}
use Rattle.cmap_encode.proofs.TreeNodes.{only_empty}
use Rattle.cmap_encode.proofs.runs_by_prefix.RunsByPrefix.new.Goals as goal

pub returns-clause-are : goal.returns-clause-are
returns-clause-are c =
    let steps = step_of c.new-2.result in
    let only = λ (text : List ℕ) (n : ℕ). only_empty steps text n c.new-2.ensures in
    let items = subst (λ l. c.push.new.self.items ≡ l ++ c.new.result ∷ []) c.new-lists.ensures.items c.in_ok-push.ensures.items in
    let AreRuns = λ (list : Vec CodeRun). All IsCodeRun list.items in
    record {
      within = λ prefix number has. let zero_is = (only prefix number has).1 in omega (arith, ap (λ (l : List (Vec CodeRun)). length l) items);
      apart = λ prefix other number has also. (only prefix number has).0 ∙ sym (only other number also).0;
      inside = λ node character next leads. absurd (none-some next (sym (c.new-2.ensures node character) ∙ leads));
      runs = All-same AreRuns c.push.new.self.items _ items (All-push AreRuns [] c.new.result (All-nil AreRuns) (subst (All IsCodeRun) (sym c.new.ensures.items) (All-nil IsCodeRun)));
    }

pub returns-clause-none : goal.returns-clause-none
returns-clause-none c = λ prefix.
    let items = subst (λ l. c.push.new.self.items ≡ l ++ c.new.result ∷ []) c.new-lists.ensures.items c.in_ok-push.ensures.items in
    by (node_after (step_of c.new-2.result) (Some 0) prefix) prefix refl items
  where
    by : (found : Option ℕ) (prefix : List ℕ) → node_after (step_of c.new-2.result) (Some 0) prefix ≡ found → c.push.new.self.items ≡ c.new.result ∷ [] → items_of (option_and_then (slice_get c.push.new.self.items) found) ≡ []
    by None prefix has items = refl
    by (Some n) prefix has items =
        let at = (only_empty (step_of c.new-2.result) prefix n c.new-2.ensures has).1 in
        ap (λ k. items_of (slice_get c.push.new.self.items k)) at ∙ ap (λ (l : List (Vec CodeRun)). items_of (slice_get l 0)) items ∙ c.new.ensures.items
