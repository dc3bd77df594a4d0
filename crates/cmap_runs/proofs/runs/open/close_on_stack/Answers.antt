use Rattle.std.proofs.Common.{◌≡◌, ◌++◌, ◌∷◌, ◌-◌, get_or, length, refl, sym, ap, ◌∙◌, subst, arith}
use Rattle.std.specs.Prelude.{Some, slice_get}
use Rattle.std.specs.List.Sorted.{IsPermutation}
use Rattle.std.specs.Option.{option_to_list}
use Rattle.std.specs.Vec.{vec_len}
use Rattle.std.proofs.lemmas.List.Sorted.{IsPermutation-to_front}
use Rattle.std.proofs.lemmas.Option.{get_or_from_slice_get, slice_get_within}
use Rattle.cmap_runs.specs.OpenRanges.{Ascend, Closes}
use Rattle.cmap_runs.proofs.OpenEnds.{Ascend-front, Ascend-top}
use Rattle.cmap_runs.proofs.runs.open.close_on_stack.Goals as goal

pub returns-then-from-to : goal.returns-then-from-to
returns-then-from-to c =
    let range = c.in_ok-range.field-0.now in let stack = c.args.stack.now.items in let left = c.pop.new.self.items in
    let is : slice_get stack (length stack - 1) ≡ Some range = subst (λ xs. slice_get xs (length xs - 1) ≡ Some range) c.deref.ensures.value (sym c.in_ok-range.ensures.value) in
    let some = slice_get_within stack (length stack - 1) range is in
    let len : vec_len c.args.stack.now ≡ length stack = omega (arith, c.args.stack.now.ok.0) in
    let taken : c.pop.result ≡ Some range =
    c.pop.ensures.value range (omega (arith, some, len)) ∙ ap (λ n. Some (get_or stack (n - 1) range)) len ∙ ap Some (get_or_from_slice_get stack (length stack - 1) range range is)
    in
    let closes : Closes stack left c.args.to range = record {
      top = Ascend-top stack range c.requires is;
      stays = λ le. absurd (omega (arith, le, c.if-from-to.true, c.from.ensures));
      closed = λ _. subst (λ xs. IsPermutation xs (range ∷ left)) (sym (c.pop.ensures.items ∙ ap (λ popped. left ++ option_to_list popped) taken)) (IsPermutation-to_front left range);
    } in
    record { closes = closes; stack = Ascend-front left (option_to_list c.pop.result) (subst Ascend c.pop.ensures.items c.requires) }

pub returns-else-from-to : goal.returns-else-from-to
returns-else-from-to c =
    let range = c.in_ok-range.field-0.now in let stack = c.args.stack.now.items in
    let is : slice_get stack (length stack - 1) ≡ Some range = subst (λ xs. slice_get xs (length xs - 1) ≡ Some range) c.deref.ensures.value (sym c.in_ok-range.ensures.value) in
    let closes : Closes stack stack c.args.to range = record {
      top = Ascend-top stack range c.requires is;
      stays = λ _. refl;
      closed = λ less. absurd (omega (arith, less, c.if-from-to.false, c.from.ensures));
    } in
    record { closes = closes; stack = c.requires }
