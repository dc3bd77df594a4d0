use Rattle.std.proofs.Common.{ℕ, ◌≡◌, ◌+◌, ◌≤◌, ◌-◌, ◌<◌, ◌∷◌, [], ◌∙◌, ap, length, get_or, refl, sym, subst, arith, Some, set, All}
use Rattle.std.specs.List.{slice_get, sum_by}
use Rattle.std.proofs.lemmas.List.Sums.{sum_by_push}
use Rattle.std.proofs.lemmas.List.{map-append}
use Rattle.std.proofs.lemmas.List.Elements.{All-push}
use Rattle.std.proofs.lemmas.Option.{slice_get_read}
use Rattle.std.proofs.lemmas.Result.{IfOk-from_err}
use Rattle.cmap_values.specs.DeclarationsSeen.{cid_entry_seen, cid_range_span, entries_seen}
use Rattle.cmap_values.specs.declared.declarations.CidRange.{CidRange}
use Rattle.cmap_layers.specs.Lookups.{cid_at, cid_span}
use Rattle.cmap_binary_writer.specs.Arranged.{KeepsWhole}
use Rattle.cmap_binary_writer.specs.Follows.{GoesOn}
use Rattle.cmap_binary_writer.specs.Pieces.{CanBeSplit, Takes}
use Rattle.cmap_binary_writer.specs.Weights.{cids_weight, span_weight}
use Rattle.cmap_binary_writer.proofs.CidParts.{last_filled, longer, longer_can, longer_takes, longer_whole, pushed_whole, takes_pushed}
use Rattle.cmap_binary_writer.proofs.Weighed.{longer_weight}
use Rattle.cmap_binary_writer.proofs.decided.push_joined.Goals as goal

pub returns-then-is_continued-clause-all : goal.returns-then-is_continued-clause-all
returns-then-is_continued-clause-all c =
    let xs = c.args.ranges.now.items in
    let last : CidRange = c.index_mut.result.now in
    let here = c.deref.ensures.value in
    let some : 0 < length xs = subst (λ xs. 0 < length xs) here (c.is_continued.ensures.some c.if-is_continued.true) in
    let n : c.len-last.result - 1 ≡ length xs - 1 = omega arith in
    let at : slice_get xs (length xs - 1) ≡ Some last = slice_get_read xs (length xs) (length xs - 1) last refl (omega (arith, some)) (subst (λ k. last ≡ get_or xs k last) n c.index_mut.ensures.value) in
    subst (λ k. All CanBeSplit (entries_seen (set xs k (longer last c.args.range)))) (sym n) (longer_can xs c.args.range last some at c.requires.all c.requires.one (subst (λ ys. (d : CidRange) → GoesOn (get_or ys (length ys - 1) d) c.args.range) here (c.is_continued.ensures.answer c.if-is_continued.true)))

pub returns-then-is_continued-clause-taken : goal.returns-then-is_continued-clause-taken
returns-then-is_continued-clause-taken c =
    let xs = c.args.ranges.now.items in
    let last : CidRange = c.index_mut.result.now in
    let here = c.deref.ensures.value in
    let some : 0 < length xs = subst (λ xs. 0 < length xs) here (c.is_continued.ensures.some c.if-is_continued.true) in
    let n : c.len-last.result - 1 ≡ length xs - 1 = omega arith in
    let at : slice_get xs (length xs - 1) ≡ Some last = slice_get_read xs (length xs) (length xs - 1) last refl (omega (arith, some)) (subst (λ k. last ≡ get_or xs k last) n c.index_mut.ensures.value) in
    subst (λ k. Takes cid_span cid_at (entries_seen xs) (entries_seen (set xs k (longer last c.args.range))) (cid_entry_seen c.args.range)) (sym n) (longer_takes xs c.args.range last some at c.requires.all c.requires.one (subst (λ ys. (d : CidRange) → GoesOn (get_or ys (length ys - 1) d) c.args.range) here (c.is_continued.ensures.answer c.if-is_continued.true)))

pub is_continued-requires : goal.is_continued-requires
is_continued-requires c = subst (λ xs. All CanBeSplit (entries_seen xs)) (sym c.deref.ensures.value) c.requires.all

pub returns-clause-all : goal.returns-clause-all
returns-clause-all c =
    let xs = c.args.ranges.now.items in
    subst (All CanBeSplit) (sym (ap entries_seen c.in_ok-push.ensures.items ∙ map-append cid_entry_seen xs (c.args.range ∷ []))) (All-push CanBeSplit (entries_seen xs) (cid_entry_seen c.args.range) c.requires.all c.requires.one)

pub returns-clause-taken : goal.returns-clause-taken
returns-clause-taken c =
    let xs = c.args.ranges.now.items in
    takes_pushed (entries_seen xs) (entries_seen c.push.new.self.items) (cid_entry_seen c.args.range) (ap entries_seen c.in_ok-push.ensures.items ∙ map-append cid_entry_seen xs (c.args.range ∷ []))

pub returns-in_err-push-clause-all : goal.returns-in_err-push-clause-all
returns-in_err-push-clause-all c = IfOk-from_err _ _ c.from_residual.ensures.0

pub returns-in_err-push-clause-taken : goal.returns-in_err-push-clause-taken
returns-in_err-push-clause-taken c = IfOk-from_err _ _ c.from_residual.ensures.0

pub returns-then-is_continued-clause-few : goal.returns-then-is_continued-clause-few
returns-then-is_continued-clause-few c =
    let xs = c.args.ranges.now.items in
    let last : CidRange = c.index_mut.result.now in
    let here = c.deref.ensures.value in
    let some : 0 < length xs = subst (λ xs. 0 < length xs) here (c.is_continued.ensures.some c.if-is_continued.true) in
    let n : c.len-last.result - 1 ≡ length xs - 1 = omega arith in
    let at : slice_get xs (length xs - 1) ≡ Some last = slice_get_read xs (length xs) (length xs - 1) last refl (omega (arith, some)) (subst (λ k. last ≡ get_or xs k last) n c.index_mut.ensures.value) in
    let goes = subst (λ ys. (d : CidRange) → GoesOn (get_or ys (length ys - 1) d) c.args.range) here (c.is_continued.ensures.answer c.if-is_continued.true) in
    subst (λ k. cids_weight (set xs k (longer last c.args.range)) ≤ cids_weight xs + span_weight (cid_range_span c.args.range)) (sym n) (longer_weight xs c.args.range last some at (last_filled xs last c.requires.all at) c.requires.one.0 goes)

pub returns-clause-few : goal.returns-clause-few
returns-clause-few c =
    let weight : CidRange → ℕ = λ r. span_weight (cid_range_span r) in
    omega (arith, sum_by_push weight c.args.ranges.now.items c.args.range, ap (sum_by weight) c.in_ok-push.ensures.items)

pub returns-in_err-push-clause-few : goal.returns-in_err-push-clause-few
returns-in_err-push-clause-few c = IfOk-from_err _ _ c.from_residual.ensures.0

pub returns-then-is_continued-clause-whole : goal.returns-then-is_continued-clause-whole
returns-then-is_continued-clause-whole c =
    let xs = c.args.ranges.now.items in
    let last : CidRange = c.index_mut.result.now in
    let here = c.deref.ensures.value in
    let some : 0 < length xs = subst (λ xs. 0 < length xs) here (c.is_continued.ensures.some c.if-is_continued.true) in
    let n : c.len-last.result - 1 ≡ length xs - 1 = omega arith in
    let at : slice_get xs (length xs - 1) ≡ Some last = slice_get_read xs (length xs) (length xs - 1) last refl (omega (arith, some)) (subst (λ k. last ≡ get_or xs k last) n c.index_mut.ensures.value) in
    subst (λ k. KeepsWhole (entries_seen xs) (entries_seen (set xs k (longer last c.args.range))) (cid_entry_seen c.args.range)) (sym n) (longer_whole xs c.args.range last some at c.requires.all c.requires.one (subst (λ ys. (d : CidRange) → GoesOn (get_or ys (length ys - 1) d) c.args.range) here (c.is_continued.ensures.answer c.if-is_continued.true)))

pub returns-clause-whole : goal.returns-clause-whole
returns-clause-whole c =
    let xs = c.args.ranges.now.items in
    let apart = subst (λ ys. (d : CidRange) → 0 < length ys → GoesOn (get_or ys (length ys - 1) d) c.args.range → ⊥) c.deref.ensures.value (c.is_continued.ensures.no c.if-is_continued.false) in
    pushed_whole xs c.push.new.self.items c.args.range c.in_ok-push.ensures.items c.requires.one.0 apart
