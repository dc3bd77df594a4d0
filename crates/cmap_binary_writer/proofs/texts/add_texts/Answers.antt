use Rattle.std.proofs.Common.{◌∙◌, ◌++◌, ◌≡◌, List, [], length, drop, map, refl, ap, sym, subst}
use Rattle.std.specs.List.{All}
use Rattle.std.proofs.lemmas.Bool.{eqb-true}
use Rattle.std.proofs.lemmas.List.{map-append, nil_from_length, take-append-drop}
use Rattle.std.proofs.lemmas.Result.{IfOk-from_err}
use Rattle.cmap_values.specs.DeclarationsSeen.{bf_entry_seen}
use Rattle.cmap_values.specs.Files.{Declaration}
use Rattle.cmap_values.specs.declared.declarations.BfRange.{BfRange}
use Rattle.cmap_binary_writer.specs.Arranged.{AreEnded, AreInOne, bf_type, text_type}
use Rattle.cmap_binary_writer.specs.EncodersSeen.{shape_seen}
use Rattle.cmap_binary_writer.specs.Pieces.{IsShortText}
use Rattle.cmap_binary_writer.specs.Texts.{AreHeldTexts}
use Rattle.cmap_binary_writer.proofs.Arranged.{FullTo, full_all, full_more, full_none}
use Rattle.cmap_binary_writer.proofs.ArrangedTexts.{taken_texts_in_one}
use Rattle.cmap_binary_writer.proofs.SegmentsAdded.{AddedTo, added_all, added_more, added_none}
use Rattle.cmap_binary_writer.proofs.TextsMade.{short_back}
use Rattle.cmap_binary_writer.proofs.texts.add_texts.Goals as goal

pub loop-left-preserved : goal.loop-left-preserved
loop-left-preserved c =
    let left = c.loop-left.left.now in
    let here = c.split_at.result.0.now in
    let later = c.split_at.result.1.now in
    let count = c.segment_len.result in
    let say : List BfRange → List Declaration = λ xs. map Declaration.bf (map bf_entry_seen xs) in
    let both : (a b : List BfRange) → say (a ++ b) ≡ say a ++ say b = λ a b. ap (map Declaration.bf) (map-append bf_entry_seen a b) ∙ map-append Declaration.bf (map bf_entry_seen a) (map bf_entry_seen b) in
    let front = sym c.split_at.ensures.front in
    let form = c.first_form-form.result in
    let one : AreInOne (say here) = subst (λ xs. AreInOne (say xs)) front (taken_texts_in_one (shape_seen form.shape) form.units (text_type (shape_seen form.shape) form.units) count left c.segment_len.ensures.some c.segment_len.ensures.within c.segment_len.ensures.held c.segment_len.ensures.typed) in
    let ended : AreEnded (say here) (say later) = subst (AreEnded (say here)) (ap say (sym c.split_at.ensures.back)) (subst (λ xs. AreEnded (say xs) (say (drop count left))) front c.segment_len.ensures.ended) in
    let cut : left ≡ here ++ later = sym (take-append-drop count left) ∙ ap (λ xs. xs ++ drop count left) (sym c.split_at.ensures.front) ∙ ap (λ xs. here ++ xs) (sym c.split_at.ensures.back) in
    record {
      short = subst (λ xs. All IsShortText (map bf_entry_seen xs)) (sym c.split_at.ensures.back) (short_back count left c.loop-left.invariant.short);
      done = added_more say both c.args.pieces.now left here later c.args.segments.now.items c.loop-left.segments.items c.push.new.self.items c.in_ok-text_segment.field-0 c.loop-left.invariant.done cut c.in_ok-push.ensures.items c.in_ok-text_segment.ensures.says;
      full = full_more say both c.args.pieces.now left here later c.args.segments.now.items c.loop-left.segments.items c.push.new.self.items c.in_ok-text_segment.field-0 c.loop-left.invariant.full cut c.in_ok-push.ensures.items c.in_ok-text_segment.ensures.holds one c.in_ok-text_segment.ensures.says.few ended;
    }

pub loop-left-init : goal.loop-left-init
loop-left-init c = record { short = c.requires; done = added_none (λ xs. map Declaration.bf (map bf_entry_seen xs)) refl c.args.pieces.now c.args.segments.now.items; full = full_none (λ xs. map Declaration.bf (map bf_entry_seen xs)) refl c.args.pieces.now c.args.segments.now.items }

pub segment_len-requires-clause-fixes : goal.segment_len-requires-clause-fixes
segment_len-requires-clause-fixes c = c.first_form-form.ensures.fixes

pub segment_len-requires-clause-first : goal.segment_len-requires-clause-first
segment_len-requires-clause-first c = c.first_form-form.ensures.first

pub segment_len-requires-clause-short : goal.segment_len-requires-clause-short
segment_len-requires-clause-short c = c.loop-left.invariant.short

pub split_at-requires : goal.split_at-requires
split_at-requires c = c.segment_len.ensures.within

pub text_segment-requires-clause-fixes : goal.text_segment-requires-clause-fixes
text_segment-requires-clause-fixes c = c.first_form-form.ensures.fixes

pub text_segment-requires-clause-held : goal.text_segment-requires-clause-held
text_segment-requires-clause-held c = subst (AreHeldTexts (shape_seen c.first_form-form.result.shape) c.first_form-form.result.units) (sym c.split_at.ensures.front) c.segment_len.ensures.held

pub text_segment-requires-clause-typed : goal.text_segment-requires-clause-typed
text_segment-requires-clause-typed c = let form = c.first_form-form.result in subst (λ xs. All (λ e. bf_type e ≡ text_type (shape_seen form.shape) form.units) (map bf_entry_seen xs)) (sym c.split_at.ensures.front) c.segment_len.ensures.typed

pub segment_len-requires-clause-typed : goal.segment_len-requires-clause-typed
segment_len-requires-clause-typed c = c.first_form-form.ensures.typed

pub returns-clause-added : goal.returns-clause-added
returns-clause-added c =
    let say : List BfRange → List Declaration = λ xs. map Declaration.bf (map bf_entry_seen xs) in
    let none : c.loop-left.left.now ≡ [] = nil_from_length c.loop-left.left.now (eqb-true (length c.loop-left.left.now) 0 (sym c.loop-left-test.ensures)) in
    added_all say c.args.pieces.now c.args.segments.now.items c.loop-left.segments.items (subst (λ left. AddedTo say c.args.pieces.now left c.args.segments.now.items c.loop-left.segments.items) none c.loop-left.invariant.done)

pub returns-clause-full : goal.returns-clause-full
returns-clause-full c =
    let say : List BfRange → List Declaration = λ xs. map Declaration.bf (map bf_entry_seen xs) in
    let none : c.loop-left.left.now ≡ [] = nil_from_length c.loop-left.left.now (eqb-true (length c.loop-left.left.now) 0 (sym c.loop-left-test.ensures)) in
    full_all say refl c.args.pieces.now c.args.segments.now.items c.loop-left.segments.items (subst (λ left. FullTo say c.args.pieces.now left c.args.segments.now.items c.loop-left.segments.items) none c.loop-left.invariant.full)

pub returns-in_err-text_segment-clause-added : goal.returns-in_err-text_segment-clause-added
returns-in_err-text_segment-clause-added c = IfOk-from_err _ _ c.from_residual.ensures.0

pub returns-in_err-text_segment-clause-full : goal.returns-in_err-text_segment-clause-full
returns-in_err-text_segment-clause-full c = IfOk-from_err _ _ c.from_residual.ensures.0

pub returns-in_err-push-clause-added : goal.returns-in_err-push-clause-added
returns-in_err-push-clause-added c = IfOk-from_err _ _ c.from_residual-in_err-push.ensures.0

pub returns-in_err-push-clause-full : goal.returns-in_err-push-clause-full
returns-in_err-push-clause-full c = IfOk-from_err _ _ c.from_residual-in_err-push.ensures.0
