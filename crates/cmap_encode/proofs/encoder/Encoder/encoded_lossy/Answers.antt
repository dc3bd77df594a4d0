use Rattle.std.proofs.Common.{◌≡◌, [], ◌∷◌, ◌++◌, sym, ◌∙◌, subst}
use Rattle.std.specs.Str.{chars}
use Rattle.cmap_encode.specs.ChoicesSeen.{choices_of}
use Rattle.cmap_encode.specs.Prefixes.{IsLongestAdded}
use Rattle.cmap_encode.proofs.LossyShown.{IsBegun, IsUpTo, begun, up_to_left}
use Rattle.cmap_encode.proofs.encoder.Encoder.encoded_lossy.Goals as goal

pub loop-after-init : goal.loop-after-init
loop-after-init c =
    let choices = choices_of c.args.self.now.choices in
    let text = chars c.args.text.now in let left = c.in_ok-left.left.now in let new = c.push_longest.new.string.items in
    let same = c.deref.ensures.value ∙ c.in_ok-characters.ensures in
    let added = subst (λ t. IsLongestAdded choices t left [] new) same (subst (λ s. IsLongestAdded choices c.deref.result.now left s new) c.new-string.ensures.items c.in_ok-left.ensures.longest) in
    up_to_left choices c.args.missing.now text [] text new left (begun choices c.args.missing.now text) added

pub loop-after-preserved : goal.loop-after-preserved
loop-after-preserved c =
    let choices = choices_of c.args.self.now.choices in
    let text = chars c.args.text.now in let missing = c.args.missing.now in
    let string = c.loop-after.string.items in let after = c.in-Some.after.now in
    let rest : c.loop-after.left.now ≡ c.in-Some.field-0-0.now ∷ after = c.in-Some.ensures.cases.0 in
    let before : IsBegun choices missing text (string ++ missing) after = subst (IsUpTo choices missing text string) rest c.loop-after.invariant in
    let more : IsBegun choices missing text c.extend_from_slice.new.self.items after = subst (λ s. IsBegun choices missing text s after) (sym c.in_ok-extend_from_slice.ensures.items) before in
    up_to_left choices missing text c.extend_from_slice.new.self.items after c.push_longest-in-Some.new.string.items c.in_ok-left-2.left.now more c.in_ok-left-2.ensures.longest
