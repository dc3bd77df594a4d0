use Rattle.std.proofs.Common.{◌≡◌, ◌+◌, ◌-◌, ◌∙◌, ap, false, get_or, length, true, refl, subst, sym, arith}
use Rattle.std.proofs.Math.Seq.{map-set_same}
use Rattle.cmap_bundle_maker.specs.Counted.{CountsNumber}
use Rattle.cmap_bundle_maker.specs.Seen.{frequencies_seen, frequency_seen}
use Rattle.cmap_bundle_maker.specs.declared.frequencies.Frequency.{Frequency}
use Rattle.cmap_bundle_maker.proofs.NumbersCounted.{counts_last, counts_new}
use Rattle.cmap_bundle_maker.proofs.frequencies.count_number.Goals as goal
use Rattle.cmap_bundle_maker.proofs.frequencies.count_number.Goals.{in-Some+else-last-number, in_default}

pub returns-then-last-number : goal.returns-then-last-number
returns-then-last-number c =
    let items = c.args.frequencies.now.items in
    let x = c.in-Some.last.now in
    let i = c.args.frequencies.now.len - 1 in
    let (within, last) = c.in-Some.ensures.item.3 in
    let end : i + 1 ≡ length items = omega (arith, within, c.args.frequencies.now.ok) in
    counts_last (λ (f : Frequency). f.number) (λ (f : Frequency). f.times) items i c.args.number x _ end (last x) c.if-last-number.true c.if-last-number.true refl

pub returns : goal.returns
returns c =
    let items = c.args.frequencies.now.items in
    let number = λ (f : Frequency). f.number in
    let times = λ (f : Frequency). f.times in
    let end : c.args.frequencies.now.len - 1 ≡ length items - 1 = omega (arith, c.args.frequencies.now.ok) in
    elim c.match-last_mut.branch [
      | in-Some+else-last-number w ↦
          let x = w.in-Some.last.now in
          let last = (w.in-Some.ensures.item.3).1 in
          let same = ap (λ v. frequencies_seen v.items) w.frequencies-is ∙ map-set_same frequency_seen items (c.args.frequencies.now.len - 1) x x (ap frequency_seen (last x)) in
          subst (λ now. CountsNumber (frequencies_seen items) c.args.number (frequencies_seen now)) (sym c.in_ok-push.ensures.items)
          (counts_new number times items c.match-last_mut.frequencies.items c.args.number _ same refl refl (λ d some is. w.if-last-number.false (ap number (last d) ∙ ap (λ k. (get_or items k d).number) end ∙ is)))
      | in_default w ↦
          let same = ap (λ v. frequencies_seen v.items) w.frequencies-is in
          subst (λ now. CountsNumber (frequencies_seen items) c.args.number (frequencies_seen now)) (sym c.in_ok-push.ensures.items)
          (counts_new number times items c.match-last_mut.frequencies.items c.args.number _ same refl refl (λ d some is. let clash : false ≡ true = w.in_default.ensures.variant.1 (omega (arith, some, c.args.frequencies.now.ok)) in cc))
    ]
