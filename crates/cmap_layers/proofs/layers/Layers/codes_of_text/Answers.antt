use Rattle.std.proofs.Common.{◌≡◌, ℕ, ◌≤◌, Some, ◌∙◌, arith}
use Rattle.std.specs.Prelude.{◌↔◌, option_and_then, option_map}
use Rattle.std.specs.Option.{option_copied}
use Rattle.std.specs.Str.{chars}
use Rattle.std.proofs.lemmas.Str.{scalars-chars}
use Rattle.cmap_values.specs.DeclarationsSeen.{bf_entry_seen}
use Rattle.cmap_layers.specs.CodeStretches.{AreUnitsOf}
use Rattle.cmap_layers.specs.Lookups.{bf_at}
use Rattle.cmap_layers.proofs.CodesOfTexts.{added, passed_over}
use Rattle.cmap_layers.proofs.layers.Layers.codes_of_text.Goals as goal
use Rattle.cmap_layers.proofs.layers.Layers.codes_of_text.Goals.{in-Some+in_ok-add_range, in_default}

pub loop-next-preserved : goal.loop-next-preserved
loop-next-preserved c =
    let layers = c.args.self.now in let text = chars c.args.text.now in let next = c.loop-next.next in let stretch = c.text_stretch-stretch.result in
    let declaration = option_map bf_entry_seen (option_copied stretch.declaration) in
    let units : AreUnitsOf text c.as_slice-units.result.now = (scalars-chars c.args.text.now c.utf8.text, c.as_slice-units.ensures ∙ c.in_ok-units.ensures) in
    let is : (code : ℕ) → next ≤ code → code ≤ stretch.last → ((option_and_then (λ entry. bf_at entry code) declaration ≡ Some text) ↔ (c.code_among.result ≡ Some code)) = λ code from to. c.code_among.ensures.code text code units from to in
    elim c.match-code_among.branch [
      | in-Some+in_ok-add_range w ↦ record {
        within = omega arith;
        codes = rw (w.ranges-is, c.from-next.ensures, w.in_ok-add_range.ensures)
            (let within = rw w.in-Some.is at c.code_among.ensures.within in
            added layers text next stretch.last declaration c.loop-next.ranges.items c.loop-next.invariant.codes c.text_stretch-stretch.ensures.texts c.text_stretch-stretch.ensures.within w.in-Some.code within.0 within.1 (rw w.in-Some.is at is));
      }
      | in_default w ↦ record {
        within = omega arith;
        codes = rw (w.ranges-is, c.from-next.ensures)
            (passed_over layers text next stretch.last declaration c.loop-next.ranges.items c.loop-next.invariant.codes c.text_stretch-stretch.ensures.texts c.text_stretch-stretch.ensures.within (rw w.in_default.is at is));
      }
    ]
