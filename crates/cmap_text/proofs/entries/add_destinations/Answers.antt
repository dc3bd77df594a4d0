use Rattle.std.proofs.Common.{◌≡◌, ℕ, suc, [], ◌+◌, ◌-◌, refl, ap, ◌∙◌, arith}
use Rattle.cmap_values.specs.DeclarationsSeen.{lists_seen}
use Rattle.cmap_values.specs.UnitsSeen.{units_seen}
use Rattle.cmap_text.specs.TextReading.{list_in}
use Rattle.cmap_text.specs.TokenParsers.{run}
use Rattle.cmap_text.proofs.EntrySteps.{list_more, list_wrong}
use Rattle.cmap_text.proofs.Refusals.{no_memory, none_refused, passed_on}
use Rattle.cmap_text.proofs.TextsAdded.{more_texts, no_texts}
use Rattle.cmap_text.proofs.entries.add_destinations.Goals as goal

pub loop-code-init : goal.loop-code-init
loop-code-init c = record { adds = rw c.from-code.ensures refl; texts = ([], no_texts (lists_seen c.args.lists.now)) }

pub returns-in_err-units : goal.returns-in_err-units
returns-in_err-units c =
    let left = λ (count : ℕ). run (list_in count c.loop-code.code (lists_seen c.loop-code.lists)) c.loop-code.reader in
    let more : c.args.end + 1 - c.loop-code.code ≡ suc (c.args.end + 1 - (c.loop-code.code + 1)) = omega arith in
    record {
      adds = passed_on c.from_residual.result _ _ c.next_destination.new.self _ _ c.from_residual.ensures.1 c.in_err-units.ensures.1 (λ e is. c.loop-code.invariant.adds ∙ ap left more ∙ list_wrong c.loop-code.code (lists_seen c.loop-code.lists) c.loop-code.reader _ e is);
      texts = λ wrong is. c.loop-code.invariant.texts;
    }

pub returns-in_err-add_text : goal.returns-in_err-add_text
returns-in_err-add_text c = record {
  adds = no_memory c.from_residual-in_err-add_text.result _ _ _ (rw c.in_err-add_text.ensures.fails at c.from_residual-in_err-add_text.ensures.1);
  texts = none_refused c.from_residual-in_err-add_text.result _ (rw c.in_err-add_text.ensures.fails at c.from_residual-in_err-add_text.ensures.1);
}

pub loop-code-preserved : goal.loop-code-preserved
loop-code-preserved c =
    let left = λ (count : ℕ). run (list_in count c.loop-code.code (lists_seen c.loop-code.lists)) c.loop-code.reader in
    let more : c.args.end + 1 - c.loop-code.code ≡ suc (c.args.end + 1 - (c.loop-code.code + 1)) = omega arith in
    record {
      adds = c.loop-code.invariant.adds ∙ ap left more ∙ list_more c.loop-code.code (lists_seen c.loop-code.lists) c.loop-code.reader _ (units_seen c.in_ok-units.units) c.next_destination.new.self c.in_ok-units.ensures.0 (lists_seen c.add_text.new.lists) c.in_ok-add_text.ensures.adds;
      texts = more_texts _ _ _ _ _ _ c.loop-code.invariant.texts c.in_ok-add_text.ensures.adds;
    }

pub returns : goal.returns
returns c =
    let left = λ (count : ℕ). run (list_in count c.loop-code.code (lists_seen c.loop-code.lists)) c.loop-code.reader in
    let done : c.args.end + 1 - c.loop-code.code ≡ 0 = omega arith in
    record {
      adds = rw (c.loop-code.invariant.adds ∙ ap left done) (c.pass_closing_bracket.ensures c.loop-code.code (lists_seen c.loop-code.lists));
      texts = λ wrong is. c.loop-code.invariant.texts;
    }
