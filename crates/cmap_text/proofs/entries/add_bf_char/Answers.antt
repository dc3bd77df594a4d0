use Rattle.std.proofs.Common.{refl}
use Rattle.cmap_values.specs.DeclarationsSeen.{lists_seen}
use Rattle.cmap_values.specs.UnitsSeen.{units_seen}
use Rattle.cmap_text.specs.TextSeen.{code_seen}
use Rattle.cmap_text.proofs.EntrySteps.{char_text, char_wrong}
use Rattle.cmap_text.proofs.Refusals.{made_so, never_refused, passed_on}
use Rattle.cmap_text.proofs.entries.add_bf_char.Goals as goal

pub returns-in_err-units : goal.returns-in_err-units
returns-in_err-units c = record {
  adds = passed_on c.from_residual.result _ _ c.next_destination.new.self _ _ c.from_residual.ensures.1 c.in_err-units.ensures.1 (char_wrong (code_seen c.args.code) (lists_seen c.args.lists.now) c.args.reader.now);
  stays = λ wrong is. refl;
}

pub returns : goal.returns
returns c = record {
  adds = made_so c.add_text.result _ _ c.next_destination.new.self _ c.add_text.ensures.adds c.add_text.ensures.fails (char_text (code_seen c.args.code) (lists_seen c.args.lists.now) c.args.reader.now (units_seen c.in_ok-units.units) c.next_destination.new.self c.in_ok-units.ensures.0 (lists_seen c.add_text.new.lists));
  stays = never_refused c.add_text.result _ c.add_text.ensures.fails;
}
