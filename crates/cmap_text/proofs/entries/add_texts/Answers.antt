use Rattle.cmap_tokens.specs.TokenSeen.{token_seen}
use Rattle.cmap_values.specs.DeclarationsSeen.{lists_seen}
use Rattle.cmap_text.proofs.EntrySteps.{texts_list, texts_made, texts_wrong}
use Rattle.cmap_text.proofs.Refusals.{made_so, never_refused, passed_on}
use Rattle.std.proofs.Common.{refl}
use Rattle.cmap_text.proofs.entries.add_texts.Goals as goal

pub returns-then-is_executable : goal.returns-then-is_executable
returns-then-is_executable c = record {
  adds = rw (texts_list c.args.start c.args.end (lists_seen c.args.lists.now) (token_seen c.args.token.now) c.args.reader.now c.if-is_executable.ensures) c.add_list.ensures.adds;
  stays = c.add_list.ensures.stays;
}

pub returns-in_err-units : goal.returns-in_err-units
returns-in_err-units c = record {
  adds = passed_on c.from_residual.result _ _ c.destination.new.self _ _ c.from_residual.ensures.1 c.in_err-units.ensures.1 (texts_wrong c.args.start c.args.end (lists_seen c.args.lists.now) (token_seen c.args.token.now) c.args.reader.now c.if-is_executable.ensures);
  stays = λ wrong is. refl;
}

pub returns : goal.returns
returns c = record {
  adds = made_so c.add_text.result _ _ c.destination.new.self _ c.add_text.ensures.adds c.add_text.ensures.fails (texts_made c.args.start c.args.end (lists_seen c.args.lists.now) (token_seen c.args.token.now) c.args.reader.now c.if-is_executable.ensures _ c.destination.new.self c.in_ok-units.ensures.0 (lists_seen c.add_text.new.lists));
  stays = never_refused c.add_text.result _ c.add_text.ensures.fails;
}
