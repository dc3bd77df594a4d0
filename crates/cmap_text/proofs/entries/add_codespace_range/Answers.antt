use Rattle.std.proofs.Common.{refl, sym}
use Rattle.std.specs.Prelude.{Some}
use Rattle.cmap_values.specs.DeclarationsSeen.{lists_seen}
use Rattle.cmap_text.specs.TextSeen.{code_seen}
use Rattle.cmap_text.proofs.EntrySteps.{lengths_agree, lengths_differ, space_added, space_unequal, space_wrong}
use Rattle.cmap_text.proofs.Refusals.{no_memory, none_refused, passed_on}
use Rattle.cmap_text.proofs.TokenParsers.{err-ok}
use Rattle.cmap_text.proofs.entries.add_codespace_range.Goals as goal

pub returns-in_err-high : goal.returns-in_err-high
returns-in_err-high c = record {
  adds = passed_on c.from_residual.result _ _ c.next_code.new.self _ _ c.from_residual.ensures.1 c.in_err-high.ensures.1 (space_wrong (code_seen c.args.low) (lists_seen c.args.lists.now) c.args.reader.now);
  stays = λ wrong is. refl;
}

pub returns-then-ne : goal.returns-then-ne
returns-then-ne c =
    let (t, unequal) = space_unequal (code_seen c.args.low) (lists_seen c.args.lists.now) c.args.reader.now (code_seen c.in_ok-high.high) c.next_code.new.self c.in_ok-high.ensures.0 (lengths_differ c.args.low.len c.in_ok-high.high.len c.if-ne.ensures) in
    record {
      adds = (tt, rw c.wrong.ensures (Some t, unequal, refl));
      stays = λ wrong is. refl;
    }

pub returns-in_err-add_codespace : goal.returns-in_err-add_codespace
returns-in_err-add_codespace c = record {
  adds = no_memory c.from_residual-in_err-add_codespace.result _ _ _ c.from_residual-in_err-add_codespace.ensures.1;
  stays = none_refused c.from_residual-in_err-add_codespace.result _ c.from_residual-in_err-add_codespace.ensures.1;
}

pub returns : goal.returns
returns c = record {
  adds = (space_added (code_seen c.args.low) (lists_seen c.args.lists.now) c.args.reader.now (code_seen c.in_ok-high.high) c.next_code.new.self c.in_ok-high.ensures.0 (lengths_agree c.args.low.len c.in_ok-high.high.len c.if-ne.ensures) (lists_seen c.add_codespace.new.self) c.in_ok-add_codespace.ensures.added, tt);
  stays = λ wrong is. absurd (err-ok _ _ (sym is));
}
