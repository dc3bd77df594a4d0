use Rattle.std.proofs.Common.{sym, subst}
use Rattle.cmap_text.specs.EntriesSeen.{AddsDeclarations}
use Rattle.cmap_text.specs.TextReading.{entry_after}
use Rattle.cmap_text.specs.TextSeen.{code_seen, section_seen}
use Rattle.cmap_text.proofs.sections.read_entry.Goals as goal

pub returns-in-Codespaces : goal.returns-in-Codespaces
returns-in-Codespaces c = record {
  adds = subst (λ section. AddsDeclarations (entry_after (section_seen section) (code_seen c.args.start)) c.args.reader.now c.args.lists.now c.add_codespace_range.new.lists c.add_codespace_range.new.reader c.add_codespace_range.result) (sym c.in-Codespaces.is) c.add_codespace_range.ensures.adds;
  stays = c.add_codespace_range.ensures.stays;
}

pub returns-in-Cids : goal.returns-in-Cids
returns-in-Cids c = record {
  adds = subst (λ section. AddsDeclarations (entry_after (section_seen section) (code_seen c.args.start)) c.args.reader.now c.args.lists.now c.add_cids.new.lists c.add_cids.new.reader c.add_cids.result) (sym c.in-Cids.is) c.add_cids.ensures.adds;
  stays = c.add_cids.ensures.stays;
}

pub returns-in-BfRange : goal.returns-in-BfRange
returns-in-BfRange c = record {
  adds = subst (λ section. AddsDeclarations (entry_after (section_seen section) (code_seen c.args.start)) c.args.reader.now c.args.lists.now c.add_bf_range.new.lists c.add_bf_range.new.reader c.add_bf_range.result) (sym c.in-BfRange.is) c.add_bf_range.ensures.adds;
  stays = c.add_bf_range.ensures.stays;
}

pub returns-in-BfChar : goal.returns-in-BfChar
returns-in-BfChar c = record {
  adds = subst (λ section. AddsDeclarations (entry_after (section_seen section) (code_seen c.args.start)) c.args.reader.now c.args.lists.now c.add_bf_char.new.lists c.add_bf_char.new.reader c.add_bf_char.result) (sym c.in-BfChar.is) c.add_bf_char.ensures.adds;
  stays = c.add_bf_char.ensures.stays;
}
