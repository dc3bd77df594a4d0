use Rattle.std.proofs.Common.{refl, sym, ◌∙◌}
use Rattle.std.proofs.lemmas.Option.{none-some}
use Rattle.std.specs.Option.{option_copied}
use Rattle.cmap_values.specs.DeclarationsSeen.{lists_seen}
use Rattle.cmap_tokens.specs.TokenSeen.{token_seen}
use Rattle.cmap_text.specs.TextSeen.{key_name, said_seen, section_seen}
use Rattle.cmap_text.proofs.ItemSteps.{key_said, other_said, section_said, use_ends}
use Rattle.cmap_text.proofs.TokenParsers.{err-ok}
use Rattle.cmap_text.proofs.items.read_item.Goals as goal

pub returns-in-Some : goal.returns-in-Some
returns-in-Some c = record {
  reads = section_said (said_seen c.args.said.now) (token_seen c.args.first.now) c.args.reader.now (option_copied c.literal_name-said.result) c.literal_name-said.ensures (section_seen c.in-Some.section) (lists_seen c.read_section.new.lists) c.read_section.new.reader c.read_section.result c.in-Some.ensures c.read_section.ensures;
  fault = λ wrong is none. absurd (none-some (section_seen c.in-Some.section) (sym none ∙ sym c.in-Some.ensures));
}

pub returns-then-is_executable : goal.returns-then-is_executable
returns-then-is_executable c = record {
  reads = use_ends (said_seen c.args.said.now) c.args.first.now c.args.reader.now (option_copied c.literal_name-said.result) c.args.said.now.operand c.args.said.now.uses.items c.add_use.new.uses.items c.add_use.result c.literal_name-said.ensures c.in_default.ensures c.if-is_executable.ensures refl refl c.add_use.ensures.added c.add_use.ensures.refused;
  fault = λ wrong is opens. rw (c.add_use.ensures.stays wrong is, c.literal_name-said.ensures) refl;
}

pub returns-in-Some-of : goal.returns-in-Some-of
returns-in-Some-of c = record {
  reads = rw (key_said (said_seen c.args.said.now) (token_seen c.args.first.now) c.args.reader.now (option_copied c.literal_name-said.result) c.literal_name-said.ensures c.in_default.ensures c.if-is_executable.ensures (key_name c.in-Some-of.key) c.in-Some-of.ensures) c.read_value.ensures.reads;
  fault = λ wrong is opens. rw (c.read_value.ensures.stays wrong is, c.literal_name-said.ensures) refl;
}

pub returns : goal.returns
returns c = record {
  reads = (other_said (said_seen c.args.said.now) (token_seen c.args.first.now) c.args.reader.now (option_copied c.literal_name-said.result) c.literal_name-said.ensures c.in_default.ensures c.if-is_executable.ensures c.in_default-of.ensures, tt);
  fault = λ wrong is. absurd (err-ok _ _ (sym is));
}
