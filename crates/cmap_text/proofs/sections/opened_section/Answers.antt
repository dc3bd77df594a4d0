use Rattle.std.proofs.Common.{sym}
use Rattle.std.specs.Prelude.{MatchOption, Option, Some, None, option_map}
use Rattle.cmap_tokens.specs.TokenSeen.{token_seen}
use Rattle.cmap_tokens.specs.Tokens.{Token}
use Rattle.cmap_values.specs.Only.{HoldsOfNone, IsOnly}
use Rattle.cmap_values.specs.Outcomes.{Finds}
use Rattle.cmap_text.specs.TextFiles.{Opens}
use Rattle.cmap_text.specs.TextSeen.{section_seen}
use Rattle.cmap_text.specs.declared.sections.Section.{Section}
use Rattle.cmap_text.proofs.ItemsRead.{finds_section}
use Rattle.cmap_text.proofs.sections.opened_section.Goals as goal

found_as : (t : Token) (found : Option Section) → MatchOption (option_map section_seen found) (HoldsOfNone (Opens t)) (IsOnly (Opens t)) → Finds (Opens t) section_seen found
found_as t None is = is
found_as t (Some section) is = is

pub returns : goal.returns
returns c = found_as (token_seen c.args.opener.now) c.opened_by.result (finds_section (token_seen c.args.opener.now) (option_map section_seen c.opened_by.result) (sym c.opened_by.ensures))
