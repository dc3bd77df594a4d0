use Rattle.std.proofs.Common.{◌≡◌, map, refl, ap, ◌∙◌}
use Rattle.cmap_encode.specs.Alike.{national_lines, line_of}
use Rattle.cmap_encode.specs.declared.alike.TheConstants.{NATIONAL}
use Rattle.cmap_encode.proofs.alike.national_of.Goals as goal

-- the table of the code is that of the definition
same : map (λ line. line.now) NATIONAL.now ≡ national_lines
same = refl

pub returns : goal.returns
returns c = c.line_of.ensures ∙ ap (λ lines. line_of lines c.args.character) same
