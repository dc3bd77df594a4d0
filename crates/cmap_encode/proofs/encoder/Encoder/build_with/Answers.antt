use Rattle.std.proofs.Common.{map, sym, ap, ◌∙◌}
use Rattle.cmap_encode.specs.Maps.{maps_seen}
use Rattle.cmap_encode.specs.StringsOfCodes.{only_spaces}
use Rattle.cmap_encode.proofs.encoder.Encoder.build_with.Goals as goal

pub returns : goal.returns
returns c = record {
  maps = maps_seen c.of.result;
  are = c.of.ensures;
  encoder_of = record { index = c.in_ok-index.ensures; exact = sym c.of.ensures.exact_is; codespaces = c.in_ok-codespaces.ensures ∙ ap (λ font. map only_spaces font.encoding) (sym c.of.ensures.font_is) };
}
