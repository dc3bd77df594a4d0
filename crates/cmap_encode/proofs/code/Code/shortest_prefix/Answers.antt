use Rattle.std.proofs.Common.{subst, ◌∙◌}
use Rattle.cmap_layers.specs.StringCodes.{IsNextCode}
use Rattle.cmap_encode.specs.Codes.{code_bytes}
use Rattle.cmap_encode.proofs.CodesRead.{prefix_found}
use Rattle.cmap_encode.proofs.Numbers.{sliced}
use Rattle.cmap_encode.proofs.code.Code.shortest_prefix.Goals as goal

pub returns : goal.returns
returns c =
    let layers = c.args.encoding.now in
    let same = sliced c.args.self.number c.args.self.len c.from.result c.to_be_bytes-bytes.result (c.from.ensures ∙ c.count.ensures) c.to_be_bytes-bytes.ensures in
    let next = subst (λ text. IsNextCode layers text c.in_ok-prefix.prefix) same c.in_ok-prefix.ensures.code.holds in
    prefix_found layers (code_bytes c.args.self) c.in_ok-prefix.prefix c.of.result next c.if-not-prefix.false c.in_ok-prefix.ensures.length.0 c.of.ensures
