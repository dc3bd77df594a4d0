use Rattle.std.proofs.Common.{◌≡◌, ◌<◌, true, false, ap, ◌∙◌, length, min, arith}
use Rattle.std.specs.Prelude.{is_some}
use Rattle.std.proofs.lemmas.Grind.{common_steps}
use Rattle.cmap_layers.specs.LayersSeen.{layers_seen}
use Rattle.cmap_layers.specs.StringCodes.{front}
use Rattle.cmap_layers.proofs.OneStringCode.{next_found, next_inside, next_outside}
use Rattle.cmap_layers.proofs.layers.Layers.next_code.Goals as goal
use Rattle.cmap_layers.proofs.layers.Layers.next_code.Goals.{in-Some, in-None+in_ok-code-in-None}

pub returns-clause-code : goal.returns-clause-code
returns-clause-code c =
    let layers = layers_seen c.as_slice-layers.result.now in let text = c.args.text.now in
    rw (← c.as_slice-layers.ensures.layers) (elim c.match-inside.branch [
      | in-Some w ↦
          next_found layers text c.match-inside.byte_len (w.in-Some.byte_len, w.in-Some.code, w.in-Some.byte_len) c.is_some.result true w.byte_len-is
          (c.is_some.ensures ∙ ap is_some w.in-Some.is)
          (next_inside layers text w.in-Some.byte_len w.in-Some.code w.in-Some.ensures.0 w.in-Some.ensures.1)
      | in-None+in_ok-code-in-None w ↦
          let wanted = w.bytes_wanted-wanted.result in let taken = w.min-byte_len.result in let code = w.in_ok-code-in-None.code in
          let fewest : taken ≡ min wanted (length text) = omega (arith, w.min-byte_len.ensures, w.from.ensures) in
          let some : 0 < length text = grind (arith, common_steps) in
          let is : code ≡ front text taken = grind (arith, common_steps) in
          next_found layers text c.match-inside.byte_len (taken, code, wanted) c.is_some.result false w.byte_len-is (c.is_some.ensures ∙ ap is_some w.in-None.is)
          (next_outside layers text taken code wanted some w.in-None.ensures w.bytes_wanted-wanted.ensures.wanted fewest is)
    ])
