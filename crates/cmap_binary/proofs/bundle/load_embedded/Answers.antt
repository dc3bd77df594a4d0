use Rattle.cmap_binary.proofs.FilesAt.{looked_up}
use Rattle.cmap_values.specs.NamesSeen.{names_seen}
use Rattle.std.specs.Option.{option_copied}
use Rattle.std.specs.Prelude.{slice_get}
use Rattle.std.proofs.Common.{ap, ◌∙◌}
use Rattle.cmap_binary.proofs.bundle.load_embedded.Goals as goal

pub returns-in-Some-Some : goal.returns-in-Some-Some
returns-in-Some-Some c =
    let files = c.deref.result.now in let at = c.in-Some-Some.index in
    rw (c.in-Some-Some.is-0, ← c.in-Some-Some.ensures) (ap option_copied c.copied.ensures ∙ looked_up files at c.get.result c.get.ensures.lookup.3 ∙ ap (λ l. slice_get (names_seen l) at) c.deref.ensures.value)
