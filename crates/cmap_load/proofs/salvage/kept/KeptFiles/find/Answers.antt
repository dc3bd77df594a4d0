use Rattle.std.proofs.Common.{◌∙◌, ap, arith, refl}
use Rattle.std.specs.Prelude.{Some}
use Rattle.std.proofs.lemmas.Option.{slice_get_read}
use Rattle.cmap_load.specs.Kept.{files_of}
use Rattle.cmap_load.proofs.salvage.kept.KeptFiles.find.Goals as goal

pub returns-in-Some-index : goal.returns-in-Some-index
returns-in-Some-index g c =
    let files = files_of g.N.Texts.texts c.args.self.now in
    let found = slice_get_read files.table.graph.found.items _ c.args.name c.index.result.now refl c.requires.name c.index.ensures ∙ ap Some c.in-Some.is in
    let lt = c.requires.kept.table.graph.known c.args.name c.in-Some.i found in let long = c.requires.kept.stops in
    let there = slice_get_read files.stops _ c.in-Some.i c.index-in-Some.result.now refl (omega (arith, lt, long)) c.index-in-Some.ensures in
    (found, (c.in-Some-index.field-0, there ∙ ap Some c.in-Some-index.is))

pub returns-in-None-index : goal.returns-in-None-index
returns-in-None-index g c =
    let files = files_of g.N.Texts.texts c.args.self.now in
    let found = slice_get_read files.table.graph.found.items _ c.args.name c.index.result.now refl c.requires.name c.index.ensures ∙ ap Some c.in-Some.is in
    let lt = c.requires.kept.table.graph.known c.args.name c.in-Some.i found in let long = c.requires.kept.stops in
    let there = slice_get_read files.stops _ c.in-Some.i c.index-in-Some.result.now refl (omega (arith, lt, long)) c.index-in-Some.ensures in
    (c.in-Some.i, found, there ∙ ap Some c.in-None-index.is)

pub returns-in_default : goal.returns-in_default
returns-in_default g c = slice_get_read c.args.self.now.load.table.graph.found.items _ c.args.name c.index.result.now refl c.requires.name c.index.ensures ∙ ap Some c.in-None.is

pub returns-in_default-2 : goal.returns-in_default-2
returns-in_default-2 g c = slice_get_read c.args.self.now.load.table.graph.found.items _ c.args.name c.index.result.now refl c.requires.name c.index.ensures ∙ ap Some c.in-None.is
