use Rattle.cmap_load.proofs.KeptGrowing.{AddsAnswer-nothing, stays_added, top_still}
use Rattle.std.specs.Prelude.{Some, None}
use Rattle.cmap_load.specs.Kept.{files_of}
use Rattle.cmap_load.proofs.KeptFiles.{are_kept}
use Rattle.cmap_load.proofs.salvage.kept.KeptFiles.add_nothing.Goals as goal

pub progress-requires-clause-top : goal.progress-requires-clause-top
progress-requires-clause-top g c =
    let old = files_of g.N.Texts.texts c.args.self.now in let new = files_of g.N.Texts.texts c.add.new.self in
    top_still old new (are_kept _ _ _ c.requires.kept) (stays_added old new (are_kept _ _ _ c.requires.kept) (Some c.args.name) 0 c.new.result None c.in_ok-next.ensures.added) c.requires.top

pub returns-clause-adds : goal.returns-clause-adds
returns-clause-adds g c = AddsAnswer-nothing (files_of g.N.Texts.texts c.args.self.now) (files_of g.N.Texts.texts c.add.new.self) (are_kept _ _ _ c.requires.kept) c.args.name 0 c.new.result c.in_ok-next.ensures.added c.requires.new
