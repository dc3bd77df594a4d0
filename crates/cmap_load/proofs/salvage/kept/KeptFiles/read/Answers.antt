use Rattle.std.proofs.Common.{◌≡◌, ap, inl, inr, refl, subst, length}
use Rattle.std.specs.Prelude.{Some, slice_get}
use Rattle.cmap_binary.specs.BundleSeen.{tables_given}
use Rattle.cmap_load.proofs.KeptGrowing.{read_adds, stays_added, stops_last, top_still}
use Rattle.cmap_load.specs.Kept.{files_of}
use Rattle.cmap_load.proofs.KeptFiles.{are_kept}
use Rattle.cmap_load.proofs.salvage.kept.KeptFiles.read.Goals as goal

pub progress-requires-clause-top : goal.progress-requires-clause-top
progress-requires-clause-top g c =
    let old = files_of g.N.Texts.texts c.args.self.now in let new = files_of g.N.Texts.texts c.add.new.self in let more = c.in_ok-next.ensures.added in
    let file = c.in_ok-file.field-0.file in let faults = c.in_ok-file.field-0.faults in let count = length c.args.bytes.now in
    elim c.requires.begun [
      | inl none ↦ (faults, subst (λ i. slice_get new.stops i ≡ Some (Some faults)) (ap length none) (stops_last old new (are_kept _ _ _ c.requires.kept) c.args.name count file (Some faults) more))
      | inr begun ↦ top_still old new (are_kept _ _ _ c.requires.kept) (stays_added old new (are_kept _ _ _ c.requires.kept) c.args.name count file (Some faults) more) begun.1
    ]

pub returns-clause-adds : goal.returns-clause-adds
returns-clause-adds g c = read_adds (files_of g.N.Texts.texts c.args.self.now) (files_of g.N.Texts.texts c.add.new.self) (are_kept _ _ _ c.requires.kept) c.args.name (length c.args.bytes.now) c.in_ok-file.field-0.file c.in_ok-file.field-0.faults c.in_ok-next.ensures.added c.requires.new (tables_given c.args.bundle) c.args.bytes.now refl c.in_ok-file.ensures
