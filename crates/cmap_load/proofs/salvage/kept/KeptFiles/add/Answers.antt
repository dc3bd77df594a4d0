use Rattle.std.proofs.Common.{refl}
use Rattle.cmap_load.specs.Kept.{files_of}
use Rattle.cmap_load.proofs.KeptFiles.{are_kept}
use Rattle.cmap_load.proofs.Grown.{HasGrown-none, on_err}
use Rattle.cmap_load.proofs.KeptGrowing.{Stays-grown}
use Rattle.cmap_load.proofs.salvage.kept.KeptFiles.add.Goals as goal

pub returns-in_err-reserve-clause-stays : goal.returns-in_err-reserve-clause-stays
returns-in_err-reserve-clause-stays g c =
    let old = c.args.self.now in let new = record old { stops = c.reserve.new.self } in
    let grown = HasGrown-none g.N.Texts.texts old.load in
    on_err c.from_residual.result (Stays-grown (files_of g.N.Texts.texts old) (files_of g.N.Texts.texts new) (are_kept _ _ _ c.requires.kept) grown.more grown.grows c.reserve.ensures.items (λ number. refl))

pub returns-in_err-next-clause-stays : goal.returns-in_err-next-clause-stays
returns-in_err-next-clause-stays g c =
    let old = c.args.self.now in let new = record old { load = c.add.new.self; stops = c.reserve.new.self } in
    let grown = c.in_err-next.ensures.grown in
    on_err c.from_residual-in_err-next.result (Stays-grown (files_of g.N.Texts.texts old) (files_of g.N.Texts.texts new) (are_kept _ _ _ c.requires.kept) grown.more grown.grows c.reserve.ensures.items (λ number. refl))

pub returns-in_err-push-clause-stays : goal.returns-in_err-push-clause-stays
returns-in_err-push-clause-stays g c =
    let old = c.args.self.now in let new = record old { load = c.push.new.self; stops = c.reserve.new.self } in
    let grown = c.in_err-push.ensures.grown in
    on_err c.from_residual-in_err-push.result (Stays-grown (files_of g.N.Texts.texts old) (files_of g.N.Texts.texts new) (are_kept _ _ _ c.requires.kept) grown.more grown.grows c.reserve.ensures.items (λ number. refl))
