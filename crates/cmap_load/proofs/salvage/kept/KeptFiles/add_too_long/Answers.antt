use Rattle.std.proofs.Common.{◌∙◌, refl, ap, length, cond, ℕ}
use Rattle.std.specs.BTreeMap.{is_at}
use Rattle.std.specs.Map.{lookup}
use Rattle.std.specs.Ordering.{nat_cmp}
use Rattle.std.specs.Prelude.{None, Option, Some}
use Rattle.cmap_load.proofs.KeptGrowing.{AddsAnswer-too_long, Stays-unnamed, longs_more, stays_added, top_still}
use Rattle.cmap_load.specs.Kept.{files_of}
use Rattle.cmap_load.proofs.KeptFiles.{are_kept}
use Rattle.cmap_load.proofs.salvage.kept.KeptFiles.add_too_long.Goals as goal

pub returns-in-Ok-clause-follows : goal.returns-in-Ok-clause-follows
returns-in-Ok-clause-follows g c =
    let old = files_of g.N.Texts.texts c.args.self.now in let new = files_of g.N.Texts.texts c.add.new.self in
    let added = c.in_ok-add.ensures in
    (added.begun, top_still old new (are_kept _ _ _ c.requires.kept) (stays_added old new (are_kept _ _ _ c.requires.kept) None 0 c.new.result None added.added) c.requires.top)

pub returns-in-Ok-clause-adds : goal.returns-in-Ok-clause-adds
returns-in-Ok-clause-adds g c = λ tables.
    let old = files_of g.N.Texts.texts c.args.self.now in let mid = files_of g.N.Texts.texts c.add.new.self in let added = c.in_ok-add.ensures.added in
    let new = files_of g.N.Texts.texts (record c.add.new.self { too_long = c.insert.new.self }) in
    AddsAnswer-too_long old mid new (are_kept _ _ _ c.requires.kept) 0 c.new.result added refl refl refl c.args.name c.args.bytes.now c.requires.new
    (longs_more old.long_at new.long_at c.args.name (length c.args.bytes.now) (λ q. c.in-Ok.ensures.updates.0 q ∙ ap (λ (m : ℕ → Option ℕ). cond (is_at (nat_cmp c.args.name) q) (Some (length c.args.bytes.now)) (m q)) added.long)) tables

pub returns-in-Err-clause-stays : goal.returns-in-Err-clause-stays
returns-in-Err-clause-stays g c =
    let old = files_of g.N.Texts.texts c.args.self.now in let mid = files_of g.N.Texts.texts c.add.new.self in let added = c.in_ok-add.ensures.added in
    let new = files_of g.N.Texts.texts (record c.add.new.self { too_long = c.insert.new.self }) in
    Stays-unnamed old mid new (are_kept _ _ _ c.requires.kept) 0 c.new.result added refl refl refl c.in_ok-add.ensures.begun
    (λ number. ap (λ entries. lookup (is_at (λ other. nat_cmp number other)) entries) c.in-Err.ensures.err ∙ ap (λ (m : ℕ → Option ℕ). m number) added.long)
