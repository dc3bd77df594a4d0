use Rattle.std.proofs.Common.{[], map, refl, subst, sym}
use Rattle.std.specs.Prelude.{None, Some}
use Rattle.cmap_binary.specs.BundleSeen.{tables_given}
use Rattle.cmap_load.specs.Loads.{IsRefused}
use Rattle.cmap_load.specs.Numbers.{text_at}
use Rattle.cmap_load.specs.declared.loader.Loader.{Loader}
use Rattle.cmap_load.proofs.Supplied.{HasTexts-none, all, failed, follows, leads_top, ready, shows_added}
use Rattle.cmap_load.proofs.loader.Loader.new.Goals as goal

pub returns-in-Ok-clause-loading : goal.returns-in-Ok-clause-loading
returns-in-Ok-clause-loading g c =
    let set = c.take.ensures.set in let read = c.in-Ok.ensures.read in record {
      set = record { numbered = set.numbered; table = set.table; texts_are = set.texts_are };
      follows = follows c.take.new.self.table set.table read.begun c.in-Ok.next c.after-load.result read.is_next c.after-load.ensures;
    }

pub returns-in-Ok-clause-reads : goal.returns-in-Ok-clause-reads
returns-in-Ok-clause-reads g c =
    let texts = g.N.Texts.texts in let list = c.new.result in let table = c.new-2.result in let new = c.take.new.self in
    let tables = tables_given c.args.bundle in let bytes = c.args.«data».now in let read = c.in-Ok.ensures.read in
    let leads = leads_top c.args.budget (texts list) c.new.ensures.texts table c.new-2.ensures tables [] bytes refl in
    let has = HasTexts-none c.args.budget (texts list) c.new.ensures.texts table c.new-2.ensures in
    let shows = shows_added tables [] (texts list) table None [] c.args.budget (Some bytes) leads (texts new.list) new.table c.new-2.ensures.is_table has tt read.count read.file read.opened read.added in
    record {
      has = leads.has;
      ready = ready new.table c.take.ensures.set.table tables (all tables [] (texts list) table None [] c.args.budget (Some bytes) leads) (texts new.list) shows c.in-Ok.next c.after-load.result read.is_next c.after-load.ensures;
    }

pub returns-in-Err-Refused-clause-reads : goal.returns-in-Err-Refused-clause-reads
returns-in-Err-Refused-clause-reads g c =
    let texts = g.N.Texts.texts in let list = c.new.result in let table = c.new-2.result in
    let tables = tables_given c.args.bundle in let bytes = c.args.«data».now in
    let (same, fails) = rw c.in-Err-Refused.field-0-is at c.in-Err-Refused.ensures.fails in
    let names = c.new-names.result.items in
    let leads = leads_top c.args.budget (texts list) c.new.ensures.texts table c.new-2.ensures tables names bytes c.new-names.ensures in
    let given = all tables [] (texts list) table None names c.args.budget (Some bytes) leads in
    record {
      has = leads.has;
      ready = subst (λ (loader : Loader g.row.N.Denot). IsRefused tables loader.table.graph.budget given (map (text_at (texts loader.list)) names) c.in-Err-Refused.cause) (sym same)
          (failed tables [] (texts list) table None names c.args.budget (Some bytes) leads c.in-Err-Refused.cause fails);
    }
