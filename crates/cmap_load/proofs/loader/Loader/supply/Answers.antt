use Rattle.std.proofs.Common.{◌++◌, ◌∙◌, ◌∷◌, [], List, ap, inr, length, map, refl, subst, sym}
use Rattle.std.specs.Option.{option_copied}
use Rattle.std.specs.Prelude.{IfSome, Some}
use Rattle.cmap_binary.specs.BundleSeen.{tables_given}
use Rattle.cmap_load.specs.Graphs.{AreNamed}
use Rattle.cmap_load.specs.Loading.{Answer}
use Rattle.cmap_load.specs.Loads.{IsRefused, Reads, wanted_by}
use Rattle.cmap_load.specs.Numbers.{text_at}
use Rattle.cmap_load.specs.declared.loader.Loader.{Loader}
use Rattle.cmap_load.specs.declared.loader.State.TheVariants.{Refused}
use Rattle.cmap_load.proofs.Supplied.{all, failed, follows, leads_wanted, ready, shows_added, still_follows, still_shows, still_wanted, wanted_named}
use Rattle.cmap_load.proofs.loader.Loader.supply.Goals as goal

pub take-requires : goal.take-requires
take-requires g c κs =
    let load = c.args.self.now in let wanted = c.in-Wanted.wanted in let set = c.requires.loading.set in
    let (begun, awaits) = rw (sym c.replace.ensures.value ∙ c.in-Wanted.is) at c.requires.loading.follows in (
      (refl, tt),
      record {
        set = record { numbered = set.numbered; table = set.table; texts_are = set.texts_are };
        new = awaits.new;
        begun = inr begun;
      },
    )

pub returns-in-Ok-clause-loading : goal.returns-in-Ok-clause-loading
returns-in-Ok-clause-loading g c =
    let set = c.take.ensures.set in let read = c.in-Ok.ensures.read in record {
      set = record { numbered = set.numbered; table = set.table; texts_are = set.texts_are };
      follows = follows c.take.new.self.table set.table read.begun c.in-Ok.next c.after-self.result read.is_next c.after-self.ensures;
    }

pub returns-in-Ok-clause-reads : goal.returns-in-Ok-clause-reads
returns-in-Ok-clause-reads g c =
    let texts = g.N.Texts.texts in let load = c.args.self.now in let wanted = c.in-Wanted.wanted in let new = c.take.new.self in
    let tables = tables_given c.args.bundle in let bytes = option_copied c.args.bytes in let set = c.requires.loading.set in let read = c.in-Ok.ensures.read in
    let is = sym c.replace.ensures.value ∙ c.in-Wanted.is in
    let (begun, awaits) = rw is at c.requires.loading.follows in
    subst (λ state. IfSome (wanted_by (texts load.list) state) (λ name. (answers : List Answer) → Reads texts tables answers load → Reads texts tables (answers ++ record { name = Some name; bytes = bytes } ∷ []) (record new { state = c.after-self.result }))) (sym is)
    (λ answers reads.
    let leads = leads_wanted tables answers (texts load.list) load.table set.table (rw is at reads.ready) wanted begun.some awaits bytes in
    let shows = shows_added tables answers (texts load.list) load.table (Some wanted.name) wanted.names.items wanted.left bytes leads (texts new.list) new.table set.table set.texts_are awaits.new read.count read.file read.opened read.added in
    record {
      has = leads.has;
      ready = ready new.table c.take.ensures.set.table tables (all tables answers (texts load.list) load.table (Some wanted.name) wanted.names.items wanted.left bytes leads) (texts new.list) shows c.in-Ok.next c.after-self.result read.is_next c.after-self.ensures;
    })

pub returns-in-Err-Refused-clause-loading : goal.returns-in-Err-Refused-clause-loading
returns-in-Err-Refused-clause-loading g c =
    let load = c.args.self.now in let wanted = c.in-Wanted.wanted in let set = c.take.ensures.set in
    let (same, fails) = rw c.in-Err-Refused.field-0-is at c.in-Err-Refused.ensures.fails in
    let (begun, awaits) = rw (sym c.replace.ensures.value ∙ c.in-Wanted.is) at c.requires.loading.follows in
    record {
      set = record { numbered = set.numbered; table = set.table; texts_are = set.texts_are };
      follows = subst (λ (loader : Loader g.row.N.Denot). AreNamed loader.table.graph wanted.names.items) (sym same) (wanted_named load.table.graph c.requires.loading.set.table.graph wanted awaits);
    }

pub returns-in-Err-Refused-clause-reads : goal.returns-in-Err-Refused-clause-reads
returns-in-Err-Refused-clause-reads g c =
    let texts = g.N.Texts.texts in let load = c.args.self.now in let wanted = c.in-Wanted.wanted in let new = c.take.new.self in
    let tables = tables_given c.args.bundle in let bytes = option_copied c.args.bytes in let set = c.requires.loading.set in
    let is = sym c.replace.ensures.value ∙ c.in-Wanted.is in
    let (same, fails) = rw c.in-Err-Refused.field-0-is at c.in-Err-Refused.ensures.fails in
    let (begun, awaits) = rw is at c.requires.loading.follows in
    subst (λ state. IfSome (wanted_by (texts load.list) state) (λ name. (answers : List Answer) → Reads texts tables answers load → Reads texts tables (answers ++ record { name = Some name; bytes = bytes } ∷ []) (record new { state = Refused (record { names = wanted.names; cause = c.in-Err-Refused.cause }) }))) (sym is)
    (λ answers reads.
    let leads = leads_wanted tables answers (texts load.list) load.table set.table (rw is at reads.ready) wanted begun.some awaits bytes in
    let given = all tables answers (texts load.list) load.table (Some wanted.name) wanted.names.items wanted.left bytes leads in
    record {
      has = leads.has;
      ready = subst (λ (loader : Loader g.row.N.Denot). IsRefused tables loader.table.graph.budget given (map (text_at (texts loader.list)) wanted.names.items) c.in-Err-Refused.cause) (sym same)
          (failed tables answers (texts load.list) load.table (Some wanted.name) wanted.names.items wanted.left bytes leads c.in-Err-Refused.cause fails);
    })

pub returns-in-Err-Memory-clause-loading : goal.returns-in-Err-Memory-clause-loading
returns-in-Err-Memory-clause-loading g c =
    let texts = g.N.Texts.texts in let load = c.args.self.now in let wanted = c.in-Wanted.wanted in let new = c.take.new.self in
    let was = c.requires.loading.set in let set = c.take.ensures.set in let grown = c.in-Err-Memory.ensures.grown in
    let (begun, awaits) = rw (sym c.replace.ensures.value ∙ c.in-Wanted.is) at c.requires.loading.follows in
    record {
      set = record { numbered = set.numbered; table = set.table; texts_are = set.texts_are };
      follows = still_follows (texts load.list) (texts new.list) load.table new.table was.table was.texts_are set.texts_are grown.grows grown.more wanted begun awaits;
    }

pub returns-in-Err-Memory-clause-unchanged : goal.returns-in-Err-Memory-clause-unchanged
returns-in-Err-Memory-clause-unchanged g c =
    let texts = g.N.Texts.texts in let load = c.args.self.now in let wanted = c.in-Wanted.wanted in let new = c.take.new.self in
    let was = c.requires.loading.set in let set = c.take.ensures.set in let grown = c.in-Err-Memory.ensures.grown in
    let is = sym c.replace.ensures.value ∙ c.in-Wanted.is in
    let (begun, awaits) = rw is at c.requires.loading.follows in
    record {
      wanted = still_wanted (texts load.list) (texts new.list) load.table new.table was.table was.texts_are set.texts_are grown.grows grown.more wanted begun awaits ∙ ap (wanted_by (texts load.list)) (sym is);
      budget = grown.grows.graph.budget;
      files = ap length grown.grows.graph.nodes;
      reads = λ tables answers reads. record {
        has = reads.has;
        ready = still_shows (texts load.list) (texts new.list) load.table new.table was.table was.texts_are set.texts_are grown.grows grown.more wanted begun awaits tables answers (rw is at reads.ready);
      };
    }
