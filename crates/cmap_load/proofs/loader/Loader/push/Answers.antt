use Rattle.std.proofs.Common.{◌∙◌, ap, refl}
use Rattle.cmap_values.specs.NamesSeen.{names_seen}
use Rattle.cmap_load.proofs.Grown.{HasGrown-more, on_err}
use Rattle.cmap_load.proofs.TableGrowing.{HasTexts-same, IsMore-none}
use Rattle.cmap_load.proofs.loader.Loader.push.Goals as goal

pub returns-clause-added : goal.returns-clause-added
returns-clause-added g c =
    let numbered = c.in_ok-uses.ensures in let pushed = c.in_ok-push.ensures in
    record {
      mid = c.numbers.new.self.table;
      grows = numbered.grown.grows;
      more = numbered.grown.more;
      table = numbered.set.table;
      texts = numbered.set.texts_are;
      node = record { length = c.args.length; uses = c.in_ok-uses.uses };
      long = refl;
      named = numbered.named;
      uses = numbered.numbers ∙ ap names_seen c.deref.ensures.value;
      pushed = record { nodes = pushed.nodes; contents_are = pushed.contents; found = pushed.found; budget = c.push.ensures.budget };
    }

pub returns-in_err-push-clause-set : goal.returns-in_err-push-clause-set
returns-in_err-push-clause-set g c =
    let numbered = c.in_ok-uses.ensures in let mid = c.numbers.new.self in
    record {
      numbered = numbered.set.numbered;
      table = c.push.ensures.table;
      texts_are = HasTexts-same (g.N.Texts.texts mid.list) mid.table.graph c.push.new.self.graph (ap (λ v. v.items) c.in_err-push.ensures.same) numbered.set.texts_are;
    }

pub returns-in_err-push-clause-grown : goal.returns-in_err-push-clause-grown
returns-in_err-push-clause-grown g c =
    let texts = g.N.Texts.texts in let mid = c.numbers.new.self in
    on_err c.from_residual-in_err-push.result (HasGrown-more texts c.args.self.now mid (record mid { table = c.push.new.self }) c.in_ok-uses.ensures.grown (record { grows = c.in_err-push.ensures.grows; more = IsMore-none (texts mid.list) }))
