use Rattle.std.proofs.Common.{◌<◌, ap, length, map, subst, sym}
use Rattle.std.proofs.lemmas.List.Elements.{All-nil}
use Rattle.cmap_load.specs.Graphs.{AreNamed}
use Rattle.cmap_load.specs.Numbers.{text_at}
use Rattle.cmap_load.proofs.TableGrowing.{numbers_more, numbers_named}
use Rattle.cmap_load.proofs.Grown.{HasGrown-more, HasGrown-none}
use Rattle.cmap_load.proofs.loader.Loader.numbers.Goals as goal

pub loop-name-init : goal.loop-name-init
loop-name-init g c = record {
  set = record { numbered = c.requires.numbered; table = c.requires.table; texts_are = c.requires.texts_are };
  grown = HasGrown-none g.N.Texts.texts c.args.self.now;
  named = subst (AreNamed c.args.self.now.table.graph) (sym c.new-numbers.ensures.items) (All-nil (λ name. name < length c.args.self.now.table.graph.found.items));
  numbers = ap (map (text_at (g.N.Texts.texts c.args.self.now.list))) c.new-numbers.ensures.items;
}

pub loop-name-preserved : goal.loop-name-preserved
loop-name-preserved g c =
    let so_far = c.loop-name.invariant in let mid = c.loop-name.self in let new = c.number.new.self in
    let added = c.in_ok-number.ensures in let number = c.in_ok-number.number in
    let texts = g.N.Texts.texts in
    record {
      set = added.set;
      grown = HasGrown-more texts c.args.self.now mid new so_far.grown added.grown;
      named = numbers_named (texts mid.list) (texts new.list) mid.table.graph new.table.graph so_far.set.texts_are added.grown.more added.set.texts_are c.args.uses.now c.loop-name.name-index _ c.loop-name-test.true c.loop-name.numbers.items c.push.new.self.items number c.in_ok-push.ensures.items added.number so_far.named;
      numbers = numbers_more (texts mid.list) (texts new.list) mid.table.graph new.table.graph so_far.set.texts_are added.grown.more added.set.texts_are c.args.uses.now c.loop-name.name-index _ c.loop-name-test.true c.loop-name.numbers.items c.push.new.self.items number c.in_ok-push.ensures.items added.number so_far.named so_far.numbers;
    }

pub returns-in_err-number-clause-grown : goal.returns-in_err-number-clause-grown
returns-in_err-number-clause-grown g c = HasGrown-more g.N.Texts.texts c.args.self.now c.loop-name.self c.number.new.self c.loop-name.invariant.grown c.number.ensures.grown

pub returns-in_err-push-clause-grown : goal.returns-in_err-push-clause-grown
returns-in_err-push-clause-grown g c = HasGrown-more g.N.Texts.texts c.args.self.now c.loop-name.self c.number.new.self c.loop-name.invariant.grown c.number.ensures.grown
