use Rattle.std.proofs.Common.{◌∙◌, refl, subst, sym}
use Rattle.cmap_load.specs.Tables.{HasTexts}
use Rattle.cmap_load.specs.declared.table.Table.{Table}
use Rattle.cmap_load.proofs.GraphGrowing.{IsKept-more}
use Rattle.cmap_load.proofs.Numbered.{there_numbered}
use Rattle.cmap_load.proofs.TableGrowing.{HasTexts-same, IsTable-kept, texts_longer, texts_same}
use Rattle.cmap_load.proofs.loader.Loader.number.Goals as goal

pub returns-in_err-reserve_name-clause-set : goal.returns-in_err-reserve_name-clause-set
returns-in_err-reserve_name-clause-set g c =
    let old = c.args.self.now in let mid : Table = record { graph = c.reserve_name.new.self; contents = old.table.contents } in
    record {
      numbered = c.requires.numbered;
      table = IsTable-kept old.table mid (record { graph = c.reserve_name.ensures.kept; contents = refl }) c.requires.table;
      texts_are = HasTexts-same (g.N.Texts.texts old.list) old.table.graph mid.graph c.reserve_name.ensures.found c.requires.texts_are;
    }

pub returns-in_err-number-clause-set : goal.returns-in_err-number-clause-set
returns-in_err-number-clause-set g c =
    let old = c.args.self.now in let mid : Table = record { graph = c.reserve_name.new.self; contents = old.table.contents } in
    record {
      numbered = c.number.ensures.numbered;
      table = IsTable-kept old.table mid (record { graph = c.reserve_name.ensures.kept; contents = refl }) c.requires.table;
      texts_are = subst (λ texts. HasTexts texts mid.graph) (sym c.in_err-number.ensures.same) (HasTexts-same (g.N.Texts.texts old.list) old.table.graph mid.graph c.reserve_name.ensures.found c.requires.texts_are);
    }

pub returns-then-number-len-clause-set : goal.returns-then-number-len-clause-set
returns-then-number-len-clause-set g c =
    let old = c.args.self.now in let before = g.N.Texts.texts old.list in let after = g.N.Texts.texts c.number.new.self in
    let mid : Table = record { graph = c.reserve_name.new.self; contents = old.table.contents } in
    let new : Table = record { graph = c.add_name.new.self; contents = old.table.contents } in
    record {
      numbered = c.number.ensures.numbered;
      table = IsTable-kept old.table new (record { graph = IsKept-more old.table.graph mid.graph new.graph c.reserve_name.ensures.kept c.add_name.ensures.kept; contents = refl }) c.requires.table;
      texts_are = texts_longer before after c.args.name.now c.in_ok-number.number c.in_ok-number.ensures.number mid.graph new.graph (HasTexts-same before old.table.graph mid.graph c.reserve_name.ensures.found c.requires.texts_are) (c.number.ensures.distinct c.requires.texts_are.distinct) (c.if-number-len.true ∙ c.len.ensures ∙ mid.graph.found.ok.0) c.add_name.ensures.found;
    }

pub returns-then-number-len-clause-number : goal.returns-then-number-len-clause-number
returns-then-number-len-clause-number g c = there_numbered (g.N.Texts.texts c.args.self.now.list) (g.N.Texts.texts c.number.new.self) c.args.name.now c.in_ok-number.number c.in_ok-number.ensures.number

pub returns-else-number-len-clause-set : goal.returns-else-number-len-clause-set
returns-else-number-len-clause-set g c =
    let old = c.args.self.now in let before = g.N.Texts.texts old.list in let after = g.N.Texts.texts c.number.new.self in
    let mid : Table = record { graph = c.reserve_name.new.self; contents = old.table.contents } in
    record {
      numbered = c.number.ensures.numbered;
      table = IsTable-kept old.table mid (record { graph = c.reserve_name.ensures.kept; contents = refl }) c.requires.table;
      texts_are = texts_same before after c.args.name.now c.in_ok-number.number c.in_ok-number.ensures.number mid.graph (HasTexts-same before old.table.graph mid.graph c.reserve_name.ensures.found c.requires.texts_are) (c.number.ensures.distinct c.requires.texts_are.distinct) (λ at_end. c.if-number-len.false (at_end ∙ sym mid.graph.found.ok.0 ∙ sym c.len.ensures));
    }
