use Rattle.std.proofs.Common.{sym, ◌∙◌}
use Rattle.cmap_load.specs.Kept.{files_of}
use Rattle.cmap_load.proofs.KeptRead.{ready_walked, walks_settled}
use Rattle.cmap_load.proofs.salvage.loader.SalvageLoader.wants.Goals as goal

pub returns-in_ok-found-in-Open-clause-settled : goal.returns-in_ok-found-in-Open-clause-settled
returns-in_ok-found-in-Open-clause-settled g c = λ none.
    let texts = g.N.Texts.texts c.args.self.now.files.load.list in
    walks_settled texts (files_of g.N.Texts.texts c.args.self.now.files) c.in_ok-found-in-Open.found c.in_ok-found-in-Open.ensures.walks (sym (c.is_wanted-wants.ensures texts) ∙ none)

pub returns-in_ok-found-in-Open-clause-reads : goal.returns-in_ok-found-in-Open-clause-reads
returns-in_ok-found-in-Open-clause-reads g c = λ tables answers reads. record {
  top = reads.top;
  first = reads.first;
  ready = ready_walked tables answers reads.top (files_of g.N.Texts.texts c.args.self.now.files) c.in_ok-found-in-Open.found c.in_ok-found-in-Open.ensures.walks (rw c.in-Open.is at reads.ready);
}
