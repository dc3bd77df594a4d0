use Rattle.std.proofs.Common.{ap, refl, sym, ◌∙◌}
use Rattle.cmap_tokens.specs.Tokens.{String}
use Rattle.cmap_tokens.specs.TokenSeen.{token_seen}
use Rattle.cmap_values.specs.DeclarationsSeen.{lists_seen}
use Rattle.cmap_text.specs.TextSeen.{code_seen}
use Rattle.cmap_text.specs.TokenParsers.{token_in}
use Rattle.cmap_text.proofs.EntrySteps.{range_ends, range_texts, texts_made}
use Rattle.cmap_text.proofs.Refusals.{made_so, never_refused, passed_on}
use Rattle.cmap_text.proofs.entries.add_bf_range.Goals as goal

pub returns-in_err-end : goal.returns-in_err-end
returns-in_err-end c = record {
  adds = passed_on c.from_residual.result _ _ c.next_code.new.self _ _ c.from_residual.ensures.1 c.in_err-end.ensures.1 (λ e is. rw is refl);
  stays = λ wrong is. refl;
}

pub returns-in-Some : goal.returns-in-Some
returns-in-Some c =
    let (piece, reads, is) = c.in-Some.ensures in
    let texts = range_texts (code_seen c.args.start) (code_seen c.in_ok-end.end) (lists_seen c.args.lists.now) c.args.reader.now c.next_code.new.self c.in_ok-end.ensures.0 (String piece) c.plain_destination.new.self reads in
    record {
      adds = made_so c.add_text.result _ _ c.plain_destination.new.self _ c.add_text.ensures.adds c.add_text.ensures.fails (λ added. texts ∙ texts_made c.args.start.number c.in_ok-end.end.number (lists_seen c.args.lists.now) (String piece) c.plain_destination.new.self refl _ c.plain_destination.new.self (rw is refl) (lists_seen c.add_text.new.lists) added);
      stays = never_refused c.add_text.result _ c.add_text.ensures.fails;
    }

pub returns-in_ok-token-in-None : goal.returns-in_ok-token-in-None
returns-in_ok-token-in-None c =
    let reads = ap token_in (sym c.in-None.ensures) ∙ c.in_ok-token-in-None.ensures.0 in
    record {
      adds = rw (range_texts (code_seen c.args.start) (code_seen c.in_ok-end.end) (lists_seen c.args.lists.now) c.args.reader.now c.next_code.new.self c.in_ok-end.ensures.0 (token_seen c.in_ok-token-in-None.token) c.required_token.new.self reads) c.add_texts.ensures.adds;
      stays = c.add_texts.ensures.stays;
    }

pub returns-in_err-token-in-None : goal.returns-in_err-token-in-None
returns-in_err-token-in-None c = record {
  adds = passed_on c.from_residual-in_err-token-in-None.result _ _ c.required_token.new.self _ _ c.from_residual-in_err-token-in-None.ensures.1 c.in_err-token-in-None.ensures.1 (λ e is. range_ends (code_seen c.args.start) (code_seen c.in_ok-end.end) (lists_seen c.args.lists.now) c.args.reader.now c.next_code.new.self c.in_ok-end.ensures.0 e (ap token_in (sym c.in-None.ensures) ∙ is));
  stays = λ wrong is. refl;
}
