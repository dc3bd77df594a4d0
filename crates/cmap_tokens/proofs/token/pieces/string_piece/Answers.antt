use Rattle.std.proofs.Common.{sym, ap, ◌∙◌, length-take-le}
use Rattle.std.specs.Prelude.{option_map}
use Rattle.std.proofs.lemmas.Option.{MatchOption-from_none}
use Rattle.cmap_tokens.specs.TokenReading.{string_of}
use Rattle.cmap_tokens.specs.TokenSeen.{token_seen}
use Rattle.cmap_tokens.proofs.StringLengths.{front_is_string}
use Rattle.cmap_tokens.proofs.token.pieces.string_piece.Goals as goal

pub returns-in_err-len : goal.returns-in_err-len
returns-in_err-len c = record {
  exact = ap (option_map (λ first. (token_seen first.0, first.1))) c.from_residual.ensures ∙ ap (string_of c.args.text.now) c.in_err-len.ensures.exact;
  within = MatchOption-from_none _ _ c.from_residual.ensures;
}

pub returns : goal.returns
returns c = record { exact = ap (string_of c.args.text.now) c.in_ok-len.ensures.exact; within = c.in_ok-len.ensures.within }

pub slice_bounds-result-end : goal.slice_bounds-result-end
slice_bounds-result-end c = sym (length-take-le c.in_ok-len.len c.args.text.now c.in_ok-len.ensures.within)

pub invariant_of-result : goal.invariant_of-result
invariant_of-result c = record { whole = front_is_string c.args.text.now c.in_ok-len.len c.in_ok-len.ensures.exact }
