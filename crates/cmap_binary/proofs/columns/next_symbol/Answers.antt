use Rattle.std.proofs.Common.{◌≡◌, ℕ, sym, ap, ◌∙◌, List, drop}
use Rattle.std.specs.Prelude.{Option, Some, None, IfSome, IfNone, MatchOption, slice_get}
use Rattle.std.proofs.lemmas.List.{drop_at}
use Rattle.std.proofs.lemmas.Option.{same_Some}
use Rattle.cmap_binary.specs.PrefixWords.{CodeWord, BeginsAt, Decodes}
use Rattle.cmap_values.specs.Only.{IsOnly, HoldsOfNone}
use Rattle.cmap_binary.specs.BinaryEntries.{SymbolAt}
use Rattle.cmap_binary.proofs.Fronts.{pair_is}
use Rattle.cmap_binary.proofs.columns.next_symbol.Goals as goal

rest_is : (table : List CodeWord) (stream rest : List ℕ) (symbol len : ℕ) → Decodes table stream symbol len rest → rest ≡ drop len stream
rest_is table stream rest symbol len d = sym (ap (drop len) d.bits_are ∙ drop_at d.word rest len d.word_is.length_is)

symbol_found : (o : Option ℕ) (table : List CodeWord) (stream rest : List ℕ) → IfSome o (λ symbol. (len : ℕ) × Decodes table stream symbol len rest) → IfNone o ((i : ℕ) → BeginsAt table stream i → ⊥)
    → ((i j : ℕ) → BeginsAt table stream i → BeginsAt table stream j → i ≡ j) → MatchOption o (HoldsOfNone (SymbolAt table stream)) (λ symbol. IsOnly (SymbolAt table stream) (symbol, rest))
symbol_found None table stream rest found none only = λ other (len, d). none d.index (d.word, other.1, (_, d.word_is), d.bits_are)
symbol_found (Some symbol) table stream rest (len, d) none only = record {
  holds = (len, d);
  alone = λ other (size, e).
      let same : e.index ≡ d.index = only e.index d.index (e.word, other.1, (_, e.word_is), e.bits_are) (d.word, rest, (_, d.word_is), d.bits_are) in
      let one : CodeWord = record { len = size; symbol = other.0 } in
      let two : CodeWord = record { len = len; symbol = symbol } in
      let entries : one ≡ two = same_Some one two (sym e.word_is.entry_is ∙ ap (slice_get table) same ∙ d.word_is.entry_is) in
      pair_is other (symbol, rest) (ap (λ w. w.symbol) entries) (rest_is table stream other.1 other.0 size e ∙ ap (λ w. drop w.len stream) entries ∙ sym (rest_is table stream rest symbol len d));
}

pub returns : goal.returns
returns c = symbol_found c.take_symbol.result _ _ _ c.take_symbol.ensures.found c.take_symbol.ensures.none c.take_symbol.ensures.only
