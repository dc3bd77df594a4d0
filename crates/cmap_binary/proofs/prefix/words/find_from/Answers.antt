use Rattle.std.proofs.Common.{◌≡◌, ◌-◌, ◌/◌, ◌%◌, ◌^◌, Ok, Err, bit_and, subst, sym, arith}
use Rattle.std.specs.Prelude.{IfOk, IfSome, Result}
use Rattle.std.specs.Result.{result_ok}
use Rattle.std.proofs.lemmas.Nat.{and_mask}
use Rattle.cmap_binary.specs.PrefixWords.{bits_of}
use Rattle.cmap_binary.specs.WordsFound.{IsSearchedByte}
use Rattle.cmap_binary.specs.declared.prefix.words.Search.{Search}
use Rattle.cmap_binary.specs.declared.prefix.words.Word.{Word}
use Rattle.cmap_binary.proofs.BitsAhead.{byte_first}
use Rattle.cmap_binary.proofs.WordsSearched.{IsSearched-more, IsSearched-start}
use Rattle.cmap_binary.proofs.prefix.words.find_from.Goals.{then-held-lt8, else-held-lt8}
use Rattle.cmap_binary.proofs.prefix.words.find_from.Goals as goal

pub find-requires-clause-start : goal.find-requires-clause-start
find-requires-clause-start c =
    elim c.if-held-lt8.branch [
      | then-held-lt8 w ↦ rw (w.start-is, c.deref.ensures.value) (IsSearched-start _ _)
      | else-held-lt8 w ↦
          let n = c.args.number / 2 ^ (c.args.held - 8) in
          let byte = bit_and n 255 in
          let is : byte ≡ n % 2 ^ 8 = and_mask n 8 in
          let looked = c.requires.knows.searches byte w.index.result.now (omega (arith, is, c.requires.knows.a_search_each)) in
          rw (w.start-is, c.deref.ensures.value, byte_first c.args.held c.args.number byte w.if-held-lt8.false is)
          (IsSearched-more (subst (IsSearchedByte c.args.counts.now.items byte) (sym w.index.ensures) looked) (bits_of (c.args.held - 8) c.args.number))
    ]

some_ok : (P : Word → Type 0) (r : Result Word Search) → IfOk r P → IfSome (result_ok r) P
some_ok P (Ok word) found = found
some_ok P (Err so_far) found = tt

pub returns-clause-found : goal.returns-clause-found
returns-clause-found c = rw c.ok.ensures.value (some_ok _ c.find.result (rw (c.deref.ensures.value, c.deref-2.ensures.value) at c.find.ensures.found))
