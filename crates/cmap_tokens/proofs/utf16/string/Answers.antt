use Rattle.std.proofs.Common.{[], ◌∷◌, ◌++◌, sym, arith}
use Rattle.std.proofs.lemmas.Iterator.Adapters.{option_map_id}
use Rattle.std.proofs.lemmas.Str.{chars-nil, IsUtf8-string_bytes}
use Rattle.cmap_tokens.proofs.TextsOfUnits.{chars-push, chars-all}
use Rattle.cmap_tokens.proofs.utf16.string.Goals as goal

pub loop-index-init : goal.loop-index-init
loop-index-init c = record { within = omega arith; written = rw (c.in_ok-text.ensures.bytes, chars-nil) (sym (option_map_id _)) }

pub loop-index-preserved : goal.loop-index-preserved
loop-index-preserved c = record {
  within = omega (arith, c.in-Some.ensures.after);
  written = chars-push _ _ (c.args.front.now ++ c.args.last ∷ []) c.in-Some.c c.loop-index.index c.in-Some.after _ (IsUtf8-string_bytes c.loop-index.text) c.in-Some.ensures.scalar c.in_ok-push.ensures.bytes c.in-Some.ensures.value c.loop-index.invariant.written;
}

pub returns : goal.returns
returns c = sym (chars-all _ c.args.front.now c.args.last c.loop-index.index _ c.loop-index-test.false c.loop-index.invariant.written)
