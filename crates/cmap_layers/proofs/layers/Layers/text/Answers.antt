use Rattle.std.proofs.Common.{◌≡◌, ◌-◌, ◌<◌, sym, ap, ◌∙◌, subst, length}
use Rattle.std.specs.Prelude.{IfOk, OnErr, IsSomeAnd, option_map, option_and_then}
use Rattle.cmap_tokens.specs.TextSeen.{text_seen}
use Rattle.cmap_tokens.specs.Texts.{text_at, text_of_characters}
use Rattle.cmap_values.specs.UnitsSeen.{units_seen}
use Rattle.cmap_layers.specs.Lookups.{bf_at, bf_of}
use Rattle.cmap_layers.proofs.LayersSearched.{bf_of-deciding_bf, looked_some}
use Rattle.cmap_layers.proofs.layers.Layers.text.Goals as goal
use Rattle.cmap_layers.proofs.layers.Layers.text.Goals.{After-text_of}

pub returns-in_default : goal.returns-in_default
returns-in_default c =
    let none = rw c.as_slice.ensures.layers at c.in_default.ensures in
    record {
      text = record {
        value = sym (ap (option_map text_of_characters) (bf_of-deciding_bf c.args.self.now c.args.code ∙ ap (option_and_then (λ entry. bf_at entry c.args.code)) (sym none.found)));
        err = tt;
      };
      looks = none.looks;
    }

-- the text is that of the declaration that decides
decided : (c : After-text_of) → bf_of c.args.self.now c.args.code ≡ text_at (units_seen c.in-Some.found.now.units) (c.args.code - c.in-Some.found.now.range.start)
decided c =
    let found = rw c.as_slice.ensures.layers at c.in-Some.ensures.found in
    bf_of-deciding_bf c.args.self.now c.args.code ∙ ap (option_and_then (λ entry. bf_at entry c.args.code)) (sym found)

pub returns : goal.returns
returns c = record {
  text = record {
    value = subst (λ characters. IfOk c.text_of.result (λ text. option_map text_seen text ≡ option_map text_of_characters characters)) (sym (decided c)) c.text_of.ensures.value;
    err = subst (λ found. OnErr c.text_of.result (IsSomeAnd found (λ characters. 1 < length characters))) (sym (decided c)) c.text_of.ensures.err;
  };
  looks = looked_some _ _ _ _ _ (rw c.as_slice.ensures.layers at c.in-Some.ensures.looks);
}
