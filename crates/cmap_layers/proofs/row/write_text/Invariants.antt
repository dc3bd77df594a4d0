use Rattle.cmap_values.specs.DeclarationsSeen.{bf_entry_seen}
use Rattle.cmap_tokens.specs.Texts.{only_character}
use Rattle.cmap_layers.specs.Lookups.{bf_at}
use Rattle.cmap_layers.proofs.RowWritten.{IsWrittenTo}
use Rattle.cmap_layers.proofs.row.write_text.Given as goal

abbrev pub invariant-loop-index : goal.invariant-loop-index
invariant-loop-index l = IsWrittenTo (λ code. only_character (bf_at (bf_entry_seen l.declaration) code)) l.code l.fn.cids l.cids l.index
