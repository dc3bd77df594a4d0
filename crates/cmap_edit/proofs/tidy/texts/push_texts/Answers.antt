use Rattle.cmap_edit.proofs.TextsAdded.{texts_merged}
use Rattle.cmap_edit.proofs.tidy.texts.push_texts.Goals as goal

pub push_rows-requires-clause-layout : goal.push_rows-requires-clause-layout
push_rows-requires-clause-layout c = texts_merged
