use Rattle.std.proofs.lemmas.Result.{on_err_weaker}
use Rattle.cmap_layers.specs.Lookups.{bf_of}
use Rattle.cmap_unicode.proofs.OneText.{long_text}
use Rattle.cmap_unicode.proofs.extractor.text_in.Goals as goal

pub returns-in-Some : goal.returns-in-Some
returns-in-Some c = rw c.in-Some.is (record {
  value = c.text.ensures.text.value;
  err = on_err_weaker c.text.result (long_text (bf_of c.in-Some.map.now c.args.code)) c.text.ensures.text.err;
})
