use Rattle.cmap_load.proofs.loader.Loader.take.Goals as goal

pub returns-in-Ok-clause-read : goal.returns-in-Ok-clause-read
returns-in-Ok-clause-read g c = record {
  count = c.in_ok-length.length;
  file = c.in_ok-length.file;
  opened = c.in_ok-length.ensures.0;
  added = c.in-Ok.ensures.added;
  begun = c.in-Ok.ensures.begun;
  is_next = c.in-Ok.ensures.next;
}
