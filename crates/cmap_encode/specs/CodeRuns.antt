-- Private aid: the keys of a run of codes.
use Rattle.cmap_runs.specs.Ranges.{Span}
use Rattle.cmap_encode.specs.declared.key_codes.CodeRun.{CodeRun}

abbrev pub run_span : CodeRun → Span
run_span run = record { start = run.range.start; end = run.range.end }
