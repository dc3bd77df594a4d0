use Rattle.std.proofs.Common.{◌≤◌, length, ◌∙◌, arith}
use Rattle.cmap_text.proofs.Refusals.{handed_on, passed_on}
use Rattle.cmap_values.specs.DeclarationsSeen.{lists_seen}
use Rattle.cmap_text.specs.TextReading.{code_fault, code_or_closer, entry_after}
use Rattle.cmap_text.specs.TextSeen.{code_seen, section_seen}
use Rattle.cmap_text.proofs.EntriesRead.{body_closes, body_wrong, entry_read, entry_wrong}
use Rattle.cmap_text.proofs.TokenParsers.{head-shorter, is_there}
use Rattle.cmap_text.proofs.sections.read_entries.Goals as goal

pub returns-in_err-read_plain_entries : goal.returns-in_err-read_plain_entries
returns-in_err-read_plain_entries c =
    passed_on c.from_residual.result _ _ c.read_plain_entries.new.reader _ _ c.from_residual.ensures.1 c.in_err-read_plain_entries.ensures.reads.1 (λ e is. c.loop-reader.invariant ∙ is)

pub loop-reader-smaller : goal.loop-reader-smaller
loop-reader-smaller c =
    let section = section_seen c.args.section in
    let entry = entry_after section (code_seen c.in-Ok-Some.start) (lists_seen c.read_plain_entries.new.lists) in
    let starts = rw c.in-Ok-Some.field-0-is at c.in-Ok-Some.ensures.0 in
    let fewer : length c.read_plain_entries.new.reader.tokens ≤ length c.loop-reader.reader.tokens = c.in_ok-read_plain_entries.ensures.fewer in
    omega (arith, fewer, head-shorter code_fault (code_or_closer section) c.read_plain_entries.new.reader _ starts, (is_there entry c.next_start.new.reader _ c.in_ok-read_entry-in-Ok-Some.ensures.adds.0).2)

pub loop-reader-preserved : goal.loop-reader-preserved
loop-reader-preserved c =
    let starts = rw c.in-Ok-Some.field-0-is at c.in-Ok-Some.ensures.0 in
    let entry = entry_read (section_seen c.args.section) (lists_seen c.read_plain_entries.new.lists) c.read_plain_entries.new.reader c.next_start.new.reader (code_seen c.in-Ok-Some.start) starts (lists_seen c.read_entry.new.lists) c.read_entry.new.reader c.in_ok-read_entry-in-Ok-Some.ensures.adds.0 in
    c.loop-reader.invariant ∙ c.in_ok-read_plain_entries.ensures.reads.0 ∙ entry

pub returns-in_err-read_entry-in-Ok-Some : goal.returns-in_err-read_entry-in-Ok-Some
returns-in_err-read_entry-in-Ok-Some c =
    let starts = rw c.in-Ok-Some.field-0-is at c.in-Ok-Some.ensures.0 in
    passed_on c.from_residual-in_err-read_entry-in-Ok-Some.result _ _ c.read_entry.new.reader _ _ c.from_residual-in_err-read_entry-in-Ok-Some.ensures.1 c.in_err-read_entry-in-Ok-Some.ensures.adds.1 (λ e is. c.loop-reader.invariant ∙ c.in_ok-read_plain_entries.ensures.reads.0 ∙ entry_wrong (section_seen c.args.section) (lists_seen c.read_plain_entries.new.lists) c.read_plain_entries.new.reader c.next_start.new.reader (code_seen c.in-Ok-Some.start) starts e is)

pub returns-in-Ok-None : goal.returns-in-Ok-None
returns-in-Ok-None c =
    let closes = rw c.in-Ok-None.field-0-is at c.in-Ok-None.ensures.0 in
    (c.loop-reader.invariant ∙ c.in_ok-read_plain_entries.ensures.reads.0 ∙ body_closes (section_seen c.args.section) (lists_seen c.read_plain_entries.new.lists) c.read_plain_entries.new.reader c.next_start.new.reader closes, tt)

pub returns-in-Err : goal.returns-in-Err
returns-in-Err c = (tt, handed_on c.in-Err.fault c.next_start.new.reader _ _ c.in-Err.ensures.1 (λ e is. c.loop-reader.invariant ∙ c.in_ok-read_plain_entries.ensures.reads.0 ∙ body_wrong (section_seen c.args.section) (lists_seen c.read_plain_entries.new.lists) c.read_plain_entries.new.reader c.next_start.new.reader e is))
