use Rattle.std.proofs.Common.{refl, sym, ap, ◌∙◌}
use Rattle.cmap_values.specs.DeclarationsSeen.{lists_seen}
use Rattle.cmap_values.specs.UnitsSeen.{units_seen}
use Rattle.cmap_text.specs.TextFiles.{bf_char}
use Rattle.cmap_text.specs.TextReading.{entry_after}
use Rattle.cmap_text.specs.TextSeen.{code_seen}
use Rattle.cmap_text.specs.TokenParsers.{run}
use Rattle.cmap_text.proofs.EntriesRead.{code_starts, entry_wrong}
use Rattle.cmap_text.proofs.EntrySteps.{char_text}
use Rattle.cmap_text.proofs.Refusals.{no_memory, passed_on}
use Rattle.cmap_text.proofs.entries.add_longer_text.Goals as goal

pub returns-in_ok-add_text-in-Some-longer_destination : goal.returns-in_ok-add_text-in-Some-longer_destination
returns-in_ok-add_text-in-Some-longer_destination c =
    let code = code_seen c.in-Some.code in
    let mid = c.two_byte_code.new.self in
    let units = c.in-Some-longer_destination.units in
    let (piece, reads, is) = c.in-Some.ensures in
    let (text, next, destination) = c.in-Some-longer_destination.ensures in (
      (
        code,
        mid,
        code_starts bf_char c.args.reader.now mid piece code reads is,
        char_text code (lists_seen c.args.lists.now) mid (units_seen units) c.longer_destination.new.self (rw (next, destination) refl) (lists_seen c.add_text.new.lists) c.in_ok-add_text-in-Some-longer_destination.ensures.adds,
      ),
      tt,
    )

pub returns-in_err-add_bf_char-in-None : goal.returns-in_err-add_bf_char-in-None
returns-in_err-add_bf_char-in-None c =
    let code = code_seen c.in-Some.code in
    let mid = c.two_byte_code.new.self in
    let lists = lists_seen c.args.lists.now in
    let (piece, reads, is) = c.in-Some.ensures in
    let starts = code_starts bf_char c.args.reader.now mid piece code reads is in
    let result = c.from_residual-in_err-add_bf_char-in-None in
    passed_on result.result _ _ c.add_bf_char.new.reader _ _ result.ensures.1 c.in_err-add_bf_char-in-None.ensures.adds.1
    (λ e wrong. entry_wrong bf_char lists c.args.reader.now mid code starts e (ap (run (entry_after bf_char code lists)) (sym c.in-None.ensures) ∙ wrong))

pub returns-in_err-add_text-in-Some-longer_destination : goal.returns-in_err-add_text-in-Some-longer_destination
returns-in_err-add_text-in-Some-longer_destination c =
    let fault = c.in_err-add_text-in-Some-longer_destination.ensures.fails in
    no_memory c.from_residual.result _ _ _ (rw fault at c.from_residual.ensures.1)

pub returns-in_ok-add_bf_char-in-None : goal.returns-in_ok-add_bf_char-in-None
returns-in_ok-add_bf_char-in-None c =
    let code = code_seen c.in-Some.code in
    let mid = c.two_byte_code.new.self in
    let (piece, reads, is) = c.in-Some.ensures in
    let same = ap (run (entry_after bf_char code (lists_seen c.args.lists.now))) (sym c.in-None.ensures) in
    let starts = code_starts bf_char c.args.reader.now mid piece code reads is in
    ((code, mid, starts, same ∙ c.in_ok-add_bf_char-in-None.ensures.adds.0), tt)
