use Rattle.std.proofs.Common.{refl, ◌∷◌, []}
use Rattle.std.proofs.lemmas.Result.{IfOk-from_err}
use Rattle.cmap_values.specs.DeclarationsSeen.{lists_seen}
use Rattle.cmap_text.specs.TextFiles.{bf_char}
use Rattle.cmap_text.specs.TextSeen.{code_seen}
use Rattle.cmap_text.proofs.EntriesRead.{code_starts}
use Rattle.cmap_text.proofs.EntrySteps.{char_text}
use Rattle.cmap_text.proofs.Refusals.{only_memory}
use Rattle.cmap_text.proofs.entries.add_plain_text.Goals as goal

pub returns-in_default : goal.returns-in_default
returns-in_default c = record { adds = (c.in_default.ensures, refl); fails = tt }

pub returns-in_err-add_text : goal.returns-in_err-add_text
returns-in_err-add_text c = record {
  adds = IfOk-from_err c.from_residual.result _ c.from_residual.ensures.0;
  fails = only_memory c.from_residual.result (rw c.in_err-add_text.ensures.fails at c.from_residual.ensures.1);
}

pub returns : goal.returns
returns c =
    let code = code_seen c.in-Some.code in
    let (piece, text, between, reads, is, next, destination) = c.in-Some.ensures in
    record {
      adds = (
        code,
        between,
        code_starts bf_char c.args.reader.now between piece code reads is,
        char_text code (lists_seen c.args.lists.now) between (c.in-Some.unit ∷ []) c.two_byte_code_and_unit.new.self (rw (next, destination) refl) (lists_seen c.add_text.new.lists) c.in_ok-add_text.ensures.adds,
      );
      fails = tt;
    }
