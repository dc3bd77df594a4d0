use Rattle.std.proofs.Common.{refl}
use Rattle.std.specs.Prelude.{Some}
use Rattle.cmap_tokens.specs.TokenSeen.{token_seen}
use Rattle.cmap_text.proofs.tokens.TokenReader.code.Goals as goal
use Rattle.cmap_text.proofs.tokens.TokenReader.code.Goals.{in-Ok-Some, in-Ok-None, in-Err}

pub returns : goal.returns
returns c = elim c.match-code.branch [
  | in-Ok-Some w ↦ let read = rw w.in-Ok-Some.field-0-is at w.in-Ok-Some.ensures in rw (w.result-is, ← read, ← c.self.view_is) (refl, tt)
  | in-Ok-None w ↦ let none = rw w.in-Ok-None.field-0-is at w.in-Ok-None.ensures in rw (w.result-is, w.wrong.ensures, w.code_fault.ensures, ← none, ← c.self.view_is) (tt, (Some (token_seen c.args.token.now), refl, refl))
  | in-Err w ↦ rw w.result-is (tt, tt)
]
