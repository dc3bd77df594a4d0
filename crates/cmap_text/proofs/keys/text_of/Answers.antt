use Rattle.std.proofs.Common.{ap}
use Rattle.cmap_tokens.specs.TokenSeen.{token_seen}
use Rattle.cmap_text.proofs.ValuesRead.{text_given}
use Rattle.cmap_text.proofs.keys.text_of.Goals as goal

pub returns-in_ok-decode_into-in-Some-String : goal.returns-in_ok-decode_into-in-Some-String
returns-in_ok-decode_into-in-Some-String c =
    rw c.in-Some-String.is (text_given _ _ _ (ap token_seen (rw c.in-Some-String.is at c.in-Some-String.field-0-is)) c.in_ok-decode_into-in-Some-String.ensures.value c.in_ok-decode_into-in-Some-String.ensures.only)
