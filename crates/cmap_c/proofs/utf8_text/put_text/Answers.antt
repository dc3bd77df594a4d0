use Rattle.std.proofs.Common.{◌∙◌, ap, subst, sym}
use Rattle.cmap_handles.specs.Handles.{utf8_of}
use Rattle.cmap_handles.specs.Rooms.{IsPut}
use Rattle.cmap_c.proofs.TextsOfBytes.{encode_one}
use Rattle.cmap_c.proofs.utf8_text.put_text.Goals as goal

pub returns-in-Char : goal.returns-in-Char
returns-in-Char c = subst (λ bytes. IsPut bytes c.args.room.now c.put.new.room c.put.new.needed c.put.result)
    (c.as_bytes.ensures.value ∙ c.encode_utf8.ensures.value ∙ sym (encode_one c.in-Char.c) ∙ ap utf8_of (sym c.in-Char.is)) c.put.ensures

pub returns-in-String : goal.returns-in-String
returns-in-String c = subst (λ bytes. IsPut bytes c.args.room.now c.put-in-String.new.room c.put-in-String.new.needed c.put-in-String.result)
    (c.as_bytes-in-String.ensures.value ∙ ap utf8_of (sym c.in-String.is)) c.put-in-String.ensures
