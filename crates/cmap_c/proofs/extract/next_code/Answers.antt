use Rattle.std.proofs.Common.{◌-◌, ◌<◌, ap, length, refl, subst}
use Rattle.cmap_unicode.specs.Characters.{IsNextCharacter, font_of}
use Rattle.cmap_c.specs.ExtractedParts.{IsPutAt}
use Rattle.cmap_c.proofs.extract.next_code.Goals as goal

pub returns-then-put_at : goal.returns-then-put_at
returns-then-put_at c =
    let found = c.in-Ok-Some.found in
    let is_next : IsNextCharacter (font_of c.args.font.now) c.args.string.now found = rw c.in-Ok-Some.field-0-is at c.in-Ok-Some.ensures.character in
    let len = rw c.in-Ok-Some.field-0-is at c.in-Ok-Some.ensures.length in
    record {
      character = found;
      is_next = is_next;
      some = len.0.0;
      fits = len.1;
      seen = c.code_of.ensures;
      text = subst (λ bytes. IsPutAt bytes c.args.start c.args.text.now c.put_at.new.room) c.utf8_of-bytes.ensures c.if-put_at.ensures;
    }

pub returns-in-Ok-Some : goal.returns-in-Ok-Some
returns-in-Ok-Some c =
    let found = c.in-Ok-Some.found in
    let is_next : IsNextCharacter (font_of c.args.font.now) c.args.string.now found = rw c.in-Ok-Some.field-0-is at c.in-Ok-Some.ensures.character in (
      c.if-put_at.ensures.0,
      record {
        character = found;
        is_next = is_next;
        passes = subst (λ bytes. length c.args.text.now - c.args.start < length bytes) c.utf8_of-bytes.ensures c.if-put_at.ensures.1;
      },
    )

pub returns-in-Ok-None : goal.returns-in-Ok-None
returns-in-Ok-None c = (refl, rw c.in-Ok-None.field-0-is at c.in-Ok-None.ensures.character)

pub returns : goal.returns
returns c = (refl, c.in-Err.ensures.err)

pub put_at-requires : goal.put_at-requires
put_at-requires c = c.requires

pub code_of-requires : goal.code_of-requires
code_of-requires c = ap length c.utf8_of-bytes.ensures
