use Rattle.std.proofs.Common.{◌≡◌, ◌∙◌, Some, None, ap, refl, sym}
use Rattle.std.specs.Prelude.{option_map}
use Rattle.cmap_tokens.specs.Texts.{text_of_characters}
use Rattle.cmap_tokens.specs.TextSeen.{text_seen}
use Rattle.cmap_layers.specs.Lookups.{bf_of}
use Rattle.cmap_handles.specs.Rooms.{IsPut}
use Rattle.cmap_handles.specs.declared.status.Status.TheVariants.{Absent, NoMemory}
use Rattle.cmap_handles.proofs.HandlesRead.{found_in, found_some, none_found}
use Rattle.cmap_handles.proofs.StatusNumbers.{not_both, put_no_memory}
use Rattle.cmap_c.proofs.TextsOfBytes.{holds_of_bytes, holds_of_none}
use Rattle.cmap_c.proofs.utf8_text.hayro_cmap_text.Goals as goal

pub returns-in_default-clause-text : goal.returns-in_default-clause-text
returns-in_default-clause-text c = λ _. none_found _ _ _ _ c.in_default.ensures.map (c.number.ensures, refl, refl)

pub returns-in_default-clause-err : goal.returns-in_default-clause-err
returns-in_default-clause-err c = λ memory. absurd (not_both Absent NoMemory refl c.number.ensures memory)

pub returns-in_default-clause-unwritten : goal.returns-in_default-clause-unwritten
returns-in_default-clause-unwritten c = λ memory. absurd (not_both Absent NoMemory refl c.number.ensures memory)

pub returns-in-Ok-Some-clause-text : goal.returns-in-Ok-Some-clause-text
returns-in-Ok-Some-clause-text c =
    let layers = c.in-Some.layers.now in
    let found : Some (text_seen c.in-Ok-Some.text) ≡ option_map text_of_characters (bf_of layers c.args.code) = sym (ap (option_map text_seen) c.in-Ok-Some.field-0-is) ∙ c.in-Ok-Some.ensures.text.value in
    λ _. found_in _ _ layers _ _ c.in-Some.ensures.map
    (holds_of_bytes (λ bytes. IsPut bytes c.args.room.now c.put_text.new.room c.put_text.new.needed c.put_text.result) _ (bf_of layers c.args.code) c.in-Ok-Some.text found c.put_text.ensures)

pub returns-in-Ok-Some-clause-err : goal.returns-in-Ok-Some-clause-err
returns-in-Ok-Some-clause-err c = λ memory. absurd (put_no_memory _ _ _ _ _ c.put_text.ensures memory)

pub returns-in-Ok-Some-clause-unwritten : goal.returns-in-Ok-Some-clause-unwritten
returns-in-Ok-Some-clause-unwritten c = λ memory. absurd (put_no_memory _ _ _ _ _ c.put_text.ensures memory)

pub returns-in-Ok-None-clause-text : goal.returns-in-Ok-None-clause-text
returns-in-Ok-None-clause-text c =
    let layers = c.in-Some.layers.now in
    let found : None ≡ option_map text_of_characters (bf_of layers c.args.code) = sym (ap (option_map text_seen) c.in-Ok-None.field-0-is) ∙ c.in-Ok-None.ensures.text.value in
    λ _. found_in _ _ layers _ _ c.in-Some.ensures.map (holds_of_none _ _ (bf_of layers c.args.code) found (c.number-in-Ok-None.ensures, refl, refl))

pub returns-in-Ok-None-clause-err : goal.returns-in-Ok-None-clause-err
returns-in-Ok-None-clause-err c = λ memory. absurd (not_both Absent NoMemory refl c.number-in-Ok-None.ensures memory)

pub returns-in-Ok-None-clause-unwritten : goal.returns-in-Ok-None-clause-unwritten
returns-in-Ok-None-clause-unwritten c = λ memory. absurd (not_both Absent NoMemory refl c.number-in-Ok-None.ensures memory)

pub returns-in-Err-clause-text : goal.returns-in-Err-clause-text
returns-in-Err-clause-text c = λ other. absurd (other c.number-in-Err.ensures)

pub returns-in-Err-clause-err : goal.returns-in-Err-clause-err
returns-in-Err-clause-err c = λ _. found_some _ _ c.in-Some.layers.now _ c.in-Some.ensures.map c.in-Err.ensures.text.err

pub returns-in-Err-clause-unwritten : goal.returns-in-Err-clause-unwritten
returns-in-Err-clause-unwritten c = λ _. (refl, refl)
