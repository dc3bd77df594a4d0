use Rattle.std.proofs.Common.{inl, inr, refl}
use Rattle.cmap_handles.specs.declared.status.Status.TheVariants.{Absent, Done, NoMemory, NoRoom}
use Rattle.cmap_handles.proofs.StatusNumbers.{neither, not_both, put_ends, put_no_memory, put_not_absent}
use Rattle.cmap_c.proofs.message.hayro_cmap_message.Goals as goal

pub returns-in_default : goal.returns-in_default
returns-in_default c = record {
  message = λ put. absurd (neither Absent Done NoRoom refl refl c.number.ensures put);
  absent = λ _. c.in_default.ensures;
  unwritten = λ _. (refl, refl);
  ends = inr (inl c.number.ensures);
}

pub returns-in-Ok : goal.returns-in-Ok
returns-in-Ok c = record {
  message = λ _. (c.in-Some.cause, c.in-Some.ensures, c.as_bytes.result.now, c.put.ensures);
  absent = λ absent. absurd (put_not_absent _ _ _ _ _ c.put.ensures absent);
  unwritten = λ none. elim none [ inl absent ↦ absurd (put_not_absent _ _ _ _ _ c.put.ensures absent) | inr memory ↦ absurd (put_no_memory _ _ _ _ _ c.put.ensures memory) ];
  ends = inl (put_ends _ _ _ _ _ c.put.ensures);
}

pub returns-in-Err : goal.returns-in-Err
returns-in-Err c = record {
  message = λ put. absurd (neither NoMemory Done NoRoom refl refl c.number-in-Err.ensures put);
  absent = λ absent. absurd (not_both NoMemory Absent refl c.number-in-Err.ensures absent);
  unwritten = λ _. (refl, refl);
  ends = inr (inr c.number-in-Err.ensures);
}
