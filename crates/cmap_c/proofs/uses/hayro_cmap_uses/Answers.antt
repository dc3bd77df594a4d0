use Rattle.std.proofs.Common.{◌≡◌, ◌∙◌, ◌⊎◌, ℕ, List, ap, inl, inr, refl, subst}
use Rattle.std.specs.Prelude.{Option, option_map}
use Rattle.cmap_binary.specs.BundleSeen.{tables_given}
use Rattle.cmap_binary.specs.Bundles.{Bundle, PrefixTables}
use Rattle.cmap_values.specs.NamesSeen.{names_seen}
use Rattle.cmap_values.specs.Only.{IsOnly, HoldsOfNone}
use Rattle.cmap_load.specs.Layers.{AreUses, Means}
use Rattle.cmap_c.specs.NamedFiles.{AreUsesOver}
use Rattle.cmap_handles.specs.Rooms.{AreBothPut}
use Rattle.cmap_handles.specs.Statuses.{number}
use Rattle.cmap_handles.specs.declared.status.Status.TheVariants.{Done, NoMemory, NoRoom, Refused}
use Rattle.cmap_handles.proofs.StatusNumbers.{neither, not_both}
use Rattle.cmap_c.proofs.uses.hayro_cmap_uses.Goals as goal

-- the tables of a bundle that is lent are those of the handle's
module _ (bytes : List ℕ) (tables : Option PrefixTables) (lent held : Option Bundle) (of : tables ≡ option_map (λ b. b.tables) lent) (same : lent ≡ held) where
  only_over : (used : List (List ℕ)) → IsOnly (AreUses (Means tables) bytes) used → IsOnly (AreUsesOver held bytes) used
  unfolding AreUsesOver
  only_over used only = subst (λ given. IsOnly (AreUses (Means given) bytes) used) (of ∙ ap (option_map (λ b. b.tables)) same) only

  none_over : HoldsOfNone (AreUses (Means tables) bytes) → HoldsOfNone (AreUsesOver held bytes)
  unfolding AreUsesOver
  none_over none = subst (λ given. HoldsOfNone (AreUses (Means given) bytes)) (of ∙ ap (option_map (λ b. b.tables)) same) none

-- what the number says of names that are put, or for which memory ran out
module _ (Uses : List (List ℕ) → Type 0) (names : List (List ℕ)) (old_lengths new_lengths : List ℕ) (old_count count : ℕ) (old new : List ℕ) (old_needed needed status : ℕ) where
  record IsUsed : Type 0 where
    uses : (status ≡ number Done) ⊎ (status ≡ number NoRoom) → (used : List (List ℕ)) × IsOnly Uses used × AreBothPut used old_lengths new_lengths count old new needed status
    refuses : status ≡ number Refused → HoldsOfNone Uses
    unwritten : (status ≡ number Refused) ⊎ (status ≡ number NoMemory) → (new_lengths ≡ old_lengths) × (count ≡ old_count) × (new ≡ old) × (needed ≡ old_needed)
    ends : ((status ≡ number Done) ⊎ (status ≡ number NoRoom)) ⊎ ((status ≡ number Refused) ⊎ (status ≡ number NoMemory))

  ended : AreBothPut names old_lengths new_lengths count old new needed status → (status ≡ number Done) ⊎ (status ≡ number NoRoom)
  ended put = elim put.2 [ inl done ↦ inl done.2 | inr full ↦ inr full.1 ]

  used_as : (shown : List (List ℕ)) → shown ≡ names → IsOnly Uses names
      → ((status ≡ number NoMemory) × (new_lengths ≡ old_lengths) × (count ≡ old_count) × (new ≡ old) × (needed ≡ old_needed)) ⊎ AreBothPut shown old_lengths new_lengths count old new needed status → IsUsed
  used_as shown same only (inl none) = record {
    uses = λ put. absurd (neither NoMemory Done NoRoom refl refl none.0 put);
    refuses = λ refused. absurd (not_both NoMemory Refused refl none.0 refused);
    unwritten = λ _. (none.1, none.2, none.3, none.4);
    ends = inr (inr none.0);
  }
  used_as shown same only (inr both) =
      let put : AreBothPut names old_lengths new_lengths count old new needed status = subst (λ names. AreBothPut names old_lengths new_lengths count old new needed status) same both in
      record {
        uses = λ _. (names, only, put);
        refuses = λ refused. absurd (neither Refused Done NoRoom refl refl refused (ended put));
        unwritten = λ none. elim none [
          | inl refused ↦ absurd (neither Refused Done NoRoom refl refl refused (ended put))
          | inr memory ↦ absurd (neither NoMemory Done NoRoom refl refl memory (ended put))
        ];
        ends = inl (ended put);
      }

pub returns-in-Ok-Some : goal.returns-in-Ok-Some
returns-in-Ok-Some c =
    let bytes = c.args.data.now in
    let used : List (List ℕ) = names_seen c.in-Ok-Some.used.items in
    let only : IsOnly (AreUses (Means (tables_given c.tables_of.result)) bytes) used = rw c.in-Ok-Some.field-0-is at c.in-Ok-Some.ensures in
    let put = c.put_names in
    let is : IsUsed (AreUsesOver c.args.bundle.now.slot.bundle bytes) used c.args.name_lens.now put.new.name_lens c.args.names.now put.new.names c.args.room.now put.new.room c.args.needed.now put.new.needed put.result =
    used_as _ _ _ _ _ _ _ _ _ _ _ _ (ap names_seen c.deref.ensures.value) (only_over bytes _ _ _ c.tables_of.ensures c.bundle.ensures.bundle used only) put.ensures in
    record { same = c.bundle.follows.holds-at-none; uses = is.uses; refuses = is.refuses; unwritten = is.unwritten; ends = is.ends }

pub returns-in-Ok-None : goal.returns-in-Ok-None
returns-in-Ok-None c =
    let none : HoldsOfNone (AreUses (Means (tables_given c.tables_of.result)) c.args.data.now) = rw c.in-Ok-None.field-0-is at c.in-Ok-None.ensures in
    record {
      same = c.bundle.follows.holds-at-none;
      uses = λ put. absurd (neither Refused Done NoRoom refl refl c.number.ensures put);
      refuses = λ _. none_over c.args.data.now _ _ _ c.tables_of.ensures c.bundle.ensures.bundle none;
      unwritten = λ _. (refl, refl, refl, refl);
      ends = inr (inl c.number.ensures);
    }

pub returns-in-Err : goal.returns-in-Err
returns-in-Err c = record {
  same = c.bundle.follows.holds-at-none;
  uses = λ put. absurd (neither NoMemory Done NoRoom refl refl c.number-in-Err.ensures put);
  refuses = λ refused. absurd (not_both NoMemory Refused refl c.number-in-Err.ensures refused);
  unwritten = λ _. (refl, refl, refl, refl);
  ends = inr (inr c.number-in-Err.ensures);
}
