use Rattle.std.proofs.Common.{◌≡◌, ◌∙◌, ◌≤◌, ◌<◌, ◌⊎◌, ℕ, arith, inl, inr, length, refl, subst, sym}
use Rattle.std.proofs.Math.ListN.{length-map}
use Rattle.std.specs.List.{concat}
use Rattle.cmap_values.specs.NamesSeen.{names_seen}
use Rattle.cmap_c.proofs.uses.put_names.Goals.{then-used-name_lens-via-then-used-name_lens, then-used-name_lens-via-else-used-name_lens+then-len-room}
use Rattle.cmap_c.proofs.uses.put_names.Goals as goal

not_below : {a b : ℕ} → a ≤ b → b < a → ⊥
not_below few many = omega arith

pub returns-in_default : goal.returns-in_default
returns-in_default c = inl (c.number.ensures, refl, refl, refl, refl)

pub returns-then-used-name_lens : goal.returns-then-used-name_lens
returns-then-used-name_lens c =
    let count : length c.args.used.now ≡ length (names_seen c.args.used.now) = sym (length-map c.args.used.now (λ name. name.now)) in
    let bytes : c.in-Ok.bytes.items ≡ concat (names_seen c.args.used.now) = c.in-Ok.ensures in
    let needed : c.len.result ≡ length (concat (names_seen c.args.used.now)) = rw (c.in-Ok.bytes.ok.0, bytes) at c.len.ensures in
    let passed : (length c.args.name_lens.now < length (names_seen c.args.used.now)) ⊎ (length c.args.room.now < length (concat (names_seen c.args.used.now))) =
    elim c.then-used-name_lens.branch [
      | then-used-name_lens-via-then-used-name_lens w ↦ inl (rw count at w.if-used-name_lens.true)
      | then-used-name_lens-via-else-used-name_lens+then-len-room w ↦ inr (rw (w.len-else-used-name_lens.ensures, c.in-Ok.bytes.ok.0, bytes) at w.if-len-room.true)
    ] in
    inr (count, needed, inr (passed, c.number-then-used-name_lens.ensures, refl, refl))

pub returns : goal.returns
returns c =
    let count : length c.args.used.now ≡ length (names_seen c.args.used.now) = sym (length-map c.args.used.now (λ name. name.now)) in
    let bytes : c.in-Ok.bytes.items ≡ concat (names_seen c.args.used.now) = c.in-Ok.ensures in
    let few : length (names_seen c.args.used.now) ≤ length c.args.name_lens.now = rw count at c.if-used-name_lens.false in
    let fits : length (concat (names_seen c.args.used.now)) ≤ length c.args.room.now = rw (c.len-else-used-name_lens.ensures, c.in-Ok.bytes.ok.0, bytes) at c.if-len-room.false in
    let put = rw (c.deref.ensures.value, bytes) at c.put.ensures in
    let lengths = rw (length-map (names_seen c.args.used.now) length) at c.fill.ensures in
    elim put.1 [
      | inl all ↦ inr (count, put.0, inl (few, fits, all.1, lengths, all.2))
      | inr none ↦ absurd (not_below fits none.0)
    ]

pub fill-requires : goal.fill-requires
fill-requires c = subst (λ n. n ≤ length c.args.name_lens.now) (sym (length-map (names_seen c.args.used.now) length ∙ length-map c.args.used.now (λ name. name.now))) c.if-used-name_lens.false
