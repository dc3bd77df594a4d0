-- The glyphs of codes in a row.
use Rattle.std.proofs.Common.{◌≡◌, ℕ, zero, suc, ◌+◌, ◌-◌, ◌≤◌, ◌⊎◌, List, Option, Some, None, refl, sym, ap, ◌∙◌, subst, inl, inr, arith}
use Rattle.std.specs.Prelude.{IsSome, option_and_then}
use Rattle.std.specs.Option.{option_or}
use Rattle.cmap_layers.specs.Layers.{Layer}
use Rattle.cmap_layers.specs.declared.stretches.Cids.{Cids}
use Rattle.cmap_layers.specs.declared.stretches.Cids.TheVariants.{Absent, CountOn as counts_on, Same}
use Rattle.cmap_layers.specs.declared.stretches.CidStretch.{CidStretch}
use Rattle.cmap_unicode.specs.Given.{AreDeclaredCids, Fits, Given, cid_given, given, given_after}
use Rattle.cmap_encode.specs.Glyphs.{glyph_by, glyph_in, glyph_of_cid}
use Rattle.cmap_encode.specs.GlyphsSeen.{AreGlyphs, Fit, IsDeclaredSo, glyph_after}
use Rattle.cmap_encode.specs.declared.glyphs.Glyphs.{Glyphs}
use Rattle.cmap_encode.specs.declared.glyphs.Glyphs.TheVariants.{CountOn, Missing, Undeclared}
use Rattle.cmap_encode.specs.declared.glyphs.GlyphStretch.{GlyphStretch}

-- a CID that isn't 0
pub some_glyph : (cid : ℕ) → (cid ≡ 0 → ⊥) → glyph_of_cid cid ≡ Some cid
some_glyph zero some = absurd (some refl)
some_glyph (suc n) some = refl

module _ (layers : List Layer) (len first : ℕ) (stretch : CidStretch) (are : AreDeclaredCids layers len first stretch) where
  given_there : (cids : Cids) (count : ℕ) → stretch.cids ≡ cids → first + count ≤ stretch.last → given layers (first + count) len ≡ given_after cids count
  given_there cids count is within =
      let back : first + count - first ≡ count = omega arith in
      are.declared (first + count) (omega arith) within ∙ ap (λ these. given_after these (first + count - first)) is ∙ ap (given_after cids) back

  glyph_there : (cids : Cids) (count : ℕ) → stretch.cids ≡ cids → first + count ≤ stretch.last → glyph_in layers (first + count) len ≡ option_and_then glyph_of_cid (cid_given (given_after cids count))
  glyph_there cids count is within = ap (λ declared. option_and_then glyph_of_cid (cid_given declared)) (given_there cids count is within)

  abbrev AreIn : GlyphStretch → Type 0
  AreIn found = AreGlyphs (λ n. glyph_in layers n len) (λ n. given layers n len) first found

  pub undeclared : stretch.cids ≡ Absent → AreIn (record { glyphs = Undeclared; last = stretch.last })
  undeclared is = record {
    within = are.within;
    glyphs = λ count within. glyph_there Absent count is within;
    declared = λ count within. given_there Absent count is within;
    fit = tt;
  }

  some_given : (declared : Option Given) (one : Given) → declared ≡ Some one → IsSome declared
  some_given declared one is = subst IsSome (sym is) refl

  pub notdefs : (cid : ℕ) → stretch.cids ≡ Same cid → AreIn (record { glyphs = Missing; last = stretch.last })
  notdefs cid is = record {
    within = are.within;
    glyphs = λ count within. glyph_there (Same cid) count is within;
    declared = λ count within. some_given (given layers (first + count) len) _ (given_there (Same cid) count is within);
    fit = tt;
  }

  pub first_is_notdef : stretch.cids ≡ counts_on 0 → AreIn (record { glyphs = Missing; last = first })
  first_is_notdef is = let within = are.within in record {
    within = omega arith;
    glyphs = λ count here. let none : count ≡ 0 = omega arith in glyph_there (counts_on 0) count is (omega arith) ∙ ap (λ k. glyph_of_cid (0 + k)) none;
    declared = λ count here. some_given (given layers (first + count) len) _ (given_there (counts_on 0) count is (omega arith));
    fit = tt;
  }

  pub counted : (cid : ℕ) → stretch.cids ≡ counts_on cid → (cid ≡ 0 → ⊥) → AreIn (record { glyphs = CountOn cid; last = stretch.last })
  counted cid is some = record {
    within = are.within;
    glyphs = λ count within. glyph_there (counts_on cid) count is within ∙ some_glyph (cid + count) (λ zero. some (omega arith));
    declared = λ count within. tt;
    fit = subst (λ cids. Fits cids (stretch.last - first)) is are.fit;
  }

-- codes without glyphs
pub no_glyph_after : (glyphs : Glyphs) → ((cid : ℕ) → glyphs ≡ CountOn cid → ⊥) → (k : ℕ) → glyph_after glyphs k ≡ None
no_glyph_after (CountOn cid) none k = absurd (none cid refl)
no_glyph_after Undeclared none k = refl
no_glyph_after Missing none k = refl

-- glyphs fit for fewer codes
pub fewer_fit : (glyphs : Glyphs) (more fewer : ℕ) → fewer ≤ more → Fit glyphs more → Fit glyphs fewer
fewer_fit (CountOn cid) more fewer le fit = omega (arith, fit)
fewer_fit Undeclared more fewer le fit = tt
fewer_fit Missing more fewer le fit = tt

-- ---- by lower layers, and else by all
module _ (lower all : List Layer) (len first : ℕ) where
  abbrev AreBy : GlyphStretch → Type 0
  AreBy found = AreGlyphs (λ n. glyph_by lower all n len) (λ n. given all n len) first found

  pub by_lower : (stretch : GlyphStretch) (cid : ℕ) → stretch.glyphs ≡ CountOn cid → AreGlyphs (λ n. glyph_in lower n len) (λ n. given lower n len) first stretch → AreBy stretch
  by_lower stretch cid is are = record {
    within = are.within;
    glyphs = λ count within.
        let here = are.glyphs count within ∙ ap (λ glyphs. glyph_after glyphs count) is in
        ap (λ o. option_or o (glyph_in all (first + count) len)) here ∙ sym (ap (λ glyphs. glyph_after glyphs count) is);
    declared = λ count within. subst (λ glyphs. IsDeclaredSo glyphs (given all (first + count) len)) (sym is) tt;
    fit = are.fit;
  }

  pub by_all : (stretch found : GlyphStretch) (last : ℕ) → ((count : ℕ) → glyph_after stretch.glyphs count ≡ None) → first ≤ last → last ≤ stretch.last → last ≤ found.last → AreGlyphs (λ n. glyph_in lower n len) (λ n. given lower n len) first stretch
      → AreGlyphs (λ n. glyph_in all n len) (λ n. given all n len) first found → AreBy (record { glyphs = found.glyphs; last = last })
  by_all stretch found last none within in_stretch in_found are also = record {
    within = within;
    glyphs = λ count to. ap (λ o. option_or o (glyph_in all (first + count) len)) (are.glyphs count (omega arith) ∙ none count) ∙ also.glyphs count (omega arith);
    declared = λ count to. also.declared count (omega arith);
    fit = fewer_fit found.glyphs (found.last - first) (last - first) (omega arith) also.fit;
  }

-- codes that are declared have glyphs
pub shown_so : (glyph : ℕ → Option ℕ) (declared : ℕ → Option Given) (first : ℕ) (stretch : GlyphStretch) → AreGlyphs glyph declared first stretch → (stretch.glyphs ≡ Missing → ⊥) → (count : ℕ) → first + count ≤ stretch.last → (declared (first + count) ≡ None) ⊎ IsSome (glyph (first + count))
shown_so glyph declared first stretch are has count within = by_glyphs stretch.glyphs has (are.glyphs count within) (are.declared count within)
  where
    by_glyphs : (glyphs : Glyphs) → (glyphs ≡ Missing → ⊥) → glyph (first + count) ≡ glyph_after glyphs count → IsDeclaredSo glyphs (declared (first + count)) → (declared (first + count) ≡ None) ⊎ IsSome (glyph (first + count))
    by_glyphs (CountOn cid) has is so = inr (subst IsSome (sym is) refl)
    by_glyphs Undeclared has is so = inl so
    by_glyphs Missing has is so = absurd (has refl)
