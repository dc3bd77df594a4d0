-- The name of a text is one name.
use Rattle.std.proofs.Common.{◌≡◌, refl, sym, ◌∙◌, ap, ℕ, ◌<◌, List, [], ◌∷◌, map, Some, None, get_or, zero-add, inl, inr, ◌⊎◌}
use Rattle.std.specs.Prelude.{false, IsTrue, unwrap_or, IsSome}
use Rattle.std.specs.List.{range_with_len}
use Rattle.std.proofs.lemmas.List.{get_or-map}
use Rattle.std.proofs.lemmas.List.FromFn.{get_or-map-range_with_len}
use Rattle.std.proofs.lemmas.Bool.{false≢true}
use Rattle.std.proofs.lemmas.Option.{none-some, same_Some}
use Rattle.std.specs.Borrow.{Bor}
use Rattle.cmap_values.specs.declared.names.CMapName.{CMapName}
use Rattle.cmap_values.specs.declared.names.CMapName.TheVariants.{N83pvRksjH, N90msRksjH, N90msRksjV, N90mspRksjH, N90mspRksjV, N90pvRksjH, AddRksjH, AddRksjV, AdobeCns1Ucs2, AdobeGb1Ucs2, AdobeJapan1Ucs2, AdobeKorea1Ucs2, B5pcH, B5pcV, CnsEucH, CnsEucV, ETenB5H, ETenB5V, ETenmsB5H, ETenmsB5V, EucH, EucV, ExtRksjH, ExtRksjV, GbEucH, GbEucV, GbkEucH, GbkEucV, Gbk2kH, Gbk2kV, GbkpEucH, GbkpEucV, GbpcEucH, GbpcEucV, H, HKscsB5H, HKscsB5V, IdentityH, IdentityV, KscEucH, KscEucV, KscmsUhcH, KscmsUhcHwH, KscmsUhcHwV, KscmsUhcV, KscpcEucH, UniCnsUcs2H, UniCnsUcs2V, UniCnsUtf16H, UniCnsUtf16V, UniGbUcs2H, UniGbUcs2V, UniGbUtf16H, UniGbUtf16V, UniJisUcs2H, UniJisUcs2HwH, UniJisUcs2HwV, UniJisUcs2V, UniJisUtf16H, UniJisUtf16V, UniKsUcs2H, UniKsUcs2V, UniKsUtf16H, UniKsUtf16V, V, Custom}
use Rattle.cmap_values.specs.CMapNames.{index_of_name, is_custom, name_bytes, IsNameOf, IsSameName}
use Rattle.cmap_values.specs.Names.{known_names, index_of_text}

abbrev pub variants : List CMapName
variants = N83pvRksjH ∷ N90msRksjH ∷ N90msRksjV ∷ N90mspRksjH ∷ N90mspRksjV ∷ N90pvRksjH ∷ AddRksjH ∷ AddRksjV ∷ AdobeCns1Ucs2 ∷ AdobeGb1Ucs2 ∷ AdobeJapan1Ucs2 ∷ AdobeKorea1Ucs2 ∷ B5pcH ∷ B5pcV ∷ CnsEucH ∷ CnsEucV ∷ ETenB5H ∷ ETenB5V ∷ ETenmsB5H ∷ ETenmsB5V ∷ EucH ∷ EucV ∷ ExtRksjH ∷ ExtRksjV ∷ GbEucH ∷ GbEucV ∷ GbkEucH ∷ GbkEucV ∷ Gbk2kH ∷ Gbk2kV ∷ GbkpEucH ∷ GbkpEucV ∷ GbpcEucH ∷ GbpcEucV ∷ H ∷ HKscsB5H ∷ HKscsB5V ∷ IdentityH ∷ IdentityV ∷ KscEucH ∷ KscEucV ∷ KscmsUhcH ∷ KscmsUhcHwH ∷ KscmsUhcHwV ∷ KscmsUhcV ∷ KscpcEucH ∷ UniCnsUcs2H ∷ UniCnsUcs2V ∷ UniCnsUtf16H ∷ UniCnsUtf16V ∷ UniGbUcs2H ∷ UniGbUcs2V ∷ UniGbUtf16H ∷ UniGbUtf16V ∷ UniJisUcs2H ∷ UniJisUcs2HwH ∷ UniJisUcs2HwV ∷ UniJisUcs2V ∷ UniJisUtf16H ∷ UniJisUtf16V ∷ UniKsUcs2H ∷ UniKsUcs2V ∷ UniKsUtf16H ∷ UniKsUtf16V ∷ V ∷ []

named : ℕ → CMapName
named k = get_or variants k (Custom (record { ref_ptr = (0, 0); now = [] }))

pub index-variant : (at : ℕ) (d : CMapName) → at < 65 → index_of_name (get_or variants at d) ≡ Some at
unfolding known_names
index-variant at d lt =
    let indices : map index_of_name variants ≡ map Some (range_with_len 0 65) = refl in
    sym (get_or-map index_of_name variants at d None lt) ∙ ap (λ indices. get_or indices at None) indices ∙ get_or-map-range_with_len Some 0 65 at at None lt (zero-add at)

-- a name is the one at its index, or custom
Sorted : CMapName → Type 0
Sorted name = ((k : ℕ) × (index_of_name name ≡ Some k) × (name ≡ named k) × (name_bytes name ≡ get_or known_names k []) × (index_of_text (name_bytes name) ≡ Some k) × (is_custom name ≡ false)) ⊎ ((text : Bor (List ℕ)) × (name ≡ Custom text))

sorted : (name : CMapName) → Sorted name
unfolding known_names named Sorted
sorted (Custom text) = inr (text, refl)
sorted name = inl (unwrap_or (index_of_name name) 0, refl, refl, refl, refl, refl)

-- the text of a name that has an index
known_text-of : (name : CMapName) (at : ℕ) → Sorted name → index_of_name name ≡ Some at → name_bytes name ≡ get_or known_names at []
unfolding Sorted
known_text-of name at (inl (k, here, named, text, text_at, known)) is = let same = same_Some k at (sym here ∙ is) in text ∙ ap (λ k. get_or known_names k []) same
known_text-of name at (inr (text, named)) is = absurd (none-some at (sym (ap index_of_name named) ∙ is))

pub known_text : (name : CMapName) (at : ℕ) → index_of_name name ≡ Some at → name_bytes name ≡ get_or known_names at []
known_text name at is = known_text-of name at (sorted name) is

-- a name that isn't custom has the index of its text
indexed : (name : CMapName) → Sorted name → ((text : Bor (List ℕ)) → name ≡ Custom text → ⊥) → index_of_text (name_bytes name) ≡ index_of_name name
unfolding Sorted
indexed name (inl (k, at, is, text, text_at, plain)) known = text_at ∙ sym at
indexed name (inr (text, is)) known = absurd (known text is)

pub index-of_known : (name : CMapName) → ((text : Bor (List ℕ)) → name ≡ Custom text → ⊥) → index_of_text (name_bytes name) ≡ index_of_name name
index-of_known name known = indexed name (sorted name) known

-- a name that has an index stands for its text
named_of : (text : List ℕ) (name : CMapName) → Sorted name → name_bytes name ≡ text → IsSome (index_of_name name) → IsNameOf text name
unfolding Sorted
named_of text name (inl x) same some = (same, λ custom other is. absurd (false≢true (sym x.5 ∙ custom)))
named_of text name (inr x) same some = absurd (false≢true (rw x.1 at some))

pub IsNameOf-own_text : (text : List ℕ) (name : CMapName) → name_bytes name ≡ text → IsSome (index_of_name name) → IsNameOf text name
IsNameOf-own_text text name same some = named_of text name (sorted name) same some

-- a text that no known name has is that of a custom name
custom_of : (text : List ℕ) (other : CMapName) → Sorted other → index_of_text text ≡ None → name_bytes other ≡ text → IsTrue (is_custom other)
unfolding Sorted
custom_of text other (inl x) none is = absurd (none-some x.0 (sym none ∙ ap index_of_text (sym is) ∙ x.4))
custom_of text other (inr x) none is = ap is_custom x.1

pub IsNameOf-custom : (text : Bor (List ℕ)) → index_of_text text.now ≡ None → IsNameOf text.now (Custom text)
IsNameOf-custom text none = (refl, λ custom other is. custom_of text.now other (sorted other) none is)

by_kinds : (text : List ℕ) (name other : CMapName) → Sorted name → Sorted other → IsNameOf text name → IsNameOf text other → IsSameName name other
unfolding Sorted
by_kinds text name other (inl x) (inl y) n o = let k = same_Some x.0 y.0 (sym x.4 ∙ ap index_of_text (n.0 ∙ sym o.0) ∙ y.4) in inl (x.2 ∙ ap named k ∙ sym y.2)
by_kinds text name other (inl x) (inr y) n o = absurd (false≢true (sym x.5 ∙ o.1 (ap is_custom y.1) name n.0))
by_kinds text name other (inr x) (inl y) n o = absurd (false≢true (sym y.5 ∙ n.1 (ap is_custom x.1) other o.0))
by_kinds text name other (inr x) (inr y) n o = inr (x.0, y.0, x.1, y.1, sym (ap name_bytes x.1) ∙ n.0 ∙ sym o.0 ∙ ap name_bytes y.1)

pub IsSameName-from_text : (text : List ℕ) (name other : CMapName) → IsNameOf text name → IsNameOf text other → IsSameName name other
IsSameName-from_text text name other n o = by_kinds text name other (sorted name) (sorted other) n o
