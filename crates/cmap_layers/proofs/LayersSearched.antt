-- The layers of a map, searched for the CID of a code from the top one on.
use Rattle.std.proofs.Common.{◌≡◌, ℕ, ◌+◌, ◌*◌, ◌≤◌, ◌<◌, suc, get_or, drop, drop-cons, Bool, true, false, List, [], ◌∷◌, length, map, Option, Some, None, refl, sym, ap, ◌∙◌, arith}
use Rattle.std.specs.Prelude.{unwrap_or, sum_by, ◌&&◌, nat_le, option_and_then, is_some, if◌then◌else◌}
use Rattle.cmap_runs.specs.SearchLooks.{LooksAtMost}
use Rattle.cmap_runs.specs.declared.runs.looks.Looks.{Looks}
use Rattle.std.specs.Option.{option_or}
use Rattle.std.proofs.lemmas.List.{drop_all}
use Rattle.std.proofs.lemmas.List.Sums.{sum_by-cons}
use Rattle.std.proofs.lemmas.Bool.{and_from, and_parts, cond-true, false_from_ne_true, le-leb, leb-true}
use Rattle.cmap_values.specs.CodeLengths.{IsCodeLength}
use Rattle.cmap_values.specs.Files.{BfEntry}
use Rattle.cmap_layers.specs.Layers.{Layer}
use Rattle.cmap_layers.specs.Lookups.{cid_in, cid_of, bf_at, bf_span, last_bf, bf_of, decided_text}
use Rattle.cmap_layers.specs.LayersDecide.{layer_cid, deciding_bf}
use Rattle.cmap_layers.specs.Searches.{layer_looks, cid_looks, bf_looks, search_looks}
use Rattle.cmap_layers.proofs.LastFound.{decided_cid-decided_in}

-- the element that stands next
pub drop_next : {A : Type 0} (xs : List A) (i : ℕ) (x : A) → i < length xs → x ≡ get_or xs i x → drop i xs ≡ x ∷ drop (i + 1) xs
drop_next xs i x within is = let next : i + 1 ≡ suc i = omega arith in drop-cons xs i x within ∙ ap (λ y. y ∷ drop (suc i) xs) (sym is) ∙ ap (λ k. x ∷ drop k xs) (sym next)

-- a list of one element
pub only_one : {A : Type 0} (xs : List A) (x : A) → 1 ≤ length xs → length xs < 2 → x ≡ get_or xs 0 x → xs ≡ x ∷ []
only_one xs x some few is = drop_next xs 0 x some is ∙ ap (λ rest. x ∷ rest) (drop_all 1 xs (omega (arith, few)))

-- what is looked at in the layers that are left, and in those above them, is within what may be looked at in all
pub record IsLooked (before now : Looks) (all_runs runs_left all_declarations declarations_left : ℕ) : Type 0 where
  pub runs : now.runs + runs_left ≤ before.runs + all_runs
  pub runs_grow : before.runs ≤ now.runs
  pub declarations : now.declarations + declarations_left ≤ before.declarations + all_declarations
  pub declarations_grow : before.declarations ≤ now.declarations

looked_more : (before now after : Looks) (runs here runs_left declarations more declarations_left : ℕ) (found : Bool) → IsLooked before now runs (here + runs_left) declarations (more + declarations_left) → LooksAtMost now after here more found
    → IsLooked before after runs runs_left declarations declarations_left
looked_more before now after runs here runs_left declarations more declarations_left found looked looks = record {
  runs = omega (arith, looked.runs, looks.most_runs);
  runs_grow = omega (arith, looked.runs_grow, looks.some_run);
  declarations = omega (arith, looked.declarations, looks.most_declarations);
  declarations_grow = omega (arith, looked.declarations_grow, looks.some_declaration);
}

at_least_one : (b : Bool) (n k : ℕ) → n + 1 ≤ k → n + (if b then 1 else 0) ≤ k
at_least_one true n k one = one
at_least_one false n k one = omega (arith, one)

pub looked_some : (before after : Looks) (runs declarations : ℕ) (found : Bool) → LooksAtMost before after runs declarations true → LooksAtMost before after runs declarations found
looked_some before after runs declarations found looks = record {
  most_runs = looks.most_runs;
  some_run = at_least_one found _ _ looks.some_run;
  most_declarations = looks.most_declarations;
  some_declaration = at_least_one found _ _ looks.some_declaration;
}

-- the last layer that is searched
looked_last : (before now after : Looks) (runs here runs_left declarations more declarations_left : ℕ) (found : Bool) → IsLooked before now runs (here + runs_left) declarations (more + declarations_left) → LooksAtMost now after here more true
    → LooksAtMost before after runs declarations found
looked_last before now after runs here runs_left declarations more declarations_left found looked looks = record {
  most_runs = omega (arith, looked.runs, looks.most_runs);
  some_run = at_least_one found _ _ (omega (arith, looked.runs_grow, looks.some_run));
  most_declarations = omega (arith, looked.declarations, looks.most_declarations);
  some_declaration = at_least_one found _ _ (omega (arith, looked.declarations_grow, looks.some_declaration));
}

-- no layer above these decides
pub record IsSearched (layers rest : List Layer) (code len : ℕ) (before now : Looks) : Type 0 where
  pub value : cid_in layers code len ≡ cid_in rest code len
  pub looked : IsLooked before now (sum_by (λ layer. layer_looks layer len) layers) (sum_by (λ layer. layer_looks layer len) rest) (3 * length layers) (3 * length rest)

next_looked : (layers : List Layer) (layer : Layer) (below : List Layer) (code len : ℕ) (before now : Looks) → IsSearched layers (layer ∷ below) code len before now
    → IsLooked before now (sum_by (λ l. layer_looks l len) layers) (layer_looks layer len + sum_by (λ l. layer_looks l len) below) (3 * length layers) (3 + 3 * length below)
next_looked layers layer below code len before now searched = record {
  runs = omega (arith, searched.looked.runs, sum_by-cons (λ l. layer_looks l len) layer below);
  runs_grow = searched.looked.runs_grow;
  declarations = omega (arith, searched.looked.declarations);
  declarations_grow = searched.looked.declarations_grow;
}

pub IsSearched-more : (layers : List Layer) (layer : Layer) (below : List Layer) (code len : ℕ) (before now after : Looks) (found : Bool) → IsSearched layers (layer ∷ below) code len before now → None ≡ layer_cid layer code len
    → LooksAtMost now after (layer_looks layer len) 3 found → IsSearched layers below code len before after
IsSearched-more layers layer below code len before now after found searched none looks = record {
  value = searched.value ∙ decided_cid-decided_in code _ _ _ (cid_in below code len) ∙ ap (λ decided. unwrap_or decided (cid_in below code len)) (sym none);
  looked = looked_more before now after _ _ _ _ _ _ found (next_looked layers layer below code len before now searched) looks;
}

-- a code of one to four bytes
pub has_length : (layers : List Layer) (code len : ℕ) → nat_le 1 len && nat_le len 4 ≡ true → cid_of layers code len ≡ cid_in layers code len
has_length layers code len within = cond-true _ (cid_in layers code len) None within

pub has_looks : (layers : List Layer) (len : ℕ) → nat_le 1 len && nat_le len 4 ≡ true → cid_looks layers len ≡ sum_by (λ layer. layer_looks layer len) layers
has_looks layers len within = cond-true _ (sum_by (λ layer. layer_looks layer len) layers) 0 within

-- what a lookup answers, and what it looks at
pub record Answers (layers : List Layer) (code len : ℕ) (answer : Option ℕ) (before after : Looks) : Type 0 where
  pub value : answer ≡ cid_of layers code len
  pub looks : LooksAtMost before after (cid_looks layers len) (3 * length layers) (is_some answer)

pub IsSearched-decided : (layers : List Layer) (layer : Layer) (below : List Layer) (code len : ℕ) (answer : Option ℕ) (before now after : Looks) → nat_le 1 len && nat_le len 4 ≡ true → IsSearched layers (layer ∷ below) code len before now
    → Some answer ≡ layer_cid layer code len → LooksAtMost now after (layer_looks layer len) 3 true → Answers layers code len answer before after
IsSearched-decided layers layer below code len answer before now after within searched decided looks = record {
  value =
      sym (has_length layers code len within ∙ searched.value ∙ decided_cid-decided_in code _ _ _ (cid_in below code len)
      ∙ ap (λ decision. unwrap_or decision (cid_in below code len)) (sym decided));
  looks = rw (has_looks layers len within) (looked_last before now after _ _ _ _ _ _ (is_some answer) (next_looked layers layer below code len before now searched) looks);
}

pub IsSearched-none : (layers : List Layer) (code len : ℕ) (before : Looks) → IsSearched layers layers code len before before
IsSearched-none layers code len before = record {
  value = refl;
  looked = record { runs = omega arith; runs_grow = omega arith; declarations = omega arith; declarations_grow = omega arith };
}

-- no layer decides
pub IsSearched-end : (layers : List Layer) (code len : ℕ) (before after : Looks) → nat_le 1 len && nat_le len 4 ≡ true → IsSearched layers [] code len before after → Answers layers code len None before after
IsSearched-end layers code len before after within searched = record {
  value = sym (has_length layers code len within ∙ searched.value);
  looks = rw (has_looks layers len within) (record {
    most_runs = omega (arith, searched.looked.runs);
    some_run = omega (arith, searched.looked.runs_grow);
    most_declarations = omega (arith, searched.looked.declarations);
    some_declaration = omega (arith, searched.looked.declarations_grow);
  });
}

pub within_lengths : (len : ℕ) → IsCodeLength len → nat_le 1 len && nat_le len 4 ≡ true
within_lengths len few = and_from _ _ (le-leb 1 len few.0) (le-leb len 4 few.1)

-- no code has this length
pub Answers-outside : (layers : List Layer) (code len : ℕ) (before : Looks) → (IsCodeLength len → ⊥) → Answers layers code len None before before
Answers-outside layers code len before outside =
    let past : nat_le 1 len && nat_le len 4 ≡ false = false_from_ne_true _ (λ within. let parts = and_parts _ _ within in outside (leb-true 1 len parts.0, leb-true len 4 parts.1)) in
    record {
      value = sym (ap (λ b. if b then cid_in layers code len else None) past);
      looks = record { most_runs = omega arith; some_run = omega arith; most_declarations = omega arith; some_declaration = omega arith };
    }

-- ---- the text of a code
decided_text-option_or : (code : ℕ) (o deciding : Option BfEntry) (below : Option (List ℕ)) → below ≡ option_and_then (λ e. bf_at e code) deciding → decided_text code o below ≡ option_and_then (λ e. bf_at e code) (option_or o deciding)
decided_text-option_or code None deciding below is = is
decided_text-option_or code (Some e) deciding below is = refl

pub bf_of-deciding_bf : (layers : List Layer) (code : ℕ) → bf_of layers code ≡ option_and_then (λ e. bf_at e code) (deciding_bf layers code)
bf_of-deciding_bf [] code = refl
bf_of-deciding_bf (layer ∷ layers) code = decided_text-option_or code (last_bf layer.lists.bfs code) (deciding_bf layers code) (bf_of layers code) (bf_of-deciding_bf layers code)

-- no layer above these has a declaration for the code
pub record IsBfSearched (layers rest : List Layer) (code : ℕ) (before now : Looks) : Type 0 where
  pub value : deciding_bf layers code ≡ deciding_bf rest code
  pub looked : IsLooked before now (bf_looks layers) (bf_looks rest) (length layers) (length rest)

option_or-none : (o : Option BfEntry) → option_or o None ≡ o
option_or-none None = refl
option_or-none (Some e) = refl

pub IsBfSearched-none : (layers : List Layer) (code : ℕ) (before : Looks) → IsBfSearched layers layers code before before
IsBfSearched-none layers code before = record {
  value = refl;
  looked = record { runs = omega arith; runs_grow = omega arith; declarations = omega arith; declarations_grow = omega arith };
}

next_bf_looked : (layers : List Layer) (layer : Layer) (below : List Layer) (code : ℕ) (before now : Looks) → IsBfSearched layers (layer ∷ below) code before now
    → IsLooked before now (bf_looks layers) (search_looks (map bf_span layer.lists.bfs) + bf_looks below) (length layers) (1 + length below)
next_bf_looked layers layer below code before now searched = record {
  runs = omega (arith, searched.looked.runs, sum_by-cons (λ l. search_looks (map bf_span l.lists.bfs)) layer below);
  runs_grow = searched.looked.runs_grow;
  declarations = omega (arith, searched.looked.declarations);
  declarations_grow = searched.looked.declarations_grow;
}

pub IsBfSearched-more : (layers : List Layer) (layer : Layer) (below : List Layer) (code : ℕ) (before now after : Looks) (found : Bool) → IsBfSearched layers (layer ∷ below) code before now → None ≡ last_bf layer.lists.bfs code
    → LooksAtMost now after (search_looks (map bf_span layer.lists.bfs)) 1 found → IsBfSearched layers below code before after
IsBfSearched-more layers layer below code before now after found searched none looks = record {
  value = searched.value ∙ ap (λ o. option_or o (deciding_bf below code)) (sym none);
  looked = looked_more before now after _ _ _ _ _ _ found (next_bf_looked layers layer below code before now searched) looks;
}

-- the layer that decides
pub bf_decided : (layers : List Layer) (layer : Layer) (below : List Layer) (code : ℕ) (entry : BfEntry) (before now : Looks) → IsBfSearched layers (layer ∷ below) code before now → Some entry ≡ last_bf layer.lists.bfs code → Some entry ≡ deciding_bf layers code
bf_decided layers layer below code entry before now searched is = ap (λ o. option_or o (deciding_bf below code)) is ∙ sym searched.value

pub bf_looked : (layers : List Layer) (layer : Layer) (below : List Layer) (code : ℕ) (before now after : Looks) → IsBfSearched layers (layer ∷ below) code before now → LooksAtMost now after (search_looks (map bf_span layer.lists.bfs)) 1 true
    → LooksAtMost before after (bf_looks layers) (length layers) true
bf_looked layers layer below code before now after searched looks = looked_last before now after _ _ _ _ _ _ true (next_bf_looked layers layer below code before now searched) looks

-- none does
pub bf_looked_all : (layers : List Layer) (code : ℕ) (before after : Looks) → IsBfSearched layers [] code before after → LooksAtMost before after (bf_looks layers) (length layers) false
bf_looked_all layers code before after searched = record {
  most_runs = omega (arith, searched.looked.runs);
  some_run = omega (arith, searched.looked.runs_grow);
  most_declarations = omega (arith, searched.looked.declarations);
  some_declaration = omega (arith, searched.looked.declarations_grow);
}

-- of one layer alone
pub bf_only : (layer : Layer) (code : ℕ) → last_bf layer.lists.bfs code ≡ deciding_bf (layer ∷ []) code
bf_only layer code = sym (option_or-none (last_bf layer.lists.bfs code))

pub bf_looks_only : (layer : Layer) (before after : Looks) (found : Bool) → LooksAtMost before after (search_looks (map bf_span layer.lists.bfs)) 1 found → LooksAtMost before after (bf_looks (layer ∷ [])) 1 found
bf_looks_only layer before after found looks = record {
  most_runs = omega (arith, looks.most_runs, sum_by-cons (λ l. search_looks (map bf_span l.lists.bfs)) layer []);
  some_run = looks.some_run;
  most_declarations = looks.most_declarations;
  some_declaration = looks.some_declaration;
}

-- ---- the three lists of a layer, one after another
pub looks_first : (before after : Looks) (cids notdefs texts : ℕ) (found : Bool) → LooksAtMost before after cids 1 found → LooksAtMost before after (cids + notdefs + texts) 3 found
looks_first before after cids notdefs texts found first = record {
  most_runs = omega (arith, first.most_runs);
  some_run = first.some_run;
  most_declarations = omega (arith, first.most_declarations);
  some_declaration = first.some_declaration;
}

-- the two lists that are searched for a code without a CID
pub looks_texts : (before after : Looks) (notdefs texts : ℕ) (found : Bool) → LooksAtMost before after texts 1 found → LooksAtMost before after (notdefs + texts) 2 found
looks_texts before after notdefs texts found text = record {
  most_runs = omega (arith, text.most_runs);
  some_run = text.some_run;
  most_declarations = omega (arith, text.most_declarations);
  some_declaration = text.some_declaration;
}

pub looks_others : (before now after : Looks) (cids notdefs texts : ℕ) (found : Bool) → LooksAtMost before now cids 1 false → LooksAtMost now after (notdefs + texts) 2 found → LooksAtMost before after (cids + notdefs + texts) 3 found
looks_others before now after cids notdefs texts found first others = record {
  most_runs = omega (arith, first.most_runs, others.most_runs);
  some_run = omega (arith, first.some_run, others.some_run);
  most_declarations = omega (arith, first.most_declarations, others.most_declarations);
  some_declaration = omega (arith, first.some_declaration, others.some_declaration);
}
