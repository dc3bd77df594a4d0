-- Private aid: what the proofs for both kinds of declarations of CIDs rest on.
use Rattle.std.proofs.Common.{◌≡◌, Bool, ◌+◌, ◌-◌, ◌^◌, refl, sym, ap, ◌∙◌, arith, le-ltb, lt-ltb}
use Rattle.std.specs.Prelude.{Some, None, if◌then◌else◌, nat_lt}
use Rattle.cmap_edit.specs.Kinds.{IsKind, cid_kind, notdef_kind}

pub cids_are : IsKind cid_kind
cids_are = record {
  merged = record {
    filled = λ e row. row.0.0;
    meets = λ e later one. one.0.0;
    row = λ e later row row_too one. ((omega arith, one.0.1 ∙ row_too.0.1, row_too.0.2), omega arith);
    spans = λ e later. refl;
    old = λ e later code. refl;
    new = λ e later code row row_too one from to.
        ap (λ cid. if nat_lt cid (2 ^ 32) then Some cid else None) (let same : e.cid + (code - e.start) ≡ later.cid + (code - later.start) = omega arith in same);
    before = λ x e later one. one;
  };
  row = λ e row fits. (row, fits);
  twice = λ cid a b. omega arith;
  grows = λ cid a b le. omega arith;
  given = λ e code fits. ap (λ (fit : Bool). if fit then Some (e.cid + (code - e.start)) else None) (lt-ltb _ _ fits);
  lost = λ e code small past. ap (λ (fit : Bool). Some (if fit then Some (e.cid + (code - e.start)) else None)) (le-ltb _ _ past);
}

pub notdefs_are : IsKind notdef_kind
notdefs_are = record {
  merged = record {
    filled = λ e row. row.0;
    meets = λ e later one. one.0.0;
    row = λ e later row row_too one. (omega arith, one.0.1 ∙ row_too.1, row_too.2);
    spans = λ e later. refl;
    old = λ e later code. refl;
    new = λ e later code row row_too one from to. sym one.1;
    before = λ x e later one. one;
  };
  row = λ e row fits. row;
  twice = λ cid a b. refl;
  grows = λ cid a b le. omega arith;
  given = λ e code fits. refl;
  lost = λ e code small past. absurd (omega arith);
}
