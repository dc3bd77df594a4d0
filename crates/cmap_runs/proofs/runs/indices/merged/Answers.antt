use Rattle.std.proofs.Common.{[], length, map, refl, sym, ap, subst, arith}
use Rattle.std.proofs.lemmas.List.{length-map}
use Rattle.std.proofs.lemmas.Result.{IfOk-from_err}
use Rattle.cmap_runs.specs.DeclaredRanges.{LieApartBefore, range_at}
use Rattle.cmap_runs.specs.Made.{AreMadeBy}
use Rattle.cmap_runs.specs.Parts.{all_parts}
use Rattle.cmap_runs.specs.declared.runs.indices.Part.{Part}
use Rattle.cmap_runs.proofs.EachPlace.{ArePlacesApart-from_count}
use Rattle.cmap_runs.proofs.LieApart.{LieApartBefore-none}
use Rattle.cmap_runs.proofs.PartsLeft.{GoesOn, first_left, goes_on}
use Rattle.cmap_runs.proofs.runs.indices.merged.Goals as goal
use Rattle.cmap_runs.proofs.runs.indices.merged.Given.{Over}

taken : (g : Over) (c : goal.After-go_on g) → GoesOn (all_parts c.loop-parts.parts) (all_parts c.go_on.new.self) c.args.count c.loop-parts.parts.first.next c.in-Some.next
taken g c =
    let old = c.loop-parts.parts in
    let part : Part = record { next = c.in-Some.next; end = old.first.end; start = c.start_before-start.result } in
    goes_on old.first part old.others.items (all_parts c.go_on.new.self) c.args.count c.in-Some.next c.loop-parts.invariant.left refl refl c.in-Some.ensures.within.0 c.in-Some.ensures.within.1 c.go_on.ensures

pub loop-parts-smaller : goal.loop-parts-smaller
loop-parts-smaller g c = omega (arith, (taken g c).fewer, c.in-Some.ensures.within.0)

pub loop-parts-preserved : goal.loop-parts-preserved
loop-parts-preserved g c =
    let old = c.loop-parts.invariant in let now = taken g c in
    record {
      left = now.left;
      merged = c.in-Some.ensures.merged;
      room = omega (arith, now.fewer, old.room, c.in-Some.ensures.len, c.add_part.ensures.capacity, c.in-Some.ensures.within.0);
    }

pub returns : goal.returns
returns g c =
    let spans = map g.T.HasRange.span c.args.declarations.now in let apart = c.loop-parts.apart in let merged = c.loop-parts.invariant.merged in
    record {
      places = ArePlacesApart-from_count spans apart.indices.items merged.lie.apart (omega (arith, length-map c.args.declarations.now g.T.HasRange.span, apart.indices.ok.0));
      made = merged.made;
    }

pub returns-in_err-indices : goal.returns-in_err-indices
returns-in_err-indices g c = IfOk-from_err _ _ c.from_residual-in_err-indices.ensures.0

pub loop-parts-init : goal.loop-parts-init
loop-parts-init g c =
    let left = c.requires.parts in let spans = map g.T.HasRange.span c.args.declarations.now in
    record {
      left = left;
      merged = record {
        lie = subst (λ items. LieApartBefore spans items 0) (sym c.in_ok-indices.ensures.items) (LieApartBefore-none spans);
        begin = omega (arith, ap length c.in_ok-blocks.ensures.none);
        made = subst (λ items. AreMadeBy (map (range_at spans) items) (length (map (range_at spans) items)) c.in_ok-blocks.blocks) (sym c.in_ok-indices.ensures.items) (c.in_ok-blocks.ensures.made []);
      };
      room = omega (arith, left.few, c.in_ok-indices.ensures.len, c.in_ok-indices.ensures.capacity);
    }

pub add_part-requires : goal.add_part-requires
add_part-requires g c =
    let parts = c.loop-parts.parts in let old = c.loop-parts.invariant in let each = old.left.each 0 parts.first (omega arith) in
    record {
      first = each.0;
      end = omega (arith, each.1, c.requires.count);
      room = omega (arith, old.room, first_left parts.first parts.others.items);
      merged = old.merged;
    }

pub start_before-start-requires : goal.start_before-start-requires
start_before-start-requires g c =
    omega (arith, (c.loop-parts.invariant.left.each 0 c.loop-parts.parts.first (omega arith)).1, c.requires.count)
