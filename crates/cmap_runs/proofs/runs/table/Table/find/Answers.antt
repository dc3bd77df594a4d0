use Rattle.std.proofs.Common.{sym, refl, arith}
use Rattle.cmap_runs.proofs.FoundIndex.{none_looked}
use Rattle.cmap_runs.proofs.runs.table.Table.find.Goals as goal

-- ---- in a block
pub find_in_block-requires : goal.find_in_block-requires
find_in_block-requires g c = record { runs = c.self.invariant.0; blocks = c.self.invariant.1 }

pub returns : goal.returns
returns g c = let finds = rw c.self.view_is at c.in-Some.ensures.some in record { found = finds.found; contains = finds.contains; looks = finds.looks; no_declaration = finds.no_declaration }

-- ---- after the blocks
pub returns-then-from-end : goal.returns-then-from-end
returns-then-from-end g c = record {
  found = sym (c.end.ensures c.args.code (omega (arith, c.ranges.code.fits)) (omega (arith, c.if-from-end.true, c.from.ensures)));
  contains = tt;
  looks = rw c.in_default.ensures.none (none_looked c.args.looks.now _);
  no_declaration = rw c.in_default.ensures.none refl;
}

pub find_after_blocks-requires : goal.find_after_blocks-requires
find_after_blocks-requires g c = record { runs = c.self.invariant.0; blocks = c.self.invariant.1; after = c.in_default.ensures.after }

pub returns-in_default : goal.returns-in_default
returns-in_default g c = rw (sym c.self.view_is) (rw c.in_default.ensures.none at c.find_after_blocks.ensures)
