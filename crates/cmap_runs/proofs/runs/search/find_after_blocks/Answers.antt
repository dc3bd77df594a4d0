use Rattle.std.proofs.Common.{length, map, ap, refl, arith}
use Rattle.cmap_runs.specs.Ranges.{digits}
use Rattle.cmap_runs.proofs.FoundIndex.{found_contains, found_index, found_last, found_within, no_index, none_last, none_looked_up, one_found, runs_in_order}
use Rattle.cmap_runs.proofs.runs.search.find_after_blocks.Goals as goal

pub find_among_last-requires : goal.find_among_last-requires
find_among_last-requires g c = record {
  order = runs_in_order (map g.T.HasRange.span c.args.held.now.declarations) c.requires.runs;
  within = c.requires.blocks.within;
  before = λ k d from lt. omega (arith, c.requires.blocks.before k d from lt, c.requires.after);
}

pub returns-in_err-index : goal.returns-in_err-index
returns-in_err-index g c =
    let span = g.T.HasRange.span in let held = c.args.held.now in let code = c.args.code in let looks = c.find_among_last.ensures in
    let none = no_index (map span held.declarations) code c.requires.runs (omega (arith, c.ranges.code.fits)) c.in_err-index.ensures.none in
    let same = ap length c.requires.runs in
    rw c.from_residual.ensures (record {
      found = none_last span held.declarations c.args.held.now.declarations code none refl;
      contains = tt;
      looks = none_looked_up c.args.looks.now c.find_among_last.new.looks _ _ looks.bound (ap digits same) looks.grows looks.declarations;
      no_declaration = looks.declarations;
    })

pub declaration-requires : goal.declaration-requires
declaration-requires g c =
    let list = c.args.held.now.declarations in let span = g.T.HasRange.span in let index = c.in_ok-index.index in
    found_within span list c.args.code index (found_index (map span list) c.args.code index c.requires.runs c.in_ok-index.ensures.found)

pub returns : goal.returns
returns g c =
    let span = g.T.HasRange.span in let list = c.args.held.now.declarations in let code = c.args.code in let index = c.in_ok-index.index in
    let looks = c.find_among_last.ensures in let found = c.declaration.ensures in
    let last = found_index (map span list) code index c.requires.runs c.in_ok-index.ensures.found in
    let same = ap length c.requires.runs in
    record {
      found = found_last span list c.args.held.now.declarations code index c.declaration.result.now last found.declaration refl;
      contains = found_contains span list code index c.declaration.result.now last found.declaration;
      looks = one_found c.args.looks.now c.find_among_last.new.looks c.declaration.new.looks _ _ looks.bound (ap digits same) c.in_ok-index.ensures.looked looks.declarations found.runs found.declarations;
      no_declaration = tt;
    }
