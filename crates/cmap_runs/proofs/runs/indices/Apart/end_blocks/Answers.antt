use Rattle.std.proofs.Common.{◌≡◌, map, length, refl, sym, subst, arith}
use Rattle.std.proofs.lemmas.List.{length-map}
use Rattle.cmap_runs.specs.Blocks.{AreMade}
use Rattle.cmap_runs.specs.DeclaredRanges.{range_at}
use Rattle.cmap_runs.proofs.LieApart.{LieApartBefore-later, in_order}
use Rattle.cmap_runs.proofs.Merged.{few_merged}
use Rattle.cmap_runs.proofs.runs.indices.Apart.end_blocks.Goals as goal

pub end_before-requires : goal.end_before-requires
end_before-requires c = λ more. let old = c.args.self.now in
    omega (arith, few_merged c.requires.0 old.indices.items old.next old.blocks.list.items old.blocks.most old.blocks.begun old.blocks.starts c.requires.1 more, c.len.ensures, old.indices.ok.0)

pub returns-then-self-low : goal.returns-then-self-low
returns-then-self-low c =
    let old = c.args.self.now in let ended = c.end_before.new.self in
    record {
      merged = λ spans are.
          let runs = map (range_at spans) old.indices.items in
          let all : c.len.result ≡ length runs = omega (arith, c.len.ensures, old.indices.ok.0, length-map old.indices.items (range_at spans)) in
          record {
            lie = LieApartBefore-later spans old.indices.items old.next c.max-self.result (omega (arith, c.max-self.ensures)) are.lie;
            begin = omega (arith, c.max-self.ensures, c.code.ensures);
            made = subst (λ n. AreMade runs n ended.list.items ended.most ended.begun ended.starts) all
                (c.end_before.ensures.made runs (in_order runs are.lie.apart) (omega (arith, all)) (λ k d le lt. are.lie.before k d (omega (arith, lt, all))) (λ k d le lt. absurd (omega (arith, le, lt, all)))
                (subst (λ n. AreMade runs n old.blocks.list.items old.blocks.most old.blocks.begun old.blocks.starts) (sym all) are.made));
          };
      ended = c.end_before.ensures.ended;
      indices = refl;
    }
