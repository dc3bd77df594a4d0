use Rattle.std.proofs.Common.{◌≡◌, refl, sym, ap, ◌∙◌, ℕ, List, [], ◌∷◌, ◌++◌, append-nil, drop, arith}
use Rattle.std.specs.Prelude.{slice_index}
use Rattle.std.proofs.lemmas.List.{take_rest}
use Rattle.cmap_values.specs.Files.{File}
use Rattle.cmap_values.specs.Only.{IsOnly, HoldsOfNone}
use Rattle.cmap_binary.specs.Bundles.{PrefixTables}
use Rattle.cmap_binary.specs.BinaryFiles.{Content, IsSegment, SegmentAt, file_of}
use Rattle.cmap_binary.specs.BinarySeen.{SegmentsSay, with_content}
use Rattle.cmap_binary.specs.Fronts.{FramedAt}
use Rattle.cmap_binary.proofs.Fronts.{all_end, all_more, all_wrong, framed_within, continues_none, continues_only, emptied, filled, no_frame, pair_is, then_next, then_none, then_only}
use Rattle.cmap_binary.specs.BinaryFaults.{no_segment, says_nothing}
use Rattle.cmap_binary.proofs.FaultsFirst.{faults_lead, faults_lead_on}
use Rattle.cmap_binary.proofs.SegmentsSaid.{SaidSoFar, file_more}
use Rattle.cmap_binary.proofs.file.add_segments.Goals as goal

-- one segment more
segment_only : (tables : PrefixTables) (here segment rest : List ℕ) (content : Content) → IsOnly (FramedAt 1 here) (segment, rest) → IsOnly (IsSegment tables (slice_index segment 0) (drop 5 segment)) content → IsOnly (SegmentAt tables here) (content, rest)
segment_only tables here segment rest content framed only =
    then_only _ framed (record { holds = (only.holds, refl); alone = λ other at. pair_is other (content, rest) (only.alone other.0 at.0) at.1 })

module _ {tables : PrefixTables} {start here : List ℕ} {now : File} (so_far : SaidSoFar tables start here now) where
  says_more : {rest : List ℕ} {content : Content} (new : File) → (here ≡ [] → ⊥) → IsOnly (SegmentAt tables here) (content, rest) → new ≡ with_content now content → SaidSoFar tables start rest new
  says_more {rest} {content} new some only says = record {
    contents = so_far.contents ++ content ∷ [];
    row = all_more (SegmentAt tables) start here rest so_far.contents content so_far.row some only;
    says = says ∙ ap (λ file. with_content file content) so_far.says ∙ sym (file_more so_far.contents content);
  }

  says_none : (here ≡ [] → ⊥) → HoldsOfNone (SegmentAt tables here) → HoldsOfNone (SegmentsSay tables start)
  says_none some none file (contents, all, is) = continues_none so_far.row (all_wrong (SegmentAt tables) here some none) contents all

  says_only : here ≡ [] → IsOnly (SegmentsSay tables start) now
  says_only end =
      let only = rw append-nil at (continues_only so_far.row (all_end (SegmentAt tables) here end (then_none _ _ (no_frame 1)))) in
      record { holds = (so_far.contents, only.holds, so_far.says); alone = λ other (contents, all, is). is ∙ ap file_of (only.alone contents all) ∙ sym so_far.says }

pub loop-segments-init : goal.loop-segments-init
loop-segments-init c = (record { contents = []; row = record { made = λ more all. all; parts = λ all is. (all, is, refl) }; says = c.requires }, omega arith, faults_lead _ _)

pub returns-in_default-clause-stops : goal.returns-in_default-clause-stops
returns-in_default-clause-stops c =
    (says_none c.loop-segments.invariant.0 (filled c.loop-segments-test.ensures) (then_none _ _ c.in_default.ensures), omega arith)

pub returns-in_default-clause-first : goal.returns-in_default-clause-first
returns-in_default-clause-first c = c.loop-segments.invariant.2 _ (no_segment (filled c.loop-segments-test.ensures) c.in_default.ensures)

pub returns-in-Err-Refused-clause-first : goal.returns-in-Err-Refused-clause-first
returns-in-Err-Refused-clause-first c =
    let wrong = rw (take_rest, c.in-Err-Refused.field-0-is) at c.in-Err-Refused.ensures.1 in
    rw c.in-Err-Refused.field-0-is (c.loop-segments.invariant.2 _ (says_nothing c.in-Err-Refused.reason c.in-Some.ensures.holds wrong))

pub returns-in-Err-Refused-clause-stops : goal.returns-in-Err-Refused-clause-stops
returns-in-Err-Refused-clause-stops c =
    let (none, wrong) = rw (take_rest, c.in-Err-Refused.field-0-is) at c.in-Err-Refused.ensures.1 in
    (says_none c.loop-segments.invariant.0 (filled c.loop-segments-test.ensures) (then_next _ c.in-Some.ensures (λ other at. none other.0 at.0)), omega (arith, c.loop-segments.invariant.1))

pub loop-segments-preserved : goal.loop-segments-preserved
loop-segments-preserved c =
    let content = c.in-Ok.ensures.0 in (
      says_more c.loop-segments.invariant.0 _ (filled c.loop-segments-test.ensures) (segment_only _ _ _ _ _ c.in-Some.ensures (rw take_rest at content.only)) content.says,
      omega (arith, framed_within 1 c.in-Some.ensures.holds, c.loop-segments.invariant.1),
      faults_lead_on _ _ _ c.loop-segments.invariant.2 c.loop-segments.invariant.1 c.in-Some.ensures.holds (rw take_rest at content.only),
    )

pub returns-clause-says : goal.returns-clause-says
returns-clause-says c = says_only c.loop-segments.invariant.0 (emptied c.loop-segments-test.ensures)
