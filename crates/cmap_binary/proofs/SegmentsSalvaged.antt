-- The segments of a file that is read past its faults, one after another.
use Rattle.std.proofs.Common.{◌≡◌, ◌≢◌, ℕ, ◌+◌, ◌-◌, ◌≤◌, sym, ap, ◌∙◌, subst, List, [], ◌∷◌, ◌++◌, length, arith, append_assoc, append-nil}
use Rattle.cmap_values.specs.Files.{File}
use Rattle.cmap_values.specs.ListsAppended.{no_file}
use Rattle.cmap_values.specs.Only.{IsOnly, HoldsOfNone}
use Rattle.cmap_values.specs.declared.fault.Reason.{Reason}
use Rattle.cmap_values.specs.declared.fault.Reason.TheVariants.{SegmentLength}
use Rattle.cmap_values.specs.declared.fault.Stop.{Stop}
use Rattle.cmap_binary.specs.BinaryFiles.{Content, file_of}
use Rattle.cmap_binary.specs.BinarySalvage.{SaysNothing, SegmentSays, SegmentsFrom, SegmentsSalvaged, at_fault, cut_short, ended, said}
use Rattle.cmap_binary.specs.BinarySeen.{with_content}
use Rattle.cmap_binary.specs.Bundles.{PrefixTables}
use Rattle.cmap_binary.specs.Fronts.{FramedAt}
use Rattle.cmap_binary.proofs.SegmentsSaid.{file_more}

-- where in the file the bytes stand that are left of a body
abbrev pub offset_of : List ℕ → List ℕ → ℕ
offset_of start here = 10 + (length start - length here)

-- the segments before these are read: the file says what they say together, and their faults are added
pub record SalvagedSoFar (tables : PrefixTables) (start here : List ℕ) (before : List Stop) (now : File) (faults : List Stop) : Type 0 where
  pub contents : List Content
  pub found : List Stop
  pub goes_on : (more : List Content) (later : List Stop) → SegmentsFrom tables (offset_of start here) here more later → SegmentsFrom tables 10 start (contents ++ more) (found ++ later)
  pub says : now ≡ file_of contents
  pub added : faults ≡ before ++ found
  pub within : length here ≤ length start

pub salvaged_none : (tables : PrefixTables) (start : List ℕ) (before : List Stop) (now : File) → now ≡ no_file → SalvagedSoFar tables start start before now before
salvaged_none tables start before now none = record {
  contents = [];
  found = [];
  goes_on = λ more later from. let here : offset_of start start ≡ 10 = omega arith in subst (λ n. SegmentsFrom tables n start more later) here from;
  says = none;
  added = sym (append-nil before);
  within = omega arith;
}

module _ {tables : PrefixTables} {start here : List ℕ} {before : List Stop} {now : File} {faults : List Stop} (so_far : SalvagedSoFar tables start here before now faults) where
  -- what all of it comes to, where this comes after it
  ends : (more : List Content) (later : List Stop) (new : File) (stops : List Stop) → SegmentsFrom tables (offset_of start here) here more later → new ≡ file_of (so_far.contents ++ more) → stops ≡ faults ++ later
      → SegmentsSalvaged tables start new before stops
  ends more later new stops from says are =
      (so_far.contents ++ more, so_far.found ++ later, so_far.goes_on more later from, says, are ∙ ap (λ f. f ++ later) so_far.added ∙ append_assoc before so_far.found later)

  pub salvaged_end : here ≡ [] → SegmentsSalvaged tables start now before faults
  salvaged_end end =
      ends [] [] now faults (subst (λ h. SegmentsFrom tables (offset_of start here) h [] []) (sym end) ended) (so_far.says ∙ ap file_of (sym (append-nil so_far.contents))) (sym (append-nil faults))

  pub salvaged_cut : here ≢ [] → HoldsOfNone (FramedAt 1 here) → (stops : List Stop) → stops ≡ faults ++ record { offset = offset_of start here; reason = SegmentLength } ∷ [] → SegmentsSalvaged tables start now before stops
  salvaged_cut some wrong stops are = ends [] _ now stops (cut_short some wrong) (so_far.says ∙ ap file_of (sym (append-nil so_far.contents))) are

  module _ {segment rest : List ℕ} (framed : FramedAt 1 here (segment, rest)) where
    next_offset : offset_of start here + length segment ≡ offset_of start rest
    next_offset = let (size, after, field, (filled, split)) = framed in omega (arith, split.3, split.4, so_far.within)

    next_within : length rest ≤ length start
    next_within = let (size, after, field, (filled, split)) = framed in omega (arith, split.4, so_far.within)

    pub salvaged_said : {content : Content} (new : File) → IsOnly (SegmentSays tables segment) content → new ≡ with_content now content → SalvagedSoFar tables start rest before new faults
    salvaged_said {content} new only says = record {
      contents = so_far.contents ++ content ∷ [];
      found = so_far.found;
      goes_on = λ more later from.
          subst (λ all. SegmentsFrom tables 10 start all (so_far.found ++ later)) (sym (append_assoc so_far.contents (content ∷ []) more))
          (so_far.goes_on (content ∷ more) later (said framed only (subst (λ n. SegmentsFrom tables n rest more later) (sym next_offset) from)));
      says = says ∙ ap (λ file. with_content file content) so_far.says ∙ sym (file_more so_far.contents content);
      added = so_far.added;
      within = next_within;
    }

    pub salvaged_fault : (reason : Reason) (new : File) (stops : List Stop) → SaysNothing tables segment reason → new ≡ now → stops ≡ faults ++ record { offset = offset_of start here; reason = reason } ∷ [] → SalvagedSoFar tables start rest before new stops
    salvaged_fault reason new stops wrong same are = record {
      contents = so_far.contents;
      found = so_far.found ++ record { offset = offset_of start here; reason = reason } ∷ [];
      goes_on = λ more later from.
          subst (λ all. SegmentsFrom tables 10 start (so_far.contents ++ more) all) (sym (append_assoc so_far.found _ later))
          (so_far.goes_on more (_ ∷ later) (at_fault reason framed wrong (subst (λ n. SegmentsFrom tables n rest more later) (sym next_offset) from)));
      says = same ∙ so_far.says;
      added = are ∙ ap (λ f. f ++ record { offset = offset_of start here; reason = reason } ∷ []) so_far.added ∙ append_assoc before so_far.found _;
      within = next_within;
    }
