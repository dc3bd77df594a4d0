use Rattle.std.proofs.Common.{ℕ, ◌+◌, List, length, Result, Ok, Err, inl, refl, subst, arith}
use Rattle.std.specs.Prelude.{IfOk, IfErr}
use Rattle.cmap_values.specs.Only.{IsOnly, HoldsOfNone}
use Rattle.cmap_values.specs.Outcomes.{ReadsFile, RefusesWith, StopsWithin}
use Rattle.cmap_values.specs.declared.fault.Fault.{Fault}
use Rattle.cmap_values.specs.declared.fault.Fault.TheVariants.{Refused, Memory}
use Rattle.cmap_values.specs.declared.fault.Stop.{Stop}
use Rattle.cmap_values.specs.declared.file.File.{File}
use Rattle.cmap_values.specs.FilesSeen.{file_seen}
use Rattle.cmap_binary.specs.Bundles.{PrefixTables}
use Rattle.cmap_binary.specs.BinaryFiles.{BodyOf, IsBinaryFile, SegmentAt}
use Rattle.cmap_binary.specs.BinaryFaults.{IsBinaryFault}
use Rattle.cmap_binary.specs.BinarySeen.{SegmentsSay}
use Rattle.cmap_binary.specs.Fronts.{AllOf}
use Rattle.cmap_binary.proofs.Bodies.{body_within}
use Rattle.cmap_binary.proofs.FaultsFirst.{fault_of_segments}
use Rattle.cmap_binary.proofs.Fronts.{Continues, continues_only, continues_none}
use Rattle.cmap_binary.proofs.file.read_binary.Goals as goal

no_body : (tables : PrefixTables) (bytes : List ℕ) → HoldsOfNone (BodyOf bytes) → HoldsOfNone (IsBinaryFile tables bytes)
unfolding IsBinaryFile
no_body tables bytes none file (body, contents, at, all, is) = none body at

body_says : (tables : PrefixTables) (bytes body : List ℕ) → IsOnly (BodyOf bytes) body → Continues (IsBinaryFile tables bytes) (λ file. file) (SegmentsSay tables body)
unfolding IsBinaryFile
body_says tables bytes body only = record {
  made = λ file (contents, all, is). (body, contents, only.holds, all, is);
  parts = λ file (other, contents, at, all, is). (file, (contents, subst (λ b. AllOf (SegmentAt tables) b contents) (only.alone other at) all, is), refl);
}

pub returns-in_default : goal.returns-in_default
returns-in_default c = record { file = (tt, (no_body _ _ c.in_default.ensures, omega arith)); place = inl (c.in_default.ensures, refl) }

-- what the segments say is what the file says
file_says : (tables : PrefixTables) (bytes body : List ℕ) → IsOnly (BodyOf bytes) body → (result : Result File (Fault Stop)) → IfOk result (λ file. IsOnly (SegmentsSay tables body) (file_seen file))
    → IfErr result (StopsWithin (10 + length body) (HoldsOfNone (SegmentsSay tables body))) → ReadsFile (IsBinaryFile tables) file_seen bytes result
file_says tables bytes body only (Ok file) says stops = (continues_only (body_says tables bytes body only) says, tt)
file_says tables bytes body only (Err (Refused stop)) says stops = (tt, (continues_none (body_says tables bytes body only) stops.0, omega (arith, stops.1, body_within bytes body only.holds)))
file_says tables bytes body only (Err Memory) says stops = (tt, tt)

pub returns : goal.returns
returns c =
    let says = file_says _ c.args.bytes.now c.in-Some.body.now c.in-Some.ensures c.read_segments.result c.read_segments.ensures.says c.read_segments.ensures.stops in
    let first = fault_of_segments _ c.args.bytes.now c.in-Some.body.now c.in-Some.ensures.holds c.read_segments.result c.read_segments.ensures.first in record {
      file = subst (λ tables. ReadsFile (IsBinaryFile tables) file_seen c.args.bytes.now c.read_segments.result) c.tables.ensures says;
      place = subst (λ tables. IfErr c.read_segments.result (RefusesWith (IsBinaryFault tables c.args.bytes.now))) c.tables.ensures first;
    }
