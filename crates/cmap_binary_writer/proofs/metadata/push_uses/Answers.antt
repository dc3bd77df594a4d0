use Rattle.std.proofs.Common.{ℕ, List, append-nil, arith, refl, sym}
use Rattle.std.specs.Borrow.{Bor}
use Rattle.std.proofs.lemmas.List.Elements.{All-nil}
use Rattle.cmap_values.proofs.ElementsSeen.{any_at}
use Rattle.cmap_binary_writer.specs.Fields.{NameFits, segment_bytes}
use Rattle.cmap_binary_writer.specs.Obstacles.{IsLongName}
use Rattle.cmap_binary_writer.proofs.ObstaclesMet.{long_passed_on}
use Rattle.cmap_binary_writer.proofs.RowsAdded.{fits_done, fits_more, seen_done, seen_more, segment_added}
use Rattle.cmap_binary_writer.proofs.metadata.push_uses.Goals as goal

pub loop-name-init : goal.loop-name-init
loop-name-init c = record { fit = All-nil NameFits; bytes = sym (append-nil c.args.out.now.items) }

pub loop-name-preserved : goal.loop-name-preserved
loop-name-preserved c =
    let row : List ℕ → List ℕ = λ name. segment_bytes 9 name in
    let seen : Bor (List ℕ) → List ℕ = λ name. name.now in
    let added = segment_added c.loop-name.out.items c.push_segment.new.out.items 9 _ _ refl c.in_ok-push_segment.ensures.framed in
    record {
      fit = fits_more row seen c.args.names.now c.loop-name.name-index c.args.out.now.items c.loop-name.out.items NameFits _ (omega arith) c.loop-name.invariant.fit added.0;
      bytes = seen_more row seen c.args.names.now c.loop-name.name-index c.args.out.now.items c.loop-name.out.items _ c.push_segment.new.out.items (omega arith) c.loop-name.invariant.bytes added.1;
    }

pub returns : goal.returns
returns c =
    let row : List ℕ → List ℕ = λ name. segment_bytes 9 name in
    let seen : Bor (List ℕ) → List ℕ = λ name. name.now in (
      (
        fits_done row seen c.args.names.now c.loop-name.name-index c.args.out.now.items c.loop-name.out.items NameFits c.loop-name-test.false c.loop-name.invariant.fit,
        seen_done row seen c.args.names.now c.loop-name.name-index c.args.out.now.items c.loop-name.out.items c.loop-name-test.false c.loop-name.invariant.bytes,
      ),
      tt,
    )

pub returns-in_err-push_segment : goal.returns-in_err-push_segment
returns-in_err-push_segment c = long_passed_on _ _ _ _ _ c.from_residual.ensures.1 c.in_err-push_segment.ensures.err (λ long. (refl, any_at IsLongName (λ (name : Bor (List ℕ)). name.now) c.args.names.now c.loop-name.name-index _ (omega arith) long))
