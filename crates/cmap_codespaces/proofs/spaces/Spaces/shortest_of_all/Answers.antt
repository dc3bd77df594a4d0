use Rattle.std.proofs.Common.{◌≡◌, ◌<◌, get_or, length, ap, sym, ◌∙◌, subst, arith}
use Rattle.std.specs.Int.{bit_at}
use Rattle.std.proofs.lemmas.Bool.{eqb-false}
use Rattle.cmap_codespaces.specs.CodesWithin.{IsLeast}
use Rattle.cmap_codespaces.specs.SpaceBits.{HaveRows, IsInsideWithin, row_of_front}
use Rattle.cmap_codespaces.proofs.FrontRows.{NoBitBelow, bit_fits, first_bit_inside, no_bit_inside, none_before_bit}
use Rattle.cmap_codespaces.proofs.SpacesFound.{least_ranges, NoneBelow}
use Rattle.cmap_codespaces.proofs.spaces.Spaces.shortest_of_all.Goals as goal

pub returns-then-is_empty : goal.returns-then-is_empty
returns-then-is_empty c =
    let text = c.args.text.now in let found = c.shortest_among_blocks.result in
    let is : c.deref.result.now ≡ c.self.inside.blocks.items = c.deref.ensures.value in
    rw (← c.self.view_is)
    (least_ranges c.self.inside.list.items c.self.inside.blocks.items text found (λ k. omega (arith, c.type_inv.text k)) c.self.invariant.by_blocks (subst (λ blocks. IsLeast (IsInsideWithin text blocks 0 (length blocks)) found) is c.shortest_among_blocks.ensures))

pub returns-in_err-fewest : goal.returns-in_err-fewest
returns-in_err-fewest c =
    let list = c.self.inside.list.items in let rows = c.self.inside.lengths.items in let text = c.args.text.now in
    let some : 0 < length c.self.inside.lengths.items = omega (arith, eqb-false _ 0 (sym c.if-is_empty-2.ensures)) in
    let is : c.lengths_with_front-lengths.result ≡ get_or rows (row_of_front text) 0 = c.lengths_with_front-lengths.ensures ∙ ap (λ l. get_or l (row_of_front text) 0) c.deref-2.ensures.value in
    rw (← c.self.view_is) (rw c.from_residual.ensures (no_bit_inside list rows text (λ k. omega (arith, c.type_inv.text k)) (c.self.invariant.by_lengths some) (λ n more within set. c.in_err-fewest.ensures.first n (more, ap (λ b. bit_at b n) is ∙ set))))

pub returns-then-from-text : goal.returns-then-from-text
returns-then-from-text c =
    let list = c.self.inside.list.items in let rows = c.self.inside.lengths.items in let text = c.args.text.now in
    let some : 0 < length c.self.inside.lengths.items = omega (arith, eqb-false _ 0 (sym c.if-is_empty-2.ensures)) in
    let is : c.lengths_with_front-lengths.result ≡ get_or rows (row_of_front text) 0 = c.lengths_with_front-lengths.ensures ∙ ap (λ l. get_or l (row_of_front text) 0) c.deref-2.ensures.value in
    let n = c.in_ok-fewest.field-0 in
    let least = c.in_ok-fewest.ensures.first in
    let none : NoBitBelow rows text n = λ m more below set. least.1 m below (more, ap (λ b. bit_at b m) is ∙ set) in
    rw (← c.self.view_is) (no_bit_inside list rows text (λ k. omega (arith, c.type_inv.text k)) (c.self.invariant.by_lengths some) (λ m more within set. none m more (omega (arith, c.from.ensures, c.if-from-text.true)) set))

pub returns-then-from-le-EXACT_LEN : goal.returns-then-from-le-EXACT_LEN
returns-then-from-le-EXACT_LEN c =
    let list = c.self.inside.list.items in let rows = c.self.inside.lengths.items in let text = c.args.text.now in
    let some : 0 < length c.self.inside.lengths.items = omega (arith, eqb-false _ 0 (sym c.if-is_empty-2.ensures)) in
    let is : c.lengths_with_front-lengths.result ≡ get_or rows (row_of_front text) 0 = c.lengths_with_front-lengths.ensures ∙ ap (λ l. get_or l (row_of_front text) 0) c.deref-2.ensures.value in
    let n = c.in_ok-fewest.field-0 in
    let least = c.in_ok-fewest.ensures.first in
    let none : NoBitBelow rows text n = λ m more below set. least.1 m below (more, ap (λ b. bit_at b m) is ∙ set) in
    rw (← c.self.view_is)
    (first_bit_inside list rows text n (λ k. omega (arith, c.type_inv.text k)) (c.self.invariant.by_lengths some) (omega (arith, c.from-2.ensures, c.if-from-le-EXACT_LEN.true)) (omega (arith, c.from.ensures, c.if-from-text.false)) (ap (λ b. bit_at b n) (sym is) ∙ least.0.1) none)

pub shortest_among_groups-requires-2-clause-shorter : goal.shortest_among_groups-requires-2-clause-shorter
shortest_among_groups-requires-2-clause-shorter c =
    let list = c.self.inside.list.items in let rows = c.self.inside.lengths.items in let text = c.args.text.now in
    let some : 0 < length c.self.inside.lengths.items = omega (arith, eqb-false _ 0 (sym c.if-is_empty-2.ensures)) in
    let is : c.lengths_with_front-lengths.result ≡ get_or rows (row_of_front text) 0 = c.lengths_with_front-lengths.ensures ∙ ap (λ l. get_or l (row_of_front text) 0) c.deref-2.ensures.value in
    let n = c.in_ok-fewest.field-0 in
    let least = c.in_ok-fewest.ensures.first in
    let none : NoBitBelow rows text n = λ m more below set. least.1 m below (more, ap (λ b. bit_at b m) is ∙ set) in
    let fits = bit_fits list rows text n (λ k. omega (arith, c.type_inv.text k)) (c.self.invariant.by_lengths some) (ap (λ b. bit_at b n) (sym is) ∙ least.0.1) in
    subst (λ blocks. NoneBelow blocks text n) (sym c.deref-3.ensures.value) (none_before_bit list c.self.inside.blocks.items rows text n (λ k. omega (arith, c.type_inv.text k)) c.self.invariant.by_blocks (c.self.invariant.by_lengths some) fits.1 none)

pub returns : goal.returns
returns c =
    let text = c.args.text.now in let found = c.shortest_among_groups-2.result in
    let is : c.deref-3.result.now ≡ c.self.inside.blocks.items = c.deref-3.ensures.value in
    rw (← c.self.view_is)
    (least_ranges c.self.inside.list.items c.self.inside.blocks.items text found (λ k. omega (arith, c.type_inv.text k)) c.self.invariant.by_blocks (subst (λ blocks. IsLeast (IsInsideWithin text blocks 0 (length blocks)) found) is c.shortest_among_groups-2.ensures))

pub shortest_among_groups-requires-clause-shorter : goal.shortest_among_groups-requires-clause-shorter
shortest_among_groups-requires-clause-shorter c = λ n some short found. absurd (omega (arith, some, short))

pub returns-then-is_empty-2 : goal.returns-then-is_empty-2
returns-then-is_empty-2 c =
    let text = c.args.text.now in let found = c.shortest_among_groups.result in
    let is : c.deref-then-is_empty-2.result.now ≡ c.self.inside.blocks.items = c.deref-then-is_empty-2.ensures.value in
    rw (← c.self.view_is)
    (least_ranges c.self.inside.list.items c.self.inside.blocks.items text found (λ k. omega (arith, c.type_inv.text k)) c.self.invariant.by_blocks (subst (λ blocks. IsLeast (IsInsideWithin text blocks 0 (length blocks)) found) is c.shortest_among_groups.ensures))

pub shortest_among_blocks-requires : goal.shortest_among_blocks-requires
shortest_among_blocks-requires c =
    subst HaveRows (sym c.deref.ensures.value) (λ b d within. (c.self.invariant.by_blocks.each b d within).size)

pub shortest_among_groups-requires-clause-groups : goal.shortest_among_groups-requires-clause-groups
shortest_among_groups-requires-clause-groups c =
    let some : 0 < length c.self.inside.groups.items = omega (arith, eqb-false _ 0 (sym c.if-is_empty.ensures)) in
    let blocks = c.deref-then-is_empty-2.ensures.value in let groups = c.deref-then-is_empty-2-2.ensures.value in
    rw (blocks, groups) (c.self.invariant.by_groups some)

pub shortest_among_groups-requires-clause-tops : goal.shortest_among_groups-requires-clause-tops
shortest_among_groups-requires-clause-tops c =
    rw (c.deref-then-is_empty-2-2.ensures.value, c.deref-then-is_empty-2-3.ensures.value) c.self.invariant.by_tops

pub shortest_among_groups-requires-clause-rows : goal.shortest_among_groups-requires-clause-rows
shortest_among_groups-requires-clause-rows c =
    let blocks = c.deref-then-is_empty-2.ensures.value in
    subst HaveRows (sym blocks) (λ b d within. (c.self.invariant.by_blocks.each b d within).size)

pub shortest_among_groups-requires-2-clause-groups : goal.shortest_among_groups-requires-2-clause-groups
shortest_among_groups-requires-2-clause-groups c =
    let some : 0 < length c.self.inside.groups.items = omega (arith, eqb-false _ 0 (sym c.if-is_empty.ensures)) in
    rw (c.deref-3.ensures.value, c.deref-4.ensures.value) (c.self.invariant.by_groups some)

pub shortest_among_groups-requires-2-clause-tops : goal.shortest_among_groups-requires-2-clause-tops
shortest_among_groups-requires-2-clause-tops c =
    rw (c.deref-4.ensures.value, c.deref-5.ensures.value) c.self.invariant.by_tops

pub shortest_among_groups-requires-2-clause-rows : goal.shortest_among_groups-requires-2-clause-rows
shortest_among_groups-requires-2-clause-rows c =
    let blocks = c.deref-3.ensures.value in
    subst HaveRows (sym blocks) (λ b d within. (c.self.invariant.by_blocks.each b d within).size)
