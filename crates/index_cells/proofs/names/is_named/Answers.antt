use Rattle.std.proofs.Common.{ℕ, ◌+◌, ◌-◌, ◌/◌, ◌<◌, refl, sym, arith}
use Rattle.index_cells.proofs.Merging.{is_absent, is_here, middle_from, middle_in, middle_within, split_above, split_all, split_below}
use Rattle.index_cells.proofs.names.is_named.Goals as goal

pub loop-low-init : goal.loop-low-init
loop-low-init c = split_all c.args.names.now c.args.name.now 0 _ refl refl

pub loop-low-preserved-in-Less : goal.loop-low-preserved-in-Less
loop-low-preserved-in-Less c =
    let low : ℕ = c.loop-low.low in
    let high : ℕ = c.loop-low.high in
    let lt : c.loop-low.low < c.loop-low.high = omega arith in
    split_above c.args.names.now c.args.name.now c.requires (low + (high - low) / 2) c.index-names-middle.result (middle_within c.args.names.now c.args.name.now low high lt c.loop-low.invariant) c.index-names-middle.is low high (middle_in low high lt) c.loop-low.invariant (sym c.in-Less.ensures)

pub loop-low-preserved : goal.loop-low-preserved
loop-low-preserved c =
    let low : ℕ = c.loop-low.low in
    let high : ℕ = c.loop-low.high in
    let lt : c.loop-low.low < c.loop-low.high = omega arith in
    split_below c.args.names.now c.args.name.now c.requires (low + (high - low) / 2) c.index-names-middle.result (middle_within c.args.names.now c.args.name.now low high lt c.loop-low.invariant) c.index-names-middle.is low high (middle_from low high) c.loop-low.invariant (sym c.in-Greater.ensures)

pub returns-in-Equal : goal.returns-in-Equal
returns-in-Equal c =
    let low : ℕ = c.loop-low.low in
    let high : ℕ = c.loop-low.high in
    let lt : c.loop-low.low < c.loop-low.high = omega arith in
    sym (is_here c.args.names.now c.args.name.now c.requires (low + (high - low) / 2) c.index-names-middle.result (middle_within c.args.names.now c.args.name.now low high lt c.loop-low.invariant) c.index-names-middle.is (sym c.in-Equal.ensures))

pub returns : goal.returns
returns c = sym (is_absent c.args.names.now c.args.name.now c.requires c.loop-low.low c.loop-low.high (omega arith) c.loop-low.invariant)
