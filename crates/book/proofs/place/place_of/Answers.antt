use Rattle.std.proofs.Common.{ℕ, ◌+◌, ◌-◌, ◌<◌, length, ◌/◌, sym, arith}
use Rattle.std.specs.declared.cmp.Ordering.TheVariants.{Less, Equal, Greater}
use Rattle.std.specs.Cmp.Lexicographic.{nat_list_cmp_total}
use Rattle.std.specs.FinMap.{slice_cmp-IsAntisymmetric, nat_cmp-IsAntisymmetric}
use Rattle.book.proofs.Places.{answered, smaller_from, greater_from}
use Rattle.book.proofs.place.place_of.Goals as goal

pub loop-low-preserved-in-Less : goal.loop-low-preserved-in-Less
loop-low-preserved-in-Less g c =
    let same = slice_cmp-IsAntisymmetric nat_cmp-IsAntisymmetric in
    let m : ℕ = c.loop-low.low + (c.loop-low.high - c.loop-low.low) / 2 in
    let within : c.loop-low.low + (c.loop-low.high - c.loop-low.low) / 2 < length c.args.entries.now = omega arith in
    let read = answered nat_list_cmp_total same c.args.entries.now c.args.symbol.now m c.index-entries-middle.result Less within (sym c.in-Less.ensures) in
    record {
      ordered = omega arith;
      within = c.loop-low.invariant.within;
      smaller = smaller_from nat_list_cmp_total same c.args.entries.now c.args.symbol.now m c.requires within read;
      greater = c.loop-low.invariant.greater;
    }

pub returns-in-Equal-clause-found : goal.returns-in-Equal-clause-found
returns-in-Equal-clause-found g c =
    let same = slice_cmp-IsAntisymmetric nat_cmp-IsAntisymmetric in
    let m : ℕ = c.loop-low.low + (c.loop-low.high - c.loop-low.low) / 2 in
    let within : c.loop-low.low + (c.loop-low.high - c.loop-low.low) / 2 < length c.args.entries.now = omega arith in
    let read = answered nat_list_cmp_total same c.args.entries.now c.args.symbol.now m c.index-entries-middle.result Equal within (sym c.in-Equal.ensures) in
    record { within = within; is = λ d. same _ _ (read d) }

pub loop-low-preserved : goal.loop-low-preserved
loop-low-preserved g c =
    let same = slice_cmp-IsAntisymmetric nat_cmp-IsAntisymmetric in
    let m : ℕ = c.loop-low.low + (c.loop-low.high - c.loop-low.low) / 2 in
    let within : c.loop-low.low + (c.loop-low.high - c.loop-low.low) / 2 < length c.args.entries.now = omega arith in
    let read = answered nat_list_cmp_total same c.args.entries.now c.args.symbol.now m c.index-entries-middle.result Greater within (sym c.in-Greater.ensures) in
    record {
      ordered = omega arith;
      within = omega arith;
      smaller = c.loop-low.invariant.smaller;
      greater = greater_from nat_list_cmp_total same c.args.entries.now c.args.symbol.now m c.requires read;
    }
