use Rattle.std.proofs.Common.{◌≡◌, ◌+◌, ◌<◌, ap, ◌∙◌, arith}
use Rattle.hl_time.specs.Split.{begins}
use Rattle.hl_time.proofs.SplitLaws.{begins_grows, begins_index, is_split, cut_more, Cut}
use Rattle.hl_time.proofs.cutting.split.Goals as goal

so_far : (c : goal.In_ok-push) → Cut c.args.span c.args.interval c.loop-from.parts.items c.loop-from.index c.loop-from.from
so_far c = record {
  place = c.loop-from.invariant.place;
  begun = c.loop-from.invariant.begun;
  cut = c.loop-from.invariant.cut;
  needed = c.loop-from.invariant.needed;
}

pub loop-from-smaller : goal.loop-from-smaller
loop-from-smaller c =
    let unit = c.args.interval.unit in
    let inside : begins unit c.loop-from.index < 3_652_060 = omega (arith, c.loop-from.invariant.begun) in
    omega (arith, c.begins-end.ensures, c.loop-from.invariant.begun, begins_grows unit c.loop-from.index (c.loop-from.index + c.from-index.result) (omega (arith, c.from-index.ensures)) inside)

pub loop-from-preserved : goal.loop-from-preserved
loop-from-preserved c =
    let n : c.from-index.result ≡ c.args.interval.n = c.from-index.ensures in
    let next = rw n at c.begins-end.ensures in
    let inside : begins c.args.interval.unit c.loop-from.index < 3_652_060 = omega (arith, c.loop-from.invariant.begun) in
    let more = cut_more c.args.span c.args.interval c.loop-from.parts.items c.push.new.self.items c.loop-from.index c.loop-from.from c.begins-end.result c.requires.last (so_far c) c.loop-from-test.true next c.in_ok-push.ensures.items in
    let index : c.loop-from.index + c.from-index.result ≡ c.loop-from.index + c.args.interval.n = ap (λ k. c.loop-from.index + k) n in
    record {
      place = index ∙ more.place;
      begun = c.begins-end.ensures;
      bound = omega (arith, begins_index c.args.interval.unit c.loop-from.index inside);
      cut = more.cut;
      needed = more.needed;
    }

pub returns : goal.returns
returns c =
    rw c.from_vec.ensures (is_split c.args.span c.args.interval c.loop-from.parts.items c.loop-from.index c.loop-from.from c.requires.first c.requires.some c.requires.last (record {
      place = c.loop-from.invariant.place;
      begun = c.loop-from.invariant.begun;
      cut = c.loop-from.invariant.cut;
      needed = c.loop-from.invariant.needed;
    }) c.loop-from-test.false)
