use Rattle.std.proofs.Common.{◌≡◌, ◌∙◌, subst}
use Rattle.hl_num.specs.Decimal.{units_of}
use Rattle.placed_sums.specs.Days.{numbers_in}
use Rattle.placed_sums.specs.Placed.{Known, known, sum_placed}
use Rattle.placed_sums.proofs.Known.{day_bounded, past_fits, past_is, sum_is}
use Rattle.placed_sums.proofs.placed.SumsAt.sum.Goals as goal

pub upto-kept-requires : goal.upto-kept-requires
upto-kept-requires g c = c.self.invariant.near

pub day_sum-today-requires-clause-fits : goal.day_sum-today-requires-clause-fits
day_sum-today-requires-clause-fits g c = c.self.invariant.fits

pub day_sum-today-requires-clause-part : goal.day_sum-today-requires-clause-part
day_sum-today-requires-clause-part g c =
    let s = c.self.inside in
    let k : Known = known (g.B.ByNumber.txns s.book.now) s.index.now (numbers_in s.earlier.now) s.symbols.now s.day s.number in
    day_bounded k c.args.account.now c.args.symbol.now c.args.below c.self.invariant

pub sum_of-requires : goal.sum_of-requires
sum_of-requires g c =
    let s = c.self.inside in
    let k : Known = known (g.B.ByNumber.txns s.book.now) s.index.now (numbers_in s.earlier.now) s.symbols.now s.day s.number in
    past_fits k c.args.account.now c.args.symbol.now c.args.below c.self.invariant c.trimmed-past.result c.day_sum-today.result
    (c.trimmed-past.ensures.value ∙ past_is k c.args.account.now c.args.symbol.now c.args.below c.self.invariant (units_of c.upto-kept.result) c.upto-kept.ensures.sum.value) c.trimmed-past.ensures.trimmed c.day_sum-today.ensures

pub returns-clause-sum : goal.returns-clause-sum
returns-clause-sum g c =
    let s = c.self.inside in
    let k : Known = known (g.B.ByNumber.txns s.book.now) s.index.now (numbers_in s.earlier.now) s.symbols.now s.day s.number in
    let P : Known → Type 0 = λ k. units_of c.sum_of.result ≡ sum_placed k c.args.account.now c.args.below c.args.symbol.now in
    subst P c.self.view_is
    (sum_is k c.args.account.now c.args.symbol.now c.args.below c.self.invariant c.trimmed-past.result c.day_sum-today.result c.sum_of.result
    (c.trimmed-past.ensures.value ∙ past_is k c.args.account.now c.args.symbol.now c.args.below c.self.invariant (units_of c.upto-kept.result) c.upto-kept.ensures.sum.value) c.day_sum-today.ensures c.sum_of.ensures.value)
