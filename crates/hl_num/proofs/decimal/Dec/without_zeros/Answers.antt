use Rattle.std.proofs.Common.{ap, ◌∙◌, arith}
use Rattle.hl_num.specs.Decimal.{Decimal}
use Rattle.hl_num.proofs.TrimLemmas.{drop_zero}
use Rattle.hl_num.proofs.decimal.Dec.without_zeros.Goals as goal

pub loop-places-preserved : goal.loop-places-preserved
loop-places-preserved c =
    let own = ap (λ (d : Decimal). d.places) c.self.view_is in
    record {
      exact = drop_zero c.loop-places.magnitude c.loop-places.places (omega arith) (omega arith) c.if-magnitude-eq0.true ∙ c.loop-places.invariant.exact;
      small = omega arith;
      fewer = omega arith;
    }
