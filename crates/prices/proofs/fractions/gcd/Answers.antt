use Rattle.std.proofs.Common.{◌≡◌, ℕ, ◌<◌, ◌≤◌, ◌∙◌, sym, subst, arith}
use Rattle.std.specs.Int.{IsGcd}
use Rattle.prices.specs.Fractions.{gcd}
use Rattle.prices.proofs.Gcd.{gcd_step, gcd_end, gcd_is, gcd_above, gcd_below}
use Rattle.prices.proofs.fractions.gcd.Goals as goal

pub loop-y-preserved : goal.loop-y-preserved
loop-y-preserved c = gcd_step c.loop-y.x c.loop-y.y (omega arith) ∙ c.loop-y.invariant

pub returns : goal.returns
returns c =
    let is : c.loop-y.x ≡ gcd c.args.a c.args.b = sym (gcd_end c.loop-y.x c.loop-y.y (omega arith)) ∙ c.loop-y.invariant in
    record {
      value = is;
      greatest = subst (IsGcd c.args.a c.args.b) (sym is) (gcd_is c.args.a c.args.b);
      above = subst (λ (n : ℕ). 0 < n) (sym is) (gcd_above c.args.a c.args.b c.requires);
      below = subst (λ (n : ℕ). n ≤ c.args.b) (sym is) (gcd_below c.args.a c.args.b c.requires);
    }
