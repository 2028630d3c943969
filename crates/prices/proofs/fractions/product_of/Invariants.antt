use Rattle.std.proofs.Common.{◌≡◌, drop}
use Rattle.prices.specs.Fractions.{product_from, product_of}
use Rattle.prices.proofs.fractions.product_of.Given as goal

abbrev pub invariant-loop-rate : goal.invariant-loop-rate
invariant-loop-rate l = product_from l.so_far (drop l.rate-index l.rates) ≡ product_of l.rates
