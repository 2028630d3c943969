use Rattle.std.proofs.Common.{◌≡◌, ℕ, suc, ◌-◌, ◌∙◌, sym, subst, arith}
use Rattle.prices.specs.Index.{IsBound}
use Rattle.prices.proofs.Latest.{at_start, found_at, other_at}
use Rattle.prices.proofs.index.latest.Goals as goal

pub returns-then-end-eq0 : goal.returns-then-end-eq0
returns-then-end-eq0 c = sym (at_start c.args.sorted.now c.args.symbol.now c.args.target.now c.args.day.0
    (subst (λ (n : ℕ). IsBound c.args.sorted.now c.args.symbol.now c.args.target.now c.args.day.0 n n) c.if-end-eq0.true c.bound_of-end.ensures))

pub returns-then-is_pair : goal.returns-then-is_pair
returns-then-is_pair c =
    let last : c.bound_of-end.result ≡ suc (c.bound_of-end.result - 1) = omega arith in
    let bound = subst (λ (n : ℕ). IsBound c.args.sorted.now c.args.symbol.now c.args.target.now c.args.day.0 n n) last c.bound_of-end.ensures in
    sym (found_at c.args.sorted.now c.args.symbol.now c.args.target.now c.args.day.0 (c.bound_of-end.result - 1) c.index-sorted-end.result c.requires bound c.index-sorted-end.is (sym c.is_pair.ensures ∙ c.if-is_pair.true))

pub returns-else-is_pair : goal.returns-else-is_pair
returns-else-is_pair c =
    let last : c.bound_of-end.result ≡ suc (c.bound_of-end.result - 1) = omega arith in
    let bound = subst (λ (n : ℕ). IsBound c.args.sorted.now c.args.symbol.now c.args.target.now c.args.day.0 n n) last c.bound_of-end.ensures in
    sym (other_at c.args.sorted.now c.args.symbol.now c.args.target.now c.args.day.0 (c.bound_of-end.result - 1) c.index-sorted-end.result c.requires bound c.index-sorted-end.is (sym c.is_pair.ensures ∙ c.if-is_pair.false))
