use Rattle.std.proofs.lemmas.Result.{err_from_is_err_and}
use Rattle.balancing.proofs.Singles.{further, further_range}
use Rattle.balancing.proofs.moves.add_to_only.Goals as goal

pub returns-in_err-sum-in-Some-clause-range : goal.returns-in_err-sum-in-Some-clause-range
returns-in_err-sum-in-Some-clause-range c =
    let p = err_from_is_err_and c.from_residual.result c.from_residual.ensures.1 in
    rw p.1 (λ _. further_range c.args.only.now c.in-Some.name c.in-Some.sum c.args.value c.args.symbol.now c.in-Some.ensures.value c.requires c.in_err-sum-in-Some.ensures.fault)

pub returns-in_ok-sum-in-Some-clause-ok : goal.returns-in_ok-sum-in-Some-clause-ok
returns-in_ok-sum-in-Some-clause-ok c =
    further c.args.only.now c.in-Some.name c.in-Some.sum c.args.value c.args.symbol.now c.in-Some.ensures.value c.requires
    c.in_ok-sum-in-Some.sum c.in_ok-sum-in-Some.ensures.value
