use Rattle.std.proofs.Common.{take, drop, sym, ap, ◌∙◌, arith}
use Rattle.text_ends.proofs.Faults.{fault_behind, rest_behind}
use Rattle.text_ends.proofs.reading.put_behind.Goals as goal

pub growth_fault-requires-clause-lines : goal.growth_fault-requires-clause-lines
growth_fault-requires-clause-lines g c = omega (arith, c.requires.few, c.requires.lines)

pub growth_fault-requires-clause-few : goal.growth_fault-requires-clause-few
growth_fault-requires-clause-few g c = omega (arith, c.requires.few, c.split_at.ensures.front_len, c.taken-reach.ensures.bounds.1)

pub taken-reach-requires : goal.taken-reach-requires
taken-reach-requires g c = c.requires.goes

pub put_rest-requires-clause-lines : goal.put_rest-requires-clause-lines
put_rest-requires-clause-lines g c = c.requires.lines

pub put_rest-requires-clause-few : goal.put_rest-requires-clause-few
put_rest-requires-clause-few g c = omega (arith, c.requires.few, c.split_at.ensures.back_len)

pub returns-in-Some-clause-value : goal.returns-in-Some-clause-value
returns-in-Some-clause-value g c =
    fault_behind c.args.end.now c.args.bytes.now c.split_at.result.0.now c.in-Some.fault
    (c.split_at.ensures.front ∙ ap (λ n. take n c.args.bytes.now) c.taken-reach.ensures.bytes)
    (c.split_at.ensures.front_len ∙ c.taken-reach.ensures.bytes)
    (sym c.growth_fault.ensures ∙ c.in-Some.is)

pub returns-in-None-clause-value : goal.returns-in-None-clause-value
returns-in-None-clause-value g c =
    rest_behind c.args.end.now c.args.bytes.now c.split_at.result.0.now c.split_at.result.1.now c.taken-reach.result c.put_rest.result
    (c.split_at.ensures.front ∙ ap (λ n. take n c.args.bytes.now) c.taken-reach.ensures.bytes)
    (c.split_at.ensures.front_len ∙ c.taken-reach.ensures.bytes)
    (sym c.growth_fault.ensures ∙ c.in-None.is)
    c.taken-reach.ensures.bytes c.taken-reach.ensures.lines
    (c.split_at.ensures.back ∙ ap (λ n. drop n c.args.bytes.now) c.taken-reach.ensures.bytes)
    c.put_rest.ensures.value
