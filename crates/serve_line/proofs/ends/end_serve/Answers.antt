use Rattle.std.proofs.Common.{Result, refl, subst, sym}
use Rattle.refusals.specs.declared.refusal.Refusal.{Refusal}
use Rattle.serve_commands.specs.declared.answer.Ended.{Ended}
use Rattle.serve_line.specs.Runs.{EndsServe, EndsSoundly, sinks}
use Rattle.serve_line.proofs.ends.end_serve.Goals as goal

pub returns-in-Ok-clause-ends : goal.returns-in-Ok-clause-ends
returns-in-Ok-clause-ends g c =
    let before = sinks g.O.Sink g.E.Sink c.args.outside.now.streams.output c.args.outside.now.err in
    let now = sinks g.O.Sink g.E.Sink c.finish.new.out c.finish.new.err in
    subst (λ (r : Result Ended Refusal). EndsServe r c.finish.result.0 before now) (sym c.in-Ok.is) c.finish.ensures.written

pub returns-in-Ok-clause-soundly : goal.returns-in-Ok-clause-soundly
returns-in-Ok-clause-soundly g c =
    let old = c.args.outside.now in
    subst (λ (r : Result Ended Refusal). EndsSoundly g.O.Sink g.E.Sink old.streams.output old.err r c.finish.result.0) (sym c.in-Ok.is) c.finish.ensures.sound

pub returns-in-Ok-clause-stays : goal.returns-in-Ok-clause-stays
returns-in-Ok-clause-stays g c = refl

pub returns-in-Err-clause-ends : goal.returns-in-Err-clause-ends
returns-in-Err-clause-ends g c =
    let old = c.args.outside.now in
    let before = sinks g.O.Sink g.E.Sink old.streams.output old.err in
    let now = sinks g.O.Sink g.E.Sink old.streams.output c.refuse.new.err in
    subst (λ (r : Result Ended Refusal). EndsServe r c.refuse.result.0 before now) (sym c.in-Err.is) (c.refuse.ensures.told, refl)

pub returns-in-Err-clause-soundly : goal.returns-in-Err-clause-soundly
returns-in-Err-clause-soundly g c =
    let old = c.args.outside.now in
    subst (λ (r : Result Ended Refusal). EndsSoundly g.O.Sink g.E.Sink old.streams.output old.err r c.refuse.result.0) (sym c.in-Err.is) c.refuse.ensures.sound

pub returns-in-Err-clause-stays : goal.returns-in-Err-clause-stays
returns-in-Err-clause-stays g c = refl
