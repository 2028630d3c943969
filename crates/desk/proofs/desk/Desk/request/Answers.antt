use Rattle.std.proofs.Common.{ℕ, refl, ap, ◌∙◌}
use Rattle.desk.specs.Desks.{state_of}
use Rattle.desk.specs.States.{answer_to, deed_in}
use Rattle.desk.specs.Steps.{counted}
use Rattle.desk.proofs.Complete.{completes}
use Rattle.desk.proofs.Still.{recounted}
use Rattle.desk.proofs.desk.Desk.request.Goals as goal

pub returns-clause-served : goal.returns-clause-served
returns-clause-served g c =
    let old = c.args.self.now in
    let s = state_of old in
    let kept = c.keep_for_later.ensures in
    record {
      serves = recounted (answer_to s c.args.day.0 c.args.request.now) (deed_in s c.args.request.now) old c.answer-reply.result c.answer-reply.new.self c.keep_for_later.new.self
          (kept.store ∙ c.count.ensures.store) (kept.live ∙ c.count.ensures.live) (kept.latest ∙ c.count.ensures.latest) (kept.allowed ∙ c.count.ensures.allowed) c.answer-reply.ensures.served;
      counts = kept.counts ∙ c.count.ensures.counts ∙ ap (λ (n : ℕ × ℕ). counted n c.answer-reply.result) c.answer-reply.ensures.counts;
      revision = refl;
    }

pub returns-clause-complete : goal.returns-clause-complete
returns-clause-complete g c =
    let maker = g.M.Maker in
    let s = state_of c.args.self.now in
    rw (c.keep_for_later.ensures.store, c.count.ensures.store) (completes c.args.request.now c.args.day.0 (maker.refusals c.args.maker.now) (maker.refusals c.answer-reply.new.maker) (maker.last_refused c.args.maker.now) (maker.last_refused c.answer-reply.new.maker)
    s (deed_in s c.args.request.now) _ _ _ _ c.answer-reply.ensures.served.gives c.answer-reply.ensures.maker)

pub returns-clause-steps : goal.returns-clause-steps
returns-clause-steps g c = c.answer-reply.ensures.steps
