use Rattle.std.proofs.Common.{[], ◌∷◌, ap, sym, subst, ◌∙◌}
use Rattle.desk.specs.Desks.{IsServed}
use Rattle.desk.specs.Entries.{Entry}
use Rattle.desk.specs.declared.desk.Desk.{Desk}
use Rattle.turn_lock.specs.Growth.{Grown}
use Rattle.turn_lock.proofs.Growth.{one_call, only_seen}
use Rattle.shared_desk.proofs.Passes.{full_as}
use Rattle.shared_desk.proofs.locked.ask_in_turn.Goals as goal

pub give-requires-clause-leads : goal.give-requires-clause-leads
give-requires-clause-leads g c κs within =
    let held = c.in-Ok.held in
    let answer = c.answer-reply in
    let P : Desk g.row.D.Denot g.D.Disk → Type 0 = λ before. IsServed before answer.result.note answer.new.self.desk in
    (held.value, c.in-Ok.ensures.held.1, subst P (ap (λ s. s.desk) c.value.ensures.value) answer.ensures.served)

pub returns-in-Ok-clause-answered : goal.returns-in-Ok-clause-answered
returns-in-Ok-clause-answered g c =
    let old = c.args.pass.now in
    let new = c.give.new.pass in
    let note = c.answer-reply.result.note in
    let P : Entry → Type 0 = λ entry. Grown old new (entry ∷ []) in
    subst P c.answer-reply.ensures.note
    (one_call old c.take.new.pass new note c.take.ensures.pass c.take.ensures.seen c.requires.free.1 c.give.ensures)

pub returns-in-Ok-clause-free : goal.returns-in-Ok-clause-free
returns-in-Ok-clause-free g c =
    (ap (λ p. p.lock) c.give.ensures ∙ c.take.ensures.pass.0 ∙ c.requires.free.0, ap (λ p. p.hold) c.give.ensures)

pub returns-in-Err-clause-spent : goal.returns-in-Err-clause-spent
returns-in-Err-clause-spent g c =
    let old = c.args.pass.now in
    let new = c.take.new.pass in
    let keeps = c.take.ensures.pass in (
      only_seen old new keeps c.take.ensures.seen (c.in-Err.ensures.spent.0 ∙ sym c.requires.free.1),
      full_as c.args.turn.now new (keeps.0 ∙ c.requires.free.0) c.in-Err.ensures.spent.1,
    )

pub returns-in-Err-clause-free : goal.returns-in-Err-clause-free
returns-in-Err-clause-free g c = (c.take.ensures.pass.0 ∙ c.requires.free.0, c.in-Err.ensures.spent.0)
