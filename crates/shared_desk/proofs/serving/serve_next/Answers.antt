use Rattle.std.proofs.Common.{refl}
use Rattle.std.proofs.lemmas.Bool.{false≢true}
use Rattle.shared_desk.specs.Stays.{kit_told}
use Rattle.shared_desk.proofs.Visits.{serves_end, serves_failed, serves_one}
use Rattle.shared_desk.proofs.serving.serve_next.Goals as goal

pub returns-in-Link-clause-served : goal.returns-in-Link-clause-served
returns-in-Link-clause-served g c =
    let link = g.R.Link.Link in
    serves_one link.coming link.sent c.args.page.now c.serve_given.result c.in-Link.link (kit_told g.R.Door g.C.Clock g.M.Maker c.args.kit.now) _ _ c.args.pass.now _
    c.in-Link.ensures.comes c.in-Link.ensures.given c.in-Link.ensures.cause.same refl c.serve_given.ensures.served

pub returns-in-End-clause-served : goal.returns-in-End-clause-served
returns-in-End-clause-served g c =
    let link = g.R.Link.Link in
    serves_end link.coming link.sent c.args.page.now (kit_told g.R.Door g.C.Clock g.M.Maker c.args.kit.now) _ c.args.pass.now
    c.in-End.ensures.comes.0 c.in-End.ensures.comes.1 c.in-End.ensures.given c.in-End.ensures.cause.same refl

pub returns-in-Failed-clause-served : goal.returns-in-Failed-clause-served
returns-in-Failed-clause-served g c =
    let link = g.R.Link.Link in
    serves_failed link.coming link.sent c.args.page.now (kit_told g.R.Door g.C.Clock g.M.Maker c.args.kit.now) _ c.args.pass.now
    c.in-Failed.ensures.comes.0 c.in-Failed.ensures.given c.in-Failed.ensures.cause.rose refl

pub returns-in-Link-clause-sound : goal.returns-in-Link-clause-sound
returns-in-Link-clause-sound g c = λ sound. c.serve_given.ensures.sound (c.in-Link.ensures.sound sound).1

pub returns-in-End-clause-sound : goal.returns-in-End-clause-sound
returns-in-End-clause-sound g c = λ sound. (λ is. absurd (cc (is)), (c.in-End.ensures.sound sound).1)

pub returns-in-Failed-clause-sound : goal.returns-in-Failed-clause-sound
returns-in-Failed-clause-sound g c = λ sound. absurd (false≢true (c.in-Failed.ensures.sound sound).0)
