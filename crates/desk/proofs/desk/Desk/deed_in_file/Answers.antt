use Rattle.std.proofs.Common.{refl, sym, ◌∙◌}
use Rattle.std.proofs.lemmas.Result.{IfOk-weaker}
use Rattle.desk.specs.declared.request.Allow.TheVariants as allow
use Rattle.desk.specs.declared.request.Request.TheVariants as request
use Rattle.desk.specs.declared.reply.Reply.TheVariants as reply
use Rattle.desk.specs.Desks.{state_of}
use Rattle.desk.specs.States.{import_answer}
use Rattle.desk.proofs.Imported.{forbidden_import, out_of_room, tells_room, tells_unmade, unmade}
use Rattle.desk.proofs.Quiet.{quiet}
use Rattle.desk.proofs.Served.{forbids, permits}
use Rattle.desk.proofs.desk.Desk.deed_in_file.Goals as goal

pub returns-then-not-covers-clause-refusal : goal.returns-then-not-covers-clause-refusal
returns-then-not-covers-clause-refusal g c =
    let desk = c.args.self.now in
    let f = forbids desk.allow allow.Add (sym c.covers.ensures ∙ c.if-not-covers.true) in
    forbidden_import c.args.name.now c.args.rules.now c.args.csv.now (state_of desk) (reply.Forbidden allow.Add desk.allow) f refl

pub returns-then-not-covers-clause-maker : goal.returns-then-not-covers-clause-maker
returns-then-not-covers-clause-maker g c = λ day.
    let maker = g.M.Maker in
    quiet (request.Import c.args.name.now c.args.rules.now c.args.csv.now) day (maker.refusals c.args.maker.now) (maker.last_refused c.args.maker.now) (reply.Forbidden allow.Add c.args.self.now.allow) refl

pub returns-in-Ok-clause-deed : goal.returns-in-Ok-clause-deed
returns-in-Ok-clause-deed g c =
    let f = permits c.args.self.now.allow allow.Add (sym c.covers.ensures ∙ c.if-not-covers.false) in
    IfOk-weaker c.deed_of.result _ _ (λ deed h. record {
      allowed = f;
      txns = c.in-Ok.txns;
      made = c.in-Ok.ensures.file.0;
      is = h;
    }) c.deed_of.ensures.deed

pub returns-in-Ok-clause-refusal : goal.returns-in-Ok-clause-refusal
returns-in-Ok-clause-refusal g c =
    let s = state_of c.args.self.now in
    out_of_room s (import_answer s c.args.name.now c.args.rules.now c.args.csv.now) c.deed_of.result c.deed_of.ensures.memory

pub returns-in-Ok-clause-maker : goal.returns-in-Ok-clause-maker
returns-in-Ok-clause-maker g c = λ day.
    tells_room (request.Import c.args.name.now c.args.rules.now c.args.csv.now) day _ _ _ _ c.deed_of.result c.in-Ok.ensures.file.1 c.deed_of.ensures.memory

pub returns-in-Err-clause-refusal : goal.returns-in-Err-clause-refusal
returns-in-Err-clause-refusal g c =
    let desk = c.args.self.now in
    let f = permits desk.allow allow.Add (sym c.covers.ensures ∙ c.if-not-covers.false) in
    unmade c.args.name.now c.args.rules.now c.args.csv.now (state_of desk) c.in-Err.reply f c.in-Err.ensures.file.0

pub returns-in-Err-clause-maker : goal.returns-in-Err-clause-maker
returns-in-Err-clause-maker g c = λ day.
    tells_unmade c.args.name.now c.args.rules.now c.args.csv.now day _ _ _ _ c.in-Err.reply c.in-Err.ensures.file.0 c.in-Err.ensures.file.1
