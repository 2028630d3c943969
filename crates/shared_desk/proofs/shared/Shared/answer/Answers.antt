use Rattle.std.proofs.Common.{ℕ, sym, subst}
use Rattle.desk.specs.Desks.{IsServed}
use Rattle.desk.specs.Entries.{Entry}
use Rattle.shared_desk.proofs.shared.Shared.answer.Goals as goal

pub returns-clause-served : goal.returns-clause-served
returns-clause-served g c =
    let old = c.args.self.now.desk in
    let new = c.request-reply.new.self in
    let P : Entry → Type 0 = λ entry. IsServed old entry new in
    let Q : ℕ → Type 0 = λ r. IsServed old (record { request = c.args.request.now; day = c.args.day; reply = c.request-reply.result; revision = r }) new in
    subst P (sym c.of-note.ensures) (subst Q (sym c.counts-revision.ensures.0) c.request-reply.ensures.served)
