use Rattle.std.proofs.Common.{◌++◌, length, map, refl, sym, ap, subst, ◌∙◌, arith}
use Rattle.std.specs.Prelude.{All}
use Rattle.desk_team.specs.Teams.{AllWorked, hired, member_of}
use Rattle.desk_team.proofs.Joining.{SawNoMore, hired-length, members-length, none_failed, team_served}
use Rattle.desk_team.proofs.team.serve_under.Goals as goal

pub dismiss-kits-requires-clause-room : goal.dismiss-kits-requires-clause-room
dismiss-kits-requires-clause-room g c =
    omega (arith, c.work_all.ensures.many, ap length c.hire-workers.ensures.hired, hired-length c.args.lock.0 0 c.args.kits, c.requires.room.1)

pub close-desk-requires-clause-all : goal.close-desk-requires-clause-all
close-desk-requires-clause-all g c κs within =
    let kits = c.args.kits in
    let news = c.work_all.new.workers.items in
    let first = c.hire-workers.ensures.first in
    let made = c.dismiss-kits.ensures.first.1 ∙ ap (λ p. p.made) first in
    let joined = c.dismiss-kits.ensures.joined ∙ ap (λ p. p.joined ++ map member_of news) first in
    omega (arith, made, ap length joined, members-length news (map member_of news) refl, c.work_all.ensures.many, ap length c.hire-workers.ensures.hired, hired-length c.args.lock.0 0 kits)

pub returns-clause-served : goal.returns-clause-served
returns-clause-served g c =
    let link = g.R.Link.Link in
    let lock = c.args.lock.0 in
    let kits = c.args.kits in
    let news = c.work_all.new.workers.items in
    let hired_are = c.hire-workers.ensures.hired in
    let first = c.hire-workers.ensures.first in
    let done = c.dismiss-kits in
    let closed = c.close-desk.result in
    let pass = c.close-desk.ensures.pass in
    let joined = ap (λ p. p.joined) pass ∙ done.ensures.joined ∙ ap (λ p. p.joined ++ map member_of news) first in
    let mine = ap (λ p. p.mine) pass ∙ done.ensures.first.2 ∙ ap (λ p. p.mine) first in
    let many = c.work_all.ensures.many ∙ ap length hired_are ∙ hired-length lock 0 kits in
    let all = subst (λ olds. AllWorked g.R.Door g.C.Clock g.M.Maker link.coming link.sent c.args.page.now c.args.limit olds news) hired_are c.work_all.ensures.worked in
    let seen = subst (λ history. All (SawNoMore history) news) (sym (ap (λ p. p.seen) pass)) done.ensures.seen in
    team_served g.R.Door g.C.Clock g.M.Maker link.coming link.sent c.args.page.now c.args.limit lock lock.opening.desk closed.0.desk closed.1.seen kits news
    done.result.0 done.result.1 closed.1.mine closed.1.joined done.ensures.kits done.ensures.failed
    many all mine joined c.close-desk.ensures.led c.close-desk.ensures.whole c.requires.done seen

pub returns-clause-sound : goal.returns-clause-sound
returns-clause-sound g c =
    let link = g.R.Link.Link in
    let lock = c.args.lock.0 in
    let kits = c.args.kits in
    let news = c.work_all.new.workers.items in
    let hired_are = c.hire-workers.ensures.hired in
    let many = c.work_all.ensures.many ∙ ap length hired_are ∙ hired-length lock 0 kits in
    let all = subst (λ olds. AllWorked g.R.Door g.C.Clock g.M.Maker link.coming link.sent c.args.page.now c.args.limit olds news) hired_are c.work_all.ensures.worked in
    λ sound.
    c.dismiss-kits.ensures.failed
    ∙ none_failed g.R.Door g.C.Clock g.M.Maker link.coming link.sent c.args.page.now c.args.limit lock 0 kits news many all sound
