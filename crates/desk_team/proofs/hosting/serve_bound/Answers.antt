use Rattle.std.proofs.Common.{◌≡◌, map, refl, sym, subst, ◌∙◌, arith, rules}
use Rattle.std.proofs.lemmas.Bool.{false≢true}
use Rattle.std.specs.Prelude.{All, false, true}
use Rattle.shared_desk.specs.Stays.{kit_told}
use Rattle.desk_team.specs.Hostings.{AreAllOut, TakesAll}
use Rattle.desk_team.specs.Teams.{ServesTeam}
use Rattle.desk_team.specs.declared.hosting.HouseFault.TheVariants as house_fault
use Rattle.desk_team.proofs.Takings.{hosts_of, if_false, if_true, nothing_taken, still, takes_out, unserved, unserved_some}
use Rattle.desk_team.proofs.hosting.serve_bound.Goals as goal

pub returns-in_default-clause-unserved : goal.returns-in_default-clause-unserved
returns-in_default-clause-unserved g c =
    let tell = kit_told g.H.Door.Door g.H.Clock.Clock g.H.Maker.Maker in
    (refl, nothing_taken tell c.args.crew.workers (g.H.House.told c.args.house.now) house_fault.Memory (λ is. absurd (cc (is))))

pub give_back_all-requires-clause-out : goal.give_back_all-requires-clause-out
give_back_all-requires-clause-out g c κs within =
    let mid = g.H.House.told c.take_kits-kits.new.house in
    subst (λ kits. AreAllOut mid kits) (sym c.from_vec-kits.ensures)
    (takes_out (g.H.House.told c.args.house.now) mid c.take_kits-kits.result.0.items c.take_kits-kits.ensures.takes)

pub serve_kits-requires-clause-out : goal.serve_kits-requires-clause-out
serve_kits-requires-clause-out g c κs within =
    let mid = g.H.House.told c.take_kits-kits.new.house in
    subst (λ kits. AreAllOut mid kits) (sym c.from_vec-kits.ensures)
    (takes_out (g.H.House.told c.args.house.now) mid c.take_kits-kits.result.0.items c.take_kits-kits.ensures.takes)

pub returns-then-not-whole-clause-unserved : goal.returns-then-not-whole-clause-unserved
returns-then-not-whole-clause-unserved g c =
    let tell = kit_told g.H.Door.Door g.H.Clock.Clock g.H.Maker.Maker in
    let taken = c.take_kits-kits in
    let not : taken.result.1 ≡ false = search rules in
    let short = if_false _ _ taken.result.1 not taken.ensures.whole in (
      refl,
      unserved_some tell c.args.crew.workers (g.H.House.told c.args.house.now) (g.H.House.told taken.new.house) (g.H.House.told c.give_back_all.new.house)
          taken.result.0.items c.from_vec-kits.result short.0 c.from_vec-kits.ensures taken.ensures.takes taken.ensures.fresh short.1 c.give_back_all.ensures
          (λ most. false≢true (sym not ∙ (taken.ensures.sound most).0)),
    )

pub returns-in-Ok-serve_kits-clause-served : goal.returns-in-Ok-serve_kits-clause-served
returns-in-Ok-serve_kits-clause-served g c =
    let tell = kit_told g.H.Door.Door g.H.Clock.Clock g.H.Maker.Maker in
    let link = g.H.Door.Link.Link in
    let taken = c.take_kits-kits in
    let yes : taken.result.1 ≡ true = search rules in
    let whole = if_true _ _ taken.result.1 yes taken.ensures.whole in
    let s = c.in-Ok-serve_kits.ensures.served in
    let hosted = c.in-Ok-serve_kits.hosted in
    let team = subst (λ kits. ServesTeam link.coming link.sent c.args.page.now c.args.crew.links c.args.desk (map tell kits) (map tell s.0) hosted.failed hosted.pass.seen hosted.desk)
    c.from_vec-kits.ensures s.1 in
    hosts_of tell link.coming link.sent c.args.page.now c.args.crew.workers c.args.crew.links c.args.desk hosted.desk (g.H.House.told c.args.house.now)
    (g.H.House.told taken.new.house) (g.H.House.told c.serve_kits.new.house) taken.result.0.items s.0 hosted.failed hosted.pass.seen
    taken.ensures.takes whole.0 whole.1 taken.ensures.fresh team s.2
    (λ none.
    c.in-Ok-serve_kits.ensures.sound
    (subst (All (λ kit. g.H.Door.Door.IsSound kit.door)) (sym c.from_vec-kits.ensures) (taken.ensures.sound none.1).1))

pub returns-in-Err-clause-unserved : goal.returns-in-Err-clause-unserved
returns-in-Err-clause-unserved g c =
    let tell = kit_told g.H.Door.Door g.H.Clock.Clock g.H.Maker.Maker in
    let taken = c.take_kits-kits in
    let yes : taken.result.1 ≡ true = search rules in
    let whole = if_true _ _ taken.result.1 yes taken.ensures.whole in
    let e = c.in-Err.ensures.unserved in
    let back = subst (λ kits. TakesAll tell (g.H.House.told taken.new.house) (g.H.House.told c.serve_kits.new.house) kits) c.from_vec-kits.ensures e.1 in (
      e.0,
      unserved tell c.args.crew.workers (g.H.House.told c.args.house.now) (g.H.House.told taken.new.house) (g.H.House.told c.serve_kits.new.house)
          taken.result.0.items house_fault.Memory (omega (arith, whole.0)) (λ is. absurd (cc (is))) taken.ensures.takes back (λ is. absurd (cc (is)))
          (λ none. (λ is. absurd (cc (is)), back.faults ∙ still tell (g.H.House.told taken.new.house).faults taken.result.0.items taken.ensures.fresh ∙ whole.1)),
    )
