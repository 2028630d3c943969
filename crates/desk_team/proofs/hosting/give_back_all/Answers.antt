use Rattle.std.proofs.Common.{◌≡◌, length, sym, subst, ◌∙◌, ap, arith, rules}
use Rattle.std.proofs.lemmas.Iterator.Adapters.{YieldsList-from_vec}
use Rattle.std.proofs.lemmas.Iterator.Consumers.{YieldsList-end, YieldsList-turn}
use Rattle.std.proofs.lemmas.List.{map-id}
use Rattle.shared_desk.specs.Stays.{kit_told}
use Rattle.desk_team.specs.Hostings.{TakesAll}
use Rattle.desk_team.proofs.Takings.{next_out, none_back, one_back}
use Rattle.desk_team.proofs.hosting.give_back_all.Goals as goal

pub loop-kit-init : goal.loop-kit-init
loop-kit-init g c =
    let tell = kit_told g.H.Door.Door g.H.Clock.Clock g.H.Maker.Maker in
    record { can = tt; finite = tt; taken = none_back tell (g.H.House.told c.args.house.now) }

pub give_back-requires : goal.give_back-requires
give_back-requires g c =
    let tell = kit_told g.H.Door.Door g.H.Clock.Clock g.H.Maker.Maker in
    let all = c.into_vec-kit-items.result.items in
    let whole : all ≡ c.args.kits = c.into_vec-kit-items.ensures in
    let yields = YieldsList-from_vec {s = c.into_iter-kit-iterator.result} all (search rules) (search rules) in
    let xs = c.loop-kit.yielded in
    let turn = YieldsList-turn yields xs c.loop-kit.kit-iterator c.loop-kit.yielded_by c.next.result c.next.new.self c.in-Some.kit c.in-Some.is c.next.ensures.steps in
    next_out tell (g.H.House.told c.args.house.now) (g.H.House.told c.loop-kit.house) c.args.kits xs c.loop-kit.invariant.taken c.requires.out
    (omega (arith, turn.0, ap length whole))

pub loop-kit-preserved : goal.loop-kit-preserved
loop-kit-preserved g c =
    let tell = kit_told g.H.Door.Door g.H.Clock.Clock g.H.Maker.Maker in
    record {
      can = tt;
      finite = tt;
      taken = one_back tell (g.H.House.told c.args.house.now) (g.H.House.told c.loop-kit.house) (g.H.House.told c.give_back.new.self)
          c.loop-kit.yielded c.in-Some.kit c.loop-kit.invariant.taken c.give_back.ensures;
    }

pub returns : goal.returns
returns g c =
    let tell = kit_told g.H.Door.Door g.H.Clock.Clock g.H.Maker.Maker in
    let all = c.into_vec-kit-items.result.items in
    let whole : all ≡ c.args.kits = c.into_vec-kit-items.ensures in
    let yields = YieldsList-from_vec {s = c.into_iter-kit-iterator.result} all (search rules) (search rules) in
    let xs = c.loop-kit.yielded in
    let end = YieldsList-end yields xs c.loop-kit.kit-iterator c.loop-kit.yielded_by c.next.result c.next.new.self c.in-None.is c.next.ensures.steps in
    subst (λ kits. TakesAll tell (g.H.House.told c.args.house.now) (g.H.House.told c.loop-kit.house) kits)
    (sym (map-id xs) ∙ end.0 ∙ whole) c.loop-kit.invariant.taken
