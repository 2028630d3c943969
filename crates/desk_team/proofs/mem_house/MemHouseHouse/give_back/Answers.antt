use Rattle.std.proofs.Common.{Some, refl, ap, ◌∙◌, arith}
use Rattle.desk_team.specs.Houses.{after_door, is_sound, mem_faultless}
use Rattle.desk_team.proofs.MemKits.{one_more_refused, room_left}
use Rattle.desk_team.proofs.mem_house.MemHouseHouse.give_back.Goals as goal

pub push_reserved-requires : goal.push_reserved-requires
push_reserved-requires g c =
    let house = c.args.self.now in
    let left = room_left house.made.items house.back.items c.requires in
    omega (arith, left, house.back_room, house.back.ok.0)

pub returns : goal.returns
returns g c =
    let house = c.args.self.now in
    let pushed = c.push_reserved.ensures.items in
    record {
      back = ap (λ l. Some l) pushed;
      faultless = ap (λ calls. mem_faultless (λ kit. is_sound kit.door) calls.items house.coming.items) c.take_door.ensures.same;
      coming = refl;
      faults = c.take_door.ensures.faults ∙ ap (after_door house.calls.faults) c.faults.ensures;
      refusals = one_more_refused (λ kit. g.M.Maker.refusals kit.maker) house.back.items c.push_reserved.new.self.items c.args.kit pushed;
      given = refl;
      bound = refl;
    }
