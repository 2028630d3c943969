use Rattle.std.proofs.Common.{rules, refl, ap}
use Rattle.desk_team.specs.Houses.{is_sound, mem_faultless}
use Rattle.desk_team.proofs.MemKits.{none_fails}
use Rattle.desk_team.proofs.mem_house.MemHouseHouse.bind.Goals as goal

pub returns : goal.returns
returns g c =
    let house = c.args.self.now in
    record {
      bound = search rules;
      cause = c.next.ensures.cause;
      sound = λ some. c.next.ensures.sound (none_fails (λ kit. is_sound kit.door) house.calls.fails.items house.coming.items some);
      faultless = ap (λ fails. mem_faultless (λ kit. is_sound kit.door) fails.items house.coming.items) c.next.ensures.same;
      coming = refl;
      given = refl;
      back = refl;
      refusals = refl;
    }
