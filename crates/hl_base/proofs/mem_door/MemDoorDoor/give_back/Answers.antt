use Rattle.std.proofs.Common.{rules, ◌≡◌, ◌∷◌, [], ◌++◌, Some, ap, ◌∙◌, arith}
use Rattle.hl_base.specs.MemDoor.{returned, visits_of}
use Rattle.hl_base.proofs.DoorLaws.{one_more_back, none_out}
use Rattle.hl_base.proofs.mem_door.MemDoorDoor.give_back.Goals as goal

pub returns-then-len-clause-given : goal.returns-then-len-clause-given
returns-then-len-clause-given c =
    let door = c.args.self.now in
    let pushed : c.push.new.self.items ≡ door.back.items ++ c.args.link ∷ [] = search rules in
    ap Some (ap (visits_of door.given.items) pushed ∙ one_more_back door.given.items door.back.items c.args.link (omega arith))

pub returns-else-len-clause-given : goal.returns-else-len-clause-given
returns-else-len-clause-given c =
    let door = c.args.self.now in
    ap Some (none_out door.given.items door.back.items (returned c.args.link) (omega arith))
