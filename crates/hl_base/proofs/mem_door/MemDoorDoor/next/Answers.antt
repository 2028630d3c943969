use Rattle.std.proofs.Common.{rules, ◌≡◌, List, ◌∷◌, [], ◌++◌, Some, None, ap, ◌∙◌, arith}
use Rattle.std.specs.declared.snapshot.Snapshot.{Snapshot}
use Rattle.hl_base.specs.declared.mem_link.MemLink.{MemLink}
use Rattle.hl_base.specs.Door.{Visit}
use Rattle.hl_base.specs.MemDoor.{bytes_of, visits_of}
use Rattle.hl_base.proofs.DoorLaws.{one_more_out}
use Rattle.hl_base.proofs.mem_door.MemDoorDoor.next.Goals as goal

pub returns-clause-given : goal.returns-clause-given
returns-clause-given c =
    let door = c.args.self.now in
    let back = door.back.items in
    let last = λ (link : MemLink). let visit : Visit = record { had = bytes_of link; back = None } in visit in
    let pushed : c.push.new.self.items ≡ door.given.items ++ c.of.result ∷ [] = search rules in
    ap Some (
    ap (λ (givens : List (Snapshot MemLink)). visits_of givens back) pushed
    ∙ one_more_out door.given.items c.of.result back (omega (arith, door.order))
    ∙ ap (λ (link : MemLink). visits_of door.given.items back ++ last link ∷ []) c.of.ensures
    )
