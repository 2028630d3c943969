use Rattle.turn_lock.specs.Passes.{IsFree}
use Rattle.shared_desk.specs.Stays.{ServesDoor, kit_told}
use Rattle.shared_desk.specs.declared.serving.DoorEnd.TheVariants as door_end
use Rattle.shared_desk.proofs.serving.serve_door.Given as goal

-- so many links were served, and more may come
abbrev pub invariant-links : goal.invariant-links
invariant-links g l =
    let link = g.R.Link.Link in
    record {
      free : IsFree l.turn l.pass;
      served : ServesDoor link.coming link.sent l.page l._served door_end.Enough (kit_told g.R.Door g.C.Clock g.M.Maker l.fn.kit)
          (kit_told g.R.Door g.C.Clock g.M.Maker l.kit) l.fn.pass l.pass;
      sound : g.R.Door.IsSound l.fn.kit.door → g.R.Door.IsSound l.kit.door;
    }
