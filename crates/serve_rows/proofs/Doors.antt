-- Doors that are new.
use Rattle.std.proofs.Common.{◌≡◌, [], Option, Some, None, refl, ap}
use Rattle.hl_base.specs.MemDoor.{visits_of}
use Rattle.hl_base.specs.declared.mem_door.MemDoor.{MemDoor}
use Rattle.desk_team.specs.Houses.{IsNew}

abbrev or : {A : Type 0} → A → Option A → A
or x None = x
or x (Some y) = y

some_is : {A : Type 0} (x y : A) → Some x ≡ Some y → x ≡ y
some_is x y e = ap (or x) e

-- a door in memory that was just made
pub is_new : (door : MemDoor) → Some (visits_of door.given.items door.back.items) ≡ Some [] → door.faults ≡ 0 → IsNew door 0
is_new door given faults =
    record { none_given = some_is (visits_of door.given.items door.back.items) [] given; no_fault = faults; no_refusal = refl }
