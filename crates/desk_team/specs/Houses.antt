-- What a house tells of its kits.
use Rattle.std.specs.Prelude.{◌≡◌, ℕ, ◌+◌, ◌-◌, ◌^◌, ◌<◌, ◌≤◌, Bool, min, List, [], ◌∷◌, ◌++◌, ◌==◌, if◌then◌else◌, length, map, Option, None, Some, IfSome, IsOk, Result, Ok, Err}
use Rattle.std.specs.List.{prefix_len, sum_by}
use Rattle.std.specs.Option.{option_map}
use Rattle.std.specs.declared.snapshot.Snapshot.{Snapshot}
use Rattle.hl_base.specs.Causes.{HasCause}
use Rattle.hl_base.specs.Door.{Visit}
use Rattle.hl_base.specs.MemDoor.{visits_of}
use Rattle.hl_base.specs.declared.mem_door.MemDoor.{MemDoor}
use Rattle.desk.specs.Steps.{one_more}

-- how often a house was asked to bind, and the last host and port
pub record Bound : Type 0 where
  pub times : ℕ
  pub last : Option (List ℕ × ℕ)

abbrev pub bound_of : ℕ → Option (List ℕ × ℕ) → Bound
bound_of times last = record { times = times; last = last }

-- no bind yet
abbrev pub not_bound : Bound
not_bound = bound_of 0 None

-- a house was asked to bind once more
abbrev pub bound_once_more : Bound → List ℕ → ℕ → Bound
bound_once_more before host port = bound_of (one_more before.times) (Some (host, port))

-- What a house tells: the kits that are still to come, those that it handed out, and those that came back, each at the place at
-- which it was handed out, in order, where it tells them; how many more it hands out before any call of the house or of a door
-- of theirs may fail; its binds; the binds and workers that failed and the doors that came back with a fault; and the patterns
-- that the makers of the kits that came back refused.
pub record HouseTold (A : Type 0) : Type 0 where
  pub coming : Option (List A)
  pub given : Option (List A)
  pub back : Option (List A)
  pub faultless : ℕ
  pub bound : Bound
  pub faults : ℕ
  pub refusals : ℕ

-- a list that is told, with more at its end
abbrev pub and_then : {A : Type 0} → Option (List A) → List A → Option (List A)
and_then told more = option_map (λ before. before ++ more) told

-- a list that is told, with these before it
abbrev pub and_first : {A : Type 0} → List A → Option (List A) → Option (List A)
and_first first told = option_map (λ rest. first ++ rest) told

-- the kits that came, if one did
abbrev pub kits_in : {A E : Type 0} → Result A E → List A
kits_in (Ok kit) = kit ∷ []
kits_in (Err failed) = []

-- a house's count once a door came back: it rises where the door's count isn't 0, and there alone
abbrev pub after_door : ℕ → ℕ → ℕ
after_door faults door_faults = if door_faults == 0 then faults else one_more faults

-- a house's refusals once a kit came back
abbrev pub after_maker : ℕ → ℕ → ℕ
after_maker refusals more = min (refusals + more) (2 ^ 64 - 1)

module _ {A : Type 0} where
  -- so many kits are out, at least: where the house tells them, those that came back and so many more were handed out
  abbrev pub AreOut : HouseTold A → ℕ → Type 0
  AreOut house n = IfSome house.given (λ given. IfSome house.back (λ back. length back + n ≤ length given))

  -- a kit is out
  abbrev pub IsOneOut : HouseTold A → Type 0
  IsOneOut house = AreOut house 1

  -- No call fails before so many workers have served: neither a bind nor a worker, nor a call of their doors.
  abbrev pub IsFaultless : HouseTold A → ℕ → Type 0
  IsFaultless house workers = (0 < house.faultless) × (workers ≤ house.faultless)

  -- The house was asked to bind, and so it answered.
  pub record Binds {T E : Type 0} (old new : HouseTold A) (host : List ℕ) (port : ℕ) (result : Result T E) : Type 0 where
    pub bound : new.bound ≡ bound_once_more old.bound host port
    pub cause : HasCause old.faults new.faults result
    pub sound : 0 < old.faultless → IsOk result
    pub faultless : new.faultless ≡ old.faultless
    pub coming : new.coming ≡ old.coming
    pub given : new.given ≡ old.given
    pub back : new.back ≡ old.back
    pub refusals : new.refusals ≡ old.refusals

  -- The house was asked for a kit, and so it answered: with the first of those that were to come; no more kits had come back than
  -- were handed out.
  pub record HandsOut {E : Type 0} (old new : HouseTold A) (result : Result A E) : Type 0 where
    pub came : old.coming ≡ and_first (kits_in result) new.coming
    pub given : new.given ≡ and_then old.given (kits_in result)
    pub cause : HasCause old.faults new.faults result
    pub sound : 0 < old.faultless → IsOk result × (old.faultless ≡ new.faultless + 1)
    pub order : AreOut old 0
    pub back : new.back ≡ old.back
    pub bound : new.bound ≡ old.bound
    pub refusals : new.refusals ≡ old.refusals

  -- A kit came back, with so many faults of its door and refusals of its maker.
  pub record TakesBack (old new : HouseTold A) (kit : A) (door_faults refused : ℕ) : Type 0 where
    pub back : new.back ≡ and_then old.back (kit ∷ [])
    pub faults : new.faults ≡ after_door old.faults door_faults
    pub refusals : new.refusals ≡ after_maker old.refusals refused
    pub faultless : new.faultless ≡ old.faultless
    pub coming : new.coming ≡ old.coming
    pub given : new.given ≡ old.given
    pub bound : new.bound ≡ old.bound

-- A kit is handed out with no fault and no refusal counted, and before its door gave a link.
pub record IsFresh (given : Option (List Visit)) (faults refusals : ℕ) : Type 0 where
  pub none_given : IfSome given (λ visits. visits ≡ [])
  pub no_fault : faults ≡ 0
  pub no_refusal : refusals ≡ 0

-- the same of a kit in memory
pub record IsNew (door : MemDoor) (refusals : ℕ) : Type 0 where
  pub none_given : visits_of door.given.items door.back.items ≡ []
  pub no_fault : door.faults ≡ 0
  pub no_refusal : refusals ≡ 0

-- the values of some snapshots
abbrev pub values_of : {A : Type 0} → List (Snapshot A) → List A
values_of snapshots = map (λ snapshot. snapshot.value) snapshots

-- no call of a door in memory is to fail
abbrev pub is_sound : MemDoor → Bool
is_sound door = length door.fails.items == 0

-- how many kits a house in memory hands out before a call may fail, by its calls that are to fail and the kits that are to come
abbrev pub mem_faultless : {A : Type 0} → (A → Bool) → List ℕ → List A → ℕ
mem_faultless sound fails coming = if length fails == 0 then prefix_len sound coming else 0

-- what a house in memory tells, by the kits that are to come, those that it handed out and those that came back, its calls that
-- are to fail, its binds and its faults
abbrev pub mem_told : {A : Type 0} → (A → Bool) → (A → ℕ) → List A → List (Snapshot A) → List A → List ℕ → Bound → ℕ → HouseTold A
mem_told sound refusals coming made back fails bound faults = record {
  coming = Some coming;
  given = Some (values_of made);
  back = Some back;
  faultless = mem_faultless sound fails coming;
  bound = bound;
  faults = faults;
  refusals = min (sum_by refusals back) (2 ^ 64 - 1);
}
