-- What a door in memory tells of its connections.
use Rattle.std.specs.Prelude.{◌≡◌, ℕ, List, [], ◌∷◌, Option, None, Some, drop}
use Rattle.std.specs.declared.snapshot.Snapshot.{Snapshot}
use Rattle.hl_base.specs.declared.mem_link.MemLink.{MemLink}
use Rattle.hl_base.specs.Door.{Returned, Visit}

-- the bytes that a connection still has
abbrev pub bytes_of : MemLink → Option (List ℕ)
bytes_of link = Some (drop link.at link.coming.items)

-- what is told of a connection that came back
abbrev pub returned : MemLink → Returned
returned link = record { left = bytes_of link; sent = Some link.sent.items; read_faults = link.read_faults; write_faults = link.write_faults }

-- a connection of which no fault has been counted
abbrev pub uncounted : MemLink → MemLink
uncounted link = record link { read_faults = 0; write_faults = 0 }

-- Connections as they were handed out, in order, and those that came back, in the same order.
abbrev pub visits_of : List (Snapshot MemLink) → List MemLink → List Visit
visits_of [] back = []
visits_of (given ∷ givens) [] = record { had = bytes_of given.value; back = None } ∷ visits_of givens []
visits_of (given ∷ givens) (link ∷ back) = record { had = bytes_of given.value; back = Some (returned link) } ∷ visits_of givens back
