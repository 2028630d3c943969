use Rattle.std.proofs.Common.{◌≡◌, ◌+◌, ℕ, drop}
use Rattle.hl_base.specs.MemShelf.{has_place, IsFirst}
use Rattle.hl_base.proofs.mem_shelf.place_number.Given as goal

-- the places so far have other names
abbrev pub invariant-loop-i : goal.invariant-loop-i
invariant-loop-i l = record {
  same : has_place l.name (drop l.i l.places) ≡ has_place l.name l.places;
  first : (k : ℕ) → IsFirst l.name (drop l.i l.places) k → IsFirst l.name l.places (l.i + k);
}
