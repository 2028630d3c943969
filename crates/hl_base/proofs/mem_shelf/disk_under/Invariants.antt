use Rattle.std.proofs.Common.{◌≡◌, drop}
use Rattle.hl_base.specs.MemShelf.{disk_of}
use Rattle.hl_base.proofs.mem_shelf.disk_under.Given as goal

-- the places so far have other names
abbrev pub invariant-loop-place : goal.invariant-loop-place
invariant-loop-place l = record {
  same : disk_of l.name (drop l.place-index l.places) ≡ disk_of l.name l.places;
}
