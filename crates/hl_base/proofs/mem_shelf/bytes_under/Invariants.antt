use Rattle.std.proofs.Common.{◌≡◌, drop}
use Rattle.hl_base.specs.MemShelf.{bytes_of}
use Rattle.hl_base.proofs.mem_shelf.bytes_under.Given as goal

-- the files so far have other names
abbrev pub invariant-loop-file : goal.invariant-loop-file
invariant-loop-file l = record {
  same : bytes_of l.name (drop l.file-index l.files) ≡ bytes_of l.name l.files;
}
