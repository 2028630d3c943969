use Rattle.std.proofs.Common.{◌≡◌, ◌<◌, ◌≤◌, ◌-◌, ℕ, List, length, take, Some, vec_len}
use Rattle.text_store.specs.Rest.{IsReadOn}
use Rattle.text_store.proofs.disk_whole.read_all.Given as goal

abbrev pub invariant-loop-bytes : goal.invariant-loop-bytes
invariant-loop-bytes g l =
    let disk = g.D.Disk in
    record {
      room : 0 < vec_len l.room;
      front : (file : List ℕ) → disk.seen l.fn.device ≡ Some file
          → (length file ≡ l.len) × (l.bytes.items ≡ take (length l.bytes.items) file) × (length l.bytes.items ≤ length file);
      reads : IsReadOn disk l.fn.device l.device;
      same : disk.failures l.device ≡ disk.failures l.fn.device;
    }

abbrev pub decreases-loop-bytes : goal.decreases-loop-bytes
decreases-loop-bytes g l = l.len - vec_len l.bytes
