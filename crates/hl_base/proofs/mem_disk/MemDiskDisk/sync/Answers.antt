use Rattle.std.proofs.Common.{◌≡◌, ℕ, subst, arith, rules}
use Rattle.hl_base.specs.Causes.{Rose}
use Rattle.hl_base.specs.History.{Synced, added}
use Rattle.hl_base.proofs.DiskLaws.{synced_leaves}
use Rattle.hl_base.proofs.mem_disk.MemDiskDisk.sync.Goals as goal
use Rattle.hl_base.proofs.mem_disk.MemDiskDisk.sync.Goals.{then-is_to_fail-via-then-is_to_fail, then-is_to_fail-via-else-is_to_fail+then-not-enter}

pub returns-then-is_to_fail-clause-cause : goal.returns-then-is_to_fail-clause-cause
returns-then-is_to_fail-clause-cause c =
    let same : c.then-is_to_fail.self.faults ≡ c.args.self.now.faults = elim c.then-is_to_fail.branch [ then-is_to_fail-via-then-is_to_fail w ↦ search rules | then-is_to_fail-via-else-is_to_fail+then-not-enter w ↦ search rules ] in
    record { later = omega arith; rose = subst (λ (n : ℕ). Rose n c.refuse.new.self.faults) same c.refuse.ensures.rose; same = tt }

pub returns-clause-crash : goal.returns-clause-crash
returns-clause-crash c =
    let is : c.enter.new.log ≡ added c.args.self.now.log Synced = search rules in
    synced_leaves c.args.self.now.log c.enter.new.log is
