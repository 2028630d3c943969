use Rattle.std.proofs.Common.{◌≡◌, ℕ, subst, arith, rules}
use Rattle.hl_base.specs.Causes.{Rose}
use Rattle.hl_base.proofs.mem_disk.MemDiskDisk.len.Goals as goal
use Rattle.hl_base.proofs.mem_disk.MemDiskDisk.len.Goals.{then-is_to_fail-via-then-is_to_fail, then-is_to_fail-via-else-is_to_fail+then-not-enter}

pub returns-then-is_to_fail-clause-cause : goal.returns-then-is_to_fail-clause-cause
returns-then-is_to_fail-clause-cause c =
    let same : c.then-is_to_fail.self.faults ≡ c.args.self.now.faults = elim c.then-is_to_fail.branch [ then-is_to_fail-via-then-is_to_fail w ↦ search rules | then-is_to_fail-via-else-is_to_fail+then-not-enter w ↦ search rules ] in
    record { later = omega arith; rose = subst (λ (n : ℕ). Rose n c.refuse.new.self.faults) same c.refuse.ensures.rose; same = tt }
