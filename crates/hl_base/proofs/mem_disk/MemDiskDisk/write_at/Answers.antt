use Rattle.std.proofs.Common.{◌≡◌, ℕ, length, subst, arith, rules}
use Rattle.hl_base.specs.Causes.{Rose}
use Rattle.hl_base.specs.History.{Wrote, added}
use Rattle.hl_base.proofs.DiskLaws.{refused_leaves, wrote_leaves, torn_same}
use Rattle.hl_base.proofs.mem_disk.MemDiskDisk.write_at.Goals as goal
use Rattle.hl_base.proofs.mem_disk.MemDiskDisk.write_at.Goals.{then-is_to_fail-via-then-is_to_fail, then-is_to_fail-via-else-is_to_fail+then-end-room, then-is_to_fail-via-else-is_to_fail+else-end-room+then-not-enter}

pub returns-then-is_to_fail-clause-cause : goal.returns-then-is_to_fail-clause-cause
returns-then-is_to_fail-clause-cause c =
    let same : c.then-is_to_fail.self.faults ≡ c.args.self.now.faults = elim c.then-is_to_fail.branch [ then-is_to_fail-via-then-is_to_fail w ↦ search rules | then-is_to_fail-via-else-is_to_fail+then-end-room w ↦ search rules | then-is_to_fail-via-else-is_to_fail+else-end-room+then-not-enter w ↦ search rules ] in
    record { later = omega arith; rose = subst (λ (n : ℕ). Rose n c.refuse.new.self.faults) same c.refuse.ensures.rose; same = tt }

pub returns-then-is_to_fail-clause-crash : goal.returns-then-is_to_fail-clause-crash
returns-then-is_to_fail-clause-crash c d left =
    let same : c.then-is_to_fail.self.log ≡ c.args.self.now.log = elim c.then-is_to_fail.branch [ then-is_to_fail-via-then-is_to_fail w ↦ search rules | then-is_to_fail-via-else-is_to_fail+then-end-room w ↦ search rules | then-is_to_fail-via-else-is_to_fail+else-end-room+then-not-enter w ↦ search rules ] in
    (d, refused_leaves c.args.self.now.log c.then-is_to_fail.self.log c.refuse.new.self.log same c.refuse.ensures.log_is d left, torn_same c.args.at (length c.args.piece.now) d)

pub returns-clause-crash : goal.returns-clause-crash
returns-clause-crash c =
    let is : c.enter.new.log ≡ added c.args.self.now.log (Wrote c.args.at c.args.piece.now) = search rules in
    wrote_leaves c.args.self.now.log c.enter.new.log c.args.at c.args.piece.now is
