use Rattle.hl_base.proofs.DiskLaws.{cut_same}
use Rattle.crash_rows.proofs.crash_disk.CrashDiskDisk.cut.Goals as goal

pub returns-clause-crash : goal.returns-clause-crash
returns-clause-crash c d left = (d, tt, cut_same c.args.len d)
