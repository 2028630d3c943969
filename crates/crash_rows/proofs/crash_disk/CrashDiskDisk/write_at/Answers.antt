use Rattle.std.proofs.Common.{length}
use Rattle.hl_base.proofs.DiskLaws.{torn_same}
use Rattle.crash_rows.proofs.crash_disk.CrashDiskDisk.write_at.Goals as goal

pub returns-clause-crash : goal.returns-clause-crash
returns-clause-crash c d left = (d, tt, torn_same c.args.at (length c.args.piece.now) d)
