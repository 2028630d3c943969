use Rattle.std.proofs.Common.{length}
use Rattle.hl_base.proofs.DiskLaws.{torn_same}
use Rattle.real_files.proofs.file_disk.FileDiskDisk.write_at.Goals as goal

pub returns-clause-crash : goal.returns-clause-crash
returns-clause-crash c d left = (d, tt, torn_same c.args.at (length c.args.piece.now) d)
