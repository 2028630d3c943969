use Rattle.hl_base.proofs.DiskLaws.{cut_same}
use Rattle.real_files.proofs.file_disk.FileDiskDisk.cut.Goals as goal

pub returns-clause-crash : goal.returns-clause-crash
returns-clause-crash c d left = (d, tt, cut_same c.args.len d)
