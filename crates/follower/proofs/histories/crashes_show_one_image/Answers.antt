use Rattle.follower.proofs.Crashing.{crashes_show_one}
use Rattle.follower.proofs.histories.crashes_show_one_image.Goals as goal

pub returns : goal.returns
returns g c = crashes_show_one g.D.Disk
