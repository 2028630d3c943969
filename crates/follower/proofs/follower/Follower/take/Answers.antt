use Rattle.std.proofs.Common.{refl, Ok}
use Rattle.follower.specs.declared.fault.Accepted.TheVariants.{Old, Gap}
use Rattle.follower.proofs.Taking.{still}
use Rattle.follower.proofs.follower.Follower.take.Goals as goal

pub returns-in-Old : goal.returns-in-Old
returns-in-Old g c =
    still c.args.self.now c.args.frame.now (Ok (Old c.args.self.now.image.revision c.args.frame.now.revision)) ((refl, refl), c.in-Old.ensures, refl) (λ pending. refl) tt

pub returns-in-Gap : goal.returns-in-Gap
returns-in-Gap g c =
    still c.args.self.now c.args.frame.now (Ok (Gap c.args.self.now.image.revision c.args.frame.now.revision)) ((refl, refl), c.in-Gap.ensures.0, c.in-Gap.ensures.1, refl) (λ pending. refl) tt
