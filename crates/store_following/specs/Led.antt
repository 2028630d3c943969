-- The images that frames lead to, and what a crash shows of them.
use Rattle.std.specs.Prelude.{◌≡◌, ◌⊎◌, ℕ, List, [], ◌∷◌, Option, Some, None, IsSomeAnd, Result, Ok, Err}
use Rattle.text_store.specs.declared.image.Image.{Image}
use Rattle.text_store.specs.Image.{image}
use Rattle.follower.specs.Images.{image_after}
use Rattle.follower.specs.declared.fault.Accepted.{Accepted}
use Rattle.follower.specs.declared.fault.Accepted.TheVariants.{Taken, Old, Gap}
use Rattle.follower.specs.declared.fault.FollowFault.{FollowFault}
use Rattle.follower.specs.declared.frame.Frame.{Frame}

abbrev pub or_same : Image → Option Image → Image
or_same shown None = shown
or_same shown (Some next) = next

-- the image after a frame that was answered so: one that was taken makes another
abbrev pub after_answer : Image → Frame → Result Accepted FollowFault → Image
after_answer shown frame (Ok (Taken revision)) = or_same shown (image_after shown frame)
after_answer shown frame (Ok (Old had got)) = shown
after_answer shown frame (Ok (Gap had got)) = shown
after_answer shown frame (Err fault) = shown

-- that after frames, each with its answer; the last one stands first
abbrev pub led : Image → List (Frame × Result Accepted FollowFault) → Image
led shown [] = shown
led shown (step ∷ earlier) = after_answer (led shown earlier) step.0 step.1

-- two files show the image with a frame that was taken, or refused
abbrev pub ShowsTried : Image → Frame → Result Accepted FollowFault → List ℕ → List ℕ → Type 0
ShowsTried shown frame (Ok (Taken revision)) first second = IsSomeAnd (image_after shown frame) (λ other. image first second ≡ Ok other)
ShowsTried shown frame (Ok (Old had got)) first second = ⊥
ShowsTried shown frame (Ok (Gap had got)) first second = ⊥
ShowsTried shown frame (Err fault) first second = IsSomeAnd (image_after shown frame) (λ other. image first second ≡ Ok other)

-- they show the image after the first so many frames, or that with the one behind these
abbrev pub ShowsOneLed : Image → List (Frame × Result Accepted FollowFault) → List ℕ → List ℕ → Type 0
ShowsOneLed shown [] first second = image first second ≡ Ok shown
ShowsOneLed shown (step ∷ earlier) first second = ShowsOneLed shown earlier first second ⊎ ShowsTried (led shown earlier) step.0 step.1 first second
