use Rattle.std.proofs.Common.{◌≡◌, ◌+◌, ◌⊎◌, inl, inr}
use Rattle.follower.proofs.follower.Follower.take_next.Goals as goal

other_next : (A B : Type 0) → A ⊎ B → (A → ⊥) → B
other_next A B (inl kind) other = absurd (other kind)
other_next A B (inr next) other = next

pub take_change-requires-clause-next : goal.take_change-requires-clause-next
take_change-requires-clause-next g c = other_next (c.args.frame.now.kind ≡ 67) (c.args.frame.now.revision ≡ c.args.self.now.image.revision + 1) c.requires.next c.if-frame-eq67.false
