-- When a lock's history has come to its end.
use Rattle.std.specs.Prelude.{◌≡◌, ◌+◌, ◌^◌, length}
use Rattle.turn_lock.specs.Views.{Standing}

-- the history that the pass has seen has no room for another entry
abbrev pub IsFull : {T E : Type 0} → Standing T E → Type 0
IsFull pass = pass.lock.done + length pass.seen + 1 ≡ 2 ^ 63
