-- Passes that grew, and passes that have seen the last entry that there is room for.
use Rattle.std.proofs.Common.{◌≡◌, ◌+◌, ◌^◌, List, length, Result, Ok, Err, IfOk, sym, subst, ◌∙◌}
use Rattle.std.specs.Prelude.{OnErr}
use Rattle.turn_lock.specs.Growth.{Grown}
use Rattle.turn_lock.specs.Passes.{IsFree}
use Rattle.turn_lock.specs.Views.{Lock, Standing}
use Rattle.shared_desk.specs.Full.{IsFull}

module _ {T E : Type 0} where
  -- a pass that grew holds no value where it held none
  pub free_still : (lock : Lock T) (old new : Standing T E) (entries : List E) → IsFree lock old → Grown old new entries → IsFree lock new
  free_still lock old new entries free grown = (grown.lock ∙ free.0, grown.hold ∙ free.1)

  -- the lock's history has no room for another entry, and the pass has seen it
  pub full_as : (lock : Lock T) (pass : Standing T E) → pass.lock ≡ lock → lock.done + length pass.seen + 1 ≡ 2 ^ 63 → IsFull pass
  full_as lock pass is full = subst (λ (l : Lock T). l.done + length pass.seen + 1 ≡ 2 ^ 63) (sym is) full

module _ {A E : Type 0} where
  -- a fact beside one of an answer
  pub with_ok : (Q : Type 0) (P : A → Type 0) (r : Result A E) → Q → IfOk r P → IfOk r (λ a. Q × P a)
  with_ok Q P (Ok a) q p = (q, p)
  with_ok Q P (Err e) q p = tt

  pub with_err : (Q P : Type 0) (r : Result A E) → Q → OnErr r P → OnErr r (Q × P)
  with_err Q P (Ok a) q p = tt
  with_err Q P (Err e) q p = (q, p)

  pub second_on_err : (P Q : Type 0) (r : Result A E) → OnErr r (P × Q) → OnErr r Q
  second_on_err P Q (Ok a) p = tt
  second_on_err P Q (Err e) p = p.1

  pub first_on_err : (P Q : Type 0) (r : Result A E) → OnErr r (P × Q) → OnErr r P
  first_on_err P Q (Ok a) p = tt
  first_on_err P Q (Err e) p = p.0
