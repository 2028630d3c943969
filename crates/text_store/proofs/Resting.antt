-- How what is known of a disk goes on over a step.
use Rattle.std.proofs.Common.{◌≡◌, ℕ, List, Bool, IsTrue, Option, None, Some, Result, Ok, Err, OnErr, refl, sym, subst}
use Rattle.hl_base.specs.Disk.{Becomes, Follows}
use Rattle.text_store.specs.Rest.{AfterStep, RestsAs, StandsIn}

pub on_err_of : {T E X : Type 0} → (r : Result T E) → X → OnErr r X
on_err_of (Ok v) x = tt
on_err_of (Err e) x = x

pub on_err_map : {T E P Q : Type 0} → (r : Result T E) → (P → Q) → OnErr r P → OnErr r Q
on_err_map (Ok v) f p = tt
on_err_map (Err e) f p = f p

pub on_err_two : {T E P Q R : Type 0} → (r : Result T E) → (P → Q → R) → OnErr r P → OnErr r Q → OnErr r R
on_err_two (Ok v) f p q = tt
on_err_two (Err e) f p q = f p q

pub told_step : (step : List ℕ → List ℕ → Type 0) (old new : Option (List ℕ)) (file : List ℕ) → old ≡ Some file → Becomes step old new
    → (next : List ℕ) × (new ≡ Some next) × step file next
told_step step old new file is becomes = known new (subst (λ (o : Option (List ℕ)). Becomes step o new) is becomes)
  where
    known : (new : Option (List ℕ)) → Becomes step (Some file) new → (next : List ℕ) × (new ≡ Some next) × step file next
    known None none = absurd none
    known (Some next) some = (next, refl, some)

module _ {D : Type 0} (seen : D → Option (List ℕ)) (tells : D → Bool) (may_leave : D → List ℕ → Type 0) where
  pub rest_stands : (device : D) (file : List ℕ) → RestsAs seen tells may_leave device file → StandsIn seen tells may_leave device (λ c. c ≡ file)
  rest_stands device file rests = record { file = file; told = rests.told; fits = refl; left = rests.durable }

  pub stands_more : (device : D) (P Q : List ℕ → Type 0) → ((c : List ℕ) → P c → Q c) → StandsIn seen tells may_leave device P → StandsIn seen tells may_leave device Q
  stands_more device P Q from stands = record { file = stands.file; told = stands.told; fits = from stands.file stands.fits; left = λ telling c now. from c (stands.left telling c now) }

  pub rest_as : (device : D) (file other : List ℕ) → file ≡ other → RestsAs seen tells may_leave device file → RestsAs seen tells may_leave device other
  rest_as device file other is rests = subst (λ (f : List ℕ). RestsAs seen tells may_leave device f) is rests

  -- over a step that may be cut short
  pub steps_on : (old new : D) (Q P : List ℕ → Type 0) (step : List ℕ → List ℕ → Type 0) → StandsIn seen tells may_leave old Q → Becomes step (seen old) (seen new)
      → Follows step (may_leave old) (may_leave new) → tells new ≡ tells old → ((d c : List ℕ) → Q d → step d c → P c) → StandsIn seen tells may_leave new P
  steps_on old new Q P step stands becomes follows same from =
      let next = told_step step (seen old) (seen new) stands.file stands.told becomes in
      record {
        file = next.0;
        told = next.1;
        fits = from stands.file next.0 stands.fits next.2;
        left = λ telling c now.
            let before = follows c now in
            from before.0 c (stands.left (subst (λ (b : Bool). IsTrue b) same telling) before.0 before.1) before.2;
      }

  -- each outcome after such a step
  pub outcome : (old : D) (Q P : List ℕ → Type 0) (step : List ℕ → List ℕ → Type 0) → StandsIn seen tells may_leave old Q → IsTrue (tells old)
      → ((d c : List ℕ) → Q d → step d c → P c) → (c : List ℕ) → AfterStep step (may_leave old) c → P c
  outcome old Q P step stands telling from c after = from after.0 c (stands.left telling after.0 after.1) after.2

pub tells_still : (now before : Bool) → now ≡ before → IsTrue before → IsTrue now
tells_still now before same telling = subst (λ (b : Bool). IsTrue b) (sym same) telling
