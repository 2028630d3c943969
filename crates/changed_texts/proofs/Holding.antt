-- What holds of all that is read, by its parts.
use Rattle.std.proofs.Common.{◌≡◌, Bool, true, false, cond, Result, Ok, Err, refl, subst}
use Rattle.std.specs.Prelude.{IfOk}
use Rattle.book.specs.declared.fault.Fault.{Fault}
use Rattle.entry_reader.specs.Causes.{◌>>=◌}

-- Whatever is read, a predicate holds of it.
pub record Holds {A : Type 0} (P : A → Type 0) (r : Result A Fault) : Type 0 where
  pub is : (x : A) → r ≡ Ok x → P x

pub holds-ok : {A : Type 0} {P : A → Type 0} (x : A) → P x → Holds P (Ok x)
holds-ok {A} {P} x h = record { is = λ y e. subst P (let same : x ≡ y = cc in same) h }

pub holds-err : {A : Type 0} {P : A → Type 0} (fault : Fault) → Holds P (Err fault)
holds-err fault = record { is = λ x e. absurd (let never : ⊥ = cc in never) }

pub holds-if : {A : Type 0} {P : A → Type 0} {r s : Result A Fault} (t : Bool) → Holds P r → Holds P s → Holds P (cond t r s)
holds-if true h k = h
holds-if false h k = k

pub holds-then : {A B : Type 0} {Q : A → Type 0} {P : B → Type 0} (r : Result A Fault) (f : A → Result B Fault) → Holds Q r → ((x : A) → Q x → Holds P (f x)) → Holds P (r >>= f)
holds-then (Ok x) f h each = each x (h.is x refl)
holds-then (Err fault) f h each = holds-err fault

pub any-then : {A B : Type 0} {P : B → Type 0} (r : Result A Fault) (f : A → Result B Fault) → ((x : A) → Holds P (f x)) → Holds P (r >>= f)
any-then (Ok x) f each = each x
any-then (Err fault) f each = holds-err fault

pub told_ok : {A : Type 0} (P : A → Type 0) (r : Result A Fault) → Holds P r → IfOk r P
told_ok P (Ok x) h = h.is x refl
told_ok P (Err fault) h = tt
