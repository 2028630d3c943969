-- Reading in other lines: one part after another.
use Rattle.std.proofs.Common.{◌≡◌, ℕ, ◌+◌, Bool, true, false, cond, Result, Ok, Err, refl, ap, ◌∙◌, arith}
use Rattle.book.specs.declared.fault.Cause.{Cause}
use Rattle.book.specs.declared.fault.Fault.{Fault}
use Rattle.entry_reader.specs.Causes.{fault_at, ◌>>=◌}
use Rattle.changed_texts.specs.LinesOf.{relined_read}

-- so many lines further on
abbrev pub later : ℕ → ℕ → ℕ
later n l = n + l

pub next : (n l m : ℕ) → m ≡ later n l → m + 1 ≡ later n (l + 1)
next n l m e = omega (arith, e)

-- The second answer is the first in other lines, of which what is read is changed.
pub record Late {A : Type 0} (by : ℕ → ℕ) (f : A → A) (r s : Result A Fault) : Type 0 where
  pub is : s ≡ relined_read by f r

pub late-ok : {A : Type 0} {by : ℕ → ℕ} (f : A → A) (x y : A) → y ≡ f x → Late by f (Ok x) (Ok y)
late-ok f x y e = record { is = λ i. Ok (e i) }

-- what carries no line stays
pub alike-ok : {A : Type 0} {by : ℕ → ℕ} (x : A) → Late by (λ y. y) (Ok x) (Ok x)
alike-ok x = record { is = refl }

pub late-err : {A : Type 0} {by : ℕ → ℕ} {f : A → A} (l m : ℕ) (c : Cause) → m ≡ by l → Late by f (Err (fault_at l c)) (Err (fault_at m c))
late-err l m c e = record { is = λ i. Err (fault_at (e i) c) }

pub late-if : {A : Type 0} {by : ℕ → ℕ} {f : A → A} {r s q p : Result A Fault} (t : Bool) → Late by f r q → Late by f s p → Late by f (cond t r s) (cond t q p)
late-if true h k = h
late-if false h k = k

pub late-then : {A B : Type 0} {by : ℕ → ℕ} {f : A → A} {g : B → B} (r s : Result A Fault) (k m : A → Result B Fault) → Late by f r s → ((x : A) → Late by g (k x) (m (f x))) → Late by g (r >>= k) (s >>= m)
late-then {A} (Ok x) s k m h each = record { is = ap (λ (q : Result A Fault). q >>= m) h.is ∙ (each x).is }
late-then {A} (Err fault) s k m h each = record { is = ap (λ (q : Result A Fault). q >>= m) h.is }

pub alike-then : {A B : Type 0} {by : ℕ → ℕ} {g : B → B} (r s : Result A Fault) (k m : A → Result B Fault) → Late by (λ x. x) r s → ((x : A) → Late by g (k x) (m x)) → Late by g (r >>= k) (s >>= m)
alike-then r s k m h each = late-then r s k m h each
