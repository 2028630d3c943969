-- What an answer of a reader may hold.
use Rattle.std.proofs.Common.{◌≡◌, Bool, true, false, cond, Result, Ok, Err, refl, subst}
use Rattle.book.specs.declared.fault.Fault.{Fault}
use Rattle.entry_reader.specs.Causes.{◌>>=◌}

abbrev pub Gives : {A : Type 0} → (A → Type 0) → Result A Fault → Type 0
Gives {A} P r = (x : A) → r ≡ Ok x → P x

pub ok_gives : {A : Type 0} (P : A → Type 0) (a : A) → P a → Gives P (Ok a)
ok_gives P a h x e = subst P (let same : a ≡ x = cc in same) h

pub err_gives : {A : Type 0} (P : A → Type 0) (fault : Fault) → Gives P (Err fault)
err_gives P fault x e = absurd (let never : ⊥ = cc in never)

pub choice_gives : {A : Type 0} (P : A → Type 0) (t : Bool) (r s : Result A Fault) → Gives P r → Gives P s → Gives P (cond t r s)
choice_gives P true r s h k = h
choice_gives P false r s h k = k

pub unless_gives : {A : Type 0} (P : A → Type 0) (t : Bool) (fault : Fault) (s : Result A Fault) → Gives P s → Gives P (cond t (Err fault) s)
unless_gives P t fault s k = choice_gives P t (Err fault) s (err_gives P fault) k

pub when_gives : {A : Type 0} (P : A → Type 0) (t : Bool) (r : Result A Fault) (fault : Fault) → Gives P r → Gives P (cond t r (Err fault))
when_gives P t r fault k = choice_gives P t r (Err fault) k (err_gives P fault)

pub bind_gives : {A B : Type 0} (Q : A → Type 0) (P : B → Type 0) (r : Result A Fault) (f : A → Result B Fault) → Gives Q r → ((a : A) → Q a → Gives P (f a)) → Gives P (r >>= f)
bind_gives Q P (Ok a) f h k = k a (h a refl)
bind_gives Q P (Err fault) f h k = err_gives P fault

-- nothing is known of what is read before
pub after_gives : {A B : Type 0} (P : B → Type 0) (r : Result A Fault) (f : A → Result B Fault) → ((a : A) → Gives P (f a)) → Gives P (r >>= f)
after_gives P (Ok a) f k = k a
after_gives P (Err fault) f k = err_gives P fault
