-- What one more entry does to a history.
use Rattle.std.proofs.Common.{◌≡◌, ◌≢◌, ℕ, Bool, true, false, eqb, List, [], ◌∷◌, ◌++◌, refl, ap, sym, subst, eq-eqb, ne_eqb, if◌then◌else◌}
use Rattle.turn_lock.specs.History.{Leads, made_by}
use Rattle.turn_lock.specs.Views.{stamped}
use Rattle.turn_lock.specs.declared.known.Entered.{Entered}

module _ {S E : Type 0} (leads : S → E → S → Type 0) where
  pub leads_on : (s m t : S) (log : List (Entered E)) (x : Entered E) → Leads leads s log m → leads m x.entry t → Leads leads s (log ++ x ∷ []) t
  leads_on s m t [] x is step = (t, subst (λ (z : S). leads z x.entry t) (sym is) step, refl)
  leads_on s m t (y ∷ log) x is step = (is.0, is.1, leads_on is.0 m t log x is.2 step)

module _ {E : Type 0} where
  entry_on : (n : ℕ) (e : E) (b : Bool) (x : E) (xs ys : List E) → ys ≡ xs ++ e ∷ [] → (if b then x ∷ ys else ys) ≡ (if b then x ∷ xs else xs) ++ e ∷ []
  entry_on n e true x xs ys is = ap (λ (es : List E). x ∷ es) is
  entry_on n e false x xs ys is = is

  entry_off : (b : Bool) (x : E) (xs ys : List E) → ys ≡ xs → (if b then x ∷ ys else ys) ≡ (if b then x ∷ xs else xs)
  entry_off b x xs ys is = ap (λ (es : List E). if b then x ∷ es else es) is

  pub made_here : (n : ℕ) (e : E) (log : List (Entered E)) → made_by n (log ++ stamped n e ∷ []) ≡ made_by n log ++ e ∷ []
  made_here n e [] = ap (λ (b : Bool). if b then e ∷ [] else []) (eq-eqb n n refl)
  made_here n e (x ∷ log) = entry_on n e (eqb x.by n) x.entry (made_by n log) (made_by n (log ++ stamped n e ∷ [])) (made_here n e log)

  pub made_there : (n m : ℕ) (e : E) (log : List (Entered E)) → n ≢ m → made_by n (log ++ stamped m e ∷ []) ≡ made_by n log
  made_there n m e [] ne = ap (λ (b : Bool). if b then e ∷ [] else []) (ne_eqb m n (λ is. ne (sym is)))
  made_there n m e (x ∷ log) ne = entry_off (eqb x.by n) x.entry (made_by n log) (made_by n (log ++ stamped m e ∷ [])) (made_there n m e log ne)
