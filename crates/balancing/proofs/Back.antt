-- Transactions that are put back as they were written.
use Rattle.std.proofs.Common.{◌≡◌, ◌≤◌, ℕ, zero, suc, List, [], ◌∷◌, ◌++◌, length, set, Option, Some, refl, ap, ◌∙◌, arith}
use Rattle.std.specs.List.{slice_get}
use Rattle.book.specs.declared.fault.Cause.{Cause}
use Rattle.book.specs.declared.transaction.Txn.{Txn}
use Rattle.balancing.specs.declared.written.Written.{Written}
use Rattle.balancing.specs.Back.{IsKept, txns_back, causes_back}
use Rattle.balancing.proofs.Given.{set-again}

pub txns_push : (ws : List Written) (w : Written) (ts : List Txn) → txns_back (ws ++ w ∷ []) ts ≡ txns_back ws (set ts w.number w.txn)
txns_push [] w ts = refl
txns_push (k ∷ ws) w ts = ap (λ (xs : List Txn). set xs k.number k.txn) (txns_push ws w ts)

pub causes_push : (ws : List Written) (w : Written) (cs : List (Option Cause)) → causes_back (ws ++ w ∷ []) cs ≡ causes_back ws (set cs w.number w.cause)
causes_push [] w cs = refl
causes_push (k ∷ ws) w cs = ap (λ (xs : List (Option Cause)). set xs k.number k.cause) (causes_push ws w cs)

-- what stands in its place is put there again
set_there : {X : Type 0} (xs : List X) (n : ℕ) (x : X) → slice_get xs n ≡ Some x → set xs n x ≡ xs
set_there [] n x at = refl
set_there (y ∷ xs) zero x at = let same : x ≡ y = cc in ap (λ z. z ∷ xs) same
set_there (y ∷ xs) (suc n) x at = ap (λ zs. y ∷ zs) (set_there xs n x at)

module _ (ws : List Written) (w : Written) (ts ts' : List Txn) (cs cs' : List (Option Cause)) (at : slice_get ts w.number ≡ Some w.txn) (cause_at : slice_get cs w.number ≡ Some w.cause)
    (others : (t : Txn) → set ts' w.number t ≡ set ts w.number t) (cause_others : (c : Option Cause) → set cs' w.number c ≡ set cs w.number c) where
  pub kept_back : IsKept ws ts cs (ws ++ w ∷ []) ts' cs'
  kept_back = record {
    txns_stay = txns_push ws w ts' ∙ ap (txns_back ws) (others w.txn ∙ set_there ts w.number w.txn at);
    causes_stay = causes_push ws w cs' ∙ ap (causes_back ws) (cause_others w.cause ∙ set_there cs w.number w.cause cause_at);
  }

  pub kept_later : (t : Txn) (c : Option Cause) → IsKept ws ts cs (ws ++ w ∷ []) (set ts' w.number t) (set cs' w.number c)
  kept_later t c = record {
    txns_stay = txns_push ws w (set ts' w.number t) ∙ ap (txns_back ws) (set-again ts' w.number t w.txn ∙ others w.txn ∙ set_there ts w.number w.txn at);
    causes_stay = causes_push ws w (set cs' w.number c) ∙ ap (causes_back ws) (set-again cs' w.number c w.cause ∙ cause_others w.cause ∙ set_there cs w.number w.cause cause_at);
  }

pub kept_same : (ws : List Written) (ts : List Txn) (cs : List (Option Cause)) → IsKept ws ts cs ws ts cs
kept_same ws ts cs = record { txns_stay = refl; causes_stay = refl }

pub kept_on : (ws vs us : List Written) (ts ts' ts'' : List Txn) (cs cs' cs'' : List (Option Cause)) → IsKept ws ts cs vs ts' cs' → IsKept vs ts' cs' us ts'' cs'' → IsKept ws ts cs us ts'' cs''
kept_on ws vs us ts ts' ts'' cs cs' cs'' h k = record { txns_stay = k.txns_stay ∙ h.txns_stay; causes_stay = k.causes_stay ∙ h.causes_stay }

-- nothing is put past the end
pub set_past : {X : Type 0} (xs : List X) (n : ℕ) (x : X) → length xs ≤ n → set xs n x ≡ xs
set_past [] n x h = refl
set_past (y ∷ xs) zero x h = absurd (omega arith)
set_past (y ∷ xs) (suc n) x h = ap (λ zs. y ∷ zs) (set_past xs n x (omega arith))
