-- Transactions with other lines are made, settled and balanced as before.
use Rattle.std.proofs.Common.{◌≡◌, ℕ, suc, ◌&&◌, List, [], ◌∷◌, ◌++◌, map, Option, Some, None, refl, sym, ap, ◌∙◌}
use Rattle.std.specs.List.{list_all, AllByRecursion}
use Rattle.std.proofs.lemmas.Grind.{flat_map-append}
use Rattle.book.specs.declared.amount.Amount.{Amount}
use Rattle.book.specs.declared.amount.Assertion.{Assertion}
use Rattle.book.specs.declared.transaction.Posting.{Posting}
use Rattle.book.specs.declared.transaction.Txn.{Txn}
use Rattle.book.specs.Postings.{postings_of}
use Rattle.entry_balance.specs.Entry.{cause_alone, moved, moved_by, settled}
use Rattle.balancing.specs.Solves.{are_unmarked, is_allowed, AreMade, AreMadeTxns, IsMadeBy, IsMadeTxn}
use Rattle.moved_lines.specs.Relined.{relined_from, relined_posting, relined_txn}
use Rattle.moved_lines.proofs.Unseen.{allowed-same, cause-same, moved-same, settled-moved, unmarked-same}

made-one : (f : ℕ → ℕ) (a : Option Amount) (o : Option Assertion) (w q : Posting) → IsMadeBy a o w q → IsMadeBy a o (relined_posting f w) (relined_posting f q)
made-one f (Some a) o w q h = ap (relined_posting f) h
made-one f None None w q h = ap (relined_posting f) h
made-one f None (Some x) w q h = (h.0, ap (relined_posting f) h.1)

made-postings : (f : ℕ → ℕ) (ws qs : List Posting) → AreMade ws qs → AreMade (map (relined_posting f) ws) (map (relined_posting f) qs)
made-postings f [] [] h = tt
made-postings f [] (q ∷ qs) h = absurd h
made-postings f (w ∷ ws) [] h = absurd h
made-postings f (w ∷ ws) (q ∷ qs) h = (made-one f w.amount w.wanted w q h.0, made-postings f ws qs h.1)

pub made-txn : (f : ℕ → ℕ) (w m : Txn) → IsMadeTxn w m → IsMadeTxn (relined_txn f w) (relined_txn f m)
made-txn f w m h = record { postings = made-postings f w.postings m.postings h.postings; rest = ap (relined_txn f) h.rest }

module _ (f : ℕ → ℕ → ℕ) where
  pub made-all : (n : ℕ) (ws ms : List Txn) → AreMadeTxns ws ms → AreMadeTxns (relined_from f n ws) (relined_from f n ms)
  made-all n [] [] h = tt
  made-all n [] (m ∷ ms) h = absurd h
  made-all n (w ∷ ws) [] h = absurd h
  made-all n (w ∷ ws) (m ∷ ms) h = (made-txn (f n) w m h.0, made-all (suc n) ws ms h.1)

  pub balanced-all : (n : ℕ) (ms : List Txn) → AllByRecursion (λ t. cause_alone t.postings ≡ None) ms → AllByRecursion (λ t. cause_alone t.postings ≡ None) (relined_from f n ms)
  balanced-all n [] h = tt
  balanced-all n (m ∷ ms) h = (cause-same (f n) m.postings ∙ h.0, balanced-all (suc n) ms h.1)

  pub settled-all : (n : ℕ) (ms : List Txn) → map settled (relined_from f n ms) ≡ relined_from f n (map settled ms)
  settled-all n [] = refl
  settled-all n (m ∷ ms) = λ i. settled-moved (f n) m i ∷ settled-all (suc n) ms i

  pub unmarked-all : (n : ℕ) (ts : List Txn) → are_unmarked (relined_from f n ts) ≡ are_unmarked ts
  unmarked-all n [] = refl
  unmarked-all n (t ∷ ts) = λ i. unmarked-same (f n) t.postings i && unmarked-all (suc n) ts i

  pub allowed-all : (n : ℕ) (ts : List Txn) → list_all is_allowed (relined_from f n ts) ≡ list_all is_allowed ts
  allowed-all n [] = refl
  allowed-all n (t ∷ ts) = λ i. allowed-same (f n) t i && allowed-all (suc n) ts i

  pub moved-all : (n : ℕ) (ts : List Txn) → moved (postings_of (relined_from f n ts)) ≡ moved (postings_of ts)
  moved-all n [] = refl
  moved-all n (t ∷ ts) =
      flat_map-append moved_by (map (relined_posting (f n)) t.postings) (postings_of (relined_from f (suc n) ts))
      ∙ (λ i. moved-same (f n) t.postings i ++ moved-all (suc n) ts i)
      ∙ sym (flat_map-append moved_by t.postings (postings_of ts))
