-- A transaction of the book that solves a journal is solved there.
use Rattle.std.proofs.Common.{◌≡◌, ℕ, zero, suc, ◌+◌, List, [], ◌∷◌, Option, Some, None, Result, Ok, Err, subst, arith}
use Rattle.std.specs.List.{slice_get}
use Rattle.book.specs.declared.transaction.Txn.{Txn}
use Rattle.balancing.specs.Solves.{Solves}
use Rattle.balancing.specs.declared.fault.CheckFault.{CheckFault}
use Rattle.balancing.specs.declared.fault.CheckFault.TheVariants as check
use Rattle.reached_entries.specs.Reached.{IsSolved}
use Rattle.reached_entries.proofs.Parts.{AreSolved, are-solved}
use Rattle.placed_checks.specs.Judging.{IsThis}
use Rattle.check_laws.specs.Valued.{IsAnswer}

some_is : (a b : Txn) → Some a ≡ Some b → a ≡ b
some_is a b h = let same : a ≡ b = cc in same

none≢some : (a : Txn) → ◌≡◌ {A = Option Txn} None (Some a) → ⊥
none≢some a h = cc

solved_at : (book : List Txn) (k j : ℕ) (ws ts : List Txn) (n : ℕ) (w t : Txn) → AreSolved book k ws ts → slice_get ws j ≡ Some w → slice_get ts j ≡ Some t → k + j ≡ n → IsSolved book n w t
solved_at book k j [] ts n w t h a b e = absurd (none≢some w a)
solved_at book k j (x ∷ ws) [] n w t h a b e = absurd h
solved_at book k zero (x ∷ ws) (y ∷ ts) n w t h a b e =
    let at : k ≡ n = omega (arith, e) in
    subst (λ (m : ℕ). IsSolved book m w t) at (subst (λ (u : Txn). IsSolved book k u t) (some_is x w a) (subst (IsSolved book k x) (some_is y t b) h.0))
solved_at book k (suc j) (x ∷ ws) (y ∷ ts) n w t h a b e = solved_at book (suc k) j ws ts n w t h.1 a b (omega (arith, e))

pub is_solved : (written book : List Txn) (n : ℕ) (w t : Txn) → Solves written book → slice_get written n ≡ Some w → slice_get book n ≡ Some t → IsSolved book n w t
is_solved written book n w t s a b = solved_at book 0 n written book n w t (are-solved written book s) a b (omega arith)

pub is_answer : (solved : Txn) (r : Result Txn CheckFault) → IsThis solved r → IsAnswer None solved r
is_answer solved (Ok answer) h = h
is_answer solved (Err check.Memory) h = tt
is_answer solved (Err (check.Journal fault)) h = h
