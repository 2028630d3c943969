-- What is wrong with a transaction, by what was tested.
use Rattle.std.proofs.Common.{◌≡◌, Bool, true, false, ◌&&◌, ◌||◌, cond, List, [], ◌∷◌, Option, Some, None, is_none, is_some, Result, Ok, Err, IfOk, inl, inr, refl, sym, ap, ◌∙◌, subst}
use Rattle.std.proofs.lemmas.Bool.{false≢true, or_parts}
use Rattle.std.specs.List.{AllByRecursion}
use Rattle.book.specs.declared.amount.Assertion.{Assertion}
use Rattle.book.specs.declared.fault.Cause.{Cause}
use Rattle.book.specs.declared.fault.Cause.TheVariants as cause
use Rattle.book.specs.declared.transaction.Posting.{Posting}
use Rattle.book.specs.declared.transaction.Txn.{Txn}
use Rattle.entry_balance.specs.declared.entry.Settled.{Settled}
use Rattle.entry_balance.specs.Tally.{turnover_fits}
use Rattle.entry_balance.specs.Entry.{balanced, balanced_unless, cause_alone, has_assignment, is_assignment, assignment_fault, has_two_missing, fits_alone, costs_fit, moved, solved, unbalanced_by, unbalanced_sums}
use Rattle.entry_balance.specs.Entry.{settled}
use Rattle.entry_balance.specs.Settled.{lacks_sums, IsSettled}

pub if_ok : {T E : Type 0} (P Q : T → Type 0) (r : Result T E) → ((x : T) → P x → Q x) → IfOk r P → IfOk r Q
if_ok P Q (Ok x) f h = f x h
if_ok P Q (Err e) f h = tt

pub if_ok_both : {T E : Type 0} (P Q S : T → Type 0) (r : Result T E) → ((x : T) → P x → Q x → S x) → IfOk r P → IfOk r Q → IfOk r S
if_ok_both P Q S (Ok x) f h k = f x h k
if_ok_both P Q S (Err e) f h k = tt

module _ (ps : List Posting) where
  abbrev rest : Bool → Option Cause
  rest fits = cond fits (unbalanced_by (unbalanced_sums ps)) (Some cause.Range)

  abbrev unassigned : Bool → Option Cause
  unassigned two = cond two (Some cause.TwoMissing) (rest (fits_alone ps))

  pub cause_assigned : has_assignment ps ≡ true → cause_alone ps ≡ assignment_fault ps
  cause_assigned a = ap (λ (b : Bool). cond b (assignment_fault ps) (unassigned (has_two_missing ps))) a

  cause_unassigned : has_assignment ps ≡ false → cause_alone ps ≡ unassigned (has_two_missing ps)
  cause_unassigned a = ap (λ (b : Bool). cond b (assignment_fault ps) (unassigned (has_two_missing ps))) a

  pub cause_two : has_assignment ps ≡ false → has_two_missing ps ≡ true → cause_alone ps ≡ Some cause.TwoMissing
  cause_two a h = cause_unassigned a ∙ ap unassigned h

  cause_else : has_assignment ps ≡ false → has_two_missing ps ≡ false → cause_alone ps ≡ rest (fits_alone ps)
  cause_else a h = cause_unassigned a ∙ ap unassigned h

  pub cause_costs : has_assignment ps ≡ false → has_two_missing ps ≡ false → costs_fit ps ≡ false → cause_alone ps ≡ Some cause.Range
  cause_costs a h k = cause_else a h ∙ ap (λ (b : Bool). rest (b && turnover_fits (moved (solved ps)))) k

  pub cause_solved : has_assignment ps ≡ false → has_two_missing ps ≡ false → costs_fit ps ≡ true → cause_alone ps ≡ rest (turnover_fits (moved (solved ps)))
  cause_solved a h k = cause_else a h ∙ ap (λ (b : Bool). rest (b && turnover_fits (moved (solved ps)))) k

  pub cause_range : has_assignment ps ≡ false → has_two_missing ps ≡ false → costs_fit ps ≡ true → turnover_fits (moved (solved ps)) ≡ false → cause_alone ps ≡ Some cause.Range
  cause_range a h k l = cause_solved a h k ∙ ap rest l

pub faulty_settled : (t : Txn) (fault : Cause) → cause_alone t.postings ≡ Some fault → lacks_sums (Some fault) ≡ true → (s : Settled) → s ≡ record { txn = t; cause = Some fault } → IsSettled t s.txn s.cause
faulty_settled t fault is lacks s e =
    subst (λ (s : Settled). IsSettled t s.txn s.cause) (sym e) (record { cause = sym is; line = refl; either = inl refl; kept = λ h. refl; sums = λ a h. absurd (false≢true (sym h ∙ lacks)) })

-- a transaction with assignments
pub kept_settled : (t : Txn) → has_assignment t.postings ≡ true → (s : Settled) → s ≡ record { txn = t; cause = assignment_fault t.postings } → IsSettled t s.txn s.cause
kept_settled t assigned s e =
    subst (λ (s : Settled). IsSettled t s.txn s.cause) (sym e) (record { cause = sym (cause_assigned t.postings assigned); line = refl; either = inl refl; kept = λ h. refl; sums = λ a h. absurd (false≢true (sym a ∙ assigned)) })

-- a transaction that was solved
pub solved_settled : (t : Txn) (s : Settled) → has_assignment t.postings ≡ false → s.txn ≡ settled t → s.cause ≡ cause_alone t.postings → IsSettled t s.txn s.cause
solved_settled t s unassigned is told = record { cause = told; line = ap (λ (x : Txn). x.line) is; either = inr is; kept = λ h. absurd (false≢true (sym unassigned ∙ h)); sums = λ a h. is }

-- a transaction without assignments, by its cause
pub told_none : (w t : Txn) (c : Option Cause) → has_assignment w.postings ≡ false → IsSettled w t c → c ≡ None → balanced w ≡ Ok t
told_none w t c unassigned s none =
    ap (balanced_unless w) (sym s.cause ∙ none) ∙ ap (λ (x : Txn). Ok x) (sym (s.sums unassigned (ap lacks_sums none)))

pub told_some : (w t : Txn) (c : Option Cause) (fault : Cause) → IsSettled w t c → c ≡ Some fault → balanced w ≡ Err fault
told_some w t c fault s some = ap (balanced_unless w) (sym s.cause ∙ some)

-- without two missing amounts none is missing at free postings
pub free_none : (a b c : Bool) → (a || b || c) ≡ false → c ≡ false
free_none a b c h = (or_parts (a || b) c h).1
