-- Postings with other lines stand at the same places, and accounts hold the same before each.
use Rattle.std.proofs.Common.{◌≡◌, ℕ, suc, ◌+◌, Bool, cond, ◌&&◌, not, List, [], ◌∷◌, ◌++◌, map, filter, Option, Some, None, is_some, refl, sym, ap, subst, ◌∙◌}
use Rattle.std.specs.Prelude.{unwrap_or}
use Rattle.std.specs.List.{AllByRecursion}
use Rattle.std.proofs.lemmas.List.{length-map}
use Rattle.book.specs.declared.amount.Assertion.{Assertion}
use Rattle.book.specs.declared.transaction.Posting.{Posting}
use Rattle.book.specs.declared.transaction.Txn.{Txn}
use Rattle.book.specs.SumsBefore.{Place, is_assigned, is_before, is_of, number_in, placed_in, placed_from}
use Rattle.entry_balance.specs.Values.{Value, value_of}
use Rattle.entry_balance.specs.Entry.{from_amount, plain_amount}
use Rattle.balancing.specs.Solves.{amount_at, difference_at, just_after, values_before, values_of, Holds, HoldsIf, IsAssignedAt, IsAssertedAt}
use Rattle.moved_lines.specs.Relined.{relined, relined_at, relined_from, relined_posting, relined_txn}
use Rattle.moved_lines.proofs.Lists.{any-same, filter-moved, map-both}

abbrev pub Entry : Type 0
Entry = Place × Posting

module _ (f : ℕ → ℕ → ℕ) where
  number-same : (t : Txn) (n k : ℕ) (p : Posting) → number_in (relined_txn (f n) t) k (relined_posting (f n) p) ≡ number_in t k p
  number-same t n k p =
      λ i. cond (any-same (relined_posting (f n)) is_assigned (λ q. refl) t.postings i && p.filled && not (is_some p.wanted))
      (length-map t.postings (relined_posting (f n)) i + k) k

  pub placed_in-moved : (t : Txn) (n k : ℕ) (ps : List Posting) → placed_in (relined_txn (f n) t) n k (map (relined_posting (f n)) ps) ≡ map (relined_at f) (placed_in t n k ps)
  placed_in-moved t n k [] = refl
  placed_in-moved t n k (p ∷ ps) =
      λ i. (record { day = (unwrap_or p.day t.day).0; txn = n; posting = number-same t n k p i }, relined_posting (f n) p) ∷ placed_in-moved t n (suc k) ps i

  pub placed-moved : (n : ℕ) (ts : List Txn) → placed_from n (relined_from f n ts) ≡ map (relined_at f) (placed_from n ts)
  placed-moved n [] = refl
  placed-moved n (t ∷ ts) =
      (λ i. placed_in-moved t n 0 t.postings i ++ placed-moved (suc n) ts i)
      ∙ sym (map-both (relined_at f) (placed_in t n 0 t.postings) (placed_from (suc n) ts))

  values-seen : (es : List Entry) → values_of (map (λ (e : Entry). e.1) (map (relined_at f) es)) ≡ values_of (map (λ (e : Entry). e.1) es)
  values-seen [] = refl
  values-seen (e ∷ es) = λ i. from_amount (λ a. value_of a ∷ []) e.1.amount ++ values-seen es i

  module _ (book : List Txn) where
    pub before-same : (account : List ℕ) (below : Bool) (place : Place) → values_before (relined f book) account below place ≡ values_before book account below place
    before-same account below place =
        ap (λ (es : List Entry). values_of (map (λ (e : Entry). e.1) (filter (λ (e : Entry). is_before e.0 place && is_of account below e.1.account) es))) (placed-moved 0 book)
        ∙ ap (λ (es : List Entry). values_of (map (λ (e : Entry). e.1) es)) (filter-moved (relined_at f) (λ (e : Entry). is_before e.0 place && is_of account below e.1.account) (λ e. refl) (placed_from 0 book))
        ∙ values-seen (filter (λ (e : Entry). is_before e.0 place && is_of account below e.1.account) (placed_from 0 book))

    difference-same : (place : Place) (n : ℕ) (p : Posting) (w : Assertion) → difference_at book place p w ≡ difference_at (relined f book) place (relined_posting (f n) p) w
    difference-same place n p w = rw (before-same p.account w.below place) refl

    assigned-one : (e : Entry) → IsAssignedAt book e → IsAssignedAt (relined f book) (relined_at f e)
    assigned-one e h = λ is. h is ∙ amounts e.1.wanted
      where
        amounts : (o : Option Assertion) → amount_at book e.0 e.1 o ≡ amount_at (relined f book) e.0 (relined_posting (f e.0.txn) e.1) o
        amounts None = refl
        amounts (Some w) = ap (λ (v : Value). Some (plain_amount v)) (difference-same e.0 e.0.txn e.1 w)

    asserted-one : (e : Entry) → IsAssertedAt book e → IsAssertedAt (relined f book) (relined_at f e)
    asserted-one e h = holds e.1.wanted h
      where
        holds : (o : Option Assertion) → HoldsIf o (λ w. values_before book e.1.account w.below (just_after e.0))
            → HoldsIf o (λ w. values_before (relined f book) e.1.account w.below (just_after e.0))
        holds None k = tt
        holds (Some w) k = let P : List Value → Type 0 = λ vs. Holds w vs in subst P (sym (before-same e.1.account w.below (just_after e.0))) k

    assigned-each : (es : List Entry) → AllByRecursion (IsAssignedAt book) es → AllByRecursion (IsAssignedAt (relined f book)) (map (relined_at f) es)
    assigned-each [] h = tt
    assigned-each (e ∷ es) h = (assigned-one e h.0, assigned-each es h.1)

    asserted-each : (es : List Entry) → AllByRecursion (IsAssertedAt book) es → AllByRecursion (IsAssertedAt (relined f book)) (map (relined_at f) es)
    asserted-each [] h = tt
    asserted-each (e ∷ es) h = (asserted-one e h.0, asserted-each es h.1)

    pub assigned-all : AllByRecursion (IsAssignedAt book) (placed_from 0 book) → AllByRecursion (IsAssignedAt (relined f book)) (placed_from 0 (relined f book))
    assigned-all h =
        let P : List Entry → Type 0 = λ es. AllByRecursion (IsAssignedAt (relined f book)) es in
        subst P (sym (placed-moved 0 book)) (assigned-each (placed_from 0 book) h)

    pub asserted-all : AllByRecursion (IsAssertedAt book) (placed_from 0 book) → AllByRecursion (IsAssertedAt (relined f book)) (placed_from 0 (relined f book))
    asserted-all h =
        let P : List Entry → Type 0 = λ es. AllByRecursion (IsAssertedAt (relined f book)) es in
        subst P (sym (placed-moved 0 book)) (asserted-each (placed_from 0 book) h)
