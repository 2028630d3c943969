-- Assignments that are made one after another.
use Rattle.std.proofs.Common.{◌≡◌, ℕ, ◌<◌, Bool, true, false, List, [], ◌∷◌, ◌++◌, length, get_or, take, Option, Some, None, is_some, refl, sym, ap, ◌∙◌, subst, arith}
use Rattle.std.proofs.lemmas.Bool.{false≢true}
use Rattle.std.proofs.lemmas.Grind.{flat_map-append}
use Rattle.std.proofs.lemmas.List.{append_assoc, append-nil}
use Rattle.hl_num.specs.Decimal.{Decimal, add_fits}
use Rattle.book.specs.declared.amount.Amount.{Amount}
use Rattle.book.specs.declared.amount.Assertion.{Assertion}
use Rattle.book.specs.declared.transaction.Posting.{Posting}
use Rattle.book.specs.Mixed.{plus}
use Rattle.entry_balance.specs.Values.{Value}
use Rattle.entry_balance.specs.Tally.{total_of, turnover_fits}
use Rattle.entry_balance.specs.Entry.{moved, moved_by, plain_amount}
use Rattle.entry_balance.proofs.Adding.{false-from}
use Rattle.entry_balance.proofs.Covers.{Covers, covered-fits, covers_same, covers_right, covers_both}
use Rattle.entry_balance.proofs.Turnover.{fits-first}
use Rattle.assertions.specs.Assertions.{held_by, held_in}
use Rattle.balancing.specs.Assigned.{assigned_posting, assigned_value_by, given_posting_by, given_postings_by}
use Rattle.balancing.specs.Giving.{IsReady, IsHeld, given_next, given_with, value_after_by, fits_after_by}
use Rattle.assertions.specs.Kept.{Keeping, is_asked_by}
use Rattle.balancing.proofs.Adding.{total-append, sums_fit}
use Rattle.assertions.proofs.Balanced.{covers_held}

-- ---- what is assigned

held-append : (below : Bool) (root : List ℕ) (seen done : List Posting) → held_in below root (seen ++ done) ≡ held_in below root seen ++ held_in below root done
held-append below root seen done = flat_map-append (held_by below root) seen done

module _ (enter : Decimal → Decimal) (below : Bool) (root : List ℕ) (seen done : List Posting) (w : Amount) (before so_far : Decimal)
    (is_before : before ≡ total_of w.symbol (held_in below root seen)) (is_so_far : so_far ≡ total_of w.symbol (held_in below root done)) where
  pub total_here : plus before so_far ≡ total_of w.symbol (held_in below root (seen ++ done))
  total_here =
      (λ i. plus (is_before i) (is_so_far i)) ∙ sym (total-append w.symbol (held_in below root seen) (held_in below root done))
      ∙ ap (total_of w.symbol) (sym (held-append below root seen done))

  pub sum_range : add_fits before so_far ≡ false → fits_after_by enter (held_in below root (seen ++ done)) w ≡ false
  sum_range differs = false-from _ (λ fits. false≢true (sym differs ∙ (λ i. add_fits (is_before i) (is_so_far i))
      ∙ sums_fit w.symbol (held_in below root seen) (held_in below root done) (ap turnover_fits (sym (held-append below root seen done)) ∙ fits-first (held_in below root (seen ++ done)) _ fits)))

-- ---- one posting

module _ (enter : Decimal → Decimal) (seen done : List Posting) (p : Posting) (own below own_here below_here : Keeping) (h : IsReady seen done p own below own_here below_here) (w : Assertion) (wanted : p.wanted ≡ Some w) where
  pub ready_held : IsHeld seen done p.account w.below own below own_here below_here
  ready_held = record {
    before = h.before;
    here = h.here;
    kept = ap (is_asked_by own below p.account) (sym wanted) ∙ h.asked;
    kept_here = ap (is_asked_by own_here below_here p.account) (sym wanted) ∙ h.asked_here;
  }

  pub given_assigned : p.amount ≡ None → given_posting_by enter (seen ++ done) p p.amount p.wanted ≡ assigned_posting p (assigned_value_by enter (seen ++ done) p w)
  given_assigned none = λ i. given_posting_by enter (seen ++ done) p (none i) (wanted i)

  pub given_is : p.amount ≡ None → (a : Amount) → a ≡ plain_amount (w.amount.symbol, value_after_by enter (held_in w.below p.account (seen ++ done)) w.amount) → given_with p (Some a) ≡ given_posting_by enter (seen ++ done) p p.amount p.wanted
  given_is none a is = ap (λ (x : Amount). given_with p (Some x)) is ∙ sym (given_assigned none)

  -- what is assigned is out of range, so what is moved is
  pub assigned_range : p.amount ≡ None → fits_after_by enter (held_in w.below p.account (seen ++ done)) w.amount ≡ false → turnover_fits (moved (given_next enter seen done p)) ≡ false
  assigned_range none range = false-from _ (λ fits. false≢true (sym range ∙ covered-fits (moved (given_next enter seen done p)) (held_in w.below p.account (seen ++ done) ++ value ∷ []) covers fits))
    where
      value : Value
      value = assigned_value_by enter (seen ++ done) p w

      q : Posting
      q = given_posting_by enter (seen ++ done) p p.amount p.wanted

      all : moved (given_next enter seen done p) ≡ moved (seen ++ done) ++ moved (q ∷ [])
      all = ap moved (sym (append_assoc seen done (q ∷ []))) ∙ flat_map-append moved_by (seen ++ done) (q ∷ [])

      mine : moved (q ∷ []) ≡ value ∷ []
      mine = ap (λ (x : Posting). moved (x ∷ [])) (given_assigned none)

      covers : Covers (moved (given_next enter seen done p)) (held_in w.below p.account (seen ++ done) ++ value ∷ [])
      covers = subst (λ (vs : List Value). Covers vs (held_in w.below p.account (seen ++ done) ++ value ∷ [])) (sym (all ∙ ap (λ (vs : List Value). moved (seen ++ done) ++ vs) mine))
          (covers_both (held_in w.below p.account (seen ++ done)) (moved (seen ++ done)) (value ∷ []) (value ∷ []) (covers_held w.below p.account (seen ++ done)) (covers_same (value ∷ [])))

module _ (enter : Decimal → Decimal) where
  -- a posting without an assertion, or with an amount, stays
  pub given_none : (after : List Posting) (p : Posting) → p.wanted ≡ None → p ≡ given_posting_by enter after p p.amount p.wanted
  given_none after p none = by p.amount ∙ ap (given_posting_by enter after p p.amount) (sym none)
    where
      by : (a : Option Amount) → p ≡ given_posting_by enter after p a None
      by None = refl
      by (Some a) = refl

  pub given_some : (after : List Posting) (p : Posting) → is_some p.amount ≡ true → p ≡ given_posting_by enter after p p.amount p.wanted
  given_some after p some = by p.amount some
    where
      by : (a : Option Amount) → is_some a ≡ true → p ≡ given_posting_by enter after p a p.wanted
      by None h = absurd (false≢true h)
      by (Some a) h = refl

pub none-is : {X : Type 0} (o : Option X) → is_some o ≡ false → o ≡ None
none-is None h = refl
none-is (Some x) h = absurd (false≢true (sym h))

module _ (enter : Decimal → Decimal) where
  -- what was moved by the postings of a transaction alone is out of range, so all is
  pub here_range : (seen done : List Posting) (p q : Posting) → q ≡ given_posting_by enter (seen ++ done) p p.amount p.wanted → turnover_fits (moved (done ++ q ∷ [])) ≡ false → turnover_fits (moved (given_next enter seen done p)) ≡ false
  here_range seen done p q is range = false-from _ (λ fits. false≢true (sym range ∙ ap (λ (x : Posting). turnover_fits (moved (done ++ x ∷ []))) is
      ∙ covered-fits (moved (given_next enter seen done p)) (moved (done ++ given_posting_by enter (seen ++ done) p p.amount p.wanted ∷ []))
      (subst (λ (vs : List Value). Covers vs (moved (done ++ given_posting_by enter (seen ++ done) p p.amount p.wanted ∷ []))) (sym (flat_map-append moved_by seen (done ++ given_posting_by enter (seen ++ done) p p.amount p.wanted ∷ [])))
      (covers_right (moved seen) (moved (done ++ given_posting_by enter (seen ++ done) p p.amount p.wanted ∷ [])))) fits))

  -- ---- all postings

  pub given-append : (seen xs ys : List Posting) → given_postings_by enter seen (xs ++ ys) ≡ given_postings_by enter seen xs ++ given_postings_by enter (seen ++ given_postings_by enter seen xs) ys
  given-append seen [] ys = ap (λ (s : List Posting). given_postings_by enter s ys) (sym (append-nil seen))
  given-append seen (x ∷ xs) ys =
      let q = given_posting_by enter seen x x.amount x.wanted in
      ap (λ (t : List Posting). q ∷ t) (given-append (seen ++ q ∷ []) xs ys
      ∙ ap (λ (s : List Posting). given_postings_by enter (seen ++ q ∷ []) xs ++ given_postings_by enter s ys) (append_assoc seen (q ∷ []) (given_postings_by enter (seen ++ q ∷ []) xs)))

  pub given-push : (seen xs : List Posting) (x : Posting) → given_postings_by enter seen (xs ++ x ∷ []) ≡ given_postings_by enter seen xs ++ given_posting_by enter (seen ++ given_postings_by enter seen xs) x x.amount x.wanted ∷ []
  given-push seen xs x = given-append seen xs (x ∷ [])

pub front-is : {X : Type 0} (xs all : List X) (x : X) → take (length xs) all ≡ xs → length xs < length all → x ≡ get_or all (length xs) x → (rest : List X) × (all ≡ xs ++ x ∷ rest)
front-is [] [] x front less is = absurd (omega arith)
front-is [] (y ∷ all) x front less is = (all, ap (λ z. z ∷ all) (sym is))
front-is (z ∷ xs) [] x front less is = absurd (omega arith)
front-is (z ∷ xs) (y ∷ all) x front less is =
    let rest = front-is xs all x (tails front) (omega arith) is in
    (rest.0, (λ i. heads front i ∷ rest.1 i))
  where
    heads : y ∷ take (length xs) all ≡ z ∷ xs → y ≡ z
    heads e = let one : y ≡ z = cc in one

    tails : y ∷ take (length xs) all ≡ z ∷ xs → take (length xs) all ≡ xs
    tails e = let one : take (length xs) all ≡ xs = cc in one

module _ (enter : Decimal → Decimal) where
  -- through one posting what is moved is out of range, so all is
  pub through_range : (seen xs all rest : List Posting) (x : Posting) → all ≡ xs ++ x ∷ rest → turnover_fits (moved (given_next enter seen (given_postings_by enter seen xs) x)) ≡ false → turnover_fits (moved (seen ++ given_postings_by enter seen all)) ≡ false
  through_range seen xs all rest x is range =
      let done = given_postings_by enter seen xs in
      let q = given_posting_by enter (seen ++ done) x x.amount x.wanted in
      let later = given_postings_by enter ((seen ++ done) ++ q ∷ []) rest in
      let whole : seen ++ given_postings_by enter seen all ≡ (seen ++ (done ++ q ∷ [])) ++ later =
      ap (λ (ps : List Posting). seen ++ given_postings_by enter seen ps) is ∙ ap (λ (ps : List Posting). seen ++ ps) (given-append enter seen xs (x ∷ rest) ∙ sym (append_assoc done (q ∷ []) later)) ∙ sym (append_assoc seen (done ++ q ∷ []) later) in
      false-from _ (λ fits. false≢true (sym range ∙ fits-first (moved (seen ++ (done ++ q ∷ []))) (moved later)
      (ap turnover_fits (sym (flat_map-append moved_by (seen ++ (done ++ q ∷ [])) later) ∙ ap moved (sym whole)) ∙ fits)))
