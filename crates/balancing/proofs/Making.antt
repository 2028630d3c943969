-- The assignments of a group's transaction, made or not.
use Rattle.std.proofs.Common.{◌≡◌, ℕ, zero, suc, ◌<◌, ◌≤◌, true, false, not, List, [], ◌∷◌, ◌++◌, length, get_or, set, Option, Some, None, ◌⊎◌, inl, inr, refl, sym, ap, ◌∙◌, subst, arith}
use Rattle.std.specs.List.{slice_get, list_all}
use Rattle.std.proofs.lemmas.Bool.{false≢true}
use Rattle.hl_num.specs.Decimal.{Decimal}
use Rattle.book.specs.declared.fault.Cause.{Cause}
use Rattle.book.specs.declared.fault.Cause.TheVariants as cause
use Rattle.book.specs.declared.fault.Fault.{Fault}
use Rattle.book.specs.declared.transaction.Posting.{Posting}
use Rattle.book.specs.declared.transaction.Txn.{Txn}
use Rattle.entry_balance.specs.Entry.{is_assignable, moved, with_postings}
use Rattle.entry_balance.specs.Settled.{AreSettled, IsSettled}
use Rattle.entry_balance.specs.Tally.{turnover_fits}
use Rattle.entry_balance.proofs.Named.{left_true, right_true}
use Rattle.balancing.specs.Assigned.{given_by, given_postings_by, is_ready}
use Rattle.balancing.specs.Groups.{Group}
use Rattle.assertions.specs.Kept.{Keeping, is_asked, are_asked}
use Rattle.balancing.specs.Load.{fault_of_group}
use Rattle.balancing.specs.Walk.{IsGiven, IsOwn}
use Rattle.balancing.proofs.Given.{asked-next, assignable-is, assignable-written, settled-back, given_at-same_by, given_at-there, given_here_by, settled-set}
use Rattle.balancing.proofs.Ranged.{range_fault}
use Rattle.balancing.proofs.Walked.{settled-lengths, settled-at}

none-past : {X : Type 0} (xs : List X) (n : ℕ) → length xs ≤ n → slice_get xs n ≡ None
none-past [] n h = refl
none-past (x ∷ xs) zero h = absurd (omega arith)
none-past (x ∷ xs) (suc n) h = none-past xs n (omega arith)

some-same : (x y : Txn) → Some x ≡ Some y → x ≡ y
some-same x y h = let e : x ≡ y = cc in e

pub there-at : (x : Txn) (ts : List Txn) (n : ℕ) → n < length ts → x ≡ get_or ts n x → slice_get ts n ≡ Some x
there-at x [] n less is = absurd (omega arith)
there-at x (t ∷ ts) zero less is = ap Some (sym is)
there-at x (t ∷ ts) (suc n) less is = there-at x ts n (omega arith) is

pub asked-at : (own below : Keeping) (ts : List Txn) (n : ℕ) (t : Txn) → slice_get ts n ≡ Some t → are_asked own below ts ≡ true → list_all (is_asked own below) t.postings ≡ true
asked-at own below [] n t at asked = absurd (let never : ⊥ = cc in never)
asked-at own below (x ∷ ts) zero t at asked = ap (λ (y : Txn). list_all (is_asked own below) y.postings) (sym (some-same x t at)) ∙ left_true (list_all (is_asked own below) x.postings) (are_asked own below ts) asked
asked-at own below (x ∷ ts) (suc n) t at asked = asked-at own below ts n t at (right_true (list_all (is_asked own below) x.postings) (are_asked own below ts) asked)

module _ (enter : Decimal → Decimal) (ws ts : List Txn) (cs : List (Option Cause)) (seen : List Posting) (g : Group) (own below : Keeping) (h : AreSettled ws ts cs) (asked : are_asked own below ts ≡ true) where
  same_given : is_ready (slice_get ws g.1) ≡ true → IsGiven enter ws seen g own below ts cs None
  same_given ready = record {
    settled = λ none. subst (λ (xs : List Txn). AreSettled xs ts cs) (sym (given_at-same_by enter seen g.1 ws ready)) h;
    asked = λ none. asked;
    range = λ some. absurd (false≢true some);
  }

  pub past_given : (length ts ≤ g.1) ⊎ (length cs ≤ g.1) → IsGiven enter ws seen g own below ts cs None
  past_given past = same_given (ap is_ready (none-past ws g.1 (by past)))
    where
      by : (length ts ≤ g.1) ⊎ (length cs ≤ g.1) → length ws ≤ g.1
      by (inl less) = omega (arith, less, (settled-lengths ws ts cs h).0)
      by (inr less) = omega (arith, less, (settled-lengths ws ts cs h).1)

  pub kept_given : (t : Txn) → g.1 < length ts → t ≡ get_or ts g.1 t → is_assignable t.postings ≡ false → IsGiven enter ws seen g own below ts cs None
  kept_given t less is ready =
      let at = settled-at ws ts cs h g.1 t None less in
      same_given (ap is_ready at.1 ∙ ap not (assignable-written at.0 (get_or ts g.1 t) (get_or cs g.1 None) at.2 (ap (λ (x : Txn). is_assignable x.postings) (sym is) ∙ ready)))

  pub made_given : (t : Txn) (s : Txn) (c : Option Cause) → slice_get ts g.1 ≡ Some t → is_assignable t.postings ≡ true
      → IsSettled (with_postings t (given_postings_by enter seen t.postings)) s c → IsGiven enter ws seen g own below (set ts g.1 s) (set cs g.1 c) None
  made_given t s c at assignable made =
      let new = settled-set enter seen g.1 ws ts cs s c h (λ w there. subst (λ (x : Txn). IsSettled x s c) (written w there) made) in
      record {
        settled = λ none. new;
        asked = λ none. asked-next enter own below seen g.1 ws ts (set ts g.1 s) cs (set cs g.1 c) h new asked;
        range = λ some. absurd (false≢true some);
      }
    where
      written : (w : Txn) → slice_get ws g.1 ≡ Some w → with_postings t (given_postings_by enter seen t.postings) ≡ given_by enter seen w
      written w there =
          let back = settled-back ws ts cs h g.1 t at in
          let same : back.0 ≡ w = some-same back.0 w (sym back.1 ∙ there) in
          let is : t ≡ w = assignable-is back.0 t back.2.0 back.2.1 assignable ∙ same in
          subst (λ (x : Txn). with_postings x (given_postings_by enter seen x.postings) ≡ given_by enter seen w) (sym is) (sym (given_here_by enter seen w (subst (λ (x : Txn). is_assignable x.postings ≡ true) is assignable)))

  pub ranged_given : (t : Txn) (fault : Fault) (ts' : List Txn) (cs' : List (Option Cause)) → slice_get ts g.1 ≡ Some t → is_assignable t.postings ≡ true → IsOwn g.0 (slice_get ws g.1)
      → turnover_fits (moved (seen ++ given_postings_by enter seen t.postings)) ≡ false → fault ≡ record { line = t.line; cause = cause.Range } → IsGiven enter ws seen g own below ts' cs' (Some fault)
  ranged_given t fault ts' cs' at assignable day range is = record {
    settled = λ none. absurd (let never : ⊥ = cc in never);
    asked = λ none. absurd (let never : ⊥ = cc in never);
    range = λ some.
        let back = settled-back ws ts cs h g.1 t at in
        let same : t ≡ back.0 = assignable-is back.0 t back.2.0 back.2.1 assignable in
        let mine : is_assignable back.0.postings ≡ true = subst (λ (x : Txn). is_assignable x.postings ≡ true) same assignable in
        let own_day : back.0.day.0 ≡ g.0 = subst (IsOwn g.0) back.1 day mine in
        let out : turnover_fits (moved (seen ++ given_postings_by enter seen back.0.postings)) ≡ false = subst (λ (x : Txn). turnover_fits (moved (seen ++ given_postings_by enter seen x.postings)) ≡ false) same range in
        ap (λ (f : Fault). Some f) (is ∙ ap (λ (x : Txn). record { line = x.line; cause = cause.Range }) same)
        ∙ sym (ap (fault_of_group (moved seen) g.0) (given_at-there enter seen g.1 ws back.0 back.1) ∙ range_fault enter seen back.0 g.0 mine own_day out);
  }
