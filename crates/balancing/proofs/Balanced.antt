-- What assertions of a group's postings come to, one after another.
use Rattle.std.proofs.Common.{◌≡◌, ℕ, zero, suc, ◌+◌, ◌<◌, ◌≤◌, Bool, true, false, cond, List, [], ◌∷◌, ◌++◌, length, get_or, take, drop, filter, Option, Some, None, is_some, refl, sym, ap, ◌∙◌, subst, arith, add-one, drop-cons}
use Rattle.std.specs.List.{list_all, list_any, slice_get}
use Rattle.book.specs.SumsBefore.{is_assigned}
use Rattle.balancing.specs.declared.groups.Part.{Part}
use Rattle.balancing.specs.declared.groups.Part.TheVariants as part
use Rattle.balancing.proofs.Parts.{failure-append}
use Rattle.std.proofs.lemmas.Bool.{false≢true}
use Rattle.std.proofs.lemmas.Grind.{flat_map-append}
use Rattle.std.proofs.lemmas.List.{append-nil, append_assoc, take_more}
use Rattle.book.specs.Entries.{held}
use Rattle.book.specs.declared.amount.Assertion.{Assertion}
use Rattle.book.specs.declared.fault.Fault.{Fault}
use Rattle.book.specs.declared.transaction.Posting.{Posting}
use Rattle.book.specs.declared.transaction.Txn.{Txn}
use Rattle.entry_balance.specs.Values.{Value}
use Rattle.entry_balance.specs.Tally.{turnover_fits}
use Rattle.entry_balance.specs.Entry.{moved, moved_by}
use Rattle.entry_balance.proofs.Adding.{false-from, take_past}
use Rattle.entry_balance.proofs.Turnover.{fits-first}
use Rattle.entry_balance.proofs.Named.{left_true, right_true}
use Rattle.assertions.specs.Assertions.{failure_of, first_failure, or_else_fault}
use Rattle.balancing.specs.Parts.{is_chosen, part_on}
use Rattle.assertions.specs.Claims.{IsClaimed}
use Rattle.balancing.specs.Claims.{AreClaimed, IsReached}
use Rattle.assertions.specs.Kept.{Keeping, IsKept, IsBalance, keeps, is_asked, is_asked_by, are_asked}
use Rattle.balancing.specs.Walk.{group_in}
use Rattle.assertions.proofs.Keeping.{kept_none}

-- ---- where nothing is asked for

keeps_not : (values : List ℕ → List Value) (k : Keeping) (a : List ℕ) → IsKept values k → k.0 ≡ [] → keeps a k ≡ true → ⊥
keeps_not values k a kept none h = by (held a k.1) refl h
  where
    by : (o : Option ℕ) → held a k.1 ≡ o → is_some o ≡ true → ⊥
    by None e h = false≢true h
    by (Some j) e h = let less = kept.within a j e in omega (arith, less, ap length none)

unasked : (seen : List Posting) (own below : Keeping) → IsBalance seen own below → own.0 ≡ [] → below.0 ≡ [] → (a : List ℕ) (o : Option Assertion) → is_asked_by own below a o ≡ true → o ≡ None
unasked seen own below h none_own none_below a None e = refl
unasked seen own below h none_own none_below a (Some w) e = absurd (by w.below e)
  where
    by : (b : Bool) → cond b (keeps a below) (keeps a own) ≡ true → ⊥
    by true e = keeps_not _ below a h.under none_below e
    by false e = keeps_not _ own a h.alone none_own e

pub none_fail : (f : Posting → Bool) (seen : List Posting) (own below : Keeping) → IsBalance seen own below → own.0 ≡ [] → below.0 ≡ [] → (ps before : List Posting) → list_all (is_asked own below) ps ≡ true → first_failure before (filter f ps) ≡ None
none_fail f seen own below h none_own none_below [] before e = refl
none_fail f seen own below h none_own none_below (p ∷ ps) before e =
    let rest : (b : List Posting) → first_failure b (filter f ps) ≡ None = λ b. none_fail f seen own below h none_own none_below ps b (right_true (is_asked own below p) (list_all (is_asked own below) ps) e) in
    let mine = unasked seen own below h none_own none_below p.account p.wanted (left_true (is_asked own below p) (list_all (is_asked own below) ps) e) in
    elim (f p) as (λ b. first_failure before (cond b (p ∷ filter f ps) (filter f ps)) ≡ None) [
      | true ↦ ap (λ (o : Option Assertion). or_else_fault (failure_of (before ++ p ∷ []) p o) (first_failure (before ++ p ∷ []) (filter f ps))) mine ∙ rest (before ++ p ∷ [])
      | false ↦ rest before
    ]

pub balance_any : (seen seen' : List Posting) (own below : Keeping) → own.0 ≡ [] → below.0 ≡ [] → IsBalance seen own below → IsBalance seen' own below
balance_any seen seen' own below none_own none_below h = record {
  alone = kept_none _ _ own none_own h.alone;
  under = kept_none _ _ below none_below h.under;
}

-- ---- one posting of a group after another

pub filter-append : {X : Type 0} (f : X → Bool) (xs ys : List X) → filter f (xs ++ ys) ≡ filter f xs ++ filter f ys
filter-append f [] ys = refl
filter-append f (x ∷ xs) ys = elim (f x) as (λ b. cond b (x ∷ filter f (xs ++ ys)) (filter f (xs ++ ys)) ≡ cond b (x ∷ filter f xs) (filter f xs) ++ filter f ys) [
  | true ↦ ap (λ zs. x ∷ zs) (filter-append f xs ys)
  | false ↦ filter-append f xs ys
]

pub take_drop : {X : Type 0} (xs : List X) (i : ℕ) → take i xs ++ drop i xs ≡ xs
take_drop xs zero = refl
take_drop [] (suc i) = refl
take_drop (x ∷ xs) (suc i) = ap (λ ys. x ∷ ys) (take_drop xs i)

pub reached_none : (seen : List Posting) (f : Posting → Bool) (ps : List Posting) (own below : Keeping) → IsBalance seen own below → IsReached seen f ps 0 own below
reached_none seen f ps own below h = record {
  rest = ap (λ (s : List Posting). first_failure s (filter f ps)) (sym (append-nil seen));
  kept = subst (λ (s : List Posting). IsBalance s own below) (sym (append-nil seen)) h;
}

module _ (seen : List Posting) (f : Posting → Bool) (ps : List Posting) (i : ℕ) (p : Posting) (less : i < length ps) (is : p ≡ get_or ps i p) where
  abbrev so_far : List Posting
  so_far = seen ++ filter f (take i ps)

  abbrev later : List Posting
  later = filter f (drop (i + 1) ps)

  more_by : (b : Bool) → f p ≡ b → filter f (take (i + 1) ps) ≡ filter f (take i ps) ++ cond b (p ∷ []) []
  more_by b e = ap (filter f) (take_more ps i p less ∙ ap (λ (y : Posting). take i ps ++ y ∷ []) (sym is)) ∙ filter-append f (take i ps) (p ∷ []) ∙ ap (λ (t : Bool). filter f (take i ps) ++ cond t (p ∷ []) []) e

  left_by : (b : Bool) → f p ≡ b → filter f (drop i ps) ≡ cond b (p ∷ later) later
  left_by b e =
      let cut : drop i ps ≡ get_or ps i p ∷ drop (i + 1) ps = rw (add-one, drop-cons ps i p) refl in
      ap (filter f) (cut ∙ ap (λ (y : Posting). y ∷ drop (i + 1) ps) (sym is)) ∙ ap (λ (t : Bool). cond t (p ∷ later) later) e

  so_far_next : f p ≡ true → so_far ++ p ∷ [] ≡ seen ++ filter f (take (i + 1) ps)
  so_far_next e = append_assoc seen (filter f (take i ps)) (p ∷ []) ∙ ap (λ (qs : List Posting). seen ++ qs) (sym (more_by true e))

  pub reached_skip : (own below : Keeping) → f p ≡ false → IsReached seen f ps i own below → IsReached seen f ps (i + 1) own below
  reached_skip own below e h =
      let same : so_far ≡ seen ++ filter f (take (i + 1) ps) = ap (λ (qs : List Posting). seen ++ qs) (sym (append-nil (filter f (take i ps))) ∙ sym (more_by false e)) in
      record {
        rest = h.rest ∙ (λ j. first_failure (same j) (left_by false e j));
        kept = subst (λ (s : List Posting). IsBalance s own below) same h.kept;
      }

  pub reached_more : (own below own' below' : Keeping) (fault : Option Fault) → f p ≡ true → IsReached seen f ps i own below → IsClaimed so_far p own' below' fault → fault ≡ None → IsReached seen f ps (i + 1) own' below'
  reached_more own below own' below' fault e h claimed none = record {
    rest = h.rest ∙ ap (first_failure so_far) (left_by true e) ∙ ap (λ (o : Option Fault). or_else_fault o (first_failure (so_far ++ p ∷ []) later)) (sym claimed.is ∙ none) ∙ ap (λ (s : List Posting). first_failure s later) (so_far_next e);
    kept = subst (λ (s : List Posting). IsBalance s own' below') (so_far_next e) claimed.kept;
  }

  pub reached_stop : (own below own' below' : Keeping) (fault : Fault) → f p ≡ true → IsReached seen f ps i own below → IsClaimed so_far p own' below' (Some fault) → AreClaimed seen (filter f ps) own' below' (Some fault)
  reached_stop own below own' below' fault e h claimed = record {
    is = sym (h.rest ∙ ap (first_failure so_far) (left_by true e) ∙ ap (λ (o : Option Fault). or_else_fault o (first_failure (so_far ++ p ∷ []) later)) (sym claimed.is));
    kept = λ none. absurd (let never : ⊥ = cc in never);
  }

  pub reached_range : f p ≡ true → turnover_fits (moved (so_far ++ p ∷ [])) ≡ false → turnover_fits (moved (seen ++ filter f ps)) ≡ false
  reached_range e range = false-from _ (λ fits. false≢true (sym range ∙ fits-first (moved (so_far ++ p ∷ [])) (moved later)
      (ap turnover_fits (sym (flat_map-append moved_by (so_far ++ p ∷ []) later)
      ∙ ap moved (append_assoc so_far (p ∷ []) later ∙ append_assoc seen (filter f (take i ps)) (p ∷ later) ∙ ap (λ (qs : List Posting). seen ++ qs) (ap (λ (qs : List Posting). filter f (take i ps) ++ qs) (sym (left_by true e)) ∙ sym (filter-append f (take i ps) (drop i ps)) ∙ ap (filter f) (take_drop ps i)))) ∙ fits)))

pub reached_end : (seen : List Posting) (f : Posting → Bool) (ps : List Posting) (i : ℕ) (own below : Keeping) → length ps ≤ i → IsReached seen f ps i own below → AreClaimed seen (filter f ps) own below None
reached_end seen f ps i own below more h = record {
  is = sym (h.rest ∙ ap (λ (qs : List Posting). first_failure (seen ++ filter f (take i ps)) (filter f qs)) (past ps i more));
  kept = λ none. subst (λ (qs : List Posting). IsBalance (seen ++ filter f qs) own below) (take_past ps i more) h.kept;
}
  where
    past : (qs : List Posting) (k : ℕ) → length qs ≤ k → drop k qs ≡ []
    past [] zero m = refl
    past [] (suc k) m = refl
    past (q ∷ qs) zero m = absurd (omega arith)
    past (q ∷ qs) (suc k) m = past qs k (omega arith)

pub drop_past : {X : Type 0} (xs : List X) (i : ℕ) → length xs ≤ i → drop i xs ≡ []
drop_past [] zero h = refl
drop_past [] (suc i) h = refl
drop_past (x ∷ xs) zero h = absurd (omega arith)
drop_past (x ∷ xs) (suc i) h = drop_past xs i (omega arith)

pub get-there : {X : Type 0} (xs : List X) (n : ℕ) (d : X) → n < length xs → d ≡ get_or xs n d → slice_get xs n ≡ Some d
get-there [] n d h is = absurd (omega arith)
get-there (x ∷ xs) zero d h is = ap Some (sym is)
get-there (x ∷ xs) (suc n) d h is = get-there xs n d (omega arith) is

get-past : {X : Type 0} (xs : List X) (n : ℕ) → length xs ≤ n → slice_get xs n ≡ None
get-past [] n h = refl
get-past (x ∷ xs) zero h = absurd (omega arith)
get-past (x ∷ xs) (suc n) h = get-past xs n (omega arith)

-- where nothing is asked for no assertion fails
pub empty_claimed : (txns : List Txn) (day n : ℕ) (seen : List Posting) (own below : Keeping) → IsBalance seen own below → own.0 ≡ [] → below.0 ≡ [] → are_asked own below txns ≡ true → AreClaimed seen (group_in day (slice_get txns n)) own below None
empty_claimed [] day n seen own below h none_own none_below asked = record { is = refl; kept = λ none. balance_any seen _ own below none_own none_below h }
empty_claimed (t ∷ txns) day zero seen own below h none_own none_below asked = record {
  is = sym (by (list_any is_assigned t.postings));
  kept = λ none. balance_any seen _ own below none_own none_below h;
}
  where
    none : (part : Part) (before : List Posting) → first_failure before (part_on part day t) ≡ None
    none part before = none_fail (is_chosen part day t) seen own below h none_own none_below t.postings before (left_true (list_all (is_asked own below) t.postings) (are_asked own below txns) asked)

    by : (b : Bool) → first_failure seen (cond b (part_on part.ButFound day t ++ part_on part.Found day t) (part_on part.All day t)) ≡ None
    by true = failure-append seen (part_on part.ButFound day t) (part_on part.Found day t) ∙ ap (λ (o : Option Fault). or_else_fault o (first_failure (seen ++ part_on part.ButFound day t) (part_on part.Found day t))) (none part.ButFound seen) ∙ none part.Found (seen ++ part_on part.ButFound day t)
    by false = none part.All seen
empty_claimed (t ∷ txns) day (suc n) seen own below h none_own none_below asked =
    empty_claimed txns day n seen own below h none_own none_below (right_true (list_all (is_asked own below) t.postings) (are_asked own below txns) asked)

-- a group of no transaction
pub past_claimed : (txns : List Txn) (day n : ℕ) (seen : List Posting) (own below : Keeping) → length txns ≤ n → IsBalance seen own below → AreClaimed seen (group_in day (slice_get txns n)) own below None
past_claimed txns day n seen own below past h = subst (λ (o : Option Txn). AreClaimed seen (group_in day o) own below None) (sym (get-past txns n past))
    (record { is = refl; kept = λ none. subst (λ (s : List Posting). IsBalance s own below) (sym (append-nil seen)) h })
