-- Assignments of a transaction that are made by what accounts held before it have the amounts that they are to have.
use Rattle.std.proofs.Common.{◌≡◌, ℕ, ℤ, Bool, true, false, cond, ◌&&◌, not, List, [], ◌∷◌, ◌++◌, length, filter, map, Option, Some, None, is_some, refl, sym, ap, subst, ◌∙◌}
use Rattle.std.specs.List.{AllByRecursion, flat_map, list_any}
use Rattle.std.proofs.lemmas.Bool.{false≢true, or_parts}
use Rattle.std.proofs.lemmas.Grind.{flat_map-append}
use Rattle.std.proofs.lemmas.List.{append-nil}
use Rattle.std.proofs.lemmas.List.Elements.{filter-append}
use Rattle.hl_num.specs.Decimal.{negated}
use Rattle.book.specs.Mixed.{plus}
use Rattle.book.specs.SumsBefore.{Place, is_assigned, placed_in}
use Rattle.book.specs.declared.amount.Amount.{Amount}
use Rattle.book.specs.declared.amount.Assertion.{Assertion}
use Rattle.book.specs.declared.transaction.Posting.{Posting}
use Rattle.book.specs.declared.transaction.Txn.{Txn}
use Rattle.entry_balance.specs.Entry.{costed_posting, found_posting, found_values, from_amount, plain_amount, recorded_cost, solved, solved_posting}
use Rattle.entry_balance.specs.Values.{Value, trimmed, value_of}
use Rattle.assertions.specs.Assertions.{counts_for, held_by, held_in}
use Rattle.balancing.specs.Assigned.{assigned_posting}
use Rattle.balancing.specs.Giving.{value_after}
use Rattle.balancing.specs.Solves.{HaveFew, IsAssignedAt, amount_at}
use Rattle.balancing.proofs.SolvingMade.{Alike, AreUnmarked, alike_assigned, costed_alike, unfilled}
use Rattle.balancing.proofs.SolvingSeen.{EachAfter}
use Rattle.entry_check.specs.Checked.{Others, Told, assigned_after, made_posting, made_postings}
use Rattle.placed_checks.specs.Placed.{AreRight}
use Rattle.placed_checks.proofs.Lists.{all_rest}
use Rattle.placed_checks.proofs.Ordered.{all_early, each_place, late_unassigned}
use Rattle.placed_checks.proofs.Own.{IsOnDay, early, early_place, entry_at, is_late, late_by, place_at}
use Rattle.placed_checks.proofs.Units.{same_units}

-- ---- what an assignment comes to after others

abbrev pub amount_now : Told → List Posting → Posting → Option Assertion → Option Amount
amount_now told done p None = None
amount_now told done p (Some w) = Some (plain_amount (assigned_after told done p w))

-- an assigned posting after others has the amount that it is assigned there
abbrev pub AssignedNow : Told → List Posting → Posting → Type 0
AssignedNow told done p = is_assigned p ≡ true → p.amount ≡ amount_now told done p p.wanted

pub unassigned_now : (told : Told) (done : List Posting) (p : Posting) → is_assigned p ≡ false → AssignedNow told done p
unassigned_now told done p h e = absurd (false≢true (sym h ∙ e))

pub none_assigned_now : (told : Told) (done ps : List Posting) → list_any is_assigned ps ≡ false → EachAfter (AssignedNow told) done ps
none_assigned_now told done [] h = tt
none_assigned_now told done (p ∷ ps) h =
    let both = or_parts (is_assigned p) (list_any is_assigned ps) h in
    (unassigned_now told done p both.0, none_assigned_now told (done ++ p ∷ []) ps both.1)

-- ---- a recorded cost changes no sum

abbrev pub LeaveSame : List Posting → List Posting → Type 0
LeaveSame xs ys = (below : Bool) (root : List ℕ) → held_in below root xs ≡ held_in below root ys

pub alike_held : (below : Bool) (root : List ℕ) (q p : Posting) → Alike q p → held_by below root q ≡ held_by below root p
alike_held below root q p a = λ i. cond (counts_for below root (a.account i)) (from_amount (λ a. value_of a ∷ []) (a.amount i)) []

held_more : (below : Bool) (root : List ℕ) (xs : List Posting) (p : Posting) → held_in below root (xs ++ p ∷ []) ≡ held_in below root xs ++ held_by below root p
held_more below root xs p = flat_map-append (held_by below root) xs (p ∷ []) ∙ ap (λ (vs : List Value). held_in below root xs ++ vs) (append-nil (held_by below root p))

pub same_more : (xs ys : List Posting) (q p : Posting) → LeaveSame xs ys → ((below : Bool) (root : List ℕ) → held_by below root q ≡ held_by below root p) → LeaveSame (xs ++ q ∷ []) (ys ++ p ∷ [])
same_more xs ys q p h k below root = held_more below root xs q ∙ (λ i. h below root i ++ k below root i) ∙ sym (held_more below root ys p)

nothing_held : (below : Bool) (root : List ℕ) (p : Posting) → p.amount ≡ None → held_by below root p ≡ []
nothing_held below root p e = ap (λ (o : Option Amount). cond (counts_for below root p.account) (from_amount (λ a. value_of a ∷ []) o) []) e ∙ none (counts_for below root p.account)
  where
    none : (b : Bool) → cond {A = List Value} b [] [] ≡ []
    none true = refl
    none false = refl

pub same_missing : (xs ys : List Posting) (p : Posting) → LeaveSame xs ys → p.amount ≡ None → LeaveSame xs (ys ++ p ∷ [])
same_missing xs ys p h e below root =
    h below root ∙ sym (append-nil (held_in below root ys)) ∙ ap (λ (vs : List Value). held_in below root ys ++ vs) (sym (nothing_held below root p e)) ∙ sym (held_more below root ys p)

abbrev assigned_by : Told → List ℕ → Assertion → List Value → Value
assigned_by told account w vs = (w.amount.symbol, value_after ((w.amount.symbol, told w.below account w.amount.symbol) ∷ vs) w.amount)

-- what an assignment comes to depends on what its account holds
after_same : (told : Told) (done done0 : List Posting) (q p : Posting) (w : Assertion) → LeaveSame done done0 → q.account ≡ p.account → assigned_after told done q w ≡ assigned_after told done0 p w
after_same told done done0 q p w h e =
    (λ i. assigned_by told (e i) w (held_in w.below (e i) done)) ∙ ap (λ (vs : List Value). assigned_by told p.account w vs) (h w.below p.account)

pub amount_same : (told : Told) (done done0 : List Posting) (q p : Posting) (o : Option Assertion) (w : Assertion) → o ≡ Some w → LeaveSame done done0 → q.account ≡ p.account → amount_now told done q o ≡ Some (plain_amount (assigned_after told done0 p w))
amount_same told done done0 q p o w is h e = ap (amount_now told done q) is ∙ ap (λ (v : Value). Some (plain_amount v)) (after_same told done done0 q p w h e)

-- ---- the postings that weren't missing

module _ (all : List Posting) where
  abbrev pub costed_of : Posting → Option Amount → List Posting
  costed_of p None = []
  costed_of p (Some a) = costed_posting (recorded_cost all) p ∷ []

  abbrev pub there : List Posting → List Posting
  there ps = flat_map (λ p. costed_of p p.amount) ps

  abbrev pub solved_by : List Posting → List Posting
  solved_by ps = flat_map (λ p. solved_posting all p p.amount) ps

  none_early : (p : Posting) (vs : List Value) → filter (λ q. not (late_by true q)) (map (found_posting p) vs) ≡ []
  none_early p [] = refl
  none_early p (v ∷ vs) = none_early p vs

  one_early : (p : Posting) (o : Option Amount) → late_by true p ≡ false → filter (λ q. not (late_by true q)) (solved_posting all p o) ≡ costed_of p o
  one_early p None h = none_early p (found_values p.side all)
  one_early p (Some a) h =
      let q = costed_posting (recorded_cost all) p in
      let alike = costed_alike (recorded_cost all) p in
      let same : late_by true q ≡ late_by true p = λ i. true && alike.filled i && not (is_some (alike.wanted i)) in
      ap (λ (b : Bool). cond (not b) (q ∷ []) []) (same ∙ h)

  pub early_there : (ps : List Posting) → AllByRecursion (λ p. late_by true p ≡ false) ps → filter (λ q. not (late_by true q)) (solved_by ps) ≡ there ps
  early_there [] h = refl
  early_there (p ∷ ps) h =
      filter-append (λ q. not (late_by true q)) (solved_posting all p p.amount) (solved_by ps)
      ∙ (λ i. one_early p p.amount h.0 i ++ early_there ps h.1 i)

  -- ---- assignments that are made one after another have the amounts that they are assigned there

  made_step : (told : Told) (w : Posting) (ws : List Posting) (done done0 : List Posting) (oa : Option Amount) (ow : Option Assertion) → w.amount ≡ oa → w.wanted ≡ ow → w.filled ≡ false → LeaveSame done done0 →
      ((done done0 : List Posting) → LeaveSame done done0 → EachAfter (AssignedNow told) done (there (made_postings told done0 ws))) →
      EachAfter (AssignedNow told) done (there (made_posting told done0 w oa ow ∷ made_postings told (done0 ++ made_posting told done0 w oa ow ∷ []) ws))
  made_step told w ws done done0 (Some a) ow ea ew unmarked same rest =
      let q = costed_posting (recorded_cost all) w in
      let alike = costed_alike (recorded_cost all) w in
      subst (λ (o : Option Amount). EachAfter (AssignedNow told) done (costed_of w o ++ there (made_postings told (done0 ++ w ∷ []) ws))) (sym ea) (
        unassigned_now told done q (alike_assigned q w alike ∙ unfilled w unmarked),
        rest (done ++ q ∷ []) (done0 ++ w ∷ []) (same_more done done0 q w same (λ below root. alike_held below root q w alike)),
      )
  made_step told w ws done done0 None None ea ew unmarked same rest =
      subst (λ (o : Option Amount). EachAfter (AssignedNow told) done (costed_of w o ++ there (made_postings told (done0 ++ w ∷ []) ws))) (sym ea)
      (rest done (done0 ++ w ∷ []) (same_missing done done0 w same ea))
  made_step told w ws done done0 None (Some wanted) ea ew unmarked same rest =
      let p = assigned_posting w (assigned_after told done0 w wanted) in
      let q = costed_posting (recorded_cost all) p in
      let alike = costed_alike (recorded_cost all) p in (
        (λ _. alike.amount ∙ sym (amount_same told done done0 q w q.wanted wanted (alike.wanted ∙ ew) same alike.account)),
        rest (done ++ q ∷ []) (done0 ++ p ∷ []) (same_more done done0 q p same (λ below root. alike_held below root q p alike)),
      )

  pub made_holds : (told : Told) (ws : List Posting) → AreUnmarked ws → (done done0 : List Posting) → LeaveSame done done0 → EachAfter (AssignedNow told) done (there (made_postings told done0 ws))
  made_holds told [] h done done0 same = tt
  made_holds told (w ∷ ws) h done done0 same = made_step told w ws done done0 w.amount w.wanted refl refl h.0 same (made_holds told ws h.1)

-- none of what is made is late
one_not_late : (told : Told) (done : List Posting) (p : Posting) (a : Option Amount) (o : Option Assertion) → p.wanted ≡ o → p.filled ≡ false → late_by true (made_posting told done p a o) ≡ false
one_not_late told done p (Some a) o e h = ap (λ (b : Bool). true && b && not (is_some p.wanted)) h
one_not_late told done p None None e h = ap (λ (b : Bool). true && b && not (is_some p.wanted)) h
one_not_late told done p None (Some w) e h = ap (λ (x : Option Assertion). true && true && not (is_some x)) e

pub none_late : (told : Told) (ps : List Posting) → AreUnmarked ps → (done : List Posting) → AllByRecursion (λ p. late_by true p ≡ false) (made_postings told done ps)
none_late told [] h done = tt
none_late told (p ∷ ps) h done =
    (one_not_late told done p p.amount p.wanted refl h.0, none_late told ps h.1 (done ++ made_posting told done p p.amount p.wanted ∷ []))

early_by : (told : Told) (ws : List Posting) → AreUnmarked ws → (b : Bool) (ps : List Posting) → list_any is_assigned ps ≡ b → ps ≡ solved (made_postings told [] ws) → EachAfter (AssignedNow told) [] (filter (λ p. not (late_by b p)) ps)
early_by told ws unmarked true ps e is =
    let qs = made_postings told [] ws in
    let same : filter (λ p. not (late_by true p)) ps ≡ there qs qs = ap (filter (λ p. not (late_by true p))) is ∙ early_there qs qs (none_late told ws unmarked []) in
    subst (EachAfter (AssignedNow told) []) (sym same) (made_holds qs told ws unmarked [] [] (λ below root. refl))
early_by told ws unmarked false ps e is = subst (EachAfter (AssignedNow told) []) (sym (all_early ps)) (none_assigned_now told [] ps e)

-- in the transaction as it is solved each assigned amount is so after the postings before it
pub early_assigned : (told : Told) (ws : List Posting) (t : Txn) → AreUnmarked ws → t.postings ≡ solved (made_postings told [] ws) → EachAfter (AssignedNow told) [] (early t t.postings)
early_assigned told ws t unmarked is = early_by told ws unmarked (list_any is_assigned t.postings) t.postings refl is

-- ---- in a book

module _ (told : Told) (others : Others) (book front back : List Txn) (t : Txn) (n : ℕ) (is : book ≡ front ++ t ∷ back) (long : length front ≡ n) (days : AllByRecursion (IsOnDay t) t.postings)
    (few : HaveFew book) (right : AreRight told others book (place_at t n 0)) where
  -- it is what is wanted, less the sum at its place
  pub same_amount : (p : Posting) (o : Option Assertion) (xs ys : List Posting) (m : ℕ) → t.postings ≡ xs ++ ys → length xs ≡ m → amount_now told (early t xs) p o ≡ amount_at book (place_at t n m) p o
  same_amount p None xs ys m split count = refl
  same_amount p (Some w) xs ys m split count =
      ap (λ (z : ℤ). Some (plain_amount (w.amount.symbol, plus w.amount.value (negated (trimmed z 36)))))
      (sym (same_units told others book front back t n is long days few right p.account w.amount.symbol w.below xs ys m split count))

  early_is : (k : ℕ) (xs ys : List Posting) (p : Posting) → t.postings ≡ xs ++ p ∷ ys → length xs ≡ k → is_late t p ≡ false → AssignedNow told (early t xs) p → IsAssignedAt book (entry_at t n k p)
  early_is k xs ys p split count e h assigned =
      let on : IsOnDay t p = (all_rest (IsOnDay t) xs (p ∷ ys) (subst (AllByRecursion (IsOnDay t)) split days)).0 in
      h assigned ∙ same_amount p p.wanted xs (p ∷ ys) k split count
      ∙ ap (λ (place : Place). amount_at book place p p.wanted) (sym (early_place t n k p on e))

  late_is : (k : ℕ) (p : Posting) → is_late t p ≡ true → IsAssignedAt book (entry_at t n k p)
  late_is k p e assigned = absurd (false≢true (sym (late_unassigned t p e) ∙ assigned))

  pub all_assigned : EachAfter (AssignedNow told) [] (early t t.postings) → AllByRecursion (IsAssignedAt book) (placed_in t n 0 t.postings)
  all_assigned h = each_place t n (AssignedNow told) (IsAssignedAt book) early_is late_is 0 [] t.postings refl refl h
