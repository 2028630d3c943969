-- Assignments that have the amounts that they are to have were made by what accounts held before their transaction.
use Rattle.std.proofs.Common.{◌≡◌, ℕ, Bool, true, false, ◌&&◌, ◌||◌, not, List, [], ◌∷◌, ◌++◌, length, filter, Option, Some, None, is_some, is_none, refl, sym, ap, subst, ◌∙◌}
use Rattle.std.specs.List.{AllByRecursion, list_any}
use Rattle.std.proofs.lemmas.Bool.{false≢true}
use Rattle.book.specs.SumsBefore.{Place, is_assigned, placed_in}
use Rattle.book.specs.declared.amount.Amount.{Amount}
use Rattle.book.specs.declared.amount.Assertion.{Assertion}
use Rattle.book.specs.declared.transaction.Posting.{Posting}
use Rattle.book.specs.declared.transaction.Txn.{Txn}
use Rattle.entry_balance.specs.Entry.{costed_posting, has_assignment, is_assignment, plain_amount, recorded_cost, solved, solved_posting}
use Rattle.assertions.specs.Assertions.{held_by}
use Rattle.balancing.specs.Assigned.{assigned_posting}
use Rattle.balancing.specs.Solves.{AreMade, HaveFew, IsAssignedAt, IsMadeBy, amount_at}
use Rattle.balancing.proofs.SolvingMade.{AreUnmarked, alike_assigned, costed_alike}
use Rattle.balancing.proofs.SolvingSeen.{EachAfter}
use Rattle.balancing.proofs.SolvingTxn.{none_made}
use Rattle.entry_check.specs.Checked.{Others, Told, assigned_after, made_posting, made_postings}
use Rattle.placed_checks.specs.Placed.{AreRight}
use Rattle.placed_checks.proofs.Assigning.{AssignedNow, LeaveSame, alike_held, amount_same, costed_of, early_there, same_amount, same_missing, same_more, solved_by, there}
use Rattle.placed_checks.proofs.Lists.{all_rest}
use Rattle.placed_checks.proofs.Own.{IsOnDay, early, early_place, entry_at, is_late, late_by, place_at}
use Rattle.placed_checks.proofs.Refusing.{each_after}
use Rattle.placed_checks.proofs.Written.{none_to_make}

module _ (all : List Posting) where
  back_step : (told : Told) (w q : Posting) (ws qs : List Posting) (done done0 : List Posting) (oa : Option Amount) (ow : Option Assertion) → w.amount ≡ oa → w.wanted ≡ ow → LeaveSame done done0 → IsMadeBy oa ow w q →
      ((done done0 : List Posting) → LeaveSame done done0 → EachAfter (AssignedNow told) done (there all qs) → qs ≡ made_postings told done0 ws) →
      EachAfter (AssignedNow told) done (there all (q ∷ qs)) → q ∷ qs ≡ made_posting told done0 w oa ow ∷ made_postings told (done0 ++ made_posting told done0 w oa ow ∷ []) ws
  back_step told w q ws qs done done0 (Some a) ow ea ew same is rest h =
      let c = costed_posting (recorded_cost all) w in
      let alike = costed_alike (recorded_cost all) w in
      let here = subst (λ (o : Option Amount). EachAfter (AssignedNow told) done (costed_of all w o ++ there all qs)) ea (subst (λ (x : Posting). EachAfter (AssignedNow told) done (costed_of all x x.amount ++ there all qs)) is h) in
      let tail = rest (done ++ c ∷ []) (done0 ++ w ∷ []) (same_more done done0 c w same (λ below root. alike_held below root c w alike)) here.1 in
      λ i. is i ∷ tail i
  back_step told w q ws qs done done0 None None ea ew same is rest h =
      let here = subst (λ (o : Option Amount). EachAfter (AssignedNow told) done (costed_of all w o ++ there all qs)) ea (subst (λ (x : Posting). EachAfter (AssignedNow told) done (costed_of all x x.amount ++ there all qs)) is h) in
      let tail = rest done (done0 ++ w ∷ []) (same_missing done done0 w same ea) here in
      λ i. is i ∷ tail i
  back_step told w q ws qs done done0 None (Some wanted) ea ew same is rest h =
      let p = assigned_posting w is.0 in
      let c = costed_posting (recorded_cost all) p in
      let alike = costed_alike (recorded_cost all) p in
      let here : AssignedNow told done c × EachAfter (AssignedNow told) (done ++ c ∷ []) (there all qs) = subst (λ (x : Posting). EachAfter (AssignedNow told) done (costed_of all x x.amount ++ there all qs)) is.1 h in
      let assigned : is_assigned c ≡ true = alike_assigned c p alike ∙ ap is_some ew in
      let amount : Some (plain_amount is.0) ≡ Some (plain_amount (assigned_after told done0 w wanted)) = sym alike.amount ∙ here.0 assigned ∙ amount_same told done done0 c w c.wanted wanted (alike.wanted ∙ ew) same alike.account in
      let first : q ≡ assigned_posting w (assigned_after told done0 w wanted) = is.1 ∙ ap (λ (o : Option Amount). let made : Posting = record w { amount = o; cost = None; filled = true; costed = false } in made) amount in
      let tail = rest (done ++ c ∷ []) (done0 ++ assigned_posting w (assigned_after told done0 w wanted) ∷ [])
      (same_more done done0 c (assigned_posting w (assigned_after told done0 w wanted)) same (λ below root. alike_held below root c p alike ∙ ap (λ (x : Posting). held_by below root x) (sym is.1 ∙ first))) here.1 in
      λ i. first i ∷ tail i

  pub made_back : (told : Told) (ws qs : List Posting) → AreMade ws qs → (done done0 : List Posting) → LeaveSame done done0 → EachAfter (AssignedNow told) done (there all qs) → qs ≡ made_postings told done0 ws
  made_back told [] [] made done done0 same h = refl
  made_back told [] (q ∷ qs) made done done0 same h = absurd made
  made_back told (w ∷ ws) [] made done done0 same h = absurd made
  made_back told (w ∷ ws) (q ∷ qs) made done done0 same h = back_step told w q ws qs done done0 w.amount w.wanted refl refl same made.0 (made_back told ws qs made.1) h

  -- ---- where nothing was assigned, nothing was to be

  any_parts : (xs ys : List Posting) → list_any is_assigned (xs ++ ys) ≡ (list_any is_assigned xs || list_any is_assigned ys)
  any_parts [] ys = refl
  any_parts (x ∷ xs) ys = ap (λ (b : Bool). is_assigned x || b) (any_parts xs ys) ∙ assoc (is_assigned x) (list_any is_assigned xs) (list_any is_assigned ys)
    where
      assoc : (a b c : Bool) → (a || (b || c)) ≡ ((a || b) || c)
      assoc true b c = refl
      assoc false b c = refl

  or_right : (a b : Bool) → b ≡ true → (a || b) ≡ true
  or_right true b h = refl
  or_right false b h = h

  assigned_there : (a : Option Amount) (o : Option Assertion) (w q : Posting) → w.wanted ≡ o → IsMadeBy a o w q → (is_none a && is_some o) ≡ true → list_any is_assigned (solved_posting all q q.amount) ≡ true
  assigned_there (Some a) o w q e is h = absurd (false≢true h)
  assigned_there None None w q e is h = absurd (false≢true h)
  assigned_there None (Some x) w q e is h =
      let p = assigned_posting w is.0 in
      let alike = costed_alike (recorded_cost all) p in
      subst (λ (q : Posting). list_any is_assigned (solved_posting all q q.amount) ≡ true) (sym is.1)
      (ap (λ (b : Bool). b || false) (alike_assigned (costed_posting (recorded_cost all) p) p alike ∙ ap is_some e))

  has_assigned : (ws qs : List Posting) → AreMade ws qs → has_assignment ws ≡ true → list_any is_assigned (solved_by all qs) ≡ true
  has_assigned [] qs made h = absurd (false≢true h)
  has_assigned (w ∷ ws) [] made h = absurd made
  has_assigned (w ∷ ws) (q ∷ qs) made h =
      any_parts (solved_posting all q q.amount) (solved_by all qs)
      ∙ elim (is_assignment w) as (λ b. is_assignment w ≡ b → (b || has_assignment ws) ≡ true → (list_any is_assigned (solved_posting all q q.amount) || list_any is_assigned (solved_by all qs)) ≡ true) [
        | true ↦ λ e _. ap (λ (b : Bool). b || list_any is_assigned (solved_by all qs)) (assigned_there w.amount w.wanted w q refl made.0 e)
        | false ↦ λ e rest. or_right (list_any is_assigned (solved_posting all q q.amount)) (list_any is_assigned (solved_by all qs)) (has_assigned ws qs made.1 rest)
      ] refl h

-- none of what is made is late
not_late : (p q : Posting) (a : Option Amount) (o : Option Assertion) → p.wanted ≡ o → p.filled ≡ false → IsMadeBy a o p q → late_by true q ≡ false
not_late p q (Some a) o e h is = ap (late_by true) is ∙ ap (λ (b : Bool). true && b && not (is_some p.wanted)) h
not_late p q None None e h is = ap (late_by true) is ∙ ap (λ (b : Bool). true && b && not (is_some p.wanted)) h
not_late p q None (Some w) e h is = ap (late_by true) is.1 ∙ ap (λ (x : Option Assertion). true && true && not (is_some x)) e

none_late : (ws qs : List Posting) → AreUnmarked ws → AreMade ws qs → AllByRecursion (λ q. late_by true q ≡ false) qs
none_late [] [] h made = tt
none_late [] (q ∷ qs) h made = absurd made
none_late (w ∷ ws) [] h made = absurd made
none_late (w ∷ ws) (q ∷ qs) h made = (not_late w q w.amount w.wanted refl h.0 made.0, none_late ws qs h.1 made.1)

is_false : (b : Bool) → (b ≡ true → ⊥) → b ≡ false
is_false true h = absurd (h refl)
is_false false h = refl

again_by : (told : Told) (ws qs : List Posting) → AreUnmarked ws → AreMade ws qs → (b : Bool) (ps : List Posting) → list_any is_assigned ps ≡ b → ps ≡ solved qs → EachAfter (AssignedNow told) [] (filter (λ p. not (late_by b p)) ps) → qs ≡ made_postings told [] ws
again_by told ws qs unmarked made true ps e is h =
    let same : filter (λ p. not (late_by true p)) ps ≡ there qs qs = ap (filter (λ p. not (late_by true p))) is ∙ early_there qs qs (none_late ws qs unmarked made) in
    made_back qs told ws qs made [] [] (λ below root. refl) (subst (EachAfter (AssignedNow told) []) same h)
again_by told ws qs unmarked made false ps e is h =
    let none : has_assignment ws ≡ false = is_false (has_assignment ws) (λ has. false≢true (sym e ∙ ap (list_any is_assigned) is ∙ has_assigned qs ws qs made has)) in
    none_made ws qs made none ∙ sym (none_to_make told ws none [])

-- what is made is what is made by what accounts hold
pub made_again : (told : Told) (ws qs : List Posting) (t : Txn) → AreUnmarked ws → AreMade ws qs → t.postings ≡ solved qs → EachAfter (AssignedNow told) [] (early t t.postings) → qs ≡ made_postings told [] ws
made_again told ws qs t unmarked made is h = again_by told ws qs unmarked made (list_any is_assigned t.postings) t.postings refl is h

-- ---- in a book

module _ (told : Told) (others : Others) (book front back : List Txn) (t : Txn) (n : ℕ) (is : book ≡ front ++ t ∷ back) (long : length front ≡ n) (days : AllByRecursion (IsOnDay t) t.postings)
    (few : HaveFew book) (right : AreRight told others book (place_at t n 0)) where
  early_now : (k : ℕ) (xs ys : List Posting) (p : Posting) → t.postings ≡ xs ++ p ∷ ys → length xs ≡ k → is_late t p ≡ false → IsAssignedAt book (entry_at t n k p) → AssignedNow told (early t xs) p
  early_now k xs ys p split count e h assigned =
      let on : IsOnDay t p = (all_rest (IsOnDay t) xs (p ∷ ys) (subst (AllByRecursion (IsOnDay t)) split days)).0 in
      h assigned
      ∙ ap (λ (place : Place). amount_at book place p p.wanted) (early_place t n k p on e)
      ∙ sym (same_amount told others book front back t n is long days few right p p.wanted xs (p ∷ ys) k split count)

  pub each_now : AllByRecursion (IsAssignedAt book) (placed_in t n 0 t.postings) → EachAfter (AssignedNow told) [] (early t t.postings)
  each_now h = each_after t n (AssignedNow told) (IsAssignedAt book) early_now 0 [] t.postings refl refl h
