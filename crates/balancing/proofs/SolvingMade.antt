-- The assignments of one transaction: made one after another, or each right after those before it.
use Rattle.std.proofs.Common.{◌≡◌, ℕ, Bool, true, false, cond, ◌&&◌, not, eqb, List, [], ◌∷◌, ◌++◌, map, filter, Option, Some, None, is_some, is_none, refl, sym, ap, ◌∙◌, subst}
use Rattle.std.specs.Prelude.{unwrap_or}
use Rattle.std.specs.List.{flat_map, AllByRecursion}
use Rattle.hl_num.specs.Decimal.{Decimal, negated}
use Rattle.book.specs.Mixed.{plus}
use Rattle.entry_balance.specs.Tally.{total_of}
use Rattle.book.specs.declared.amount.Cost.TheVariants.{Total}
use Rattle.std.proofs.lemmas.Bool.{false≢true}
use Rattle.std.proofs.lemmas.Bool.Decides.{Decides-eqb}
use Rattle.std.proofs.lemmas.List.{append-nil}
use Rattle.std.proofs.lemmas.List.Elements.{filter-append}
use Rattle.std.proofs.lemmas.Grind.{flat_map-append}
use Rattle.book.specs.declared.amount.Amount.{Amount}
use Rattle.book.specs.declared.amount.Assertion.{Assertion}
use Rattle.book.specs.declared.transaction.Posting.{Posting}
use Rattle.book.specs.declared.transaction.Txn.{Txn}
use Rattle.book.specs.SumsBefore.{is_assigned}
use Rattle.entry_balance.specs.Values.{Value, value_of}
use Rattle.entry_balance.specs.Entry.{from_amount, plain_amount, is_real_of, found_posting, found_values, costed_posting, recorded_cost, solved_posting}
use Rattle.balancing.specs.declared.groups.Part.TheVariants.{ButFound}
use Rattle.balancing.specs.Groups.{day_of}
use Rattle.assertions.specs.Assertions.{counts_for, held_by, held_in}
use Rattle.balancing.specs.Parts.{is_found, is_chosen}
use Rattle.balancing.specs.Assigned.{assigned_value_by, assigned_posting, given_posting_by, given_postings_by}
use Rattle.balancing.specs.Solves.{IsMadeBy, AreMade}
use Rattle.balancing.proofs.SolvingSeen.{EachAfter}

module _ (enter : Decimal → Decimal) where
  abbrev pub amount_after : List Posting → Posting → Option Assertion → Option Amount
  amount_after seen p None = None
  amount_after seen p (Some w) = Some (plain_amount (assigned_value_by enter seen p w))

  -- an assigned posting after others has the amount that it is assigned there
  abbrev pub AssignedAfter : List Posting → Posting → Type 0
  AssignedAfter seen p = is_assigned p ≡ true → p.amount ≡ amount_after seen p p.wanted

-- ---- a recorded cost changes a cost alone

abbrev Cost : Type 0
Cost = Option (List ℕ × Value)

pub record Alike (q p : Posting) : Type 0 where
  pub filled : q.filled ≡ p.filled
  pub wanted : q.wanted ≡ p.wanted
  pub amount : q.amount ≡ p.amount
  pub account : q.account ≡ p.account
  pub day : q.day ≡ p.day

abbrev costed_at : List ℕ × Value → Posting → Posting
costed_at c p = record p { cost = Some (Total (plain_amount c.1)); costed = true }

pub costed_alike : (c : Cost) (p : Posting) → Alike (costed_posting c p) p
costed_alike None p = record { filled = refl; wanted = refl; amount = refl; account = refl; day = refl }
costed_alike (Some c) p =
    elim (is_real_of c.0 p && is_none p.cost) as (λ b. Alike (cond b (costed_at c p) p) p) [
      | true ↦ record { filled = refl; wanted = refl; amount = refl; account = refl; day = refl }
      | false ↦ record { filled = refl; wanted = refl; amount = refl; account = refl; day = refl }
    ]

alike_found : (q p : Posting) → Alike q p → is_found q ≡ is_found p
alike_found q p a = λ i. a.filled i && is_none (a.wanted i)

pub alike_assigned : (q p : Posting) → Alike q p → is_assigned q ≡ is_assigned p
alike_assigned q p a = λ i. a.filled i && is_some (a.wanted i)

alike_held : (below : Bool) (root : List ℕ) (q p : Posting) → Alike q p → held_by below root q ≡ held_by below root p
alike_held below root q p a = λ i. cond (counts_for below root (a.account i)) (from_amount (λ a. value_of a ∷ []) (a.amount i)) []

-- ---- the postings that aren't missing

module _ (ps0 : List Posting) where
  abbrev costed_if : Posting → Option Amount → List Posting
  costed_if p None = []
  costed_if p (Some a) = costed_posting (recorded_cost ps0) p ∷ []

  abbrev pub there : List Posting → List Posting
  there ps = flat_map (λ p. costed_if p p.amount) ps

  abbrev pub solved_by : List Posting → List Posting
  solved_by ps = flat_map (λ p. solved_posting ps0 p p.amount) ps

  and_false : (b : Bool) → (b && false) ≡ false
  and_false true = refl
  and_false false = refl

  module _ (T : Txn) (day : ℕ) where
    none_chosen : (p : Posting) (vs : List Value) → filter (is_chosen ButFound day T) (map (found_posting p) vs) ≡ []
    none_chosen p [] = refl
    none_chosen p (v ∷ vs) =
        ap (λ (b : Bool). cond b (found_posting p v ∷ filter (is_chosen ButFound day T) (map (found_posting p) vs)) (filter (is_chosen ButFound day T) (map (found_posting p) vs))) (and_false (eqb (day_of T (found_posting p v)) day))
        ∙ none_chosen p vs

    one_chosen : (p : Posting) (o : Option Amount) → day_of T p ≡ day → is_found p ≡ false → filter (is_chosen ButFound day T) (solved_posting ps0 p o) ≡ costed_if p o
    one_chosen p None on h = none_chosen p (found_values p.side ps0)
    one_chosen p (Some a) on h =
        let q = costed_posting (recorded_cost ps0) p in
        let alike = costed_alike (recorded_cost ps0) p in
        let same_day : day_of T q ≡ day = (λ i. (unwrap_or (alike.day i) T.day).0) ∙ on in
        let chosen : is_chosen ButFound day T q ≡ true = λ i. ((Decides-eqb (day_of T q) day).1 same_day i) && not ((alike_found q p alike ∙ h) i) in
        ap (λ (b : Bool). cond b (q ∷ []) []) chosen

    pub all_chosen : (ps : List Posting) → AllByRecursion (λ p. day_of T p ≡ day) ps → AllByRecursion (λ p. is_found p ≡ false) ps → filter (is_chosen ButFound day T) (solved_by ps) ≡ there ps
    all_chosen [] on h = refl
    all_chosen (p ∷ ps) on h =
        filter-append (is_chosen ButFound day T) (solved_posting ps0 p p.amount) (solved_by ps)
        ∙ (λ i. one_chosen p p.amount on.0 h.0 i ++ all_chosen ps on.1 h.1 i)

-- two lists of postings leave every account with the same
abbrev pub LeaveSame : List Posting → List Posting → Type 0
LeaveSame xs ys = (below : Bool) (root : List ℕ) → held_in below root xs ≡ held_in below root ys

held_more : (below : Bool) (root : List ℕ) (xs : List Posting) (p : Posting) → held_in below root (xs ++ p ∷ []) ≡ held_in below root xs ++ held_by below root p
held_more below root xs p = flat_map-append (held_by below root) xs (p ∷ []) ∙ ap (λ (vs : List Value). held_in below root xs ++ vs) (append-nil (held_by below root p))

same_more : (xs ys : List Posting) (q p : Posting) → LeaveSame xs ys → ((below : Bool) (root : List ℕ) → held_by below root q ≡ held_by below root p) → LeaveSame (xs ++ q ∷ []) (ys ++ p ∷ [])
same_more xs ys q p h k below root = held_more below root xs q ∙ (λ i. h below root i ++ k below root i) ∙ sym (held_more below root ys p)

nothing_held : (below : Bool) (root : List ℕ) (p : Posting) → p.amount ≡ None → held_by below root p ≡ []
nothing_held below root p e = ap (λ (o : Option Amount). cond (counts_for below root p.account) (from_amount (λ a. value_of a ∷ []) o) []) e ∙ none (counts_for below root p.account)
  where
    none : (b : Bool) → cond {A = List Value} b [] [] ≡ []
    none true = refl
    none false = refl

same_missing : (xs ys : List Posting) (p : Posting) → LeaveSame xs ys → p.amount ≡ None → LeaveSame xs (ys ++ p ∷ [])
same_missing xs ys p h e below root =
    h below root ∙ sym (append-nil (held_in below root ys)) ∙ ap (λ (vs : List Value). held_in below root ys ++ vs) (sym (nothing_held below root p e)) ∙ sym (held_more below root ys p)

module _ (enter : Decimal → Decimal) where
  abbrev less_held : Assertion → List Value → Value
  less_held w vs = (w.amount.symbol, plus w.amount.value (negated (enter (total_of w.amount.symbol vs))))

module _ (enter : Decimal → Decimal) where
  -- what an assignment comes to depends on what its account holds
  after_same : (seen seen0 : List Posting) (q p : Posting) (w : Assertion) → LeaveSame seen seen0 → q.account ≡ p.account → assigned_value_by enter seen q w ≡ assigned_value_by enter seen0 p w
  after_same seen seen0 q p w h e =
      (λ i. assigned_value_by enter seen (record q { account = e i }) w) ∙ ap (λ (vs : List Value). less_held enter w vs) (h w.below p.account)

abbrev pub AreUnmarked : List Posting → Type 0
AreUnmarked ps = AllByRecursion (λ p. p.filled ≡ false) ps

module _ (enter : Decimal → Decimal) where
  amount_same : (seen seen0 : List Posting) (q p : Posting) (o : Option Assertion) (w : Assertion) → o ≡ Some w → LeaveSame seen seen0 → q.account ≡ p.account → amount_after enter seen q o ≡ Some (plain_amount (assigned_value_by enter seen0 p w))
  amount_same seen seen0 q p o w is h e = ap (amount_after enter seen q) is ∙ ap (λ (v : Value). Some (plain_amount v)) (after_same enter seen seen0 q p w h e)

  pub unassigned_holds : (seen : List Posting) (p : Posting) → is_assigned p ≡ false → AssignedAfter enter seen p
  unassigned_holds seen p h e = absurd (false≢true (sym h ∙ e))

pub unfilled : (p : Posting) → p.filled ≡ false → is_assigned p ≡ false
unfilled p h = ap (λ b. b && is_some p.wanted) h

module _ (enter : Decimal → Decimal) (ps0 : List Posting) where
  abbrev costs : Cost
  costs = recorded_cost ps0

  -- assignments that are made one after another have the amounts that they are assigned there
  given_step : (w : Posting) (ws : List Posting) (seen seen0 : List Posting) (oa : Option Amount) (ow : Option Assertion) → w.amount ≡ oa → w.wanted ≡ ow → w.filled ≡ false → LeaveSame seen seen0 →
      ((seen seen0 : List Posting) → LeaveSame seen seen0 → EachAfter (AssignedAfter enter) seen (there ps0 (given_postings_by enter seen0 ws))) →
      EachAfter (AssignedAfter enter) seen (there ps0 (given_posting_by enter seen0 w oa ow ∷ given_postings_by enter (seen0 ++ given_posting_by enter seen0 w oa ow ∷ []) ws))
  given_step w ws seen seen0 (Some a) ow ea ew unmarked same rest =
      let q = costed_posting costs w in
      let alike = costed_alike costs w in
      subst (λ (o : Option Amount). EachAfter (AssignedAfter enter) seen (costed_if ps0 w o ++ there ps0 (given_postings_by enter (seen0 ++ w ∷ []) ws))) (sym ea) (
        unassigned_holds enter seen q (alike_assigned q w alike ∙ unfilled w unmarked),
        rest (seen ++ q ∷ []) (seen0 ++ w ∷ []) (same_more seen seen0 q w same (λ below root. alike_held below root q w alike)),
      )
  given_step w ws seen seen0 None None ea ew unmarked same rest =
      subst (λ (o : Option Amount). EachAfter (AssignedAfter enter) seen (costed_if ps0 w o ++ there ps0 (given_postings_by enter (seen0 ++ w ∷ []) ws))) (sym ea)
      (rest seen (seen0 ++ w ∷ []) (same_missing seen seen0 w same ea))
  given_step w ws seen seen0 None (Some wanted) ea ew unmarked same rest =
      let p = assigned_posting w (assigned_value_by enter seen0 w wanted) in
      let q = costed_posting costs p in
      let alike = costed_alike costs p in (
        (λ _. alike.amount ∙ sym (amount_same enter seen seen0 q w q.wanted wanted (alike.wanted ∙ ew) same alike.account)),
        rest (seen ++ q ∷ []) (seen0 ++ p ∷ []) (same_more seen seen0 q p same (λ below root. alike_held below root q p alike)),
      )

  pub given_holds : (ws : List Posting) → AreUnmarked ws → (seen seen0 : List Posting) → LeaveSame seen seen0 → EachAfter (AssignedAfter enter) seen (there ps0 (given_postings_by enter seen0 ws))
  given_holds [] h seen seen0 same = tt
  given_holds (w ∷ ws) h seen seen0 same = given_step w ws seen seen0 w.amount w.wanted refl refl h.0 same (given_holds ws h.1)

  -- assignments with the amounts that they are assigned there were made one after another
  made_step : (w q : Posting) (ws qs : List Posting) (seen seen0 : List Posting) (oa : Option Amount) (ow : Option Assertion) → w.amount ≡ oa → w.wanted ≡ ow → LeaveSame seen seen0 → IsMadeBy oa ow w q →
      ((seen seen0 : List Posting) → LeaveSame seen seen0 → EachAfter (AssignedAfter enter) seen (there ps0 qs) → qs ≡ given_postings_by enter seen0 ws) →
      EachAfter (AssignedAfter enter) seen (there ps0 (q ∷ qs)) → q ∷ qs ≡ given_posting_by enter seen0 w oa ow ∷ given_postings_by enter (seen0 ++ given_posting_by enter seen0 w oa ow ∷ []) ws
  made_step w q ws qs seen seen0 (Some a) ow ea ew same is rest h =
      let c = costed_posting costs w in
      let alike = costed_alike costs w in
      let here = subst (λ (o : Option Amount). EachAfter (AssignedAfter enter) seen (costed_if ps0 w o ++ there ps0 qs)) ea (subst (λ (x : Posting). EachAfter (AssignedAfter enter) seen (costed_if ps0 x x.amount ++ there ps0 qs)) is h) in
      let tail = rest (seen ++ c ∷ []) (seen0 ++ w ∷ []) (same_more seen seen0 c w same (λ below root. alike_held below root c w alike)) here.1 in
      λ i. is i ∷ tail i
  made_step w q ws qs seen seen0 None None ea ew same is rest h =
      let here = subst (λ (o : Option Amount). EachAfter (AssignedAfter enter) seen (costed_if ps0 w o ++ there ps0 qs)) ea (subst (λ (x : Posting). EachAfter (AssignedAfter enter) seen (costed_if ps0 x x.amount ++ there ps0 qs)) is h) in
      let tail = rest seen (seen0 ++ w ∷ []) (same_missing seen seen0 w same ea) here in
      λ i. is i ∷ tail i
  made_step w q ws qs seen seen0 None (Some wanted) ea ew same is rest h =
      let p = assigned_posting w is.0 in
      let c = costed_posting costs p in
      let alike = costed_alike costs p in
      let here : AssignedAfter enter seen c × EachAfter (AssignedAfter enter) (seen ++ c ∷ []) (there ps0 qs) = subst (λ (x : Posting). EachAfter (AssignedAfter enter) seen (costed_if ps0 x x.amount ++ there ps0 qs)) is.1 h in
      let assigned : is_assigned c ≡ true = alike_assigned c p alike ∙ ap is_some ew in
      let amount : Some (plain_amount is.0) ≡ Some (plain_amount (assigned_value_by enter seen0 w wanted)) = sym alike.amount ∙ here.0 assigned ∙ amount_same enter seen seen0 c w c.wanted wanted (alike.wanted ∙ ew) same alike.account in
      let first : q ≡ assigned_posting w (assigned_value_by enter seen0 w wanted) = is.1 ∙ ap (λ (o : Option Amount). let made : Posting = record w { amount = o; cost = None; filled = true; costed = false } in made) amount in
      let tail = rest (seen ++ c ∷ []) (seen0 ++ assigned_posting w (assigned_value_by enter seen0 w wanted) ∷ [])
      (same_more seen seen0 c (assigned_posting w (assigned_value_by enter seen0 w wanted)) same (λ below root. alike_held below root c p alike ∙ ap (λ (x : Posting). held_by below root x) (sym is.1 ∙ first))) here.1 in
      λ i. first i ∷ tail i

  pub made_given : (ws qs : List Posting) → AreMade ws qs → (seen seen0 : List Posting) → LeaveSame seen seen0 → EachAfter (AssignedAfter enter) seen (there ps0 qs) → qs ≡ given_postings_by enter seen0 ws
  made_given [] [] made seen seen0 same h = refl
  made_given [] (q ∷ qs) made seen seen0 same h = absurd made
  made_given (w ∷ ws) [] made seen seen0 same h = absurd made
  made_given (w ∷ ws) (q ∷ qs) made seen seen0 same h = made_step w q ws qs seen seen0 w.amount w.wanted refl refl same made.0 (made_given ws qs made.1) h
