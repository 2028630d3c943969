-- How many nodes are asked, call by call.
use Rattle.std.proofs.Common.{◌≡◌, ℕ, ◌+◌, ◌<◌, ◌≤◌, Bool, true, false, cond, ◌&&◌, not, List, [], ◌∷◌, ◌++◌, length, get_or, take, filter, map, sum_by, Option, Some, None, is_some, is_none, Result, Ok, Err, OnOk, IfOk, inl, inr, ⊎_elim, refl, sym, ap, ◌∙◌, subst, arith}
use Rattle.std.specs.List.{flat_map}
use Rattle.std.proofs.lemmas.Bool.{or_parts}
use Rattle.std.proofs.lemmas.List.{take_more, take_all}
use Rattle.std.proofs.lemmas.List.Sums.{sum_by-cons, sum_by-append, sum_by_push}
use Rattle.book.specs.declared.amount.Amount.{Amount}
use Rattle.book.specs.declared.amount.Assertion.{Assertion}
use Rattle.book.specs.declared.amount.Cost.TheVariants.{Total}
use Rattle.book.specs.declared.fault.Cause.{Cause}
use Rattle.book.specs.declared.fault.Fault.{Fault}
use Rattle.book.specs.declared.transaction.Posting.{Posting}
use Rattle.book.specs.declared.transaction.Txn.{Txn}
use Rattle.entry_balance.specs.Values.{Value}
use Rattle.entry_balance.specs.Entry.{costed_posting, found_posting, found_values, has_assignment, is_assignable, is_assignment, is_real_of, plain_amount, recorded_cost, settled, solved, solved_posting, with_postings}
use Rattle.entry_balance.specs.Settled.{IsSettled}
use Rattle.entry_balance.specs.declared.tally.TallyFault.{TallyFault}
use Rattle.assertions.specs.Assertions.{failure_at}
use Rattle.balancing.specs.Parts.{is_found, is_in}
use Rattle.balancing.specs.declared.groups.Part.TheVariants as part
use Rattle.balancing.proofs.Balanced.{filter-append}
use Rattle.entry_check.specs.Asking.{Asks, OnPass, judging, making, nodes_asked, nodes_making, nodes_others, nodes_own, other_nodes, own_nodes}
use Rattle.entry_check.specs.Checked.{Told, made, made_posting, made_postings}
use Rattle.entry_check.proofs.Giving.{none-is, unassigned}

-- ---- answers

pub on_pass : {E : Type 0} (P Q : Type 0) (r : Result (Option Fault) E) → (P → Q) → OnPass r P → OnPass r Q
on_pass P Q (Ok None) f h = f h
on_pass P Q (Ok (Some x)) f h = tt
on_pass P Q (Err e) f h = tt

pub passed : {E : Type 0} (P : Type 0) (r : Result (Option Fault) E) → P → OnPass r P
passed P (Ok None) h = h
passed P (Ok (Some x)) h = tt
passed P (Err e) h = tt

none_some : (x : Fault) → None ≡ Some x → ⊥
none_some x h = let never : ⊥ = cc in never

-- a fault is no pass
pub never_passed : {E : Type 0} (P : Type 0) (r : Result (Option Fault) E) (line : ℕ) (w : Assertion) (v : Value) → IfOk r (λ f. f ≡ failure_at line w (Some v)) → OnPass r P
never_passed P (Ok None) line w v h = absurd (none_some _ h)
never_passed P (Ok (Some y)) line w v h = tt
never_passed P (Err e) line w v h = tt

pub pass_here : (P : Type 0) (o : Option Fault) → o ≡ None → OnPass {E = TallyFault} (Ok o) P → P
pass_here P o none h = subst (λ (x : Option Fault). OnPass {E = TallyFault} (Ok x) P) none h

pub on_ok : {X E : Type 0} (P Q : Type 0) (r : Result X E) → (P → Q) → OnOk r P → OnOk r Q
on_ok P Q (Ok x) f h = f h
on_ok P Q (Err e) f h = tt

pub held_ok : {X E : Type 0} (P : Type 0) (r : Result X E) → P → OnOk r P
held_ok P (Ok x) h = h
held_ok P (Err e) h = tt

-- ---- postings one after another

module _ (f : Posting → ℕ) (chosen : Posting → Bool) (ps : List Posting) (i : ℕ) (p : Posting) (less : i < length ps) (is : p ≡ get_or ps i p) where
  next_by : (b : Bool) → chosen p ≡ b → sum_by f (filter chosen (take (i + 1) ps)) ≡ sum_by f (filter chosen (take i ps)) + sum_by f (cond b (p ∷ []) [])
  next_by b e =
      ap (λ (qs : List Posting). sum_by f (filter chosen qs)) (take_more ps i p less ∙ ap (λ (y : Posting). take i ps ++ y ∷ []) (sym is))
      ∙ ap (sum_by f) (filter-append chosen (take i ps) (p ∷ []) ∙ ap (λ (t : Bool). filter chosen (take i ps) ++ cond t (p ∷ []) []) e)
      ∙ sum_by-append f (filter chosen (take i ps)) (cond b (p ∷ []) [])

  pub asked_further : chosen p ≡ true → (before middle after : ℕ) → middle ≤ before + sum_by f (filter chosen (take i ps)) → after ≤ middle + f p → after ≤ before + sum_by f (filter chosen (take (i + 1) ps))
  asked_further e before middle after first second = omega (arith, next_by true e, first, second, sum_by_push f [] p)

  pub asked_still : chosen p ≡ false → (before after : ℕ) → after ≤ before + sum_by f (filter chosen (take i ps)) → after ≤ before + sum_by f (filter chosen (take (i + 1) ps))
  asked_still e before after first = omega (arith, next_by false e, first)

pub asked_through : (f : Posting → ℕ) (chosen : Posting → Bool) (ps : List Posting) (i before after : ℕ) → length ps ≤ i → after ≤ before + sum_by f (filter chosen (take i ps)) → after ≤ before + sum_by f (filter chosen ps)
asked_through f chosen ps i before after more h = subst (λ (qs : List Posting). after ≤ before + sum_by f (filter chosen qs)) (take_all i ps more) h

pub asked_push : (f : Posting → ℕ) (xs : List Posting) (x : Posting) (before middle after : ℕ) → middle ≤ before + sum_by f xs → after ≤ middle + f x → after ≤ before + sum_by f (xs ++ x ∷ [])
asked_push f xs x before middle after first second = let push = sum_by_push f xs x in omega (arith, first, second, push)

-- ---- parts of a transaction

pub parts_sum : (f : Posting → ℕ) (ps : List Posting) → sum_by f (filter (is_in part.ButFound) ps) + sum_by f (filter (is_in part.Found) ps) ≡ sum_by f ps
parts_sum f [] = refl
parts_sum f (p ∷ ps) =
    let one = filter (is_in part.ButFound) ps in
    let two = filter (is_in part.Found) ps in
    let rest = parts_sum f ps in
    let whole = sum_by-cons f p ps in
    elim (is_found p) as (λ b. sum_by f (cond (not b) (p ∷ one) one) + sum_by f (cond b (p ∷ two) two) ≡ sum_by f (p ∷ ps)) [
      | true ↦ let second = sum_by-cons f p two in omega (arith, second, rest, whole)
      | false ↦ let first = sum_by-cons f p one in omega (arith, first, rest, whole)
    ]

pub asked_two : (f : Posting → ℕ) (ps : List Posting) (before middle after : ℕ) → middle ≤ before + sum_by f (filter (is_in part.ButFound) ps) → after ≤ middle + sum_by f (filter (is_in part.Found) ps) → after ≤ before + sum_by f ps
asked_two f ps before middle after first second = let whole = parts_sum f ps in omega (arith, first, second, whole)

-- ---- what a transaction asks for stays as its amounts are found

module _ (sum other : Asks) where
  abbrev asks_for : Posting → ℕ
  asks_for p = judging sum other p.account p.wanted

  none_wanted : (p : Posting) (vs : List Value) → nodes_asked sum other (map (found_posting p) vs) ≡ 0
  none_wanted p [] = refl
  none_wanted p (v ∷ vs) = sum_by-cons asks_for (found_posting p v) (map (found_posting p) vs) ∙ ap (λ (n : ℕ). 0 + n) (none_wanted p vs)

  costed_same : (c : Option (List ℕ × Value)) (p : Posting) → asks_for (costed_posting c p) ≡ asks_for p
  costed_same None p = refl
  costed_same (Some c) p = elim (is_real_of c.0 p && is_none p.cost) as (λ b. asks_for (cond b (record p { cost = Some (Total (plain_amount c.1)); costed = true }) p) ≡ asks_for p) [ true ↦ refl | false ↦ refl ]

  solved_one : (all : List Posting) (p : Posting) (a : Option Amount) → p.amount ≡ a → is_assignment p ≡ false → nodes_asked sum other (solved_posting all p a) ≡ asks_for p
  solved_one all p None e plain =
      none_wanted p (found_values p.side all)
      ∙ ap (judging sum other p.account) (sym (none-is p.wanted (sym (ap (λ (x : Option Amount). is_none x && is_some p.wanted) e) ∙ plain)))
  solved_one all p (Some a) e plain = sum_by_push asks_for [] (costed_posting (recorded_cost all) p) ∙ ap (λ (n : ℕ). 0 + n) (costed_same (recorded_cost all) p) ∙ omega arith

  solved_all : (all ps : List Posting) → has_assignment ps ≡ false → nodes_asked sum other (flat_map (λ p. solved_posting all p p.amount) ps) ≡ nodes_asked sum other ps
  solved_all all [] none = refl
  solved_all all (p ∷ ps) none =
      let parts = or_parts (is_assignment p) (has_assignment ps) none in
      let rest = flat_map (λ (q : Posting). solved_posting all q q.amount) ps in
      sum_by-append asks_for (solved_posting all p p.amount) rest
      ∙ (λ i. solved_one all p p.amount refl parts.0 i + solved_all all ps parts.1 i)
      ∙ sym (sum_by-cons asks_for p ps)

  made_one : (told : Told) (done : List Posting) (p : Posting) (a : Option Amount) (w : Option Assertion) → asks_for (made_posting told done p a w) ≡ asks_for p
  made_one told done p (Some a) w = refl
  made_one told done p None None = refl
  made_one told done p None (Some w) = refl

  made_all : (told : Told) (done ps : List Posting) → nodes_asked sum other (made_postings told done ps) ≡ nodes_asked sum other ps
  made_all told done [] = refl
  made_all told done (p ∷ ps) =
      let q = made_posting told done p p.amount p.wanted in
      sum_by-cons asks_for q (made_postings told (done ++ q ∷ []) ps)
      ∙ (λ i. made_one told done p p.amount p.wanted i + made_all told (done ++ q ∷ []) ps i)
      ∙ sym (sum_by-cons asks_for p ps)

  made_same : (told : Told) (t : Txn) → nodes_asked sum other (made told t).postings ≡ nodes_asked sum other t.postings
  made_same told t = elim (is_assignable t.postings) as (λ b. nodes_asked sum other (cond b (with_postings t (made_postings told [] t.postings)) t).postings ≡ nodes_asked sum other t.postings) [
    | true ↦ made_all told [] t.postings
    | false ↦ refl
  ]

  settled_same : (m txn : Txn) (cause : Option Cause) → IsSettled m txn cause → nodes_asked sum other txn.postings ≡ nodes_asked sum other m.postings
  settled_same m txn cause h = by (has_assignment m.postings) refl
    where
      by : (b : Bool) → has_assignment m.postings ≡ b → nodes_asked sum other txn.postings ≡ nodes_asked sum other m.postings
      by true e = ap (λ (x : Txn). nodes_asked sum other x.postings) (h.kept e)
      by false e = ⊎_elim (λ same. ap (λ (x : Txn). nodes_asked sum other x.postings) same) (λ found. ap (λ (x : Txn). nodes_asked sum other x.postings) found ∙ solved_all m.postings m.postings e) h.either

  -- its assignments are made and it is settled; then it is judged
  pub all_asked : (told : Told) (t m txn : Txn) (cause : Option Cause) → m ≡ made told t → IsSettled m txn cause → (before middle after : ℕ) → middle ≤ before + nodes_making sum t.postings → after ≤ middle + nodes_asked sum other txn.postings → after ≤ before + (nodes_making sum t.postings + nodes_asked sum other t.postings)
  all_asked told t m txn cause is h before middle after first second =
      let same = settled_same m txn cause h ∙ ap (λ (x : Txn). nodes_asked sum other x.postings) is ∙ made_same told t in
      omega (arith, first, second, same)

  -- for their own symbols and for others
  pub both_asked : (ps : List Posting) → nodes_own sum ps + nodes_others other ps ≡ nodes_asked sum other ps
  both_asked [] = refl
  both_asked (p ∷ ps) =
      let one = sum_by-cons (λ (q : Posting). own_nodes sum q.account q.wanted) p ps in
      let two = sum_by-cons (λ (q : Posting). other_nodes other q.account q.wanted) p ps in
      let all = sum_by-cons asks_for p ps in
      let rest = both_asked ps in
      omega (arith, one, two, all, rest)

-- an assignment asks for its sum
pub making_is : (sum : Asks) (p : Posting) (w : Assertion) → p.amount ≡ None → p.wanted ≡ Some w → making sum p ≡ sum p.account w.amount.symbol w.below
making_is sum p w none wanted = λ i. cond (is_none (none i) && is_some (wanted i)) (own_nodes sum p.account (wanted i)) 0
