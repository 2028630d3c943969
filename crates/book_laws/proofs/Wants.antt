-- What balancing makes of assigned postings, in a book that solves a text.
use Rattle.std.proofs.Common.{◌≡◌, ℕ, suc, Bool, true, false, ◌&&◌, cond, List, [], ◌∷◌, map, Option, Some, None, is_none, refl, sym, ap, subst, ◌∙◌}
use Rattle.std.specs.List.{flat_map, AllByRecursion}
use Rattle.book.specs.SumsBefore.{Place, is_assigned, placed_from, placed_in}
use Rattle.book.specs.declared.amount.Amount.{Amount}
use Rattle.book.specs.declared.amount.Assertion.{Assertion}
use Rattle.book.specs.declared.amount.Cost.TheVariants as costs
use Rattle.book.specs.declared.transaction.Posting.{Posting}
use Rattle.book.specs.declared.transaction.Txn.{Txn}
use Rattle.balancing.specs.Solves.{IsAssignedAt, Solves, amount_at, difference_at}
use Rattle.entry_balance.specs.Entry.{costed_posting, is_real_of, plain_amount, recorded_cost, settled, solved, solved_posting}
use Rattle.entry_balance.specs.Values.{Value}
use Rattle.reached_walk.proofs.Lists.{all-left, all-map, all-right}

abbrev Entry : Type 0
Entry = Place × Posting

pub none_some : {X : Type 0} (x : X) → None ≡ Some x → ⊥
none_some x h = cc

some_same : {X : Type 0} (x y : X) → Some x ≡ Some y → x ≡ y
some_same x y h = cc

pub costed_amount : (r : Option (List ℕ × Value)) (m : Posting) → (costed_posting r m).amount ≡ m.amount
costed_amount None m = refl
costed_amount (Some c) m = by (is_real_of c.0 m && is_none m.cost)
  where
    by : (b : Bool) → (cond b (record m { cost = Some (costs.Total (plain_amount c.1)); costed = true }) m).amount ≡ m.amount
    by true = refl
    by false = refl

-- the amount of an assigned posting stands so to the balance that it wants
abbrev pub Wants : (Amount → Assertion → Type 0) → Posting → Type 0
Wants R p = is_assigned p ≡ true → (a : Amount) → p.amount ≡ Some a → (x : Assertion) → p.wanted ≡ Some x → R a x

module _ (R : Amount → Assertion → Type 0) where
  all_entries : (t : Txn) (n k : ℕ) (ps : List Posting) → AllByRecursion (λ (e : Entry). Wants R e.1) (placed_in t n k ps) → AllByRecursion (Wants R) ps
  all_entries t n k [] h = tt
  all_entries t n k (p ∷ ps) h = (h.0, all_entries t n (suc k) ps h.1)

  -- a made posting has the amount, the mark and the wanted balance of the solved one
  costed_wants : (r : Option (List ℕ × Value)) (m : Posting) → Wants R (costed_posting r m) → Wants R m
  costed_wants None m h = h
  costed_wants (Some c) m h = by (is_real_of c.0 m && is_none m.cost) h
    where
      by : (b : Bool) → Wants R (cond b (record m { cost = Some (costs.Total (plain_amount c.1)); costed = true }) m) → Wants R m
      by true k = k
      by false k = k

  wants_one : (all : List Posting) (m : Posting) → AllByRecursion (Wants R) (solved_posting all m m.amount) → Wants R m
  wants_one all m h = by m.amount refl h
    where
      by : (o : Option Amount) → m.amount ≡ o → AllByRecursion (Wants R) (solved_posting all m o) → Wants R m
      by (Some a) e k = costed_wants (recorded_cost all) m k.0
      by None e k = λ mine a amount x wanted. absurd (none_some a (sym e ∙ amount))

  solved_wants : (all ms : List Posting) → AllByRecursion (Wants R) (flat_map (λ (p : Posting). solved_posting all p p.amount) ms) → AllByRecursion (Wants R) ms
  solved_wants all [] h = tt
  solved_wants all (m ∷ ms) h =
      let rest : List Posting = flat_map (λ (p : Posting). solved_posting all p p.amount) ms in
      (wants_one all m (all-left (Wants R) (solved_posting all m m.amount) rest h), solved_wants all ms (all-right (Wants R) (solved_posting all m m.amount) rest h))

  from_book : (ms : List Txn) (n : ℕ) → AllByRecursion (λ (e : Entry). Wants R e.1) (placed_from n (map settled ms)) → AllByRecursion (λ (m : Txn). AllByRecursion (Wants R) m.postings) ms
  from_book [] n h = tt
  from_book (m ∷ ms) n h =
      let here : List Entry = placed_in (settled m) n 0 (solved m.postings) in
      let rest : List Entry = placed_from (suc n) (map settled ms) in (
        solved_wants m.postings m.postings (all_entries (settled m) n 0 (solved m.postings) (all-left (λ (e : Entry). Wants R e.1) here rest h)),
        from_book ms (suc n) (all-right (λ (e : Entry). Wants R e.1) here rest h),
      )

  module _ (text book : List Txn) (is_right : (e : Entry) (x : Assertion) → R (plain_amount (difference_at book e.0 e.1 x)) x) where
    own_amount : (e : Entry) → IsAssignedAt book e → Wants R e.1
    own_amount e is mine a amount x wanted =
        let told : Some a ≡ amount_at book e.0 e.1 (Some x) = sym amount ∙ is mine ∙ ap (amount_at book e.0 e.1) wanted in
        let same : a ≡ plain_amount (difference_at book e.0 e.1 x) = some_same a (plain_amount (difference_at book e.0 e.1 x)) told in
        subst (λ (b : Amount). R b x) (sym same) (is_right e x)

    -- what was made for the assignments of a text is right
    pub made_wants : (s : Solves text book) → AllByRecursion (λ (m : Txn). AllByRecursion (Wants R) m.postings) s.made
    made_wants s =
        let wants : AllByRecursion (λ (e : Entry). Wants R e.1) (placed_from 0 book) = all-map (IsAssignedAt book) (λ (e : Entry). Wants R e.1) own_amount (placed_from 0 book) s.assigned in
        from_book s.made 0 (subst (λ (b : List Txn). AllByRecursion (λ (e : Entry). Wants R e.1) (placed_from 0 b)) s.found wants)
