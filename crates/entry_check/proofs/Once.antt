-- Sums that are asked for once.
use Rattle.std.proofs.Common.{◌≡◌, ℕ, ◌+◌, ◌≤◌, Bool, true, false, cond, ◌&&◌, ◌||◌, List, [], ◌∷◌, ◌++◌, map, sum_by, Option, Some, None, is_some, is_none, unwrap_or, refl, sym, ap, ◌∙◌, subst, arith}
use Rattle.std.specs.Bool.{beq}
use Rattle.std.specs.Cmp.{booleans_Decides}
use Rattle.std.specs.List.{flat_map, list_any}
use Rattle.std.specs.Str.{bytes_eq}
use Rattle.std.proofs.lemmas.Bool.{and_parts, false≢true}
use Rattle.std.proofs.lemmas.List.{append-nil, append_assoc}
use Rattle.std.proofs.lemmas.List.Concat.{flat_map-cons}
use Rattle.std.proofs.lemmas.List.Sums.{sum_by-cons}
use Rattle.std.proofs.lemmas.Slice.Eq.{bytes_eq-Decides}
use Rattle.hl_num.specs.Decimal.{Decimal, units_of}
use Rattle.book.specs.declared.amount.Amount.{Amount}
use Rattle.book.specs.declared.amount.Assertion.{Assertion}
use Rattle.book.specs.declared.transaction.Posting.{Posting}
use Rattle.entry_balance.specs.Entry.{is_assignment}
use Rattle.entry_balance.proofs.Turnover.{bytes_eq-itself}
use Rattle.entry_check.specs.Asked.{AreTold, Key, Sums, answered, asks_on, assigned_by, assigned_of, is_kept, is_key, is_to, key_of, key_to, keys_of, wanted_of}
use Rattle.entry_check.specs.Asking.{Asks, making, nodes_asked, nodes_making, nodes_others, nodes_own, own_nodes}
use Rattle.entry_check.specs.declared.asked_once.Answer.{Answer}
use Rattle.entry_check.proofs.Counting.{both_asked}

-- ---- answers

no_answer : (d : Decimal) → None ≡ Some d → ⊥
no_answer d h = let never : ⊥ = cc in never

some_answer : (d : Decimal) → Some d ≡ None → ⊥
some_answer d h = let never : ⊥ = cc in never

same_sum : (x y d : Decimal) → Some x ≡ Some y → x ≡ y
same_sum x y d h = ap (λ (o : Option Decimal). unwrap_or o d) h

-- an answer to what is asked tells it
told_here : (sums : Sums) (account symbol : List ℕ) (below : Bool) (a : Answer) → is_to account symbol below a ≡ true → units_of a.sum ≡ sums a.account a.symbol a.below → units_of a.sum ≡ sums account symbol below
told_here sums account symbol below a is told =
    let one = and_parts (beq a.below below) (bytes_eq a.symbol symbol && bytes_eq a.account account) is in
    let two = and_parts (bytes_eq a.symbol symbol) (bytes_eq a.account account) one.1 in
    let same_below = (booleans_Decides a.below below).0 one.0 in
    let same_symbol = (bytes_eq-Decides a.symbol symbol).0 two.0 in
    let same_account = (bytes_eq-Decides a.account account).0 two.1 in
    told ∙ (λ i. sums (same_account i) (same_symbol i) (same_below i))

pub answered_told : (sums : Sums) (account symbol : List ℕ) (below : Bool) (answers : List Answer) (d : Decimal) → AreTold sums answers → answered account symbol below answers ≡ Some d → units_of d ≡ sums account symbol below
answered_told sums account symbol below [] d h e = absurd (no_answer d e)
answered_told sums account symbol below (a ∷ answers) d h e =
    elim (is_to account symbol below a) as (λ b. is_to account symbol below a ≡ b → cond b (Some a.sum) (answered account symbol below answers) ≡ Some d → units_of d ≡ sums account symbol below) [
      | true ↦ λ is some. ap units_of (sym (same_sum a.sum d d some)) ∙ told_here sums account symbol below a is h.0
      | false ↦ λ is_not rest. answered_told sums account symbol below answers d h.1 rest
    ] refl e

-- where none is, nothing is kept of it
pub answered_none : (account symbol : List ℕ) (below : Bool) (answers : List Answer) → answered account symbol below answers ≡ None → is_kept account symbol below (keys_of answers) ≡ false
answered_none account symbol below [] e = refl
answered_none account symbol below (a ∷ answers) e =
    elim (is_to account symbol below a) as (λ b. cond b (Some a.sum) (answered account symbol below answers) ≡ None → (b || is_kept account symbol below (keys_of answers)) ≡ false) [
      | true ↦ λ some. absurd (some_answer a.sum some)
      | false ↦ λ rest. answered_none account symbol below answers rest
    ] e

-- it is asked on
pub asked_on : (asks : Asks) (kept : List Key) (account symbol : List ℕ) (below : Bool) → is_kept account symbol below kept ≡ false → asks_on asks kept account symbol below ≡ asks account symbol below
asked_on asks kept account symbol below h = ap (λ (b : Bool). cond b 0 (asks account symbol below)) h

-- ---- one posting after another

no_assignment : (p : Posting) (a : Option Amount) → p.amount ≡ a → is_some a ≡ true → is_assignment p ≡ false
no_assignment p None is given = absurd (false≢true given)
no_assignment p (Some a) is given = ap (λ (x : Option Amount). is_none x && is_some p.wanted) is

-- an amount is given: nothing more is wanted
pub assigned_given : (p : Posting) → is_some p.amount ≡ true → (keys : List Key) → keys ≡ keys ++ assigned_of p
assigned_given p given keys =
    sym (append-nil keys) ∙ ap (λ (b : Bool). keys ++ cond b (wanted_of p.account p.wanted) []) (sym (no_assignment p p.amount refl given))

-- none is given: all that is wanted is
pub assigned_missing : (p : Posting) (w : Option Assertion) → p.amount ≡ None → p.wanted ≡ w → assigned_of p ≡ wanted_of p.account w
assigned_missing p None none wanted = λ i. cond (is_none (none i) && is_some (wanted i)) (wanted_of p.account (wanted i)) []
assigned_missing p (Some w) none wanted = λ i. cond (is_none (none i) && is_some (wanted i)) (wanted_of p.account (wanted i)) []

pub making_missing : (sum : Asks) (p : Posting) (w : Option Assertion) → p.amount ≡ None → p.wanted ≡ w → making sum p ≡ own_nodes sum p.account w
making_missing sum p None none wanted = λ i. cond (is_none (none i) && is_some (wanted i)) (own_nodes sum p.account (wanted i)) 0
making_missing sum p (Some w) none wanted = λ i. cond (is_none (none i) && is_some (wanted i)) (own_nodes sum p.account (wanted i)) 0

-- ---- what is kept asks nothing

any_in : (f : Key → Bool) (before after : List Key) (k : Key) → f k ≡ true → list_any f ((before ++ k ∷ []) ++ after) ≡ true
any_in f [] after k h = ap (λ (b : Bool). b || list_any f after) h
any_in f (x ∷ before) after k h =
    elim (f x) as (λ b. (b || list_any f ((before ++ k ∷ []) ++ after)) ≡ true) [
      | true ↦ refl
      | false ↦ any_in f before after k h
    ]

key_is : (account : List ℕ) (w : Assertion) → is_key account w.amount.symbol w.below (key_to account w) ≡ true
key_is account w = λ i. (booleans_Decides w.below w.below).1 refl i && (bytes_eq-itself w.amount.symbol i && bytes_eq-itself account i)

module _ (asks : Asks) (kept : List Key) where
  none_here : (account : List ℕ) (wanted : Option Assertion) (before after : List Key) → kept ≡ (before ++ wanted_of account wanted) ++ after → own_nodes (asks_on asks kept) account wanted ≡ 0
  none_here account None before after is = refl
  none_here account (Some w) before after is =
      let here = ap (λ (ks : List Key). is_kept account w.amount.symbol w.below ks) is ∙ any_in (is_key account w.amount.symbol w.below) before after (key_to account w) (key_is account w) in
      ap (λ (b : Bool). cond b 0 (asks account w.amount.symbol w.below)) here

  on_less : (account : List ℕ) (wanted : Option Assertion) → own_nodes (asks_on asks kept) account wanted ≤ own_nodes asks account wanted
  on_less account None = omega arith
  on_less account (Some w) = elim (is_kept account w.amount.symbol w.below kept) as (λ b. cond b 0 (asks account w.amount.symbol w.below) ≤ asks account w.amount.symbol w.below) [ true ↦ omega arith | false ↦ omega arith ]

  none_made : (before after : List Key) (p : Posting) → kept ≡ (before ++ assigned_of p) ++ after → making (asks_on asks kept) p ≡ 0
  none_made before after p is =
      elim (is_assignment p) as (λ b. kept ≡ (before ++ cond b (wanted_of p.account p.wanted) []) ++ after → cond b (own_nodes (asks_on asks kept) p.account p.wanted) 0 ≡ 0) [
        | true ↦ λ here. none_here p.account p.wanted before after here
        | false ↦ λ here. refl
      ] is

  one_within : (before after : List Key) (p : Posting) → kept ≡ (before ++ assigned_of p) ++ after → own_nodes (asks_on asks kept) p.account p.wanted + making asks p ≤ own_nodes asks p.account p.wanted
  one_within before after p is =
      elim (is_assignment p) as (λ b. kept ≡ (before ++ cond b (wanted_of p.account p.wanted) []) ++ after → own_nodes (asks_on asks kept) p.account p.wanted + cond b (own_nodes asks p.account p.wanted) 0 ≤ own_nodes asks p.account p.wanted) [
        | true ↦ λ here. omega (arith, none_here p.account p.wanted before after here)
        | false ↦ λ here. omega (arith, on_less p.account p.wanted)
      ] is

  further : (before : List Key) (p : Posting) (ps : List Posting) → kept ≡ before ++ assigned_by (p ∷ ps) → kept ≡ (before ++ assigned_of p) ++ assigned_by ps
  further before p ps is = is ∙ ap (λ (ks : List Key). before ++ ks) (flat_map-cons assigned_of p ps) ∙ sym (append_assoc before (assigned_of p) (assigned_by ps))

  none_making : (before : List Key) (ps : List Posting) → kept ≡ before ++ assigned_by ps → nodes_making (asks_on asks kept) ps ≡ 0
  none_making before [] is = refl
  none_making before (p ∷ ps) is =
      let whole = further before p ps is in
      sum_by-cons (making (asks_on asks kept)) p ps
      ∙ (λ i. none_made before (assigned_by ps) p whole i + none_making (before ++ assigned_of p) ps whole i)

  own_within : (before : List Key) (ps : List Posting) → kept ≡ before ++ assigned_by ps → nodes_own (asks_on asks kept) ps + nodes_making asks ps ≤ nodes_own asks ps
  own_within before [] is = omega arith
  own_within before (p ∷ ps) is =
      let whole = further before p ps is in
      let here = one_within before (assigned_by ps) p whole in
      let rest = own_within (before ++ assigned_of p) ps whole in
      let on = sum_by-cons (λ (q : Posting). own_nodes (asks_on asks kept) q.account q.wanted) p ps in
      let made = sum_by-cons (making asks) p ps in
      let all = sum_by-cons (λ (q : Posting). own_nodes asks q.account q.wanted) p ps in
      omega (arith, here, rest, on, made, all)

  -- the sums that assignments want were asked for; then they are made, and all is judged
  pub asked_once : (others : Asks) (ps : List Posting) → kept ≡ assigned_by ps → (before middle after : ℕ) → middle ≤ before + nodes_making asks ps → after ≤ middle + (nodes_making (asks_on asks kept) ps + nodes_asked (asks_on asks kept) others ps) → after ≤ before + nodes_asked asks others ps
  asked_once others ps is before middle after first second =
      let none = none_making [] ps is in
      let within = own_within [] ps is in
      let inner = both_asked (asks_on asks kept) others ps in
      let outer = both_asked asks others ps in
      omega (arith, none, within, inner, outer, first, second)
