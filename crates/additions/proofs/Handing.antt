-- Where postings of a book ask for balances, and what stands behind them in its order.
use Rattle.std.proofs.Common.{◌≡◌, ℕ, suc, ◌+◌, ◌<◌, ◌≤◌, max, Bool, true, false, cond, not, ltb, eqb, ◌&&◌, ◌||◌, List, [], ◌∷◌, ◌++◌, length, Option, Some, None, is_some, refl, sym, ap, ◌∙◌, arith, append_assoc, filter}
use Rattle.std.specs.List.{AllByRecursion, fold, list_any}
use Rattle.std.proofs.lemmas.Bool.Decides.{nat_tests}
use Rattle.std.proofs.lemmas.List.Sums.{fold-append}
use Rattle.book.specs.SumsBefore.{Place, is_before, is_of, placed_from, placed_in}
use Rattle.book.specs.declared.amount.Assertion.{Assertion}
use Rattle.book.specs.declared.transaction.Posting.{Posting}
use Rattle.book.specs.declared.transaction.Txn.{Txn}
use Rattle.balancing.specs.Groups.{day_of}
use Rattle.reached_entries.specs.Reached.{AreSame, asks_for, counts_for}
use Rattle.reached_entries.proofs.Quiet.{SameSums, is_other, same-others, same-sums}
use Rattle.additions.specs.Asked.{asked_on, asked_through, last_asked}
use Rattle.additions.proofs.Lists.{all_append, all_map, and_none}

abbrev pub Entry : Type 0
Entry = Place × Posting

-- ---- the last day on which a book asks

abbrev AskedBy : ℕ → Entry → Type 0
AskedBy day e = is_some e.1.wanted ≡ true → e.0.day ≤ day

least_through : (t : Txn) (last : ℕ) (ps : List Posting) → last ≤ fold (λ l p. max l (asked_on t p)) last ps
least_through t last [] = omega arith
least_through t last (p ∷ ps) =
    let rest = least_through t (max last (asked_on t p)) ps in
    omega (arith, rest)

asked_here : (t : Txn) (p : Posting) → is_some p.wanted ≡ true → asked_on t p ≡ day_of t p
asked_here t p h = ap (λ (b : Bool). cond b (day_of t p) 0) h

each_through : (t : Txn) (n k last : ℕ) (ps : List Posting) → AllByRecursion (AskedBy (fold (λ l p. max l (asked_on t p)) last ps)) (placed_in t n k ps)
each_through t n k last [] = tt
each_through t n k last (p ∷ ps) =
    let here = least_through t (max last (asked_on t p)) ps in
    ((λ h. let e = asked_here t p h in omega (arith, here, e)), each_through t n (suc k) (max last (asked_on t p)) ps)

later : (a b : ℕ) → a ≤ b → (e : Entry) → AskedBy a e → AskedBy b e
later a b less e h = λ some. let here = h some in omega (arith, here, less)

least_asked : (last : ℕ) (ts : List Txn) → last ≤ fold asked_through last ts
least_asked last [] = omega arith
least_asked last (t ∷ ts) =
    let here = least_through t last t.postings in
    let rest = least_asked (asked_through last t) ts in
    omega (arith, here, rest)

each_asked : (n last : ℕ) (ts : List Txn) → AllByRecursion (AskedBy (fold asked_through last ts)) (placed_from n ts)
each_asked n last [] = tt
each_asked n last (t ∷ ts) =
    let all = fold asked_through (asked_through last t) ts in
    all_append (AskedBy all) (placed_in t n 0 t.postings) (placed_from (suc n) ts)
    (all_map (AskedBy (asked_through last t)) (AskedBy all) (later (asked_through last t) all (least_asked (asked_through last t) ts)) (placed_in t n 0 t.postings) (each_through t n 0 last t.postings))
    (each_asked (suc n) (asked_through last t) ts)

-- postings that don't ask leave it as it is
none_through : (t : Txn) (last : ℕ) (ps : List Posting) → AllByRecursion (λ p. p.wanted ≡ None) ps → fold (λ l p. max l (asked_on t p)) last ps ≡ last
none_through t last [] h = refl
none_through t last (p ∷ ps) h =
    let none : asked_on t p ≡ 0 = ap (λ (w : Option Assertion). cond (is_some w) (day_of t p) 0) h.0 in
    let same : max last (asked_on t p) ≡ last = omega (arith, none) in
    ap (λ (k : ℕ). fold (λ l q. max l (asked_on t q)) k ps) same ∙ none_through t last ps h.1

abbrev pub AskNothing : Txn → Type 0
AskNothing t = AllByRecursion (λ p. p.wanted ≡ None) t.postings

none_asked : (last : ℕ) (ts : List Txn) → AllByRecursion AskNothing ts → fold asked_through last ts ≡ last
none_asked last [] h = refl
none_asked last (t ∷ ts) h = ap (λ (k : ℕ). fold asked_through k ts) (none_through t last t.postings h.0) ∙ none_asked last ts h.1

pub same_asked : (ts vs : List Txn) → AllByRecursion AskNothing vs → last_asked (ts ++ vs) ≡ last_asked ts
same_asked ts vs h = fold-append asked_through 0 ts vs ∙ none_asked (last_asked ts) vs h

-- ---- the numbers of transactions

abbrev IsFrom : ℕ → ℕ → Entry → Type 0
IsFrom low high e = (low ≤ e.0.txn) × (e.0.txn < high)

placed_number : (t : Txn) (n k low high : ℕ) (ps : List Posting) → low ≤ n → n < high → AllByRecursion (IsFrom low high) (placed_in t n k ps)
placed_number t n k low high [] l h = tt
placed_number t n k low high (p ∷ ps) l h = ((l, h), placed_number t n (suc k) low high ps l h)

numbered : (n low high : ℕ) (ts : List Txn) → low ≤ n → n + length ts ≤ high → AllByRecursion (IsFrom low high) (placed_from n ts)
numbered n low high [] l h = tt
numbered n low high (t ∷ ts) l h =
    all_append (IsFrom low high) (placed_in t n 0 t.postings) (placed_from (suc n) ts) (placed_number t n 0 low high t.postings l (omega (arith, h))) (numbered (suc n) low high ts (omega (arith, l)) (omega (arith, h)))

placed_both : (n : ℕ) (ts vs : List Txn) → placed_from n (ts ++ vs) ≡ placed_from n ts ++ placed_from (n + length ts) vs
placed_both n [] vs = ap (λ (k : ℕ). placed_from k vs) (let same : n ≡ n + 0 = omega arith in same)
placed_both n (t ∷ ts) vs =
    let next : suc n + length ts ≡ n + length (t ∷ ts) = omega arith in
    ap (λ (es : List Entry). placed_in t n 0 t.postings ++ es) (placed_both (suc n) ts vs ∙ ap (λ (k : ℕ). placed_from (suc n) ts ++ placed_from k vs) next)
    ∙ sym (append_assoc (placed_in t n 0 t.postings) (placed_from (suc n) ts) (placed_from (n + length (t ∷ ts)) vs))

-- ---- days behind a day

abbrev IsOn : ℕ → Entry → Type 0
IsOn day e = day ≤ e.0.day

placed_days : (t : Txn) (n k day : ℕ) (ps : List Posting) → AllByRecursion (λ p. day ≤ day_of t p) ps → AllByRecursion (IsOn day) (placed_in t n k ps)
placed_days t n k day [] h = tt
placed_days t n k day (p ∷ ps) h = (h.0, placed_days t n (suc k) day ps h.1)

abbrev pub AreLate : ℕ → Txn → Type 0
AreLate day t = AllByRecursion (λ p. day ≤ day_of t p) t.postings

all_days : (n day : ℕ) (ts : List Txn) → AllByRecursion (AreLate day) ts → AllByRecursion (IsOn day) (placed_from n ts)
all_days n day [] h = tt
all_days n day (t ∷ ts) h = all_append (IsOn day) (placed_in t n 0 t.postings) (placed_from (suc n) ts) (placed_days t n 0 day t.postings h.0) (all_days (suc n) day ts h.1)

-- ---- what transactions from a number on reach

-- the transactions from a number on
abbrev pub from_number : ℕ → ℕ → Bool
from_number k n = not (ltb n k)

pub is_first : (k n : ℕ) → n < k → from_number k n ≡ false
is_first k n h = grind (arith, nat_tests)

pub is_later : (k n : ℕ) → k ≤ n → from_number k n ≡ true
is_later k n h = grind (arith, nat_tests)

first_of : (k n : ℕ) → from_number k n ≡ false → n < k
first_of k n h = grind (arith, nat_tests)

any_none : {X : Type 0} (t : X → Bool) (xs : List X) → AllByRecursion (λ x. t x ≡ false) xs → list_any t xs ≡ false
any_none t [] h = refl
any_none t (x ∷ xs) h = (λ i. h.0 i || any_none t xs h.1 i)

none_before : (a b c x y : Bool) → a ≡ false → b ≡ false → c ≡ false → (a || (x && (b || (c && y)))) ≡ false
none_before a b c x y ea eb ec = (λ i. ea i || (x && (eb i || (ec i && y)))) ∙ and_none x

not_before : (f e : Place) → e.day ≤ f.day → e.txn < f.txn → is_before f e ≡ false
not_before f e day number =
    let a : ltb f.day e.day ≡ false = grind (arith, nat_tests) in
    let b : ltb f.txn e.txn ≡ false = grind (arith, nat_tests) in
    let c : (eqb f.txn e.txn) ≡ false = grind (arith, nat_tests) in
    none_before (ltb f.day e.day) (ltb f.txn e.txn) (eqb f.txn e.txn) (eqb f.day e.day) (ltb f.posting e.posting) a b c

-- a posting that asks on a day or before it asks for no balance to which one behind it counts
asks_none : (last k : ℕ) (e f : Entry) (w : Option Assertion) → e.1.wanted ≡ w → AskedBy last e → e.0.txn < k → k ≤ f.0.txn → last ≤ f.0.day → (is_before f.0 e.0 && counts_for w e.1.account f.1.account) ≡ false
asks_none last k e f None is asked less more day = and_none (is_before f.0 e.0)
asks_none last k e f (Some w) is asked less more day =
    let on = asked (ap is_some is) in
    ap (λ (b : Bool). b && is_of e.1.account w.below f.1.account) (not_before f.0 e.0 (omega (arith, on, day)) (omega (arith, less, more)))

abbrev IsBehind : ℕ → ℕ → Entry → Type 0
IsBehind k last f = (k ≤ f.0.txn) × (last ≤ f.0.day)

both_behind : (k last high : ℕ) (es : List Entry) → AllByRecursion (IsFrom k high) es → AllByRecursion (IsOn last) es → AllByRecursion (IsBehind k last) es
both_behind k last high [] h d = tt
both_behind k last high (e ∷ es) h d = (((h.0).0, d.0), both_behind k last high es h.1 d.1)

quiet_first : (k : ℕ) (e f : Entry) → IsFrom 0 k f → (from_number k f.0.txn && asks_for e f) ≡ false
quiet_first k e f h = ap (λ (b : Bool). b && asks_for e f) (is_first k f.0.txn h.1)

quiet_behind : (k last : ℕ) (e : Entry) → AskedBy last e → e.0.txn < k → (f : Entry) → IsBehind k last f → (from_number k f.0.txn && asks_for e f) ≡ false
quiet_behind k last e asked less f h =
    (λ i. from_number k f.0.txn && asks_none last k e f e.1.wanted refl asked less h.0 h.1 i) ∙ and_none (from_number k f.0.txn)

-- from the number of those that are there on, two books are the same but for what is behind
same_behind : (k n : ℕ) (us : List Txn) → k ≤ n → AreSame (from_number k) n [] us
same_behind k n [] h = tt
same_behind k n (u ∷ us) h = (is_later k n h, same_behind k (suc n) us (omega (arith, h)))

same_but : (k n : ℕ) (ts us : List Txn) → k ≡ n + length ts → AreSame (from_number k) n ts (ts ++ us)
same_but k n [] us h = same_behind k n us (omega (arith, h))
same_but k n (t ∷ ts) us h = ((λ off. refl), same_but k (suc n) ts us (omega (arith, h)))

module _ (ts vs : List Txn) (late : AllByRecursion (AreLate (last_asked ts)) vs) where
  abbrev pub k : ℕ
  k = length ts

  abbrev pub es : List Entry
  es = placed_from 0 ts

  abbrev pub fs : List Entry
  fs = placed_from (0 + length ts) vs

  first_from : AllByRecursion (IsFrom 0 k) es
  first_from = numbered 0 0 k ts (omega arith) (omega arith)

  behind : AllByRecursion (IsBehind k (last_asked ts)) fs
  behind =
      both_behind k (last_asked ts) (0 + length ts + length vs) fs (numbered (0 + length ts) k (0 + length ts + length vs) vs (omega arith) (omega arith)) (all_days (0 + length ts) (last_asked ts) vs late)

  none_first : (e : Entry) → list_any (λ f. from_number k f.0.txn && asks_for e f) es ≡ false
  none_first e = any_none (λ f. from_number k f.0.txn && asks_for e f) es (all_map (IsFrom 0 k) (λ f. (from_number k f.0.txn && asks_for e f) ≡ false) (quiet_first k e) es first_from)

  none_behind : (e : Entry) → AskedBy (last_asked ts) e → e.0.txn < k → list_any (λ f. from_number k f.0.txn && asks_for e f) (es ++ fs) ≡ false
  none_behind e asked less =
      any_none (λ f. from_number k f.0.txn && asks_for e f) (es ++ fs)
      (all_append (λ f. (from_number k f.0.txn && asks_for e f) ≡ false) es fs
      (all_map (IsFrom 0 k) (λ f. (from_number k f.0.txn && asks_for e f) ≡ false) (quiet_first k e) es first_from)
      (all_map (IsBehind k (last_asked ts)) (λ f. (from_number k f.0.txn && asks_for e f) ≡ false) (quiet_behind k (last_asked ts) e asked less) fs behind))

  pub whole : placed_from 0 (ts ++ vs) ≡ es ++ fs
  whole = placed_both 0 ts vs

  others : filter (is_other (from_number k)) (placed_from 0 ts) ≡ filter (is_other (from_number k)) (placed_from 0 (ts ++ vs))
  others = same-others (from_number k) 0 ts (ts ++ vs) (same_but k 0 ts vs (omega arith))

  none_in : (e : Entry) → AskedBy (last_asked ts) e → e.0.txn < k → list_any (λ f. from_number k f.0.txn && asks_for e f) (placed_from 0 (ts ++ vs)) ≡ false
  none_in e asked less = ap (list_any (λ f. from_number k f.0.txn && asks_for e f)) whole ∙ none_behind e asked less

  sums_in : (xs : List Entry) → AllByRecursion (AskedBy (last_asked ts)) xs → AllByRecursion (IsFrom 0 k) xs → AllByRecursion (SameSums ts (ts ++ vs)) xs
  sums_in [] h f = tt
  sums_in (e ∷ xs) h f =
      (same-sums (from_number k) ts (ts ++ vs) e others (is_first k e.0.txn f.0.1) (none_first e) (none_in e h.0 f.0.1), sums_in xs h.1 f.1)

  -- what the book asks for is the same with what is behind
  pub still_sums : AllByRecursion (SameSums ts (ts ++ vs)) (placed_from 0 ts)
  still_sums = sums_in es (each_asked 0 0 ts) first_from
