-- What an import adds: entries by day.
use Rattle.std.proofs.Common.{◌≡◌, ℕ, zero, suc, ◌+◌, ◌==◌, ◌<◌, ◌≤◌, Bool, true, false, ◌&&◌, cond, ltb, leb, max, min, List, [], ◌∷◌, ◌++◌, length, drop, Option, Some, None, ◌⊎◌, inl, inr, refl, sym, ap, ◌∙◌, subst, arith}
use Rattle.std.specs.List.{fold, list_all}
use Rattle.std.proofs.lemmas.Bool.{false≢true, cases_lt}
use Rattle.std.proofs.lemmas.Bool.Decides.{nat_tests}
use Rattle.std.proofs.lemmas.List.{append-nil, append_assoc}
use Rattle.hl_base.specs.declared.change.Latest.{Latest}
use Rattle.book.specs.declared.transaction.Txn.{Txn}
use Rattle.csv_rules.specs.Importing.{is_ordered, on_day, after_day, before_day, greatest_day, new_after, state_by, state_after}

-- ---- tests

both : (a b : Bool) → (a && b) ≡ true → (a ≡ true) × (b ≡ true)
both true b h = (refl, h)
both false b h = absurd (false≢true h)

together : (a b : Bool) → a ≡ true → b ≡ true → (a && b) ≡ true
together a b h k = ap (λ x. x && b) h ∙ k

eq-yes : (a b : ℕ) → a ≡ b → (a == b) ≡ true
eq-yes a b h = grind (arith, nat_tests)

eq-no : (a b : ℕ) → (a < b) ⊎ (b < a) → (a == b) ≡ false
eq-no a b (inl h) = grind (arith, nat_tests)
eq-no a b (inr h) = grind (arith, nat_tests)

lt-yes : (a b : ℕ) → a < b → ltb a b ≡ true
lt-yes a b h = grind (arith, nat_tests)

lt-no : (a b : ℕ) → b ≤ a → ltb a b ≡ false
lt-no a b h = grind (arith, nat_tests)

le-yes : (a b : ℕ) → a ≤ b → leb a b ≡ true
le-yes a b h = grind (arith, nat_tests)

le-from : (a b : ℕ) → leb a b ≡ true → a ≤ b
le-from a b h = grind (arith, nat_tests)

lt-from : (a b : ℕ) → ltb a b ≡ true → a < b
lt-from a b h = grind (arith, nat_tests)

eq-from : (a b : ℕ) → (a == b) ≡ true → a ≡ b
eq-from a b h = grind (arith, nat_tests)

-- ---- days

abbrev from : ℕ → List Txn → Bool
from day ts = list_all (λ (u : Txn). leb day u.day.0) ts

abbrev upto : ℕ → List Txn → Bool
upto day ts = list_all (λ (u : Txn). leb u.day.0 day) ts

none-on : (d e : ℕ) (ts : List Txn) → d < e → from e ts ≡ true → on_day d ts ≡ []
none-on d e [] less h = refl
none-on d e (t ∷ ts) less h =
    let parts = both (leb e t.day.0) (from e ts) h in
    ap (λ (b : Bool). cond b (t ∷ on_day d ts) (on_day d ts)) (eq-no t.day.0 d (inr (omega (arith, less, le-from e t.day.0 parts.0)))) ∙ none-on d e ts less parts.1

all-after : (d e : ℕ) (ts : List Txn) → d < e → from e ts ≡ true → after_day d ts ≡ ts
all-after d e [] less h = refl
all-after d e (t ∷ ts) less h =
    let parts = both (leb e t.day.0) (from e ts) h in
    ap (λ (b : Bool). cond b (t ∷ after_day d ts) (after_day d ts)) (lt-yes d t.day.0 (omega (arith, less, le-from e t.day.0 parts.0))) ∙ ap (λ (us : List Txn). t ∷ us) (all-after d e ts less parts.1)

none-before : (d e : ℕ) (ts : List Txn) → d ≤ e → from e ts ≡ true → before_day d ts ≡ []
none-before d e [] less h = refl
none-before d e (t ∷ ts) less h =
    let parts = both (leb e t.day.0) (from e ts) h in
    ap (λ (b : Bool). cond b (t ∷ before_day d ts) (before_day d ts)) (lt-no t.day.0 d (omega (arith, less, le-from e t.day.0 parts.0))) ∙ none-before d e ts less parts.1

from-less : (d e : ℕ) (ts : List Txn) → d ≤ e → from e ts ≡ true → from d ts ≡ true
from-less d e [] less h = refl
from-less d e (t ∷ ts) less h =
    let parts = both (leb e t.day.0) (from e ts) h in
    together (leb d t.day.0) (from d ts) (le-yes d t.day.0 (omega (arith, less, le-from e t.day.0 parts.0))) (from-less d e ts less parts.1)

-- entries from a day on are those of it and those after it
rest-is : (d : ℕ) (ts : List Txn) → is_ordered ts ≡ true → from d ts ≡ true → on_day d ts ++ after_day d ts ≡ ts
rest-is d [] ordered h = refl
rest-is d (t ∷ ts) ordered h =
    let order = both (from t.day.0 ts) (is_ordered ts) ordered in
    let parts = both (leb d t.day.0) (from d ts) h in
    elim (cases_lt d t.day.0) [
      | inl less ↦
          (λ i. cond (eq-no t.day.0 d (inr less) i) (t ∷ on_day d ts) (on_day d ts) ++ cond (lt-yes d t.day.0 less i) (t ∷ after_day d ts) (after_day d ts))
          ∙ (λ i. none-on d t.day.0 ts less order.0 i ++ (t ∷ all-after d t.day.0 ts less order.0 i))
      | inr more ↦
          let same : t.day.0 ≡ d = omega (arith, more, le-from d t.day.0 parts.0) in
          (λ i. cond (eq-yes t.day.0 d same i) (t ∷ on_day d ts) (on_day d ts) ++ cond (lt-no d t.day.0 more i) (t ∷ after_day d ts) (after_day d ts))
          ∙ ap (λ (us : List Txn). t ∷ us) (rest-is d ts order.1 parts.1)
    ]

-- ---- what is skipped

pub skipped-within : (d : ℕ) (ts : List Txn) → length (before_day d ts) + length (on_day d ts) ≤ length ts
skipped-within d [] = omega arith
skipped-within d (t ∷ ts) =
    let rest = skipped-within d ts in
    elim (cases_lt t.day.0 d) [
      | inl less ↦
          let one = ap (λ (b : Bool). length (cond b (t ∷ before_day d ts) (before_day d ts))) (lt-yes t.day.0 d less) in
          let two = ap (λ (b : Bool). length (cond b (t ∷ on_day d ts) (on_day d ts))) (eq-no t.day.0 d (inl less)) in
          omega (arith, rest, one, two)
      | inr more ↦
          let one = ap (λ (b : Bool). length (cond b (t ∷ before_day d ts) (before_day d ts))) (lt-no t.day.0 d more) in
          let two = at_most (t.day.0 == d) t (on_day d ts) in
          omega (arith, rest, one, two)
    ]
  where
    at_most : (b : Bool) (x : Txn) (xs : List Txn) → length (cond b (x ∷ xs) xs) ≤ 1 + length xs
    at_most true x xs = omega arith
    at_most false x xs = omega arith

drop-nil : (n : ℕ) → drop {A = Txn} n [] ≡ []
drop-nil zero = refl
drop-nil (suc n) = refl

pub skipped-is : (d c : ℕ) (ts : List Txn) → is_ordered ts ≡ true → drop (length (before_day d ts) + min (length (on_day d ts)) c) ts ≡ drop c (on_day d ts) ++ after_day d ts
skipped-is d c [] ordered = drop-nil (0 + min 0 c) ∙ ap (λ (xs : List Txn). xs ++ []) (sym (drop-nil c))
skipped-is d c (t ∷ ts) ordered =
    let order = both (from t.day.0 ts) (is_ordered ts) ordered in
    elim (cases_lt t.day.0 d) [
      | inl less ↦
          let before : before_day d (t ∷ ts) ≡ t ∷ before_day d ts = ap (λ (b : Bool). cond b (t ∷ before_day d ts) (before_day d ts)) (lt-yes t.day.0 d less) in
          let on : on_day d (t ∷ ts) ≡ on_day d ts = ap (λ (b : Bool). cond b (t ∷ on_day d ts) (on_day d ts)) (eq-no t.day.0 d (inl less)) in
          let after : after_day d (t ∷ ts) ≡ after_day d ts = ap (λ (b : Bool). cond b (t ∷ after_day d ts) (after_day d ts)) (lt-no d t.day.0 (omega (arith, less))) in
          (λ i. drop (length (before i) + min (length (on i)) c) (t ∷ ts))
          ∙ ap (λ (n : ℕ). drop n (t ∷ ts)) (let n : suc (length (before_day d ts)) + min (length (on_day d ts)) c ≡ suc (length (before_day d ts) + min (length (on_day d ts)) c) = omega arith in n)
          ∙ one (length (before_day d ts) + min (length (on_day d ts)) c)
          ∙ skipped-is d c ts order.1 ∙ sym (λ i. drop c (on i) ++ after i)
      | inr more ↦ elim (cases_lt d t.day.0) [
        | inl less ↦
            let all : from t.day.0 (t ∷ ts) ≡ true = together (leb t.day.0 t.day.0) (from t.day.0 ts) (le-yes t.day.0 t.day.0 (omega arith)) order.0 in
            (λ i. drop (length (none-before d t.day.0 (t ∷ ts) more all i) + min (length (none-on d t.day.0 (t ∷ ts) less all i)) c) (t ∷ ts))
            ∙ ap (λ (n : ℕ). drop n (t ∷ ts)) (let n : 0 + min 0 c ≡ 0 = omega arith in n)
            ∙ sym ((λ i. drop c (none-on d t.day.0 (t ∷ ts) less all i) ++ all-after d t.day.0 (t ∷ ts) less all i) ∙ ap (λ (xs : List Txn). xs ++ (t ∷ ts)) (drop-nil c))
        | inr less ↦ here c (omega (arith, more, less)) order.0 order.1 (λ k. skipped-is d k ts order.1)
      ]
    ]
  where
    one : (n : ℕ) → drop (suc n) (t ∷ ts) ≡ drop n ts
    one n = refl

    here : (k : ℕ) → t.day.0 ≡ d → from t.day.0 ts ≡ true → is_ordered ts ≡ true → ((k : ℕ) → drop (length (before_day d ts) + min (length (on_day d ts)) k) ts ≡ drop k (on_day d ts) ++ after_day d ts)
        → drop (length (before_day d (t ∷ ts)) + min (length (on_day d (t ∷ ts))) k) (t ∷ ts) ≡ drop k (on_day d (t ∷ ts)) ++ after_day d (t ∷ ts)
    here k same first order rest =
        let later : from d ts ≡ true = from-less d t.day.0 ts (omega (arith, same)) first in
        let before : before_day d (t ∷ ts) ≡ [] = ap (λ (b : Bool). cond b (t ∷ before_day d ts) (before_day d ts)) (lt-no t.day.0 d (omega (arith, same))) ∙ none-before d d ts (omega arith) later in
        let on : on_day d (t ∷ ts) ≡ t ∷ on_day d ts = ap (λ (b : Bool). cond b (t ∷ on_day d ts) (on_day d ts)) (eq-yes t.day.0 d same) in
        let after : after_day d (t ∷ ts) ≡ after_day d ts = ap (λ (b : Bool). cond b (t ∷ after_day d ts) (after_day d ts)) (lt-no d t.day.0 (omega (arith, same))) in
        (λ i. drop (length (before i) + min (length (on i)) k) (t ∷ ts)) ∙ by k later (ap (λ (xs : List Txn). λ (j : ℕ). drop (length xs + min (length (on_day d ts)) j) ts) (sym (none-before d d ts (omega arith) later))) ∙ sym (λ i. drop k (on i) ++ after i)
      where
        by : (k : ℕ) → from d ts ≡ true → ◌≡◌ {A = ℕ → List Txn} (λ (j : ℕ). drop (0 + min (length (on_day d ts)) j) ts) (λ (j : ℕ). drop (length (before_day d ts) + min (length (on_day d ts)) j) ts)
            → drop (0 + min (suc (length (on_day d ts))) k) (t ∷ ts) ≡ drop k (t ∷ on_day d ts) ++ after_day d ts
        by zero later same = ap (λ (n : ℕ). drop n (t ∷ ts)) (let n : 0 + min (suc (length (on_day d ts))) 0 ≡ 0 = omega arith in n) ∙ ap (λ (us : List Txn). t ∷ us) (sym (rest-is d ts order later))
        by (suc k) later same = ap (λ (n : ℕ). drop n (t ∷ ts)) (let n : 0 + min (suc (length (on_day d ts))) (suc k) ≡ suc (0 + min (length (on_day d ts)) k) = omega arith in n) ∙ ap (λ (f : ℕ → List Txn). f k) same ∙ rest k

-- ---- the greatest day

upto-less : (d e : ℕ) (ts : List Txn) → d ≤ e → upto d ts ≡ true → upto e ts ≡ true
upto-less d e [] less h = refl
upto-less d e (t ∷ ts) less h =
    let parts = both (leb t.day.0 d) (upto d ts) h in
    together (leb t.day.0 e) (upto e ts) (le-yes t.day.0 e (omega (arith, less, le-from t.day.0 d parts.0))) (upto-less d e ts less parts.1)

abbrev greatest : ℕ → List Txn → ℕ
greatest acc ts = fold (λ (day : ℕ) (t : Txn). max day t.day.0) acc ts

greatest-above : (acc : ℕ) (ts : List Txn) → acc ≤ greatest acc ts
greatest-above acc [] = omega arith
greatest-above acc (t ∷ ts) = omega (arith, greatest-above (max acc t.day.0) ts)

greatest-upto : (acc : ℕ) (ts : List Txn) → upto (greatest acc ts) ts ≡ true
greatest-upto acc [] = refl
greatest-upto acc (t ∷ ts) =
    together (leb t.day.0 (greatest acc (t ∷ ts))) (upto (greatest acc (t ∷ ts)) ts)
    (le-yes t.day.0 (greatest acc (t ∷ ts)) (omega (arith, greatest-above (max acc t.day.0) ts))) (greatest-upto (max acc t.day.0) ts)

upto-after : (d : ℕ) (ts : List Txn) → upto d ts ≡ true → after_day d ts ≡ []
upto-after d [] h = refl
upto-after d (t ∷ ts) h =
    let parts = both (leb t.day.0 d) (upto d ts) h in
    ap (λ (b : Bool). cond b (t ∷ after_day d ts) (after_day d ts)) (lt-no d t.day.0 (le-from t.day.0 d parts.0)) ∙ upto-after d ts parts.1

all-parts : (f : Txn → Bool) (xs ys : List Txn) → list_all f (xs ++ ys) ≡ true → (list_all f xs ≡ true) × (list_all f ys ≡ true)
all-parts f [] ys h = (refl, h)
all-parts f (x ∷ xs) ys h =
    let parts = both (f x) (list_all f (xs ++ ys)) h in
    let rest = all-parts f xs ys parts.1 in
    (together (f x) (list_all f xs) parts.0 rest.0, rest.1)

all-joined : (f : Txn → Bool) (xs ys : List Txn) → list_all f xs ≡ true → list_all f ys ≡ true → list_all f (xs ++ ys) ≡ true
all-joined f [] ys h k = k
all-joined f (x ∷ xs) ys h k =
    let parts = both (f x) (list_all f xs) h in
    together (f x) (list_all f (xs ++ ys)) parts.0 (all-joined f xs ys parts.1 k)

-- days after a day, and of these those after a later one
after-after : (d e : ℕ) (ts : List Txn) → d ≤ e → after_day e (after_day d ts) ≡ after_day e ts
after-after d e [] less = refl
after-after d e (t ∷ ts) less = elim (cases_lt d t.day.0) [
  | inl later ↦
      ap (λ (b : Bool). after_day e (cond b (t ∷ after_day d ts) (after_day d ts))) (lt-yes d t.day.0 later)
      ∙ ap (λ (us : List Txn). cond (ltb e t.day.0) (t ∷ us) us) (after-after d e ts less)
  | inr sooner ↦
      ap (λ (b : Bool). after_day e (cond b (t ∷ after_day d ts) (after_day d ts))) (lt-no d t.day.0 sooner) ∙ after-after d e ts less
      ∙ sym (ap (λ (b : Bool). cond b (t ∷ after_day e ts) (after_day e ts)) (lt-no e t.day.0 (omega (arith, sooner, less))))
]

from-on : (d : ℕ) (ts : List Txn) → from d (on_day d ts) ≡ true
from-on d [] = refl
from-on d (t ∷ ts) =
    elim (t.day.0 == d) as (λ b. (t.day.0 == d) ≡ b → from d (cond b (t ∷ on_day d ts) (on_day d ts)) ≡ true) [
      | true ↦ λ e. together (leb d t.day.0) (from d (on_day d ts)) (le-yes d t.day.0 (omega (arith, eq-from t.day.0 d e))) (from-on d ts)
      | false ↦ λ e. from-on d ts
    ] refl

from-after : (d : ℕ) (ts : List Txn) → from d (after_day d ts) ≡ true
from-after d [] = refl
from-after d (t ∷ ts) =
    elim (ltb d t.day.0) as (λ b. ltb d t.day.0 ≡ b → from d (cond b (t ∷ after_day d ts) (after_day d ts)) ≡ true) [
      | true ↦ λ e. together (leb d t.day.0) (from d (after_day d ts)) (le-yes d t.day.0 (omega (arith, lt-from d t.day.0 e))) (from-after d ts)
      | false ↦ λ e. from-after d ts
    ] refl

all-drop : (f : Txn → Bool) (n : ℕ) (ts : List Txn) → list_all f ts ≡ true → list_all f (drop n ts) ≡ true
all-drop f zero ts h = h
all-drop f (suc n) [] h = refl
all-drop f (suc n) (t ∷ ts) h = all-drop f n ts (both (f t) (list_all f ts) h).1

all-on : (f : Txn → Bool) (d : ℕ) (ts : List Txn) → list_all f ts ≡ true → list_all f (on_day d ts) ≡ true
all-on f d [] h = refl
all-on f d (t ∷ ts) h =
    let parts = both (f t) (list_all f ts) h in
    elim (t.day.0 == d) as (λ b. list_all f (cond b (t ∷ on_day d ts) (on_day d ts)) ≡ true) [
      | true ↦ together (f t) (list_all f (on_day d ts)) parts.0 (all-on f d ts parts.1)
      | false ↦ all-on f d ts parts.1
    ]

all-after_day : (f : Txn → Bool) (d : ℕ) (ts : List Txn) → list_all f ts ≡ true → list_all f (after_day d ts) ≡ true
all-after_day f d [] h = refl
all-after_day f d (t ∷ ts) h =
    let parts = both (f t) (list_all f ts) h in
    elim (ltb d t.day.0) as (λ b. list_all f (cond b (t ∷ after_day d ts) (after_day d ts)) ≡ true) [
      | true ↦ together (f t) (list_all f (after_day d ts)) parts.0 (all-after_day f d ts parts.1)
      | false ↦ all-after_day f d ts parts.1
    ]

all-new : (f : Txn → Bool) (state : Option Latest) (ts : List Txn) → list_all f ts ≡ true → list_all f (new_after state ts) ≡ true
all-new f None ts h = h
all-new f (Some s) ts h = all-joined f (drop s.count (on_day s.day ts)) (after_day s.day ts) (all-drop f s.count (on_day s.day ts) (all-on f s.day ts h)) (all-after_day f s.day ts h)

drop-all : (ts : List Txn) → drop (length ts) ts ≡ []
drop-all [] = refl
drop-all (t ∷ ts) = drop-all ts

drop-front : (xs ys : List Txn) → drop (length xs) (xs ++ ys) ≡ ys
drop-front [] ys = refl
drop-front (x ∷ xs) ys = drop-front xs ys

-- the day of a state that an import leaves is the last
last-day : (state : Option Latest) (ts : List Txn) (n : Txn) (new : List Txn) → new_after state ts ≡ n ∷ new → after_day (greatest_day (n ∷ new)) ts ≡ []
last-day None ts n new is = upto-after (greatest_day (n ∷ new)) ts (ap (upto (greatest_day (n ∷ new))) is ∙ greatest-upto 0 (n ∷ new))
last-day (Some s) ts n new is =
    let day = greatest_day (n ∷ new) in
    let all = ap (upto day) is ∙ greatest-upto 0 (n ∷ new) in
    let late = (all-parts (λ u. leb u.day.0 day) (drop s.count (on_day s.day ts)) (after_day s.day ts) all).1 in
    let early = ap (from s.day) (sym is) ∙ all-joined (λ u. leb s.day u.day.0) (drop s.count (on_day s.day ts)) (after_day s.day ts) (all-drop (λ u. leb s.day u.day.0) s.count (on_day s.day ts) (from-on s.day ts)) (from-after s.day ts) in
    let first = le-from s.day n.day.0 (both (leb s.day n.day.0) (from s.day new) early).0 in
    let above = greatest-above (max 0 n.day.0) new in
    sym (after-after s.day day ts (omega (arith, first, above))) ∙ upto-after day (after_day s.day ts) late

-- ---- importing twice

pub twice-new : (name : List ℕ) (state : Option Latest) (ts : List Txn) → new_after (state_after name state ts) ts ≡ []
twice-new name state ts =
    elim (new_after state ts) as (λ new. new_after state ts ≡ new → new_after (state_by name state ts new) ts ≡ []) [
      | [] ↦ λ is. is
      | n ∷ new ↦ λ is. (λ i. drop-all (on_day (greatest_day (n ∷ new)) ts) i ++ last-day state ts n new is i)
    ] refl

pub twice-state : (name : List ℕ) (state : Option Latest) (ts : List Txn) → state_after name (state_after name state ts) ts ≡ state_after name state ts
twice-state name state ts = ap (state_by name (state_after name state ts) ts) (twice-new name state ts)

-- ---- importing further entries

greatest-more : (acc : ℕ) (u : Txn) (us : List Txn) → acc ≤ u.day.0 → greatest acc (u ∷ us) ≡ greatest 0 (u ∷ us)
greatest-more acc u us less = ap (λ (n : ℕ). greatest n us) (let n : max acc u.day.0 ≡ max 0 u.day.0 = omega (arith, less) in n)

greatest-append : (acc : ℕ) (xs ys : List Txn) → greatest acc (xs ++ ys) ≡ greatest (greatest acc xs) ys
greatest-append acc [] ys = refl
greatest-append acc (x ∷ xs) ys = greatest-append (max acc x.day.0) xs ys

-- entries that stand after some others don't stand before the greatest day of those
from-greatest : (acc : ℕ) (xs us : List Txn) → from acc us ≡ true → list_all (λ (x : Txn). from x.day.0 us) xs ≡ true → from (greatest acc xs) us ≡ true
from-greatest acc [] us h all = h
from-greatest acc (x ∷ xs) us h all =
    let parts = both (from x.day.0 us) (list_all (λ (x : Txn). from x.day.0 us) xs) all in
    from-greatest (max acc x.day.0) xs us (elim (cases_lt acc x.day.0) [
      | inl less ↦ subst (λ (n : ℕ). from n us ≡ true) (let n : x.day.0 ≡ max acc x.day.0 = omega (arith, less) in n) parts.0
      | inr more ↦ subst (λ (n : ℕ). from n us ≡ true) (let n : acc ≡ max acc x.day.0 = omega (arith, more) in n) h
    ]) parts.1

from-zero : (us : List Txn) → from 0 us ≡ true
from-zero [] = refl
from-zero (u ∷ us) = together (leb 0 u.day.0) (from 0 us) (le-yes 0 u.day.0 (omega arith)) (from-zero us)

ordered-parts : (ts us : List Txn) → is_ordered (ts ++ us) ≡ true → (list_all (λ (x : Txn). from x.day.0 us) ts ≡ true) × (is_ordered us ≡ true)
ordered-parts [] us h = (refl, h)
ordered-parts (t ∷ ts) us h =
    let parts = both (from t.day.0 (ts ++ us)) (is_ordered (ts ++ us)) h in
    let rest = ordered-parts ts us parts.1 in
    (together (from t.day.0 us) (list_all (λ (x : Txn). from x.day.0 us) ts) (all-parts (λ (u : Txn). leb t.day.0 u.day.0) ts us parts.0).1 rest.0, rest.1)

on-append : (d : ℕ) (ts us : List Txn) → on_day d (ts ++ us) ≡ on_day d ts ++ on_day d us
on-append d [] us = refl
on-append d (t ∷ ts) us =
    elim (t.day.0 == d) as (λ b. cond b (t ∷ on_day d (ts ++ us)) (on_day d (ts ++ us)) ≡ cond b (t ∷ on_day d ts) (on_day d ts) ++ on_day d us) [
      | true ↦ ap (λ (xs : List Txn). t ∷ xs) (on-append d ts us)
      | false ↦ on-append d ts us
    ]

after-append : (d : ℕ) (ts us : List Txn) → after_day d (ts ++ us) ≡ after_day d ts ++ after_day d us
after-append d [] us = refl
after-append d (t ∷ ts) us =
    elim (ltb d t.day.0) as (λ b. cond b (t ∷ after_day d (ts ++ us)) (after_day d (ts ++ us)) ≡ cond b (t ∷ after_day d ts) (after_day d ts) ++ after_day d us) [
      | true ↦ ap (λ (xs : List Txn). t ∷ xs) (after-append d ts us)
      | false ↦ after-append d ts us
    ]

drop-inside : (c : ℕ) (xs ys : List Txn) (n : Txn) (ns : List Txn) → drop c xs ≡ n ∷ ns → drop c (xs ++ ys) ≡ drop c xs ++ ys
drop-inside zero xs ys n ns h = refl
drop-inside (suc c) [] ys n ns h = absurd (let never : ⊥ = cc in never)
drop-inside (suc c) (x ∷ xs) ys n ns h = drop-inside c xs ys n ns h

-- with something new, further entries are new after a state too
further-after : (state : Option Latest) (ts us : List Txn) (n : Txn) (new : List Txn) → is_ordered (ts ++ us) ≡ true → new_after state ts ≡ n ∷ new → new_after state (ts ++ us) ≡ new_after state ts ++ us
further-after None ts us n new ordered is = refl
further-after (Some s) ts us n new ordered is =
    let d = s.day in
    let c = s.count in
    let order = ordered-parts ts us ordered in
    (λ i. drop c (on-append d ts us i) ++ after-append d ts us i)
    ∙ elim (after_day d ts) as (λ later. after_day d ts ≡ later → drop c (on_day d ts ++ on_day d us) ++ (later ++ after_day d us) ≡ (drop c (on_day d ts) ++ later) ++ us) [
      | a ∷ later ↦ λ e.
          let beyond : from a.day.0 us ≡ true = (both (from a.day.0 us) (list_all (λ (x : Txn). from x.day.0 us) later) (ap (list_all (λ (x : Txn). from x.day.0 us)) (sym e) ∙ all-after_day (λ (x : Txn). from x.day.0 us) d ts order.0)).0 in
          let past : d < a.day.0 = first-after d ts a later e in
          (λ i. drop c (on_day d ts ++ none-on d a.day.0 us past beyond i) ++ ((a ∷ later) ++ all-after d a.day.0 us past beyond i))
          ∙ ap (λ (xs : List Txn). drop c xs ++ ((a ∷ later) ++ us)) (append-nil (on_day d ts)) ∙ sym (append_assoc (drop c (on_day d ts)) (a ∷ later) us)
      | [] ↦ λ e.
          let kept : drop c (on_day d ts) ≡ n ∷ new = sym (append-nil (drop c (on_day d ts))) ∙ ap (λ (xs : List Txn). drop c (on_day d ts) ++ xs) (sym e) ∙ is in
          let mine : from n.day.0 us ≡ true = (both (from n.day.0 us) (list_all (λ (x : Txn). from x.day.0 us) new) (ap (list_all (λ (x : Txn). from x.day.0 us)) (sym kept) ∙ all-drop (λ (x : Txn). from x.day.0 us) c (on_day d ts) (all-on (λ (x : Txn). from x.day.0 us) d ts order.0))).0 in
          let low : d ≤ n.day.0 = le-from d n.day.0 (both (leb d n.day.0) (from d new) (ap (from d) (sym kept) ∙ all-drop (λ (u : Txn). leb d u.day.0) c (on_day d ts) (from-on d ts))).0 in
          ap (λ (xs : List Txn). xs ++ ([] ++ after_day d us)) (drop-inside c (on_day d ts) (on_day d us) n new kept)
          ∙ append_assoc (drop c (on_day d ts)) (on_day d us) (after_day d us)
          ∙ ap (λ (xs : List Txn). drop c (on_day d ts) ++ xs) (rest-is d us order.1 (from-less d n.day.0 us low mine))
          ∙ sym (append_assoc (drop c (on_day d ts)) [] us)
    ] refl
  where
    first-after : (d : ℕ) (ts : List Txn) (a : Txn) (later : List Txn) → after_day d ts ≡ a ∷ later → d < a.day.0
    first-after d ts a later e = lt-from d a.day.0 (both (ltb d a.day.0) (list_all (λ (u : Txn). ltb d u.day.0) later) (ap (list_all (λ (u : Txn). ltb d u.day.0)) (sym e) ∙ beyond ts)).0
      where
        beyond : (xs : List Txn) → list_all (λ (u : Txn). ltb d u.day.0) (after_day d xs) ≡ true
        beyond [] = refl
        beyond (x ∷ xs) =
            elim (ltb d x.day.0) as (λ b. ltb d x.day.0 ≡ b → list_all (λ (u : Txn). ltb d u.day.0) (cond b (x ∷ after_day d xs) (after_day d xs)) ≡ true) [
              | true ↦ λ e. together (ltb d x.day.0) (list_all (λ (u : Txn). ltb d u.day.0) (after_day d xs)) e (beyond xs)
              | false ↦ λ e. beyond xs
            ] refl

module _ (name : List ℕ) (state : Option Latest) (ts us : List Txn) (ordered : is_ordered (ts ++ us) ≡ true) where
  order : (list_all (λ (x : Txn). from x.day.0 us) ts ≡ true) × (is_ordered us ≡ true)
  order = ordered-parts ts us ordered

  -- after the state that something new leaves, the further entries are new
  after-new : (n : Txn) (new : List Txn) → new_after state ts ≡ n ∷ new → new_after (state_by name state ts (n ∷ new)) (ts ++ us) ≡ us
  after-new n new is =
      let day = greatest_day (n ∷ new) in
      let late : from day us ≡ true = from-greatest 0 (n ∷ new) us (from-zero us) (ap (list_all (λ (x : Txn). from x.day.0 us)) (sym is) ∙ all-new (λ (x : Txn). from x.day.0 us) state ts order.0) in
      (λ i. drop (length (on_day day ts)) (on-append day ts us i) ++ (after-append day ts us ∙ ap (λ (xs : List Txn). xs ++ after_day day us) (last-day state ts n new is)) i)
      ∙ ap (λ (xs : List Txn). xs ++ after_day day us) (drop-front (on_day day ts) (on_day day us)) ∙ rest-is day us order.1 late

  pub further-new : new_after state ts ++ new_after (state_after name state ts) (ts ++ us) ≡ new_after state (ts ++ us)
  further-new =
      elim (new_after state ts) as (λ new. new_after state ts ≡ new → new ++ new_after (state_by name state ts new) (ts ++ us) ≡ new_after state (ts ++ us)) [
        | [] ↦ λ is. refl
        | n ∷ new ↦ λ is. ap (λ (xs : List Txn). (n ∷ new) ++ xs) (after-new n new is) ∙ ap (λ (xs : List Txn). xs ++ us) (sym is) ∙ sym (further-after state ts us n new ordered is)
      ] refl

  pub further-state : state_after name (state_after name state ts) (ts ++ us) ≡ state_after name state (ts ++ us)
  further-state =
      elim (new_after state ts) as (λ new. new_after state ts ≡ new → state_by name (state_by name state ts new) (ts ++ us) (new_after (state_by name state ts new) (ts ++ us)) ≡ state_by name state (ts ++ us) (new_after state (ts ++ us))) [
        | [] ↦ λ is. refl
        | n ∷ new ↦ λ is.
            ap (state_by name (state_by name state ts (n ∷ new)) (ts ++ us)) (after-new n new is)
            ∙ more n new is us refl
            ∙ sym (ap (state_by name state (ts ++ us)) (further-after state ts us n new ordered is ∙ ap (λ (xs : List Txn). xs ++ us) is))
      ] refl
    where
      more : (n : Txn) (new : List Txn) → new_after state ts ≡ n ∷ new → (vs : List Txn) → us ≡ vs → state_by name (state_by name state ts (n ∷ new)) (ts ++ us) vs ≡ state_by name state (ts ++ us) ((n ∷ new) ++ us)
      more n new is [] e =
          let whole : ts ++ us ≡ ts = ap (λ (xs : List Txn). ts ++ xs) e ∙ append-nil ts in
          let same : (n ∷ new) ++ us ≡ n ∷ new = ap (λ (xs : List Txn). (n ∷ new) ++ xs) e ∙ append-nil (n ∷ new) in
          sym (λ i. state_by name state (whole i) (same i))
      more n new is (v ∷ vs) e =
          let late : from (greatest_day (n ∷ new)) us ≡ true = from-greatest 0 (n ∷ new) us (from-zero us) (ap (list_all (λ (x : Txn). from x.day.0 us)) (sym is) ∙ all-new (λ (x : Txn). from x.day.0 us) state ts order.0) in
          let first : greatest_day (n ∷ new) ≤ v.day.0 = le-from _ v.day.0 (both (leb (greatest_day (n ∷ new)) v.day.0) (from (greatest_day (n ∷ new)) vs) (ap (from (greatest_day (n ∷ new))) (sym e) ∙ late)).0 in
          let day : greatest_day ((n ∷ new) ++ us) ≡ greatest_day (v ∷ vs) = greatest-append 0 (n ∷ new) us ∙ ap (greatest (greatest_day (n ∷ new))) e ∙ greatest-more (greatest_day (n ∷ new)) v vs first in
          sym (ap (λ (k : ℕ). Some (record { name = name; day = k; count = length (on_day k (ts ++ us)) })) day)
