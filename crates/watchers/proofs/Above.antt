-- The accounts above an account, by the lengths of their names; and the watches that a change reaches.
use Rattle.std.proofs.Common.{◌≡◌, ℕ, zero, suc, ◌+◌, ◌<◌, ◌==◌, nat_lt, nat_eq, Bool, true, false, ◌&&◌, ◌||◌, List, [], ◌∷◌, ◌++◌, Option, Some, None, length, take, get_or, refl, sym, ap, subst, ◌∙◌, arith}
use Rattle.std.specs.List.{starts_with}
use Rattle.std.specs.Str.{bytes_eq}
use Rattle.std.specs.declared.cmp.Ordering.{Ordering}
use Rattle.std.specs.declared.cmp.Ordering.TheVariants.{Less, Equal, Greater}
use Rattle.std.specs.Ordering.{nat_cmp, bool_cmp, ordering_then, is_eq, is_lt}
use Rattle.std.specs.Cmp.Lexicographic.{slice_cmp}
use Rattle.std.proofs.lemmas.Bool.{false≢true}
use Rattle.std.proofs.lemmas.Bool.Decides.{nat_tests}
use Rattle.std.proofs.lemmas.Slice.Eq.{bytes_eq-Decides}
use Rattle.std.proofs.lemmas.Map.Text.{is_eq-slice_cmp}
use Rattle.hl_base.specs.Ascii.{colon}
use Rattle.watchers.specs.declared.watch.Place.{Place}
use Rattle.watchers.specs.declared.watch.Watch.{Watch}
use Rattle.watchers.specs.Order.{kind_cmp, place_cmp}
use Rattle.watchers.specs.Reach.{is_before, is_kind, is_over, is_over_at, is_reached, reaches, earlier, IsFirst}
use Rattle.watchers.proofs.Firsts.{first-either, first-same}
use Rattle.watchers.proofs.Orders.{before-is}
use Rattle.watchers.proofs.Tests.{and-both, and-first, and-second, none-never, not-true, same-bool}

eq-of : (n k : ℕ) → (n == k) ≡ true → n ≡ k
eq-of n k h = grind (arith, nat_tests)

eq-true : (n k : ℕ) → n ≡ k → (n == k) ≡ true
eq-true n k h = grind (arith, nat_tests)

-- ---- names

-- an account's name goes on from a name with a colon
abbrev goes_on : List ℕ → List ℕ → Bool
goes_on name account = starts_with nat_eq account (name ++ colon ∷ [])

record GoesOn (name account : List ℕ) : Type 0 where
  front : name ≡ take (length name) account
  colon_at : get_or account (length name) 0 ≡ 58
  longer : length name < length account

goes-on-at : (name account : List ℕ) → goes_on name account ≡ true → GoesOn name account
goes-on-at [] [] h = absurd (false≢true h)
goes-on-at [] (a ∷ account) h = record { front = refl; colon_at = sym (eq-of 58 a (and-first (58 == a) true h)); longer = omega arith }
goes-on-at (n ∷ name) [] h = absurd (false≢true h)
goes-on-at (n ∷ name) (a ∷ account) h =
    let rest = goes-on-at name account (and-second (n == a) _ h) in
    let first = eq-of n a (and-first (n == a) _ h) in
    record { front = λ i. first i ∷ rest.front i; colon_at = rest.colon_at; longer = omega (arith, rest.longer) }

at-goes-on : (account : List ℕ) (i : ℕ) → i < length account → get_or account i 0 ≡ 58 → goes_on (take i account) account ≡ true
at-goes-on [] i lt h = absurd (omega arith)
at-goes-on (a ∷ account) zero lt h = and-both (58 == a) true (eq-true 58 a (sym h)) refl
at-goes-on (a ∷ account) (suc i) lt h = and-both (a == a) _ (eq-true a a refl) (at-goes-on account i (omega arith) h)

length-front : (account : List ℕ) (i : ℕ) → i < length account → length (take i account) ≡ i
length-front [] i lt = absurd (omega arith)
length-front (a ∷ account) zero lt = refl
length-front (a ∷ account) (suc i) lt = ap suc (length-front account i (omega arith))

-- ---- kinds

then-eq : (r s : Ordering) → is_eq (ordering_then r s) ≡ (is_eq r && is_eq s)
then-eq Less s = refl
then-eq Equal s = refl
then-eq Greater s = refl

kind-eq : (account : List ℕ) (below : Bool) (w : Watch) → is_eq (kind_cmp account below w) ≡ (bytes_eq account w.account && is_eq (bool_cmp below w.below))
kind-eq account below w =
    then-eq (slice_cmp nat_cmp account w.account) (bool_cmp below w.below)
    ∙ ap (λ (b : Bool). b && is_eq (bool_cmp below w.below)) (is_eq-slice_cmp account w.account)

below-is : (b : Bool) → is_eq (bool_cmp true b) ≡ b
below-is true = refl
below-is false = refl

-- the watches of a name that ends before a colon are those of the account above whose name is that long
front-kind : (account : List ℕ) (end : ℕ) (after : Place) (w : Watch) → end < length account → get_or account end 0 ≡ 58 → is_kind (take end account) true after w ≡ is_over_at account end after w
front-kind account end after w lt h =
    ap (λ (b : Bool). b && is_lt (place_cmp after w.place)) (kind-eq (take end account) true w ∙ ap (λ (b : Bool). bytes_eq (take end account) w.account && b) (below-is w.below))
    ∙ same-bool _ _ there back
  where
    there : ((bytes_eq (take end account) w.account && w.below) && is_lt (place_cmp after w.place)) ≡ true → is_over_at account end after w ≡ true
    there e =
        let of-it = and-first (bytes_eq (take end account) w.account && w.below) _ e in
        let later = and-second (bytes_eq (take end account) w.account && w.below) _ e in
        let name : take end account ≡ w.account = (bytes_eq-Decides (take end account) w.account).0 (and-first (bytes_eq (take end account) w.account) _ of-it) in
        let under = and-second (bytes_eq (take end account) w.account) _ of-it in
        let on : goes_on w.account account ≡ true = subst (λ (n : List ℕ). goes_on n account ≡ true) name (at-goes-on account end lt h) in
        let long : length w.account ≡ end = sym (ap (λ (n : List ℕ). length n) name) ∙ length-front account end lt in
        and-both (is_over account after w) (length w.account == end)
        (and-both (w.below && goes_on w.account account) (is_lt (place_cmp after w.place)) (and-both w.below (goes_on w.account account) under on) later)
        (eq-true (length w.account) end long)

    back : is_over_at account end after w ≡ true → ((bytes_eq (take end account) w.account && w.below) && is_lt (place_cmp after w.place)) ≡ true
    back e =
        let over = and-first (is_over account after w) _ e in
        let of-it = and-first (w.below && goes_on w.account account) _ over in
        let later = and-second (w.below && goes_on w.account account) _ over in
        let on = goes-on-at w.account account (and-second w.below _ of-it) in
        let long : length w.account ≡ end = eq-of (length w.account) end (and-second (is_over account after w) _ e) in
        let name : take end account ≡ w.account = sym (on.front ∙ ap (λ (n : ℕ). take n account) long) in
        and-both (bytes_eq (take end account) w.account && w.below) (is_lt (place_cmp after w.place))
        (and-both (bytes_eq (take end account) w.account) w.below ((bytes_eq-Decides (take end account) w.account).1 name) (and-first w.below _ of-it))
        later

pub first-at-colon : (account : List ℕ) (end : ℕ) (after : Place) (ws : List Watch) (r : Option Place) (name : List ℕ) → end < length account → get_or account end 0 ≡ 58 → name ≡ take end account → IsFirst (is_kind name true after) ws r → IsFirst (is_over_at account end after) ws r
first-at-colon account end after ws r name lt h e k =
    let P : List ℕ → Type 0 = λ n. IsFirst (is_kind n true after) ws r in
    first-same (is_kind (take end account) true after) (is_over_at account end after) ws r (λ w. front-kind account end after w lt h) (subst P e k)

-- no name ends where there is no colon
pub none-at : (account : List ℕ) (end : ℕ) (after : Place) (ws : List Watch) → (get_or account end 0 ≡ 58 → ⊥) → IsFirst (is_over_at account end after) ws None
none-at account end after ws h =
    none-never (is_over_at account end after) (λ w. not-true (is_over_at account end after w) (λ e.
    let over = and-first (is_over account after w) _ e in
    let on = goes-on-at w.account account (and-second w.below _ (and-first (w.below && goes_on w.account account) _ over)) in
    let long : length w.account ≡ end = eq-of (length w.account) end (and-second (is_over account after w) _ e) in
    h (ap (λ (n : ℕ). get_or account n 0) (sym long) ∙ on.colon_at))) ws

-- ---- from the shortest name on

-- a watch of an account above whose name is shorter than so much
abbrev pub over_before : List ℕ → ℕ → Place → Watch → Bool
over_before account n after w = is_over account after w && nat_lt (length w.account) n

pub over-none : (account : List ℕ) (after : Place) (ws : List Watch) → IsFirst (over_before account 0 after) ws None
over-none account after ws = none-never (over_before account 0 after) (λ w. not-true (over_before account 0 after w) (λ e. off (length w.account) (and-second (is_over account after w) _ e))) ws
  where
    off : (n : ℕ) → nat_lt n 0 ≡ true → ⊥
    off n e = let lt : n < 0 = lt-of n 0 e in absurd (omega arith)
      where
        lt-of : (n k : ℕ) → nat_lt n k ≡ true → n < k
        lt-of n k h = grind (arith, nat_tests)

pub over-more : (account : List ℕ) (n : ℕ) (after : Place) (ws : List Watch) (a b : Option Place) → IsFirst (over_before account n after) ws a → IsFirst (is_over_at account n after) ws b → IsFirst (over_before account (n + 1) after) ws (earlier a b)
over-more account n after ws a b h k =
    first-same (λ w. over_before account n after w || is_over_at account n after w) (over_before account (n + 1) after) ws (earlier a b)
    (λ w. next (is_over account after w) (length w.account))
    (first-either (over_before account n after) (is_over_at account n after) ws a b h k)
  where
    counted : (m : ℕ) → (nat_lt m n || (m == n)) ≡ nat_lt m (n + 1)
    counted m = grind (arith, nat_tests)

    next : (o : Bool) (m : ℕ) → ((o && nat_lt m n) || (o && (m == n))) ≡ (o && nat_lt m (n + 1))
    next true m = counted m
    next false m = refl

-- all names above an account are shorter than it
pub over-all : (account : List ℕ) (after : Place) (ws : List Watch) (r : Option Place) → IsFirst (over_before account (length account) after) ws r → IsFirst (is_over account after) ws r
over-all account after ws r h =
    first-same (over_before account (length account) after) (is_over account after) ws r (λ w. shorter w) h
  where
    shorter : (w : Watch) → over_before account (length account) after w ≡ is_over account after w
    shorter w = same-bool _ _ (λ e. and-first (is_over account after w) _ e) (λ over.
        let on = goes-on-at w.account account (and-second w.below _ (and-first (w.below && goes_on w.account account) _ over)) in
        and-both (is_over account after w) (nat_lt (length w.account) (length account)) over (lt-true (length w.account) (length account) on.longer))
      where
        lt-true : (n k : ℕ) → n < k → nat_lt n k ≡ true
        lt-true n k h = grind (arith, nat_tests)

-- ---- all that a change reaches

turn : (e b s a : Bool) → ((((e && is_eq (bool_cmp false b)) && a) || ((e && is_eq (bool_cmp true b)) && a)) || ((b && s) && a)) ≡ (a && (e || (b && s)))
turn true true true true = refl
turn true true true false = refl
turn true true false true = refl
turn true true false false = refl
turn true false true true = refl
turn true false true false = refl
turn true false false true = refl
turn true false false false = refl
turn false true true true = refl
turn false true true false = refl
turn false true false true = refl
turn false true false false = refl
turn false false true true = refl
turn false false true false = refl
turn false false false true = refl
turn false false false false = refl

pub reach-same : (account : List ℕ) (after : Place) (w : Watch) → reaches account after w ≡ is_reached account after w
reach-same account after w =
    (λ i. ((kind-eq account false w i && before-is after w.place i) || (kind-eq account true w i && before-is after w.place i)) || ((w.below && goes_on w.account account) && before-is after w.place i))
    ∙ turn (bytes_eq account w.account) w.below (goes_on w.account account) (is_before after w.place)
