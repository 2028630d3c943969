-- The postings of a text, each with its place.
use Rattle.std.proofs.Common.{◌≡◌, ℕ, zero, suc, ◌+◌, ◌<◌, ◌==◌, Bool, true, false, ◌&&◌, ◌||◌, not, ◌⊎◌, inl, inr, List, [], ◌∷◌, ◌++◌, length, Option, Some, None, unwrap_or, refl, sym, ap, subst, ◌∙◌, arith}
use Rattle.std.specs.List.{list_any, slice_get, AllByRecursion}
use Rattle.std.specs.Str.{bytes_eq}
use Rattle.std.proofs.lemmas.Bool.{false≢true, cases_Bool, cases_eq, eqb-true, not-false, or_cases, true_from_ne_false}
use Rattle.std.proofs.lemmas.Slice.Eq.{bytes_eq-Decides}
use Rattle.hl_time.specs.declared.day.Day.{Day}
use Rattle.book.specs.declared.transaction.Posting.{Posting}
use Rattle.book.specs.declared.transaction.Txn.{Txn}
use Rattle.book.specs.SumsBefore as sums
use Rattle.book.specs.SumsBefore.{number_in, placed_from, placed_in}
use Rattle.reached_entries.specs.Reached.{AreSame, HandsOn, IsLeft, asks_for, counts_for}
use Rattle.watchers.proofs.Tests.{and-both, and-first, and-second, any-imp}
use Rattle.reached_walk.specs.declared.change.Change.{Change}
use Rattle.reached_walk.specs.declared.place.Spot.{Spot}
use Rattle.reached_walk.specs.Asks.{asks}
use Rattle.reached_walk.specs.Closed.{Edit}
use Rattle.reached_walk.specs.Apart.{is_apart, is_dated}
use Rattle.reached_walk.specs.Notes.{is_since}
use Rattle.reached_walk.specs.Spots.{is_before, is_same, spot_of}
use Rattle.reached_walk.specs.Walks.{IsPlain, StandsOn}
use Rattle.reached_walk.proofs.Lists.{all-each, all-join, all-left, all-map, all-right, all-zip, any-here, any-later, any-left, any-right, none-all}
use Rattle.reached_walk.proofs.Orders.{place-apart, same-is, spot-place, under}

abbrev pub Entry : Type 0
Entry = sums.Place × Posting

-- the entry of a posting of a transaction under a number
abbrev pub entry_at : Txn → ℕ → ℕ → Posting → Entry
entry_at t n at p = (record { day = (unwrap_or p.day t.day).0; txn = n; posting = at }, p)

none-some : {X : Type 0} (x : X) → None ≡ Some x → ⊥
none-some x h = cc

pub some-same : {X : Type 0} (x y : X) → Some x ≡ Some y → x ≡ y
some-same x y h = cc

-- ---- of one transaction

pub by-posting : (P : Entry → Type 0) (Q : Posting → Type 0) (t : Txn) (n : ℕ) → ((p : Posting) (at : ℕ) → Q p → P (entry_at t n at p)) → (k : ℕ) (ps : List Posting) → AllByRecursion Q ps → AllByRecursion P (placed_in t n k ps)
by-posting P Q t n f k [] h = tt
by-posting P Q t n f k (p ∷ ps) h = (f p (number_in t k p) h.0, by-posting P Q t n f (suc k) ps h.1)

pub any-posting : (T : Entry → Bool) (q : Posting → Bool) (Q : Posting → Type 0) (t : Txn) (n : ℕ) → ((p : Posting) (at : ℕ) → Q p → q p ≡ true → T (entry_at t n at p) ≡ true) → (k : ℕ) (ps : List Posting) → AllByRecursion Q ps → list_any q ps ≡ true → list_any T (placed_in t n k ps) ≡ true
any-posting T q Q t n f k [] h m = absurd (false≢true m)
any-posting T q Q t n f k (p ∷ ps) h m =
    elim (or_cases (q p) (list_any q ps) m) as (λ _. list_any T (placed_in t n k (p ∷ ps)) ≡ true) [
      | inl e ↦ any-here T (entry_at t n (number_in t k p) p) (placed_in t n (suc k) ps) (f p (number_in t k p) h.0 e)
      | inr e ↦ any-later T (entry_at t n (number_in t k p) p) (placed_in t n (suc k) ps) (any-posting T q Q t n f (suc k) ps h.1 e)
    ]

pub own-number : (t : Txn) (n k : ℕ) (ps : List Posting) → AllByRecursion (λ (e : Entry). e.0.txn ≡ n) (placed_in t n k ps)
own-number t n k [] = tt
own-number t n k (p ∷ ps) = (refl, own-number t n (suc k) ps)

-- the day of a posting that isn't on another one
pub same-day : (t : Txn) (p : Posting) → is_apart t p ≡ false → (unwrap_or p.day t.day).0 ≡ t.day.0
same-day t p h = eqb-true (unwrap_or p.day t.day).0 t.day.0 (not-false ((unwrap_or p.day t.day).0 == t.day.0) h)

pub own-day : (t : Txn) (n : ℕ) → is_dated t ≡ false → AllByRecursion (λ (e : Entry). e.0.day ≡ t.day.0) (placed_in t n 0 t.postings)
own-day t n h =
    by-posting (λ e. e.0.day ≡ t.day.0) (λ p. is_apart t p ≡ false) t n (λ p at same. same-day t p same) 0 t.postings (none-all (is_apart t) t.postings h)

-- ---- of a text

by-txn : (P : Entry → Type 0) (txns : List Txn) (n : ℕ) → ((i k : ℕ) (t : Txn) → k ≡ n + i → slice_get txns i ≡ Some t → AllByRecursion P (placed_in t k 0 t.postings)) → AllByRecursion P (placed_from n txns)
by-txn P [] n f = tt
by-txn P (t ∷ txns) n f =
    all-join P (placed_in t n 0 t.postings) (placed_from (suc n) txns) (f zero n t (omega arith) refl)
    (by-txn P txns (suc n) (λ i k u e s. f (suc i) k u (omega arith) s))

-- what holds of the postings of each transaction under its number
pub by-text : (P : Entry → Type 0) (txns : List Txn) → ((i : ℕ) (t : Txn) → slice_get txns i ≡ Some t → AllByRecursion P (placed_in t i 0 t.postings)) → AllByRecursion P (placed_from 0 txns)
by-text P txns f =
    by-txn P txns 0 (λ i k t e s.
    let same : i ≡ k = omega arith in
    subst (λ (m : ℕ). AllByRecursion P (placed_in t m 0 t.postings)) same (f i t s))

any-txn : (T : Entry → Bool) (txns : List Txn) (n i k : ℕ) (t : Txn) → k ≡ n + i → slice_get txns i ≡ Some t → list_any T (placed_in t k 0 t.postings) ≡ true → list_any T (placed_from n txns) ≡ true
any-txn T [] n i k t e s h = absurd (none-some t s)
any-txn T (u ∷ txns) n zero k t e s h =
    let number : k ≡ n = omega arith in
    let same : t ≡ u = sym (some-same u t s) in
    any-left T (placed_in u n 0 u.postings) (placed_from (suc n) txns)
    (subst (λ (x : Txn). list_any T (placed_in x n 0 x.postings) ≡ true) same
    (subst (λ (m : ℕ). list_any T (placed_in t m 0 t.postings) ≡ true) number h))
any-txn T (u ∷ txns) n (suc i) k t e s h =
    any-right T (placed_in u n 0 u.postings) (placed_from (suc n) txns) (any-txn T txns (suc n) i k t (omega arith) s h)

pub any-text : (T : Entry → Bool) (txns : List Txn) (i : ℕ) (t : Txn) → slice_get txns i ≡ Some t → list_any T (placed_in t i 0 t.postings) ≡ true → list_any T (placed_from 0 txns) ≡ true
any-text T txns i t s h = any-txn T txns 0 i i t (omega arith) s h

pub got-inside : (txns : List Txn) (i : ℕ) (t : Txn) → slice_get txns i ≡ Some t → i < length txns
got-inside [] i t s = absurd (none-some t s)
got-inside (u ∷ txns) zero t s = omega arith
got-inside (u ∷ txns) (suc i) t s = let rest : i < length txns = got-inside txns i t s in omega arith

pub all-inside : (txns : List Txn) → AllByRecursion (λ (e : Entry). e.0.txn < length txns) (placed_from 0 txns)
all-inside txns =
    by-text (λ e. e.0.txn < length txns) txns (λ i t s.
    all-map (λ (e : Entry). e.0.txn ≡ i) (λ (e : Entry). e.0.txn < length txns) (λ e own. subst (λ (m : ℕ). m < length txns) (sym own) (got-inside txns i t s))
    (placed_in t i 0 t.postings) (own-number t i 0 t.postings))

-- the postings of a transaction that stands at a place, and that has no dated one
pub on-day : (edit : Edit) (s : Spot) → StandsOn edit s → IsPlain edit s → AllByRecursion (λ (e : Entry). e.0.txn ≡ s.number → e.0.day ≡ s.day.0) (placed_from 0 edit.after)
on-day edit s stands plain = by-text (λ e. e.0.txn ≡ s.number → e.0.day ≡ s.day.0) edit.after each
  where
    each : (i : ℕ) (t : Txn) → slice_get edit.after i ≡ Some t → AllByRecursion (λ (e : Entry). e.0.txn ≡ s.number → e.0.day ≡ s.day.0) (placed_in t i 0 t.postings)
    each i t got =
        elim (cases_eq i s.number) as (λ _. AllByRecursion (λ (e : Entry). e.0.txn ≡ s.number → e.0.day ≡ s.day.0) (placed_in t i 0 t.postings)) [
          | inl same ↦
              let here : slice_get edit.after s.number ≡ Some t = ap (slice_get edit.after) (sym same) ∙ got in
              all-map (λ (e : Entry). e.0.day ≡ t.day.0) (λ (e : Entry). e.0.txn ≡ s.number → e.0.day ≡ s.day.0)
              (λ e d _. d ∙ ap (λ (x : Day). x.0) (stands t here (plain t here))) (placed_in t i 0 t.postings) (own-day t i (plain t here))
          | inr other ↦
              all-map (λ (e : Entry). e.0.txn ≡ i) (λ (e : Entry). e.0.txn ≡ s.number → e.0.day ≡ s.day.0)
              (λ e own h. absurd (other (sym own ∙ h))) (placed_in t i 0 t.postings) (own-number t i 0 t.postings)
        ]

-- each posting stands on its transaction's day, where that has no dated one
pub all-stand : (edit : Edit) → AllByRecursion (λ (e : Entry). StandsOn edit (spot_of e)) (placed_from 0 edit.after)
all-stand edit = by-text (λ e. StandsOn edit (spot_of e)) edit.after each
  where
    days : (i : ℕ) (t : Txn) → AllByRecursion (λ (e : Entry). is_dated t ≡ false → e.0.day ≡ t.day.0) (placed_in t i 0 t.postings)
    days i t =
        elim (cases_Bool (is_dated t)) as (λ _. AllByRecursion (λ (e : Entry). is_dated t ≡ false → e.0.day ≡ t.day.0) (placed_in t i 0 t.postings)) [
          | inl dated ↦ all-each (λ (e : Entry). is_dated t ≡ false → e.0.day ≡ t.day.0) (λ e plain. absurd (false≢true (sym plain ∙ dated))) (placed_in t i 0 t.postings)
          | inr plain ↦ all-map (λ (e : Entry). e.0.day ≡ t.day.0) (λ (e : Entry). is_dated t ≡ false → e.0.day ≡ t.day.0) (λ e d _. d) (placed_in t i 0 t.postings) (own-day t i plain)
        ]

    stand : (i : ℕ) (t : Txn) → slice_get edit.after i ≡ Some t → (e : Entry) → e.0.txn ≡ i → (is_dated t ≡ false → e.0.day ≡ t.day.0) → StandsOn edit (spot_of e)
    stand i t got e own day u here plain =
        let same : t ≡ u = some-same t u (sym got ∙ ap (slice_get edit.after) (sym own) ∙ here) in
        let on : e.0.day ≡ t.day.0 = day (subst (λ (x : Txn). is_dated x ≡ false) (sym same) plain) in
        let number : u.day.0 ≡ e.0.day = ap (λ (x : Txn). x.day.0) (sym same) ∙ sym on in
        λ j. record { 0 = number j }

    each : (i : ℕ) (t : Txn) → slice_get edit.after i ≡ Some t → AllByRecursion (λ (e : Entry). StandsOn edit (spot_of e)) (placed_in t i 0 t.postings)
    each i t got =
        all-zip (λ (e : Entry). e.0.txn ≡ i) (λ (e : Entry). is_dated t ≡ false → e.0.day ≡ t.day.0) (λ (e : Entry). StandsOn edit (spot_of e))
        (stand i t got) (placed_in t i 0 t.postings) (own-number t i 0 t.postings) (days i t)

-- ---- of two texts that are the same but for some transactions

edited-all : (P : Entry → Type 0) (set : ℕ → Bool) (t : Txn) (n : ℕ) → set n ≡ true → AllByRecursion (λ (e : Entry). set e.0.txn ≡ false → P e) (placed_in t n 0 t.postings)
edited-all P set t n on =
    all-map (λ (e : Entry). e.0.txn ≡ n) (λ (e : Entry). set e.0.txn ≡ false → P e) (λ e own off. absurd (false≢true (sym off ∙ ap set own ∙ on)))
    (placed_in t n 0 t.postings) (own-number t n 0 t.postings)

-- one transaction that is the same in both, unless it is edited
one-kept : (P : Entry → Type 0) (set : ℕ → Bool) (t u : Txn) (n : ℕ) → (set n ≡ false → u ≡ t) → AllByRecursion P (placed_in u n 0 u.postings) → AllByRecursion (λ (e : Entry). set e.0.txn ≡ false → P e) (placed_in t n 0 t.postings)
one-kept P set t u n same h =
    elim (cases_Bool (set n)) as (λ _. AllByRecursion (λ (e : Entry). set e.0.txn ≡ false → P e) (placed_in t n 0 t.postings)) [
      | inl on ↦ edited-all P set t n on
      | inr off ↦ all-map P (λ (e : Entry). set e.0.txn ≡ false → P e) (λ e p _. p) (placed_in t n 0 t.postings) (subst (λ (x : Txn). AllByRecursion P (placed_in x n 0 x.postings)) (same off) h)
    ]

pub kept-all : (P : Entry → Type 0) (set : ℕ → Bool) (n : ℕ) (old new : List Txn) → AreSame set n old new → AllByRecursion P (placed_from n new) → AllByRecursion (λ (e : Entry). set e.0.txn ≡ false → P e) (placed_from n old)
kept-all P set n [] new h k = tt
kept-all P set n (t ∷ ts) [] h k =
    all-join (λ (e : Entry). set e.0.txn ≡ false → P e) (placed_in t n 0 t.postings) (placed_from (suc n) ts) (edited-all P set t n h.0) (kept-all P set (suc n) ts [] h.1 tt)
kept-all P set n (t ∷ ts) (u ∷ us) h k =
    all-join (λ (e : Entry). set e.0.txn ≡ false → P e) (placed_in t n 0 t.postings) (placed_from (suc n) ts)
    (one-kept P set t u n (λ off. sym (h.0 off)) (all-left P (placed_in u n 0 u.postings) (placed_from (suc n) us) k))
    (kept-all P set (suc n) ts us h.1 (all-right P (placed_in u n 0 u.postings) (placed_from (suc n) us) k))

pub back-all : (P : Entry → Type 0) (set : ℕ → Bool) (n : ℕ) (old new : List Txn) → AreSame set n old new → AllByRecursion P (placed_from n old) → AllByRecursion (λ (e : Entry). set e.0.txn ≡ false → P e) (placed_from n new)
back-all P set n old [] h k = tt
back-all P set n [] (u ∷ us) h k =
    all-join (λ (e : Entry). set e.0.txn ≡ false → P e) (placed_in u n 0 u.postings) (placed_from (suc n) us) (edited-all P set u n h.0) (back-all P set (suc n) [] us h.1 tt)
back-all P set n (t ∷ ts) (u ∷ us) h k =
    all-join (λ (e : Entry). set e.0.txn ≡ false → P e) (placed_in u n 0 u.postings) (placed_from (suc n) us)
    (one-kept P set u t n h.0 (all-left P (placed_in t n 0 t.postings) (placed_from (suc n) ts) k))
    (back-all P set (suc n) ts us h.1 (all-right P (placed_in t n 0 t.postings) (placed_from (suc n) ts) k))

-- ---- what a set that hands on holds

-- one of its transactions has a posting on an account at a place: whatever asks for the account after it is in the set
module _ (set : ℕ → Bool) (book : List Txn) (account : List ℕ) (s : Spot) where
  hand : (e : Entry) → asks account s e ≡ true → (f : Entry) → (set f.0.txn && (bytes_eq f.1.account account && is_same (spot_of f) s)) ≡ true → (set f.0.txn && asks_for e f) ≡ true
  hand e a f m =
      let both = and-second (set f.0.txn) (bytes_eq f.1.account account && is_same (spot_of f) s) m in
      let name : f.1.account ≡ account = (bytes_eq-Decides f.1.account account).0 (and-first (bytes_eq f.1.account account) (is_same (spot_of f) s) both) in
      let place : spot_of f ≡ s = same-is (spot_of f) s (and-second (bytes_eq f.1.account account) (is_same (spot_of f) s) both) in
      and-both (set f.0.txn) (asks_for e f) (and-first (set f.0.txn) (bytes_eq f.1.account account && is_same (spot_of f) s) m)
      (and-both (sums.is_before f.0 e.0) (counts_for e.1.wanted e.1.account f.1.account)
      (spot-place f.0 e.0 (ap (λ (x : Spot). is_before x (spot_of e)) place ∙ and-second (counts_for e.1.wanted e.1.account account) (is_before s (spot_of e)) a))
      (ap (counts_for e.1.wanted e.1.account) name ∙ and-first (counts_for e.1.wanted e.1.account account) (is_before s (spot_of e)) a))

  pub handed-on : HandsOn set book → list_any (λ (f : Entry). set f.0.txn && (bytes_eq f.1.account account && is_same (spot_of f) s)) (placed_from 0 book) ≡ true → AllByRecursion (λ (e : Entry). asks account s e ≡ true → set e.0.txn ≡ true) (placed_from 0 book)
  handed-on h from =
      all-map (IsLeft set book) (λ (e : Entry). asks account s e ≡ true → set e.0.txn ≡ true)
      (λ e left a. true_from_ne_false (set e.0.txn) (λ off.
      false≢true (sym (left off) ∙ any-imp (λ (f : Entry). set f.0.txn && (bytes_eq f.1.account account && is_same (spot_of f) s)) (λ (f : Entry). set f.0.txn && asks_for e f) (hand e a) (placed_from 0 book) from)))
      (placed_from 0 book) h

-- an account that changed at a posting's place is asked for by whatever asks for the posting's balance
pub asks-since : (e f : Entry) (c : Change) → (f.0.txn ≡ e.0.txn → ⊥) → asks_for e f ≡ true → is_since f.1.account (spot_of f) c ≡ true → asks c.account c.since e ≡ true
asks-since e f c other a since =
    let name : c.account ≡ f.1.account = (bytes_eq-Decides c.account f.1.account).0 (and-first (bytes_eq c.account f.1.account) (not (is_before (spot_of f) c.since)) since) in
    let early : is_before (spot_of f) c.since ≡ false = not-true' (is_before (spot_of f) c.since) (and-second (bytes_eq c.account f.1.account) (not (is_before (spot_of f) c.since)) since) in
    and-both (counts_for e.1.wanted e.1.account c.account) (is_before c.since (spot_of e))
    (ap (counts_for e.1.wanted e.1.account) name ∙ and-second (sums.is_before f.0 e.0) (counts_for e.1.wanted e.1.account f.1.account) a)
    (under c.since (spot_of f) (spot_of e) early (place-apart f.0 e.0 other (and-first (sums.is_before f.0 e.0) (counts_for e.1.wanted e.1.account f.1.account) a)))
  where
    not-true' : (b : Bool) → not b ≡ true → b ≡ false
    not-true' true q = absurd (false≢true q)
    not-true' false q = refl
