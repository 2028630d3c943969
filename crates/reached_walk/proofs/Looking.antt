-- The next place of an account, as its watches tell it.
use Rattle.std.proofs.Common.{◌≡◌, ℕ, suc, ◌≤◌, Bool, true, false, ◌&&◌, ◌||◌, not, ◌⊎◌, inl, inr, List, [], ◌∷◌, ◌++◌, Option, Some, None, filter, refl, sym, ap, subst, ◌∙◌, arith}
use Rattle.std.specs.Option.{IfSome}
use Rattle.std.specs.List.{flat_map, list_any, AllByRecursion}
use Rattle.std.specs.Ordering.{is_eq}
use Rattle.std.proofs.lemmas.Bool.{false≢true, not_from_false, or_cases}
use Rattle.std.proofs.lemmas.Grind.{flat_map-append}
use Rattle.std.proofs.lemmas.List.Folds.{list_any-append}
use Rattle.book.specs.declared.amount.Assertion.{Assertion}
use Rattle.book.specs.declared.transaction.Txn.{Txn}
use Rattle.book.specs.Standing.{Numbered}
use Rattle.book.specs.SumsBefore as sums
use Rattle.book.specs.SumsBefore.{placed_from, placed_in}
use Rattle.reached_entries.specs.Reached.{counts_for}
use Rattle.watchers.specs.declared.watch.Place.{Place}
use Rattle.watchers.specs.declared.watch.Watch.{Watch}
use Rattle.watchers.specs.Order.{place_cmp}
use Rattle.watchers.specs.Reach as reach
use Rattle.watchers.specs.Reach.{is_at, is_reached, place_of, reached, IsNextOf}
use Rattle.watchers.specs.Watches.{AreOf, numbered_from, placed_at, watch_at, watch_if, watches_in, watches_of}
use Rattle.watchers.proofs.Orders.{is-equal, place_same}
use Rattle.watchers.proofs.Tests.{and-both, and-first, and-second, any-filter, not-true, or-left}
use Rattle.reached_walk.specs.declared.place.Spot.{Spot}
use Rattle.reached_walk.specs.Asks.{asks, entries_of, AreAlike, AreWatched, Covers, Has, IsFirstAfter}
use Rattle.reached_walk.specs.Spots.{is_before, is_from, is_same, spot_at, spot_of}
use Rattle.reached_walk.proofs.Entries.{Entry}
use Rattle.reached_walk.proofs.Lists.{all-map, any-left, any-right, has-any, meet, none-all, pick}
use Rattle.reached_walk.proofs.Orders.{and-rest, is-same, place-spot, spot-place}

-- ---- other forms of a text

asks-alike : (account : List ℕ) (s : Spot) (e f : Entry) → AreAlike e f → asks account s e ≡ asks account s f
asks-alike account s e f l =
    λ i. counts_for (l.wanted i) (l.account i) account && is_before s (record { day = record { 0 = l.day i }; number = l.txn i })

pub spot-alike : (e f : Entry) → AreAlike e f → spot_of e ≡ spot_of f
spot-alike e f l = λ i. record { day = record { 0 = l.day i }; number = l.txn i }

first-covered : (es fs : List Entry) (account : List ℕ) (s : Spot) (r : Option Spot) → Covers es fs → Covers fs es → IsFirstAfter es account s r → IsFirstAfter fs account s r
first-covered es fs account s r all only h = record {
  each = all-map (λ (f : Entry). Has (λ e. AreAlike e f) es) (λ (f : Entry). asks account s f ≡ true → is_from r (spot_of f) ≡ true)
      (λ f has a. meet (λ (e : Entry). asks account s e ≡ true → is_from r (spot_of e) ≡ true) (λ (e : Entry). AreAlike e f) (is_from r (spot_of f) ≡ true)
      (λ e each l. ap (is_from r) (sym (spot-alike e f l)) ∙ each (asks-alike account s e f l ∙ a)) es h.each has) fs all;
  found = found r h.found;
}
  where
    found : (o : Option Spot) → IfSome o (λ t. list_any (λ (e : Entry). asks account s e && is_same (spot_of e) t) es ≡ true) → IfSome o (λ t. list_any (λ (e : Entry). asks account s e && is_same (spot_of e) t) fs ≡ true)
    found None k = tt
    found (Some t) k =
        pick (λ (f : Entry). Has (λ e. AreAlike e f) fs) (λ (e : Entry). asks account s e && is_same (spot_of e) t) (list_any (λ (e : Entry). asks account s e && is_same (spot_of e) t) fs ≡ true)
        (λ f has m. has-any (λ (e : Entry). AreAlike e f) (λ (e : Entry). asks account s e && is_same (spot_of e) t)
        (λ e l. (λ i. asks-alike account s e f l i && is_same (spot-alike e f l i) t) ∙ m) fs has) es only k

like-itself : (e : Entry) → AreAlike e e
like-itself e = record { day = refl; txn = refl; account = refl; wanted = refl }

pub covers-itself : (es : List Entry) → Covers es es
covers-itself [] = tt
covers-itself (e ∷ es) =
    (inl (like-itself e), all-map (λ (f : Entry). Has (λ x. AreAlike x f) es) (λ (f : Entry). Has (λ x. AreAlike x f) (e ∷ es)) (λ f h. inr h) es (covers-itself es))

pub entries-text : (n : ℕ) (txns : List Txn) → entries_of (numbered_from n txns) ≡ placed_from n txns
entries-text n [] = refl
entries-text n (t ∷ txns) = ap (λ (l : List Entry). placed_in t n 0 t.postings ++ l) (entries-text (suc n) txns)

pub text-watched : (text : List Txn) (ws : List Watch) → AreOf (numbered_from 0 text) ws → AreWatched text ws
text-watched text ws are = record {
  standing = numbered_from 0 text;
  watched = are;
  all = subst (λ (es : List Entry). Covers es (placed_from 0 text)) (sym (entries-text 0 text)) (covers-itself (placed_from 0 text));
  only = subst (λ (es : List Entry). Covers (placed_from 0 text) es) (sym (entries-text 0 text)) (covers-itself (placed_from 0 text));
}

-- ---- the watches of postings

watches-are : (standing : Numbered Txn) → watches_of standing ≡ flat_map watch_at (entries_of standing)
watches-are [] = refl
watches-are (x ∷ xs) =
    ap (λ (l : List Watch). watches_in x.0 x.1 ++ l) (watches-are xs)
    ∙ sym (flat_map-append watch_at (placed_in x.1 x.0 0 x.1.postings) (entries_of xs))

watched-any : (t : Watch → Bool) (q : Entry → Bool) → ((e : Entry) → q e ≡ true → list_any t (watch_at e) ≡ true) → (es : List Entry) → list_any q es ≡ true → list_any t (flat_map watch_at es) ≡ true
watched-any t q f [] h = absurd (false≢true h)
watched-any t q f (e ∷ es) h =
    elim (or_cases (q e) (list_any q es) h) as (λ _. list_any t (watch_at e ++ flat_map watch_at es) ≡ true) [
      | inl k ↦ any-left t (watch_at e) (flat_map watch_at es) (f e k)
      | inr k ↦ any-right t (watch_at e) (flat_map watch_at es) (watched-any t q f es k)
    ]

any-watched : (t : Watch → Bool) (q : Entry → Bool) → ((e : Entry) → list_any t (watch_at e) ≡ true → q e ≡ true) → (es : List Entry) → list_any t (flat_map watch_at es) ≡ true → list_any q es ≡ true
any-watched t q f [] h = absurd (false≢true h)
any-watched t q f (e ∷ es) h =
    elim (or_cases (list_any t (watch_at e)) (list_any t (flat_map watch_at es)) (sym (list_any-append t (watch_at e) (flat_map watch_at es)) ∙ h)) as (λ _. list_any q (e ∷ es) ≡ true) [
      | inl k ↦ or-left (q e) (list_any q es) (f e k)
      | inr k ↦ any-right q (e ∷ []) es (any-watched t q f es k)
    ]

or-false : (b : Bool) → (b || false) ≡ true → b ≡ true
or-false true h = refl
or-false false h = h

-- a place behind all postings of a transaction whose numbers are at most some
abbrev pub behind : Spot → ℕ → Place
behind s m = record { day = s.day; txn = s.number; posting = m }

module _ (account : List ℕ) (s : Spot) (m : ℕ) where
  -- what asks has a watch that is reached
  to-watch : (e : Entry) (u : Watch → Bool) → ((w : Watch) → w.place ≡ placed_at e.0 → u w ≡ true) → asks account s e ≡ true → list_any (λ w. is_reached account (behind s m) w && u w) (watch_at e) ≡ true
  to-watch e u f a = wanting e.1.wanted (and-first (counts_for e.1.wanted e.1.account account) (is_before s (spot_of e)) a)
    where
      later : sums.is_before (place_of (behind s m)) e.0 ≡ true
      later = spot-place (place_of (behind s m)) e.0 (and-second (counts_for e.1.wanted e.1.account account) (is_before s (spot_of e)) a)

      wanting : (o : Option Assertion) → counts_for o e.1.account account ≡ true → list_any (λ w. is_reached account (behind s m) w && u w) (watch_if (placed_at e.0) e.1 o) ≡ true
      wanting None c = absurd (false≢true c)
      wanting (Some w) c =
          let x : Watch = record { account = e.1.account; below = w.below; place = placed_at e.0 } in
          or-left (is_reached account (behind s m) x && u x) false (and-both (is_reached account (behind s m) x) (u x) (and-both (reach.is_before (behind s m) x.place) (sums.is_of x.account x.below account) later c) (f x refl))

  -- a reached watch at a place is that of a posting that asks and stands there
  from-watch : (place : Place) → place.posting ≤ m → (e : Entry) → list_any (λ w. is_reached account (behind s m) w && is_at place w.place) (watch_at e) ≡ true → (asks account s e && is_same (spot_of e) (spot_at place)) ≡ true
  from-watch place most e h = wanting e.1.wanted refl h
    where
      here : (o : Option Assertion) → e.1.wanted ≡ o → counts_for o e.1.account account ≡ true → sums.is_before (place_of (behind s m)) e.0 ≡ true → is_at place (placed_at e.0) ≡ true → (asks account s e && is_same (spot_of e) (spot_at place)) ≡ true
      here o is c later at-place =
          let same : place ≡ placed_at e.0 = place_same place (placed_at e.0) (is-equal (place_cmp place (placed_at e.0)) at-place) in
          let number : place.posting ≡ e.0.posting = ap (λ (p : Place). p.posting) same in
          let few : e.0.posting ≤ m = omega arith in
          and-both (asks account s e) (is_same (spot_of e) (spot_at place))
          (and-both (counts_for e.1.wanted e.1.account account) (is_before s (spot_of e))
          (ap (λ (x : Option Assertion). counts_for x e.1.account account) is ∙ c)
          (place-spot (place_of (behind s m)) e.0 few later))
          (is-same (spot_of e) (spot_at place) (sym (ap (λ (p : Place). p.day.0) same)) (sym (ap (λ (p : Place). p.txn) same)))

      wanting : (o : Option Assertion) → e.1.wanted ≡ o → list_any (λ w. is_reached account (behind s m) w && is_at place w.place) (watch_if (placed_at e.0) e.1 o) ≡ true → (asks account s e && is_same (spot_of e) (spot_at place)) ≡ true
      wanting None is k = absurd (false≢true k)
      wanting (Some w) is k =
          let x : Watch = record { account = e.1.account; below = w.below; place = placed_at e.0 } in
          let both = or-false (is_reached account (behind s m) x && is_at place x.place) k in
          let of-it = and-first (is_reached account (behind s m) x) (is_at place x.place) both in
          here (Some w) is (and-second (reach.is_before (behind s m) x.place) (sums.is_of x.account x.below account) of-it)
          (and-first (reach.is_before (behind s m) x.place) (sums.is_of x.account x.below account) of-it)
          (and-second (is_reached account (behind s m) x) (is_at place x.place) both)

  looked-none : (standing : Numbered Txn) → reached standing account (behind s m) ≡ [] → IsFirstAfter (entries_of standing) account s None
  looked-none standing e = record {
    each = all-map (λ (x : Entry). asks account s x ≡ false) (λ (x : Entry). asks account s x ≡ true → is_from None (spot_of x) ≡ true)
        (λ x off on. absurd (false≢true (sym off ∙ on))) (entries_of standing) (none-all (asks account s) (entries_of standing) none);
    found = tt;
  }
    where
      empty : list_any (λ w. is_reached account (behind s m) w && true) (watches_of standing) ≡ false
      empty = sym (any-filter (is_reached account (behind s m)) (λ _. true) (watches_of standing)) ∙ ap (list_any (λ _. true)) e

      some : list_any (asks account s) (entries_of standing) ≡ true → list_any (λ w. is_reached account (behind s m) w && true) (watches_of standing) ≡ true
      some k =
          ap (list_any (λ w. is_reached account (behind s m) w && true)) (watches-are standing)
          ∙ watched-any (λ w. is_reached account (behind s m) w && true) (asks account s) (λ x a. to-watch x (λ _. true) (λ _ _. refl) a) (entries_of standing) k

      none : list_any (asks account s) (entries_of standing) ≡ false
      none = not-true (list_any (asks account s) (entries_of standing)) (λ k. false≢true (sym empty ∙ some k))

  looked-some : (standing : Numbered Txn) (place : Place) → place.posting ≤ m → IsNextOf (reached standing account (behind s m)) (Some place) → IsFirstAfter (entries_of standing) account s (Some (spot_at place))
  looked-some standing place most h = record {
    each = all-map (λ (x : Entry). (asks account s x && is_before (spot_of x) (spot_at place)) ≡ false) (λ (x : Entry). asks account s x ≡ true → is_from (Some (spot_at place)) (spot_of x) ≡ true)
        (λ x off on. not_from_false (is_before (spot_of x) (spot_at place)) (and-rest (asks account s x) (is_before (spot_of x) (spot_at place)) on off))
        (entries_of standing) (none-all (λ (x : Entry). asks account s x && is_before (spot_of x) (spot_at place)) (entries_of standing) none);
    found = any-watched (λ w. is_reached account (behind s m) w && is_at place w.place) (λ (x : Entry). asks account s x && is_same (spot_of x) (spot_at place))
        (from-watch place most) (entries_of standing)
        (sym (ap (list_any (λ w. is_reached account (behind s m) w && is_at place w.place)) (watches-are standing))
        ∙ sym (any-filter (is_reached account (behind s m)) (λ w. is_at place w.place) (watches_of standing)) ∙ h.0);
  }
    where
      empty : list_any (λ w. is_reached account (behind s m) w && reach.is_before w.place place) (watches_of standing) ≡ false
      empty = sym (any-filter (is_reached account (behind s m)) (λ w. reach.is_before w.place place) (watches_of standing)) ∙ h.1

      earlier : (x : Entry) → is_before (spot_of x) (spot_at place) ≡ true → (w : Watch) → w.place ≡ placed_at x.0 → reach.is_before w.place place ≡ true
      earlier x less w is = ap (λ (p : Place). reach.is_before p place) is ∙ spot-place x.0 (place_of place) less

      some : list_any (λ (x : Entry). asks account s x && is_before (spot_of x) (spot_at place)) (entries_of standing) ≡ true → list_any (λ w. is_reached account (behind s m) w && reach.is_before w.place place) (watches_of standing) ≡ true
      some k =
          ap (list_any (λ w. is_reached account (behind s m) w && reach.is_before w.place place)) (watches-are standing)
          ∙ watched-any (λ w. is_reached account (behind s m) w && reach.is_before w.place place) (λ (x : Entry). asks account s x && is_before (spot_of x) (spot_at place))
          (λ x a. to-watch x (λ w. reach.is_before w.place place) (earlier x (and-second (asks account s x) (is_before (spot_of x) (spot_at place)) a)) (and-first (asks account s x) (is_before (spot_of x) (spot_at place)) a))
          (entries_of standing) k

      none : list_any (λ (x : Entry). asks account s x && is_before (spot_of x) (spot_at place)) (entries_of standing) ≡ false
      none = not-true (list_any (λ (x : Entry). asks account s x && is_before (spot_of x) (spot_at place)) (entries_of standing)) (λ k. false≢true (sym empty ∙ some k))

  pub next-none : (text : List Txn) (ws : List Watch) (w : AreWatched text ws) → IsNextOf (reached w.standing account (behind s m)) None → IsFirstAfter (placed_from 0 text) account s None
  next-none text ws w h = first-covered (entries_of w.standing) (placed_from 0 text) account s None w.all w.only (looked-none w.standing h)

  pub next-some : (text : List Txn) (ws : List Watch) (w : AreWatched text ws) (place : Place) → place.posting ≤ m → IsNextOf (reached w.standing account (behind s m)) (Some place) → IsFirstAfter (placed_from 0 text) account s (Some (spot_at place))
  next-some text ws w place most h = first-covered (entries_of w.standing) (placed_from 0 text) account s (Some (spot_at place)) w.all w.only (looked-some w.standing place most h)
