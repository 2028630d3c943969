-- What a walk knows once it has come to its next place.
use Rattle.std.proofs.Common.{◌≡◌, ℕ, zero, suc, ◌<◌, ◌==◌, Bool, true, false, ◌&&◌, ◌||◌, cond, not, ◌⊎◌, inl, inr, List, [], ◌∷◌, ◌++◌, length, Option, Some, None, refl, sym, ap, subst, ◌∙◌, arith}
use Rattle.std.specs.Option.{IfSome}
use Rattle.std.specs.List.{fold, list_all, list_any, slice_get, AllByRecursion, AllZip}
use Rattle.hl_time.specs.declared.day.Day.{Day}
use Rattle.book.specs.declared.transaction.Txn.{Txn}
use Rattle.std.proofs.lemmas.Bool.{false≢true, cases_Bool, eq-eqb, eqb-false, eqb-true, ne_eqb, not_from_false, or_cases}
use Rattle.std.proofs.lemmas.List.Folds.{list_all-append, list_any-append}
use Rattle.book.specs.SumsBefore.{placed_from}
use Rattle.reached_entries.specs.Reached.{counts_for}
use Rattle.watchers.specs.declared.watch.Watch.{Watch}
use Rattle.watchers.proofs.Tests.{and-both, and-first, and-second, any-imp, not-true, or-left, or-none, or-right}
use Rattle.reached_walk.specs.declared.change.Change.{Change}
use Rattle.reached_walk.specs.declared.place.Spot.{Spot}
use Rattle.reached_walk.specs.declared.walking.Reach.{Reach}
use Rattle.reached_walk.specs.Asks.{asks, AreWatched, IsFirstAfter}
use Rattle.reached_walk.specs.Closed.{Edit, IsClosed}
use Rattle.reached_walk.specs.Notes.{earliest_of, is_since, with_next, IsRenewed, Passes}
use Rattle.reached_walk.specs.Spots.{AreOnce, Rise, first_of, holds, is_before, is_due, is_from, is_same, sooner, spot_of, waiting}
use Rattle.reached_walk.specs.Walks.{AreAwaited, IsAwaited, IsChange, IsPlain, StandsOn, Walks, awaited_in, is_noted}
use Rattle.reached_walk.proofs.Entries.{Entry, all-inside, all-stand, on-day, some-same}
use Rattle.reached_walk.proofs.Lists.{all-each, all-map, all-push, all-true, all-zip, any-later, any-left, any-last, pick, true-all}
use Rattle.reached_walk.proofs.Orders.{apart, is-same, meets, never, same-is, spot-is, through, under}

-- ---- one place more

pub holds-more : (spots : List Spot) (s : Spot) (n : ℕ) → holds spots n ≡ true → holds (spots ++ s ∷ []) n ≡ true
holds-more spots s n h = any-left (λ (t : Spot). t.number == n) spots (s ∷ []) h

pub holds-last : (spots : List Spot) (s : Spot) (n : ℕ) → s.number ≡ n → holds (spots ++ s ∷ []) n ≡ true
holds-last spots s n e = any-last (λ (t : Spot). t.number == n) spots s (eq-eqb s.number n e)

holds-free : (spots : List Spot) (s : Spot) (n : ℕ) → holds spots n ≡ false → (s.number == n) ≡ false → holds (spots ++ s ∷ []) n ≡ false
holds-free spots s n h k =
    list_any-append (λ (t : Spot). t.number == n) spots (s ∷ []) ∙ or-none (holds spots n) (holds (s ∷ []) n) h (or-none (s.number == n) false k refl)

-- all come before a place, and so does one more
pub before-more : (t : Spot) (spots : List Spot) (s : Spot) → list_all (λ x. is_before x t) spots ≡ true → is_before s t ≡ true → list_all (λ x. is_before x t) (spots ++ s ∷ []) ≡ true
before-more t spots s h k =
    list_all-append (λ (x : Spot). is_before x t) spots (s ∷ []) ∙ and-both (list_all (λ (x : Spot). is_before x t) spots) (list_all (λ (x : Spot). is_before x t) (s ∷ [])) h (and-both (is_before s t) true k refl)

rise-more : (spots : List Spot) (s : Spot) → Rise spots → list_all (λ x. is_before x s) spots ≡ true → Rise (spots ++ s ∷ [])
rise-more [] s h k = (refl, tt)
rise-more (x ∷ spots) s h k = (
  list_all-append (is_before x) spots (s ∷ []) ∙ and-both (list_all (is_before x) spots) (list_all (is_before x) (s ∷ [])) h.0 (and-both (is_before x s) true (and-first (is_before x s) (list_all (λ (y : Spot). is_before y s) spots) k) refl),
  rise-more spots s h.1 (and-second (is_before x s) (list_all (λ (y : Spot). is_before y s) spots) k),
)

once-more : (spots : List Spot) (s : Spot) → AreOnce spots → holds spots s.number ≡ false → AreOnce (spots ++ s ∷ [])
once-more [] s h k = (refl, tt)
once-more (x ∷ spots) s h k = (
  holds-free spots s x.number h.0 (ne_eqb s.number x.number (λ e. false≢true (sym k ∙ or-left (x.number == s.number) (holds spots s.number) (eq-eqb x.number s.number (sym e))))),
  once-more spots s h.1 (rest (x.number == s.number) (holds spots s.number) k),
)
  where
    rest : (a b : Bool) → (a || b) ≡ false → b ≡ false
    rest true b q = absurd (false≢true (sym q))
    rest false b q = q

-- all but the last come before it
pub rise-last : (spots : List Spot) (s : Spot) → Rise (spots ++ s ∷ []) → AllByRecursion (λ (x : Spot). is_before x s ≡ true) spots
rise-last [] s h = tt
rise-last (x ∷ spots) s h = (last (is_before x) spots s h.0, rise-last spots s h.1)
  where
    last : (p : Spot → Bool) (ys : List Spot) (y : Spot) → list_all p (ys ++ y ∷ []) ≡ true → p y ≡ true
    last p ys y k = and-first (p y) true (and-second (list_all p ys) (list_all p (y ∷ [])) (sym (list_all-append p ys (y ∷ [])) ∙ k))

-- ---- the earliest of some places

-- a next place isn't before one
abbrev pub NotLater : Option Spot → Spot → Type 0
NotLater None s = Unit {0}
NotLater (Some t) s = is_before t s ≡ false

split-sooner : (a b : Option Spot) (s : Spot) → NotLater (sooner a b) s → NotLater a s × NotLater b s
split-sooner None b s h = (tt, h)
split-sooner (Some a) None s h = (h, tt)
split-sooner (Some a) (Some b) s h =
    elim (is_before b a) as (λ c. is_before b a ≡ c → is_before (cond c b a) s ≡ false → (is_before a s ≡ false) × (is_before b s ≡ false)) [
      | true ↦ λ e k. (not-true (is_before a s) (λ less. false≢true (sym k ∙ through b a s e less)), k)
      | false ↦ λ e k. (k, not-true (is_before b s) (λ less. false≢true (sym k ∙ under a b s e less)))
    ] refl h

from-sooner : (a b : Option Spot) (s : Spot) → sooner a b ≡ Some s → (a ≡ Some s) ⊎ (b ≡ Some s)
from-sooner None b s h = inr h
from-sooner (Some a) None s h = inl h
from-sooner (Some a) (Some b) s h =
    elim (is_before b a) as (λ c. Some (cond c b a) ≡ Some s → (Some a ≡ Some s) ⊎ (Some b ≡ Some s)) [
      | true ↦ λ k. inr k
      | false ↦ λ k. inl k
    ] h

some-none : (s : Spot) → Some s ≡ None → ⊥
some-none s h = cc

none-sooner : (a b : Option Spot) → sooner a b ≡ None → (a ≡ None) × (b ≡ None)
none-sooner None b h = (refl, h)
none-sooner (Some a) None h = absurd (some-none a h)
none-sooner (Some a) (Some b) h = absurd (some-none (cond (is_before b a) b a) h)

pub none-before : (o : Option Spot) (cs : List Change) (s : Spot) → earliest_of o cs ≡ Some s → NotLater o s × AllByRecursion (λ (c : Change). NotLater c.next s) cs
none-before o [] s h = (subst (λ (x : Option Spot). NotLater x s) (sym h) (never s), tt)
none-before o (c ∷ cs) s h =
    let rest = none-before (sooner o c.next) cs s h in
    let both = split-sooner o c.next s rest.0 in
    (both.0, (both.1, rest.1))

pub none-left : (o : Option Spot) (cs : List Change) → earliest_of o cs ≡ None → (o ≡ None) × AllByRecursion (λ (c : Change). c.next ≡ None) cs
none-left o [] h = (h, tt)
none-left o (c ∷ cs) h =
    let rest = none-left (sooner o c.next) cs h in
    let both = none-sooner o c.next rest.0 in
    (both.0, (both.1, rest.1))

is-due : (o : Option Spot) (s : Spot) → o ≡ Some s → is_due o s ≡ true
is-due o s h = ap (λ (x : Option Spot). is_due x s) h ∙ is-same s s refl refl

pub due-is : (o : Option Spot) (s : Spot) → is_due o s ≡ true → o ≡ Some s
due-is None s h = absurd (false≢true h)
due-is (Some t) s h = ap (λ (x : Spot). Some x) (same-is t s h)

pub from-earliest : (o : Option Spot) (cs : List Change) (s : Spot) → earliest_of o cs ≡ Some s → (o ≡ Some s) ⊎ (list_any (λ (c : Change). is_due c.next s) cs ≡ true)
from-earliest o [] s h = inl h
from-earliest o (c ∷ cs) s h =
    elim (from-earliest (sooner o c.next) cs s h) as (λ _. (o ≡ Some s) ⊎ (list_any (λ (x : Change). is_due x.next s) (c ∷ cs) ≡ true)) [
      | inl e ↦ elim (from-sooner o c.next s e) as (λ _. (o ≡ Some s) ⊎ (list_any (λ (x : Change). is_due x.next s) (c ∷ cs) ≡ true)) [
        | inl k ↦ inl k
        | inr k ↦ inr (or-left (is_due c.next s) (list_any (λ (x : Change). is_due x.next s) cs) (is-due c.next s k))
      ]
      | inr e ↦ inr (any-later (λ (x : Change). is_due x.next s) c cs e)
    ]

-- ---- accounts that come past a place

-- a first place after one is after all that come before that one
pub first-ahead : (edit : Edit) (account : List ℕ) (s : Spot) (answered : List Spot) → AllByRecursion (λ (x : Spot). is_before x s ≡ true) answered → (o : Option Spot) → IfSome o (λ t. list_any (λ (e : Entry). asks account s e && is_same (spot_of e) t) (placed_from 0 edit.after) ≡ true) → IfSome o (λ t. list_all (λ x. is_before x t) (answered ++ s ∷ []) ≡ true)
first-ahead edit account s answered before None found = tt
first-ahead edit account s answered before (Some t) found =
    before-more t answered s
    (true-all (λ (x : Spot). is_before x t) answered (all-map (λ (x : Spot). is_before x s ≡ true) (λ (x : Spot). is_before x t ≡ true) (λ x h. through x s t h later) answered before))
    later
  where
    later : is_before s t ≡ true
    later =
        pick (λ _. Unit {0}) (λ (e : Entry). asks account s e && is_same (spot_of e) t) (is_before s t ≡ true)
        (λ e _ m. ap (is_before s) (sym (same-is (spot_of e) t (and-second (asks account s e) (is_same (spot_of e) t) m)))
        ∙ and-second (counts_for e.1.wanted e.1.account account) (is_before s (spot_of e)) (and-first (asks account s e) (is_same (spot_of e) t) m))
        (placed_from 0 edit.after) (all-each (λ _. Unit {0}) (λ _. tt) (placed_from 0 edit.after)) found

-- what asks after a later place asks after an earlier one
pub first-found : (edit : Edit) (account : List ℕ) (since s : Spot) → is_before since s ≡ true → (o : Option Spot) → IfSome o (λ t. list_any (λ (e : Entry). asks account s e && is_same (spot_of e) t) (placed_from 0 edit.after) ≡ true) → IfSome o (λ t. list_any (λ (e : Entry). asks account since e && is_same (spot_of e) t) (placed_from 0 edit.after) ≡ true)
first-found edit account since s less None found = tt
first-found edit account since s less (Some t) found =
    any-imp (λ (e : Entry). asks account s e && is_same (spot_of e) t) (λ (e : Entry). asks account since e && is_same (spot_of e) t)
    (λ e m. and-both (asks account since e) (is_same (spot_of e) t)
    (sooner-asks e (and-first (asks account s e) (is_same (spot_of e) t) m)) (and-second (asks account s e) (is_same (spot_of e) t) m))
    (placed_from 0 edit.after) found
  where
    sooner-asks : (e : Entry) → asks account s e ≡ true → asks account since e ≡ true
    sooner-asks e a =
        and-both (counts_for e.1.wanted e.1.account account) (is_before since (spot_of e))
        (and-first (counts_for e.1.wanted e.1.account account) (is_before s (spot_of e)) a)
        (through since s (spot_of e) less (and-second (counts_for e.1.wanted e.1.account account) (is_before s (spot_of e)) a))

got-any : (txns : List Txn) (n : ℕ) → n < length txns → (t : Txn) × (slice_get txns n ≡ Some t)
got-any [] n less = absurd (omega (arith, less))
got-any (t ∷ txns) zero less = (t, refl)
got-any (t ∷ txns) (suc n) less = got-any txns n (omega (arith, less))

-- two places of one transaction without a dated posting are the same
one-place : (edit : Edit) (s t : Spot) → StandsOn edit s → StandsOn edit t → IsPlain edit t → t.number < length edit.after → s.number ≡ t.number → s ≡ t
one-place edit s t on there plain inside same =
    let got = got-any edit.after t.number inside in
    let here : slice_get edit.after s.number ≡ Some got.0 = ap (slice_get edit.after) same ∙ got.1 in
    spot-is s t (ap (λ (d : Day). d.0) (sym (on got.0 here (plain got.0 got.1)) ∙ there got.0 got.1 (plain got.0 got.1))) same

module _ (edit : Edit) (answered : List Spot) (s : Spot) (before : AllByRecursion (λ (x : Spot). is_before x s ≡ true) answered) where
  -- one whose next place is another one
  kept-change : (c : Change) → IsChange edit answered c → IfSome c.next (λ t. is_before s t ≡ true) → IsChange edit (answered ++ s ∷ []) c
  kept-change c h later = record {
    reached = h.reached;
    seen = all-map (λ (e : Entry). asks c.account c.since e ≡ true → (holds answered e.0.txn || is_from c.next (spot_of e)) ≡ true)
        (λ (e : Entry). asks c.account c.since e ≡ true → (holds (answered ++ s ∷ []) e.0.txn || is_from c.next (spot_of e)) ≡ true)
        (λ e was a. more e (was a)) (placed_from 0 edit.after) h.seen;
    ahead = ahead c.next h.ahead later;
    found = h.found;
  }
    where
      more : (e : Entry) → (holds answered e.0.txn || is_from c.next (spot_of e)) ≡ true → (holds (answered ++ s ∷ []) e.0.txn || is_from c.next (spot_of e)) ≡ true
      more e k =
          elim (or_cases (holds answered e.0.txn) (is_from c.next (spot_of e)) k) as (λ _. (holds (answered ++ s ∷ []) e.0.txn || is_from c.next (spot_of e)) ≡ true) [
            | inl held ↦ or-left (holds (answered ++ s ∷ []) e.0.txn) (is_from c.next (spot_of e)) (holds-more answered s e.0.txn held)
            | inr from ↦ or-right (holds (answered ++ s ∷ []) e.0.txn) (is_from c.next (spot_of e)) from
          ]

      ahead : (o : Option Spot) → IfSome o (λ t. list_all (λ x. is_before x t) answered ≡ true) → IfSome o (λ t. is_before s t ≡ true) → IfSome o (λ t. list_all (λ x. is_before x t) (answered ++ s ∷ []) ≡ true)
      ahead None k less = tt
      ahead (Some t) k less = before-more t answered s k less

  -- one that has come to its next place
  renewed-change : (c : Change) (next : Option Spot) → c.next ≡ Some s → IsChange edit answered c → IsFirstAfter (placed_from 0 edit.after) c.account s next → IsChange edit (answered ++ s ∷ []) (with_next c next)
  renewed-change c next due h first = record {
    reached = h.reached;
    seen = all-zip (λ (e : Entry). asks c.account c.since e ≡ true → (holds answered e.0.txn || is_from c.next (spot_of e)) ≡ true)
        (λ (e : Entry). asks c.account s e ≡ true → is_from next (spot_of e) ≡ true)
        (λ (e : Entry). asks c.account c.since e ≡ true → (holds (answered ++ s ∷ []) e.0.txn || is_from next (spot_of e)) ≡ true)
        (λ e was next-one a. more e (was a) next-one (and-first (counts_for e.1.wanted e.1.account c.account) (is_before c.since (spot_of e)) a))
        (placed_from 0 edit.after) h.seen first.each;
    ahead = first-ahead edit c.account s answered before next first.found;
    found = first-found edit c.account c.since s since next first.found;
  }
    where
      since : is_before c.since s ≡ true
      since =
          pick (λ _. Unit {0}) (λ (e : Entry). asks c.account c.since e && is_same (spot_of e) s) (is_before c.since s ≡ true)
          (λ e _ m. ap (is_before c.since) (sym (same-is (spot_of e) s (and-second (asks c.account c.since e) (is_same (spot_of e) s) m)))
          ∙ and-second (counts_for e.1.wanted e.1.account c.account) (is_before c.since (spot_of e)) (and-first (asks c.account c.since e) (is_same (spot_of e) s) m))
          (placed_from 0 edit.after) (all-each (λ _. Unit {0}) (λ _. tt) (placed_from 0 edit.after))
          (subst (λ (o : Option Spot). IfSome o (λ t. list_any (λ (e : Entry). asks c.account c.since e && is_same (spot_of e) t) (placed_from 0 edit.after) ≡ true)) due h.found)

      late : (e : Entry) → is_from c.next (spot_of e) ≡ true → is_before (spot_of e) s ≡ false
      late e k = off (is_before (spot_of e) s) (sym (ap (λ (o : Option Spot). is_from o (spot_of e)) due) ∙ k)
        where
          off : (b : Bool) → not b ≡ true → b ≡ false
          off true q = absurd (false≢true q)
          off false q = refl

      more : (e : Entry) → (holds answered e.0.txn || is_from c.next (spot_of e)) ≡ true → (asks c.account s e ≡ true → is_from next (spot_of e) ≡ true) → counts_for e.1.wanted e.1.account c.account ≡ true → (holds (answered ++ s ∷ []) e.0.txn || is_from next (spot_of e)) ≡ true
      more e k next-one counts =
          elim (or_cases (holds answered e.0.txn) (is_from c.next (spot_of e)) k) as (λ _. (holds (answered ++ s ∷ []) e.0.txn || is_from next (spot_of e)) ≡ true) [
            | inl held ↦ or-left (holds (answered ++ s ∷ []) e.0.txn) (is_from next (spot_of e)) (holds-more answered s e.0.txn held)
            | inr from ↦ elim (cases_Bool (is_before s (spot_of e))) as (λ _. (holds (answered ++ s ∷ []) e.0.txn || is_from next (spot_of e)) ≡ true) [
              | inl less ↦ or-right (holds (answered ++ s ∷ []) e.0.txn) (is_from next (spot_of e)) (next-one (and-both (counts_for e.1.wanted e.1.account c.account) (is_before s (spot_of e)) counts less))
              | inr same ↦ or-left (holds (answered ++ s ∷ []) e.0.txn) (is_from next (spot_of e)) (holds-last answered s e.0.txn (ap (λ (x : Spot). x.number) (meets s (spot_of e) same (late e from))))
            ]
          ]

  later-next : (o : Option Spot) → NotLater o s → is_due o s ≡ false → IfSome o (λ t. is_before s t ≡ true)
  later-next None h k = tt
  later-next (Some t) h k =
      apart s t h (λ same. false≢true (sym k ∙ is-same t s (ap (λ (x : Spot). x.day.0) (sym same)) (ap (λ (x : Spot). x.number) (sym same))))

  pass-change : (ws : List Watch) → AreWatched edit.after ws → (a b : Change) → Passes ws s a b → NotLater a.next s → IsChange edit answered a → IsChange edit (answered ++ s ∷ []) b
  pass-change ws watched a b p late h =
      subst (λ (x : Change). IsChange edit (answered ++ s ∷ []) x) (sym p.is)
      (elim (cases_Bool (is_due a.next s)) as (λ _. IsChange edit (answered ++ s ∷ []) (with_next a p.next)) [
        | inl due ↦ renewed-change a p.next (due-is a.next s due) h (p.renewed.due due edit.after watched)
        | inr other ↦
            subst (λ (o : Option Spot). IsChange edit (answered ++ s ∷ []) (with_next a o)) (sym (p.renewed.kept other))
            (kept-change a h (later-next a.next late other))
      ])

  pass-changes : (ws : List Watch) → AreWatched edit.after ws → (olds news : List Change) → AllZip (Passes ws s) olds news → AllByRecursion (λ (c : Change). NotLater c.next s) olds → AllByRecursion (IsChange edit answered) olds → AllByRecursion (IsChange edit (answered ++ s ∷ [])) news
  pass-changes ws watched [] [] z late h = tt
  pass-changes ws watched [] (b ∷ news) z late h = absurd z
  pass-changes ws watched (a ∷ olds) [] z late h = absurd z
  pass-changes ws watched (a ∷ olds) (b ∷ news) z late h = (pass-change ws watched a b z.0 late.0 h.0, pass-changes ws watched olds news z.1 late.1 h.1)

  held-more : (n : ℕ) (b : Bool) → (holds answered n || b) ≡ true → (holds (answered ++ s ∷ []) n || b) ≡ true
  held-more n b h =
      elim (or_cases (holds answered n) b h) as (λ _. (holds (answered ++ s ∷ []) n || b) ≡ true) [
        | inl held ↦ or-left (holds (answered ++ s ∷ []) n) b (holds-more answered s n held)
        | inr rest ↦ or-right (holds (answered ++ s ∷ []) n) b rest
      ]

  -- one that comes later is still awaited
  later-awaited : StandsOn edit s → (t : Spot) → is_before s t ≡ true → IsAwaited edit answered t → IsAwaited edit (answered ++ s ∷ []) t
  later-awaited stands t less h = record {
    own = h.own;
    free = λ plain.
        holds-free answered s t.number (h.free plain)
        (ne_eqb s.number t.number (λ number.
        let same : s ≡ t = one-place edit s t stands h.day plain h.inside number in
        false≢true (sym (never t) ∙ ap (λ (x : Spot). is_before x t) (sym same) ∙ less)));
    ahead = before-more t answered s h.ahead less;
    day = h.day;
    inside = h.inside;
  }

  awaited-more : StandsOn edit s → (ts : List Spot) → AreAwaited edit answered ts → NotLater (first_of ts) s → AreAwaited edit (answered ++ s ∷ []) (waiting ts s)
  awaited-more stands [] h late = record {
    rise = tt;
    each = tt;
    all = λ n on. held-more n (holds [] n) (h.all n on);
  }
  awaited-more stands (t ∷ ts) h late =
      elim (t.number == s.number) as (λ b. (t.number == s.number) ≡ b → AreAwaited edit (answered ++ s ∷ []) (cond b ts (t ∷ ts))) [
        | true ↦ λ q. record {
          rise = h.rise.1;
          each = rest;
          all = λ n on. passed n (eqb-true t.number s.number q) (h.all n on);
        }
        | false ↦ λ q. record {
          rise = h.rise;
          each = (later-awaited stands t (apart s t late (λ same. eqb-false t.number s.number q (ap (λ (x : Spot). x.number) (sym same)))) h.each.0, rest);
          all = λ n on. held-more n (holds (t ∷ ts) n) (h.all n on);
        }
      ] refl
    where
      rest : AllByRecursion (IsAwaited edit (answered ++ s ∷ [])) ts
      rest =
          all-zip (λ (x : Spot). is_before t x ≡ true) (IsAwaited edit answered) (IsAwaited edit (answered ++ s ∷ []))
          (λ x less w. later-awaited stands x (under s t x late less) w) ts (all-true (is_before t) ts h.rise.0) h.each.1

      passed : (n : ℕ) → t.number ≡ s.number → (holds answered n || holds (t ∷ ts) n) ≡ true → (holds (answered ++ s ∷ []) n || holds ts n) ≡ true
      passed n same k =
          elim (or_cases (holds answered n) (holds (t ∷ ts) n) k) as (λ _. (holds (answered ++ s ∷ []) n || holds ts n) ≡ true) [
            | inl held ↦ or-left (holds (answered ++ s ∷ []) n) (holds ts n) (holds-more answered s n held)
            | inr more ↦ elim (or_cases (t.number == n) (holds ts n) more) as (λ _. (holds (answered ++ s ∷ []) n || holds ts n) ≡ true) [
              | inl here ↦ or-left (holds (answered ++ s ∷ []) n) (holds ts n) (holds-last answered s n (sym same ∙ eqb-true t.number n here))
              | inr later ↦ or-right (holds (answered ++ s ∷ []) n) (holds ts n) later
            ]
          ]

noted-passed : (ws : List Watch) (s : Spot) (olds news : List Change) → AllZip (Passes ws s) olds news → (account : List ℕ) (x : Spot) → list_any (is_since account x) olds ≡ list_any (is_since account x) news
noted-passed ws s [] [] z account x = refl
noted-passed ws s [] (b ∷ news) z account x = absurd z
noted-passed ws s (a ∷ olds) [] z account x = absurd z
noted-passed ws s (a ∷ olds) (b ∷ news) z account x = λ i. is_since account x ((sym z.0.is) i) || noted-passed ws s olds news z.1 account x i

-- ---- the place that is next

record Comes (edit : Edit) (answered : List Spot) (s : Spot) : Type 0 where
  ahead : AllByRecursion (λ (x : Spot). is_before x s ≡ true) answered
  free : holds answered s.number ≡ false
  least : (other : ℕ → Bool) → IsClosed edit other → other s.number ≡ true
  inside : s.number < length edit.after
  stands : StandsOn edit s

comes-edited : (edit : Edit) (answered : List Spot) (s : Spot) → AllByRecursion (IsPlain edit) answered → IsAwaited edit answered s → Comes edit answered s
comes-edited edit answered s plain h = record {
  ahead = all-true (λ (x : Spot). is_before x s) answered h.ahead;
  free = not-true (holds answered s.number) (λ held.
      pick (IsPlain edit) (λ (t : Spot). t.number == s.number) ⊥
      (λ t p m. false≢true (sym (h.free (λ txn here. p txn (ap (slice_get edit.after) (eqb-true t.number s.number m) ∙ here))) ∙ held)) answered plain held);
  least = λ other k. k.edited s.number h.own;
  inside = h.inside;
  stands = h.day;
}

none-first : (s : Spot) → None ≡ Some s → ⊥
none-first s h = cc

-- what holds of all holds of the first
first-all : (P : Spot → Type 0) (ts : List Spot) (s : Spot) → first_of ts ≡ Some s → AllByRecursion P ts → P s
first-all P [] s e h = absurd (none-first s e)
first-all P (t ∷ ts) s e h = subst (λ (x : Spot). P x) (some-same t s e) h.0

module _ (edit : Edit) (answered : List Spot) (days : AllByRecursion (StandsOn edit) answered) (plain : AllByRecursion (IsPlain edit) answered) (c : Change) (h : IsChange edit answered c) (s : Spot) (due : c.next ≡ Some s) where
  found : list_any (λ (e : Entry). asks c.account c.since e && is_same (spot_of e) s) (placed_from 0 edit.after) ≡ true
  found = subst (λ (o : Option Spot). IfSome o (λ t. list_any (λ (e : Entry). asks c.account c.since e && is_same (spot_of e) t) (placed_from 0 edit.after) ≡ true)) due h.found

  ahead : AllByRecursion (λ (x : Spot). is_before x s ≡ true) answered
  ahead = all-true (λ (x : Spot). is_before x s) answered (subst (λ (o : Option Spot). IfSome o (λ t. list_all (λ x. is_before x t) answered ≡ true)) due h.ahead)

  stands-at : (e : Entry) → (asks c.account c.since e && is_same (spot_of e) s) ≡ true → spot_of e ≡ s
  stands-at e m = same-is (spot_of e) s (and-second (asks c.account c.since e) (is_same (spot_of e) s) m)

  -- one of the same number stood on the same day
  twice : (t : Spot) → is_before t s ≡ true → AllByRecursion (λ (e : Entry). e.0.txn ≡ t.number → e.0.day ≡ t.day.0) (placed_from 0 edit.after) → t.number ≡ s.number → ⊥
  twice t less on number =
      pick (λ (e : Entry). e.0.txn ≡ t.number → e.0.day ≡ t.day.0) (λ (e : Entry). asks c.account c.since e && is_same (spot_of e) s) ⊥
      (λ e day m.
      let place : spot_of e ≡ s = stands-at e m in
      let own : e.0.txn ≡ t.number = ap (λ (x : Spot). x.number) place ∙ sym number in
      let same : t ≡ s = sym (spot-is (spot_of e) t (day own) own) ∙ place in
      false≢true (sym (never s) ∙ sym (ap (λ (x : Spot). is_before x s) same) ∙ less))
      (placed_from 0 edit.after) on found

  comes-change : Comes edit answered s
  comes-change = record {
    ahead = ahead;
    free = not-true (holds answered s.number) (λ held.
        pick (λ (t : Spot). (is_before t s ≡ true) × AllByRecursion (λ (e : Entry). e.0.txn ≡ t.number → e.0.day ≡ t.day.0) (placed_from 0 edit.after)) (λ (t : Spot). t.number == s.number) ⊥
        (λ t both m. twice t both.0 both.1 (eqb-true t.number s.number m)) answered
        (all-zip (λ (t : Spot). is_before t s ≡ true) (λ (t : Spot). AllByRecursion (λ (e : Entry). e.0.txn ≡ t.number → e.0.day ≡ t.day.0) (placed_from 0 edit.after))
        (λ (t : Spot). (is_before t s ≡ true) × AllByRecursion (λ (e : Entry). e.0.txn ≡ t.number → e.0.day ≡ t.day.0) (placed_from 0 edit.after))
        (λ t less on. (less, on)) answered ahead
        (all-zip (StandsOn edit) (IsPlain edit) (λ (t : Spot). AllByRecursion (λ (e : Entry). e.0.txn ≡ t.number → e.0.day ≡ t.day.0) (placed_from 0 edit.after)) (on-day edit) answered days plain))
        held);
    least = λ other k.
        pick (λ (e : Entry). asks c.account c.since e ≡ true → other e.0.txn ≡ true) (λ (e : Entry). asks c.account c.since e && is_same (spot_of e) s) (other s.number ≡ true)
        (λ e r m. ap other (sym (ap (λ (x : Spot). x.number) (stands-at e m))) ∙ r (and-first (asks c.account c.since e) (is_same (spot_of e) s) m))
        (placed_from 0 edit.after) (h.reached other k) found;
    inside = pick (λ (e : Entry). e.0.txn < length edit.after) (λ (e : Entry). asks c.account c.since e && is_same (spot_of e) s) (s.number < length edit.after)
        (λ e low m. subst (λ (n : ℕ). n < length edit.after) (ap (λ (x : Spot). x.number) (stands-at e m)) low)
        (placed_from 0 edit.after) (all-inside edit.after) found;
    stands = pick (λ (e : Entry). StandsOn edit (spot_of e)) (λ (e : Entry). asks c.account c.since e && is_same (spot_of e) s) (StandsOn edit s)
        (λ e stand m. subst (λ (x : Spot). StandsOn edit x) (stands-at e m) stand)
        (placed_from 0 edit.after) (all-stand edit) found;
  }

-- ---- the walk goes on

pub went : (edit : Edit) (answered : List Spot) (ws : List Watch) → AreWatched edit.after ws → (old new : Reach) (s : Spot) → awaited_in new ≡ waiting (awaited_in old) s → AllZip (Passes ws s) old.changes.items new.changes.items → earliest_of (first_of (awaited_in old)) old.changes.items ≡ Some s → Walks edit answered answered old → Walks edit (answered ++ s ∷ []) answered new
went edit answered ws watched old new s edited zip is h = record {
  others = h.others;
  rise = rise-more answered s h.rise (true-all (λ (x : Spot). is_before x s) answered comes.ahead);
  once = once-more answered s h.once comes.free;
  least = λ other k. all-push (λ (t : Spot). other t.number ≡ true) answered s (h.least other k) (comes.least other k);
  inside = all-push (λ (t : Spot). t.number < length edit.after) answered s h.inside comes.inside;
  days = all-push (StandsOn edit) answered s h.days comes.stands;
  plain = h.plain;
  edited = subst (λ (ts : List Spot). AreAwaited edit (answered ++ s ∷ []) ts) (sym edited) (awaited-more edit answered s comes.ahead comes.stands (awaited_in old) h.edited first.0);
  changes = pass-changes edit answered s comes.ahead ws watched old.changes.items new.changes.items zip first.1 h.changes;
  noted_before = all-map (λ (f : Entry). edit.is_edited f.0.txn ≡ true → is_noted old.changes.items f ≡ true) (λ (f : Entry). edit.is_edited f.0.txn ≡ true → is_noted new.changes.items f ≡ true)
      (λ f was own. sym (noted-passed ws s old.changes.items new.changes.items zip f.1.account (spot_of f)) ∙ was own) (placed_from 0 edit.before) h.noted_before;
  noted_after = all-map (λ (f : Entry). holds answered f.0.txn ≡ true → is_noted old.changes.items f ≡ true) (λ (f : Entry). holds answered f.0.txn ≡ true → is_noted new.changes.items f ≡ true)
      (λ f was held. sym (noted-passed ws s old.changes.items new.changes.items zip f.1.account (spot_of f)) ∙ was held) (placed_from 0 edit.after) h.noted_after;
}
  where
    first : NotLater (first_of (awaited_in old)) s × AllByRecursion (λ (c : Change). NotLater c.next s) old.changes.items
    first = none-before (first_of (awaited_in old)) old.changes.items s is

    comes : Comes edit answered s
    comes =
        elim (from-earliest (first_of (awaited_in old)) old.changes.items s is) as (λ _. Comes edit answered s) [
          | inl e ↦ comes-edited edit answered s h.plain (first-all (IsAwaited edit answered) (awaited_in old) s e h.edited.each)
          | inr e ↦ pick (IsChange edit answered) (λ (c : Change). is_due c.next s) (Comes edit answered s)
              (λ c k m. comes-change edit answered h.days h.plain c k s (due-is c.next s m)) old.changes.items h.changes e
        ]
