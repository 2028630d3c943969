-- What a walk has answered once nothing is left.
use Rattle.std.proofs.Common.{◌≡◌, ℕ, Bool, true, false, ◌&&◌, ◌||◌, ◌⊎◌, inl, inr, List, [], ◌∷◌, length, Option, Some, None, refl, sym, ap, subst, ◌∙◌}
use Rattle.std.specs.List.{list_any, AllByRecursion}
use Rattle.std.proofs.lemmas.Bool.{false≢true, cases_Bool, or_cases}
use Rattle.book.specs.declared.transaction.Txn.{Txn}
use Rattle.book.specs.SumsBefore.{placed_from}
use Rattle.reached_entries.specs.Reached.{HandsOn, IsLeft, asks_for}
use Rattle.watchers.proofs.Tests.{and-first, and-second, not-true}
use Rattle.reached_walk.specs.declared.change.Change.{Change}
use Rattle.reached_walk.specs.declared.place.Spot.{Spot}
use Rattle.reached_walk.specs.declared.walking.Reach.{Reach}
use Rattle.reached_walk.specs.Asks.{asks}
use Rattle.reached_walk.specs.Closed.{Edit, IsClosed, IsOnDay, AreReached}
use Rattle.reached_walk.specs.Notes.{earliest_of, is_since}
use Rattle.reached_walk.specs.Spots.{first_of, holds, is_from, spot_of}
use Rattle.reached_walk.specs.Walks.{IsChange, IsPlain, StandsOn, Walks, awaited_in, is_noted}
use Rattle.reached_walk.proofs.Counting.{few-of}
use Rattle.reached_walk.proofs.Entries.{Entry, asks-since, kept-all}
use Rattle.reached_walk.proofs.Lists.{all-map, all-zip, pick}
use Rattle.reached_walk.proofs.Passing.{none-left}

-- each with all, and all with each
transpose : {X Y : Type 0} (R : X → Y → Type 0) (xs : List X) (ys : List Y) → AllByRecursion (λ x. AllByRecursion (R x) ys) xs → AllByRecursion (λ y. AllByRecursion (λ x. R x y) xs) ys
transpose R xs [] h = tt
transpose R xs (y ∷ ys) h = (
  all-map (λ x. AllByRecursion (R x) (y ∷ ys)) (λ x. R x y) (λ x k. k.0) xs h,
  transpose R xs ys (all-map (λ x. AllByRecursion (R x) (y ∷ ys)) (λ x. AllByRecursion (R x) ys) (λ x k. k.1) xs h),
)

-- what asks for an account that changed is in a set
abbrev Asked : (ℕ → Bool) → Change → Entry → Type 0
Asked set c e = asks c.account c.since e ≡ true → set e.0.txn ≡ true

module _ (set : ℕ → Bool) (changes : List Change) where
  meets-set : (e : Entry) → AllByRecursion (λ c. Asked set c e) changes → set e.0.txn ≡ false → (f : Entry) → is_noted changes f ≡ true → set f.0.txn ≡ true → asks_for e f ≡ true → ⊥
  meets-set e all off f noted on a =
      pick (λ c. Asked set c e) (is_since f.1.account (spot_of f)) ⊥
      (λ c r m. false≢true (sym off ∙ r (asks-since e f c (λ same. false≢true (sym off ∙ ap set (sym same) ∙ on)) a m))) changes all noted

  hands-on : (book : List Txn) → AllByRecursion (λ (e : Entry). set e.0.txn ≡ false → AllByRecursion (λ c. Asked set c e) changes) (placed_from 0 book) → AllByRecursion (λ (f : Entry). set f.0.txn ≡ true → is_noted changes f ≡ true) (placed_from 0 book) → HandsOn set book
  hands-on book asked noted =
      all-map (λ (e : Entry). set e.0.txn ≡ false → AllByRecursion (λ c. Asked set c e) changes) (IsLeft set book)
      (λ e r off. not-true (list_any (λ (f : Entry). set f.0.txn && asks_for e f) (placed_from 0 book)) (λ k.
      pick (λ (f : Entry). set f.0.txn ≡ true → is_noted changes f ≡ true) (λ (f : Entry). set f.0.txn && asks_for e f) ⊥
      (λ f n m. meets-set e (r off) off f (n (and-first (set f.0.txn) (asks_for e f) m)) (and-first (set f.0.txn) (asks_for e f) m) (and-second (set f.0.txn) (asks_for e f) m))
      (placed_from 0 book) noted k))
      (placed_from 0 book) asked

some-none : (s : Spot) → Some s ≡ None → ⊥
some-none s h = cc

-- none is left
none-held : (ts : List Spot) → first_of ts ≡ None → (n : ℕ) → holds ts n ≡ false
none-held [] e n = refl
none-held (t ∷ ts) e n = absurd (some-none t e)

pub ended : (edit : Edit) (answered : List Spot) (walk : Reach) → earliest_of (first_of (awaited_in walk)) walk.changes.items ≡ None → Walks edit answered answered walk → AreReached edit answered
ended edit answered walk is h = record {
  closed = record {
    edited = edited;
    before = hands-on (holds answered) walk.changes.items edit.before before-asked before-noted;
    after = hands-on (holds answered) walk.changes.items edit.after
        (all-map (λ (e : Entry). AllByRecursion (λ c. Asked (holds answered) c e) walk.changes.items) (λ (e : Entry). holds answered e.0.txn ≡ false → AllByRecursion (λ c. Asked (holds answered) c e) walk.changes.items)
        (λ e all _. all) (placed_from 0 edit.after) asked)
        h.noted_after;
  };
  least = h.least;
  few = λ other k. few-of answered other (length edit.after) h.once (h.least other k) h.inside;
  rise = h.rise;
  once = h.once;
  days = all-zip (StandsOn edit) (IsPlain edit) (IsOnDay edit)
      (λ s stands plain. record { plain = plain; day = λ txn here. stands txn here (plain txn here) }) answered h.days h.plain;
}
  where
    left : (first_of (awaited_in walk) ≡ None) × AllByRecursion (λ (c : Change). c.next ≡ None) walk.changes.items
    left = none-left (first_of (awaited_in walk)) walk.changes.items is

    edited : (n : ℕ) → edit.is_edited n ≡ true → holds answered n ≡ true
    edited n on =
        elim (or_cases (holds answered n) (holds (awaited_in walk) n) (h.edited.all n on)) as (λ _. holds answered n ≡ true) [
          | inl held ↦ held
          | inr later ↦ absurd (false≢true (sym (none-held (awaited_in walk) left.0 n) ∙ later))
        ]

    seen : (c : Change) → c.next ≡ None → IsChange edit answered c → AllByRecursion (λ (e : Entry). Asked (holds answered) c e) (placed_from 0 edit.after)
    seen c none k =
        all-map (λ (e : Entry). asks c.account c.since e ≡ true → (holds answered e.0.txn || is_from c.next (spot_of e)) ≡ true) (λ (e : Entry). Asked (holds answered) c e)
        (λ e was a. elim (or_cases (holds answered e.0.txn) (is_from c.next (spot_of e)) (was a)) as (λ _. holds answered e.0.txn ≡ true) [
          | inl held ↦ held
          | inr from ↦ absurd (false≢true (sym (ap (λ (o : Option Spot). is_from o (spot_of e)) none) ∙ from))
        ]) (placed_from 0 edit.after) k.seen

    asked : AllByRecursion (λ (e : Entry). AllByRecursion (λ c. Asked (holds answered) c e) walk.changes.items) (placed_from 0 edit.after)
    asked =
        transpose (λ c e. Asked (holds answered) c e) walk.changes.items (placed_from 0 edit.after)
        (all-zip (λ (c : Change). c.next ≡ None) (IsChange edit answered) (λ (c : Change). AllByRecursion (λ (e : Entry). Asked (holds answered) c e) (placed_from 0 edit.after)) seen walk.changes.items left.1 h.changes)

    -- what isn't in the set isn't edited
    unedited : (e : Entry) → holds answered e.0.txn ≡ false → edit.is_edited e.0.txn ≡ false
    unedited e off = not-true (edit.is_edited e.0.txn) (λ on. false≢true (sym off ∙ edited e.0.txn on))

    before-asked : AllByRecursion (λ (e : Entry). holds answered e.0.txn ≡ false → AllByRecursion (λ c. Asked (holds answered) c e) walk.changes.items) (placed_from 0 edit.before)
    before-asked =
        all-map (λ (e : Entry). edit.is_edited e.0.txn ≡ false → AllByRecursion (λ c. Asked (holds answered) c e) walk.changes.items) (λ (e : Entry). holds answered e.0.txn ≡ false → AllByRecursion (λ c. Asked (holds answered) c e) walk.changes.items)
        (λ e r off. r (unedited e off)) (placed_from 0 edit.before)
        (kept-all (λ (e : Entry). AllByRecursion (λ c. Asked (holds answered) c e) walk.changes.items) edit.is_edited 0 edit.before edit.after h.others asked)

    before-noted : AllByRecursion (λ (f : Entry). holds answered f.0.txn ≡ true → is_noted walk.changes.items f ≡ true) (placed_from 0 edit.before)
    before-noted =
        all-zip (λ (f : Entry). edit.is_edited f.0.txn ≡ true → is_noted walk.changes.items f ≡ true) (λ (f : Entry). edit.is_edited f.0.txn ≡ false → holds answered f.0.txn ≡ true → is_noted walk.changes.items f ≡ true)
        (λ (f : Entry). holds answered f.0.txn ≡ true → is_noted walk.changes.items f ≡ true)
        (λ f own other held. elim (cases_Bool (edit.is_edited f.0.txn)) as (λ _. is_noted walk.changes.items f ≡ true) [
          | inl e ↦ own e
          | inr e ↦ other e held
        ]) (placed_from 0 edit.before) h.noted_before
        (kept-all (λ (f : Entry). holds answered f.0.txn ≡ true → is_noted walk.changes.items f ≡ true) edit.is_edited 0 edit.before edit.after h.others h.noted_after)
