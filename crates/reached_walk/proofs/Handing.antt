-- What a walk knows once a transaction was handed to it.
use Rattle.std.proofs.Common.{◌≡◌, ℕ, ◌==◌, Bool, true, false, ◌&&◌, ◌||◌, not, ◌⊎◌, inl, inr, List, [], ◌∷◌, ◌++◌, map, length, Option, Some, None, refl, sym, ap, subst, ◌∙◌}
use Rattle.std.specs.Option.{IfSome}
use Rattle.std.specs.List.{list_all, list_any, slice_get, AllByRecursion}
use Rattle.std.specs.Str.{bytes_eq}
use Rattle.std.proofs.lemmas.Bool.{false≢true, cases_Bool, cases_eq, eqb-true, or_cases}
use Rattle.std.proofs.lemmas.List.{append-nil}
use Rattle.std.proofs.lemmas.List.Folds.{list_any-append}
use Rattle.reached_entries.specs.Reached.{AreSame}
use Rattle.std.proofs.lemmas.Slice.Eq.{bytes_eq-Decides}
use Rattle.book.specs.declared.transaction.Posting.{Posting}
use Rattle.book.specs.declared.transaction.Txn.{Txn}
use Rattle.book.specs.SumsBefore.{placed_from, placed_in}
use Rattle.hl_time.specs.declared.day.Day.{Day}
use Rattle.watchers.specs.declared.watch.Watch.{Watch}
use Rattle.watchers.proofs.Tests.{and-both, any-imp, or-right}
use Rattle.reached_walk.specs.declared.change.Change.{Change}
use Rattle.reached_walk.specs.declared.place.Spot.{Spot}
use Rattle.reached_walk.specs.declared.walking.Reach.{Reach}
use Rattle.reached_walk.specs.Asks.{asks, AreWatched, IsFirstAfter}
use Rattle.reached_walk.specs.Closed.{Edit, IsClosed, IsEdit, IsEditedAt}
use Rattle.reached_walk.specs.Apart.{is_apart, is_dated}
use Rattle.reached_walk.specs.Notes.{accounts_of, is_since, IsFresh, Notes}
use Rattle.reached_walk.specs.Spots.{is_before, is_from, is_same, spot_of, holds}
use Rattle.reached_walk.specs.Walks.{AreAwaited, IsAwaited, IsBegun, IsChange, IsPlain, StandsOn, Walks, awaited_in, is_noted}
use Rattle.reached_walk.proofs.Entries.{Entry, any-posting, any-text, back-all, by-posting, by-text, entry_at, handed-on, own-number, same-day, some-same}
use Rattle.reached_walk.proofs.Lists.{all-each, all-join, all-last, all-map, all-push, all-zip, any-left, none-all}
use Rattle.reached_walk.proofs.Orders.{is-same, spot-is}
use Rattle.reached_walk.proofs.Passing.{first-ahead, rise-last}

any-map : {X Y : Type 0} (t : Y → Bool) (f : X → Y) (xs : List X) → list_any t (map f xs) ≡ list_any (λ x. t (f x)) xs
any-map t f [] = refl
any-map t f (x ∷ xs) = ap (λ (b : Bool). t (f x) || b) (any-map t f xs)

all-unmap : {X Y : Type 0} (P : Y → Type 0) (f : X → Y) (xs : List X) → AllByRecursion P (map f xs) → AllByRecursion (λ x. P (f x)) xs
all-unmap P f [] h = tt
all-unmap P f (x ∷ xs) h = (h.0, all-unmap P f xs h.1)

-- ---- a transaction of a text that stands at a place

module _ (book : List Txn) (n : ℕ) (txn : Txn) (s : Spot) (got : slice_get book n ≡ Some txn) (plain : is_dated txn ≡ false) (day : txn.day.0 ≡ s.day.0) (number : n ≡ s.number) where
  alone : AllByRecursion (λ (p : Posting). is_apart txn p ≡ false) txn.postings
  alone = none-all (is_apart txn) txn.postings plain

  -- each of its accounts is one of a posting there
  source : (set : ℕ → Bool) (account : List ℕ) → set n ≡ true → list_any (bytes_eq account) (accounts_of txn.postings) ≡ true → list_any (λ (f : Entry). set f.0.txn && (bytes_eq f.1.account account && is_same (spot_of f) s)) (placed_from 0 book) ≡ true
  source set account on of =
      any-text (λ (f : Entry). set f.0.txn && (bytes_eq f.1.account account && is_same (spot_of f) s)) book n txn got
      (any-posting (λ (f : Entry). set f.0.txn && (bytes_eq f.1.account account && is_same (spot_of f) s)) (λ (p : Posting). bytes_eq account p.account) (λ (p : Posting). is_apart txn p ≡ false) txn n
      (λ p at same e.
      and-both (set n) (bytes_eq p.account account && is_same (spot_of (entry_at txn n at p)) s) on
      (and-both (bytes_eq p.account account) (is_same (spot_of (entry_at txn n at p)) s)
      ((bytes_eq-Decides p.account account).1 (sym ((bytes_eq-Decides account p.account).0 e)))
      (is-same (spot_of (entry_at txn n at p)) s (same-day txn p same ∙ day) number)))
      0 txn.postings alone
      (sym (any-map (bytes_eq account) (λ (p : Posting). p.account) txn.postings) ∙ of))

  -- its accounts are noted
  noted-there : (changes : List Change) → AllByRecursion (λ account. list_any (is_since account s) changes ≡ true) (accounts_of txn.postings) → AllByRecursion (λ (f : Entry). f.0.txn ≡ n → is_noted changes f ≡ true) (placed_from 0 book)
  noted-there changes noted = by-text (λ (f : Entry). f.0.txn ≡ n → is_noted changes f ≡ true) book each
    where
      own : AllByRecursion (λ (f : Entry). is_noted changes f ≡ true) (placed_in txn n 0 txn.postings)
      own =
          by-posting (λ (f : Entry). is_noted changes f ≡ true) (λ (p : Posting). (is_apart txn p ≡ false) × (list_any (is_since p.account s) changes ≡ true)) txn n
          (λ p at both.
          ap (λ (x : Spot). list_any (is_since p.account x) changes) (spot-is (spot_of (entry_at txn n at p)) s (same-day txn p both.0 ∙ day) number) ∙ both.1)
          0 txn.postings
          (all-zip (λ (p : Posting). is_apart txn p ≡ false) (λ (p : Posting). list_any (is_since p.account s) changes ≡ true) (λ (p : Posting). (is_apart txn p ≡ false) × (list_any (is_since p.account s) changes ≡ true))
          (λ p a b. (a, b)) txn.postings alone (all-unmap (λ account. list_any (is_since account s) changes ≡ true) (λ (p : Posting). p.account) txn.postings noted))

      each : (i : ℕ) (t : Txn) → slice_get book i ≡ Some t → AllByRecursion (λ (f : Entry). f.0.txn ≡ n → is_noted changes f ≡ true) (placed_in t i 0 t.postings)
      each i t here =
          elim (cases_eq i n) as (λ _. AllByRecursion (λ (f : Entry). f.0.txn ≡ n → is_noted changes f ≡ true) (placed_in t i 0 t.postings)) [
            | inl same ↦
                let is : txn ≡ t = some-same txn t (sym got ∙ ap (slice_get book) (sym same) ∙ here) in
                all-map (λ (f : Entry). is_noted changes f ≡ true) (λ (f : Entry). f.0.txn ≡ n → is_noted changes f ≡ true) (λ f k _. k) (placed_in t i 0 t.postings)
                (subst (λ (x : Txn). AllByRecursion (λ (f : Entry). is_noted changes f ≡ true) (placed_in x i 0 x.postings)) is
                (subst (λ (m : ℕ). AllByRecursion (λ (f : Entry). is_noted changes f ≡ true) (placed_in txn m 0 txn.postings)) (sym same) own))
            | inr other ↦
                all-map (λ (f : Entry). f.0.txn ≡ i) (λ (f : Entry). f.0.txn ≡ n → is_noted changes f ≡ true) (λ f k h. absurd (other (sym k ∙ h))) (placed_in t i 0 t.postings) (own-number t i 0 t.postings)
          ]

-- an account that begins to change at a place, and is asked for by nothing that isn't reached
fresh-change : (edit : Edit) (answered : List Spot) (s : Spot) → AllByRecursion (λ (x : Spot). is_before x s ≡ true) answered → (spots : List Spot) → ((o : Option Spot) → IfSome o (λ t. list_all (λ x. is_before x t) (answered ++ s ∷ []) ≡ true) → IfSome o (λ t. list_all (λ x. is_before x t) spots ≡ true)) → (c : Change) → c.since ≡ s → ((other : ℕ → Bool) → IsClosed edit other → AllByRecursion (λ (e : Entry). asks c.account s e ≡ true → other e.0.txn ≡ true) (placed_from 0 edit.after)) → IsFirstAfter (placed_from 0 edit.after) c.account s c.next → IsChange edit spots c
fresh-change edit answered s before spots within c since reached first = record {
  reached = λ other k. subst (λ (x : Spot). AllByRecursion (λ (e : Entry). asks c.account x e ≡ true → other e.0.txn ≡ true) (placed_from 0 edit.after)) (sym since) (reached other k);
  seen = all-map (λ (e : Entry). asks c.account s e ≡ true → is_from c.next (spot_of e) ≡ true) (λ (e : Entry). asks c.account c.since e ≡ true → (holds spots e.0.txn || is_from c.next (spot_of e)) ≡ true)
      (λ e next a. or-right (holds spots e.0.txn) (is_from c.next (spot_of e)) (next (ap (λ (x : Spot). asks c.account x e) (sym since) ∙ a))) (placed_from 0 edit.after) first.each;
  ahead = within c.next (first-ahead edit c.account s answered before c.next first.found);
  found = subst (λ (x : Spot). IfSome c.next (λ t. list_any (λ (e : Entry). asks c.account x e && is_same (spot_of e) t) (placed_from 0 edit.after) ≡ true)) (sym since) first.found;
}

-- what was noted stays so
still-noted : (old more new : List Change) → new ≡ old ++ more → (f : Entry) → is_noted old f ≡ true → is_noted new f ≡ true
still-noted old more new kept f k = ap (λ (cs : List Change). is_noted cs f) kept ∙ any-left (is_since f.1.account (spot_of f)) old more k

-- where one more transaction is noted, those of all are
noted-one : (told : List Spot) (s : Spot) (old more new : List Change) → new ≡ old ++ more → (f : Entry) → (holds told f.0.txn ≡ true → is_noted old f ≡ true) → (f.0.txn ≡ s.number → is_noted new f ≡ true) → holds (told ++ s ∷ []) f.0.txn ≡ true → is_noted new f ≡ true
noted-one told s old more new kept f was is held =
    elim (or_cases (holds told f.0.txn) (holds (s ∷ []) f.0.txn) (sym (list_any-append (λ (t : Spot). t.number == f.0.txn) told (s ∷ [])) ∙ held)) as (λ _. is_noted new f ≡ true) [
      | inl k ↦ still-noted old more new kept f (was k)
      | inr k ↦ is (last k)
    ]
  where
    last : holds (s ∷ []) f.0.txn ≡ true → f.0.txn ≡ s.number
    last k = sym (eqb-true s.number f.0.txn (or-false (s.number == f.0.txn) k))
      where
        or-false : (b : Bool) → (b || false) ≡ true → b ≡ true
        or-false true q = refl
        or-false false q = q

-- ---- the transaction that was answered last

pub handed : (edit : Edit) (answered : List Spot) (ws : List Watch) → AreWatched edit.after ws → (s : Spot) (txn : Txn) → slice_get edit.after s.number ≡ Some txn → is_dated txn ≡ false → (old new : Reach) → awaited_in new ≡ awaited_in old → Notes ws s (accounts_of txn.postings) old.changes.items new.changes.items → Walks edit (answered ++ s ∷ []) answered old → Walks edit (answered ++ s ∷ []) (answered ++ s ∷ []) new
handed edit answered ws watched s txn got plain old new edited notes h = record {
  others = h.others;
  rise = h.rise;
  once = h.once;
  least = h.least;
  inside = h.inside;
  days = h.days;
  plain = all-push (IsPlain edit) answered s h.plain (λ t here. subst (λ (x : Txn). is_dated x ≡ false) (some-same txn t (sym got ∙ here)) plain);
  edited = subst (λ (ts : List Spot). AreAwaited edit (answered ++ s ∷ []) ts) (sym edited) h.edited;
  changes = subst (λ (cs : List Change). AllByRecursion (IsChange edit (answered ++ s ∷ [])) cs) (sym notes.kept)
      (all-join (IsChange edit (answered ++ s ∷ [])) old.changes.items notes.more h.changes
      (all-map (IsFresh ws s (accounts_of txn.postings)) (IsChange edit (answered ++ s ∷ [])) fresh notes.more notes.fresh));
  noted_before = all-map (λ (f : Entry). edit.is_edited f.0.txn ≡ true → is_noted old.changes.items f ≡ true) (λ (f : Entry). edit.is_edited f.0.txn ≡ true → is_noted new.changes.items f ≡ true)
      (λ f was own. still-noted old.changes.items notes.more new.changes.items notes.kept f (was own)) (placed_from 0 edit.before) h.noted_before;
  noted_after = all-zip (λ (f : Entry). holds answered f.0.txn ≡ true → is_noted old.changes.items f ≡ true) (λ (f : Entry). f.0.txn ≡ s.number → is_noted new.changes.items f ≡ true)
      (λ (f : Entry). holds (answered ++ s ∷ []) f.0.txn ≡ true → is_noted new.changes.items f ≡ true)
      (noted-one answered s old.changes.items notes.more new.changes.items notes.kept) (placed_from 0 edit.after) h.noted_after
      (noted-there edit.after s.number txn s got plain day refl new.changes.items notes.noted);
}
  where
    day : txn.day.0 ≡ s.day.0
    day = ap (λ (x : Day). x.0) (all-last (StandsOn edit) answered s h.days txn got plain)

    fresh : (c : Change) → IsFresh ws s (accounts_of txn.postings) c → IsChange edit (answered ++ s ∷ []) c
    fresh c k =
        fresh-change edit answered s (rise-last answered s h.rise) (answered ++ s ∷ []) (λ o x. x) c k.since
        (λ other closed.
        handed-on other edit.after c.account s closed.after
        (source edit.after s.number txn s got plain day refl other c.account (all-last (λ (t : Spot). other t.number ≡ true) answered s (h.least other closed)) k.account))
        (k.next edit.after watched)

-- ---- a walk that begins

pub begun-none : (edit : Edit) (spots : List Spot) (walk : Reach) → awaited_in walk ≡ spots → walk.changes.items ≡ [] → IsBegun edit spots [] walk
begun-none edit spots walk awaited empty = record {
  awaited = awaited;
  changes = subst (λ (cs : List Change). AllByRecursion (IsChange edit []) cs) (sym empty) tt;
  noted = all-each (λ (f : Entry). holds [] f.0.txn ≡ true → is_noted walk.changes.items f ≡ true) (λ f k. absurd (false≢true k)) (placed_from 0 edit.before);
}

-- an edited transaction had no old form
pub begun-new : (edit : Edit) (spots told : List Spot) (s : Spot) (walk : Reach) → slice_get edit.before s.number ≡ None → IsBegun edit spots told walk → IsBegun edit spots (told ++ s ∷ []) walk
begun-new edit spots told s walk was h = record {
  awaited = h.awaited;
  changes = h.changes;
  noted = all-zip (λ (f : Entry). holds told f.0.txn ≡ true → is_noted walk.changes.items f ≡ true) (λ (f : Entry). f.0.txn ≡ s.number → is_noted walk.changes.items f ≡ true)
      (λ (f : Entry). holds (told ++ s ∷ []) f.0.txn ≡ true → is_noted walk.changes.items f ≡ true)
      (noted-one told s walk.changes.items [] walk.changes.items (sym (append-nil walk.changes.items))) (placed_from 0 edit.before) h.noted
      (by-text (λ (f : Entry). f.0.txn ≡ s.number → is_noted walk.changes.items f ≡ true) edit.before
      (λ i t here. all-map (λ (f : Entry). f.0.txn ≡ i) (λ (f : Entry). f.0.txn ≡ s.number → is_noted walk.changes.items f ≡ true)
      (λ f own e. absurd (some-none t (sym here ∙ ap (slice_get edit.before) (sym own ∙ e) ∙ was)))
      (placed_in t i 0 t.postings) (own-number t i 0 t.postings)));
}
  where
    some-none : (t : Txn) → Some t ≡ None → ⊥
    some-none t q = cc

-- its old form is left
module _ (edit : Edit) (spots told : List Spot) (ws : List Watch) (watched : AreWatched edit.after ws) (others : AreSame edit.is_edited 0 edit.before edit.after)
    (old : Txn) (plain : is_dated old ≡ false) (s place : Spot) (day : old.day.0 ≡ place.day.0) (number : s.number ≡ place.number) (own : edit.is_edited s.number ≡ true) (was : slice_get edit.before s.number ≡ Some old) where
  left-reached : (c : Change) → IsFresh ws place (accounts_of old.postings) c → (other : ℕ → Bool) → IsClosed edit other → AllByRecursion (λ (e : Entry). asks c.account place e ≡ true → other e.0.txn ≡ true) (placed_from 0 edit.after)
  left-reached c k other closed =
      all-map (λ (e : Entry). edit.is_edited e.0.txn ≡ false → asks c.account place e ≡ true → other e.0.txn ≡ true) (λ (e : Entry). asks c.account place e ≡ true → other e.0.txn ≡ true)
      (λ e r a. elim (cases_Bool (edit.is_edited e.0.txn)) as (λ _. other e.0.txn ≡ true) [
        | inl on ↦ closed.edited e.0.txn on
        | inr off ↦ r off a
      ])
      (placed_from 0 edit.after)
      (back-all (λ (e : Entry). asks c.account place e ≡ true → other e.0.txn ≡ true) edit.is_edited 0 edit.before edit.after others
      (handed-on other edit.before c.account place closed.before
      (source edit.before s.number old place was plain day number other c.account (closed.edited s.number own) k.account)))

  left-fresh : (c : Change) → IsFresh ws place (accounts_of old.postings) c → IsChange edit [] c
  left-fresh c k = fresh-change edit [] place tt [] nothing c k.since (left-reached c k) (k.next edit.after watched)
    where
      nothing : (o : Option Spot) → IfSome o (λ t. list_all (λ x. is_before x t) ([] ++ place ∷ []) ≡ true) → IfSome o (λ t. list_all (λ x. is_before x t) [] ≡ true)
      nothing None q = tt
      nothing (Some t) q = refl

  pub begun-left : (before new : Reach) → awaited_in new ≡ awaited_in before → Notes ws place (accounts_of old.postings) before.changes.items new.changes.items → IsBegun edit spots told before → IsBegun edit spots (told ++ s ∷ []) new
  begun-left before new awaited notes h = record {
    awaited = awaited ∙ h.awaited;
    changes = subst (λ (cs : List Change). AllByRecursion (IsChange edit []) cs) (sym notes.kept)
        (all-join (IsChange edit []) before.changes.items notes.more h.changes
        (all-map (IsFresh ws place (accounts_of old.postings)) (IsChange edit []) left-fresh notes.more notes.fresh));
    noted = all-zip (λ (f : Entry). holds told f.0.txn ≡ true → is_noted before.changes.items f ≡ true) (λ (f : Entry). f.0.txn ≡ s.number → is_noted new.changes.items f ≡ true)
        (λ (f : Entry). holds (told ++ s ∷ []) f.0.txn ≡ true → is_noted new.changes.items f ≡ true)
        (noted-one told s before.changes.items notes.more new.changes.items notes.kept) (placed_from 0 edit.before) h.noted
        (noted-there edit.before s.number old place was plain day number new.changes.items notes.noted);
  }

-- all were told
pub begun-walks : (edit : Edit) (spots : List Spot) (walk : Reach) → IsEdit edit spots → IsBegun edit spots spots walk → Walks edit [] [] walk
begun-walks edit spots walk h k = record {
  others = h.others;
  rise = tt;
  once = tt;
  least = λ other closed. tt;
  inside = tt;
  days = tt;
  plain = tt;
  edited = subst (λ (ts : List Spot). AreAwaited edit [] ts) (sym k.awaited) (record {
    rise = h.rise;
    each = all-map (IsEditedAt edit) (IsAwaited edit []) waits spots h.each;
    all = h.all;
  });
  changes = k.changes;
  noted_before = all-map (λ (f : Entry). holds spots f.0.txn ≡ true → is_noted walk.changes.items f ≡ true) (λ (f : Entry). edit.is_edited f.0.txn ≡ true → is_noted walk.changes.items f ≡ true)
      (λ f was on. was (h.all f.0.txn on)) (placed_from 0 edit.before) k.noted;
  noted_after = all-each (λ (f : Entry). holds [] f.0.txn ≡ true → is_noted walk.changes.items f ≡ true) (λ f none. absurd (false≢true none)) (placed_from 0 edit.after);
}
  where
    waits : (t : Spot) → IsEditedAt edit t → IsAwaited edit [] t
    waits t e = record {
      own = e.own;
      free = λ _. refl;
      ahead = refl;
      day = λ txn here _. e.day txn here;
      inside = e.inside;
    }
