-- Reached transactions are taken out of a book.
use Rattle.std.proofs.Common.{◌≡◌, ℕ, ◌<◌, ◌==◌, Bool, true, false, not, ◌⊎◌, inl, inr, List, [], ◌∷◌, ◌++◌, length, set, slice_get, Some, refl, sym, ap, subst, ◌∙◌, arith}
use Rattle.std.specs.List.{AllByRecursion}
use Rattle.std.proofs.lemmas.Bool.{cases_Bool, eq-eqb, eqb-true, false≢true, ne_eqb}
use Rattle.std.proofs.lemmas.List.{length-set}
use Rattle.std.proofs.lemmas.List.Folds.{list_any-append}
use Rattle.std.proofs.lemmas.Option.{same_Some}
use Rattle.hl_time.specs.declared.day.Day.{Day}
use Rattle.book.specs.declared.transaction.Txn.{Txn}
use Rattle.live_index.specs.declared.row.Row.{Row}
use Rattle.shared_days.specs.Days.{AreOf as AreDaysOf}
use Rattle.shared_days.specs.declared.days.SharedDays.{SharedDays}
use Rattle.placed_sums.specs.Rows.{Stand}
use Rattle.placed_sums.proofs.Besides.{replaced_symbols}
use Rattle.placed_sums.proofs.Replacing.{stand_replaced}
use Rattle.reached_walk.specs.Apart.{is_dated}
use Rattle.reached_walk.specs.Asks.{AreWatched}
use Rattle.reached_walk.specs.Closed.{AreReached, Edit, IsClosed}
use Rattle.reached_walk.specs.Spots.{holds}
use Rattle.reached_walk.specs.Walks.{IsHanded, StandsOn, Walks}
use Rattle.reached_walk.specs.declared.place.Spot.{Spot}
use Rattle.reached_walk.specs.declared.walking.Reach.{Reach}
use Rattle.reached_walk.proofs.Entries.{got-inside}
use Rattle.reached_walk.proofs.Lists.{all-last, all-map, all-push, all-zip, pick}
use Rattle.reached_walk.proofs.Passing.{holds-last}
use Rattle.reached_walk.proofs.Running.{stands-inside}
use Rattle.watchers.specs.declared.watch.Watch.{Watch}
use Rattle.watchers.proofs.Tests.{and-first, or-first, or-none}
use Rattle.walked_edits.specs.Causes.{CanNot, CanWalk, IsDatedAt}
use Rattle.walked_edits.specs.Forms.{IsInside, put_back, spots_of, vacant}
use Rattle.walked_edits.specs.Keeping.{AreSums, IsTaken}
use Rattle.walked_edits.specs.Scenes.{Scene, StandsIn, edit_in}
use Rattle.walked_edits.specs.Solving.{is_at}
use Rattle.walked_edits.specs.Stepping.{IsElsewhere, IsOneOut, Vacates}
use Rattle.walked_edits.specs.Walking.{HasCome, IsOut, IsPartly, IsPutting, Takes}
use Rattle.walked_edits.specs.declared.kept.Kept.{Kept}
use Rattle.walked_edits.specs.declared.replaced.Replaced.{Replaced}
use Rattle.walked_edits.specs.declared.walking.Walking.{Walking}
use Rattle.walked_edits.proofs.Exchanging.{back_last, spots_last}
use Rattle.walked_edits.proofs.Gets.{get_other, get_set}
use Rattle.walked_edits.proofs.Loading.{at_place, before_at, got_any, written_undated}
use Rattle.walked_edits.proofs.Steps.{at_within, once_apart}
use Rattle.walked_edits.proofs.Turning.{told_set, vacated_fits}

pub all_spots : (P : Spot → Type 0) (forms : List Replaced) → AllByRecursion P (spots_of forms) → AllByRecursion (λ (r : Replaced). P r.spot) forms
all_spots P [] h = tt
all_spots P (r ∷ forms) h = (h.0, all_spots P forms h.1)

-- forms that are out stand where the book has a place that is held
pub out_inside : (book : List Txn) (forms : List Replaced) → AllByRecursion (IsOut book) forms → AllByRecursion (IsInside book) forms
out_inside book [] h = tt
out_inside book (r ∷ forms) h = (got-inside book r.spot.number (vacant r.spot.day) h.0.held, out_inside book forms h.1)

pub come_inside : (s : Scene) (spot : Spot) (book : List Txn) (w : Walking) (reach : Reach) → HasCome s spot book w reach → spot.number < length book
come_inside s spot book w reach h =
    let one = stands-inside (edit_in s) (spots_of w.taken.items) (spots_of w.taken.items) spot reach h.walks in
    let two = h.partly.size in
    omega (arith, one, two)

-- what is left of a book's sums
pub sums_left : (book : List Txn) (spot : Spot) (old : Txn) (before after : Kept) → AreSums book before → slice_get book spot.number ≡ Some old → IsTaken old (vacant spot.day) before after → AreSums (set book spot.number (vacant spot.day)) after
sums_left book spot old before after h was taken = record {
  stand = subst (λ (rows : List Row). Stand rows (set book spot.number (vacant spot.day))) (sym taken.index) (stand_replaced before.index book spot.number old (vacant spot.day) h.stand was);
  turnover = taken.turnover book spot.number was h.turnover;
  told = told_set book spot.number (vacant spot.day) h.told refl;
  fits = vacated_fits book spot.number (vacant spot.day) refl h.fits;
}

-- ---- one more is out

module _ (s : Scene) (spot : Spot) (book new : List Txn) (before after : Walking) (from reach : Reach)
    (come : HasCome s spot book before from)
    (handed : (written : Txn) → slice_get s.written spot.number ≡ Some written → IsHanded s.watches spot written from reach)
    (v : Vacates spot book new before after) where
  abbrev held : Txn
  held = vacant spot.day

  abbrev left : List Txn
  left = set book spot.number held

  abbrev spots : List Spot
  spots = spots_of before.taken.items

  inside : spot.number < length book
  inside = come_inside s spot book before from come

  more_spots : spots_of after.taken.items ≡ spots ++ spot ∷ []
  more_spots = ap spots_of v.taken ∙ spots_last before.taken.items (record { spot = spot; txn = v.old })

  back : put_back left after.taken.items ≡ put_back book before.taken.items
  back = ap (put_back left) v.taken ∙ back_last book before.taken.items spot v.old held v.was

  front : (n : ℕ) → holds (spots ++ spot ∷ []) n ≡ false → holds spots n ≡ false
  front n free = or-first (holds spots n) (holds (spot ∷ []) n) (sym (list_any-append (λ (t : Spot). t.number == n) spots (spot ∷ [])) ∙ free)

  own_left : (t : Spot) → slice_get book t.number ≡ Some (vacant t.day) → slice_get left t.number ≡ Some (vacant t.day)
  own_left t was = by (cases_Bool (spot.number == t.number))
    where
      by : ((spot.number == t.number) ≡ true) ⊎ ((spot.number == t.number) ≡ false) → slice_get left t.number ≡ Some (vacant t.day)
      by (inl e) =
          let same : spot.number ≡ t.number = eqb-true spot.number t.number e in
          let is : v.old ≡ vacant t.day = same_Some v.old (vacant t.day) (sym v.was ∙ ap (slice_get book) same ∙ was) in
          let day : spot.day.0 ≡ t.day.0 = sym (eqb-true v.old.day.0 spot.day.0 (and-first (v.old.day.0 == spot.day.0) (not (is_dated v.old)) v.own)) ∙ ap (λ (x : Txn). x.day.0) is in
          let whole : spot.day ≡ t.day = λ i. record { 0 = day i } in
          ap (slice_get left) (sym same) ∙ get_set book spot.number held inside ∙ ap (λ (d : Day). Some (vacant d)) whole
      by (inr e) = get_other book spot.number t.number held (λ same. false≢true (sym e ∙ eq-eqb spot.number t.number same)) ∙ was

  out_left : AllByRecursion (IsOut left) after.taken.items
  out_left =
      subst (λ (rs : List Replaced). AllByRecursion (IsOut left) rs) (sym v.taken)
      (all-push (IsOut left) before.taken.items (record { spot = spot; txn = v.old })
      (all-zip (IsOut book) (λ (r : Replaced). spot.number ≡ r.spot.number → ⊥) (IsOut left)
      (λ r out apart. record { held = get_other book spot.number r.spot.number held apart ∙ out.held; within = out.within })
      before.taken.items come.partly.held
      (all_spots (λ (t : Spot). spot.number ≡ t.number → ⊥) before.taken.items (once_apart spots spot come.walks.once)))
      (record { held = get_set book spot.number held inside; within = at_within spot v.old v.own }))

  partly_left : IsPartly s left after.kept [] after.taken.items
  partly_left = record {
    before = come.partly.before;
    edited = come.partly.edited;
    sums = sums_left book spot v.old before.kept after.kept come.partly.sums v.was v.kept;
    days =
        subst (λ (days : SharedDays). AreDaysOf (put_back left after.taken.items) days) (sym v.kept.days)
        (subst (λ (b : List Txn). AreDaysOf b before.kept.days) (sym back) come.partly.days);
    symbols = replaced_symbols s.symbols book spot.number v.old held come.partly.symbols v.was (λ symbol named. absurd (false≢true named));
    size = length-set book spot.number held ∙ come.partly.size;
    others = λ n free out other.
        let off : holds (spots ++ spot ∷ []) n ≡ false = ap (λ (ps : List Spot). holds ps n) (sym more_spots) ∙ out in
        get_other book spot.number n held (λ e. false≢true (sym off ∙ holds-last spots spot n e)) ∙ come.partly.others n free (front n off) other;
    own =
        all-map (λ (t : Spot). holds [] t.number ≡ false → slice_get book t.number ≡ Some (vacant t.day)) (λ (t : Spot). holds [] t.number ≡ false → slice_get left t.number ≡ Some (vacant t.day))
        (λ t was off. own_left t (was off)) s.spots come.partly.own;
    held = out_left;
    right = tt;
    exact = λ set other can. tt;
  }

  walks_on : Walks (edit_in s) (spots ++ spot ∷ []) (spots ++ spot ∷ []) reach
  walks_on =
      let mine = got_any s.written spot.number (stands-inside (edit_in s) spots spots spot from come.walks) in
      handed mine.0 mine.1 (edit_in s) spots come.partly.edited.watched mine.1 come.walks

  pub takes_on : Takes s new after reach
  takes_on =
      subst (λ (b : List Txn). Takes s b after reach) (sym v.book_is)
      (record {
        partly = partly_left;
        walks = subst (λ (ps : List Spot). Walks (edit_in s) ps ps reach) (sym more_spots) walks_on;
      })

  pub is_one_out : IsOneOut spot book new before.taken.items after.taken.items
  is_one_out = record {
    old = v.old;
    was = v.was;
    is = v.taken;
    back = ap (λ (b : List Txn). put_back b after.taken.items) v.book_is ∙ back;
  }

-- ---- why one can't be taken out

module _ (s : Scene) (spot : Spot) (book : List Txn) (w : Walking) (reach : Reach) (come : HasCome s spot book w reach) where
  inside_text : spot.number < length s.written
  inside_text = stands-inside (edit_in s) (spots_of w.taken.items) (spots_of w.taken.items) spot reach come.walks

  on_set : (set : ℕ → Bool) → IsClosed (edit_in s) set → set spot.number ≡ true
  on_set set closed = all-last (λ (t : Spot). set t.number ≡ true) (spots_of w.taken.items) spot (come.walks.least set closed)

  pub dated_not : IsDatedAt s spot → CanNot s
  dated_not dated set after can =
      let mine = got_any s.written spot.number inside_text in
      absurd (false≢true (sym (written_undated s come.partly.before come.partly.edited set after can spot.number mine.0 (on_set set can.closed) mine.1) ∙ dated mine.0 mine.1))

  own_at : (set : ℕ → Bool) (after : List Txn) → CanWalk s set after → (old : Txn) → slice_get book spot.number ≡ Some old → is_at spot old ≡ true
  own_at set after can old got = by (cases_Bool (holds s.spots spot.number))
    where
      mine : (t : Txn) × (slice_get s.written spot.number ≡ Some t)
      mine = got_any s.written spot.number inside_text

      plain : is_dated mine.0 ≡ false
      plain = written_undated s come.partly.before come.partly.edited set after can spot.number mine.0 (on_set set can.closed) mine.1

      stands : StandsOn (edit_in s) spot
      stands = all-last (StandsOn (edit_in s)) (spots_of w.taken.items) spot come.walks.days

      day : mine.0.day ≡ spot.day
      day = stands mine.0 mine.1 plain

      free : holds (spots_of w.taken.items) spot.number ≡ false
      free = none_held (spots_of w.taken.items) (once_apart (spots_of w.taken.items) spot come.walks.once)
        where
          none_held : (ps : List Spot) → AllByRecursion (λ (t : Spot). spot.number ≡ t.number → ⊥) ps → holds ps spot.number ≡ false
          none_held [] h = refl
          none_held (p ∷ ps) h = or-none (p.number == spot.number) (holds ps spot.number) (ne_eqb p.number spot.number (λ e. h.0 (sym e))) (none_held ps h.1)

      held_by : (t : Spot) → (slice_get book t.number ≡ Some (vacant t.day)) × StandsIn s t → (t.number == spot.number) ≡ true → is_at spot old ≡ true
      held_by t both e =
          let same : t.number ≡ spot.number = eqb-true t.number spot.number e in
          let is : vacant t.day ≡ old = same_Some (vacant t.day) old (sym both.0 ∙ ap (slice_get book) same ∙ got) in
          let here : mine.0.day ≡ t.day = both.1.day mine.0 (ap (slice_get s.written) same ∙ mine.1) in
          subst (λ (x : Txn). is_at spot x ≡ true) is (at_place spot (vacant t.day) (ap (λ (d : Day). d.0) (sym here ∙ day)) refl)

      by : (holds s.spots spot.number ≡ true) ⊎ (holds s.spots spot.number ≡ false) → is_at spot old ≡ true
      by (inl on) =
          pick (λ (t : Spot). (slice_get book t.number ≡ Some (vacant t.day)) × StandsIn s t) (λ (t : Spot). t.number == spot.number) (is_at spot old ≡ true) held_by s.spots
          (all-zip (λ (t : Spot). holds [] t.number ≡ false → slice_get book t.number ≡ Some (vacant t.day)) (StandsIn s) (λ (t : Spot). (slice_get book t.number ≡ Some (vacant t.day)) × StandsIn s t)
          (λ t was stands. (was refl, stands)) s.spots come.partly.own come.partly.edited.each) on
      by (inr e) =
          before_at s come.partly.before come.partly.edited set after can spot mine.0 old (on_set set can.closed) e mine.1
          (sym (come.partly.others spot.number refl free e) ∙ got) day

  pub elsewhere_not : IsElsewhere book spot → CanNot s
  elsewhere_not off set after can =
      let mine = got_any book spot.number (come_inside s spot book w reach come) in
      absurd (false≢true (sym (off mine.0 mine.1) ∙ own_at set after can mine.0 mine.1))

-- ---- from step to step

pub has_come : (s : Scene) (spot : Spot) (book : List Txn) (w : Walking) (from reach : Reach) (ws : List Watch) → ws ≡ s.watches → Takes s book w from → ((edit : Edit) (answered : List Spot) → AreWatched edit.after ws → Walks edit answered answered from → Walks edit (answered ++ spot ∷ []) answered reach) → HasCome s spot book w reach
has_come s spot book w from reach ws same h next = record {
  partly = h.partly;
  walks = next (edit_in s) (spots_of w.taken.items) (subst (AreWatched s.written) (sym same) h.partly.edited.watched) h.walks;
}

pub all_taken : (s : Scene) (book : List Txn) (w : Walking) (from : Reach) (ws : List Watch) → ws ≡ s.watches → Takes s book w from → ((edit : Edit) (answered : List Spot) → AreWatched edit.after ws → Walks edit answered answered from → AreReached edit answered) → IsPutting s book w.kept [] w.taken.items
all_taken s book w from ws same h next = record {
  partly = h.partly;
  reached = next (edit_in s) (spots_of w.taken.items) (subst (AreWatched s.written) (sym same) h.partly.edited.watched) h.walks;
}

-- what is known at each turn
pub record IsTakingOn (s : Scene) (start book : List Txn) (w : Walking) (reach : Reach) : Type 0 where
  pub takes : Takes s book w reach
  pub back : put_back book w.taken.items ≡ start
