-- The transactions that are out of a book are put in anew.
use Rattle.std.proofs.Common.{◌≡◌, ℕ, ◌^◌, ◌<◌, ◌==◌, nat_lt, Bool, true, false, ◌&&◌, ◌||◌, ◌⊎◌, inl, inr, List, [], ◌∷◌, ◌++◌, filter, length, set, slice_get, Some, refl, sym, ap, subst, ◌∙◌, arith, append_assoc}
use Rattle.std.specs.List.{AllByRecursion, list_all}
use Rattle.std.proofs.lemmas.Bool.{cases_Bool, eq-eqb, eqb-true, false≢true, ne_eqb}
use Rattle.std.proofs.lemmas.Bool.Decides.{Decides-ltb}
use Rattle.std.proofs.lemmas.List.{length-set, set-set}
use Rattle.std.proofs.lemmas.List.Folds.{list_any-append}
use Rattle.std.proofs.lemmas.Option.{same_Some}
use Rattle.hl_time.specs.declared.day.Day.{Day}
use Rattle.book.specs.Postings.{postings_of}
use Rattle.book.specs.SumsBefore as sums
use Rattle.book.specs.SumsBefore.{Place, is_of, placed_in}
use Rattle.book.specs.declared.transaction.Txn.{Txn}
use Rattle.entry_balance.specs.Entry.{moved}
use Rattle.live_index.specs.declared.row.Row.{Row}
use Rattle.placed_checks.specs.Placed.{SameBefore}
use Rattle.shared_days.specs.Days.{AreOf as AreDaysOf}
use Rattle.placed_sums.specs.Rows.{Stand}
use Rattle.placed_sums.proofs.Besides.{replaced_symbols}
use Rattle.placed_sums.proofs.Replacing.{stand_replaced}
use Rattle.reached_entries.specs.Reached.{IsSolved}
use Rattle.reached_walk.specs.Apart.{is_dated}
use Rattle.reached_walk.specs.Closed.{AreReached, IsOnDay}
use Rattle.reached_walk.specs.Spots.{AreOnce, holds, is_before}
use Rattle.reached_walk.specs.declared.place.Spot.{Spot}
use Rattle.reached_walk.proofs.Entries.{Entry, got-inside}
use Rattle.reached_walk.proofs.Lists.{all-map, all-push, all-right, all-true, all-zip, any-right, pick}
use Rattle.reached_walk.proofs.Orders.{and-rest}
use Rattle.reached_walk.proofs.Passing.{holds-last}
use Rattle.watchers.proofs.Tests.{and-both, not-true, or-first, or-left, or-none, or-right, or-second}
use Rattle.walked_edits.specs.Causes.{CanNot, CanWalk, IsCause, LacksSymbol, MovesTooMuch}
use Rattle.walked_edits.specs.Forms.{put_back, spots_of, vacant}
use Rattle.walked_edits.specs.Keeping.{AreSums, IsHeld, IsPut, TellSums}
use Rattle.walked_edits.specs.Scenes.{Scene, edit_in}
use Rattle.walked_edits.specs.Solving.{IsFormOf, is_at, is_fit, is_near, place_at}
use Rattle.walked_edits.specs.Stepping.{StaysBack}
use Rattle.walked_edits.specs.Symbols.{are_known}
use Rattle.walked_edits.specs.Walking.{AreAlikeAt, IsFound, IsNext, IsOut, IsPartly, IsPutting, IsRight, PutsNext}
use Rattle.walked_edits.specs.declared.fault.WalkFault.{WalkFault}
use Rattle.walked_edits.specs.declared.fault.WalkFault.TheVariants.{Load, Memory}
use Rattle.walked_edits.specs.declared.kept.Kept.{Kept}
use Rattle.walked_edits.specs.declared.replaced.Replaced.{Replaced}
use Rattle.walked_edits.proofs.Gets.{get_other, get_set}
use Rattle.walked_edits.proofs.Loading.{after_got, after_solved, after_undated, at_place, got_any, made_day, none_counted, on_set, same_counted, solved_of, solves_size, stays_after}
use Rattle.walked_edits.proofs.Founds.{cause_of}
use Rattle.walked_edits.proofs.Named.{moved_in, unknown_lacks}
use Rattle.walked_edits.proofs.Steps.{after_before, at_within, itself_not, right_here, right_stays}
use Rattle.walked_edits.proofs.Taking.{all_spots}
use Rattle.walked_edits.proofs.Turning.{IsPartOf, part_fits, solved_costs, told_set}
use Rattle.walked_edits.proofs.Waiting.{back_over, back_size, earlier_back, later_day, once_mid, put_set, rise_mid}

pub spots_both : (xs ys : List Replaced) → spots_of (xs ++ ys) ≡ spots_of xs ++ spots_of ys
spots_both [] ys = refl
spots_both (x ∷ xs) ys = ap (λ (ps : List Spot). x.spot ∷ ps) (spots_both xs ys)

-- ---- where the next one stands

module _ (s : Scene) (book : List Txn) (kept : Kept) (next : Replaced) (done rest : List Replaced) (p : IsPutting s book kept done (next ∷ rest)) where
  abbrev spot : Spot
  spot = next.spot

  abbrev all : List Spot
  all = spots_of done ++ spot ∷ spots_of rest

  spots_are : spots_of (done ++ next ∷ rest) ≡ all
  spots_are = spots_both done (next ∷ rest)

  reached : AreReached (edit_in s) all
  reached = subst (λ (ps : List Spot). AreReached (edit_in s) ps) spots_are p.reached

  rises : AllByRecursion (λ (x : Spot). is_before x spot ≡ true) (spots_of done) × (list_all (is_before spot) (spots_of rest) ≡ true)
  rises = rise_mid (spots_of done) (spots_of rest) spot reached.rise

  onces : AllByRecursion (λ (x : Spot). spot.number ≡ x.number → ⊥) (spots_of done) × (holds (spots_of rest) spot.number ≡ false) × AreOnce (spots_of rest)
  onces = once_mid (spots_of done) (spots_of rest) spot reached.once

  pub held_at : slice_get book spot.number ≡ Some (vacant spot.day)
  held_at = p.partly.held.0.held

  pub next_inside : spot.number < length book
  next_inside = got-inside book spot.number (vacant spot.day) held_at

  pub text_inside : spot.number < length s.written
  text_inside = let one = next_inside in let two = p.partly.size in omega (arith, one, two)

  late : AllByRecursion (λ (r : Replaced). r.spot.number < spot.number → r.spot.day.0 ≡ spot.day.0 → ⊥) (next ∷ rest)
  late = (
    λ less _. absurd (omega (arith, less)),
    all_spots (λ (t : Spot). t.number < spot.number → t.day.0 ≡ spot.day.0 → ⊥) rest
        (all-map (λ (t : Spot). is_before spot t ≡ true) (λ (t : Spot). t.number < spot.number → t.day.0 ≡ spot.day.0 → ⊥) (λ t before. later_day spot t before) (spots_of rest)
        (all-true (is_before spot) (spots_of rest) rises.1)),
  )

  pub tells : TellSums s.symbols book kept spot
  tells = record {
    sums = p.partly.sums;
    whole = put_back book (next ∷ rest);
    days = p.partly.days;
    earlier = earlier_back spot.day.0 spot.number book (next ∷ rest) (onces.1, onces.2) p.partly.held late;
    named = p.partly.symbols;
  }

  -- ---- its form is put in

  module _ (new : List Txn) (after : Kept) (form written : Txn)
      (is : slice_get s.written spot.number ≡ Some written)
      (found : IsFound s.symbols book spot written form)
      (put : IsPut (vacant spot.day) next form kept after)
      (book_is : new ≡ set book spot.number form)
      (exact : (other : ℕ → Bool) (solution : List Txn) → CanWalk s other solution → slice_get solution spot.number ≡ Some form) where
    abbrev more : List Txn
    more = set book spot.number form

    days_are : set (put_back book (next ∷ rest)) spot.number form ≡ put_back more rest
    days_are = set-set (put_back book rest) spot.number next.txn form ∙ sym (put_set book rest spot.number form onces.1)

    was_out : slice_get (put_back book (next ∷ rest)) spot.number ≡ Some next.txn
    was_out = get_set (put_back book rest) spot.number next.txn (let one = next_inside in let two = back_size book rest in omega (arith, one, two))

    all_sums : AreSums more after
    all_sums =
        let turnover = put.turnover book spot.number held_at p.partly.sums.turnover in
        record {
          stand = subst (λ (rows : List Row). Stand rows more) (sym put.index) (stand_replaced kept.index book spot.number (vacant spot.day) form p.partly.sums.stand held_at);
          turnover = turnover;
          told = told_set book spot.number form p.partly.sums.told put.costs;
          fits = put.fits (moved (postings_of more)) turnover;
        }

    apart_from : (n : ℕ) → holds (spots_of (done ++ next ∷ [])) n ≡ false → (spot.number ≡ n → ⊥)
    apart_from n off e =
        false≢true (sym off ∙ ap (λ (ps : List Spot). holds ps n) (spots_both done (next ∷ [])) ∙ holds-last (spots_of done) spot n e)

    front_off : (n : ℕ) → holds (spots_of (done ++ next ∷ [])) n ≡ false → holds (spots_of done) n ≡ false
    front_off n off =
        or-first (holds (spots_of done) n) (holds (spot ∷ []) n)
        (sym (list_any-append (λ (t : Spot). t.number == n) (spots_of done) (spot ∷ [])) ∙ ap (λ (ps : List Spot). holds ps n) (sym (spots_both done (next ∷ []))) ∙ off)

    rest_apart : (ps : List Spot) → holds ps spot.number ≡ false → AllByRecursion (λ (t : Spot). spot.number ≡ t.number → ⊥) ps
    rest_apart [] h = tt
    rest_apart (t ∷ ps) h = (
      λ e. false≢true (sym (or-first (t.number == spot.number) (holds ps spot.number) h) ∙ eq-eqb t.number spot.number (sym e)),
      rest_apart ps (or-second (t.number == spot.number) (holds ps spot.number) h),
    )

    still_out : AllByRecursion (IsOut more) rest
    still_out =
        all-zip (IsOut book) (λ (r : Replaced). spot.number ≡ r.spot.number → ⊥) (IsOut more)
        (λ r out apart. record { held = get_other book spot.number r.spot.number form apart ∙ out.held; within = out.within })
        rest p.partly.held.1 (all_spots (λ (t : Spot). spot.number ≡ t.number → ⊥) rest (rest_apart (spots_of rest) onces.1))

    rights : AllByRecursion (IsRight s.written more) (spots_of done ++ spot ∷ [])
    rights =
        all-push (IsRight s.written more) (spots_of done) spot
        (all-zip (IsRight s.written book) (λ (t : Spot). (is_before t spot ≡ true) × (spot.number ≡ t.number → ⊥)) (IsRight s.written more)
        (λ t r both. right_stays s book spot (vacant spot.day) form held_at tt found.within next_inside t r both.0 both.1) (spots_of done) p.partly.right
        (all-zip (λ (t : Spot). is_before t spot ≡ true) (λ (t : Spot). spot.number ≡ t.number → ⊥) (λ (t : Spot). (is_before t spot ≡ true) × (spot.number ≡ t.number → ⊥)) (λ t a b. (a, b)) (spots_of done) rises.0 onces.0))
        (right_here s book spot (vacant spot.day) form held_at tt found.within next_inside written is found.by_book)

    alikes : (other : ℕ → Bool) (solution : List Txn) → CanWalk s other solution → AllByRecursion (AreAlikeAt more solution) (spots_of done ++ spot ∷ [])
    alikes other solution can =
        all-push (AreAlikeAt more solution) (spots_of done) spot
        (all-zip (AreAlikeAt book solution) (λ (t : Spot). spot.number ≡ t.number → ⊥) (AreAlikeAt more solution)
        (λ t same apart. get_other book spot.number t.number form apart ∙ same) (spots_of done) (p.partly.exact other solution can) onces.0)
        (get_set book spot.number form next_inside ∙ sym (exact other solution can))

    partly_more : IsPartly s more after (done ++ next ∷ []) rest
    partly_more = record {
      before = p.partly.before;
      edited = p.partly.edited;
      sums = all_sums;
      days = subst (λ (b : List Txn). AreDaysOf b after.days) days_are (put.days (put_back book (next ∷ rest)) spot.day.0 p.partly.days was_out p.partly.held.0.within found.within);
      symbols = replaced_symbols s.symbols book spot.number (vacant spot.day) form p.partly.symbols held_at found.named;
      size = length-set book spot.number form ∙ p.partly.size;
      others = λ n off out other.
          get_other book spot.number n form (apart_from n off)
          ∙ p.partly.others n (front_off n off) (or-none (spot.number == n) (holds (spots_of rest) n) (ne_eqb spot.number n (apart_from n off)) out) other;
      own =
          all-map (λ (t : Spot). holds (spots_of done) t.number ≡ false → slice_get book t.number ≡ Some (vacant t.day)) (λ (t : Spot). holds (spots_of (done ++ next ∷ [])) t.number ≡ false → slice_get more t.number ≡ Some (vacant t.day))
          (λ t was off. get_other book spot.number t.number form (apart_from t.number off) ∙ was (front_off t.number off)) s.spots p.partly.own;
      held = still_out;
      right = subst (λ (ps : List Spot). AllByRecursion (IsRight s.written more) ps) (sym (spots_both done (next ∷ []))) rights;
      exact = λ other solution can. subst (λ (ps : List Spot). AllByRecursion (AreAlikeAt more solution) ps) (sym (spots_both done (next ∷ []))) (alikes other solution can);
    }

    pub putting_on : IsPutting s new after (done ++ next ∷ []) rest
    putting_on =
        subst (λ (b : List Txn). IsPutting s b after (done ++ next ∷ []) rest) (sym book_is)
        (record {
          partly = partly_more;
          reached = subst (λ (rs : List Replaced). AreReached (edit_in s) (spots_of rs)) (sym (append_assoc done (next ∷ []) rest)) p.reached;
        })

  -- ---- where the walk can tell the new book

  module _ (other : ℕ → Bool) (solution : List Txn) (can : CanWalk s other solution) where
    size : length book ≡ length solution
    size = p.partly.size ∙ sym (solves_size s.written solution can.solves)

    spot_set : (t : Spot) → holds all t.number ≡ true → other t.number ≡ true
    spot_set t on = on_set s p.partly.before p.partly.edited other solution can all reached t.number on

    -- the solution has on its day what is out
    stands : (t : Spot) (w x : Txn) → IsOnDay (edit_in s) t → slice_get s.written t.number ≡ Some w → slice_get solution t.number ≡ Some x → x.day.0 ≡ t.day.0
    stands t w x on gw gx =
        ap (λ (d : Day). d.0) (made_day w x (solved_of solution t.number w x (after_solved s p.partly.before p.partly.edited other solution can t.number w x gw gx)) ∙ on.day w gw)

    -- what isn't out is there
    agree : (n : ℕ) → holds (spot ∷ spots_of rest) n ≡ false → slice_get book n ≡ slice_get solution n
    agree n off = by (cases_Bool (holds (spots_of done) n))
      where
        by : (holds (spots_of done) n ≡ true) ⊎ (holds (spots_of done) n ≡ false) → slice_get book n ≡ slice_get solution n
        by (inl on) =
            pick (AreAlikeAt book solution) (λ (t : Spot). t.number == n) (slice_get book n ≡ slice_get solution n)
            (λ t same here. subst (λ (k : ℕ). slice_get book k ≡ slice_get solution k) (eqb-true t.number n here) same) (spots_of done) (p.partly.exact other solution can) on
        by (inr free) =
            let none : holds all n ≡ false = list_any-append (λ (t : Spot). t.number == n) (spots_of done) (spot ∷ spots_of rest) ∙ or-none (holds (spots_of done) n) (holds (spot ∷ spots_of rest) n) free off in
            p.partly.others n free off (not-true (holds s.spots n) (λ on. false≢true (sym none ∙ reached.closed.edited n on)))
            ∙ stays_after s p.partly.before p.partly.edited other solution can all reached n none

    -- what is out moves nothing
    out_vacant : (rs : List Replaced) (i : ℕ) (x : Txn) → AllByRecursion (IsOut book) rs → holds (spots_of rs) i ≡ true → slice_get book i ≡ Some x → x.postings ≡ []
    out_vacant [] i x h on got = absurd (false≢true on)
    out_vacant (r ∷ rs) i x h on got =
        elim (cases_Bool (r.spot.number == i)) as (λ _. x.postings ≡ []) [
          | inl e ↦ ap (λ (t : Txn). t.postings) (same_Some x (vacant r.spot.day) (sym got ∙ ap (slice_get book) (sym (eqb-true r.spot.number i e)) ∙ h.0.held))
          | inr e ↦ out_vacant rs i x h.1 (sym (ap (λ (b : Bool). b || holds (spots_of rs) i) e) ∙ on) got
        ]

    -- nor has it postings before the place in the solution
    none_there : (account : List ℕ) (below : Bool) (r : Replaced) (u : Txn) → holds all r.spot.number ≡ true → IsOnDay (edit_in s) r.spot → sums.is_before (place_at r.spot) (place_at spot) ≡ false → slice_get solution r.spot.number ≡ Some u
        → filter (λ (e : Entry). sums.is_before e.0 (place_at spot) && is_of account below e.1.account) (placed_in u r.spot.number 0 u.postings) ≡ []
    none_there account below r u on on_day after_it gu =
        let mine = got_any s.written r.spot.number (let one = got-inside solution r.spot.number u gu in let two = solves_size s.written solution can.solves in omega (arith, one, two)) in
        let plain : is_dated u ≡ false = after_undated s p.partly.before p.partly.edited other solution can r.spot.number u (spot_set r.spot on) gu in
        none_counted (place_at spot) account below r.spot.day.0 r.spot.number u 0 u.postings after_it
        (at_within r.spot u (at_place r.spot u (stands r.spot mine.0 u on_day mine.1 gu) plain))

    module _ (account : List ℕ) (below : Bool) where
      abbrev counts : Entry → Bool
      counts e = sums.is_before e.0 (place_at spot) && is_of account below e.1.account

      -- each that is out has none there in either book
      none_out : (rs : List Replaced) (n : ℕ) (t u : Txn) → AllByRecursion (IsOut book) rs
          → AllByRecursion (λ (r : Replaced). (holds all r.spot.number ≡ true) × IsOnDay (edit_in s) r.spot × (sums.is_before (place_at r.spot) (place_at spot) ≡ false)) rs
          → holds (spots_of rs) n ≡ true → slice_get book n ≡ Some t → slice_get solution n ≡ Some u → filter counts (placed_in t n 0 t.postings) ≡ filter counts (placed_in u n 0 u.postings)
      none_out [] n t u out h on gt gu = absurd (false≢true on)
      none_out (r ∷ rs) n t u out h on gt gu =
          elim (cases_Bool (r.spot.number == n)) as (λ _. filter counts (placed_in t n 0 t.postings) ≡ filter counts (placed_in u n 0 u.postings)) [
            | inl e ↦
                let same : r.spot.number ≡ n = eqb-true r.spot.number n e in
                let is : t ≡ vacant r.spot.day = same_Some t (vacant r.spot.day) (sym gt ∙ ap (slice_get book) (sym same) ∙ out.0.held) in
                ap (λ (x : Txn). filter counts (placed_in x n 0 x.postings)) is
                ∙ sym (subst (λ (k : ℕ). filter counts (placed_in u k 0 u.postings) ≡ []) same (none_there account below r u h.0.0 h.0.1 h.0.2 (ap (slice_get solution) same ∙ gu)))
            | inr e ↦ none_out rs n t u out.1 h.1 (sym (ap (λ (b : Bool). b || holds (spots_of rs) n) e) ∙ on) gt gu
          ]

      held_all : (n : ℕ) → holds (spot ∷ spots_of rest) n ≡ true → holds all n ≡ true
      held_all n on = any-right (λ (t : Spot). t.number == n) (spots_of done) (spot ∷ spots_of rest) on

      own_held : (ps : List Spot) → AllByRecursion (λ (t : Spot). holds ps t.number ≡ true) ps
      own_held [] = tt
      own_held (t ∷ ps) = (
        or-left (t.number == t.number) (holds ps t.number) (eq-eqb t.number t.number refl),
        all-map (λ (x : Spot). holds ps x.number ≡ true) (λ (x : Spot). holds (t ∷ ps) x.number ≡ true) (λ x on. or-right (t.number == x.number) (holds ps x.number) on) ps (own_held ps),
      )

      not_before : AllByRecursion (λ (t : Spot). sums.is_before (place_at t) (place_at spot) ≡ false) (spot ∷ spots_of rest)
      not_before = (
        itself_not spot.day.0 spot.number,
        all-map (λ (t : Spot). is_before spot t ≡ true) (λ (t : Spot). sums.is_before (place_at t) (place_at spot) ≡ false) (λ t before. after_before spot t before) (spots_of rest)
            (all-true (is_before spot) (spots_of rest) rises.1),
      )

      known_out : AllByRecursion (λ (t : Spot). (holds all t.number ≡ true) × IsOnDay (edit_in s) t × (sums.is_before (place_at t) (place_at spot) ≡ false)) (spot ∷ spots_of rest)
      known_out =
          all-zip (λ (t : Spot). (holds all t.number ≡ true) × IsOnDay (edit_in s) t) (λ (t : Spot). sums.is_before (place_at t) (place_at spot) ≡ false)
          (λ (t : Spot). (holds all t.number ≡ true) × IsOnDay (edit_in s) t × (sums.is_before (place_at t) (place_at spot) ≡ false)) (λ t a b. (a.0, a.1, b)) (spot ∷ spots_of rest)
          (all-zip (λ (t : Spot). holds (spot ∷ spots_of rest) t.number ≡ true) (IsOnDay (edit_in s)) (λ (t : Spot). (holds all t.number ≡ true) × IsOnDay (edit_in s) t) (λ t a b. (held_all t.number a, b)) (spot ∷ spots_of rest)
          (own_held (spot ∷ spots_of rest)) (all-right (IsOnDay (edit_in s)) (spots_of done) (spot ∷ spots_of rest) reached.days))
          not_before

      same_there : sums.postings_before book account below (place_at spot) ≡ sums.postings_before solution account below (place_at spot)
      same_there = same_counted (place_at spot) account below book solution size each
        where
          each : (n : ℕ) (t u : Txn) → slice_get book n ≡ Some t → slice_get solution n ≡ Some u → filter counts (placed_in t n 0 t.postings) ≡ filter counts (placed_in u n 0 u.postings)
          each n t u gt gu = by (cases_Bool (holds (spot ∷ spots_of rest) n))
            where
              by : (holds (spot ∷ spots_of rest) n ≡ true) ⊎ (holds (spot ∷ spots_of rest) n ≡ false) → filter counts (placed_in t n 0 t.postings) ≡ filter counts (placed_in u n 0 u.postings)
              by (inl on) =
                  none_out (next ∷ rest) n t u p.partly.held
                  (all_spots (λ (x : Spot). (holds all x.number ≡ true) × IsOnDay (edit_in s) x × (sums.is_before (place_at x) (place_at spot) ≡ false)) (next ∷ rest) known_out) on gt gu
              by (inr off) = ap (λ (x : Txn). filter counts (placed_in x n 0 x.postings)) (same_Some t u (sym gt ∙ agree n off ∙ gu))

    same_places : SameBefore book solution (place_at spot)
    same_places account below = same_there account below

    next_on : IsOnDay (edit_in s) spot
    next_on = (all-right (IsOnDay (edit_in s)) (spots_of done) (spot ∷ spots_of rest) reached.days).0

    next_set : other spot.number ≡ true
    next_set = spot_set spot (any-right (λ (t : Spot). t.number == spot.number) (spots_of done) (spot ∷ spots_of rest) (or-left (spot.number == spot.number) (holds (spots_of rest) spot.number) (eq-eqb spot.number spot.number refl)))

    module _ (written : Txn) (is : slice_get s.written spot.number ≡ Some written) where
      pub solution_form : (t : Txn) × (slice_get solution spot.number ≡ Some t)
      solution_form = after_got s p.partly.before p.partly.edited other solution can spot.number written is

      day_is : written.day.0 ≡ spot.day.0
      day_is = ap (λ (d : Day). d.0) (next_on.day written is)

      form_solved : IsSolved solution spot.number written solution_form.0
      form_solved = after_solved s p.partly.before p.partly.edited other solution can spot.number written solution_form.0 is solution_form.1

      pub form_of : IsFormOf book solution spot written solution_form.0
      form_of = record {
        day = day_is;
        there = solution_form.1;
        few = can.few;
        same = same_places;
        unmixed = can.unmixed spot.number solution_form.0 next_set solution_form.1;
        is_solved = form_solved;
        fits = can.solves.fits;
      }

      pub form_near : is_near spot written ≡ true
      form_near =
          let less = can.near spot.number written next_set is in
          and-both (written.day.0 == spot.day.0) (nat_lt spot.day.0 4194304) (eq-eqb written.day.0 spot.day.0 day_is)
          ((Decides-ltb spot.day.0 4194304).1 (subst (λ (n : ℕ). n < 2 ^ 22) day_is less))

      -- where it doesn't fit, a symbol of the solution is lacking
      pub form_lacks : is_fit s.symbols spot solution_form.0 ≡ false → LacksSymbol s.symbols solution
      form_lacks off =
          let at : is_at spot solution_form.0 ≡ true =
          at_place spot solution_form.0 (stands spot written solution_form.0 next_on is solution_form.1) (after_undated s p.partly.before p.partly.edited other solution can spot.number solution_form.0 next_set solution_form.1) in
          let lacks = unknown_lacks s.symbols solution_form.0.postings (and-rest (is_at spot solution_form.0) (are_known s.symbols solution_form.0.postings) at off) in
          record {
            symbol = lacks.symbol;
            moved = moved_in solution spot.number solution_form.0 solution_form.1 lacks.symbol lacks.moved;
            lacks = lacks.off;
          }

      part_with : IsPartOf (set book spot.number solution_form.0) solution
      part_with i x got = by (cases_Bool (spot.number == i))
        where
          by : ((spot.number == i) ≡ true) ⊎ ((spot.number == i) ≡ false) → (x.postings ≡ []) ⊎ (slice_get solution i ≡ Some x)
          by (inl e) =
              let same : spot.number ≡ i = eqb-true spot.number i e in
              let is : solution_form.0 ≡ x = same_Some solution_form.0 x (sym (get_set book spot.number solution_form.0 next_inside) ∙ ap (slice_get (set book spot.number solution_form.0)) same ∙ got) in
              inr (ap (slice_get solution) (sym same) ∙ solution_form.1 ∙ ap (λ (t : Txn). Some t) is)
          by (inr e) =
              let here : slice_get book i ≡ Some x = sym (get_other book spot.number i solution_form.0 (λ same. false≢true (sym e ∙ eq-eqb spot.number i same))) ∙ got in
              elim (cases_Bool (holds (spots_of rest) i)) as (λ _. (x.postings ≡ []) ⊎ (slice_get solution i ≡ Some x)) [
                | inl on ↦ inl (out_vacant rest i x p.partly.held.1 on here)
                | inr off ↦ inr (sym (agree i (or-none (spot.number == i) (holds (spots_of rest) i) e off)) ∙ here)
              ]

      -- what is kept moves no more with it than the solution
      pub moves_well : (form : Txn) → form ≡ solution_form.0 → MovesTooMuch kept.turnover (vacant spot.day) form → ⊥
      moves_well form same much =
          let mine : MovesTooMuch kept.turnover (vacant spot.day) solution_form.0 = subst (λ (t : Txn). MovesTooMuch kept.turnover (vacant spot.day) t) same much in
          false≢true
          (sym (mine (solved_costs solution spot.number written solution_form.0 form_solved) book spot.number held_at p.partly.sums.turnover)
          ∙ part_fits (set book spot.number solution_form.0) solution part_with can.solves.fits)

-- ---- why it isn't put in

pub cause_map : (fault : WalkFault) (P Q : Type 0) → (P → Q) → IsCause fault P → IsCause fault Q
cause_map Load P Q f h = f h
cause_map Memory P Q f h = tt

-- a form that can be told is found
pub unsolved_not : (s : Scene) (book : List Txn) (kept : Kept) (next : Replaced) (written : Txn) (fault : WalkFault) → IsNext s book kept next → slice_get s.written next.spot.number ≡ Some written
    → ((solution : List Txn) (t : Txn) → is_near next.spot written ≡ true → IsFormOf book solution next.spot written t → IsCause fault (is_fit s.symbols next.spot t ≡ false))
    → IsCause fault (CanNot s)
unsolved_not s book kept next written Load n is f = λ other solution can.
    form_lacks s book kept next n.done n.rest n.putting other solution can written is
    (f solution (solution_form s book kept next n.done n.rest n.putting other solution can written is).0
    (form_near s book kept next n.done n.rest n.putting other solution can written is) (form_of s book kept next n.done n.rest n.putting other solution can written is))
unsolved_not s book kept next written Memory n is f = tt

-- and it doesn't move too much
pub moved_not : (s : Scene) (book : List Txn) (kept : Kept) (next : Replaced) (written held form : Txn) (fault : WalkFault) → IsNext s book kept next → slice_get s.written next.spot.number ≡ Some written → held ≡ vacant next.spot.day
    → ((solution : List Txn) (t : Txn) → is_near next.spot written ≡ true → IsFormOf book solution next.spot written t → form ≡ t)
    → IsCause fault (MovesTooMuch kept.turnover held form) → IsCause fault (CanNot s)
moved_not s book kept next written held form Load n is held_is f much = λ other solution can.
    absurd
    (moves_well s book kept next n.done n.rest n.putting other solution can written is form
    (f solution (solution_form s book kept next n.done n.rest n.putting other solution can written is).0
    (form_near s book kept next n.done n.rest n.putting other solution can written is) (form_of s book kept next n.done n.rest n.putting other solution can written is))
    (subst (λ (t : Txn). MovesTooMuch kept.turnover t form) held_is much))
moved_not s book kept next written held form Memory n is held_is f much = tt

-- ---- it is put in

pub puts_next : (s : Scene) (book new : List Txn) (kept after : Kept) (next : Replaced) (written held form : Txn) → slice_get s.written next.spot.number ≡ Some written → IsFound s.symbols book next.spot written form
    → held ≡ vacant next.spot.day → IsPut held next form kept after → new ≡ set book next.spot.number form
    → ((solution : List Txn) (t : Txn) → is_near next.spot written ≡ true → IsFormOf book solution next.spot written t → form ≡ t)
    → PutsNext s next book kept new after
puts_next s book new kept after next written held form is found held_is put book_is f done rest p =
    putting_on s book kept next done rest p new after form written is found (subst (λ (t : Txn). IsPut t next form kept after) held_is put) book_is
    (λ other solution can.
    let mine = solution_form s book kept next done rest p other solution can written is in
    mine.1 ∙ ap (λ (t : Txn). Some t) (sym (f solution mine.0
    (form_near s book kept next done rest p other solution can written is) (form_of s book kept next done rest p other solution can written is))))

pub is_held : (s : Scene) (book : List Txn) (kept : Kept) (next : Replaced) (held : Txn) → IsNext s book kept next → held ≡ vacant next.spot.day → IsHeld kept next.spot.number held
is_held s book kept next held n held_is = record {
  book = book;
  stand = n.putting.partly.sums.stand;
  turnover = n.putting.partly.sums.turnover;
  is = held_at s book kept next n.done n.rest n.putting ∙ ap (λ (t : Txn). Some t) (sym held_is);
}

pub stays_back : (book new : List Txn) (n : ℕ) (form : Txn) → new ≡ set book n form → StaysBack n book new
stays_back book new n form is forms on = ap (λ (b : List Txn). put_back b forms) is ∙ back_over book forms n form on

pub without : (fault : WalkFault) (s : Scene) → IsCause fault ⊥ → IsCause fault (CanNot s)
without fault s h = cause_of fault (CanNot s) (λ (never : ⊥). absurd never) h
