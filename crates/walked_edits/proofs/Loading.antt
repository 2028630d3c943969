-- What a walk comes to where it can tell the new book.
use Rattle.std.proofs.Common.{◌≡◌, ℕ, zero, suc, ◌+◌, ◌<◌, ◌==◌, nat_lt, Bool, true, false, ◌&&◌, ◌||◌, not, cond, ◌⊎◌, inl, inr, List, [], ◌∷◌, ◌++◌, filter, length, map, slice_get, Some, refl, sym, ap, subst, ◌∙◌, arith}
use Rattle.std.specs.Prelude.{unwrap_or}
use Rattle.std.specs.List.{AllByRecursion, list_all, list_any}
use Rattle.std.proofs.lemmas.Bool.{cases_Bool, eq-eqb, eqb-true, false≢true}
use Rattle.std.proofs.lemmas.Bool.Decides.{nat_tests}
use Rattle.std.proofs.lemmas.List.Elements.{filter-append}
use Rattle.std.proofs.lemmas.Option.{none-some, same_Some}
use Rattle.hl_time.specs.declared.day.Day.{Day}
use Rattle.book.specs.SumsBefore.{Place, is_before, is_of, number_in, placed_from, placed_in}
use Rattle.book.specs.declared.transaction.Posting.{Posting}
use Rattle.book.specs.declared.transaction.Txn.{Txn}
use Rattle.balancing.specs.Groups.{day_of}
use Rattle.balancing.specs.Solves.{Solves}
use Rattle.placed_checks.specs.Unmixed.{are_alike, is_single, is_unmixed}
use Rattle.reached_entries.specs.Reached.{IsSolved}
use Rattle.reached_entries.proofs.Blanks.{others-stay}
use Rattle.reached_entries.proofs.Parts.{AreSolved, are-solved}
use Rattle.reached_walk.specs.Apart.{is_apart, is_dated}
use Rattle.reached_walk.specs.Asks.{AreAlike, Covers, Has}
use Rattle.reached_walk.specs.Closed.{AreReached, IsOnDay}
use Rattle.reached_walk.specs.Spots.{holds}
use Rattle.reached_walk.specs.declared.place.Spot.{Spot}
use Rattle.reached_walk.proofs.Entries.{Entry, by-text, got-inside, own-day, own-number}
use Rattle.reached_walk.proofs.Forms.{covers-book, covers-text, hands-alike}
use Rattle.reached_walk.proofs.Lists.{all-left, all-map, all-right, all-zip, meet, pick}
use Rattle.watchers.proofs.Tests.{and-both, and-first, and-second, not-true, or-none}
use Rattle.walked_edits.specs.Causes.{CanWalk}
use Rattle.walked_edits.specs.Scenes.{IsEdited, Scene, edit_in}
use Rattle.walked_edits.specs.Solving.{is_at}
use Rattle.walked_edits.proofs.Made.{IsMadeOf, made_at, same_at, same_wider}

-- ---- lists

pub got_any : (xs : List Txn) (n : ℕ) → n < length xs → (t : Txn) × (slice_get xs n ≡ Some t)
got_any [] n h = absurd (omega (arith, h))
got_any (t ∷ ts) zero h = (t, refl)
got_any (t ∷ ts) (suc n) h = got_any ts n (omega (arith, h))

solved_size : (all : List Txn) (n : ℕ) (ws ts : List Txn) → AreSolved all n ws ts → length ts ≡ length ws
solved_size all n [] [] h = refl
solved_size all n [] (t ∷ ts) h = absurd h
solved_size all n (w ∷ ws) [] h = absurd h
solved_size all n (w ∷ ws) (t ∷ ts) h = ap suc (solved_size all (suc n) ws ts h.1)

solved_got : (all : List Txn) (m : ℕ) (ws ts : List Txn) → AreSolved all m ws ts → (i k : ℕ) (w t : Txn) → k ≡ m + i → slice_get ws i ≡ Some w → slice_get ts i ≡ Some t → IsSolved all k w t
solved_got all m [] [] h i k w t e gw gt = absurd (none-some w gw)
solved_got all m [] (u ∷ ts) h i k w t e gw gt = absurd h
solved_got all m (v ∷ ws) [] h i k w t e gw gt = absurd h
solved_got all m (v ∷ ws) (u ∷ ts) h zero k w t e gw gt =
    let same : m ≡ k = omega (arith, e) in
    subst (λ (n : ℕ). IsSolved all n w t) same
    (subst (λ (x : Txn). IsSolved all m x t) (same_Some v w gw) (subst (λ (x : Txn). IsSolved all m v x) (same_Some u t gt) h.0))
solved_got all m (v ∷ ws) (u ∷ ts) h (suc i) k w t e gw gt = solved_got all (suc m) ws ts h.1 i k w t (omega (arith, e)) gw gt

pub solves_size : (text book : List Txn) → Solves text book → length book ≡ length text
solves_size text book s = solved_size book 0 text book (are-solved text book s)

pub solves_got : (text book : List Txn) → Solves text book → (n : ℕ) (w t : Txn) → slice_get text n ≡ Some w → slice_get book n ≡ Some t → IsSolved book n w t
solves_got text book s n w t gw gt = solved_got book 0 text book (are-solved text book s) n n w t (omega arith) gw gt

-- what holds of all postings of a text holds of those of one of its transactions
all_txn : (P : Entry → Type 0) (txns : List Txn) (m i k : ℕ) (t : Txn) → k ≡ m + i → slice_get txns i ≡ Some t → AllByRecursion P (placed_from m txns) → AllByRecursion P (placed_in t k 0 t.postings)
all_txn P [] m i k t e got h = absurd (none-some t got)
all_txn P (u ∷ txns) m zero k t e got h =
    let same : m ≡ k = omega (arith, e) in
    subst (λ (n : ℕ). AllByRecursion P (placed_in t n 0 t.postings)) same
    (subst (λ (x : Txn). AllByRecursion P (placed_in x m 0 x.postings)) (same_Some u t got) (all-left P (placed_in u m 0 u.postings) (placed_from (suc m) txns) h))
all_txn P (u ∷ txns) m (suc i) k t e got h =
    all_txn P txns (suc m) i k t (omega (arith, e)) got (all-right P (placed_in u m 0 u.postings) (placed_from (suc m) txns) h)

-- ---- days

no_not : (a : Bool) → a ≡ true → not a ≡ false
no_not true h = refl
no_not false h = absurd (false≢true h)

undated_by : (t : Txn) (n k : ℕ) (ps : List Posting) → AllByRecursion (λ (e : Entry). e.0.day ≡ t.day.0) (placed_in t n k ps) → list_any (is_apart t) ps ≡ false
undated_by t n k [] h = refl
undated_by t n k (p ∷ ps) h =
    or-none (is_apart t p) (list_any (is_apart t) ps) (no_not ((unwrap_or p.day t.day).0 == t.day.0) (eq-eqb (unwrap_or p.day t.day).0 t.day.0 h.0)) (undated_by t n (suc k) ps h.1)

single_undated : (t : Txn) (ps : List Posting) → list_all (is_single t) ps ≡ true → list_any (is_apart t) ps ≡ false
single_undated t [] h = refl
single_undated t (p ∷ ps) h =
    or-none (is_apart t p) (list_any (is_apart t) ps)
    (no_not ((unwrap_or p.day t.day).0 == t.day.0) (and-first (day_of t p == t.day.0) (are_alike t.postings p.account p.wanted) (and-first (is_single t p) (list_all (is_single t) ps) h)))
    (single_undated t ps (and-second (is_single t p) (list_all (is_single t) ps) h))

-- what isn't mixed isn't dated
pub unmixed_undated : (t : Txn) → is_unmixed t ≡ true → is_dated t ≡ false
unmixed_undated t h = single_undated t t.postings h

-- of two texts whose postings are alike one has no dated transaction where the other has none
pub dated_through : (one two : List Txn) → Covers (placed_from 0 one) (placed_from 0 two) → (n : ℕ) (t u : Txn) → slice_get one n ≡ Some t → slice_get two n ≡ Some u → t.day.0 ≡ u.day.0 → is_dated t ≡ false → is_dated u ≡ false
dated_through one two covers n t u gt gu day plain =
    undated_by u n 0 u.postings
    (all-zip (λ (e : Entry). e.0.txn ≡ n → e.0.day ≡ t.day.0) (λ (e : Entry). e.0.txn ≡ n) (λ (e : Entry). e.0.day ≡ u.day.0) (λ e f own. f own ∙ day) (placed_in u n 0 u.postings)
    (all_txn (λ (e : Entry). e.0.txn ≡ n → e.0.day ≡ t.day.0) two 0 n n u (omega arith) gu there) (own-number u n 0 u.postings))
  where
    one_of : (i : ℕ) (x : Txn) → slice_get one i ≡ Some x → AllByRecursion (λ (e : Entry). e.0.txn ≡ n → e.0.day ≡ t.day.0) (placed_in x i 0 x.postings)
    one_of i x got = by (cases_Bool (i == n))
      where
        by : ((i == n) ≡ true) ⊎ ((i == n) ≡ false) → AllByRecursion (λ (e : Entry). e.0.txn ≡ n → e.0.day ≡ t.day.0) (placed_in x i 0 x.postings)
        by (inl same) =
            let is : t ≡ x = same_Some t x (sym gt ∙ ap (slice_get one) (sym (eqb-true i n same)) ∙ got) in
            all-map (λ (e : Entry). e.0.day ≡ x.day.0) (λ (e : Entry). e.0.txn ≡ n → e.0.day ≡ t.day.0) (λ e d _. d ∙ ap (λ (y : Txn). y.day.0) (sym is)) (placed_in x i 0 x.postings)
            (own-day x i (subst (λ (y : Txn). is_dated y ≡ false) is plain))
        by (inr other) =
            all-map (λ (e : Entry). e.0.txn ≡ i) (λ (e : Entry). e.0.txn ≡ n → e.0.day ≡ t.day.0) (λ e own k. absurd (false≢true (sym other ∙ eq-eqb i n (sym own ∙ k)))) (placed_in x i 0 x.postings) (own-number x i 0 x.postings)

    here : AllByRecursion (λ (e : Entry). e.0.txn ≡ n → e.0.day ≡ t.day.0) (placed_from 0 one)
    here = by-text (λ (e : Entry). e.0.txn ≡ n → e.0.day ≡ t.day.0) one one_of

    there : AllByRecursion (λ (e : Entry). e.0.txn ≡ n → e.0.day ≡ t.day.0) (placed_from 0 two)
    there =
        all-map (λ (f : Entry). Has (λ (e : Entry). AreAlike e f) (placed_from 0 one)) (λ (e : Entry). e.0.txn ≡ n → e.0.day ≡ t.day.0)
        (λ f has. λ own. meet (λ (e : Entry). e.0.txn ≡ n → e.0.day ≡ t.day.0) (λ (e : Entry). AreAlike e f) (f.0.day ≡ t.day.0) (λ e k l. sym l.day ∙ k (l.txn ∙ own)) (placed_from 0 one) here has)
        (placed_from 0 two) covers

-- what is made of a transaction stands on its day
pub made_day : (w t : Txn) → IsMadeOf w t → t.day ≡ w.day
made_day w t m = ap (λ (x : Txn). x.day) m.found ∙ ap (λ (x : Txn). x.day) m.kept.rest

pub solved_of : (book : List Txn) (n : ℕ) (w t : Txn) → IsSolved book n w t → IsMadeOf w t
solved_of book n w t s = record { made = s.made; kept = s.kept; found = s.found }

-- a form stands where it is written
pub at_place : (spot : Spot) (t : Txn) → t.day.0 ≡ spot.day.0 → is_dated t ≡ false → is_at spot t ≡ true
at_place spot t day plain = and-both (t.day.0 == spot.day.0) (not (is_dated t)) (eq-eqb t.day.0 spot.day.0 day) (ap not plain)

-- ---- where a walk can tell the new book

module _ (s : Scene) (before : List Txn) (edited : IsEdited s before) (set : ℕ → Bool) (after : List Txn) (can : CanWalk s set after) where
  after_size : length after ≡ length s.written
  after_size = solves_size s.written after can.solves

  pub after_got : (n : ℕ) (w : Txn) → slice_get s.written n ≡ Some w → (t : Txn) × (slice_get after n ≡ Some t)
  after_got n w got = got_any after n (let inside = got-inside s.written n w got in let size = after_size in omega (arith, inside, size))

  pub after_solved : (n : ℕ) (w t : Txn) → slice_get s.written n ≡ Some w → slice_get after n ≡ Some t → IsSolved after n w t
  after_solved n w t gw gt = solves_got s.written after can.solves n w t gw gt

  pub after_undated : (n : ℕ) (t : Txn) → set n ≡ true → slice_get after n ≡ Some t → is_dated t ≡ false
  after_undated n t on gt = unmixed_undated t (can.unmixed n t on gt)

  -- a written transaction of the set isn't dated
  pub written_undated : (n : ℕ) (w : Txn) → set n ≡ true → slice_get s.written n ≡ Some w → is_dated w ≡ false
  written_undated n w on gw =
      let mine = after_got n w gw in
      dated_through after s.written (covers-text s.written after can.solves) n mine.0 w mine.1 gw
      (ap (λ (d : Day). d.0) (made_day w mine.0 (solved_of after n w mine.0 (after_solved n w mine.0 gw mine.1)))) (after_undated n mine.0 on mine.1)

  -- nor is what the old book has of it, unless it is edited
  pub before_at : (spot : Spot) (w old : Txn) → set spot.number ≡ true → holds s.spots spot.number ≡ false → slice_get s.written spot.number ≡ Some w → slice_get before spot.number ≡ Some old → w.day ≡ spot.day → is_at spot old ≡ true
  before_at spot w old on other gw gb day =
      let former : slice_get s.former spot.number ≡ Some w = same_at (holds s.spots) 0 s.former s.written edited.others spot.number spot.number (omega arith) other ∙ gw in
      let of : old.day ≡ w.day = made_day w old (made_at s.former edited.solves.made edited.solves.kept spot.number w old former (ap (λ (b : List Txn). slice_get b spot.number) (sym edited.solves.found) ∙ gb)) in
      at_place spot old (ap (λ (d : Day). d.0) (of ∙ day))
      (dated_through s.former before (covers-book s.former before edited.solves) spot.number w old former gb (ap (λ (d : Day). d.0) (sym of)) (written_undated spot.number w on gw))

  -- ---- with all that is reached

  module _ (spots : List Spot) (reached : AreReached (edit_in s) spots) where
    pub on_set : (n : ℕ) → holds spots n ≡ true → set n ≡ true
    on_set n h =
        pick (λ (x : Spot). set x.number ≡ true) (λ (x : Spot). x.number == n) (set n ≡ true)
        (λ x on here. subst (λ (k : ℕ). set k ≡ true) (eqb-true x.number n here) on) spots (reached.least set can.closed) h

    unedited : (n : ℕ) → holds spots n ≡ false → holds s.spots n ≡ false
    unedited n off = not-true (holds s.spots n) (λ on. false≢true (sym off ∙ reached.closed.edited n on))

    -- what isn't reached is as before
    pub stays_after : (n : ℕ) → holds spots n ≡ false → slice_get before n ≡ slice_get after n
    stays_after n off =
        same_at (holds spots) 0 before after
        (others-stay (holds spots) s.former s.written before after
        (same_wider (holds s.spots) (holds spots) unedited 0 s.former s.written edited.others)
        edited.solves can.solves
        (hands-alike (holds spots) s.former before (covers-book s.former before edited.solves) reached.closed.before)
        (hands-alike (holds spots) s.written after (covers-book s.written after can.solves) reached.closed.after))
        n n (omega arith) off

    -- and each of these stands on its day
    pub on_day : (spot : Spot) (w : Txn) → IsOnDay (edit_in s) spot → slice_get s.written spot.number ≡ Some w → w.day ≡ spot.day
    on_day spot w on gw = on.day w gw

-- ---- what comes before a place

later_not : (a b c e x y : Bool) → (y ≡ true → x ≡ true) → (a || (b && (c || (e && x)))) ≡ false → (a || (b && (c || (e && y)))) ≡ false
later_not true b c e x y f h = h
later_not false false c e x y f h = refl
later_not false true true e x y f h = h
later_not false true false false x y f h = refl
later_not false true false true true y f h = absurd (false≢true (sym h))
later_not false true false true false true f h = absurd (false≢true (f refl))
later_not false true false true false false f h = refl

above_none : (j n : ℕ) → nat_lt j n ≡ true → nat_lt 0 n ≡ true
above_none j n h = grind (arith, nat_tests)

module _ (place : Place) (account : List ℕ) (below : Bool) where
  abbrev counted : Entry → Bool
  counted e = is_before e.0 place && is_of account below e.1.account

  -- a transaction that doesn't stand before it has no postings there
  pub none_counted : (day n : ℕ) (t : Txn) (k : ℕ) (ps : List Posting) → is_before (record { day = day; txn = n; posting = 0 }) place ≡ false → AllByRecursion (λ p. (unwrap_or p.day t.day).0 ≡ day) ps → filter counted (placed_in t n k ps) ≡ []
  none_counted day n t k [] off h = refl
  none_counted day n t k (p ∷ ps) off h =
      let rest = filter counted (placed_in t n (suc k) ps) in
      let at : Place = record { day = (unwrap_or p.day t.day).0; txn = n; posting = number_in t k p } in
      ap (λ (d : ℕ). cond (is_before (record { day = d; txn = n; posting = number_in t k p }) place && is_of account below p.account) ((at, p) ∷ rest) rest) h.0
      ∙ ap (λ (b : Bool). cond (b && is_of account below p.account) ((at, p) ∷ rest) rest)
      (later_not (nat_lt day place.day) (day == place.day) (nat_lt n place.txn) (n == place.txn) (nat_lt 0 place.posting) (nat_lt (number_in t k p) place.posting) (above_none (number_in t k p) place.posting) off)
      ∙ none_counted day n t (suc k) ps off h.1

  same_from : (m : ℕ) (xs ys : List Txn) → length xs ≡ length ys → ((i n : ℕ) (t u : Txn) → n ≡ m + i → slice_get xs i ≡ Some t → slice_get ys i ≡ Some u → filter counted (placed_in t n 0 t.postings) ≡ filter counted (placed_in u n 0 u.postings)) → filter counted (placed_from m xs) ≡ filter counted (placed_from m ys)
  same_from m [] [] size f = refl
  same_from m [] (y ∷ ys) size f = absurd (omega (arith, size))
  same_from m (x ∷ xs) [] size f = absurd (omega (arith, size))
  same_from m (x ∷ xs) (y ∷ ys) size f =
      filter-append counted (placed_in x m 0 x.postings) (placed_from (suc m) xs)
      ∙ (λ j. f 0 m x y (omega arith) refl refl j ++ same_from (suc m) xs ys (omega (arith, size)) (λ i n t u e gt gu. f (suc i) n t u (omega (arith, e)) gt gu) j)
      ∙ sym (filter-append counted (placed_in y m 0 y.postings) (placed_from (suc m) ys))

  pub same_counted : (xs ys : List Txn) → length xs ≡ length ys → ((n : ℕ) (t u : Txn) → slice_get xs n ≡ Some t → slice_get ys n ≡ Some u → filter counted (placed_in t n 0 t.postings) ≡ filter counted (placed_in u n 0 u.postings)) → map (λ (e : Entry). e.1) (filter counted (placed_from 0 xs)) ≡ map (λ (e : Entry). e.1) (filter counted (placed_from 0 ys))
  same_counted xs ys size f =
      ap (map (λ (e : Entry). e.1)) (same_from 0 xs ys size (λ i n t u e gt gu.
      let same : i ≡ n = omega (arith, e) in
      f n t u (ap (slice_get xs) (sym same) ∙ gt) (ap (slice_get ys) (sym same) ∙ gu)))
