-- The beginning of a walk, and its forms in the book before the edit.
use Rattle.std.proofs.Common.{◌≡◌, ℕ, zero, suc, ◌+◌, ◌-◌, ◌<◌, ◌≤◌, ◌==◌, nat_lt, Bool, true, false, ◌||◌, List, [], ◌∷◌, ◌++◌, drop, length, map, set, slice_get, take, Option, Some, None, refl, sym, ap, subst, ◌∙◌, ◌⊎◌, inl, inr, arith, append_assoc, append-nil, length-append, length-drop}
use Rattle.std.specs.List.{AllByRecursion}
use Rattle.std.specs.Option.{option_map}
use Rattle.std.proofs.lemmas.Bool.{cases_Bool, cases_lt, eq-eqb, eqb-true, false≢true}
use Rattle.std.proofs.lemmas.Bool.Decides.{Decides-ltb, nat_tests}
use Rattle.std.proofs.lemmas.List.{drop_all, length-map, length-set, set-set, set_comm, take_all}
use Rattle.std.proofs.lemmas.Option.{none-some, same_Some}
use Rattle.hl_time.specs.declared.day.Day.{Day}
use Rattle.book.specs.declared.transaction.Txn.{Txn}
use Rattle.book.specs.Postings.{postings_of}
use Rattle.book.specs.declared.transaction.Posting.{Posting}
use Rattle.entry_balance.specs.Entry.{moved}
use Rattle.entry_balance.specs.Tally.{turnover_fits}
use Rattle.kept_turnover.specs.Keeping.{IsTurnover, are_told}
use Rattle.reached_walk.proofs.Entries.{got-inside}
use Rattle.reached_walk.proofs.Lists.{all-map}
use Rattle.reached_walk.proofs.Noting.{none-at}
use Rattle.reached_walk.specs.declared.place.Spot.{Spot}
use Rattle.reached_walk.specs.declared.walking.Reach.{Reach}
use Rattle.reached_walk.specs.Spots.{AreOnce, holds}
use Rattle.placed_sums.specs.Accounts.{HasSymbols, is_moved}
use Rattle.walked_edits.proofs.Keeping.{days_blank}
use Rattle.placed_sums.proofs.Replacing.{stand_blank}
use Rattle.watchers.proofs.Tests.{or-first, or-second}
use Rattle.walked_edits.specs.Forms.{put_forms, spots_of, vacant, with_room, with_vacants}
use Rattle.walked_edits.specs.Keeping.{AreSums, IsKept}
use Rattle.walked_edits.specs.Scenes.{IsEdited, Scene, StandsIn}
use Rattle.walked_edits.specs.Walking.{AreLeft, IsPartly, IsReady}
use Rattle.walked_edits.specs.declared.kept.Kept.{Kept}
use Rattle.walked_edits.specs.declared.replaced.Replaced.{Replaced}
use Rattle.walked_edits.proofs.Gets.{get_other, get_set}
use Rattle.walked_edits.proofs.Loading.{got_any, solves_size}
use Rattle.walked_edits.proofs.Made.{same_at}
use Rattle.walked_edits.proofs.Turning.{postings_vacant, solves_told, told_vacant}

-- ---- room

pub lt_true : (a b : ℕ) → a < b → nat_lt a b ≡ true
lt_true a b h = (Decides-ltb a b).1 h

pub lt_false : (a b : ℕ) → b ≤ a → nat_lt a b ≡ false
lt_false a b h = grind (arith, nat_tests)

abbrev pub held_all : List Txn → List Txn
held_all ws = map (λ (t : Txn). vacant t.day) ws

-- one place more is held behind a book, and then others
behind_one : (book : List Txn) (w : Txn) (ws : List Txn) → (book ++ vacant w.day ∷ []) ++ held_all ws ≡ book ++ held_all (w ∷ ws)
behind_one book w ws = append_assoc book (vacant w.day ∷ []) (held_all ws)

more_kept : (ws : List Txn) (book : List Txn) (kept : Kept) → IsKept book kept → IsKept (book ++ held_all ws) kept
more_kept [] book kept h = subst (λ (b : List Txn). IsKept b kept) (sym (append-nil book)) h
more_kept (w ∷ ws) book kept h =
    subst (λ (b : List Txn). IsKept b kept) (behind_one book w ws)
    (more_kept ws (book ++ vacant w.day ∷ []) kept (record {
      stand = stand_blank kept.index book (vacant w.day) h.stand refl;
      days = days_blank kept.days book (vacant w.day) h.days refl;
      turnover = subst (λ (ps : List Posting). IsTurnover kept.turnover (moved ps)) (sym (postings_vacant book w.day)) h.turnover;
    }))

pub room_kept : (text book : List Txn) (kept : Kept) → IsKept book kept → IsKept (with_room text book) kept
room_kept text book kept h = more_kept (drop (length book) text) book kept h

more_symbols : (ws : List Txn) (book : List Txn) (symbols : List (List ℕ)) → HasSymbols symbols book → HasSymbols symbols (book ++ held_all ws)
more_symbols [] book symbols h = subst (λ (b : List Txn). HasSymbols symbols b) (sym (append-nil book)) h
more_symbols (w ∷ ws) book symbols h =
    subst (λ (b : List Txn). HasSymbols symbols b) (behind_one book w ws)
    (more_symbols ws (book ++ vacant w.day ∷ []) symbols (record {
      ordered = h.ordered;
      all = λ symbol named. h.all symbol (ap (is_moved symbol) (sym (postings_vacant book w.day)) ∙ named);
    }))

pub room_symbols : (text book : List Txn) (symbols : List (List ℕ)) → HasSymbols symbols book → HasSymbols symbols (with_room text book)
room_symbols text book symbols h = more_symbols (drop (length book) text) book symbols h

more_told : (ws : List Txn) (book : List Txn) → are_told book ≡ true → are_told (book ++ held_all ws) ≡ true
more_told [] book h = ap are_told (append-nil book) ∙ h
more_told (w ∷ ws) book h = ap are_told (sym (behind_one book w ws)) ∙ more_told ws (book ++ vacant w.day ∷ []) (told_vacant book w.day h)

more_fits : (ws : List Txn) (book : List Txn) → turnover_fits (moved (postings_of book)) ≡ true → turnover_fits (moved (postings_of (book ++ held_all ws))) ≡ true
more_fits [] book h = ap (λ (b : List Txn). turnover_fits (moved (postings_of b))) (append-nil book) ∙ h
more_fits (w ∷ ws) book h =
    ap (λ (b : List Txn). turnover_fits (moved (postings_of b))) (sym (behind_one book w ws))
    ∙ more_fits ws (book ++ vacant w.day ∷ []) (ap (λ (ps : List Posting). turnover_fits (moved ps)) (postings_vacant book w.day) ∙ h)

-- ---- how long it is, and what it has

pub room_size : (text book : List Txn) → length book ≤ length text → length (with_room text book) ≡ length text
room_size text book less =
    let one = length-append book (held_all (drop (length book) text)) in
    let two = length-map (drop (length book) text) (λ (t : Txn). vacant t.day) in
    let three = length-drop (length book) text in
    omega (arith, one, two, three, less)

get_append : (xs ys : List Txn) (n : ℕ) → n < length xs → slice_get (xs ++ ys) n ≡ slice_get xs n
get_append [] ys n less = absurd (omega (arith, less))
get_append (x ∷ xs) ys zero less = refl
get_append (x ∷ xs) ys (suc n) less = get_append xs ys n (omega (arith, less))

-- what a text has behind another one is edited
behind_edited : (s : Scene) (before : List Txn) → IsEdited s before → (n : ℕ) → holds s.spots n ≡ false → length before ≤ n → length s.written ≤ n
behind_edited s before h n off past = by (cases_lt n (length s.written))
  where
    by : (n < length s.written) ⊎ (length s.written ≤ n) → length s.written ≤ n
    by (inr more) = more
    by (inl less) =
        let mine = got_any s.written n less in
        let size = solves_size s.former before h.solves in
        let none : slice_get s.former n ≡ None = none-at s.former n (omega (arith, size, past)) in
        absurd (none-some mine.0 (sym none ∙ same_at (holds s.spots) 0 s.former s.written h.others n n (omega arith) off ∙ mine.1))

pub room_other : (s : Scene) (before : List Txn) → IsEdited s before → (n : ℕ) → holds s.spots n ≡ false → slice_get (with_room s.written before) n ≡ slice_get before n
room_other s before h n off = by (cases_lt n (length before))
  where
    by : (n < length before) ⊎ (length before ≤ n) → slice_get (with_room s.written before) n ≡ slice_get before n
    by (inl less) = get_append before (held_all (drop (length before) s.written)) n less
    by (inr past) =
        let long = behind_edited s before h n off past in
        let size = room_size s.written before h.size in
        none-at (with_room s.written before) n (omega (arith, long, size)) ∙ sym (none-at before n past)

-- what was made room for goes again
pub room_cut : (text book : List Txn) → take (length book) (with_room text book) ≡ book
room_cut text book = front book (held_all (drop (length book) text))
  where
    front : (xs ys : List Txn) → take (length xs) (xs ++ ys) ≡ xs
    front [] ys = refl
    front (y ∷ xs) ys = ap (λ (zs : List Txn). y ∷ zs) (front xs ys)

-- ---- room is made for one after another

none_past : (xs : List Txn) (n : ℕ) → slice_get xs n ≡ None → length xs ≤ n
none_past [] n h = omega arith
none_past (x ∷ xs) zero h = absurd (none-some x (sym h))
none_past (x ∷ xs) (suc n) h = let rest = none_past xs n h in omega (arith, rest)

drop_suc : (xs : List Txn) (n : ℕ) (w : Txn) → slice_get xs n ≡ Some w → drop n xs ≡ w ∷ drop (suc n) xs
drop_suc [] n w got = absurd (none-some w got)
drop_suc (x ∷ xs) zero w got = ap (λ (y : Txn). y ∷ xs) (same_Some x w got)
drop_suc (x ∷ xs) (suc n) w got = drop_suc xs n w got

pub drop_got : (xs : List Txn) (n : ℕ) (w : Txn) → slice_get xs n ≡ Some w → drop n xs ≡ w ∷ drop (n + 1) xs
drop_got xs n w got =
    let next : suc n ≡ n + 1 = omega arith in
    drop_suc xs n w got ∙ ap (λ (m : ℕ). w ∷ drop m xs) next

-- a day that is told is that of a transaction
day_of : (o : Option Txn) (day : Day) → Some day ≡ option_map (λ (t : Txn). t.day) o → (w : Txn) × (o ≡ Some w) × (w.day ≡ day)
day_of None day e = absurd (none-some day (sym e))
day_of (Some w) day e = (w, refl, sym (same_Some day w.day e))

none_of : (o : Option Txn) → None ≡ option_map (λ (t : Txn). t.day) o → o ≡ None
none_of None e = refl
none_of (Some w) e = absurd (none-some w.day e)

pub record IsMakingRoom (text start book : List Txn) : Type 0 where
  pub room : with_room text book ≡ with_room text start
  pub back : take (length start) book ≡ start
  pub long : length start ≤ length book

pub making_begins : (text book : List Txn) → IsMakingRoom text book book
making_begins text book = record {
  room = refl;
  back = take_all (length book) book (omega arith);
  long = omega arith;
}

pub making_more : (text start book new : List Txn) (day : Day) (held : Txn) → IsMakingRoom text start book → Some day ≡ option_map (λ (t : Txn). t.day) (slice_get text (length book)) → held ≡ vacant day → new ≡ book ++ held ∷ [] → IsMakingRoom text start new
making_more text start book new day held h told is put =
    subst (λ (b : List Txn). IsMakingRoom text start b) (sym put) (record {
      room =
          ap (λ (t : Txn). with_room text (book ++ t ∷ [])) (is ∙ ap vacant (sym w.2))
          ∙ ap (λ (n : ℕ). (book ++ vacant w.0.day ∷ []) ++ held_all (drop n text)) (length-append book (vacant w.0.day ∷ []))
          ∙ behind_one book w.0 (drop (length book + 1) text)
          ∙ ap (λ (ts : List Txn). book ++ held_all ts) (sym (drop_got text (length book) w.0 w.1))
          ∙ h.room;
      back = front (length start) book (held ∷ []) h.long ∙ h.back;
      long = let one = length-append book (held ∷ []) in let two = h.long in omega (arith, one, two);
    })
  where
    w : (x : Txn) × (slice_get text (length book) ≡ Some x) × (x.day ≡ day)
    w = day_of (slice_get text (length book)) day told

    front : (n : ℕ) (xs ys : List Txn) → n ≤ length xs → take n (xs ++ ys) ≡ take n xs
    front zero xs ys less = refl
    front (suc n) [] ys less = absurd (omega (arith, less))
    front (suc n) (x ∷ xs) ys less = ap (λ (zs : List Txn). x ∷ zs) (front n xs ys (omega (arith, less)))

-- less is missing
pub making_smaller : (text book new : List Txn) (day : Day) (held : Txn) → Some day ≡ option_map (λ (t : Txn). t.day) (slice_get text (length book)) → new ≡ book ++ held ∷ [] → length text - length new < length text - length book
making_smaller text book new day held told put =
    let w = day_of (slice_get text (length book)) day told in
    let inside = got-inside text (length book) w.0 w.1 in
    let one = ap (λ (b : List Txn). length b) put ∙ length-append book (held ∷ []) in
    omega (arith, inside, one)

pub room_made : (text start book : List Txn) → IsMakingRoom text start book → None ≡ option_map (λ (t : Txn). t.day) (slice_get text (length book)) → book ≡ with_room text start
room_made text start book h told =
    sym (append-nil book)
    ∙ ap (λ (ts : List Txn). book ++ held_all ts) (sym (drop_all (length book) text (none_past text (length book) (none_of (slice_get text (length book)) told))))
    ∙ h.room

-- ---- places that are held

pub vacants_size : (spots : List Spot) (book : List Txn) → length (with_vacants spots book) ≡ length book
vacants_size [] book = refl
vacants_size (t ∷ spots) book = vacants_size spots (set book t.number (vacant t.day)) ∙ length-set book t.number (vacant t.day)

pub vacants_push : (spots : List Spot) (t : Spot) (book : List Txn) → with_vacants (spots ++ t ∷ []) book ≡ set (with_vacants spots book) t.number (vacant t.day)
vacants_push [] t book = refl
vacants_push (x ∷ spots) t book = vacants_push spots t (set book x.number (vacant x.day))

vacants_other : (spots : List Spot) (book : List Txn) (n : ℕ) → holds spots n ≡ false → slice_get (with_vacants spots book) n ≡ slice_get book n
vacants_other [] book n off = refl
vacants_other (t ∷ spots) book n off =
    vacants_other spots (set book t.number (vacant t.day)) n (or-second (t.number == n) (holds spots n) off)
    ∙ get_other book t.number n (vacant t.day) (λ e. false≢true (sym (or-first (t.number == n) (holds spots n) off) ∙ eq-eqb t.number n e))

sized : (k : ℕ) (n m : ℕ) → n ≡ m → k < m → k < n
sized k n m e less = omega (arith, e, less)

vacants_own : (spots : List Spot) (book : List Txn) → AreOnce spots → AllByRecursion (λ (t : Spot). t.number < length book) spots → AllByRecursion (λ (t : Spot). slice_get (with_vacants spots book) t.number ≡ Some (vacant t.day)) spots
vacants_own [] book once inside = tt
vacants_own (t ∷ spots) book once inside = (
  vacants_other spots (set book t.number (vacant t.day)) t.number once.0 ∙ get_set book t.number (vacant t.day) inside.0,
  vacants_own spots (set book t.number (vacant t.day)) once.1
      (all-map (λ (x : Spot). x.number < length book) (λ (x : Spot). x.number < length (set book t.number (vacant t.day))) (λ x less. sized x.number (length (set book t.number (vacant t.day))) (length book) (length-set book t.number (vacant t.day)) less) spots inside.1),
)

-- ---- before the first step

pub room_inside : (s : Scene) (before room : List Txn) → IsEdited s before → room ≡ with_room s.written before → AllByRecursion (λ (t : Spot). t.number < length room) s.spots
room_inside s before room edited is =
    all-map (StandsIn s) (λ (t : Spot). t.number < length room) (λ t stands. sized t.number (length room) (length s.written) (ap (λ (b : List Txn). length b) is ∙ room_size s.written before edited.size) stands.inside) s.spots edited.each

-- what is kept of the book before the edit
pub ready_sums : (s : Scene) (room : List Txn) (kept : Kept) (reach : Reach) → IsReady s room kept reach → AreSums room kept
ready_sums s room kept reach ready = record {
  stand = ready.kept_is.stand;
  turnover = ready.kept_is.turnover;
  told = ap are_told ready.room_is ∙ more_told (drop (length ready.before) s.written) ready.before (solves_told s.former ready.before ready.edited.solves);
  fits = ap (λ (b : List Txn). turnover_fits (moved (postings_of b))) ready.room_is ∙ more_fits (drop (length ready.before) s.written) ready.before ready.edited.solves.fits;
}

pub partly_begins : (s : Scene) (room book : List Txn) (kept more : Kept) (reach : Reach) → IsReady s room kept reach → AreLeft s room book more s.spots → IsPartly s book more [] []
partly_begins s room book kept more reach ready left = record {
  before = ready.before;
  edited = ready.edited;
  sums = left.sums;
  days = left.days;
  symbols = left.symbols;
  size = ap (λ (b : List Txn). length b) left.book_is ∙ vacants_size s.spots room ∙ ap (λ (b : List Txn). length b) ready.room_is ∙ room_size s.written ready.before ready.edited.size;
  others = λ n free out other.
      ap (λ (b : List Txn). slice_get b n) left.book_is
      ∙ vacants_other s.spots room n other
      ∙ ap (λ (b : List Txn). slice_get b n) ready.room_is
      ∙ room_other s ready.before ready.edited n other;
  own = all-map (λ (t : Spot). slice_get (with_vacants s.spots room) t.number ≡ Some (vacant t.day)) (λ (t : Spot). holds [] t.number ≡ false → slice_get book t.number ≡ Some (vacant t.day))
      (λ t is _. ap (λ (b : List Txn). slice_get b t.number) left.book_is ∙ is) s.spots
      (vacants_own s.spots room ready.edited.once (room_inside s ready.before room ready.edited ready.room_is));
  held = tt;
  right = tt;
  exact = λ set after can. tt;
}

-- ---- the forms in the book before the edit

-- a form that another one replaces later is lost
pub put_over : (n : ℕ) (x : Txn) (book : List Txn) (forms : List Replaced) → holds (spots_of forms) n ≡ true → put_forms (set book n x) forms ≡ put_forms book forms
put_over n x book [] h = absurd (false≢true h)
put_over n x book (r ∷ forms) h = by (cases_Bool (r.spot.number == n)) (λ b k. put_over n x b forms k)
  where
    rest : (b : Bool) → b ≡ false → (b || holds (spots_of forms) n) ≡ true → holds (spots_of forms) n ≡ true
    rest b e k = ap (λ (c : Bool). c || holds (spots_of forms) n) (sym e) ∙ k

    by : ((r.spot.number == n) ≡ true) ⊎ ((r.spot.number == n) ≡ false) → ((b : List Txn) → holds (spots_of forms) n ≡ true → put_forms (set b n x) forms ≡ put_forms b forms) → put_forms (set (set book n x) r.spot.number r.txn) forms ≡ put_forms (set book r.spot.number r.txn) forms
    by (inl e) again =
        let same : r.spot.number ≡ n = eqb-true r.spot.number n e in
        ap (λ (b : List Txn). put_forms b forms) (ap (λ (m : ℕ). set (set book m x) r.spot.number r.txn) (sym same) ∙ set-set book r.spot.number x r.txn)
    by (inr e) again =
        ap (λ (b : List Txn). put_forms b forms) (set_comm book n r.spot.number x r.txn (λ same. false≢true (sym e ∙ eq-eqb r.spot.number n (sym same))))
        ∙ again (set book r.spot.number r.txn) (rest (r.spot.number == n) e h)

-- so are those that hold the places of some that are among the forms
pub put_over_all : (spots : List Spot) (book : List Txn) (forms : List Replaced) → AllByRecursion (λ (t : Spot). holds (spots_of forms) t.number ≡ true) spots → put_forms (with_vacants spots book) forms ≡ put_forms book forms
put_over_all [] book forms h = refl
put_over_all (t ∷ spots) book forms h = put_over_all spots (set book t.number (vacant t.day)) forms h.1 ∙ put_over t.number (vacant t.day) book forms h.0
