-- Forms that change places with those of a book, and back.
use Rattle.std.proofs.Common.{◌≡◌, ℕ, zero, suc, ◌+◌, ◌<◌, ◌≤◌, List, [], ◌∷◌, ◌++◌, length, set, take, drop, get_or, slice_get, Some, refl, sym, ap, subst, ◌∙◌, arith, length-append}
use Rattle.std.specs.List.{AllByRecursion}
use Rattle.std.specs.Option.{option_map}
use Rattle.std.proofs.lemmas.List.{drop-set, drop_all, length-set, map-set, set-set, set_at, take-set, take_all, take_more}
use Rattle.std.proofs.lemmas.Option.{slice_get-get_or, slice_get-map}
use Rattle.book.specs.declared.transaction.Txn.{Txn}
use Rattle.reached_walk.specs.declared.place.Spot.{Spot}
use Rattle.walked_edits.specs.Forms.{IsInside, IsSwapped, put_back, put_forms, spots_of}
use Rattle.walked_edits.specs.declared.replaced.Replaced.{Replaced}
use Rattle.walked_edits.proofs.Gets.{all_got, all_set, set_there}

-- a form that is lent stands where the book has one
pub got_inside : (book : List Txn) (forms : List Replaced) (i : ℕ) (r : Replaced) → AllByRecursion (IsInside book) forms → i < length forms → r ≡ get_or forms i r → r.spot.number < length book
got_inside book forms i r h inside read = all_got (IsInside book) forms i r h (slice_get-get_or forms i r inside ∙ ap (λ (x : Replaced). Some x) (sym read))

put_back-last : (book : List Txn) (forms : List Replaced) (r : Replaced) → put_back book (forms ++ r ∷ []) ≡ put_back (set book r.spot.number r.txn) forms
put_back-last book [] r = refl
put_back-last book (x ∷ forms) r = ap (λ (b : List Txn). set b x.spot.number x.txn) (put_back-last book forms r)

-- a form that was put in is taken back
pub back_last : (book : List Txn) (taken : List Replaced) (spot : Spot) (old form : Txn) → slice_get book spot.number ≡ Some old → put_back (set book spot.number form) (taken ++ record { spot = spot; txn = old } ∷ []) ≡ put_back book taken
back_last book taken spot old form was =
    put_back-last (set book spot.number form) taken (record { spot = spot; txn = old })
    ∙ ap (λ (b : List Txn). put_back b taken) (set-set book spot.number form old ∙ set_there book spot.number old was)

pub spots_last : (taken : List Replaced) (r : Replaced) → spots_of (taken ++ r ∷ []) ≡ spots_of taken ++ r.spot ∷ []
spots_last [] r = refl
spots_last (x ∷ taken) r = ap (λ (spots : List Spot). x.spot ∷ spots) (spots_last taken r)

-- ---- all of them are taken back

-- the forms from a place on were taken back
pub record IsBack (at : ℕ) (start now : List Txn) (begun forms : List Replaced) : Type 0 where
  pub inside : AllByRecursion (IsInside now) forms
  pub back : put_back now (take at forms) ≡ put_back start begun
  pub forth : put_forms now (drop at forms) ≡ start
  pub spots : spots_of forms ≡ spots_of begun
  pub few : at ≤ length forms

pub back_begins : (at : ℕ) (start : List Txn) (forms : List Replaced) → at ≡ length forms → AllByRecursion (IsInside start) forms → IsBack at start start forms forms
back_begins at start forms e h = record {
  inside = h;
  back = ap (put_back start) (take_all at forms (omega (arith, e)));
  forth = ap (put_forms start) (drop_all at forms (omega (arith, e)));
  spots = refl;
  few = omega (arith, e);
}

pub back_step : (at i : ℕ) (start now new : List Txn) (begun forms : List Replaced) (r taken : Replaced) → IsBack at start now begun forms → at ≡ i + 1 → r ≡ get_or forms i r → new ≡ set now r.spot.number r.txn → slice_get now r.spot.number ≡ Some taken.txn → taken.spot ≡ r.spot → IsBack i start new begun (set forms i taken)
back_step at i start now new begun forms r taken h is read put was spot = record {
  inside =
      subst (λ (b : List Txn). AllByRecursion (IsInside b) (set forms i taken)) (sym put)
      (all_set (IsInside (set now r.spot.number r.txn)) forms i taken moved (subst (λ (s : Spot). s.number < length (set now r.spot.number r.txn)) (sym spot) (all_got (IsInside (set now r.spot.number r.txn)) forms i r moved here)));
  back =
      (λ j. put_back (put j) (take-set forms i taken j))
      ∙ sym (put_back-last now (take i forms) r)
      ∙ ap (put_back now) (sym split)
      ∙ ap (λ (k : ℕ). put_back now (take k forms)) (sym is)
      ∙ h.back;
  forth =
      (λ j. put_forms (put j) (drop-set forms i taken inside j))
      ∙ ap (λ (b : List Txn). put_forms b (drop (i + 1) forms)) same
      ∙ ap (λ (k : ℕ). put_forms now (drop k forms)) (sym is)
      ∙ h.forth;
  spots =
      map-set (λ (x : Replaced). x.spot) forms i taken
      ∙ set_there (spots_of forms) i taken.spot (slice_get-map (λ (x : Replaced). x.spot) forms i ∙ ap (option_map (λ (x : Replaced). x.spot)) here ∙ ap (λ (s : Spot). Some s) (sym spot))
      ∙ h.spots;
  few = omega (arith, inside, length-set forms i taken);
}
  where
    inside : i < length forms
    inside = let few = h.few in omega (arith, few, is)

    here : slice_get forms i ≡ Some r
    here = slice_get-get_or forms i r inside ∙ ap (λ (x : Replaced). Some x) (sym read)

    split : take (i + 1) forms ≡ take i forms ++ r ∷ []
    split = take_more forms i r inside ∙ ap (λ (x : Replaced). take i forms ++ x ∷ []) (sym read)

    same : set (set now r.spot.number r.txn) taken.spot.number taken.txn ≡ now
    same =
        ap (λ (s : Spot). set (set now r.spot.number r.txn) s.number taken.txn) spot
        ∙ set-set now r.spot.number r.txn taken.txn
        ∙ set_there now r.spot.number taken.txn was

    size : length (set now r.spot.number r.txn) ≡ length now
    size = length-set now r.spot.number r.txn

    moved : AllByRecursion (IsInside (set now r.spot.number r.txn)) forms
    moved = all_sized now (set now r.spot.number r.txn) forms size h.inside
      where
        all_sized : (a b : List Txn) (xs : List Replaced) → length b ≡ length a → AllByRecursion (IsInside a) xs → AllByRecursion (IsInside b) xs
        all_sized a b [] e k = tt
        all_sized a b (x ∷ xs) e k = (let one = k.0 in omega (arith, e, one), all_sized a b xs e k.1)

pub back_done : (at : ℕ) (start now : List Txn) (begun forms : List Replaced) → IsBack at start now begun forms → at ≤ 0 → (now ≡ put_back start begun) × (put_forms now forms ≡ start)
back_done zero start now begun forms h none = (h.back, h.forth)
back_done (suc at) start now begun forms h none = absurd (omega (arith, none))

-- ---- the last one

pub swapped_last : (book new : List Txn) (forms more : List Replaced) (at : ℕ) (r taken : Replaced) → length forms ≡ at + 1 → r ≡ get_or forms at r → new ≡ set book r.spot.number r.txn → slice_get book r.spot.number ≡ Some taken.txn → taken.spot ≡ r.spot → more ≡ set forms at taken
    → (older : List Replaced) (last : Replaced) → forms ≡ older ++ last ∷ [] → IsSwapped older last book new more
swapped_last book new forms more at r taken size read put was spot set_is older last whole = record {
  form = taken.txn;
  was = subst (λ (x : Replaced). slice_get book x.spot.number ≡ Some taken.txn) same was;
  book_is = put ∙ ap (λ (x : Replaced). set book x.spot.number x.txn) same;
  forms_are =
      set_is
      ∙ ap (λ (xs : List Replaced). set xs at taken) whole
      ∙ set_at older last [] taken at front
      ∙ ap (λ (s : Spot). older ++ record { spot = s; txn = taken.txn } ∷ []) (spot ∙ ap (λ (x : Replaced). x.spot) same);
}
  where
    front : length older ≡ at
    front = let both = length-append older (last ∷ []) in let e = ap (λ (xs : List Replaced). length xs) whole in omega (arith, both, e, size)

    at_last : (xs : List Replaced) (x d : Replaced) → get_or (xs ++ x ∷ []) (length xs) d ≡ x
    at_last [] x d = refl
    at_last (y ∷ ys) x d = at_last ys x d

    same : r ≡ last
    same = read ∙ ap (λ (xs : List Replaced). get_or xs at r) whole ∙ ap (λ (k : ℕ). get_or (older ++ last ∷ []) k r) (sym front) ∙ at_last older last r
