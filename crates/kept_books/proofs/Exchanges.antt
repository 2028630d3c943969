-- Forms in the place of those that a book has, whatever transactions weigh.
use Rattle.std.proofs.Common.{◌≡◌, ℕ, ℤ, pos, zero, suc, ◌<◌, ◌+ℤ◌, ◌==◌, Bool, true, false, cond, List, [], ◌∷◌, ◌++◌, get_or, length, map, set, slice_get, Option, Some, None, IfSome, Result, Ok, Err, IfOk, refl, sym, ap, subst, ◌∙◌, arith}
use Rattle.std.specs.List.{AllByRecursion, flat_map}
use Rattle.std.specs.Option.{option_to_list}
use Rattle.std.proofs.lemmas.Bool.{eq-eqb, false≢true}
use Rattle.std.proofs.lemmas.Int.{ints}
use Rattle.std.proofs.lemmas.List.{length-set}
use Rattle.book.specs.Bounds.{TurnoverFits}
use Rattle.book.specs.Postings.{postings_of}
use Rattle.book.specs.declared.transaction.Posting.{Posting}
use Rattle.book.specs.declared.transaction.Txn.{Txn}
use Rattle.index_cells.proofs.Dating.{dated_after}
use Rattle.index_cells.proofs.Fitting.{posted_fit}
use Rattle.index_cells.proofs.Replacing.{posted-append, put_at}
use Rattle.index_cells.specs.Books.{KeepsBook}
use Rattle.index_cells.specs.Exchange.{CanChange, IsExchange, weighed}
use Rattle.index_cells.specs.Names.{NamesOf}
use Rattle.index_cells.specs.Posted.{AreDated, posted, posted_in}
use Rattle.index_cells.specs.declared.kept.Kept.{Kept}
use Rattle.reached_walk.specs.Spots.{AreOnce, holds}
use Rattle.report_cells.specs.Taken.{Taken}
use Rattle.walked_edits.proofs.Gets.{get_other}
use Rattle.walked_edits.specs.Forms.{IsInside, put_forms, spots_of}
use Rattle.walked_edits.specs.declared.replaced.Replaced.{Replaced}
use Rattle.watchers.proofs.Tests.{or-first, or-second}
use Rattle.kept_books.specs.Exchanging.{free_form, held_form, is_held, news_in, olds_in}
use Rattle.kept_books.specs.Summing.{KeepsNamed}

abbrev Free : Txn → Type 0
Free t = t.postings ≡ []

module _ (weight : Taken → ℤ) where
  abbrev weigh : List Txn → ℤ
  weigh ts = weighed weight (posted_in ts)

  weighs_both : (a b : List Taken) → weighed weight (a ++ b) ≡ weighed weight a +ℤ weighed weight b
  weighs_both [] b = omega (arith, ints)
  weighs_both (t ∷ a) b = omega (arith, ints, weighs_both a b)

  weigh_both : (a b : List Txn) → weigh (a ++ b) ≡ weigh a +ℤ weigh b
  weigh_both a b = ap (weighed weight) (posted-append a b) ∙ weighs_both (posted_in a) (posted_in b)

  free_weighs : (t : Txn) → Free t → weigh (t ∷ []) ≡ pos 0
  free_weighs t none = ap (λ (ps : List Posting). weighed weight (map posted (map (λ (p : Posting). (p, t)) ps ++ []))) none

  -- ---- the places that are held behind a book

  all_free : (vacants : List Txn) → AllByRecursion Free vacants → weigh vacants ≡ pos 0
  all_free [] h = refl
  all_free (v ∷ vacants) h = omega (arith, ints, weigh_both (v ∷ []) vacants, free_weighs v h.0, all_free vacants h.1)

  one_free : (vacants : List Txn) (n : ℕ) → AllByRecursion Free vacants → weigh (option_to_list (slice_get vacants n)) ≡ pos 0
  one_free [] n h = refl
  one_free (v ∷ vacants) zero h = free_weighs v h.0
  one_free (v ∷ vacants) (suc n) h = one_free vacants n h.1

  one_old : (book vacants : List Txn) (n : ℕ) → AllByRecursion Free vacants → weigh (option_to_list (slice_get (book ++ vacants) n)) ≡ weigh (option_to_list (slice_get book n))
  one_old [] vacants n h = one_free vacants n h
  one_old (t ∷ book) vacants zero h = refl
  one_old (t ∷ book) vacants (suc n) h = one_old book vacants n h

  all_old : (book vacants : List Txn) (forms : List Replaced) → AllByRecursion Free vacants → weigh (olds_in (book ++ vacants) forms) ≡ weigh (olds_in book forms)
  all_old book vacants [] h = refl
  all_old book vacants (r ∷ forms) h =
      let here = option_to_list (slice_get book r.spot.number) in
      let there = option_to_list (slice_get (book ++ vacants) r.spot.number) in
      omega (arith, ints, weigh_both there (olds_in (book ++ vacants) forms), weigh_both here (olds_in book forms), one_old book vacants r.spot.number h, all_old book vacants forms h)

  -- ---- one form after another

  old_there : (book : List Txn) (n : ℕ) → n < length book → (old : Txn) × (slice_get book n ≡ Some old) × (old ≡ get_or book n old)
  old_there [] n lt = absurd (omega (arith, lt))
  old_there (t ∷ book) zero lt = (t, refl, refl)
  old_there (t ∷ book) (suc n) lt = old_there book n (omega (arith, lt))

  olds_other : (book : List Txn) (n : ℕ) (x : Txn) (forms : List Replaced) → holds (spots_of forms) n ≡ false → olds_in (set book n x) forms ≡ olds_in book forms
  olds_other book n x [] off = refl
  olds_other book n x (r ∷ forms) off =
      let apart : n ≡ r.spot.number → ⊥ = λ same. false≢true (sym (or-first (r.spot.number == n) (holds (spots_of forms) n) off) ∙ eq-eqb r.spot.number n (sym same)) in
      (λ i. option_to_list (get_other book n r.spot.number x apart i) ++ olds_other book n x forms (or-second (r.spot.number == n) (holds (spots_of forms) n) off) i)

  still_inside : (book : List Txn) (n : ℕ) (x : Txn) (forms : List Replaced) → AllByRecursion (IsInside book) forms → AllByRecursion (IsInside (set book n x)) forms
  still_inside book n x [] h = tt
  still_inside book n x (r ∷ forms) h = (let one = h.0 in let size = length-set book n x in omega (arith, one, size), still_inside book n x forms h.1)

  abbrev texts : List Replaced → List Txn
  texts forms = map (λ r. r.txn) forms

  put_weighs : (room : List Txn) (forms : List Replaced) → AllByRecursion (IsInside room) forms → AreOnce (spots_of forms) → weigh (put_forms room forms) +ℤ weigh (olds_in room forms) ≡ weigh room +ℤ weigh (texts forms)
  put_weighs room [] inside once = refl
  put_weighs room (r ∷ forms) inside once =
      let n = r.spot.number in
      let mid = set room n r.txn in
      let was = old_there room n inside.0 in
      let rest = put_weighs mid forms (still_inside room n r.txn forms inside.1) once.1 in
      let same : weigh (olds_in mid forms) ≡ weigh (olds_in room forms) = ap weigh (olds_other room n r.txn forms once.0) in
      let one : weigh mid +ℤ weigh (was.0 ∷ []) ≡ weigh room +ℤ weigh (r.txn ∷ []) = put_at room n was.0 r.txn inside.0 was.2 weight in
      let gone : weigh (olds_in room (r ∷ forms)) ≡ weigh (was.0 ∷ []) +ℤ weigh (olds_in room forms) =
      ap (λ (o : Option Txn). weigh (option_to_list o ++ olds_in room forms)) was.1 ∙ weigh_both (was.0 ∷ []) (olds_in room forms) in
      let more : weigh (texts (r ∷ forms)) ≡ weigh (r.txn ∷ []) +ℤ weigh (texts forms) = weigh_both (r.txn ∷ []) (texts forms) in
      both (weigh (put_forms mid forms)) (weigh (olds_in mid forms)) (weigh (olds_in room forms)) (weigh mid) (weigh (texts forms)) (weigh (was.0 ∷ [])) (weigh room) (weigh (r.txn ∷ [])) _ _ rest same one gone more
    where
      both : (p om o m t w r x gone more : ℤ) → p +ℤ om ≡ m +ℤ t → om ≡ o → m +ℤ w ≡ r +ℤ x → gone ≡ w +ℤ o → more ≡ x +ℤ t → p +ℤ gone ≡ r +ℤ more
      both p om o m t w r x gone more h1 h2 h3 h4 h5 = omega (arith, ints, h1, h2, h3, h4, h5)

  -- ---- in the order in which they are put in

  news_weigh : (book : List Txn) (forms : List Replaced) → weigh (flat_map (held_form book) forms) +ℤ weigh (flat_map (free_form book) forms) ≡ weigh (texts forms)
  news_weigh book [] = refl
  news_weigh book (r ∷ forms) =
      let H = flat_map (held_form book) forms in
      let F = flat_map (free_form book) forms in
      by (is_held (slice_get book r.spot.number)) H F (news_weigh book forms)
    where
      by : (b : Bool) (H F : List Txn) → weigh H +ℤ weigh F ≡ weigh (texts forms) → weigh (cond b (r.txn ∷ []) [] ++ H) +ℤ weigh (cond b [] (r.txn ∷ []) ++ F) ≡ weigh (texts (r ∷ forms))
      by true H F rest = omega (arith, ints, weigh_both (r.txn ∷ []) H, weigh_both (r.txn ∷ []) (texts forms), rest)
      by false H F rest = omega (arith, ints, weigh_both (r.txn ∷ []) F, weigh_both (r.txn ∷ []) (texts forms), rest)

  forms_weigh : (book vacants : List Txn) (forms : List Replaced) → AllByRecursion Free vacants → AllByRecursion (IsInside (book ++ vacants)) forms → AreOnce (spots_of forms)
      → weigh (put_forms (book ++ vacants) forms) +ℤ weigh (olds_in book forms) ≡ weigh book +ℤ weigh (news_in book forms)
  forms_weigh book vacants forms free inside once =
      all (weigh (put_forms (book ++ vacants) forms)) (weigh (olds_in (book ++ vacants) forms)) (weigh (olds_in book forms)) (weigh (book ++ vacants)) (weigh book) (weigh vacants) (weigh (texts forms)) (weigh (flat_map (held_form book) forms)) (weigh (flat_map (free_form book) forms)) (weigh (news_in book forms))
      (put_weighs (book ++ vacants) forms inside once) (all_old book vacants forms free) (weigh_both book vacants) (all_free vacants free) (news_weigh book forms) (weigh_both (flat_map (held_form book) forms) (flat_map (free_form book) forms))
    where
      all : (p oa o a b v t h f n : ℤ) → p +ℤ oa ≡ a +ℤ t → oa ≡ o → a ≡ b +ℤ v → v ≡ pos 0 → h +ℤ f ≡ t → n ≡ h +ℤ f → p +ℤ o ≡ b +ℤ n
      all p oa o a b v t h f n h1 h2 h3 h4 h5 h6 = omega (arith, ints, h1, h2, h3, h4, h5, h6)

-- ---- what is kept of the sums

pub forms_exchange : (book vacants : List Txn) (forms : List Replaced) → AllByRecursion Free vacants → AllByRecursion (IsInside (book ++ vacants)) forms → AreOnce (spots_of forms)
    → IsExchange (posted_in book) (posted_in (olds_in book forms)) (posted_in (news_in book forms)) (posted_in (put_forms (book ++ vacants) forms))
forms_exchange book vacants forms free inside once = λ weight. forms_weigh weight book vacants forms free inside once

pub can_walk : (kept : Kept) (book vacants : List Txn) (forms : List Replaced) (gone more : List Txn) → gone ≡ olds_in book forms → more ≡ news_in book forms → KeepsBook book kept → AllByRecursion Free vacants → AllByRecursion (IsInside (book ++ vacants)) forms → AreOnce (spots_of forms)
    → TurnoverFits (postings_of (put_forms (book ++ vacants) forms)) → CanChange kept book gone more (put_forms (book ++ vacants) forms)
can_walk kept book vacants forms gone more olds news sums free inside once fits =
    subst (λ (g : List Txn). CanChange kept book g more (put_forms (book ++ vacants) forms)) (sym olds)
    (subst (λ (m : List Txn). CanChange kept book (olds_in book forms) m (put_forms (book ++ vacants) forms)) (sym news)
    (record { keeps = sums.keeps; exchange = forms_exchange book vacants forms free inside once; fits = posted_fit (put_forms (book ++ vacants) forms) fits }))

pub walked_keeps : (kept : Kept) (book vacants : List Txn) (forms : List Replaced) (gone more : List Txn) (o : Option Kept) → gone ≡ olds_in book forms → more ≡ news_in book forms → KeepsBook book kept → AllByRecursion Free vacants → AllByRecursion (IsInside (book ++ vacants)) forms
    → AreOnce (spots_of forms) → TurnoverFits (postings_of (put_forms (book ++ vacants) forms)) → AreDated more
    → IfSome o (λ k. (before after : List Txn) → CanChange kept before gone more after → NamesOf (posted_in before) kept → KeepsNamed after k) → IfSome o (KeepsBook (put_forms (book ++ vacants) forms))
walked_keeps kept book vacants forms gone more None olds news sums free inside once fits dated h = tt
walked_keeps kept book vacants forms gone more (Some k) olds news sums free inside once fits dated h =
    let after = put_forms (book ++ vacants) forms in
    let can = can_walk kept book vacants forms gone more olds news sums free inside once fits in
    let made = h book after can sums.names in
    record { keeps = made.keeps; dated = dated_after (posted_in book) (posted_in gone) (posted_in more) (posted_in after) can.exchange sums.dated dated; names = made.names }

pub walked_keeps_in : {E : Type 0} (r : Result (Option Kept) E) (kept : Kept) (book vacants : List Txn) (forms : List Replaced) (gone more : List Txn) → gone ≡ olds_in book forms → more ≡ news_in book forms → KeepsBook book kept → AllByRecursion Free vacants → AllByRecursion (IsInside (book ++ vacants)) forms
    → AreOnce (spots_of forms) → TurnoverFits (postings_of (put_forms (book ++ vacants) forms)) → AreDated more
    → IfOk r (λ o. IfSome o (λ k. (before after : List Txn) → CanChange kept before gone more after → NamesOf (posted_in before) kept → KeepsNamed after k)) → IfOk r (λ o. IfSome o (KeepsBook (put_forms (book ++ vacants) forms)))
walked_keeps_in (Ok o) kept book vacants forms gone more olds news sums free inside once fits dated h = walked_keeps kept book vacants forms gone more o olds news sums free inside once fits dated h
walked_keeps_in (Err e) kept book vacants forms gone more olds news sums free inside once fits dated h = tt
