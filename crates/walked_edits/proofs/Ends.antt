-- The end of a walk: the book solves the text after the edit.
use Rattle.std.proofs.Common.{◌≡◌, ℕ, ◌==◌, true, false, List, [], slice_get, Some, refl, sym, ap, subst, ◌∙◌, ◌⊎◌, inl, inr, arith}
use Rattle.std.proofs.lemmas.Bool.{cases_Bool, eqb-true, false≢true}
use Rattle.std.proofs.lemmas.Option.{same_Some}
use Rattle.book.specs.declared.transaction.Txn.{Txn}
use Rattle.balancing.specs.Solves.{Solves}
use Rattle.reached_entries.specs.Reached.{AreSame, HandsOn, IsSolved}
use Rattle.reached_entries.proofs.Stays.{new-book}
use Rattle.reached_walk.specs.declared.place.Spot.{Spot}
use Rattle.reached_walk.specs.Closed.{AreReached}
use Rattle.reached_walk.specs.Spots.{holds}
use Rattle.reached_walk.proofs.Forms.{covers-book, hands-alike}
use Rattle.reached_walk.proofs.Lists.{pick}
use Rattle.watchers.proofs.Tests.{not-true}
use Rattle.walked_edits.specs.Forms.{spots_of}
use Rattle.walked_edits.specs.Scenes.{Scene, edit_in}
use Rattle.walked_edits.specs.Walking.{IsPartly, IsRight}
use Rattle.walked_edits.specs.declared.kept.Kept.{Kept}
use Rattle.walked_edits.specs.declared.replaced.Replaced.{Replaced}
use Rattle.walked_edits.proofs.Made.{anew_by, made_at, made_by, made_covers, same_at, same_by, same_wider, IsMadeOf}
use Rattle.walked_edits.proofs.Turning.{sums_few}

module _ (s : Scene) (book : List Txn) (kept : Kept) (taken : List Replaced) (h : IsPartly s book kept taken []) (reached : AreReached (edit_in s) (spots_of taken)) where
  abbrev spots : List Spot
  spots = spots_of taken

  -- what isn't reached isn't edited
  unedited : (n : ℕ) → holds spots n ≡ false → holds s.spots n ≡ false
  unedited n off = not-true (holds s.spots n) (λ on. false≢true (sym off ∙ reached.closed.edited n on))

  texts : AreSame (holds spots) 0 s.former s.written
  texts = same_wider (holds s.spots) (holds spots) unedited 0 s.former s.written h.edited.others

  same_book : (n : ℕ) → holds spots n ≡ false → slice_get book n ≡ slice_get h.before n
  same_book n off = h.others n off refl (unedited n off)

  books : AreSame (holds spots) 0 h.before book
  books = same_by (holds spots) 0 h.before book (λ i k e off. let same : k ≡ i = omega (arith, e) in same_book i (subst (λ (n : ℕ). holds spots n ≡ false) same off))

  -- each that is reached is solved
  anew : (k : ℕ) (w t : Txn) → holds spots k ≡ true → slice_get s.written k ≡ Some w → slice_get book k ≡ Some t → IsSolved book k w t
  anew k w t on gw gt =
      pick (IsRight s.written book) (λ (x : Spot). x.number == k) (IsSolved book k w t)
      (λ x r here.
      let e : x.number ≡ k = eqb-true x.number k here in
      let same_w : r.written ≡ w = same_Some r.written w (sym r.is ∙ ap (slice_get s.written) e ∙ gw) in
      let same_t : r.solved ≡ t = same_Some r.solved t (sym r.there ∙ ap (slice_get book) e ∙ gt) in
      let solved : IsSolved book x.number r.written r.solved = r.by_book book (sums_few book kept h.sums) r.there (λ account below. refl) in
      subst (λ (n : ℕ). IsSolved book n w t) e (subst (λ (v : Txn). IsSolved book x.number v t) same_w (subst (λ (u : Txn). IsSolved book x.number r.written u) same_t solved)))
      spots h.right on

  -- and each is made of what is written
  made : (i : ℕ) (w t : Txn) → slice_get s.written i ≡ Some w → slice_get book i ≡ Some t → IsMadeOf w t
  made i w t gw gt = by (cases_Bool (holds spots i))
    where
      by : (holds spots i ≡ true) ⊎ (holds spots i ≡ false) → IsMadeOf w t
      by (inl on) =
          let solved = anew i w t on gw gt in
          record { made = solved.made; kept = solved.kept; found = solved.found }
      by (inr off) =
          made_at s.former h.edited.solves.made h.edited.solves.kept i w t
          (same_at (holds spots) 0 s.former s.written texts i i (omega arith) off ∙ gw)
          (ap (λ (b : List Txn). slice_get b i) (sym h.edited.solves.found) ∙ sym (same_book i off) ∙ gt)

  hands_before : HandsOn (holds spots) h.before
  hands_before = hands-alike (holds spots) s.former h.before (covers-book s.former h.before h.edited.solves) reached.closed.before

  hands_after : HandsOn (holds spots) book
  hands_after = hands-alike (holds spots) s.written book (made_covers s.written book (made_by s.written book h.size made)) reached.closed.after

  pub ended_solves : Solves s.written book
  ended_solves =
      new-book (holds spots) s.former s.written h.before book texts h.edited.solves books hands_before hands_after
      (anew_by (holds spots) book 0 s.written book h.size (λ i k w t e on gw gt.
      let same : k ≡ i = omega (arith, e) in
      anew k w t on (ap (slice_get s.written) same ∙ gw) (ap (slice_get book) same ∙ gt)))
      h.sums.fits
