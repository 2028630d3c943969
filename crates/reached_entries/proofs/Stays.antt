-- What isn't reached stays solved in a new book.
use Rattle.std.proofs.Common.{◌≡◌, ℕ, suc, Bool, true, false, List, [], ◌∷◌, ◌++◌, refl, sym, ap, subst, ◌∙◌}
use Rattle.std.specs.List.{AllByRecursion}
use Rattle.book.specs.declared.transaction.Posting.{Posting}
use Rattle.book.specs.declared.transaction.Txn.{Txn}
use Rattle.book.specs.Postings.{postings_of}
use Rattle.book.specs.SumsBefore.{placed_in, placed_from}
use Rattle.entry_balance.specs.Entry.{moved}
use Rattle.entry_balance.specs.Tally.{turnover_fits}
use Rattle.balancing.specs.Solves.{Solves}
use Rattle.reached_entries.specs.Reached.{AreSame, AreSolvedAnew, HandsOn, IsLeft, IsSolved}
use Rattle.reached_entries.proofs.Quiet.{Entry, SameSums, all-asserted, all-assigned, all-first, all-rest, is_other, same-others, same-sums}
use Rattle.reached_entries.proofs.Parts.{AreSolved, are-solved, solves-from}

-- a transaction whose sums are the same in another book is solved in it
pub solved-same : (one two : List Txn) (n : ℕ) (w t : Txn) → AllByRecursion (SameSums one two) (placed_in t n 0 t.postings) → IsSolved one n w t → IsSolved two n w t
solved-same one two n w t same s = record {
  unmarked = s.unmarked;
  allowed = s.allowed;
  made = s.made;
  kept = s.kept;
  balanced = s.balanced;
  found = s.found;
  assigned = all-assigned one two (placed_in t n 0 t.postings) same s.assigned;
  asserted = all-asserted one two (placed_in t n 0 t.postings) same s.asserted;
}

module _ (reached : ℕ → Bool) (before after : List Txn) (same : AreSame reached 0 before after) where
  sums : (t : Txn) (n k : ℕ) (ps : List Posting) → reached n ≡ false → AllByRecursion (IsLeft reached before) (placed_in t n k ps) → AllByRecursion (IsLeft reached after) (placed_in t n k ps) → AllByRecursion (SameSums before after) (placed_in t n k ps)
  sums t n k [] off h l = tt
  sums t n k (p ∷ ps) off h l =
      (same-sums reached before after _ (same-others reached 0 before after same) off (h.0 off) (l.0 off), sums t n (suc k) ps off h.1 l.1)

  one-stays : (n : ℕ) (w w' t t' : Txn) → reached n ≡ false → w ≡ w' → t ≡ t' → AllByRecursion (IsLeft reached before) (placed_in t n 0 t.postings) → AllByRecursion (IsLeft reached after) (placed_in t' n 0 t'.postings) → IsSolved before n w t → IsSolved after n w' t'
  one-stays n w w' t t' off e f h l s =
      let P : Txn → Type 0 = λ x. IsSolved before n x t in
      let Q : Txn → Type 0 = λ x. IsSolved before n w' x in
      let L : Txn → Type 0 = λ x. AllByRecursion (IsLeft reached before) (placed_in x n 0 x.postings) in
      solved-same before after n w' t' (sums t' n 0 t'.postings off (subst L f h) l) (subst Q f (subst P e s))

  carried : (n : ℕ) (old new ts us : List Txn) → AreSame reached n old new → AreSame reached n ts us → AllByRecursion (IsLeft reached before) (placed_from n ts) → AllByRecursion (IsLeft reached after) (placed_from n us) → AreSolved before n old ts → AreSolvedAnew reached after n new us → AreSolved after n new us
  carried n old [] ts [] e f h l s a = tt
  carried n old [] ts (u ∷ us) e f h l s a = absurd a
  carried n old (w' ∷ new) ts [] e f h l s a = absurd a
  carried n [] (w' ∷ new) [] (u ∷ us) e f h l s a =
      (a.0 e.0, carried (suc n) [] new [] us e.1 f.1 tt (all-rest (IsLeft reached after) (placed_in u n 0 u.postings) (placed_from (suc n) us) l) tt a.1)
  carried n [] (w' ∷ new) (t ∷ ts) (u ∷ us) e f h l s a = absurd s
  carried n (w ∷ old) (w' ∷ new) [] (u ∷ us) e f h l s a = absurd s
  carried n (w ∷ old) (w' ∷ new) (t ∷ ts) (u ∷ us) e f h l s a = (
    here (reached n) refl,
    carried (suc n) old new ts us e.1 f.1 (all-rest (IsLeft reached before) (placed_in t n 0 t.postings) (placed_from (suc n) ts) h) (all-rest (IsLeft reached after) (placed_in u n 0 u.postings) (placed_from (suc n) us) l) s.1 a.1,
  )
    where
      here : (b : Bool) → reached n ≡ b → IsSolved after n w' u
      here true q = a.0 q
      here false q = one-stays n w w' t u q (e.0 q) (f.0 q) (all-first (IsLeft reached before) (placed_in t n 0 t.postings) (placed_from (suc n) ts) h) (all-first (IsLeft reached after) (placed_in u n 0 u.postings) (placed_from (suc n) us) l) s.0

pub new-book : (reached : ℕ → Bool) (old new before after : List Txn) → AreSame reached 0 old new → Solves old before → AreSame reached 0 before after → HandsOn reached before → HandsOn reached after → AreSolvedAnew reached after 0 new after → turnover_fits (moved (postings_of after)) ≡ true → Solves new after
new-book reached old new before after e s f h l a fits =
    solves-from new after (carried reached before after f 0 old new before after e f h l (are-solved old before s) a) fits
