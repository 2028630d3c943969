-- A text in which blank transactions stand for the reached ones: the others of its book are solved in it.
use Rattle.std.proofs.Common.{◌≡◌, ℕ, zero, suc, ◌+◌, ◌≤◌, Bool, true, false, ◌&&◌, ◌||◌, cond, not, List, [], ◌∷◌, ◌++◌, map, filter, length, None, refl, sym, ap, subst, ◌∙◌, arith}
use Rattle.std.specs.List.{AllByRecursion, flat_map, list_any}
use Rattle.std.proofs.lemmas.Bool.{false≢true}
use Rattle.std.proofs.lemmas.Grind.{flat_map-append}
use Rattle.std.proofs.lemmas.List.Elements.{filter-append}
use Rattle.book.specs.declared.transaction.Mark.TheVariants.{Unmarked}
use Rattle.book.specs.declared.transaction.Posting.{Posting}
use Rattle.book.specs.declared.transaction.Txn.{Txn}
use Rattle.book.specs.Postings.{postings_of}
use Rattle.book.specs.SumsBefore.{placed_in, placed_from}
use Rattle.entry_balance.specs.Entry.{moved, moved_by}
use Rattle.entry_balance.specs.Tally.{turnover_fits}
use Rattle.entry_balance.specs.Values.{Value}
use Rattle.entry_balance.proofs.Covers.{Covers, covered-fits, covers_both, covers_none, covers_same}
use Rattle.balancing.specs.Solves.{Solves, just_after}
use Rattle.balancing.proofs.Solving.{solves_once}
use Rattle.reached_entries.specs.Reached.{AreSame, HandsOn, IsLeft, IsSolved}
use Rattle.reached_entries.proofs.Quiet.{Entry, IsQuiet, SameSums, all-first, all-other, all-rest, is_other, none-other, same-before, quiet-through, quiet-until, counts_at}
use Rattle.reached_entries.proofs.Parts.{AreSolved, are-solved, solves-from}
use Rattle.reached_entries.proofs.Stays.{solved-same}

abbrev blank : Txn
blank = record {
  line = 0;
  day = record { 0 = 0 };
  mark = Unmarked;
  code = [];
  description = [];
  comment = [];
  tags = [];
  postings = [];
}

-- a text, or a book, of a length, with blank transactions for the reached ones and at its end
abbrev blanked : (ℕ → Bool) → ℕ → ℕ → List Txn → List Txn
blanked reached n zero ts = []
blanked reached n (suc l) [] = blank ∷ blanked reached (suc n) l []
blanked reached n (suc l) (t ∷ ts) = cond (reached n) blank t ∷ blanked reached (suc n) l ts

-- ---- its entries are those of the others

blanked-others : (reached : ℕ → Bool) (n l : ℕ) (ts : List Txn) → length ts ≤ l → placed_from n (blanked reached n l ts) ≡ filter (is_other reached) (placed_from n ts)
blanked-others reached n zero [] h = refl
blanked-others reached n zero (t ∷ ts) h = absurd (omega arith)
blanked-others reached n (suc l) [] h = blanked-others reached (suc n) l [] (omega arith)
blanked-others reached n (suc l) (t ∷ ts) h =
    (λ i. first (reached n) refl i ++ blanked-others reached (suc n) l ts (omega arith) i)
    ∙ sym (filter-append (is_other reached) (placed_in t n 0 t.postings) (placed_from (suc n) ts))
  where
    first : (b : Bool) → reached n ≡ b → placed_in (cond b blank t) n 0 (cond b blank t).postings ≡ filter (is_other reached) (placed_in t n 0 t.postings)
    first true e = sym (none-other reached t n 0 t.postings e)
    first false e = sym (all-other reached t n 0 t.postings e)

twice : (reached : ℕ → Bool) (es : List Entry) → filter (is_other reached) (filter (is_other reached) es) ≡ filter (is_other reached) es
twice reached [] = refl
twice reached (f ∷ es) =
    let rest = twice reached es in
    elim (reached f.0.txn) as (λ b. reached f.0.txn ≡ b → filter (is_other reached) (cond (not b) (f ∷ filter (is_other reached) es) (filter (is_other reached) es)) ≡ cond (not b) (f ∷ filter (is_other reached) es) (filter (is_other reached) es)) [
      | true ↦ λ q. rest
      | false ↦ λ q.
          ap (λ (c : Bool). cond (not c) (f ∷ filter (is_other reached) (filter (is_other reached) es)) (filter (is_other reached) (filter (is_other reached) es))) q
          ∙ ap (λ (l : List Entry). f ∷ l) rest
    ] refl

none-reached : (reached : ℕ → Bool) (t : Entry → Bool) (es : List Entry) → list_any (λ f. reached f.0.txn && t f) (filter (is_other reached) es) ≡ false
none-reached reached t [] = refl
none-reached reached t (f ∷ es) =
    let rest = none-reached reached t es in
    elim (reached f.0.txn) as (λ b. reached f.0.txn ≡ b → list_any (λ g. reached g.0.txn && t g) (cond (not b) (f ∷ filter (is_other reached) es) (filter (is_other reached) es)) ≡ false) [
      | true ↦ λ q. rest
      | false ↦ λ q. ap (λ (c : Bool). (c && t f) || list_any (λ g. reached g.0.txn && t g) (filter (is_other reached) es)) q ∙ rest
    ] refl

-- ---- the others are solved in it

module _ (reached : ℕ → Bool) (book : List Txn) (l : ℕ) (within : length book ≤ l) where
  entries : placed_from 0 (blanked reached 0 l book) ≡ filter (is_other reached) (placed_from 0 book)
  entries = blanked-others reached 0 l book within

  same-entries : filter (is_other reached) (placed_from 0 book) ≡ filter (is_other reached) (placed_from 0 (blanked reached 0 l book))
  same-entries = sym (ap (filter (is_other reached)) entries ∙ twice reached (placed_from 0 book))

  quiet-kept : (t : Entry → Bool) → list_any (λ f. reached f.0.txn && t f) (placed_from 0 (blanked reached 0 l book)) ≡ false
  quiet-kept t = ap (list_any (λ f. reached f.0.txn && t f)) entries ∙ none-reached reached t (placed_from 0 book)

  kept-sums : (e : Entry) → reached e.0.txn ≡ false → IsQuiet reached book e → SameSums book (blanked reached 0 l book) e
  kept-sums e off h = record {
    until = λ w is. same-before reached book (blanked reached 0 l book) e.1.account w.below e.0 same-entries (quiet-until reached book e w is h) (quiet-kept (counts_at e.1.account w.below e.0));
    through = λ w is. same-before reached book (blanked reached 0 l book) e.1.account w.below (just_after e.0) same-entries (quiet-through reached book e w off is h) (quiet-kept (counts_at e.1.account w.below (just_after e.0)));
  }

  all-sums : (t : Txn) (n k : ℕ) (ps : List Posting) → reached n ≡ false → AllByRecursion (IsLeft reached book) (placed_in t n k ps) → AllByRecursion (SameSums book (blanked reached 0 l book)) (placed_in t n k ps)
  all-sums t n k [] off h = tt
  all-sums t n k (p ∷ ps) off h = (kept-sums _ off (h.0 off), all-sums t n (suc k) ps off h.1)

  blank-solved : (n : ℕ) → IsSolved (blanked reached 0 l book) n blank blank
  blank-solved n = record {
    unmarked = refl;
    allowed = refl;
    made = blank;
    kept = record { postings = tt; rest = refl };
    balanced = refl;
    found = refl;
    assigned = tt;
    asserted = tt;
  }

  solved-blanks : (n m : ℕ) (ws ts : List Txn) → AreSolved book n ws ts → AllByRecursion (IsLeft reached book) (placed_from n ts) → AreSolved (blanked reached 0 l book) n (blanked reached n m ws) (blanked reached n m ts)
  solved-blanks n zero ws ts s h = tt
  solved-blanks n (suc m) [] [] s h = (blank-solved n, solved-blanks (suc n) m [] [] tt tt)
  solved-blanks n (suc m) [] (t ∷ ts) s h = absurd s
  solved-blanks n (suc m) (w ∷ ws) [] s h = absurd s
  solved-blanks n (suc m) (w ∷ ws) (t ∷ ts) s h =
      (first (reached n) refl, solved-blanks (suc n) m ws ts s.1 (all-rest (IsLeft reached book) (placed_in t n 0 t.postings) (placed_from (suc n) ts) h))
    where
      first : (b : Bool) → reached n ≡ b → IsSolved (blanked reached 0 l book) n (cond b blank w) (cond b blank t)
      first true q = blank-solved n
      first false q = solved-same book (blanked reached 0 l book) n w t (all-sums t n 0 t.postings q (all-first (IsLeft reached book) (placed_in t n 0 t.postings) (placed_from (suc n) ts) h)) s.0

-- it moves no more
covers-blanks : (reached : ℕ → Bool) (n l : ℕ) (ts : List Txn) → Covers (moved (postings_of ts)) (moved (postings_of (blanked reached n l ts)))
covers-blanks reached n zero ts = covers_none (moved (postings_of ts))
covers-blanks reached n (suc l) [] = covers-blanks reached (suc n) l []
covers-blanks reached n (suc l) (t ∷ ts) =
    let more : List Posting = postings_of (blanked reached (suc n) l ts) in
    let own : List Posting = (cond (reached n) blank t).postings in
    let both : Covers (moved t.postings ++ moved (postings_of ts)) (moved (cond (reached n) blank t).postings ++ moved (postings_of (blanked reached (suc n) l ts))) =
    covers_both (moved own) (moved t.postings) (moved more) (moved (postings_of ts)) (first (reached n)) (covers-blanks reached (suc n) l ts) in
    let P : List Value → Type 0 = λ xs. Covers (moved t.postings ++ moved (postings_of ts)) xs in
    let Q : List Value → Type 0 = λ ys. Covers ys (moved (own ++ more)) in
    subst Q (sym (flat_map-append moved_by t.postings (postings_of ts))) (subst P (sym (flat_map-append moved_by own more)) both)
  where
    first : (b : Bool) → Covers (moved t.postings) (moved (cond b blank t).postings)
    first true = covers_none (moved t.postings)
    first false = covers_same (moved t.postings)

blank-book : (reached : ℕ → Bool) (l : ℕ) (old before : List Txn) → length before ≤ l → Solves old before → HandsOn reached before → Solves (blanked reached 0 l old) (blanked reached 0 l before)
blank-book reached l old before within s h =
    solves-from (blanked reached 0 l old) (blanked reached 0 l before)
    (solved-blanks reached before l within 0 l old before (are-solved old before s) h)
    (covered-fits (moved (postings_of before)) (moved (postings_of (blanked reached 0 l before))) (covers-blanks reached 0 l before) s.fits)

-- ---- two books whose others are the same

same-blanked : (reached : ℕ → Bool) (n l : ℕ) (ts us : List Txn) → AreSame reached n ts us → blanked reached n l ts ≡ blanked reached n l us
same-blanked reached n zero ts us h = refl
same-blanked reached n (suc l) [] [] h = refl
same-blanked reached n (suc l) [] (u ∷ us) h = λ i. cond (sym h.0 i) blank u ∷ same-blanked reached (suc n) l [] us h.1 i
same-blanked reached n (suc l) (t ∷ ts) [] h = λ i. cond (h.0 i) blank t ∷ same-blanked reached (suc n) l ts [] h.1 i
same-blanked reached n (suc l) (t ∷ ts) (u ∷ us) h =
    λ i. first (reached n) refl i ∷ same-blanked reached (suc n) l ts us h.1 i
  where
    first : (b : Bool) → reached n ≡ b → cond b blank t ≡ cond b blank u
    first true q = refl
    first false q = h.0 q

head-of : (x y : Txn) (xs ys : List Txn) → x ∷ xs ≡ y ∷ ys → x ≡ y
head-of x y xs ys e = cc

tail-of : (x y : Txn) (xs ys : List Txn) → x ∷ xs ≡ y ∷ ys → xs ≡ ys
tail-of x y xs ys e = cc

agree : (reached : ℕ → Bool) (one two : List Txn) (n l : ℕ) (old ts new us : List Txn) → AreSame reached n old new → AreSolved one n old ts → AreSolved two n new us → length ts ≤ l → length us ≤ l → blanked reached n l ts ≡ blanked reached n l us → AreSame reached n ts us
agree reached one two n l [] (t ∷ ts) new us e s a h k q = absurd s
agree reached one two n l (w ∷ old) [] new us e s a h k q = absurd s
agree reached one two n l [] [] [] [] e s a h k q = tt
agree reached one two n l [] [] [] (u ∷ us) e s a h k q = absurd a
agree reached one two n l [] [] (w ∷ new) [] e s a h k q = absurd a
agree reached one two n zero [] [] (w ∷ new) (u ∷ us) e s a h k q = absurd (omega arith)
agree reached one two n (suc l) [] [] (w ∷ new) (u ∷ us) e s a h k q =
    (e.0, agree reached one two (suc n) l [] [] new us e.1 tt a.1 (omega arith) (omega arith) (tail-of blank (cond (reached n) blank u) (blanked reached (suc n) l []) (blanked reached (suc n) l us) q))
agree reached one two n l (v ∷ old) (t ∷ ts) [] (u ∷ us) e s a h k q = absurd a
agree reached one two n l (v ∷ old) (t ∷ ts) (w ∷ new) [] e s a h k q = absurd a
agree reached one two n zero (v ∷ old) (t ∷ ts) [] [] e s a h k q = absurd (omega arith)
agree reached one two n (suc l) (v ∷ old) (t ∷ ts) [] [] e s a h k q =
    (e.0, agree reached one two (suc n) l old ts [] [] e.1 s.1 tt (omega arith) (omega arith) (tail-of (cond (reached n) blank t) blank (blanked reached (suc n) l ts) (blanked reached (suc n) l []) q))
agree reached one two n zero (v ∷ old) (t ∷ ts) (w ∷ new) (u ∷ us) e s a h k q = absurd (omega arith)
agree reached one two n (suc l) (v ∷ old) (t ∷ ts) (w ∷ new) (u ∷ us) e s a h k q = (
  λ off.
      let first : cond (reached n) blank t ≡ cond (reached n) blank u = head-of (cond (reached n) blank t) (cond (reached n) blank u) (blanked reached (suc n) l ts) (blanked reached (suc n) l us) q in
      sym (ap (λ (b : Bool). cond b blank t) off) ∙ first ∙ ap (λ (b : Bool). cond b blank u) off,
  agree reached one two (suc n) l old ts new us e.1 s.1 a.1 (omega arith) (omega arith) (tail-of (cond (reached n) blank t) (cond (reached n) blank u) (blanked reached (suc n) l ts) (blanked reached (suc n) l us) q),
)

pub others-stay : (reached : ℕ → Bool) (old new before after : List Txn) → AreSame reached 0 old new → Solves old before → Solves new after → HandsOn reached before → HandsOn reached after → AreSame reached 0 before after
others-stay reached old new before after e s a h k =
    let l : ℕ = length before + length after in
    let one : length before ≤ length before + length after = omega arith in
    let two : length after ≤ length before + length after = omega arith in
    let P : List Txn → Type 0 = λ w. Solves w (blanked reached 0 l before) in
    let first : Solves (blanked reached 0 l new) (blanked reached 0 l before) = subst P (same-blanked reached 0 l old new e) (blank-book reached l old before one s h) in
    let same : blanked reached 0 l before ≡ blanked reached 0 l after = solves_once (blanked reached 0 l new) (blanked reached 0 l before) (blanked reached 0 l after) first (blank-book reached l new after two a k) in
    agree reached before after 0 l old before new after e (are-solved old before s) (are-solved new after a) one two same
