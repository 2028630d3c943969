-- What an edit reaches in texts with other lines.
use Rattle.std.proofs.Common.{◌≡◌, ◌<◌, ◌^◌, ℕ, zero, suc, ◌+◌, ◌==◌, Bool, true, ◌&&◌, ◌||◌, not, List, [], ◌∷◌, filter, length, map, drop, Option, Some, None, refl, sym, ap, subst, ◌∙◌}
use Rattle.std.specs.Prelude.{sum_by}
use Rattle.std.specs.List.{list_all, list_any, range_with_len, slice_get, AllByRecursion}
use Rattle.std.proofs.lemmas.List.Sums.{sum_by-cons}
use Rattle.book.specs.SumsBefore.{Place, placed_from}
use Rattle.book.specs.declared.amount.Assertion.{Assertion}
use Rattle.book.specs.declared.transaction.Posting.{Posting}
use Rattle.book.specs.declared.transaction.Txn.{Txn}
use Rattle.balancing.specs.Groups.{day_of}
use Rattle.entry_check.specs.Asking.{Asks, judging, nodes_asked}
use Rattle.placed_checks.specs.Unmixed.{are_alike, is_alike, is_single, is_unmixed}
use Rattle.reached_entries.specs.Reached.{HandsOn, IsLeft, asks_for}
use Rattle.reached_walk.specs.Apart.{is_apart, is_dated}
use Rattle.reached_walk.specs.Closed.{IsClosed, edits_of, size_in}
use Rattle.moved_lines.specs.Moving.{CanMoveTxn, back, line_from, moved_from, moved_txn}
use Rattle.moved_lines.specs.Relined.{relined, relined_at, relined_from, relined_posting, relined_txn}
use Rattle.moved_lines.specs.declared.shift.Shift.{Shift}
use Rattle.moved_lines.proofs.Backs.{from-home, txn-can, txn-home}
use Rattle.moved_lines.proofs.Lists.{all-same, any-same}
use Rattle.moved_lines.proofs.Numbering.{moved-is}
use Rattle.moved_lines.proofs.Placing.{placed-moved}
use Rattle.moved_lines.proofs.Solved.{solves-relined}
use Rattle.book_laws.specs.Reaching.{HasNoPlainReach, IsPlainReach}
use Rattle.book_laws.proofs.Lined.{few-same}

abbrev Entry : Type 0
Entry = Place × Posting

none-some : {X : Type 0} (x : X) → None ≡ Some x → ⊥
none-some x h = cc

some-same : {X : Type 0} (x y : X) → Some x ≡ Some y → x ≡ y
some-same x y h = cc

-- ---- forms

all-both : {X : Type 0} (r : X → X) (p q : X → Bool) → ((x : X) → p (r x) ≡ q x) → (xs : List X) → list_all p (map r xs) ≡ list_all q xs
all-both r p q e [] = refl
all-both r p q e (x ∷ xs) = λ i. e x i && all-both r p q e xs i

sum-same : {X : Type 0} (r : X → X) (w : X → ℕ) → ((x : X) → w (r x) ≡ w x) → (xs : List X) → sum_by w (map r xs) ≡ sum_by w xs
sum-same r w e [] = refl
sum-same r w e (x ∷ xs) = sum_by-cons w (r x) (map r xs) ∙ (λ i. e x i + sum-same r w e xs i) ∙ sym (sum_by-cons w x xs)

module _ (g : ℕ → ℕ) where
  pub dated-same : (t : Txn) → is_dated (relined_txn g t) ≡ is_dated t
  dated-same t = any-same (relined_posting g) (is_apart t) (λ p. refl) t.postings

  alike-same : (ps : List Posting) (account : List ℕ) (o : Option Assertion) → are_alike (map (relined_posting g) ps) account o ≡ are_alike ps account o
  alike-same ps account None = refl
  alike-same ps account (Some w) = ap (λ (b : Bool). not w.only || b) (all-same (relined_posting g) (is_alike account w) (λ p. refl) ps)

  single-same : (t : Txn) (p : Posting) → is_single (relined_txn g t) (relined_posting g p) ≡ is_single t p
  single-same t p = ap (λ (b : Bool). (day_of t p == t.day.0) && b) (alike-same t.postings p.account p.wanted)

  pub unmixed-same : (t : Txn) → is_unmixed (relined_txn g t) ≡ is_unmixed t
  unmixed-same t = all-both (relined_posting g) (is_single (relined_txn g t)) (is_single t) (single-same t) t.postings

  pub nodes-same : (sum other : Asks) (ps : List Posting) → nodes_asked sum other (map (relined_posting g) ps) ≡ nodes_asked sum other ps
  nodes-same sum other ps = sum-same (relined_posting g) (λ (p : Posting). judging sum other p.account p.wanted) (λ p. refl) ps

-- ---- lists

module _ (f : ℕ → ℕ → ℕ) where
  pub length-lined : (n : ℕ) (ts : List Txn) → length (relined_from f n ts) ≡ length ts
  length-lined n [] = refl
  length-lined n (t ∷ ts) = ap suc (length-lined (suc n) ts)

  -- what holds of each transaction under its number whatever its lines are
  pub each-lined : (Q : ℕ → Txn → Type 0) → ((k : ℕ) (t : Txn) (g : ℕ → ℕ) → Q k t → Q k (relined_txn g t)) → (n : ℕ) (ts : List Txn)
      → ((k : ℕ) (t : Txn) → slice_get ts k ≡ Some t → Q k t) → (k : ℕ) (t : Txn) → slice_get (relined_from f n ts) k ≡ Some t → Q k t
  each-lined Q up n [] h k t s = absurd (none-some t s)
  each-lined Q up n (u ∷ ts) h zero t s = subst (Q zero) (some-same (relined_txn (f n) u) t s) (up zero u (f n) (h zero u refl))
  each-lined Q up n (u ∷ ts) h (suc k) t s = each-lined (λ j. Q (suc j)) (λ j. up (suc j)) (suc n) ts (λ j x e. h (suc j) x e) k t s

  pub each-bare : (Q : ℕ → Txn → Type 0) → ((k : ℕ) (t : Txn) (g : ℕ → ℕ) → Q k (relined_txn g t) → Q k t) → (n : ℕ) (ts : List Txn)
      → ((k : ℕ) (t : Txn) → slice_get (relined_from f n ts) k ≡ Some t → Q k t) → (k : ℕ) (t : Txn) → slice_get ts k ≡ Some t → Q k t
  each-bare Q down n [] h k t s = absurd (none-some t s)
  each-bare Q down n (u ∷ ts) h zero t s = subst (Q zero) (some-same u t s) (down zero u (f n) (h zero (relined_txn (f n) u) refl))
  each-bare Q down n (u ∷ ts) h (suc k) t s = each-bare (λ j. Q (suc j)) (λ j. down (suc j)) (suc n) ts (λ j x e. h (suc j) x e) k t s

  -- what a transaction under a number weighs whatever its lines are
  pub weight-same : (w : Option Txn → ℕ) → ((g : ℕ → ℕ) (t : Txn) → w (Some (relined_txn g t)) ≡ w (Some t)) → (n : ℕ) (ts : List Txn) (k : ℕ)
      → w (slice_get (relined_from f n ts) k) ≡ w (slice_get ts k)
  weight-same w e n [] k = refl
  weight-same w e n (t ∷ ts) zero = e (f n) t
  weight-same w e n (t ∷ ts) (suc k) = weight-same w e (suc n) ts k

  -- what the transactions of a set weigh
  pub weights-same : (w : Option Txn → ℕ) → ((g : ℕ → ℕ) (t : Txn) → w (Some (relined_txn g t)) ≡ w (Some t)) → (set : ℕ → Bool) (ts : List Txn)
      → sum_by (λ k. w (slice_get (relined f ts) k)) (filter set (range_with_len 0 (length (relined f ts))))
      ≡ sum_by (λ k. w (slice_get ts k)) (filter set (range_with_len 0 (length ts)))
  weights-same w e set ts = λ i. sum_by (λ k. weight-same w e 0 ts k i) (filter set (range_with_len 0 (length-lined 0 ts i)))

  pub size-same : (set : ℕ → Bool) (ts : List Txn) → size_in set (relined f ts) ≡ size_in set ts
  size-same set ts = ap (λ (n : ℕ). length (filter set (range_with_len 0 n))) (length-lined 0 ts)

  -- ---- what a set hands on

  all-moved : (P Q : Entry → Type 0) → ((e : Entry) → P e → Q (relined_at f e)) → (es : List Entry) → AllByRecursion P es → AllByRecursion Q (map (relined_at f) es)
  all-moved P Q up [] h = tt
  all-moved P Q up (e ∷ es) h = (up e h.0, all-moved P Q up es h.1)

  all-bare : (P Q : Entry → Type 0) → ((e : Entry) → Q (relined_at f e) → P e) → (es : List Entry) → AllByRecursion Q (map (relined_at f) es) → AllByRecursion P es
  all-bare P Q down [] h = tt
  all-bare P Q down (e ∷ es) h = (down e h.0, all-bare P Q down es h.1)

  any-placed : (t : Entry → Bool) → ((e : Entry) → t (relined_at f e) ≡ t e) → (ts : List Txn) → list_any t (placed_from 0 (relined f ts)) ≡ list_any t (placed_from 0 ts)
  any-placed t e ts = ap (list_any t) (placed-moved f 0 ts) ∙ any-same (relined_at f) t e (placed_from 0 ts)

  asked-same : (set : ℕ → Bool) (ts : List Txn) (e : Entry)
      → list_any (λ (x : Entry). set x.0.txn && asks_for (relined_at f e) x) (placed_from 0 (relined f ts)) ≡ list_any (λ (x : Entry). set x.0.txn && asks_for e x) (placed_from 0 ts)
  asked-same set ts e = any-placed (λ (x : Entry). set x.0.txn && asks_for e x) (λ x. refl) ts

  left-lined : (set : ℕ → Bool) (ts : List Txn) (e : Entry) → IsLeft set ts e → IsLeft set (relined f ts) (relined_at f e)
  left-lined set ts e h = λ off. asked-same set ts e ∙ h off

  left-bare : (set : ℕ → Bool) (ts : List Txn) (e : Entry) → IsLeft set (relined f ts) (relined_at f e) → IsLeft set ts e
  left-bare set ts e h = λ off. sym (asked-same set ts e) ∙ h off

  pub hands-lined : (set : ℕ → Bool) (ts : List Txn) → HandsOn set ts → HandsOn set (relined f ts)
  hands-lined set ts h =
      subst (λ (es : List Entry). AllByRecursion (IsLeft set (relined f ts)) es) (sym (placed-moved f 0 ts))
      (all-moved (IsLeft set ts) (IsLeft set (relined f ts)) (left-lined set ts) (placed_from 0 ts) h)

  pub hands-bare : (set : ℕ → Bool) (ts : List Txn) → HandsOn set (relined f ts) → HandsOn set ts
  hands-bare set ts h =
      all-bare (IsLeft set ts) (IsLeft set (relined f ts)) (left-bare set ts) (placed_from 0 ts)
      (subst (λ (es : List Entry). AllByRecursion (IsLeft set (relined f ts)) es) (placed-moved f 0 ts) h)

  -- ---- closed sets, where the new text has other lines

  module _ (edited : ℕ → Bool) (before after : List Txn) (set : ℕ → Bool) where
    pub closed-lined : IsClosed (edits_of edited before after) set → IsClosed (edits_of edited before (relined f after)) set
    closed-lined h = record { edited = h.edited; before = h.before; after = hands-lined set after h.after }

    pub closed-bare : IsClosed (edits_of edited before (relined f after)) set → IsClosed (edits_of edited before after) set
    closed-bare h = record { edited = h.edited; before = h.before; after = hands-bare set after h.after }

    pub plain-lined : (book : List Txn) → IsPlainReach (edits_of edited before after) set book → IsPlainReach (edits_of edited before (relined f after)) set (relined f book)
    plain-lined book h = record {
      closed = closed-lined h.closed;
      solves = solves-relined f after book h.solves;
      few = few-same f book h.few;
      undated = h.undated;
      unmixed = λ n t on got.
          each-lined (λ (k : ℕ) (u : Txn). set k ≡ true → is_unmixed u ≡ true) (λ k u g q m. unmixed-same g u ∙ q m) 0 book (λ k u s m. h.unmixed k u m s) n t got on;
      near = λ n t on got.
          each-lined (λ (k : ℕ) (u : Txn). set k ≡ true → u.day.0 < 2 ^ 22) (λ k u g q m. q m) 0 after (λ k u s m. h.near k u m s) n t got on;
    }

-- ---- where its later transactions have moved

moved-back : (n : ℕ) (by : Shift) (ts : List Txn) → AllByRecursion (CanMoveTxn by) (drop n ts) → relined (line_from n (back by)) (moved_from n by ts) ≡ ts
moved-back n by ts can =
    sym (moved-is n (back by) (moved_from n by ts))
    ∙ from-home (moved_txn by) (moved_txn (back by)) (CanMoveTxn by) (CanMoveTxn (back by)) (txn-home by) (txn-can by) n ts can

pub size-moved : (n : ℕ) (by : Shift) (set : ℕ → Bool) (ts : List Txn) → size_in set (moved_from n by ts) ≡ size_in set ts
size-moved n by set ts = ap (size_in set) (moved-is n by ts) ∙ size-same (line_from n by) set ts

module _ (n : ℕ) (by : Shift) (edited : ℕ → Bool) (before after : List Txn) where
  pub closed-moved : (set : ℕ → Bool) → IsClosed (edits_of edited before after) set → IsClosed (edits_of edited before (moved_from n by after)) set
  closed-moved set h = subst (λ (ts : List Txn). IsClosed (edits_of edited before ts) set) (sym (moved-is n by after)) (closed-lined (line_from n by) edited before after set h)

  pub closed-unmoved : (set : ℕ → Bool) → IsClosed (edits_of edited before (moved_from n by after)) set → IsClosed (edits_of edited before after) set
  closed-unmoved set h = closed-bare (line_from n by) edited before after set (subst (λ (ts : List Txn). IsClosed (edits_of edited before ts) set) (moved-is n by after) h)

  pub plain-moved : (set : ℕ → Bool) (book : List Txn) → IsPlainReach (edits_of edited before after) set book
      → IsPlainReach (edits_of edited before (moved_from n by after)) set (moved_from n by book)
  plain-moved set book h =
      subst (λ (ts : List Txn). IsPlainReach (edits_of edited before ts) set (moved_from n by book)) (sym (moved-is n by after))
      (subst (λ (bs : List Txn). IsPlainReach (edits_of edited before (relined (line_from n by) after)) set bs) (sym (moved-is n by book))
      (plain-lined (line_from n by) edited before after set book h))

  module _ (can : AllByRecursion (CanMoveTxn by) (drop n after)) where
    pub plain-unmoved : (set : ℕ → Bool) (book : List Txn) → IsPlainReach (edits_of edited before (moved_from n by after)) set book
        → IsPlainReach (edits_of edited before after) set (moved_from n (back by) book)
    plain-unmoved set book h =
        subst (λ (bs : List Txn). IsPlainReach (edits_of edited before after) set bs) (sym (moved-is n (back by) book))
        (subst (λ (ts : List Txn). IsPlainReach (edits_of edited before ts) set (relined (line_from n (back by)) book)) (moved-back n by after can)
        (plain-lined (line_from n (back by)) edited before (moved_from n by after) set book h))

    -- what a walk of the text as it stood leaves undone can't be done of the text as it stands
    pub none-moved : HasNoPlainReach (edits_of edited before after) → HasNoPlainReach (edits_of edited before (moved_from n by after))
    none-moved none set book h = none set (moved_from n (back by) book) (plain-unmoved set book h)
