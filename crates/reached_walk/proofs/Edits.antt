-- The watches of a book in which one transaction has another form.
use Rattle.std.proofs.Common.{◌≡◌, ℕ, zero, suc, ◌+◌, ◌==◌, Bool, true, false, cond, not, ◌⊎◌, inl, inr, List, [], ◌∷◌, ◌++◌, filter, Option, Some, None, refl, sym, ap, subst, ◌∙◌, arith}
use Rattle.std.specs.List.{slice_get, AllByRecursion}
use Rattle.std.proofs.lemmas.Bool.{false≢true, cases_Bool, cases_eq, eq-eqb, eqb-true, ne_eqb}
use Rattle.book.specs.declared.transaction.Posting.{Posting}
use Rattle.book.specs.declared.transaction.Txn.{Txn}
use Rattle.book.specs.Standing.{Numbered, all_greater, with_number, without_number}
use Rattle.book.specs.SumsBefore.{number_in, placed_from, placed_in}
use Rattle.balancing.specs.Solves.{Solves}
use Rattle.reached_entries.specs.Reached.{AreSame}
use Rattle.watchers.specs.declared.watch.Watch.{Watch}
use Rattle.watchers.specs.Watches.{AreOf, numbered_from}
use Rattle.reached_walk.specs.Asks.{entries_of, AreAlike, AreWatched, Covers, Has}
use Rattle.reached_walk.proofs.Entries.{Entry, back-all, by-text, entry_at, own-number, some-same}
use Rattle.reached_walk.proofs.Forms.{covers-book, covers-text}
use Rattle.reached_walk.proofs.Lists.{all-join, all-left, all-map, all-right, all-zip, has-left, has-map, has-right}
use Rattle.reached_walk.proofs.Looking.{covers-itself, entries-text}

has-split : (P : Entry → Type 0) (xs ys : List Entry) → Has P (xs ++ ys) → Has P xs ⊎ Has P ys
has-split P [] ys h = inr h
has-split P (x ∷ xs) ys (inl h) = inl (inl h)
has-split P (x ∷ xs) ys (inr h) =
    elim (has-split P xs ys h) as (λ _. Has P (x ∷ xs) ⊎ Has P ys) [
      | inl k ↦ inl (inr k)
      | inr k ↦ inr k
    ]

-- ---- one more under a number

module _ (n : ℕ) (form : Txn) where
  all-with : (P : Entry → Type 0) (ys : Numbered Txn) → AllByRecursion P (placed_in form n 0 form.postings) → AllByRecursion P (entries_of ys) → AllByRecursion P (entries_of (with_number n form ys))
  all-with P [] h k = all-join P (placed_in form n 0 form.postings) [] h tt
  all-with P (y ∷ ys) h k =
      let rest = all-with P ys h (all-right P (placed_in y.1 y.0 0 y.1.postings) (entries_of ys) k) in
      elim (all_greater n (y ∷ ys)) as (λ b. AllByRecursion P (entries_of (cond b ((n, form) ∷ y ∷ ys) (y ∷ with_number n form ys)))) [
        | true ↦ all-join P (placed_in form n 0 form.postings) (entries_of (y ∷ ys)) h k
        | false ↦ all-join P (placed_in y.1 y.0 0 y.1.postings) (entries_of (with_number n form ys)) (all-left P (placed_in y.1 y.0 0 y.1.postings) (entries_of ys) k) rest
      ]

  has-form : (P : Entry → Type 0) (ys : Numbered Txn) → Has P (placed_in form n 0 form.postings) → Has P (entries_of (with_number n form ys))
  has-form P [] h = has-left P (placed_in form n 0 form.postings) [] h
  has-form P (y ∷ ys) h =
      let rest = has-form P ys h in
      elim (all_greater n (y ∷ ys)) as (λ b. Has P (entries_of (cond b ((n, form) ∷ y ∷ ys) (y ∷ with_number n form ys)))) [
        | true ↦ has-left P (placed_in form n 0 form.postings) (entries_of (y ∷ ys)) h
        | false ↦ has-right P (placed_in y.1 y.0 0 y.1.postings) (entries_of (with_number n form ys)) rest
      ]

  has-others : (P : Entry → Type 0) (ys : Numbered Txn) → Has P (entries_of ys) → Has P (entries_of (with_number n form ys))
  has-others P [] h = absurd h
  has-others P (y ∷ ys) h =
      let later : Has P (entries_of ys) → Has P (entries_of (with_number n form ys)) = has-others P ys in
      elim (all_greater n (y ∷ ys)) as (λ b. Has P (entries_of (cond b ((n, form) ∷ y ∷ ys) (y ∷ with_number n form ys)))) [
        | true ↦ has-right P (placed_in form n 0 form.postings) (entries_of (y ∷ ys)) h
        | false ↦ elim (has-split P (placed_in y.1 y.0 0 y.1.postings) (entries_of ys) h) as (λ _. Has P (placed_in y.1 y.0 0 y.1.postings ++ entries_of (with_number n form ys))) [
          | inl k ↦ has-left P (placed_in y.1 y.0 0 y.1.postings) (entries_of (with_number n form ys)) k
          | inr k ↦ has-right P (placed_in y.1 y.0 0 y.1.postings) (entries_of (with_number n form ys)) (later k)
        ]
      ]

-- ---- without what stands under a number

other-all : (P : Entry → Type 0) (n : ℕ) (ys : Numbered Txn) → AllByRecursion P (entries_of ys) → AllByRecursion (λ (e : Entry). (P e) × ((e.0.txn == n) ≡ false)) (entries_of (without_number n ys))
other-all P n [] h = tt
other-all P n (y ∷ ys) h =
    let rest = other-all P n ys (all-right P (placed_in y.1 y.0 0 y.1.postings) (entries_of ys) h) in
    elim (y.0 == n) as (λ b. (y.0 == n) ≡ b → AllByRecursion (λ (e : Entry). (P e) × ((e.0.txn == n) ≡ false)) (entries_of (cond (not b) (y ∷ without_number n ys) (without_number n ys)))) [
      | true ↦ λ q. rest
      | false ↦ λ q.
          all-join (λ (e : Entry). (P e) × ((e.0.txn == n) ≡ false)) (placed_in y.1 y.0 0 y.1.postings) (entries_of (without_number n ys))
          (all-zip P (λ (e : Entry). e.0.txn ≡ y.0) (λ (e : Entry). (P e) × ((e.0.txn == n) ≡ false)) (λ e p own. (p, ap (λ (m : ℕ). m == n) own ∙ q))
          (placed_in y.1 y.0 0 y.1.postings) (all-left P (placed_in y.1 y.0 0 y.1.postings) (entries_of ys) h) (own-number y.1 y.0 0 y.1.postings))
          rest
    ] refl

-- one of another number
has-own : (P : Entry → Type 0) (m : ℕ) → ((e : Entry) → P e → e.0.txn ≡ m → ⊥) → (t : Txn) (k : ℕ) (ps : List Posting) → Has P (placed_in t m k ps) → ⊥
has-own P m f t k [] h = h
has-own P m f t k (p ∷ ps) (inl h) = f (entry_at t m (number_in t k p) p) h refl
has-own P m f t k (p ∷ ps) (inr h) = has-own P m f t (suc k) ps h

other-has : (P : Entry → Type 0) (n : ℕ) → ((e : Entry) → P e → (e.0.txn == n) ≡ false) → (ys : Numbered Txn) → Has P (entries_of ys) → Has P (entries_of (without_number n ys))
other-has P n f [] h = h
other-has P n f (y ∷ ys) h =
    let later : Has P (entries_of ys) → Has P (entries_of (without_number n ys)) = other-has P n f ys in
    elim (has-split P (placed_in y.1 y.0 0 y.1.postings) (entries_of ys) h) as (λ _. Has P (entries_of (without_number n (y ∷ ys)))) [
      | inl k ↦ elim (y.0 == n) as (λ b. (y.0 == n) ≡ b → Has P (entries_of (cond (not b) (y ∷ without_number n ys) (without_number n ys)))) [
        | true ↦ λ q. absurd (has-own P y.0 (λ e p own. false≢true (sym (f e p) ∙ ap (λ (m : ℕ). m == n) own ∙ q)) y.1 0 y.1.postings k)
        | false ↦ λ q. has-left P (placed_in y.1 y.0 0 y.1.postings) (entries_of (without_number n ys)) k
      ] refl
      | inr k ↦ elim (y.0 == n) as (λ b. Has P (entries_of (cond (not b) (y ∷ without_number n ys) (without_number n ys)))) [
        | true ↦ later k
        | false ↦ has-right P (placed_in y.1 y.0 0 y.1.postings) (entries_of (without_number n ys)) (later k)
      ]
    ]

-- ---- in the text after an edit

none-some : {X : Type 0} (x : X) → None ≡ Some x → ⊥
none-some x h = cc

has-txn : (P : Entry → Type 0) (txns : List Txn) (n i k : ℕ) (t : Txn) → k ≡ n + i → slice_get txns i ≡ Some t → Has P (placed_in t k 0 t.postings) → Has P (placed_from n txns)
has-txn P [] n i k t e s h = absurd (none-some t s)
has-txn P (u ∷ txns) n zero k t e s h =
    let number : k ≡ n = omega arith in
    let same : t ≡ u = sym (some-same u t s) in
    has-left P (placed_in u n 0 u.postings) (placed_from (suc n) txns)
    (subst (λ (x : Txn). Has P (placed_in x n 0 x.postings)) same (subst (λ (m : ℕ). Has P (placed_in t m 0 t.postings)) number h))
has-txn P (u ∷ txns) n (suc i) k t e s h =
    has-right P (placed_in u n 0 u.postings) (placed_from (suc n) txns) (has-txn P txns (suc n) i k t (omega arith) s h)

-- one that isn't edited stays
has-kept : (P : Entry → Type 0) (set : ℕ → Bool) → ((e : Entry) → P e → set e.0.txn ≡ false) → (n : ℕ) (old new : List Txn) → AreSame set n old new → Has P (placed_from n old) → Has P (placed_from n new)
has-kept P set f n [] new same h = absurd h
has-kept P set f n (t ∷ ts) [] same h =
    elim (has-split P (placed_in t n 0 t.postings) (placed_from (suc n) ts) h) as (λ _. Has P []) [
      | inl k ↦ has-own P n (λ e p own. false≢true (sym (f e p) ∙ ap set own ∙ same.0)) t 0 t.postings k
      | inr k ↦ has-kept P set f (suc n) ts [] same.1 k
    ]
has-kept P set f n (t ∷ ts) (u ∷ us) same h =
    elim (has-split P (placed_in t n 0 t.postings) (placed_from (suc n) ts) h) as (λ _. Has P (placed_in u n 0 u.postings ++ placed_from (suc n) us)) [
      | inl k ↦ elim (cases_Bool (set n)) as (λ _. Has P (placed_in u n 0 u.postings ++ placed_from (suc n) us)) [
        | inl on ↦ absurd (has-own P n (λ e p own. false≢true (sym (f e p) ∙ ap set own ∙ on)) t 0 t.postings k)
        | inr off ↦ has-left P (placed_in u n 0 u.postings) (placed_from (suc n) us) (subst (λ (x : Txn). Has P (placed_in x n 0 x.postings)) (same.0 off) k)
      ]
      | inr k ↦ has-right P (placed_in u n 0 u.postings) (placed_from (suc n) us) (has-kept P set f (suc n) ts us same.1 k)
    ]

module _ (number : ℕ) (before after book : List Txn) (form : Txn) (solves : Solves before book) (others : AreSame (λ n. n == number) 0 before after) (got : slice_get after number ≡ Some form) where
  -- a posting of the form is one of the text's
  of-form : AllByRecursion (λ (e : Entry). Has (λ f. AreAlike f e) (placed_from 0 after)) (placed_in form number 0 form.postings)
  of-form =
      all-map (λ (e : Entry). Has (λ f. AreAlike f e) (placed_in form number 0 form.postings)) (λ (e : Entry). Has (λ f. AreAlike f e) (placed_from 0 after))
      (λ e h. has-txn (λ f. AreAlike f e) after 0 number number form (omega arith) got h)
      (placed_in form number 0 form.postings) (covers-itself (placed_in form number 0 form.postings))

  of-others : AllByRecursion (λ (e : Entry). Has (λ f. AreAlike f e) (placed_from 0 after)) (entries_of (without_number number (numbered_from 0 book)))
  of-others =
      all-map (λ (e : Entry). (Has (λ f. AreAlike f e) (placed_from 0 before)) × ((e.0.txn == number) ≡ false)) (λ (e : Entry). Has (λ f. AreAlike f e) (placed_from 0 after))
      (λ e h.
      has-kept (λ f. AreAlike f e) (λ n. n == number) (λ f l. ap (λ (m : ℕ). m == number) l.txn ∙ h.1) 0 before after others h.0)
      (entries_of (without_number number (numbered_from 0 book)))
      (other-all (λ (e : Entry). Has (λ f. AreAlike f e) (placed_from 0 before)) number (numbered_from 0 book)
      (subst (λ (es : List Entry). Covers (placed_from 0 before) es) (sym (entries-text 0 book)) (covers-book before book solves)))

  back : AllByRecursion (λ (f : Entry). Has (λ e. AreAlike e f) (entries_of (with_number number form (without_number number (numbered_from 0 book))))) (placed_from 0 after)
  back =
      all-zip (λ (f : Entry). (f.0.txn == number) ≡ false → Has (λ e. AreAlike e f) (placed_from 0 book)) (λ (f : Entry). f.0.txn ≡ number → Has (λ e. AreAlike e f) (placed_in form number 0 form.postings))
      (λ (f : Entry). Has (λ e. AreAlike e f) (entries_of (with_number number form (without_number number (numbered_from 0 book))))) one (placed_from 0 after)
      (back-all (λ (f : Entry). Has (λ e. AreAlike e f) (placed_from 0 book)) (λ n. n == number) 0 before after others (covers-text before book solves))
      (by-text (λ (f : Entry). f.0.txn ≡ number → Has (λ e. AreAlike e f) (placed_in form number 0 form.postings)) after own)
    where
      own : (i : ℕ) (t : Txn) → slice_get after i ≡ Some t → AllByRecursion (λ (f : Entry). f.0.txn ≡ number → Has (λ e. AreAlike e f) (placed_in form number 0 form.postings)) (placed_in t i 0 t.postings)
      own i t here =
          elim (cases_eq i number) as (λ _. AllByRecursion (λ (f : Entry). f.0.txn ≡ number → Has (λ e. AreAlike e f) (placed_in form number 0 form.postings)) (placed_in t i 0 t.postings)) [
            | inl same ↦
                let is : form ≡ t = some-same form t (sym got ∙ ap (slice_get after) (sym same) ∙ here) in
                all-map (λ (f : Entry). Has (λ e. AreAlike e f) (placed_in form number 0 form.postings)) (λ (f : Entry). f.0.txn ≡ number → Has (λ e. AreAlike e f) (placed_in form number 0 form.postings)) (λ f k _. k) (placed_in t i 0 t.postings)
                (subst (λ (x : Txn). AllByRecursion (λ (f : Entry). Has (λ e. AreAlike e f) (placed_in form number 0 form.postings)) (placed_in x i 0 x.postings)) is
                (subst (λ (m : ℕ). AllByRecursion (λ (f : Entry). Has (λ e. AreAlike e f) (placed_in form number 0 form.postings)) (placed_in form m 0 form.postings)) (sym same) (covers-itself (placed_in form number 0 form.postings))))
            | inr other ↦
                all-map (λ (f : Entry). f.0.txn ≡ i) (λ (f : Entry). f.0.txn ≡ number → Has (λ e. AreAlike e f) (placed_in form number 0 form.postings)) (λ f k h. absurd (other (sym k ∙ h))) (placed_in t i 0 t.postings) (own-number t i 0 t.postings)
          ]

      one : (f : Entry) → ((f.0.txn == number) ≡ false → Has (λ e. AreAlike e f) (placed_from 0 book)) → (f.0.txn ≡ number → Has (λ e. AreAlike e f) (placed_in form number 0 form.postings)) → Has (λ e. AreAlike e f) (entries_of (with_number number form (without_number number (numbered_from 0 book))))
      one f other same =
          elim (cases_Bool (f.0.txn == number)) as (λ _. Has (λ e. AreAlike e f) (entries_of (with_number number form (without_number number (numbered_from 0 book))))) [
            | inl e ↦ has-form number form (λ e. AreAlike e f) (without_number number (numbered_from 0 book)) (same (eqb-true f.0.txn number e))
            | inr e ↦
                has-others number form (λ e. AreAlike e f) (without_number number (numbered_from 0 book))
                (other-has (λ x. AreAlike x f) number (λ x l. ap (λ (m : ℕ). m == number) l.txn ∙ e) (numbered_from 0 book)
                (subst (λ (es : List Entry). Has (λ x. AreAlike x f) es) (sym (entries-text 0 book)) (other e)))
          ]

  pub edit-watched : (ws : List Watch) → AreOf (with_number number form (without_number number (numbered_from 0 book))) ws → AreWatched after ws
  edit-watched ws are = record {
    standing = with_number number form (without_number number (numbered_from 0 book));
    watched = are;
    all = back;
    only = all-with number form (λ (e : Entry). Has (λ f. AreAlike f e) (placed_from 0 after)) (without_number number (numbered_from 0 book)) of-form of-others;
  }
