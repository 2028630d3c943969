-- A text and its book: their postings have the same accounts, days and assertions.
use Rattle.std.proofs.Common.{◌≡◌, ℕ, suc, Bool, true, false, ◌&&◌, cond, ◌⊎◌, inl, inr, List, [], ◌∷◌, ◌++◌, map, Option, Some, None, is_none, unwrap_or, refl, sym, ap, subst, ◌∙◌}
use Rattle.std.specs.List.{flat_map, list_any, AllByRecursion, AllZip}
use Rattle.std.proofs.lemmas.Bool.{false≢true}
use Rattle.hl_time.specs.declared.day.Day.{Day}
use Rattle.book.specs.declared.amount.Amount.{Amount}
use Rattle.book.specs.declared.amount.Assertion.{Assertion}
use Rattle.book.specs.declared.amount.Cost.TheVariants.{Total}
use Rattle.book.specs.declared.transaction.Posting.{Posting}
use Rattle.book.specs.declared.transaction.Txn.{Txn}
use Rattle.book.specs.SumsBefore as sums
use Rattle.book.specs.SumsBefore.{number_in, placed_from, placed_in}
use Rattle.entry_balance.specs.Entry.{costed_posting, found_posting, found_values, is_real_of, needed, or_nothing, plain_amount, recorded_cost, settled, side_values, solved, solved_posting}
use Rattle.entry_balance.specs.Tally.{sums_of}
use Rattle.entry_balance.specs.Values.{Value}
use Rattle.balancing.specs.Assigned.{assigned_posting}
use Rattle.balancing.specs.Solves.{AreMade, AreMadeTxns, IsMadeBy, IsMadeTxn, Solves}
use Rattle.reached_entries.specs.Reached.{HandsOn, IsLeft, asks_for, counts_for}
use Rattle.watchers.specs.declared.watch.Watch.{Watch}
use Rattle.watchers.specs.Watches.{AreOf, numbered_from}
use Rattle.watchers.proofs.Tests.{and-both, and-first, and-second, not-true}
use Rattle.reached_walk.specs.declared.place.Spot.{Spot}
use Rattle.reached_walk.specs.Asks.{entries_of, AreAlike, AreWatched, Covers, Has}
use Rattle.reached_walk.specs.Spots.{is_before, spot_of}
use Rattle.reached_walk.proofs.Entries.{Entry, by-posting, entry_at}
use Rattle.reached_walk.proofs.Lists.{all-join, all-map, has-any, has-left, has-map, has-right, meet, pick}
use Rattle.reached_walk.proofs.Looking.{entries-text, spot-alike}
use Rattle.reached_walk.proofs.Orders.{place-apart, spot-place}

-- ---- postings

record Alike (p q : Posting) : Type 0 where
  account : p.account ≡ q.account
  wanted : p.wanted ≡ q.wanted
  day : p.day ≡ q.day

alike-same : (p q : Posting) → q ≡ p → Alike p q
alike-same p q e = record {
  account = ap (λ (x : Posting). x.account) (sym e);
  wanted = ap (λ (x : Posting). x.wanted) (sym e);
  day = ap (λ (x : Posting). x.day) (sym e);
}

alike-then : (p q r : Posting) → Alike p q → Alike q r → Alike p r
alike-then p q r a b = record { account = a.account ∙ b.account; wanted = a.wanted ∙ b.wanted; day = a.day ∙ b.day }

alike-back : (p q : Posting) → Alike p q → Alike q p
alike-back p q a = record { account = sym a.account; wanted = sym a.wanted; day = sym a.day }

-- a posting whose assignment was made, or that had none; where its amount misses it asks for nothing
record IsForm (p q : Posting) : Type 0 where
  alike : Alike p q
  asks : q.amount ≡ None → q.wanted ≡ None

some-none : {X : Type 0} (x : X) → Some x ≡ None → ⊥
some-none x h = cc

made-form : (p q : Posting) (a : Option Amount) (w : Option Assertion) → p.amount ≡ a → p.wanted ≡ w → IsMadeBy a w p q → IsForm p q
made-form p q (Some a) w is said m = record {
  alike = alike-same p q m;
  asks = λ none. absurd (some-none a (sym is ∙ ap (λ (x : Posting). x.amount) (sym m) ∙ none));
}
made-form p q None None is said m = record {
  alike = alike-same p q m;
  asks = λ none. ap (λ (x : Posting). x.wanted) m ∙ said;
}
made-form p q None (Some w) is said m = assigned m.0 m.1
  where
    assigned : (v : Value) → q ≡ assigned_posting p v → IsForm p q
    assigned v e = record {
      alike = record {
        account = ap (λ (x : Posting). x.account) (sym e);
        wanted = ap (λ (x : Posting). x.wanted) (sym e);
        day = ap (λ (x : Posting). x.day) (sym e);
      };
      asks = λ none. absurd (has-amount v (ap (λ (x : Posting). x.amount) (sym e) ∙ none));
    }
      where
        has-amount : (v : Value) → (assigned_posting p v).amount ≡ None → ⊥
        has-amount v h = some-none (plain_amount v) h

made-forms : (ps qs : List Posting) → AreMade ps qs → AllZip IsForm ps qs
made-forms [] [] m = tt
made-forms [] (q ∷ qs) m = absurd m
made-forms (p ∷ ps) [] m = absurd m
made-forms (p ∷ ps) (q ∷ qs) m = (made-form p q p.amount p.wanted refl refl m.0, made-forms ps qs m.1)

-- ---- what balancing finds

costed-like : (cost : Option (List ℕ × Value)) (q : Posting) → Alike q (costed_posting cost q)
costed-like None q = alike-same q q refl
costed-like (Some cost) q =
    elim (is_real_of cost.0 q && is_none q.cost) as (λ b. Alike q (cond b (record q { cost = Some (Total (plain_amount cost.1)); costed = true }) q)) [
      | true ↦ record { account = refl; wanted = refl; day = refl }
      | false ↦ alike-same q q refl
    ]

found-like : (q : Posting) → q.wanted ≡ None → (vs : List Value) → AllByRecursion (Alike q) (map (found_posting q) vs)
found-like q none [] = tt
found-like q none (v ∷ vs) = (record { account = refl; wanted = none; day = refl }, found-like q none vs)

found-some : (q : Posting) → q.wanted ≡ None → (vs : List Value) → Has (Alike q) (map (found_posting q) (or_nothing vs))
found-some q none [] = inl (record { account = refl; wanted = none; day = refl })
found-some q none (v ∷ vs) = inl (record { account = refl; wanted = none; day = refl })

solved-like : (all : List Posting) (q : Posting) (o : Option Amount) → (o ≡ None → q.wanted ≡ None) → AllByRecursion (Alike q) (solved_posting all q o)
solved-like all q None asks = found-like q (asks refl) (found_values q.side all)
solved-like all q (Some a) asks = (costed-like (recorded_cost all) q, tt)

solved-some : (all : List Posting) (q : Posting) (o : Option Amount) → (o ≡ None → q.wanted ≡ None) → Has (Alike q) (solved_posting all q o)
solved-some all q None asks = found-some q (asks refl) (needed (sums_of (side_values q.side all)))
solved-some all q (Some a) asks = inl (costed-like (recorded_cost all) q)

-- each posting that was found is like a written one
found-down : (all ps qs : List Posting) → AllZip IsForm ps qs → AllByRecursion (λ r. Has (λ p. Alike p r) ps) (flat_map (λ q. solved_posting all q q.amount) qs)
found-down all [] [] z = tt
found-down all [] (q ∷ qs) z = absurd z
found-down all (p ∷ ps) [] z = tt
found-down all (p ∷ ps) (q ∷ qs) z =
    all-join (λ (r : Posting). Has (λ x. Alike x r) (p ∷ ps)) (solved_posting all q q.amount) (flat_map (λ q. solved_posting all q q.amount) qs)
    (all-map (Alike q) (λ (r : Posting). Has (λ x. Alike x r) (p ∷ ps)) (λ r a. inl (alike-then p q r z.0.alike a)) (solved_posting all q q.amount) (solved-like all q q.amount z.0.asks))
    (all-map (λ (r : Posting). Has (λ x. Alike x r) ps) (λ (r : Posting). Has (λ x. Alike x r) (p ∷ ps)) (λ r h. inr h) (flat_map (λ q. solved_posting all q q.amount) qs) (found-down all ps qs z.1))

-- each written posting has one that is like it
found-up : (all ps qs : List Posting) → AllZip IsForm ps qs → AllByRecursion (λ p. Has (λ r. Alike r p) (flat_map (λ q. solved_posting all q q.amount) qs)) ps
found-up all [] qs z = tt
found-up all (p ∷ ps) [] z = absurd z
found-up all (p ∷ ps) (q ∷ qs) z = (
  has-left (λ (r : Posting). Alike r p) (solved_posting all q q.amount) (flat_map (λ q. solved_posting all q q.amount) qs)
      (has-map (Alike q) (λ (r : Posting). Alike r p) (λ r a. alike-back p r (alike-then p q r z.0.alike a)) (solved_posting all q q.amount) (solved-some all q q.amount z.0.asks)),
  all-map (λ (x : Posting). Has (λ r. Alike r x) (flat_map (λ q. solved_posting all q q.amount) qs)) (λ (x : Posting). Has (λ r. Alike r x) (solved_posting all q q.amount ++ flat_map (λ q. solved_posting all q q.amount) qs))
      (λ x h. has-right (λ (r : Posting). Alike r x) (solved_posting all q q.amount) (flat_map (λ q. solved_posting all q q.amount) qs) h) ps (found-up all ps qs z.1),
)

-- ---- transactions

alike-entries : (t u : Txn) (n k j : ℕ) (p q : Posting) → t.day ≡ u.day → Alike p q → AreAlike (entry_at t n k p) (entry_at u n j q)
alike-entries t u n k j p q day a = record {
  day = λ i. (unwrap_or (a.day i) (day i)).0;
  txn = refl;
  account = a.account;
  wanted = a.wanted;
}

has-placed : (t u : Txn) (n j : ℕ) (q : Posting) → t.day ≡ u.day → (k : ℕ) (ps : List Posting) → Has (λ p. Alike p q) ps → Has (λ e. AreAlike e (entry_at u n j q)) (placed_in t n k ps)
has-placed t u n j q day k [] h = absurd h
has-placed t u n j q day k (p ∷ ps) (inl a) = inl (alike-entries t u n (number_in t k p) j p q day a)
has-placed t u n j q day k (p ∷ ps) (inr h) = inr (has-placed t u n j q day (suc k) ps h)

txn-covers : (t u : Txn) (n : ℕ) → t.day ≡ u.day → AllByRecursion (λ q. Has (λ p. Alike p q) t.postings) u.postings → Covers (placed_in t n 0 t.postings) (placed_in u n 0 u.postings)
txn-covers t u n day h =
    by-posting (λ (f : Entry). Has (λ e. AreAlike e f) (placed_in t n 0 t.postings)) (λ (q : Posting). Has (λ p. Alike p q) t.postings) u n
    (λ q at has. has-placed t u n at q day 0 t.postings has) 0 u.postings h

pub covers-join : (es fs xs ys : List Entry) → Covers es fs → Covers xs ys → Covers (es ++ xs) (fs ++ ys)
covers-join es fs xs ys h k =
    all-join (λ (f : Entry). Has (λ e. AreAlike e f) (es ++ xs)) fs ys
    (all-map (λ (f : Entry). Has (λ e. AreAlike e f) es) (λ (f : Entry). Has (λ e. AreAlike e f) (es ++ xs)) (λ f. has-left (λ (e : Entry). AreAlike e f) es xs) fs h)
    (all-map (λ (f : Entry). Has (λ e. AreAlike e f) xs) (λ (f : Entry). Has (λ e. AreAlike e f) (es ++ xs)) (λ f. has-right (λ (e : Entry). AreAlike e f) es xs) ys k)

settled-day : (w m : Txn) → IsMadeTxn w m → w.day ≡ (settled m).day
settled-day w m h = ap (λ (t : Txn). t.day) (sym h.rest)

-- a text and what is made of it
pub text-book : (n : ℕ) (text made : List Txn) → AreMadeTxns text made → Covers (placed_from n text) (placed_from n (map settled made))
text-book n [] [] h = tt
text-book n [] (m ∷ made) h = absurd h
text-book n (w ∷ text) [] h = absurd h
text-book n (w ∷ text) (m ∷ made) h =
    covers-join (placed_in w n 0 w.postings) (placed_in (settled m) n 0 (settled m).postings) (placed_from (suc n) text) (placed_from (suc n) (map settled made))
    (txn-covers w (settled m) n (settled-day w m h.0) (found-down m.postings w.postings m.postings (made-forms w.postings m.postings h.0.postings)))
    (text-book (suc n) text made h.1)

book-text : (n : ℕ) (text made : List Txn) → AreMadeTxns text made → Covers (placed_from n (map settled made)) (placed_from n text)
book-text n [] [] h = tt
book-text n [] (m ∷ made) h = absurd h
book-text n (w ∷ text) [] h = absurd h
book-text n (w ∷ text) (m ∷ made) h =
    covers-join (placed_in (settled m) n 0 (settled m).postings) (placed_in w n 0 w.postings) (placed_from (suc n) (map settled made)) (placed_from (suc n) text)
    (txn-covers (settled m) w n (sym (settled-day w m h.0)) (found-up m.postings w.postings m.postings (made-forms w.postings m.postings h.0.postings)))
    (book-text (suc n) text made h.1)

pub covers-book : (text book : List Txn) → Solves text book → Covers (placed_from 0 text) (placed_from 0 book)
covers-book text book s = subst (λ (b : List Txn). Covers (placed_from 0 text) (placed_from 0 b)) (sym s.found) (text-book 0 text s.made s.kept)

pub covers-text : (text book : List Txn) → Solves text book → Covers (placed_from 0 book) (placed_from 0 text)
covers-text text book s = subst (λ (b : List Txn). Covers (placed_from 0 b) (placed_from 0 text)) (sym s.found) (book-text 0 text s.made s.kept)

-- ---- what a set hands on

module _ (set : ℕ → Bool) (one two : List Txn) (covers : Covers (placed_from 0 one) (placed_from 0 two)) where
  asks-there : (e e' f f' : Entry) → AreAlike e e' → AreAlike f f' → set e'.0.txn ≡ false → (set f'.0.txn && asks_for e' f') ≡ true → (set f.0.txn && asks_for e f) ≡ true
  asks-there e e' f f' le lf off m =
      let on : set f'.0.txn ≡ true = and-first (set f'.0.txn) (asks_for e' f') m in
      let asks : asks_for e' f' ≡ true = and-second (set f'.0.txn) (asks_for e' f') m in
      and-both (set f.0.txn) (asks_for e f) (ap set lf.txn ∙ on)
      (and-both (sums.is_before f.0 e.0) (counts_for e.1.wanted e.1.account f.1.account)
      (spot-place f.0 e.0
      ((λ i. is_before (spot-alike f f' lf i) (spot-alike e e' le i))
      ∙ place-apart f'.0 e'.0 (λ same. false≢true (sym off ∙ ap set (sym same) ∙ on)) (and-first (sums.is_before f'.0 e'.0) (counts_for e'.1.wanted e'.1.account f'.1.account) asks)))
      ((λ i. counts_for (le.wanted i) (le.account i) (lf.account i)) ∙ and-second (sums.is_before f'.0 e'.0) (counts_for e'.1.wanted e'.1.account f'.1.account) asks))

  left-alike : (e e' : Entry) → AreAlike e e' → IsLeft set one e → IsLeft set two e'
  left-alike e e' l left off =
      not-true (list_any (λ (f : Entry). set f.0.txn && asks_for e' f) (placed_from 0 two)) (λ k.
      false≢true (sym (left (ap set l.txn ∙ off)) ∙ pick (λ (f : Entry). Has (λ x. AreAlike x f) (placed_from 0 one)) (λ (f : Entry). set f.0.txn && asks_for e' f) (list_any (λ (f : Entry). set f.0.txn && asks_for e f) (placed_from 0 one) ≡ true)
      (λ f' has m. has-any (λ (x : Entry). AreAlike x f') (λ (f : Entry). set f.0.txn && asks_for e f) (λ f lf. asks-there e e' f f' l lf off m) (placed_from 0 one) has)
      (placed_from 0 two) covers k))

  pub hands-alike : HandsOn set one → HandsOn set two
  hands-alike h =
      all-map (λ (f : Entry). Has (λ x. AreAlike x f) (placed_from 0 one)) (IsLeft set two)
      (λ e' has. λ off. meet (IsLeft set one) (λ (x : Entry). AreAlike x e') (list_any (λ (f : Entry). set f.0.txn && asks_for e' f) (placed_from 0 two) ≡ false)
      (λ e left l. left-alike e e' l left off) (placed_from 0 one) h has)
      (placed_from 0 two) covers

-- ---- the watches of a book

pub book-watched : (text book : List Txn) (ws : List Watch) → Solves text book → AreOf (numbered_from 0 book) ws → AreWatched text ws
book-watched text book ws s are = record {
  standing = numbered_from 0 book;
  watched = are;
  all = subst (λ (es : List Entry). Covers es (placed_from 0 text)) (sym (entries-text 0 book)) (covers-text text book s);
  only = subst (λ (es : List Entry). Covers (placed_from 0 text) es) (sym (entries-text 0 book)) (covers-book text book s);
}
