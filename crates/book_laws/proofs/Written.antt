-- Each symbol that a solved book moves is written in its text.
use Rattle.std.proofs.Common.{◌≡◌, ℕ, ℤ, pos, Bool, true, false, ◌||◌, cond, not, ◌⊎◌, inl, inr, List, [], ◌∷◌, ◌++◌, filter, map, Option, Some, None, is_some, refl, sym, ap, subst, ◌∙◌}
use Rattle.std.specs.List.{flat_map, list_any, AllByRecursion}
use Rattle.std.specs.Option.{option_to_list}
use Rattle.std.specs.Ordering.{eq_by_cmp, nat_cmp}
use Rattle.std.specs.Cmp.Lexicographic.{slice_cmp, nat_list_cmp_total}
use Rattle.std.specs.FinMap.Entries.{same_entries}
use Rattle.std.proofs.lemmas.Bool.{false≢true, or_cases}
use Rattle.std.proofs.lemmas.Grind.{flat_map-append}
use Rattle.std.proofs.lemmas.List.Folds.{list_any-append}
use Rattle.hl_num.specs.Decimal.{negated, units_of}
use Rattle.book.specs.Order.{each_once}
use Rattle.book.specs.Postings.{postings_of}
use Rattle.book.specs.Style.{cost_amount}
use Rattle.book.specs.Sums.{is_nonzero, symbol_in}
use Rattle.book.specs.SumsBefore.{is_assigned}
use Rattle.book.specs.declared.amount.Amount.{Amount}
use Rattle.book.specs.declared.amount.Assertion.{Assertion}
use Rattle.book.specs.declared.amount.Cost.{Cost}
use Rattle.book.specs.declared.amount.Cost.TheVariants as costs
use Rattle.book.specs.declared.transaction.Posting.{Posting}
use Rattle.book.specs.declared.transaction.Side.{Side}
use Rattle.book.specs.declared.transaction.Txn.{Txn}
use Rattle.book.proofs.Entries.{text_ties}
use Rattle.book.proofs.Order.{contains-each_once, find-made, sorted-each_once}
use Rattle.balancing.specs.Solves.{AreMade, AreMadeTxns, IsMadeBy, Solves}
use Rattle.entry_balance.specs.Entry.{found_posting, found_values, from_amount, is_nothing, needed, or_nothing, plain_amount, recorded_cost, same_side, settled, share_of, side_values, solved, solved_posting}
use Rattle.entry_balance.specs.Tally.{sums_of, symbols_in as names_in, total_of}
use Rattle.entry_balance.specs.Values.{Value, at_cost}
use Rattle.placed_sums.specs.Accounts.{HasSymbols, is_moved, symbol_moved}
use Rattle.reached_walk.specs.Asks.{Has}
use Rattle.reached_walk.proofs.Lists.{any-here, any-later, any-left, any-right, has-map}
use Rattle.moved_lines.proofs.Lists.{map-both}
use Rattle.book_laws.specs.Writing.{symbols_at, symbols_in, symbols_written}
use Rattle.book_laws.proofs.Wants.{Wants, costed_amount, made_wants}

abbrev is_text : List ℕ → List ℕ → Bool
is_text q s = eq_by_cmp (slice_cmp nat_cmp) q s

abbrev name_of : Value → List ℕ
name_of v = v.0

abbrev symbols_moved : Posting → List (List ℕ)
symbols_moved p = symbol_moved p.amount

-- ---- what a posting writes, by its parts

abbrev cost_symbol : Option Cost → List (List ℕ)
cost_symbol None = []
cost_symbol (Some c) = (cost_amount c).symbol ∷ []

abbrev wanted_symbol : Option Assertion → List (List ℕ)
wanted_symbol None = []
wanted_symbol (Some w) = w.amount.symbol ∷ []

-- the symbols of its amount and of its cost
abbrev priced : Posting → List (List ℕ)
priced p = symbol_in p.amount ++ cost_symbol p.cost

abbrev written : Posting → List (List ℕ)
written p = symbol_in p.amount ++ (cost_symbol p.cost ++ wanted_symbol p.wanted)

parts_of : (o : Option Amount) (c : Option Cost) (w : Option Assertion)
    → map (λ (a : Amount). a.symbol) (option_to_list o ++ (map cost_amount (option_to_list c) ++ map (λ (x : Assertion). x.amount) (option_to_list w)))
    ≡ symbol_in o ++ (cost_symbol c ++ wanted_symbol w)
parts_of None None None = refl
parts_of None None (Some w) = refl
parts_of None (Some c) None = refl
parts_of None (Some c) (Some w) = refl
parts_of (Some a) None None = refl
parts_of (Some a) None (Some w) = refl
parts_of (Some a) (Some c) None = refl
parts_of (Some a) (Some c) (Some w) = refl

by_parts : (p : Posting) → symbols_in p ≡ written p
by_parts p = parts_of p.amount p.cost p.wanted

-- an assigned amount has the symbol that is wanted
abbrev OfIt : Amount → Assertion → Type 0
OfIt a x = a.symbol ≡ x.amount.symbol

abbrev WantsOwn : Posting → Type 0
WantsOwn p = Wants OfIt p

-- ---- of one symbol

module _ (q : List ℕ) where
  abbrev among : List (List ℕ) → Bool
  among xs = list_any (is_text q) xs

  -- ---- lists of lists

  has_flat : {X : Type 0} (f : X → List (List ℕ)) (xs : List X) → Has (λ x. among (f x) ≡ true) xs → among (flat_map f xs) ≡ true
  has_flat f [] h = absurd h
  has_flat f (x ∷ xs) (inl h) = any-left (is_text q) (f x) (flat_map f xs) h
  has_flat f (x ∷ xs) (inr h) = any-right (is_text q) (f x) (flat_map f xs) (has_flat f xs h)

  moved_has : (g : Posting → List Posting) (ms : List Posting) → is_moved q (flat_map g ms) ≡ true → Has (λ m. is_moved q (g m) ≡ true) ms
  moved_has g [] h = absurd (false≢true h)
  moved_has g (m ∷ ms) h =
      let split : among (flat_map symbols_moved (g m ++ flat_map g ms)) ≡ (is_moved q (g m) || is_moved q (flat_map g ms)) =
      ap among (flat_map-append symbols_moved (g m) (flat_map g ms)) ∙ list_any-append (is_text q) (flat_map symbols_moved (g m)) (flat_map symbols_moved (flat_map g ms)) in
      elim (or_cases (is_moved q (g m)) (is_moved q (flat_map g ms)) (sym split ∙ h)) as (λ _. Has (λ m. is_moved q (g m) ≡ true) (m ∷ ms)) [
        | inl e ↦ inl e
        | inr e ↦ inr (moved_has g ms e)
      ]

  names_has : (f : Posting → List Value) (ps : List Posting) → among (map name_of (flat_map f ps)) ≡ true → Has (λ p. among (map name_of (f p)) ≡ true) ps
  names_has f [] h = absurd (false≢true h)
  names_has f (p ∷ ps) h =
      let split : among (map name_of (f p ++ flat_map f ps)) ≡ (among (map name_of (f p)) || among (map name_of (flat_map f ps))) =
      ap among (map-both name_of (f p) (flat_map f ps)) ∙ list_any-append (is_text q) (map name_of (f p)) (map name_of (flat_map f ps)) in
      elim (or_cases (among (map name_of (f p))) (among (map name_of (flat_map f ps))) (sym split ∙ h)) as (λ _. Has (λ p. among (map name_of (f p)) ≡ true) (p ∷ ps)) [
        | inl e ↦ inl e
        | inr e ↦ inr (names_has f ps e)
      ]

  -- ---- what balancing finds for a missing amount

  abbrev IsOfIt : Value → Type 0
  IsOfIt v = is_text q v.0 ≡ true

  abbrev IsFound : Value → Type 0
  IsFound v = (is_text q v.0 ≡ true) × (is_nonzero (units_of v.1) ≡ true)

  found_has : (m : Posting) (vs : List Value) → is_moved q (map (found_posting m) vs) ≡ true → Has IsFound vs
  found_has m [] h = absurd (false≢true h)
  found_has m (v ∷ vs) h =
      elim (is_nonzero (units_of v.1)) as (λ n. is_nonzero (units_of v.1) ≡ n → among (cond n (v.0 ∷ []) [] ++ flat_map symbols_moved (map (found_posting m) vs)) ≡ true → Has IsFound (v ∷ vs)) [
        | true ↦ λ e k.
            elim (or_cases (is_text q v.0) (is_moved q (map (found_posting m) vs)) k) as (λ _. Has IsFound (v ∷ vs)) [
              | inl here ↦ inl (here, e)
              | inr rest ↦ inr (found_has m vs rest)
            ]
        | false ↦ λ e k. inr (found_has m vs k)
      ] refl h

  -- one that makes up for nothing moves nothing
  not_nothing : (xs : List Value) → Has IsFound (or_nothing xs) → Has IsFound xs
  not_nothing [] (inl h) = absurd (false≢true h.1)
  not_nothing [] (inr h) = absurd h
  not_nothing (x ∷ xs) h = h

  first_needed : (s : Value) (sums : List Value) → (Has IsFound (needed sums) → Has IsOfIt sums) → Has IsFound ((s.0, negated s.1) ∷ needed sums) → Has IsOfIt (s ∷ sums)
  first_needed s sums rest (inl e) = inl e.0
  first_needed s sums rest (inr e) = inr (rest e)

  needed_has : (sums : List Value) → Has IsFound (needed sums) → Has IsOfIt sums
  needed_has [] h = absurd h
  needed_has (s ∷ sums) h =
      elim (not (is_nothing s.1)) as (λ b. Has IsFound (map (λ (sum : Value). (sum.0, negated sum.1)) (cond b (s ∷ filter (λ (sum : Value). not (is_nothing sum.1)) sums) (filter (λ (sum : Value). not (is_nothing sum.1)) sums))) → Has IsOfIt (s ∷ sums)) [
        | true ↦ λ k. first_needed s sums (needed_has sums) k
        | false ↦ λ k. inr (needed_has sums k)
      ] h

  sums_has : (values : List Value) (symbols : List (List ℕ)) → Has IsOfIt (map (λ (s : List ℕ). (s, total_of s values)) symbols) → among symbols ≡ true
  sums_has values [] h = absurd h
  sums_has values (s ∷ symbols) (inl h) = any-here (is_text q) s symbols h
  sums_has values (s ∷ symbols) (inr h) = any-later (is_text q) s symbols (sums_has values symbols h)

  names_of : (values : List Value) → Has IsOfIt (sums_of values) → among (map name_of values) ≡ true
  names_of values h = sym (contains-each_once text_ties (map name_of values) q) ∙ sums_has values (names_in values) h

  share_has : (side : Side) (p : Posting) → among (map name_of (share_of side p)) ≡ true → among (priced p) ≡ true
  share_has side p h = by (same_side side p.side) p.amount p.cost h
    where
      by : (b : Bool) (o : Option Amount) (c : Option Cost) → among (map name_of (cond b (from_amount (λ a. at_cost a c ∷ []) o) [])) ≡ true → among (symbol_in o ++ cost_symbol c) ≡ true
      by false o c k = absurd (false≢true k)
      by true None c k = absurd (false≢true k)
      by true (Some a) None k = k
      by true (Some a) (Some (costs.Unit u)) k = any-right (is_text q) (a.symbol ∷ []) (u.symbol ∷ []) k
      by true (Some a) (Some (costs.Total t)) k = any-right (is_text q) (a.symbol ∷ []) (t.symbol ∷ []) k

  -- ---- of one transaction

  own_moved : (a : Amount) → among (symbol_moved (Some a) ++ []) ≡ true → among (symbol_in (Some a)) ≡ true
  own_moved a k =
      elim (is_nonzero (units_of a.value)) as (λ n. among (cond n (a.symbol ∷ []) [] ++ []) ≡ true → among (a.symbol ∷ []) ≡ true) [
        | true ↦ λ e. e
        | false ↦ λ e. absurd (false≢true e)
      ] k

  posting_has : (all : List Posting) (m : Posting) → is_moved q (solved_posting all m m.amount) ≡ true → (among (priced m) ≡ true) ⊎ Has (λ p. among (priced p) ≡ true) all
  posting_has all m h = by m.amount refl h
    where
      by : (o : Option Amount) → m.amount ≡ o → is_moved q (solved_posting all m o) ≡ true → (among (priced m) ≡ true) ⊎ Has (λ p. among (priced p) ≡ true) all
      by (Some a) e k =
          inl (any-left (is_text q) (symbol_in m.amount) (cost_symbol m.cost)
          (ap (λ (o : Option Amount). among (symbol_in o)) e
          ∙ own_moved a (ap (λ (o : Option Amount). among (symbol_moved o ++ [])) (sym (costed_amount (recorded_cost all) m ∙ e)) ∙ k)))
      by None e k =
          inr (has-map (λ p. among (map name_of (share_of m.side p)) ≡ true) (λ p. among (priced p) ≡ true) (λ p. share_has m.side p) all
          (names_has (share_of m.side) all
          (names_of (side_values m.side all) (needed_has (sums_of (side_values m.side all)) (not_nothing (needed (sums_of (side_values m.side all))) (found_has m (found_values m.side all) k))))))

  any_of : (all ms : List Posting) → Has (λ m. is_moved q (solved_posting all m m.amount) ≡ true) ms → Has (λ p. among (priced p) ≡ true) ms ⊎ Has (λ p. among (priced p) ≡ true) all
  any_of all [] h = absurd h
  any_of all (m ∷ ms) (inl h) =
      elim (posting_has all m h) as (λ _. Has (λ p. among (priced p) ≡ true) (m ∷ ms) ⊎ Has (λ p. among (priced p) ≡ true) all) [
        | inl e ↦ inl (inl e)
        | inr e ↦ inr e
      ]
  any_of all (m ∷ ms) (inr h) =
      elim (any_of all ms h) as (λ _. Has (λ p. among (priced p) ≡ true) (m ∷ ms) ⊎ Has (λ p. among (priced p) ≡ true) all) [
        | inl e ↦ inl (inr e)
        | inr e ↦ inr e
      ]

  solved_has : (ms : List Posting) → is_moved q (solved ms) ≡ true → Has (λ p. among (priced p) ≡ true) ms
  solved_has ms h =
      elim (any_of ms ms (moved_has (λ (p : Posting). solved_posting ms p p.amount) ms h)) as (λ _. Has (λ p. among (priced p) ≡ true) ms) [
        | inl e ↦ e
        | inr e ↦ e
      ]

  -- ---- as it is written

  priced_written : (w : Posting) → among (priced w) ≡ true → among (written w) ≡ true
  priced_written w h =
      elim (or_cases (among (symbol_in w.amount)) (among (cost_symbol w.cost)) (sym (list_any-append (is_text q) (symbol_in w.amount) (cost_symbol w.cost)) ∙ h)) as (λ _. among (written w) ≡ true) [
        | inl one ↦ any-left (is_text q) (symbol_in w.amount) (cost_symbol w.cost ++ wanted_symbol w.wanted) one
        | inr two ↦ any-right (is_text q) (symbol_in w.amount) (cost_symbol w.cost ++ wanted_symbol w.wanted) (any-left (is_text q) (cost_symbol w.cost) (wanted_symbol w.wanted) two)
      ]

  wanted_written : (w : Posting) (x : Assertion) → w.wanted ≡ Some x → is_text q x.amount.symbol ≡ true → among (written w) ≡ true
  wanted_written w x f h =
      any-right (is_text q) (symbol_in w.amount) (cost_symbol w.cost ++ wanted_symbol w.wanted)
      (any-right (is_text q) (cost_symbol w.cost) (wanted_symbol w.wanted)
      (ap (λ (o : Option Assertion). among (wanted_symbol o)) f ∙ any-here (is_text q) x.amount.symbol [] h))

  only_one : (s : List ℕ) → among (s ∷ []) ≡ true → is_text q s ≡ true
  only_one s h =
      elim (or_cases (is_text q s) false h) as (λ _. is_text q s ≡ true) [
        | inl e ↦ e
        | inr e ↦ absurd (false≢true e)
      ]

  written_has : (w m : Posting) → IsMadeBy w.amount w.wanted w m → WantsOwn m → among (priced m) ≡ true → among (written w) ≡ true
  written_has w m made own h = by w.amount w.wanted refl made
    where
      same : m ≡ w → among (written w) ≡ true
      same e = priced_written w (subst (λ (p : Posting). among (priced p) ≡ true) e h)

      by : (o : Option Amount) (x : Option Assertion) → w.wanted ≡ x → IsMadeBy o x w m → among (written w) ≡ true
      by (Some a) x f k = same k
      by None None f k = same k
      by None (Some x) f k =
          let mine : is_assigned m ≡ true = ap is_assigned k.1 ∙ ap is_some f in
          let of_x : k.0.0 ≡ x.amount.symbol = own mine (plain_amount k.0) (ap (λ (p : Posting). p.amount) k.1) x (ap (λ (p : Posting). p.wanted) k.1 ∙ f) in
          let here : among (k.0.0 ∷ []) ≡ true = subst (λ (p : Posting). among (priced p) ≡ true) k.1 h in
          wanted_written w x f (subst (λ (s : List ℕ). is_text q s ≡ true) of_x (only_one k.0.0 here))

  made_has : (ws ms : List Posting) → AreMade ws ms → AllByRecursion WantsOwn ms → Has (λ p. among (priced p) ≡ true) ms → Has (λ w. among (written w) ≡ true) ws
  made_has [] [] k own h = absurd h
  made_has [] (m ∷ ms) k own h = absurd k
  made_has (w ∷ ws) [] k own h = absurd k
  made_has (w ∷ ws) (m ∷ ms) k own (inl h) = inl (written_has w m k.0 own.0 h)
  made_has (w ∷ ws) (m ∷ ms) k own (inr h) = inr (made_has ws ms k.1 own.1 h)

  -- the symbols of one transaction and of those behind it
  both_written : (ws : List Posting) (text : List Txn) → (among (flat_map written ws) ≡ true) ⊎ (among (flat_map written (postings_of text)) ≡ true)
      → among (flat_map written (ws ++ postings_of text)) ≡ true
  both_written ws text (inl e) = ap among (flat_map-append written ws (postings_of text)) ∙ any-left (is_text q) (flat_map written ws) (flat_map written (postings_of text)) e
  both_written ws text (inr e) = ap among (flat_map-append written ws (postings_of text)) ∙ any-right (is_text q) (flat_map written ws) (flat_map written (postings_of text)) e

  text_has : (ws ms : List Txn) → AreMadeTxns ws ms → AllByRecursion (λ (m : Txn). AllByRecursion WantsOwn m.postings) ms → is_moved q (postings_of (map settled ms)) ≡ true → among (flat_map written (postings_of ws)) ≡ true
  text_has [] [] k own h = absurd (false≢true h)
  text_has [] (m ∷ ms) k own h = absurd k
  text_has (w ∷ ws) [] k own h = absurd k
  text_has (w ∷ ws) (m ∷ ms) k own h =
      let more : List Posting = postings_of (map settled ms) in
      let split : among (flat_map symbols_moved (solved m.postings ++ more)) ≡ (is_moved q (solved m.postings) || is_moved q more) =
      ap among (flat_map-append symbols_moved (solved m.postings) more) ∙ list_any-append (is_text q) (flat_map symbols_moved (solved m.postings)) (flat_map symbols_moved more) in
      both_written w.postings ws
      (elim (or_cases (is_moved q (solved m.postings)) (is_moved q more) (sym split ∙ h)) as (λ _. (among (flat_map written w.postings) ≡ true) ⊎ (among (flat_map written (postings_of ws)) ≡ true)) [
        | inl e ↦ inl (has_flat written w.postings (made_has w.postings m.postings k.0.postings own.0 (solved_has m.postings e)))
        | inr e ↦ inr (text_has ws ms k.1 own.1 e)
      ])

-- ---- the law

flat_equal : (ps : List Posting) → flat_map symbols_in ps ≡ flat_map written ps
flat_equal [] = refl
flat_equal (p ∷ ps) = λ i. by_parts p i ++ flat_equal ps i

pub written_in : (text book : List Txn) (q : List ℕ) → Solves text book → is_moved q (postings_of book) ≡ true → list_any (eq_by_cmp (slice_cmp nat_cmp) q) (symbols_at text) ≡ true
written_in text book q s h =
    ap (λ (xs : List (List ℕ)). list_any (is_text q) xs) (flat_equal (postings_of text))
    ∙ text_has q text s.made s.kept (made_wants OfIt text book (λ e x. refl) s) (subst (λ (b : List Txn). is_moved q (postings_of b) ≡ true) s.found h)

-- ---- symbols among which all of a book's are

unit : List ℕ → ℤ
unit s = pos 0

abbrev made_of : List (List ℕ) → List (List ℕ × ℤ)
made_of xs = map (λ (s : List ℕ). (s, unit s)) xs

names_back : (xs : List (List ℕ)) → map (λ (e : List ℕ × ℤ). e.0) (made_of xs) ≡ xs
names_back [] = refl
names_back (x ∷ xs) = ap (λ (ys : List (List ℕ)). x ∷ ys) (names_back xs)

-- what is in order stays so
pub each_again : (named : List (List ℕ)) → each_once (slice_cmp nat_cmp) named ≡ each_once (slice_cmp nat_cmp) (each_once (slice_cmp nat_cmp) named)
each_again named =
    let ks : List (List ℕ) = each_once (slice_cmp nat_cmp) named in
    let alike : made_of ks ≡ made_of (each_once (slice_cmp nat_cmp) ks) =
    same_entries (slice_cmp nat_cmp) nat_list_cmp_total text_ties (made_of ks) (made_of (each_once (slice_cmp nat_cmp) ks))
    (sorted-each_once text_ties unit nat_list_cmp_total named) (sorted-each_once text_ties unit nat_list_cmp_total ks)
    (λ s. find-made text_ties unit ks s
    ∙ ap (λ (b : Bool). cond b (Some (unit s)) None) (sym (contains-each_once text_ties ks s))
    ∙ sym (find-made text_ties unit (each_once (slice_cmp nat_cmp) ks) s)) in
    sym (names_back ks) ∙ ap (map (λ (e : List ℕ × ℤ). e.0)) alike ∙ names_back (each_once (slice_cmp nat_cmp) ks)

-- whatever symbols are gathered, if all that a text writes are among them
serves : (text book : List Txn) (symbols : List (List ℕ)) → ((q : List ℕ) → list_any (is_text q) (symbols_at text) ≡ true → list_any (is_text q) symbols ≡ true)
    → Solves text book → HasSymbols (each_once (slice_cmp nat_cmp) symbols) book
serves text book symbols f s = record {
  ordered = each_again symbols;
  all = λ q moved. contains-each_once text_ties symbols q ∙ f q (written_in text book q s moved);
}

pub own_symbols : (text book : List Txn) → Solves text book → HasSymbols (symbols_written text) book
own_symbols text book s = serves text book (symbols_at text) (λ q h. h) s

pub at_both : (one two : List Txn) → symbols_at (one ++ two) ≡ symbols_at one ++ symbols_at two
at_both one two = ap (flat_map symbols_in) (flat_map-append (λ (t : Txn). t.postings) one two) ∙ flat_map-append symbols_in (postings_of one) (postings_of two)

-- those that it writes with others behind it
pub symbols_before : (text more book : List Txn) → Solves text book → HasSymbols (symbols_written (text ++ more)) book
symbols_before text more book s =
    serves text book (symbols_at (text ++ more))
    (λ q h. ap (λ (xs : List (List ℕ)). list_any (is_text q) xs) (at_both text more) ∙ any-left (is_text q) (symbols_at text) (symbols_at more) h) s

-- and behind others
pub symbols_behind : (text more book : List Txn) → Solves text book → HasSymbols (symbols_written (more ++ text)) book
symbols_behind text more book s =
    serves text book (symbols_at (more ++ text))
    (λ q h. ap (λ (xs : List (List ℕ)). list_any (is_text q) xs) (at_both more text) ∙ any-right (is_text q) (symbols_at more) (symbols_at text) h) s
