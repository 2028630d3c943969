-- The least other symbol whose sum isn't zero, sought among the symbols of a whole book.
use Rattle.std.proofs.Common.{◌≡◌, ℕ, ℤ, pos, ◌+ℤ◌, Bool, true, false, ◌&&◌, ◌||◌, cond, not, T, List, [], ◌∷◌, ◌++◌, map, filter, Option, Some, None, refl, sym, ap, ◌∙◌, arith}
use Rattle.std.specs.List.{flat_map, find, list_any}
use Rattle.std.specs.Option.{option_map}
use Rattle.std.specs.Ordering.{nat_cmp, eq_by_cmp}
use Rattle.std.specs.Cmp.Lexicographic.{slice_cmp, nat_list_cmp_total}
use Rattle.std.specs.FinMap.Entries.{same_entries}
use Rattle.std.specs.FinMap.Entries as entries
use Rattle.std.specs.Str.{bytes_eq}
use Rattle.std.proofs.lemmas.Bool.{false≢true}
use Rattle.std.proofs.lemmas.Int.{ints}
use Rattle.hl_num.specs.Decimal.{units_of}
use Rattle.book.specs.Postings.{postings_of}
use Rattle.book.specs.Sums.{is_nonzero, mixed_of, share, sum_of, symbol_in, symbols_of}
use Rattle.book.specs.SumsBefore.{Place, is_before, is_of, other_before, placed_from, postings_before, sum_before}
use Rattle.book.specs.declared.amount.Amount.{Amount}
use Rattle.book.specs.declared.transaction.Posting.{Posting}
use Rattle.book.specs.declared.transaction.Txn.{Txn}
use Rattle.book.proofs.Entries.{text_ties, tie-bytes_eq}
use Rattle.book.proofs.Order.{contains-each_once, find-passing, passing, sorted-each_once, sorted-filter}
use Rattle.balancing.proofs.SolvingBook.{text_names}
use Rattle.placed_checks.proofs.Elsewhere.{Entry}

abbrev Named : Type 0
Named = List ℕ × ℤ

abbrev pub is_text : List ℕ → List ℕ → Bool
is_text q s = eq_by_cmp (slice_cmp nat_cmp) q s

-- a symbol is among those of some postings
abbrev pub is_there : List ℕ → List Posting → Bool
is_there q ps = list_any (is_text q) (flat_map (λ p. symbol_in p.amount) ps)

-- ---- a symbol that isn't there has no sum

or_first : (a b : Bool) → (a || b) ≡ false → a ≡ false
or_first true b h = h
or_first false b h = refl

or_second : (a b : Bool) → (a || b) ≡ false → b ≡ false
or_second true b h = absurd (false≢true (sym h))
or_second false b h = h

no_more : (x : ℤ) → x ≡ pos 0 → pos 0 +ℤ x ≡ pos 0
no_more x h = omega (arith, ints, h)

none_there : (q : List ℕ) (ps : List Posting) → is_there q ps ≡ false → sum_of q ps ≡ pos 0
none_there q [] h = refl
none_there q (p ∷ ps) h = by p.amount (none_there q ps) h
  where
    by : (o : Option Amount) → (is_there q ps ≡ false → sum_of q ps ≡ pos 0) → list_any (is_text q) (symbol_in o ++ flat_map (λ p. symbol_in p.amount) ps) ≡ false → share q o +ℤ sum_of q ps ≡ pos 0
    by None rest e = no_more (sum_of q ps) (rest e)
    by (Some a) rest e =
        let apart : bytes_eq a.symbol q ≡ false = sym (tie-bytes_eq q a.symbol) ∙ or_first (is_text q a.symbol) (is_there q ps) e in
        ap (λ (b : Bool). cond b (units_of a.value) (pos 0) +ℤ sum_of q ps) apart
        ∙ no_more (sum_of q ps) (rest (or_second (is_text q a.symbol) (is_there q ps) e))

-- ---- a part of some postings has no other symbols

or_right : (a b : Bool) → b ≡ true → (a || b) ≡ true
or_right true b h = refl
or_right false b h = h

or_more : (a b c : Bool) → (b ≡ true → c ≡ true) → (a || b) ≡ true → (a || c) ≡ true
or_more true b c f h = refl
or_more false b c f h = f h

any_behind : (q : List ℕ) (xs ys : List (List ℕ)) → list_any (is_text q) ys ≡ true → list_any (is_text q) (xs ++ ys) ≡ true
any_behind q [] ys h = h
any_behind q (x ∷ xs) ys h = or_right (is_text q x) (list_any (is_text q) (xs ++ ys)) (any_behind q xs ys h)

any_both : (q : List ℕ) (xs ys zs : List (List ℕ)) → (list_any (is_text q) ys ≡ true → list_any (is_text q) zs ≡ true) → list_any (is_text q) (xs ++ ys) ≡ true → list_any (is_text q) (xs ++ zs) ≡ true
any_both q [] ys zs f h = f h
any_both q (x ∷ xs) ys zs f h = or_more (is_text q x) (list_any (is_text q) (xs ++ ys)) (list_any (is_text q) (xs ++ zs)) (any_both q xs ys zs f) h

part_there : (q : List ℕ) (test : Entry → Bool) (es : List Entry) → is_there q (map (λ (e : Entry). e.1) (filter test es)) ≡ true → is_there q (map (λ (e : Entry). e.1) es) ≡ true
part_there q test [] h = h
part_there q test (e ∷ es) h =
    elim (test e) as (λ b. is_there q (map (λ (e : Entry). e.1) (cond b (e ∷ filter test es) (filter test es))) ≡ true → is_there q (map (λ (e : Entry). e.1) (e ∷ es)) ≡ true) [
      | true ↦ λ k. any_both q (symbol_in e.1.amount) (flat_map (λ p. symbol_in p.amount) (map (λ (e : Entry). e.1) (filter test es))) (flat_map (λ p. symbol_in p.amount) (map (λ (e : Entry). e.1) es)) (part_there q test es) k
      | false ↦ λ k. any_behind q (symbol_in e.1.amount) (flat_map (λ p. symbol_in p.amount) (map (λ (e : Entry). e.1) es)) (part_there q test es k)
    ] h

-- ---- the sums of a part, by the symbols of all

abbrev sums_by : (List ℕ → ℤ) → List (List ℕ) → List Named
sums_by g ks = filter (λ (sum : Named). is_nonzero sum.1) (map (λ s. (s, g s)) ks)

none_of_both : (a b : Bool) (v : Option ℤ) → (b ≡ true → a ≡ true) → (b ≡ false → v ≡ None) → cond a v None ≡ cond b v None
none_of_both true true v f h = refl
none_of_both true false v f h = h refl
none_of_both false true v f h = absurd (false≢true (f refl))
none_of_both false false v f h = refl

module _ (all part : List Posting) (within : (q : List ℕ) → is_there q part ≡ true → is_there q all ≡ true) where
  abbrev g : List ℕ → ℤ
  g s = sum_of s part

  found_in : (ps : List Posting) (q : List ℕ) → entries.find (slice_cmp nat_cmp) q (sums_by g (symbols_of ps)) ≡ cond (is_there q ps) (passing is_nonzero (g q)) None
  found_in ps q =
      find-passing text_ties g is_nonzero (symbols_of ps) q
      ∙ ap (λ (b : Bool). cond b (passing is_nonzero (g q)) None) (contains-each_once text_ties (flat_map (λ p. symbol_in p.amount) ps) q)

  sorted : (ps : List Posting) → T (entries.is_sorted (slice_cmp nat_cmp) (sums_by g (symbols_of ps)))
  sorted ps =
      sorted-filter (slice_cmp nat_cmp) (λ (sum : Named). is_nonzero sum.1) (map (λ s. (s, g s)) (symbols_of ps))
      (sorted-each_once text_ties g nat_list_cmp_total (flat_map (λ p. symbol_in p.amount) ps))

  found_alike : (q : List ℕ) → entries.find (slice_cmp nat_cmp) q (sums_by g (symbols_of all)) ≡ entries.find (slice_cmp nat_cmp) q (sums_by g (symbols_of part))
  found_alike q =
      found_in all q
      ∙ none_of_both (is_there q all) (is_there q part) (passing is_nonzero (g q)) (within q) (λ none. ap (passing is_nonzero) (none_there q part none))
      ∙ sym (found_in part q)

  pub same_sums : sums_by g (symbols_of all) ≡ mixed_of part
  same_sums = same_entries (slice_cmp nat_cmp) nat_list_cmp_total text_ties (sums_by g (symbols_of all)) (sums_by g (symbols_of part)) (sorted all) (sorted part) found_alike

-- ---- the first of them that is of another symbol

-- another symbol than one, whose sum isn't zero
abbrev is_beside : List ℕ → (List ℕ → ℤ) → List ℕ → Bool
is_beside symbol sum other = not (bytes_eq other symbol) && is_nonzero (sum other)

-- the first such one of some symbols
abbrev pub first_beside : List ℕ → (List ℕ → ℤ) → List (List ℕ) → Option (List ℕ)
first_beside symbol sum [] = None
first_beside symbol sum (other ∷ others) = cond (is_beside symbol sum other) (Some other) (first_beside symbol sum others)

abbrev name_of : Option Named → Option (List ℕ)
name_of o = option_map (λ sum. sum.0) o

pick : (symbol k : List ℕ) (z : ℤ) (rest : List Named) (out : Option (List ℕ)) (same n : Bool) → bytes_eq k symbol ≡ same → name_of (find (λ (sum : Named). not (bytes_eq sum.0 symbol)) rest) ≡ out → name_of (find (λ (sum : Named). not (bytes_eq sum.0 symbol)) (cond n ((k, z) ∷ rest) rest)) ≡ cond (not same && n) (Some k) out
pick symbol k z rest out true true e h = ap (λ (b : Bool). name_of (cond (not b) (Some (k, z)) (find (λ (sum : Named). not (bytes_eq sum.0 symbol)) rest))) e ∙ h
pick symbol k z rest out false true e h = ap (λ (b : Bool). name_of (cond (not b) (Some (k, z)) (find (λ (sum : Named). not (bytes_eq sum.0 symbol)) rest))) e
pick symbol k z rest out true false e h = h
pick symbol k z rest out false false e h = h

first_is : (symbol : List ℕ) (g : List ℕ → ℤ) (ks : List (List ℕ)) → name_of (find (λ (sum : Named). not (bytes_eq sum.0 symbol)) (sums_by g ks)) ≡ first_beside symbol g ks
first_is symbol g [] = refl
first_is symbol g (k ∷ ks) = pick symbol k (g k) (sums_by g ks) (first_beside symbol g ks) (bytes_eq k symbol) (is_nonzero (g k)) refl (first_is symbol g ks)

-- sums that are the same in every other symbol
pub first_same : (symbol : List ℕ) (f g : List ℕ → ℤ) → ((s : List ℕ) → bytes_eq s symbol ≡ false → f s ≡ g s) → (ks : List (List ℕ)) → first_beside symbol f ks ≡ first_beside symbol g ks
first_same symbol f g h [] = refl
first_same symbol f g h (k ∷ ks) =
    let rest = first_same symbol f g h ks in
    let test = same_test k (bytes_eq k symbol) refl in
    λ i. cond (test i) (Some k) (rest i)
  where
    same_test : (k : List ℕ) (b : Bool) → bytes_eq k symbol ≡ b → (not b && is_nonzero (f k)) ≡ (not b && is_nonzero (g k))
    same_test k true e = refl
    same_test k false e = ap is_nonzero (h k e)

-- ---- of a book before a place

module _ (book : List Txn) (account : List ℕ) (below : Bool) (place : Place) where
  abbrev part : List Posting
  part = postings_before book account below place

  pub inside : (q : List ℕ) → is_there q part ≡ true → is_there q (postings_of book) ≡ true
  inside q h =
      ap (is_there q) (sym (text_names 0 book)) ∙ part_there q (λ e. is_before e.0 place && is_of account below e.1.account) (placed_from 0 book) h

  -- among the symbols of any postings that have those of this part
  pub other_among : (all : List Posting) → ((q : List ℕ) → is_there q part ≡ true → is_there q all ≡ true) → (symbol : List ℕ) → first_beside symbol (λ s. sum_before book account s below place) (symbols_of all) ≡ other_before book account symbol below place
  other_among all within symbol =
      sym (first_is symbol (λ s. sum_of s part) (symbols_of all))
      ∙ ap (λ (sums : List Named). name_of (find (λ (sum : Named). not (bytes_eq sum.0 symbol)) sums)) (same_sums all part within)

  pub other_is : (symbol : List ℕ) → first_beside symbol (λ s. sum_before book account s below place) (symbols_of (postings_of book)) ≡ other_before book account symbol below place
  other_is symbol = other_among (postings_of book) inside symbol
