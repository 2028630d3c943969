-- The least other symbol whose sum isn't zero, sought among the symbols of a whole book.
use Rattle.std.proofs.Common.{◌≡◌, ℕ, zero, suc, ℤ, pos, ◌+ℤ◌, ◌==◌, unsigned_abs, Bool, true, false, ◌&&◌, ◌||◌, cond, not, T, List, [], ◌∷◌, ◌++◌, map, filter, set, slice_get, Option, Some, None, refl, sym, ap, subst, ◌∙◌, arith}
use Rattle.std.specs.List.{flat_map, find, list_any}
use Rattle.std.specs.Option.{option_map}
use Rattle.std.specs.Ordering.{nat_cmp, eq_by_cmp}
use Rattle.std.specs.Cmp.Lexicographic.{slice_cmp, nat_list_cmp_total}
use Rattle.std.specs.FinMap.Entries.{same_entries}
use Rattle.std.specs.FinMap.Entries as entries
use Rattle.std.specs.Str.{bytes_eq}
use Rattle.std.proofs.lemmas.Bool.{eqb-true, false≢true}
use Rattle.std.proofs.lemmas.Grind.{flat_map-append}
use Rattle.std.proofs.lemmas.Int.{ints}
use Rattle.hl_num.specs.Decimal.{units_of}
use Rattle.book.specs.Order.{each_once}
use Rattle.book.specs.Postings.{postings_of}
use Rattle.book.specs.Sums.{is_nonzero, mixed_of, share, sum_of, symbol_in, symbols_of}
use Rattle.book.specs.SumsBefore.{Place, is_before, is_of, other_before, placed_from, postings_before, sum_before}
use Rattle.book.specs.declared.amount.Amount.{Amount}
use Rattle.book.specs.declared.transaction.Posting.{Posting}
use Rattle.book.specs.declared.transaction.Txn.{Txn}
use Rattle.book.proofs.Entries.{text_ties, tie-bytes_eq}
use Rattle.book.proofs.Order.{contains-each_once, find-made, find-passing, passing, sorted-each_once, sorted-filter}
use Rattle.placed_sums.specs.Accounts.{HasSymbols, first_beside, is_among, is_moved, is_named, symbol_moved}
use Rattle.placed_sums.proofs.Bounding.{text_names}
use Rattle.placed_sums.proofs.Telling.{Entry}

abbrev Named : Type 0
Named = List ℕ × ℤ

abbrev is_text : List ℕ → List ℕ → Bool
is_text q s = eq_by_cmp (slice_cmp nat_cmp) q s

-- ---- a symbol that isn't there has no sum

or_first : (a b : Bool) → (a || b) ≡ false → a ≡ false
or_first true b h = h
or_first false b h = refl

or_second : (a b : Bool) → (a || b) ≡ false → b ≡ false
or_second true b h = absurd (false≢true (sym h))
or_second false b h = h

no_more : (x : ℤ) → x ≡ pos 0 → pos 0 +ℤ x ≡ pos 0
no_more x h = omega (arith, ints, h)

unsigned_zero : (z : ℤ) → unsigned_abs z ≡ 0 → z ≡ pos 0
unsigned_zero z h = omega (arith, ints, h)

zero_is : (z : ℤ) → is_nonzero z ≡ false → z ≡ pos 0
zero_is z h = unsigned_zero z (eqb-true (unsigned_abs z) 0 (not_off (unsigned_abs z == 0) h))
  where
    not_off : (b : Bool) → not b ≡ false → b ≡ true
    not_off true k = refl
    not_off false k = absurd (false≢true (sym k))

share_zero : (q : List ℕ) (a : Amount) → units_of a.value ≡ pos 0 → share q (Some a) ≡ pos 0
share_zero q a h = same (bytes_eq a.symbol q) (units_of a.value) h
  where
    same : (b : Bool) (z : ℤ) → z ≡ pos 0 → cond b z (pos 0) ≡ pos 0
    same true z k = k
    same false z k = refl

none_there : (q : List ℕ) (ps : List Posting) → is_moved q ps ≡ false → sum_of q ps ≡ pos 0
none_there q [] h = refl
none_there q (p ∷ ps) h = by p.amount (none_there q ps) h
  where
    by : (o : Option Amount) → (is_moved q ps ≡ false → sum_of q ps ≡ pos 0) → list_any (is_text q) (symbol_moved o ++ flat_map (λ p. symbol_moved p.amount) ps) ≡ false → share q o +ℤ sum_of q ps ≡ pos 0
    by None rest e = no_more (sum_of q ps) (rest e)
    by (Some a) rest e =
        elim (is_nonzero (units_of a.value)) as (λ n. is_nonzero (units_of a.value) ≡ n → list_any (is_text q) (cond n (a.symbol ∷ []) [] ++ flat_map (λ p. symbol_moved p.amount) ps) ≡ false → share q (Some a) +ℤ sum_of q ps ≡ pos 0) [
          | true ↦ λ n k.
              let apart : bytes_eq a.symbol q ≡ false = sym (tie-bytes_eq q a.symbol) ∙ or_first (is_text q a.symbol) (is_moved q ps) k in
              ap (λ (b : Bool). cond b (units_of a.value) (pos 0) +ℤ sum_of q ps) apart
              ∙ no_more (sum_of q ps) (rest (or_second (is_text q a.symbol) (is_moved q ps) k))
          | false ↦ λ n k.
              ap (λ (z : ℤ). z +ℤ sum_of q ps) (share_zero q a (zero_is (units_of a.value) n))
              ∙ no_more (sum_of q ps) (rest k)
        ] refl e

-- ---- a part of some postings has no other symbols

or_right : (a b : Bool) → b ≡ true → (a || b) ≡ true
or_right true b h = refl
or_right false b h = h

or_more : (a b c : Bool) → (b ≡ true → c ≡ true) → (a || b) ≡ true → (a || c) ≡ true
or_more true b c f h = refl
or_more false b c f h = f h

any_behind : (q : List ℕ) (xs ys : List (List ℕ)) → list_any (is_text q) ys ≡ true → list_any (is_text q) (xs ++ ys) ≡ true
any_behind q [] ys h = h
any_behind q (x ∷ xs) ys h = or_right (is_text q x) (list_any (is_text q) (xs ++ ys)) (any_behind q xs ys h)

any_both : (q : List ℕ) (xs ys zs : List (List ℕ)) → (list_any (is_text q) ys ≡ true → list_any (is_text q) zs ≡ true) → list_any (is_text q) (xs ++ ys) ≡ true → list_any (is_text q) (xs ++ zs) ≡ true
any_both q [] ys zs f h = f h
any_both q (x ∷ xs) ys zs f h = or_more (is_text q x) (list_any (is_text q) (xs ++ ys)) (list_any (is_text q) (xs ++ zs)) (any_both q xs ys zs f) h

part_there : (q : List ℕ) (test : Entry → Bool) (es : List Entry) → is_moved q (map (λ (e : Entry). e.1) (filter test es)) ≡ true → is_moved q (map (λ (e : Entry). e.1) es) ≡ true
part_there q test [] h = h
part_there q test (e ∷ es) h =
    elim (test e) as (λ b. is_moved q (map (λ (e : Entry). e.1) (cond b (e ∷ filter test es) (filter test es))) ≡ true → is_moved q (map (λ (e : Entry). e.1) (e ∷ es)) ≡ true) [
      | true ↦ λ k. any_both q (symbol_moved e.1.amount) (flat_map (λ p. symbol_moved p.amount) (map (λ (e : Entry). e.1) (filter test es))) (flat_map (λ p. symbol_moved p.amount) (map (λ (e : Entry). e.1) es)) (part_there q test es) k
      | false ↦ λ k. any_behind q (symbol_moved e.1.amount) (flat_map (λ p. symbol_moved p.amount) (map (λ (e : Entry). e.1) es)) (part_there q test es k)
    ] h

-- a symbol of an amount that isn't zero is one of an amount
pub moved_named : (q : List ℕ) (ps : List Posting) → is_moved q ps ≡ true → is_named q ps ≡ true
moved_named q [] h = h
moved_named q (p ∷ ps) h = by p.amount (moved_named q ps) h
  where
    by : (o : Option Amount) → (is_moved q ps ≡ true → is_named q ps ≡ true) → list_any (is_text q) (symbol_moved o ++ flat_map (λ p. symbol_moved p.amount) ps) ≡ true → list_any (is_text q) (symbol_in o ++ flat_map (λ p. symbol_in p.amount) ps) ≡ true
    by None rest e = rest e
    by (Some a) rest e =
        elim (is_nonzero (units_of a.value)) as (λ n. list_any (is_text q) (cond n (a.symbol ∷ []) [] ++ flat_map (λ p. symbol_moved p.amount) ps) ≡ true → list_any (is_text q) (a.symbol ∷ flat_map (λ p. symbol_in p.amount) ps) ≡ true) [
          | true ↦ λ k. or_more (is_text q a.symbol) (is_moved q ps) (is_named q ps) rest k
          | false ↦ λ k. or_right (is_text q a.symbol) (is_named q ps) (rest k)
        ] e

-- ---- the sums of a part, by symbols among which are its own

abbrev sums_by : (List ℕ → ℤ) → List (List ℕ) → List Named
sums_by g ks = filter (λ (sum : Named). is_nonzero sum.1) (map (λ s. (s, g s)) ks)

none_of_both : (a b : Bool) (v : Option ℤ) → (b ≡ true → a ≡ true) → (b ≡ false → v ≡ None) → cond a v None ≡ cond b v None
none_of_both true true v f h = refl
none_of_both true false v f h = h refl
none_of_both false true v f h = absurd (false≢true (f refl))
none_of_both false false v f h = refl

module _ (ks : List (List ℕ)) (part : List Posting) (ordered : ks ≡ each_once (slice_cmp nat_cmp) ks) (within : (q : List ℕ) → is_moved q part ≡ true → is_among q ks ≡ true) where
  abbrev g : List ℕ → ℤ
  g s = sum_of s part

  found_in : (q : List ℕ) → entries.find (slice_cmp nat_cmp) q (sums_by g (symbols_of part)) ≡ cond (is_named q part) (passing is_nonzero (g q)) None
  found_in q =
      find-passing text_ties g is_nonzero (symbols_of part) q
      ∙ ap (λ (b : Bool). cond b (passing is_nonzero (g q)) None) (contains-each_once text_ties (flat_map (λ p. symbol_in p.amount) part) q)

  sorted_part : T (entries.is_sorted (slice_cmp nat_cmp) (sums_by g (symbols_of part)))
  sorted_part =
      sorted-filter (slice_cmp nat_cmp) (λ (sum : Named). is_nonzero sum.1) (map (λ s. (s, g s)) (symbols_of part))
      (sorted-each_once text_ties g nat_list_cmp_total (flat_map (λ p. symbol_in p.amount) part))

  sorted_all : T (entries.is_sorted (slice_cmp nat_cmp) (sums_by g ks))
  sorted_all =
      subst (λ (xs : List (List ℕ)). T (entries.is_sorted (slice_cmp nat_cmp) (sums_by g xs))) (sym ordered)
      (sorted-filter (slice_cmp nat_cmp) (λ (sum : Named). is_nonzero sum.1) (map (λ s. (s, g s)) (each_once (slice_cmp nat_cmp) ks))
      (sorted-each_once text_ties g nat_list_cmp_total ks))

  found_alike : (q : List ℕ) → entries.find (slice_cmp nat_cmp) q (sums_by g ks) ≡ entries.find (slice_cmp nat_cmp) q (sums_by g (symbols_of part))
  found_alike q =
      find-passing text_ties g is_nonzero ks q
      ∙ none_of_both (is_among q ks) (is_moved q part) (passing is_nonzero (g q)) (within q) (λ none. ap (passing is_nonzero) (none_there q part none))
      ∙ sym (none_of_both (is_named q part) (is_moved q part) (passing is_nonzero (g q)) (moved_named q part) (λ none. ap (passing is_nonzero) (none_there q part none)))
      ∙ sym (found_in q)

  pub same_sums : sums_by g ks ≡ mixed_of part
  same_sums = same_entries (slice_cmp nat_cmp) nat_list_cmp_total text_ties (sums_by g ks) (sums_by g (symbols_of part)) sorted_all sorted_part found_alike

-- ---- the first of them that is of another symbol

abbrev name_of : Option Named → Option (List ℕ)
name_of o = option_map (λ sum. sum.0) o

pick : (symbol k : List ℕ) (z : ℤ) (rest : List Named) (out : Option (List ℕ)) (same n : Bool) → bytes_eq k symbol ≡ same → name_of (find (λ (sum : Named). not (bytes_eq sum.0 symbol)) rest) ≡ out → name_of (find (λ (sum : Named). not (bytes_eq sum.0 symbol)) (cond n ((k, z) ∷ rest) rest)) ≡ cond (not same && n) (Some k) out
pick symbol k z rest out true true e h = ap (λ (b : Bool). name_of (cond (not b) (Some (k, z)) (find (λ (sum : Named). not (bytes_eq sum.0 symbol)) rest))) e ∙ h
pick symbol k z rest out false true e h = ap (λ (b : Bool). name_of (cond (not b) (Some (k, z)) (find (λ (sum : Named). not (bytes_eq sum.0 symbol)) rest))) e
pick symbol k z rest out true false e h = h
pick symbol k z rest out false false e h = h

first_is : (symbol : List ℕ) (g : List ℕ → ℤ) (ks : List (List ℕ)) → name_of (find (λ (sum : Named). not (bytes_eq sum.0 symbol)) (sums_by g ks)) ≡ first_beside symbol g ks
first_is symbol g [] = refl
first_is symbol g (k ∷ ks) = pick symbol k (g k) (sums_by g ks) (first_beside symbol g ks) (bytes_eq k symbol) (is_nonzero (g k)) refl (first_is symbol g ks)

-- ---- of a book before a place

module _ (book : List Txn) (account : List ℕ) (below : Bool) (place : Place) where
  abbrev some : List Posting
  some = postings_before book account below place

  inside : (q : List ℕ) → is_moved q some ≡ true → is_moved q (postings_of book) ≡ true
  inside q h =
      ap (is_moved q) (sym (text_names 0 book)) ∙ part_there q (λ e. is_before e.0 place && is_of account below e.1.account) (placed_from 0 book) h

  pub other_is : (ks : List (List ℕ)) → HasSymbols ks book → (symbol : List ℕ) → first_beside symbol (λ s. sum_before book account s below place) ks ≡ other_before book account symbol below place
  other_is ks known symbol =
      sym (first_is symbol (λ s. sum_of s some) ks)
      ∙ ap (λ (sums : List Named). name_of (find (λ (sum : Named). not (bytes_eq sum.0 symbol)) sums)) (same_sums ks some known.ordered (λ q h. known.all q (inside q h)))

-- ---- symbols in their order

-- what is in order stays so
ordered_again : (ks named : List (List ℕ)) → ks ≡ each_once (slice_cmp nat_cmp) named → ks ≡ each_once (slice_cmp nat_cmp) ks
ordered_again ks named is =
    let unit : List ℕ → ℤ = λ s. pos 0 in
    let made : List (List ℕ) → List Named = λ xs. map (λ (s : List ℕ). (s, unit s)) xs in
    let first : T (entries.is_sorted (slice_cmp nat_cmp) (made ks)) = subst (λ (xs : List (List ℕ)). T (entries.is_sorted (slice_cmp nat_cmp) (made xs))) (sym is) (sorted-each_once text_ties unit nat_list_cmp_total named) in
    let alike : made ks ≡ made (each_once (slice_cmp nat_cmp) ks) =
    same_entries (slice_cmp nat_cmp) nat_list_cmp_total text_ties (made ks) (made (each_once (slice_cmp nat_cmp) ks)) first (sorted-each_once text_ties unit nat_list_cmp_total ks)
    (λ q. find-made text_ties unit ks q
    ∙ ap (λ (b : Bool). cond b (Some (unit q)) None) (sym (contains-each_once text_ties ks q))
    ∙ sym (find-made text_ties unit (each_once (slice_cmp nat_cmp) ks) q)) in
    sym (names_back ks) ∙ ap (map (λ (e : Named). e.0)) alike ∙ names_back (each_once (slice_cmp nat_cmp) ks)
  where
    names_back : (xs : List (List ℕ)) → map (λ (e : Named). e.0) (map (λ (s : List ℕ). (s, pos 0)) xs) ≡ xs
    names_back [] = refl
    names_back (x ∷ xs) = ap (λ (ys : List (List ℕ)). x ∷ ys) (names_back xs)

-- the symbols of a book's amounts are in their order, and all of them
pub own_symbols : (book : List Txn) → HasSymbols (symbols_of (postings_of book)) book
own_symbols book =
    let named = flat_map (λ p. symbol_in p.amount) (postings_of book) in
    record {
      ordered = ordered_again (each_once (slice_cmp nat_cmp) named) named refl;
      all = λ q h. contains-each_once text_ties named q ∙ moved_named q (postings_of book) h;
    }

either : (a b c : Bool) → (a ≡ true → c ≡ true) → (b ≡ true → c ≡ true) → (a || b) ≡ true → c ≡ true
either true b c f g h = f refl
either false b c f g h = g h

or_assoc : (a b c : Bool) → (a || (b || c)) ≡ ((a || b) || c)
or_assoc true b c = refl
or_assoc false b c = refl

any_append : (q : List ℕ) (xs ys : List (List ℕ)) → list_any (is_text q) (xs ++ ys) ≡ (list_any (is_text q) xs || list_any (is_text q) ys)
any_append q [] ys = refl
any_append q (x ∷ xs) ys = ap (λ (b : Bool). is_text q x || b) (any_append q xs ys) ∙ or_assoc (is_text q x) (list_any (is_text q) xs) (list_any (is_text q) ys)

moved_both : (q : List ℕ) (ps qs : List Posting) → is_moved q (ps ++ qs) ≡ (is_moved q ps || is_moved q qs)
moved_both q ps qs =
    ap (list_any (is_text q)) (flat_map-append (λ (p : Posting). symbol_moved p.amount) ps qs)
    ∙ any_append q (flat_map (λ p. symbol_moved p.amount) ps) (flat_map (λ p. symbol_moved p.amount) qs)

-- a transaction that is put in another's place moves no further symbols than those that some test allows
all_set : (q : List ℕ) (c : Bool) (book : List Txn) (k : ℕ) (new : Txn) → (is_moved q (postings_of book) ≡ true → c ≡ true) → (is_moved q new.postings ≡ true → c ≡ true) → is_moved q (postings_of (set book k new)) ≡ true → c ≡ true
all_set q c [] k new f g h = f h
all_set q c (t ∷ ts) zero new f g h =
    either (is_moved q new.postings) (is_moved q (postings_of ts)) c g (λ e. f (moved_both q t.postings (postings_of ts) ∙ or_right (is_moved q t.postings) (is_moved q (postings_of ts)) e)) (sym (moved_both q new.postings (postings_of ts)) ∙ h)
all_set q c (t ∷ ts) (suc k) new f g h =
    either (is_moved q t.postings) (is_moved q (postings_of (set ts k new))) c
    (λ e. f (moved_both q t.postings (postings_of ts) ∙ ap (λ (b : Bool). b || is_moved q (postings_of ts)) e))
    (all_set q c ts k new (λ e. f (moved_both q t.postings (postings_of ts) ∙ or_right (is_moved q t.postings) (is_moved q (postings_of ts)) e)) g)
    (sym (moved_both q t.postings (postings_of (set ts k new))) ∙ h)

-- more symbols in their order serve the book, and one with more transactions whose symbols they have
pub wider_symbols : (symbols wider : List (List ℕ)) (book more : List Txn) → HasSymbols symbols book → wider ≡ each_once (slice_cmp nat_cmp) (symbols ++ flat_map (λ p. symbol_in p.amount) (postings_of more)) → HasSymbols wider (book ++ more)
wider_symbols symbols wider book more known is =
    let names : List Posting → List (List ℕ) = λ ps. flat_map (λ p. symbol_in p.amount) ps in
    let among : (q : List ℕ) → is_among q wider ≡ (is_among q symbols || is_named q (postings_of more)) = λ q.
    ap (is_among q) is ∙ contains-each_once text_ties (symbols ++ names (postings_of more)) q ∙ any_append q symbols (names (postings_of more)) in
    let moves : (q : List ℕ) → is_moved q (postings_of (book ++ more)) ≡ (is_moved q (postings_of book) || is_moved q (postings_of more)) = λ q.
    ap (is_moved q) (flat_map-append (λ (t : Txn). t.postings) book more) ∙ moved_both q (postings_of book) (postings_of more) in
    record {
      ordered = ordered_again wider (symbols ++ names (postings_of more)) is;
      all = λ q h.
          among q
          ∙ or_either (is_moved q (postings_of book)) (is_named q (postings_of more)) (is_among q symbols) (known.all q)
          (or_more (is_moved q (postings_of book)) (is_moved q (postings_of more)) (is_named q (postings_of more)) (moved_named q (postings_of more)) (sym (moves q) ∙ h));
    }
  where
    or_either : (a b c : Bool) → (a ≡ true → c ≡ true) → (a || b) ≡ true → (c || b) ≡ true
    or_either true b c f h = ap (λ (x : Bool). x || b) (f refl)
    or_either false true true f h = refl
    or_either false true false f h = refl
    or_either false false c f h = absurd (false≢true h)

-- symbols that have those of a transaction's new form too
pub replaced_symbols : (symbols : List (List ℕ)) (book : List Txn) (number : ℕ) (old new : Txn) → HasSymbols symbols book → slice_get book number ≡ Some old → ((q : List ℕ) → is_moved q new.postings ≡ true → is_among q symbols ≡ true) → HasSymbols symbols (set book number new)
replaced_symbols symbols book number old new known is of_new = record {
  ordered = known.ordered;
  all = λ q h. all_set q (is_among q symbols) book number new (known.all q) (of_new q) h;
}
