-- Symbols that are gathered from transactions that are lent.
use Rattle.std.proofs.Common.{Bor, ◌≡◌, ℕ, zero, suc, ◌+◌, ◌<◌, ◌≤◌, List, [], ◌∷◌, ◌++◌, drop, get_or, length, slice_get, take, Option, Some, None, Result, OnOk, min, true, refl, sym, ap, subst, ◌∙◌, arith}
use Rattle.std.specs.Cmp.Lexicographic.{slice_cmp}
use Rattle.std.specs.List.{flat_map}
use Rattle.std.specs.Option.{option_to_list}
use Rattle.std.specs.Ordering.{nat_cmp}
use Rattle.std.specs.Str.{bytes_eq}
use Rattle.std.proofs.lemmas.List.{take_all, take_more}
use Rattle.std.proofs.lemmas.Slice.Eq.{bytes_eq-Decides}
use Rattle.hl_base.specs.declared.fault.Memory.{Memory}
use Rattle.book.specs.Order.{each_once}
use Rattle.book.specs.declared.transaction.Txn.{Txn}
use Rattle.book_laws.specs.Writing.{AreSymbolsOf, symbols_at, symbols_in, symbols_written}
use Rattle.kept_books.specs.Beginning.{lent, renewed_in}
use Rattle.kept_books.specs.Gathering.{with_all}
use Rattle.kept_books.specs.Renewing.{AreWithin, renewed}
use Rattle.kept_books.specs.declared.written.Renewal.{Renewal}
use Rattle.kept_books.proofs.Renewing.{got_none, lent_next, lent_of, lent_size, lent_whole, min_is, most_renewed}
use Rattle.kept_books.proofs.Sets.{at_both, at_one, from_none, new_text, with_both, within_none}
use Rattle.reached_walk.proofs.Entries.{got-inside}
use Rattle.reached_walk.proofs.Noting.{none-at}

-- ---- lent transactions, from the last one on

pub entries_back : (found now : List (List ℕ)) (txns : List (Bor Txn)) (i a : ℕ) (t : Bor Txn) → a ≡ i + 1 → i < length txns → t ≡ get_or txns i t → now ≡ with_all found (flat_map symbols_in t.now.postings)
    → with_all now (symbols_at (take i (lent_of txns))) ≡ with_all found (symbols_at (take a (lent_of txns)))
entries_back found now txns i a t next lt is put =
    let front = take i (lent_of txns) in
    ap (λ (xs : List (List ℕ)). with_all xs (symbols_at front)) (put ∙ sym (ap (with_all found) (at_one t.now)))
    ∙ sym (with_both found (symbols_at front) (symbols_at (t.now ∷ [])))
    ∙ sym (ap (with_all found) (at_both front (t.now ∷ [])))
    ∙ sym (ap (λ (ts : List Txn). with_all found (symbols_at ts)) (lent_next txns i t lt is))
    ∙ ap (λ (n : ℕ). with_all found (symbols_at (take n (lent_of txns)))) (sym next)

pub entries_all : (found : List (List ℕ)) (txns : List (Bor Txn)) (a : ℕ) → length txns ≤ a → with_all found (symbols_at (take a (lent_of txns))) ≡ with_all found (symbols_at (lent_of txns))
entries_all found txns a le = ap (λ (ts : List Txn). with_all found (symbols_at ts)) (lent_whole txns a le)

pub none_left : (found : List (List ℕ)) (ts : List Txn) (a : ℕ) → a ≡ 0 → with_all found (symbols_at (take a ts)) ≡ found
none_left found ts a none = ap (λ (n : ℕ). with_all found (symbols_at (take n ts))) none

-- ---- transactions by their numbers, from the last one on

take_got : (ts : List Txn) (n : ℕ) → take (suc n) ts ≡ take n ts ++ option_to_list (slice_get ts n)
take_got [] zero = refl
take_got [] (suc n) = refl
take_got (t ∷ ts) zero = refl
take_got (t ∷ ts) (suc n) = ap (λ (us : List Txn). t ∷ us) (take_got ts n)

pub number_back : (found now : List (List ℕ)) (ts : List Txn) (i a : ℕ) → a ≡ suc i → now ≡ with_all found (symbols_at (option_to_list (slice_get ts i))) → with_all now (symbols_at (take i ts)) ≡ with_all found (symbols_at (take a ts))
number_back found now ts i a next put =
    let last = option_to_list (slice_get ts i) in
    ap (λ (xs : List (List ℕ)). with_all xs (symbols_at (take i ts))) put
    ∙ sym (with_both found (symbols_at (take i ts)) (symbols_at last))
    ∙ sym (ap (with_all found) (at_both (take i ts) last))
    ∙ sym (ap (λ (us : List Txn). with_all found (symbols_at us)) (take_got ts i))
    ∙ ap (λ (n : ℕ). with_all found (symbols_at (take n ts))) (sym next)

pub put_some : (r : Result Unit Memory) (old new : List (List ℕ)) (o : Option Txn) (t : Txn) → o ≡ Some t → OnOk r (new ≡ with_all old (flat_map symbols_in t.postings)) → OnOk r (new ≡ with_all old (symbols_at (option_to_list o)))
put_some r old new o t is h = subst (λ (xs : List (List ℕ)). OnOk r (new ≡ with_all old xs)) (sym (ap (λ (x : Option Txn). symbols_at (option_to_list x)) is ∙ at_one t)) h

pub put_none : (old : List (List ℕ)) (o : Option Txn) → o ≡ None → old ≡ with_all old (symbols_at (option_to_list o))
put_none old o is = sym (ap (λ (x : Option Txn). with_all old (symbols_at (option_to_list x))) is)

pub all_renewed : (found : List (List ℕ)) (first : ℕ) (written forms : List Txn) (count : ℕ) → found ≡ [] → length written + length forms ≤ count → with_all found (symbols_at (take count (renewed first written forms))) ≡ each_once (slice_cmp nat_cmp) (symbols_at (renewed first written forms))
all_renewed found first written forms count none most =
    let all = renewed first written forms in
    let whole : take count all ≡ all = take_all count all (let size = most_renewed first written forms in omega (arith, most, size)) in
    ap (λ (ts : List Txn). with_all found (symbols_at ts)) whole ∙ from_none found (symbols_at all) none

-- ---- the one that is gone

taken_one : (ts : List Txn) (n : ℕ) (old : Txn) → slice_get ts n ≡ Some old → take 1 (drop n ts) ≡ old ∷ []
taken_one [] n old got = cc
taken_one (t ∷ ts) zero old got = let same : t ≡ old = cc in ap (λ (u : Txn). u ∷ []) same
taken_one (t ∷ ts) (suc n) old got = taken_one ts n old got

pub within_old : (former forms : List Txn) (first : ℕ) (old : Txn) → length forms ≡ 1 → slice_get former first ≡ Some old → AreWithin (old ∷ []) forms → AreWithin (take (length forms) (drop first former)) forms
within_old former forms first old one got h = subst (λ (ts : List Txn). AreWithin ts forms) (sym (ap (λ (n : ℕ). take n (drop first former)) one ∙ taken_one former first old got)) h

past_all : (ts : List Txn) (n : ℕ) → length ts ≤ n → drop n ts ≡ []
past_all [] zero le = refl
past_all [] (suc n) le = refl
past_all (t ∷ ts) zero le = absurd (omega (arith, le))
past_all (t ∷ ts) (suc n) le = past_all ts n (omega (arith, le))

take_none : (n : ℕ) (ts : List Txn) → ts ≡ [] → take n ts ≡ []
take_none zero ts is = refl
take_none (suc n) ts is = ap (take (suc n)) is

pub within_nothing : (former forms : List Txn) (first : ℕ) → slice_get former first ≡ None → AreWithin (take (length forms) (drop first former)) forms
within_nothing former forms first none =
    subst (λ (ts : List Txn). AreWithin ts forms) (sym (take_none (length forms) (drop first former) (past_all former first (got_none former first none)))) (within_none forms)

-- ---- two lists, one symbol after another

same_text : (a b : List ℕ) → bytes_eq a b ≡ true → a ≡ b
same_text a b h = (bytes_eq-Decides a b).0 h

pub same_step : (xs ys : List (List ℕ)) (i : ℕ) (x y : List ℕ) → i < length xs → i < length ys → x ≡ get_or xs i x → y ≡ get_or ys i y → bytes_eq x y ≡ true → take i xs ≡ take i ys → take (i + 1) xs ≡ take (i + 1) ys
same_step xs ys i x y one two first second same h =
    take_more xs i x one
    ∙ (λ j. h j ++ (sym first ∙ same_text x y same ∙ second) j ∷ [])
    ∙ sym (take_more ys i y two)

pub same_all : (xs ys : List (List ℕ)) (i : ℕ) → length xs ≤ i → length ys ≤ i → take i xs ≡ take i ys → xs ≡ ys
same_all xs ys i one two h = sym (take_all i xs one) ∙ h ∙ take_all i ys two

-- ---- the symbols of both texts, where the old one has none else

abbrev start_of : Renewal → ℕ
start_of x = min x.first (length x.former.txns.items)

pub over_old : (x : Renewal) (old : Txn) (symbols : List (List ℕ)) → slice_get (lent x.former) x.first ≡ Some old → length x.forms.txns.items ≡ 1 → symbols ≡ symbols_written (lent x.former ++ renewed_in x) → AreWithin (old ∷ []) (lent x.forms)
    → AreSymbolsOf (renewed_in x) symbols
over_old x old symbols got one both within =
    let inside = got-inside (lent x.former) x.first old got in
    let start : start_of x ≡ x.first = min_is x.first (length x.former.txns.items) (let size = lent_size x.former.txns.items in omega (arith, inside, size)) in
    new_text (start_of x) (lent x.former) (lent x.forms) symbols
    (within_old (lent x.former) (lent x.forms) (start_of x) old (lent_size x.forms.txns.items ∙ one) (ap (slice_get (lent x.former)) start ∙ got) within) both

pub over_nothing : (x : Renewal) (symbols : List (List ℕ)) → slice_get (lent x.former) x.first ≡ None → symbols ≡ symbols_written (lent x.former ++ renewed_in x) → AreSymbolsOf (renewed_in x) symbols
over_nothing x symbols none both =
    let past = got_none (lent x.former) x.first none in
    let start : length (lent x.former) ≤ start_of x = let size = lent_size x.former.txns.items in omega (arith, past, size) in
    new_text (start_of x) (lent x.former) (lent x.forms) symbols (within_nothing (lent x.former) (lent x.forms) (start_of x) (none-at (lent x.former) (start_of x) start)) both
