-- Symbols that are put in order.
use Rattle.std.proofs.Common.{◌≡◌, ℕ, zero, suc, ℤ, pos, Bool, true, false, ◌||◌, cond, List, [], ◌∷◌, ◌++◌, drop, length, map, take, Some, None, refl, sym, ap, ◌∙◌}
use Rattle.std.specs.BTreeSet.{insert_key}
use Rattle.std.specs.Cmp.Lexicographic.{slice_cmp, nat_list_cmp_total}
use Rattle.std.specs.FinMap.Entries.{same_entries}
use Rattle.std.specs.List.{flat_map}
use Rattle.std.specs.Option.{option_to_list}
use Rattle.std.specs.Ordering.{eq_by_cmp, nat_cmp}
use Rattle.std.proofs.lemmas.Bool.{false≢true}
use Rattle.std.proofs.lemmas.Grind.{flat_map-append}
use Rattle.std.proofs.lemmas.List.{append-nil, map-append, nil_from_length, take-append-drop}
use Rattle.std.proofs.lemmas.List.Folds.{list_any-append}
use Rattle.book.specs.Order.{each_once}
use Rattle.book.specs.Postings.{postings_of}
use Rattle.book.specs.Style.{cost_amount}
use Rattle.book.specs.declared.amount.Amount.{Amount}
use Rattle.book.specs.declared.amount.Assertion.{Assertion}
use Rattle.book.specs.declared.transaction.Posting.{Posting}
use Rattle.book.specs.declared.transaction.Txn.{Txn}
use Rattle.book.proofs.Entries.{text_ties}
use Rattle.book.proofs.Order.{contains-each_once, find-made, sorted-each_once}
use Rattle.placed_sums.specs.Accounts.{is_among}
use Rattle.book_laws.specs.Writing.{AreSymbolsOf, symbols_at, symbols_in, symbols_written}
use Rattle.kept_books.specs.Gathering.{with_all}
use Rattle.kept_books.specs.Renewing.{AreWithin, renewed}

-- ---- one list for the same symbols

abbrev Made : Type 0
Made = List ℕ × ℤ

abbrev made_of : List (List ℕ) → List Made
made_of xs = map (λ (s : List ℕ). (s, pos 0)) xs

names_back : (xs : List (List ℕ)) → map (λ (e : Made). e.0) (made_of xs) ≡ xs
names_back [] = refl
names_back (x ∷ xs) = ap (λ (ys : List (List ℕ)). x ∷ ys) (names_back xs)

pub same_once : (xs ys : List (List ℕ)) → ((q : List ℕ) → is_among q xs ≡ is_among q ys) → each_once (slice_cmp nat_cmp) xs ≡ each_once (slice_cmp nat_cmp) ys
same_once xs ys same =
    let unit : List ℕ → ℤ = λ s. pos 0 in
    let one = each_once (slice_cmp nat_cmp) xs in
    let two = each_once (slice_cmp nat_cmp) ys in
    let alike : made_of one ≡ made_of two =
    same_entries (slice_cmp nat_cmp) nat_list_cmp_total text_ties (made_of one) (made_of two)
    (sorted-each_once text_ties unit nat_list_cmp_total xs) (sorted-each_once text_ties unit nat_list_cmp_total ys)
    (λ q. find-made text_ties unit one q
    ∙ ap (λ (b : Bool). cond b (Some (unit q)) None) (contains-each_once text_ties xs q ∙ same q ∙ sym (contains-each_once text_ties ys q))
    ∙ sym (find-made text_ties unit two q)) in
    sym (names_back one) ∙ ap (map (λ (e : Made). e.0)) alike ∙ names_back two

-- ---- put in from the last one on

pub each_all : (xs : List (List ℕ)) → with_all [] xs ≡ each_once (slice_cmp nat_cmp) xs
each_all [] = refl
each_all (x ∷ xs) = ap (λ (ys : List (List ℕ)). insert_key (slice_cmp nat_cmp) ys x) (each_all xs)

pub with_both : (found xs ys : List (List ℕ)) → with_all found (xs ++ ys) ≡ with_all (with_all found ys) xs
with_both found [] ys = refl
with_both found (x ∷ xs) ys = ap (λ (zs : List (List ℕ)). insert_key (slice_cmp nat_cmp) zs x) (with_both found xs ys)

pub from_none : (found xs : List (List ℕ)) → found ≡ [] → with_all found xs ≡ each_once (slice_cmp nat_cmp) xs
from_none found xs none = ap (λ (ys : List (List ℕ)). with_all ys xs) none ∙ each_all xs

-- one more name from the back
pub name_back : (found now rest older : List (List ℕ)) (last : List ℕ) → rest ≡ older ++ last ∷ [] → now ≡ insert_key (slice_cmp nat_cmp) found last → with_all now older ≡ with_all found rest
name_back found now rest older last is put = ap (λ (xs : List (List ℕ)). with_all xs older) put ∙ sym (with_both found older (last ∷ [])) ∙ sym (ap (with_all found) is)

pub no_names : (found rest : List (List ℕ)) → length rest ≡ 0 → with_all found rest ≡ found
no_names found rest none = ap (with_all found) (nil_from_length rest none)

-- one more posting from the back
pub posting_back : (found now : List (List ℕ)) (rest older : List Posting) (last : Posting) → rest ≡ older ++ last ∷ [] → now ≡ with_all found (symbols_in last) → with_all now (flat_map symbols_in older) ≡ with_all found (flat_map symbols_in rest)
posting_back found now rest older last is put =
    ap (λ (xs : List (List ℕ)). with_all xs (flat_map symbols_in older)) (put ∙ sym (ap (with_all found) (append-nil (symbols_in last))))
    ∙ sym (with_both found (flat_map symbols_in older) (symbols_in last ++ []))
    ∙ sym (ap (with_all found) (flat_map-append symbols_in older (last ∷ [])))
    ∙ sym (ap (λ (ps : List Posting). with_all found (flat_map symbols_in ps)) is)

pub no_postings : (found : List (List ℕ)) (rest : List Posting) → length rest ≡ 0 → with_all found (flat_map symbols_in rest) ≡ found
no_postings found rest none = ap (λ (ps : List Posting). with_all found (flat_map symbols_in ps)) (nil_from_length rest none)

-- the three amounts of a posting
pub posting_all : (found one two three : List (List ℕ)) (p : Posting) → one ≡ with_all found (map (λ (a : Amount). a.symbol) (map (λ (w : Assertion). w.amount) (option_to_list p.wanted)))
    → two ≡ with_all one (map (λ (a : Amount). a.symbol) (map cost_amount (option_to_list p.cost))) → three ≡ with_all two (map (λ (a : Amount). a.symbol) (option_to_list p.amount)) → three ≡ with_all found (symbols_in p)
posting_all found one two three p first second third =
    let name : Amount → List ℕ = λ a. a.symbol in
    let own = option_to_list p.amount in
    let costs = map cost_amount (option_to_list p.cost) in
    let wants = map (λ (w : Assertion). w.amount) (option_to_list p.wanted) in
    third
    ∙ ap (λ (xs : List (List ℕ)). with_all xs (map name own)) (second ∙ ap (λ (xs : List (List ℕ)). with_all xs (map name costs)) first ∙ sym (with_both found (map name costs) (map name wants)))
    ∙ sym (with_both found (map name own) (map name costs ++ map name wants))
    ∙ ap (λ (xs : List (List ℕ)). with_all found (map name own ++ xs)) (sym (map-append name costs wants))
    ∙ ap (with_all found) (sym (map-append name own (costs ++ wants)))

-- ---- symbols of transactions

pub at_both : (xs ys : List Txn) → symbols_at (xs ++ ys) ≡ symbols_at xs ++ symbols_at ys
at_both xs ys = ap (flat_map symbols_in) (flat_map-append (λ (t : Txn). t.postings) xs ys) ∙ flat_map-append symbols_in (postings_of xs) (postings_of ys)

pub at_one : (t : Txn) → symbols_at (t ∷ []) ≡ flat_map symbols_in t.postings
at_one t = ap (flat_map symbols_in) (append-nil t.postings)

abbrev pub writes : List ℕ → List Txn → Bool
writes q ts = is_among q (symbols_at ts)

pub any_both : (q : List ℕ) (xs ys : List (List ℕ)) → is_among q (xs ++ ys) ≡ (is_among q xs || is_among q ys)
any_both q xs ys = list_any-append (eq_by_cmp (slice_cmp nat_cmp) q) xs ys

pub writes_both : (q : List ℕ) (xs ys : List Txn) → writes q (xs ++ ys) ≡ (writes q xs || writes q ys)
writes_both q xs ys = ap (is_among q) (at_both xs ys) ∙ any_both q (symbols_at xs) (symbols_at ys)

-- ---- tests

or_turn : (a d f : Bool) → ((a || d) || (f || d)) ≡ (f || (a || d))
or_turn true true true = refl
or_turn true true false = refl
or_turn true false true = refl
or_turn true false false = refl
or_turn false true true = refl
or_turn false true false = refl
or_turn false false true = refl
or_turn false false false = refl

or_front : (t w n f : Bool) → (w || n) ≡ (f || w) → ((t || w) || (t || n)) ≡ (f || (t || w))
or_front true w n true h = refl
or_front true w n false h = refl
or_front false w n f h = h

or_none : (f : Bool) → (false || f) ≡ (f || false)
or_none true = refl
or_none false = refl

or_kept : (a d f : Bool) → (a ≡ true → f ≡ true) → (f || d) ≡ (f || (a || d))
or_kept a d true h = refl
or_kept false d false h = refl
or_kept true d false h = absurd (false≢true (h refl))

or_front_kept : (t w n f : Bool) → n ≡ (f || w) → (t || n) ≡ (f || (t || w))
or_front_kept true w n true h = refl
or_front_kept true w n false h = refl
or_front_kept false w n f h = h

or_swap : (a b : Bool) → (a || b) ≡ (b || a)
or_swap true true = refl
or_swap true false = refl
or_swap false true = refl
or_swap false false = refl

-- ---- the symbols of a text with others in their place

split_at : (q : List ℕ) (written : List Txn) (n : ℕ) → writes q written ≡ (writes q (take n written) || writes q (drop n written))
split_at q written n = sym (ap (writes q) (take-append-drop n written)) ∙ writes_both q (take n written) (drop n written)

-- both texts write what the old one does and what is put in
pub writes_all : (q : List ℕ) (first : ℕ) (written forms : List Txn) → (writes q written || writes q (renewed first written forms)) ≡ (writes q forms || writes q written)
writes_all q zero written forms =
    let n = length forms in
    (λ i. split_at q written n i || writes_both q forms (drop n written) i)
    ∙ or_turn (writes q (take n written)) (writes q (drop n written)) (writes q forms)
    ∙ ap (λ (b : Bool). writes q forms || b) (sym (split_at q written n))
writes_all q (suc first) [] forms = or_none (writes q forms)
writes_all q (suc first) (t ∷ written) forms =
    let rest = renewed first written forms in
    (λ i. writes_both q (t ∷ []) written i || writes_both q (t ∷ []) rest i)
    ∙ or_front (writes q (t ∷ [])) (writes q written) (writes q rest) (writes q forms) (writes_all q first written forms)
    ∙ ap (λ (b : Bool). writes q forms || b) (sym (writes_both q (t ∷ []) written))

-- so does the new one alone, where what is put in has the symbols of what is gone
pub writes_kept : (q : List ℕ) (first : ℕ) (written forms : List Txn) → (writes q (take (length forms) (drop first written)) ≡ true → writes q forms ≡ true) → writes q (renewed first written forms) ≡ (writes q forms || writes q written)
writes_kept q zero written forms h =
    let n = length forms in
    writes_both q forms (drop n written)
    ∙ or_kept (writes q (take n written)) (writes q (drop n written)) (writes q forms) h
    ∙ ap (λ (b : Bool). writes q forms || b) (sym (split_at q written n))
writes_kept q (suc first) [] forms h = or_none (writes q forms)
writes_kept q (suc first) (t ∷ written) forms h =
    let rest = renewed first written forms in
    writes_both q (t ∷ []) rest
    ∙ or_front_kept (writes q (t ∷ [])) (writes q written) (writes q rest) (writes q forms) (writes_kept q first written forms h)
    ∙ ap (λ (b : Bool). writes q forms || b) (sym (writes_both q (t ∷ []) written))

-- ---- lists of them

put_is : (q : List ℕ) (written forms : List Txn) (kept : List (List ℕ)) → AreSymbolsOf written kept → is_among q (symbols_at forms ++ kept) ≡ (writes q forms || writes q written)
put_is q written forms kept is =
    any_both q (symbols_at forms) kept
    ∙ ap (λ (b : Bool). writes q forms || b) (ap (is_among q) is ∙ contains-each_once text_ties (symbols_at written) q)

-- those of the old text, with those that are put in
pub both_texts : (first : ℕ) (written forms : List Txn) (kept all : List (List ℕ)) → AreSymbolsOf written kept → all ≡ each_once (slice_cmp nat_cmp) (symbols_at forms ++ kept)
    → all ≡ symbols_written (written ++ renewed first written forms)
both_texts first written forms kept all is put =
    put
    ∙ same_once (symbols_at forms ++ kept) (symbols_at (written ++ renewed first written forms)) (λ q.
    put_is q written forms kept is ∙ sym (writes_all q first written forms) ∙ sym (writes_both q written (renewed first written forms)))

pub text_behind : (written more : List Txn) (kept all : List (List ℕ)) → AreSymbolsOf written kept → all ≡ each_once (slice_cmp nat_cmp) (symbols_at more ++ kept) → AreSymbolsOf (written ++ more) all
text_behind written more kept all is put =
    put
    ∙ same_once (symbols_at more ++ kept) (symbols_at (written ++ more)) (λ q.
    put_is q written more kept is ∙ or_swap (writes q more) (writes q written) ∙ sym (writes_both q written more))

-- those of both texts are those of the new one
pub new_text : (first : ℕ) (written forms : List Txn) (all : List (List ℕ)) → AreWithin (take (length forms) (drop first written)) forms → all ≡ symbols_written (written ++ renewed first written forms)
    → AreSymbolsOf (renewed first written forms) all
new_text first written forms all within is =
    is
    ∙ same_once (symbols_at (written ++ renewed first written forms)) (symbols_at (renewed first written forms)) (λ q.
    writes_both q written (renewed first written forms) ∙ writes_all q first written forms ∙ sym (writes_kept q first written forms (within q)))

-- ---- whether all symbols of one are among others

pub within_same : (one two : List Txn) (own both : List (List ℕ)) → AreSymbolsOf two own → both ≡ each_once (slice_cmp nat_cmp) (symbols_at one ++ own) → own ≡ both → AreWithin one two
within_same one two own both is put same = λ q h.
    let among : is_among q both ≡ true =
    ap (is_among q) put
    ∙ contains-each_once text_ties (symbols_at one ++ own) q
    ∙ any_both q (symbols_at one) own
    ∙ ap (λ (b : Bool). b || is_among q own) h in
    sym (contains-each_once text_ties (symbols_at two) q) ∙ sym (ap (is_among q) is) ∙ ap (is_among q) same ∙ among

pub within_none : (two : List Txn) → AreWithin [] two
within_none two = λ q h. absurd (false≢true h)

-- as they are lent
pub both_lent : (first : ℕ) (written forms put : List Txn) (kept seen all : List (List ℕ)) → put ≡ forms → seen ≡ kept → AreSymbolsOf written kept → all ≡ each_once (slice_cmp nat_cmp) (symbols_at put ++ seen) → all ≡ symbols_written (written ++ renewed first written forms)
both_lent first written forms put kept seen all lent also is h = both_texts first written forms kept all is (h ∙ (λ i. each_once (slice_cmp nat_cmp) (symbols_at (lent i) ++ also i)))

pub behind_lent : (written more put : List Txn) (kept seen all : List (List ℕ)) → put ≡ more → seen ≡ kept → AreSymbolsOf written kept → all ≡ each_once (slice_cmp nat_cmp) (symbols_at put ++ seen) → AreSymbolsOf (written ++ more) all
behind_lent written more put kept seen all lent also is h = text_behind written more kept all is (h ∙ (λ i. each_once (slice_cmp nat_cmp) (symbols_at (lent i) ++ also i)))
