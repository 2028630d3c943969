-- How many transactions and postings rules make.
use Rattle.std.proofs.Common.{◌≡◌, ℕ, suc, ◌+◌, ◌-◌, ◌*◌, ◌^◌, ◌<◌, ◌≤◌, min, Bool, true, false, ltb, lt-ltb, le-ltb, zero-mul, cond, Some, None, List, [], ◌∷◌, ◌++◌, append_assoc, length, map, take, get_or, length-append, refl, sym, ap, ◌∙◌, arith}
use Rattle.std.specs.List.{flat_map, range_with_len}
use Rattle.std.proofs.lemmas.List.{append-nil, map-append, take_all, take_more}
use Rattle.std.proofs.lemmas.List.FromFn.{map-range_with_len_more}
use Rattle.std.proofs.lemmas.Grind.{flat_map-append}
use Rattle.book.specs.Postings.{postings_of}
use Rattle.book.specs.declared.rules.PeriodicRule.{PeriodicRule}
use Rattle.book.specs.declared.transaction.Txn.{Txn}
use Rattle.rule_entries.specs.Counted.{told, excess_over}
use Rattle.rule_entries.specs.declared.counting.Excess.{Excess}
use Rattle.rule_entries.specs.Making.{txn_on}

-- what is told of a sum
pub told_more : (count more all some : ℕ) → count ≡ told all → more ≡ told some → min (count + more) (2 ^ 64 - 1) ≡ told (all + some)
told_more count more all some e f = omega (arith, e, f)

-- of joined lists the lengths add up
pub length_more : {X : Type 0} (xs ys : List X) (count more : ℕ) → count ≡ told (length xs) → more ≡ told (length ys)
    → min (count + more) (2 ^ 64 - 1) ≡ told (length (xs ++ ys))
length_more xs ys count more e f = told_more count more (length xs) (length ys) e f ∙ sym (ap told (length-append xs ys))

-- what a function makes of one more item
pub flat_more : {X Y : Type 0} (f : X → List Y) (xs : List X) (i : ℕ) (d : X) → i < length xs
    → flat_map f (take (i + 1) xs) ≡ flat_map f (take i xs) ++ f (get_or xs i d)
flat_more f xs i d inside =
    ap (flat_map f) (take_more xs i d inside)
    ∙ flat_map-append f (take i xs) (get_or xs i d ∷ [])
    ∙ ap (λ ys. flat_map f (take i xs) ++ ys) (append-nil (f (get_or xs i d)))

pub flat_count : {X Y : Type 0} (f : X → List Y) (xs : List X) (i : ℕ) (d : X) (count more : ℕ) → i < length xs
    → count ≡ told (length (flat_map f (take i xs))) → more ≡ told (length (f (get_or xs i d)))
    → min (count + more) (2 ^ 64 - 1) ≡ told (length (flat_map f (take (i + 1) xs)))
flat_count f xs i d count more inside so_far is =
    length_more (flat_map f (take i xs)) (f (get_or xs i d)) count more so_far is
    ∙ ap (λ ys. told (length ys)) (sym (flat_more f xs i d inside))

-- and of all items
pub flat_all : {X Y : Type 0} (f : X → List Y) (xs all : List X) (i : ℕ) → length xs ≤ i → xs ≡ all → flat_map f (take i xs) ≡ flat_map f all
flat_all f xs all i past same = ap (flat_map f) (take_all i xs past ∙ same)

pub postings_append : (xs ys : List Txn) → postings_of (xs ++ ys) ≡ postings_of xs ++ postings_of ys
postings_append xs ys = flat_map-append (λ (t : Txn). t.postings) xs ys

-- the postings of one more item's transactions
pub postings_count : {X : Type 0} (f : X → List Txn) (xs : List X) (i : ℕ) (d : X) (count more : ℕ) → i < length xs
    → count ≡ told (length (postings_of (flat_map f (take i xs)))) → more ≡ told (length (postings_of (f (get_or xs i d))))
    → min (count + more) (2 ^ 64 - 1) ≡ told (length (postings_of (flat_map f (take (i + 1) xs))))
postings_count f xs i d count more inside so_far is =
    length_more (postings_of (flat_map f (take i xs))) (postings_of (f (get_or xs i d))) count more so_far is
    ∙ ap (λ ps. told (length ps)) (sym (postings_append (flat_map f (take i xs)) (f (get_or xs i d))))
    ∙ ap (λ ts. told (length (postings_of ts))) (sym (flat_more f xs i d inside))

-- each transaction of a rule has its postings
pub postings_each : (rule : PeriodicRule) (days : List ℕ) → length (postings_of (map (txn_on rule) days)) ≡ length days * length rule.postings
postings_each rule [] = sym (zero-mul (length rule.postings))
postings_each rule (day ∷ days) =
    length-append rule.postings (postings_of (map (txn_on rule) days))
    ∙ ap (λ n. length rule.postings + n) (postings_each rule days)
    ∙ one_more (length rule.postings) (length days) where
      one_more : (n m : ℕ) → n + m * n ≡ suc m * n
      one_more n m = grind arith

-- one more day of a rule
pub days_more : {X : Type 0} (g : ℕ → X) (f : ℕ → ℕ) (first at day : ℕ) (made : X) (before xs : List X) → made ≡ g day → day ≡ f (first + at)
    → xs ≡ before ++ map g (map f (range_with_len first at)) → xs ++ made ∷ [] ≡ before ++ map g (map f (range_with_len first (at + 1)))
days_more g f first at day made before xs is on so_far =
    ap (λ ys. ys ++ made ∷ []) so_far
    ∙ append_assoc before (map g (map f (range_with_len first at))) (made ∷ [])
    ∙ ap (λ x. before ++ (map g (map f (range_with_len first at)) ++ x ∷ [])) (is ∙ ap g on)
    ∙ ap (λ ys. before ++ ys) (sym (map-append g (map f (range_with_len first at)) (f (first + at) ∷ [])))
    ∙ ap (λ ns. before ++ map g ns) (sym (map-range_with_len_more f first at (first + at) refl))

-- the postings of a rule's transactions are as many as its days, each time its own
pub postings_told : (rule : PeriodicRule) (days : List ℕ) (count each all : ℕ) → count ≡ length days → each ≡ length rule.postings
    → all ≡ min (count * each) (2 ^ 64 - 1) → all ≡ told (length (postings_of (map (txn_on rule) days)))
postings_told rule days count each all same is told-all =
    told-all
    ∙ ap (λ n. told (n * each)) same
    ∙ ap (λ n. told (length days * n)) is
    ∙ sym (ap told (postings_each rule days))

-- ---- too many

abbrev excess_with : ℕ → ℕ → Excess
excess_with limit count = record { count = count; limit = limit }

pub excess_yes : (limit count all : ℕ) → limit < count → count ≡ told all → Some (excess_with limit count) ≡ excess_over limit all
excess_yes limit count all past is =
    let over : ltb limit all ≡ true = lt-ltb limit all (omega (arith, past, is)) in
    ap (λ (n : ℕ). Some (excess_with limit n)) is
    ∙ sym (ap (λ (b : Bool). cond b (Some (excess_with limit (told all))) None) over)

pub excess_no : (limit count all : ℕ) → count ≤ limit → limit < 2 ^ 64 - 1 → count ≡ told all → None ≡ excess_over limit all
excess_no limit count all few small is =
    let under : ltb limit all ≡ false = le-ltb limit all (omega (arith, few, small, is)) in
    sym (ap (λ (b : Bool). cond b (Some (excess_with limit (told all))) None) under)
