-- Takings whose days are days of the calendar.
use Rattle.std.proofs.Common.{◌≡◌, ◌↔◌, ℕ, ◌+◌, ◌<◌, ◌≤◌, Bool, true, false, not, ◌&&◌, ◌||◌, nat_lt, List, [], ◌∷◌, map, take, take_all, get_or, length, refl, sym, ap, ◌∙◌, arith}
use Rattle.std.specs.List.{AllByRecursion, list_all, list_any}
use Rattle.std.proofs.lemmas.Bool.{and_parts, false≢true, or_parts}
use Rattle.std.proofs.lemmas.Bool.Decides.{nat_tests}
use Rattle.std.proofs.lemmas.List.{map-append}
use Rattle.std.proofs.lemmas.List.Folds.{list_all-append, list_all_at, list_all_more}
use Rattle.hl_time.specs.Calendar.{day_end}
use Rattle.book.specs.declared.transaction.Posting.{Posting}
use Rattle.book.specs.declared.transaction.Txn.{Txn}
use Rattle.report_cells.specs.Taken.{Taken}
use Rattle.report_takings.specs.Entries.{entries_in, entries_of}
use Rattle.index_cells.specs.Exchange.{IsExchange}
use Rattle.index_cells.specs.Posted.{AreDated, is_dated, is_early, posted, posted_in}
use Rattle.index_cells.proofs.Weighing.{none_among}

-- ---- a test of all items

module _ {A : Type 0} (p : A → Bool) where
  pub all_so_far : (xs : List A) (i : ℕ) (x : A) → i < length xs → x ≡ get_or xs i x → list_all p (take i xs) ≡ true → p x ≡ true → list_all p (take (i + 1) xs) ≡ true
  all_so_far xs i x lt read so_far here = list_all_more p xs i x lt ∙ (λ k. so_far k && (ap p (sym read) ∙ here) k)

  pub one_fails : (xs : List A) (i : ℕ) (x : A) → i < length xs → x ≡ get_or xs i x → p x ≡ false → list_all p xs ≡ false
  one_fails xs i x lt read fails = list_all_at p xs i x lt (ap p (sym read) ∙ fails)

  pub all_whole : (xs : List A) (i : ℕ) → length xs ≤ i → list_all p (take i xs) ≡ true → list_all p xs ≡ true
  all_whole xs i over h = ap (list_all p) (sym (take_all i xs over)) ∙ h

-- ---- takings

pub all_dated : (ts : List Taken) → list_all (λ (t : Taken). nat_lt t.day day_end) ts ≡ true → AllByRecursion (λ (t : Taken). t.day < day_end) ts
all_dated [] h = tt
all_dated (t ∷ ts) h =
    let both = and_parts (nat_lt t.day day_end) (list_all (λ (t : Taken). nat_lt t.day day_end) ts) h in
    (grind (arith, nat_tests, both.0), all_dated ts both.1)

early_passes : (day : ℕ) → day < day_end → nat_lt day day_end ≡ true
early_passes day lt = grind (arith, nat_tests, lt)

were_dated : (ts : List Taken) → AllByRecursion (λ (t : Taken). t.day < day_end) ts → list_all (λ (t : Taken). nat_lt t.day day_end) ts ≡ true
were_dated [] h = refl
were_dated (t ∷ ts) h = (λ i. early_passes t.day h.0 i && were_dated ts h.1 i)

-- ---- transactions

in_txn : (txn : Txn) (ps : List Posting) → list_all (is_early txn) ps ≡ list_all (λ (t : Taken). nat_lt t.day day_end) (map posted (map (λ (p : Posting). (p, txn)) ps))
in_txn txn [] = refl
in_txn txn (p ∷ ps) = ap (λ (b : Bool). is_early txn p && b) (in_txn txn ps)

in_txns : (txns : List Txn) → list_all is_dated txns ≡ list_all (λ (t : Taken). nat_lt t.day day_end) (posted_in txns)
in_txns [] = refl
in_txns (t ∷ txns) =
    (λ i. in_txn t t.postings i && in_txns txns i)
    ∙ sym (list_all-append (λ (t : Taken). nat_lt t.day day_end) (map posted (entries_in t)) (posted_in txns))
    ∙ ap (list_all (λ (t : Taken). nat_lt t.day day_end)) (sym (map-append posted (entries_in t) (entries_of txns)))

pub dated_where : (txns : List Txn) → list_all is_dated txns ≡ true → (true ≡ true) ↔ AreDated txns
dated_where txns h = (λ yes_so. all_dated (posted_in txns) (sym (in_txns txns) ∙ h), λ dated. refl)

pub not_dated : (txns : List Txn) → list_all is_dated txns ≡ false → (false ≡ true) ↔ AreDated txns
not_dated txns h = (λ never. absurd (false≢true never), λ dated. absurd (false≢true (sym h ∙ in_txns txns ∙ were_dated (posted_in txns) dated)))

-- ---- takings in the place of others

none_late : (ts : List Taken) → AllByRecursion (λ (t : Taken). t.day < day_end) ts → list_any (λ (t : Taken). not (nat_lt t.day day_end)) ts ≡ false
none_late [] h = refl
none_late (t ∷ ts) h = (λ i. not (early_passes t.day h.0 i) || none_late ts h.1 i)

not_late : (b : Bool) → not b ≡ false → b ≡ true
not_late true h = refl
not_late false h = absurd (false≢true (sym h))

all_early : (ts : List Taken) → list_any (λ (t : Taken). not (nat_lt t.day day_end)) ts ≡ false → AllByRecursion (λ (t : Taken). t.day < day_end) ts
all_early [] h = tt
all_early (t ∷ ts) h =
    let both = or_parts (not (nat_lt t.day day_end)) (list_any (λ (t : Taken). not (nat_lt t.day day_end)) ts) h in
    let early : nat_lt t.day day_end ≡ true = not_late (nat_lt t.day day_end) both.0 in
    (grind (arith, nat_tests, early), all_early ts both.1)

-- if those before are of days of the calendar, and those that are put in, then those after are
pub dated_after : (before gone more after : List Taken) → IsExchange before gone more after → AllByRecursion (λ (t : Taken). t.day < day_end) before → AllByRecursion (λ (t : Taken). t.day < day_end) more → AllByRecursion (λ (t : Taken). t.day < day_end) after
dated_after before gone more after whole old new =
    all_early after (none_among (λ (t : Taken). not (nat_lt t.day day_end)) before gone more after whole (none_late before old) (none_late more new))
