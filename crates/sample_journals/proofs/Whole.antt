-- The text of a sample loads.
use Rattle.std.proofs.Common.{ℕ, zero, suc, ◌≡◌, ◌+◌, ◌*◌, ◌≤◌, Bool, false, cond, List, [], ◌∷◌, length, Option, Some, None, Result, Ok, refl, sym, ap, subst, ◌∙◌, arith, length-append}
use Rattle.std.specs.Prelude.{nat_lt}
use Rattle.std.proofs.lemmas.Bool.Decides.{nat_tests}
use Rattle.hl_base.specs.Items.{items_of}
use Rattle.hl_base.specs.Limits.{item_limit, text_limit}
use Rattle.book.specs.declared.fault.Fault.{Fault}
use Rattle.book.specs.declared.item.Book.{Book}
use Rattle.book.specs.declared.transaction.Txn.{Txn}
use Rattle.balancing.specs.Load.{load}
use Rattle.balancing.specs.Solves.{Solves}
use Rattle.balancing.proofs.Solving.{solves_loads}
use Rattle.live_journal.specs.Loading.{book_from, book_of, first_of, limit_fault, past_limit, text_fault}
use Rattle.sample_text.specs.Sample.{entry_of as text_of, sample_text}
use Rattle.sample_journals.specs.Journal.{found_from, Loads}
use Rattle.sample_journals.proofs.Cut.{entries_split, placed, sample_items, sample_read, texts, txns_are}
use Rattle.sample_journals.proofs.Sizes.{size_few, text_is}
use Rattle.sample_journals.proofs.Sums.{solved}

texts_length : (count i m : ℕ) → i + m ≤ 100000 → length (texts count i m) ≤ 120 * m
texts_length count i zero most = omega arith
texts_length count i (suc m) most =
    let few = size_few count i (omega arith) in
    let same = ap length (text_is count i (omega arith)) in
    let more = texts_length count (suc i) m (omega arith) in
    omega (arith, few, same, more, length-append (text_of count i) (texts count (suc i) m))

sample_length : (count : ℕ) → count ≤ 100000 → length (sample_text count) ≤ 120 * count
sample_length count few =
    let is = ap length (entries_split count 0 count count (omega arith)) in
    omega (arith, is, texts_length count 0 count (omega arith))

items_load : (count : ℕ) → count ≤ 100000 → load (placed count 0 0 count) ≡ Ok (record { txns = found_from count 0 count })
items_load count few =
    solves_loads (placed count 0 0 count) (record { txns = found_from count 0 count })
    (subst (λ (ts : List Txn). Solves ts (found_from count 0 count)) (sym (txns_are count 0 0 count)) (solved count few))

sample_loads : (year : Option ℕ) (count : ℕ) → count ≤ 100000 → book_of year (sample_text count) ≡ Ok (record { txns = found_from count 0 count })
sample_loads year count few = ap book_from (sample_read year count few) ∙ items_load count few

within : (n most : ℕ) → n ≤ most → nat_lt most n ≡ false
within n most h = grind (arith, nat_tests)

none_past : (a b : Bool) (x y : Option (ℕ × ℕ)) → a ≡ false → b ≡ false → cond a x (cond b y None) ≡ None
none_past a b x y ea eb = rw (ea, eb) refl

within_limits : (text : List ℕ) → length text ≤ text_limit → length (items_of text) ≤ item_limit → past_limit text ≡ None
within_limits text few_bytes few_items =
    none_past (nat_lt text_limit (length text)) (nat_lt item_limit (length (items_of text))) (Some (text_limit, length text)) (Some (item_limit, length (items_of text)))
    (within (length text) text_limit few_bytes) (within (length (items_of text)) item_limit few_items)

sound_by : (limit : Option (ℕ × ℕ)) (r : Result Book Fault) (b : Book) → limit ≡ None → r ≡ Ok b → first_of (limit_fault limit ∷ text_fault r ∷ []) ≡ None
sound_by limit r b el er = rw (el, er) refl

pub loads : (year : Option ℕ) (count : ℕ) → count ≤ 100000 → Loads year count
loads year count few =
    let bytes = sample_length count few in
    let items = sample_items count few in
    let book = sample_loads year count few in
    record {
      bytes = bytes;
      items = items;
      book = book;
      sound = sound_by (past_limit (sample_text count)) (book_of year (sample_text count)) (record { txns = found_from count 0 count })
          (within_limits (sample_text count) (omega arith) (omega arith)) book;
    }
