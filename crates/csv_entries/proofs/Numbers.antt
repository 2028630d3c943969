-- The entries of numbered records, one record after the other.
use Rattle.std.proofs.Common.{◌≡◌, ℕ, suc, ◌+◌, ◌<◌, ◌≤◌, Bool, true, false, not, cond, List, [], ◌∷◌, ◌++◌, map, length, get_or, drop, Option, Some, None, IfSome, Result, Ok, Err, refl, sym, ap, ◌∙◌, arith, length-append}
use Rattle.std.specs.List.{enumerate_from, list_all, prefix_len}
use Rattle.std.specs.Str.{is_utf8}
use Rattle.std.proofs.lemmas.List.{append-nil, append_assoc, drop_all, drop-map, length-map}
use Rattle.csv.specs.Records.{Row, fields_of}
use Rattle.query_terms.proofs.Walks.{left_here}
use Rattle.std.proofs.lemmas.List.Sums.{take_while-cons}
use Rattle.query_terms.specs.Patterns.{Known}
use Rattle.book.specs.declared.transaction.Txn.{Txn}
use Rattle.csv_rules.specs.declared.kinds.Sheet.{Sheet}
use Rattle.csv_entries.specs.Judging.{outcome}
use Rattle.csv_entries.specs.Numbered.{Numbered_record, Entries, txns_of, ends, entries_by, entries_in, none_in, is_end, counts, behind, then_all, gathered, entries_of, none_from, entries_from}
use Rattle.csv_entries.specs.declared.faults.ConvertFault.{ConvertFault}
use Rattle.csv_entries.specs.declared.faults.ConvertFault.TheVariants as faults
use Rattle.csv_entries.specs.declared.judging.Outcome.{Outcome}
use Rattle.csv_entries.specs.declared.judging.Outcome.TheVariants as outcomes

-- a record that counts
going : (known : Known) (sheet : Sheet) (x : Numbered_record) (xs : List Numbered_record) → counts known sheet x ≡ true
    → entries_of known sheet (x ∷ xs) ≡ then_all (entries_in known sheet x) (entries_of known sheet xs)
going known sheet x xs e =
    let n : 1 + prefix_len (counts known sheet) xs ≡ suc (prefix_len (counts known sheet) xs) = omega arith in
    rw (take_while-cons (counts known sheet) x xs, e, n) refl

-- one at which a block ends the entries
ending : (known : Known) (sheet : Sheet) (x : Numbered_record) (xs : List Numbered_record) → counts known sheet x ≡ false
    → entries_of known sheet (x ∷ xs) ≡ then_all (none_in x) (gathered (map none_in xs))
ending known sheet x xs e = rw (take_while-cons (counts known sheet) x xs, e) refl

pub one_outcome : (known : Known) (sheet : Sheet) (n : ℕ) (r : List (List ℕ)) (rs : List (List (List ℕ))) (o : Outcome) → outcome known sheet n r ≡ Ok o → ends o ≡ false
    → entries_from known sheet n (r ∷ rs) ≡ behind (txns_of o) (entries_from known sheet (n + 1) rs)
one_outcome known sheet n r rs o e goes =
    going known sheet (n, r) (enumerate_from (n + 1) rs) (ap (λ x. not (is_end x)) e ∙ ap not goes)
    ∙ ap (λ x. then_all (entries_by x) (entries_from known sheet (n + 1) rs)) e

pub one_refused : (known : Known) (sheet : Sheet) (n : ℕ) (r : List (List ℕ)) (rs : List (List (List ℕ))) (fault : ConvertFault) → outcome known sheet n r ≡ Err fault
    → entries_from known sheet n (r ∷ rs) ≡ Err fault
one_refused known sheet n r rs fault e =
    going known sheet (n, r) (enumerate_from (n + 1) rs) (ap (λ o. not (is_end o)) e) ∙ ap (λ o. then_all (entries_by o) (entries_from known sheet (n + 1) rs)) e

text_by : (known : Known) (sheet : Sheet) (n : ℕ) (r : List (List ℕ)) (o : Outcome) (t : Bool) → list_all is_utf8 r ≡ t → outcome known sheet n r ≡ Ok o → list_all is_utf8 r ≡ true
text_by known sheet n r o true e h = e
text_by known sheet n r o false e h =
    let k : outcome known sheet n r ≡ Err (faults.CsvRefused n) = rw e refl in
    absurd (cc (sym k ∙ h))

pub one_end : (known : Known) (sheet : Sheet) (n : ℕ) (r : List (List ℕ)) (rs : List (List (List ℕ))) (o : Outcome) → outcome known sheet n r ≡ Ok o → ends o ≡ true
    → entries_from known sheet n (r ∷ rs) ≡ behind [] (none_from (n + 1) rs)
one_end known sheet n r rs o e stops =
    let u = text_by known sheet n r o (list_all is_utf8 r) refl e in
    ending known sheet (n, r) (enumerate_from (n + 1) rs) (ap (λ x. not (is_end x)) e ∙ ap not stops) ∙ rw u refl

pub one_text : (n : ℕ) (r : List (List ℕ)) (rs : List (List (List ℕ))) → list_all is_utf8 r ≡ true → none_from n (r ∷ rs) ≡ behind [] (none_from (n + 1) rs)
one_text n r rs e = rw e refl

pub one_no_text : (n : ℕ) (r : List (List ℕ)) (rs : List (List (List ℕ))) → list_all is_utf8 r ≡ false → none_from n (r ∷ rs) ≡ Err (faults.CsvRefused n)
one_no_text n r rs e = rw e refl

pub behind_none : (r : Entries) → behind [] r ≡ r
behind_none (Ok ts) = refl
behind_none (Err fault) = refl

pub behind_behind : (ts us : List Txn) (r : Entries) → behind ts (behind us r) ≡ behind (ts ++ us) r
behind_behind ts us (Ok vs) = ap (λ x. Ok x) (sym (append_assoc ts us vs))
behind_behind ts us (Err fault) = refl

-- ---- how many entries there are

joined_length : (r rest : Entries) (m n : ℕ) (all : List Txn) → then_all r rest ≡ Ok all → ((ts : List Txn) → r ≡ Ok ts → length ts ≤ m) → ((ts : List Txn) → rest ≡ Ok ts → length ts ≤ n) → length all ≤ m + n
joined_length (Ok ts) (Ok us) m n all e one more =
    let k : ts ++ us ≡ all = cc e in
    rw (sym k) (omega (arith, one ts refl, more us refl, length-append ts us))
joined_length (Ok ts) (Err fault) m n all e one more = absurd (cc e)
joined_length (Err fault) rest m n all e one more = absurd (cc e)

few_txns : (o : Outcome) → length (txns_of o) ≤ 1
few_txns (outcomes.Entry txn) = omega arith
few_txns outcomes.LeftOut = omega arith
few_txns outcomes.Ends = omega arith

one_at_most : (r : Result Outcome ConvertFault) (ts : List Txn) → entries_by r ≡ Ok ts → length ts ≤ 1
one_at_most (Ok o) ts e = let k : txns_of o ≡ ts = cc e in rw (sym k) (few_txns o)
one_at_most (Err fault) ts e = absurd (cc e)

abbrev no_txns : Result (List Txn) ConvertFault
no_txns = Ok []

none_by : (r : Numbered_record) (t : Bool) (ts : List Txn) → cond t no_txns (Err (faults.CsvRefused r.0)) ≡ Ok ts → length ts ≤ 0
none_by r true ts e = let k : ◌≡◌ {A = List Txn} [] ts = cc e in rw (sym k) (omega arith)
none_by r false ts e = absurd (cc e)

none_length : (rows : List Numbered_record) (ts : List Txn) → gathered (map none_in rows) ≡ Ok ts → length ts ≤ 0
none_length [] ts e = let k : ◌≡◌ {A = List Txn} [] ts = cc e in rw (sym k) (omega arith)
none_length (r ∷ rs) ts e =
    joined_length (none_in r) (gathered (map none_in rs)) 0 0 ts e (λ us h. none_by r (list_all is_utf8 r.1) us h) (none_length rs)

length_by : (known : Known) (sheet : Sheet) (r : Numbered_record) (rs : List Numbered_record) (ts : List Txn) (t : Bool) → counts known sheet r ≡ t → entries_of known sheet (r ∷ rs) ≡ Ok ts
    → ((us : List Txn) → entries_of known sheet rs ≡ Ok us → length us ≤ length rs) → length ts ≤ 1 + length rs
length_by known sheet r rs ts true e h more =
    joined_length (entries_in known sheet r) (entries_of known sheet rs) 1 (length rs) ts (sym (going known sheet r rs e) ∙ h) (one_at_most (outcome known sheet r.0 r.1)) more
length_by known sheet r rs ts false e h more =
    omega (arith, joined_length (none_in r) (gathered (map none_in rs)) 0 0 ts (sym (ending known sheet r rs e) ∙ h) (λ us k. none_by r (list_all is_utf8 r.1) us k) (none_length rs))

pub few_of : (known : Known) (sheet : Sheet) (rows : List Numbered_record) (ts : List Txn) → entries_of known sheet rows ≡ Ok ts → length ts ≤ length rows
few_of known sheet [] ts e = let k : ◌≡◌ {A = List Txn} [] ts = cc e in rw (sym k) (omega arith)
few_of known sheet (r ∷ rs) ts e = omega (arith, length_by known sheet r rs ts (counts known sheet r) refl e (few_of known sheet rs))

-- ---- one record more of a file

row_here : (rows : List Row) (i : ℕ) (row : Row) → i < length rows → row ≡ get_or rows i row
    → drop i (map fields_of rows) ≡ fields_of row ∷ drop (i + 1) (map fields_of rows)
row_here rows i row lt is =
    rw (drop-map fields_of i rows, drop-map fields_of (i + 1) rows) (ap (map fields_of) (left_here rows i row lt is))

pub next_text : (whole : Entries) (rows : List Row) (i : ℕ) (row : Row) → whole ≡ none_from (i + 1) (drop i (map fields_of rows)) → i < length rows → row ≡ get_or rows i row
    → list_all is_utf8 (fields_of row) ≡ true → whole ≡ none_from ((i + 1) + 1) (drop (i + 1) (map fields_of rows))
next_text whole rows i row w lt is text =
    w ∙ rw (row_here rows i row lt is) (one_text (i + 1) (fields_of row) (drop (i + 1) (map fields_of rows)) text ∙ behind_none (none_from ((i + 1) + 1) (drop (i + 1) (map fields_of rows))))

pub next_no_text : (whole : Entries) (rows : List Row) (i : ℕ) (row : Row) → whole ≡ none_from (i + 1) (drop i (map fields_of rows)) → i < length rows → row ≡ get_or rows i row
    → list_all is_utf8 (fields_of row) ≡ false → whole ≡ Err (faults.CsvRefused (i + 1))
next_no_text whole rows i row w lt is text =
    w ∙ rw (row_here rows i row lt is) (one_no_text (i + 1) (fields_of row) (drop (i + 1) (map fields_of rows)) text)

pub no_more_text : (whole : Entries) (rows : List Row) (i : ℕ) → whole ≡ none_from (i + 1) (drop i (map fields_of rows)) → length rows ≤ i → whole ≡ Ok []
no_more_text whole rows i w le =
    w ∙ rw (drop_all i (map fields_of rows) (omega (arith, length-map rows fields_of, le))) refl

pub next_outcome : (known now : Known) (sheet : Sheet) (whole : Entries) (ts more : List Txn) (rows : List Row) (i : ℕ) (row : Row) (o : Outcome)
    → whole ≡ behind ts (entries_from known sheet (i + 1) (drop i (map fields_of rows))) → now ≡ known → i < length rows → row ≡ get_or rows i row
    → Ok o ≡ outcome now sheet (i + 1) (fields_of row) → ends o ≡ false → more ≡ ts ++ txns_of o
    → whole ≡ behind more (entries_from known sheet ((i + 1) + 1) (drop (i + 1) (map fields_of rows)))
next_outcome known now sheet whole ts more rows i row o w same lt is found goes n =
    let e : outcome known sheet (i + 1) (fields_of row) ≡ Ok o = ap (λ k. outcome k sheet (i + 1) (fields_of row)) (sym same) ∙ sym found in
    w ∙ rw (row_here rows i row lt is, n)
    (ap (behind ts) (one_outcome known sheet (i + 1) (fields_of row) (drop (i + 1) (map fields_of rows)) o e goes)
    ∙ behind_behind ts (txns_of o) (entries_from known sheet ((i + 1) + 1) (drop (i + 1) (map fields_of rows))))

next_end : (known now : Known) (sheet : Sheet) (whole : Entries) (ts : List Txn) (rows : List Row) (i : ℕ) (row : Row) (o : Outcome)
    → whole ≡ behind ts (entries_from known sheet (i + 1) (drop i (map fields_of rows))) → now ≡ known → i < length rows → row ≡ get_or rows i row
    → Ok o ≡ outcome now sheet (i + 1) (fields_of row) → ends o ≡ true
    → whole ≡ behind ts (none_from ((i + 1) + 1) (drop (i + 1) (map fields_of rows)))
next_end known now sheet whole ts rows i row o w same lt is found stops =
    let e : outcome known sheet (i + 1) (fields_of row) ≡ Ok o = ap (λ k. outcome k sheet (i + 1) (fields_of row)) (sym same) ∙ sym found in
    w ∙ rw (row_here rows i row lt is)
    (ap (behind ts) (one_end known sheet (i + 1) (fields_of row) (drop (i + 1) (map fields_of rows)) o e stops
    ∙ behind_none (none_from ((i + 1) + 1) (drop (i + 1) (map fields_of rows)))))

pub end_taken : (known now : Known) (sheet : Sheet) (whole : Entries) (ts : List Txn) (rows : List Row) (i : ℕ) (row : Row) (o : Outcome)
    → whole ≡ behind ts (entries_from known sheet (i + 1) (drop i (map fields_of rows))) → now ≡ known → i < length rows → row ≡ get_or rows i row
    → Ok o ≡ outcome now sheet (i + 1) (fields_of row) → ends o ≡ true → none_from ((i + 1) + 1) (drop (i + 1) (map fields_of rows)) ≡ Ok [] → whole ≡ Ok ts
end_taken known now sheet whole ts rows i row o w same lt is found stops rest =
    next_end known now sheet whole ts rows i row o w same lt is found stops ∙ ap (behind ts) rest ∙ ap (λ x. Ok x) (append-nil ts)

fault_by : (whole part : Entries) (ts : List Txn) (cause : Option ConvertFault) → whole ≡ behind ts part → IfSome cause (λ f. part ≡ Err f) → IfSome cause (λ f. whole ≡ Err f)
fault_by whole part ts (Some f) w h = w ∙ ap (behind ts) h
fault_by whole part ts None w h = h

pub end_fault : (known now : Known) (sheet : Sheet) (whole : Entries) (ts : List Txn) (rows : List Row) (i : ℕ) (row : Row) (o : Outcome) (cause : Option ConvertFault)
    → whole ≡ behind ts (entries_from known sheet (i + 1) (drop i (map fields_of rows))) → now ≡ known → i < length rows → row ≡ get_or rows i row
    → Ok o ≡ outcome now sheet (i + 1) (fields_of row) → ends o ≡ true
    → IfSome cause (λ f. none_from ((i + 1) + 1) (drop (i + 1) (map fields_of rows)) ≡ Err f) → IfSome cause (λ f. whole ≡ Err f)
end_fault known now sheet whole ts rows i row o cause w same lt is found stops rest =
    fault_by whole (none_from ((i + 1) + 1) (drop (i + 1) (map fields_of rows))) ts cause (next_end known now sheet whole ts rows i row o w same lt is found stops) rest

refused_by : (known : Known) (sheet : Sheet) (whole : Entries) (ts : List Txn) (n : ℕ) (r : List (List ℕ)) (rs : List (List (List ℕ))) (cause : Option ConvertFault)
    → whole ≡ behind ts (entries_from known sheet n (r ∷ rs)) → IfSome cause (λ f. outcome known sheet n r ≡ Err f) → IfSome cause (λ f. whole ≡ Err f)
refused_by known sheet whole ts n r rs (Some f) w h = w ∙ ap (behind ts) (one_refused known sheet n r rs f h)
refused_by known sheet whole ts n r rs None w h = h

pub next_fault : (known now : Known) (sheet : Sheet) (whole : Entries) (ts : List Txn) (rows : List Row) (i : ℕ) (row : Row) (cause : Option ConvertFault)
    → whole ≡ behind ts (entries_from known sheet (i + 1) (drop i (map fields_of rows))) → now ≡ known → i < length rows → row ≡ get_or rows i row
    → IfSome cause (λ f. outcome now sheet (i + 1) (fields_of row) ≡ Err f) → IfSome cause (λ f. whole ≡ Err f)
next_fault known now sheet whole ts rows i row cause w same lt is found =
    refused_by known sheet whole ts (i + 1) (fields_of row) (drop (i + 1) (map fields_of rows)) cause
    (w ∙ rw (row_here rows i row lt is) refl) (rw (sym same) found)

pub all_taken : (known : Known) (sheet : Sheet) (whole : Entries) (ts : List Txn) (rows : List Row) (i : ℕ)
    → whole ≡ behind ts (entries_from known sheet (i + 1) (drop i (map fields_of rows))) → length rows ≤ i → whole ≡ Ok ts
all_taken known sheet whole ts rows i w le =
    w ∙ rw (drop_all i (map fields_of rows) (omega (arith, length-map rows fields_of, le))) (ap (λ x. Ok x) (append-nil ts))
