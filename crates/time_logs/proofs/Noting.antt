-- The days of a timedot text, from line to line.
use Rattle.std.proofs.Common.{◌≡◌, ℕ, ◌+◌, Bool, true, false, ◌||◌, List, [], ◌∷◌, ◌++◌, length, Option, Some, None, Result, Ok, Err, refl, sym, ap, ◌∙◌}
use Rattle.std.proofs.lemmas.List.{append-nil, append_assoc}
use Rattle.book.specs.declared.transaction.Posting.{Posting}
use Rattle.book.specs.declared.transaction.Txn.{Txn}
use Rattle.time_logs.specs.Days.{hours_entry, hours_posting}
use Rattle.time_logs.specs.DotSteps.{Dots, Head, said_or_bad, after_line, after_content, has_head, head_entry, settled_with, none_yet, finished}
use Rattle.time_logs.specs.Faults.{◌>>=◌}
use Rattle.time_logs.specs.Limits.{limited}
use Rattle.time_logs.specs.Timedot.{Note, heads, spends, bad, line_says, notes_on, notes_from, is_head, first_bad, first_postings, entries, unless_bad, timedot}
use Rattle.time_logs.specs.Walks.{walk}
use Rattle.time_logs.specs.declared.dot_line.DotLine.{DotLine}
use Rattle.time_logs.specs.declared.dot_line.DotLine.TheVariants as lines
use Rattle.time_logs.specs.declared.faults.LogFault.{LogFault}

-- the transaction of a day with further postings
abbrev entry_with : Head → List Posting → Txn
entry_with h postings = hours_entry h.line h.day.0 h.description (h.postings ++ postings)

-- some transactions, the day that is being read with what belongs to it, and the days that are left
abbrev with_rest : List Txn → Option Head → List Note → List Txn
with_rest done None notes = done ++ entries notes
with_rest done (Some h) notes = done ++ entry_with h (first_postings notes) ∷ entries notes

abbrev known : List Txn → Option Head → Dots
known done head = record { done = done; head = head }

abbrev noted : List Txn → Option Head → List Note → Result (List Txn) LogFault
noted done head notes = unless_bad (first_bad notes) (with_rest done head notes)

-- what the lines from one on answer behind what is known
abbrev Answers : List (List ℕ) → List Txn → Option Head → ℕ → Type 0
Answers ls done head line = (walk after_content (known done head) line ls >>= finished) ≡ noted done head (notes_from (has_head head) line ls)

-- a day that ends has all its postings
settles : (done : List Txn) (h : Head) (rest : List Txn) → (done ++ head_entry h ∷ []) ++ rest ≡ done ++ entry_with h [] ∷ rest
settles done h rest =
    append_assoc done (head_entry h ∷ []) rest
    ∙ ap (λ (ps : List Posting). done ++ hours_entry h.line h.day.0 h.description ps ∷ rest) (sym (append-nil h.postings))

-- a posting more belongs to the day
grows : (done : List Txn) (h : Head) (p : Posting) (postings : List Posting) (rest : List Txn)
    → done ++ hours_entry h.line h.day.0 h.description ((h.postings ++ p ∷ []) ++ postings) ∷ rest ≡ done ++ entry_with h (p ∷ postings) ∷ rest
grows done h p postings rest =
    ap (λ (ps : List Posting). done ++ hours_entry h.line h.day.0 h.description ps ∷ rest) (append_assoc h.postings (p ∷ []) postings)

one_line : (says : Option DotLine) (ls : List (List ℕ)) (done : List Txn) (head : Option Head) (line : ℕ)
    → ((done : List Txn) (head : Option Head) → Answers ls done head (line + 1))
    → (((said_or_bad line says >>= λ said. Ok (after_line (known done head) line said)) >>= λ next. walk after_content next (line + 1) ls) >>= finished)
    ≡ noted done head (notes_on line says ++ notes_from (has_head head || is_head says) (line + 1) ls)
one_line None ls done None line further = refl
one_line None ls done (Some h) line further = refl
one_line (Some lines.Gap) ls done None line further = further done None
one_line (Some lines.Gap) ls done (Some h) line further = further done (Some h)
one_line (Some (lines.Head day description)) ls done None line further =
    further done (Some (record { line = line; day = day; description = description; postings = [] }))
one_line (Some (lines.Head day description)) ls done (Some h) line further =
    let notes = notes_from true (line + 1) ls in
    further (done ++ head_entry h ∷ []) (Some (record { line = line; day = day; description = description; postings = [] }))
    ∙ ap (λ (txns : List Txn). unless_bad (first_bad notes) txns)
    (settles done h (hours_entry line day.0 description (first_postings notes) ∷ entries notes))
one_line (Some (lines.Spent account hours)) ls done None line further = further done None
one_line (Some (lines.Spent account hours)) ls done (Some h) line further =
    let notes = notes_from true (line + 1) ls in
    let p = hours_posting line account hours in
    further done (Some (record h { postings = h.postings ++ p ∷ [] }))
    ∙ ap (λ (txns : List Txn). unless_bad (first_bad notes) txns) (grows done h p (first_postings notes) (entries notes))

answers : (ls : List (List ℕ)) (done : List Txn) (head : Option Head) (line : ℕ) → Answers ls done head line
answers [] done None line = ap (λ (txns : List Txn). limited (length txns) txns) (sym (append-nil done))
answers [] done (Some h) line =
    ap (λ (ps : List Posting). limited (length (done ++ hours_entry h.line h.day.0 h.description ps ∷ [])) (done ++ hours_entry h.line h.day.0 h.description ps ∷ [])) (sym (append-nil h.postings))
answers (l ∷ ls) done head line = one_line (line_says (has_head head) l) ls done head line (λ done. λ head. answers ls done head (line + 1))

-- line by line it is the definition
pub entries_are : (ls : List (List ℕ)) → (walk after_content none_yet 1 ls >>= finished) ≡ timedot ls
entries_are ls = answers ls [] None 1
