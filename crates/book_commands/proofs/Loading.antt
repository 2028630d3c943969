-- What a text makes, or why it is refused.
use Rattle.std.proofs.Common.{◌≡◌, inl, ℕ, Bool, false, List, Option, Result, Ok, Err, IfOk, IfErr, nat_lt, length, if◌then◌else◌, refl, ap, sym, ◌∙◌, subst}
use Rattle.hl_base.specs.Items.{items_of}
use Rattle.hl_base.specs.Limits.{item_limit}
use Rattle.book.specs.Bounds.{TurnoverFits}
use Rattle.book.specs.Postings.{postings_of}
use Rattle.book.specs.declared.fault.Fault.{Fault}
use Rattle.book.specs.declared.item.Book.{Book}
use Rattle.book.specs.declared.item.Placed.{Placed}
use Rattle.book.specs.FaultLine.{fault_line}
use Rattle.balancing.specs.Load.{load}
use Rattle.journal_reader.specs.Items.{items_in}
use Rattle.query_terms.specs.Making.{Stays}
use Rattle.plan_commands.specs.Reports.{report_loaded, report_over, report_read}
use Rattle.report_commands.specs.declared.asked.Asked.{Asked}
use Rattle.refusals.specs.Errors.{fault_status, limit_line}
use Rattle.refusals.specs.Outcomes.{Judged, Outcome, outcome_of, refused}
use Rattle.refusals.specs.Refusing.{IsOfReport, IsOfText, Refuses}
use Rattle.refusals.specs.declared.refusal.Refusal.{Refusal}
use Rattle.refusals.specs.declared.refusal.Refusal.TheVariants as refusal
use Rattle.book_commands.specs.Answers.{Finds, IsQuiet, MakerStays, RefusesText, Telling, TellsMaker}
use Rattle.book_commands.specs.Journals.{IsBookIn, IsCheckedIn, IsCheckedOf, IsJournalIn, IsJournalOf, IsKeptOf, IsWholeOf}
use Rattle.book_commands.specs.Reported.{told_report}
use Rattle.book_commands.specs.Texts.{Making, fault_refusal, judged_text, made_loaded, made_read}
use Rattle.book_commands.specs.Works.{report_made}
use Rattle.book_commands.specs.declared.journal.Checked.{Checked}
use Rattle.book_commands.specs.declared.journal.Journal.{Journal}
use Rattle.book_commands.specs.declared.journal.Kept.{Kept}
use Rattle.book_commands.specs.declared.journal.Whole.{Whole}

-- ---- why a text is refused

abbrev refusing : Outcome → Judged
refusing outcome = Err outcome

-- a refusal of a fault is that of a text that has it
refuses_so : (r : Refusal) (fault : Fault) → Refuses r (fault_status fault.cause) (fault_line fault) → IsOfText r
    → RefusesText r (Err (fault_refusal fault))
refuses_so (refusal.Line status line) fault h k =
    (ap (λ (n : ℕ). refusing (refused n (fault_line fault))) (sym h.0) ∙ ap (λ (l : List ℕ). refusing (refused status l)) (sym h.1), k)
refuses_so (refusal.Pattern what line) fault h k = absurd h
refuses_so refusal.ReadFault fault h k = absurd h
refuses_so refusal.DiskFault fault h k = absurd h
refuses_so refusal.Memory fault h k = tt

-- the text doesn't read
pub unread : (r : Refusal) (year : Option ℕ) (text : List ℕ) (fault : Fault) → items_in year text ≡ Err fault
    → Refuses r (fault_status fault.cause) (fault_line fault) → IsOfText r
    → (make : Making) → RefusesText r (made_read make (items_in year text))
unread r year text fault e h k make =
    let F : Result (List Placed) Fault → Type 0 = λ read. RefusesText r (made_read make read) in
    subst F (sym e) (refuses_so r fault h k)

-- its items have no book
pub unloaded : (r : Refusal) (items : List Placed) (fault : Fault) → load items ≡ Err fault
    → Refuses r (fault_status fault.cause) (fault_line fault) → IsOfText r
    → (make : Making) → RefusesText r (made_loaded make items (load items))
unloaded r items fault e h k make =
    let F : Result Book Fault → Type 0 = λ book. RefusesText r (made_loaded make items book) in
    subst F (sym e) (refuses_so r fault h k)

-- and so the text
unbooked : (r : Refusal) (year : Option ℕ) (text : List ℕ) (items : List Placed) → items_in year text ≡ Ok items
    → ((make : Making) → RefusesText r (made_loaded make items (load items)))
    → (make : Making) → RefusesText r (made_read make (items_in year text))
unbooked r year text items e h make =
    let F : Result (List Placed) Fault → Type 0 = λ read. RefusesText r (made_read make read) in
    subst F (sym e) (h make)

-- few items
pub within_items : (r : Refusal) (text : List ℕ) (year : Option ℕ) → nat_lt item_limit (length (items_of text)) ≡ false
    → ((make : Making) → RefusesText r (made_read make (items_in year text)))
    → (make : Making) → RefusesText r (judged_text make year text)
within_items r text year few h make =
    let many = refused 7 (limit_line (length (items_of text)) item_limit) in
    let F : Bool → Type 0 = λ b. RefusesText r (if b then Err many else made_read make (items_in year text)) in
    subst F (sym few) (h make)

pub items_refused : (year : Option ℕ) (text : List ℕ) (r : Result (List Placed) Refusal) → nat_lt item_limit (length (items_of text)) ≡ false
    → IfErr r (λ why. (make : Making) → RefusesText why (made_read make (items_in year text)))
    → IfErr r (λ why. (make : Making) → RefusesText why (judged_text make year text))
items_refused year text (Ok items) few h = tt
items_refused year text (Err r) few h = within_items r text year few h

pub refused_in : {A : Type 0} (year : Option ℕ) (text : List ℕ) (items : List Placed) (r : Result A Refusal) → nat_lt item_limit (length (items_of text)) ≡ false
    → items_in year text ≡ Ok items
    → IfErr r (λ why. (make : Making) → RefusesText why (made_loaded make items (load items)))
    → IfErr r (λ why. (make : Making) → RefusesText why (judged_text make year text))
refused_in year text items (Ok made) few e h = tt
refused_in year text items (Err r) few e h = within_items r text year few (unbooked r year text items e h)

-- ---- what it makes

-- a text whose items make a journal
pub journal_in : (year : Option ℕ) (text : List ℕ) (items : List Placed) (r : Result Journal Refusal) → items_in year text ≡ Ok items
    → IfOk r (λ journal. IsJournalOf items journal) → IfOk r (λ journal. IsJournalIn year text journal)
journal_in year text items (Ok journal) e h = record { items = items; read = e; made = h }
journal_in year text items (Err r) e h = tt

-- or are checked by
pub checked_in : (year : Option ℕ) (text : List ℕ) (items : List Placed) (r : Result Checked Refusal) → items_in year text ≡ Ok items
    → IfOk r (λ checked. IsCheckedOf items checked) → IfOk r (λ checked. IsCheckedIn year text checked)
checked_in year text items (Ok checked) e h = record { items = items; read = e; made = h }
checked_in year text items (Err r) e h = tt

-- or a book
pub book_in : (year : Option ℕ) (text : List ℕ) (items : List Placed) (r : Result Book Refusal) → items_in year text ≡ Ok items
    → IfOk r (λ book. load items ≡ Ok book) → IfOk r (λ book. TurnoverFits (postings_of book.txns)) → IfOk r (λ book. IsBookIn year text book)
book_in year text items (Ok book) e h fits = record { items = items; read = e; loaded = h; fits = fits }
book_in year text items (Err r) e h fits = tt

-- what is read twice is the same
abbrev items_or : List Placed → Result (List Placed) Fault → List Placed
items_or items (Ok read) = read
items_or items (Err fault) = items

same_items : (a b : List Placed) (r : Result (List Placed) Fault) → r ≡ Ok a → r ≡ Ok b → a ≡ b
same_items a b r x y = ap (λ (read : Result (List Placed) Fault). items_or a read) (sym x ∙ y)

pub kept_is : (year : Option ℕ) (text : List ℕ) (items : List Placed) (book : Book) → IsBookIn year text book → items_in year text ≡ Ok items
    → IsKeptOf year text (record { items = items; book = book })
kept_is year text items book is e =
    let F : List Placed → Type 0 = λ l. load l ≡ Ok book in
    record {
      read = e;
      book = subst F (same_items is.items items (items_in year text) is.read e) is.loaded;
      fits = is.fits;
    }

pub whole_is : (year : Option ℕ) (text : List ℕ) (items : List Placed) (journal : Journal) → IsJournalIn year text journal → items_in year text ≡ Ok items
    → IsWholeOf year text (record { items = items; journal = journal })
whole_is year text items journal is e =
    let F : List Placed → Type 0 = λ l. IsJournalOf l journal in
    record {
      read = e;
      made = subst F (same_items is.items items (items_in year text) is.read e) is.made;
    }

-- a text that loads is answered by what is made of its items and their book
made_is : (make : Making) (year : Option ℕ) (text : List ℕ) (items : List Placed) (book : Book) → nat_lt item_limit (length (items_of text)) ≡ false
    → items_in year text ≡ Ok items → load items ≡ Ok book → judged_text make year text ≡ Ok (make items book)
made_is make year text items book few e l =
    let many = refused 7 (limit_line (length (items_of text)) item_limit) in
    let over = made_read make (items_in year text) in
    let first : judged_text make year text ≡ over = ap (λ (b : Bool). if b then Err many else over) few in
    let second : over ≡ made_loaded make items (load items) = ap (λ (read : Result (List Placed) Fault). made_read make read) e in
    let third : made_loaded make items (load items) ≡ Ok (make items book) = ap (λ (b : Result Book Fault). made_loaded make items b) l in
    first ∙ second ∙ third

found_is : (r : Result (List ℕ) Refusal) (a b : Judged) → a ≡ b → Finds r b → Finds r a
found_is r a b e h = subst (λ (t : Judged). Finds r t) (sym e) h

-- what is asked of a text is what is asked of the journal that it makes
pub journal_found : (make : Making) (year : Option ℕ) (text : List ℕ) (journal : Journal) (r : Result (List ℕ) Refusal) → nat_lt item_limit (length (items_of text)) ≡ false
    → IsJournalIn year text journal → ((items : List Placed) → IsJournalOf items journal → Finds r (Ok (make items journal.book)))
    → Finds r (judged_text make year text)
journal_found make year text journal r few is found =
    found_is r (judged_text make year text) (Ok (make is.items journal.book))
    (made_is make year text is.items journal.book few is.read is.made.book) (found is.items is.made)

-- or of the names that it declares and its book
pub checked_found : (make : Making) (year : Option ℕ) (text : List ℕ) (checked : Checked) (r : Result (List ℕ) Refusal) → nat_lt item_limit (length (items_of text)) ≡ false
    → IsCheckedIn year text checked → ((items : List Placed) → IsCheckedOf items checked → Finds r (Ok (make items checked.book)))
    → Finds r (judged_text make year text)
checked_found make year text checked r few is found =
    found_is r (judged_text make year text) (Ok (make is.items checked.book))
    (made_is make year text is.items checked.book few is.read is.made.book) (found is.items is.made)

-- or of its items and their book
pub kept_found : (make : Making) (year : Option ℕ) (text : List ℕ) (kept : Kept) (r : Result (List ℕ) Refusal) → nat_lt item_limit (length (items_of text)) ≡ false
    → IsKeptOf year text kept → Finds r (Ok (make kept.items kept.book)) → Finds r (judged_text make year text)
kept_found make year text kept r few is found =
    found_is r (judged_text make year text) (Ok (make kept.items kept.book)) (made_is make year text kept.items kept.book few is.read is.book) found

-- or of its items and what they make
pub whole_found : (make : Making) (year : Option ℕ) (text : List ℕ) (whole : Whole) (r : Result (List ℕ) Refusal) → nat_lt item_limit (length (items_of text)) ≡ false
    → IsWholeOf year text whole → Finds r (Ok (make whole.items whole.journal.book)) → Finds r (judged_text make year text)
whole_found make year text whole r few is found =
    found_is r (judged_text make year text) (Ok (make whole.items whole.journal.book))
    (made_is make year text whole.items whole.journal.book few is.read is.made.book) found

-- ---- a refused text as an answer

pub text_refused : (r : Refusal) (told : Judged) → RefusesText r told → Finds (Err r) told
text_refused (refusal.Line status line) told h = ap outcome_of h.0
text_refused (refusal.Pattern what line) told h = absurd h
text_refused refusal.ReadFault told h = tt
text_refused refusal.DiskFault told h = tt
text_refused refusal.Memory told h = tt

pub text_kind : (r : Refusal) (told : Judged) → RefusesText r told → IsOfReport (Err r)
text_kind (refusal.Line status line) told h = h.1
text_kind (refusal.Pattern what line) told h = absurd h
text_kind refusal.ReadFault told h = h
text_kind refusal.DiskFault told h = h
text_kind refusal.Memory told h = tt

pub text_quiet : (r : Refusal) (told : Judged) → RefusesText r told → IsQuiet (Err r)
text_quiet (refusal.Line status line) told h = tt
text_quiet (refusal.Pattern what line) told h = h
text_quiet refusal.ReadFault told h = h
text_quiet refusal.DiskFault told h = h
text_quiet refusal.Memory told h = tt

pub text_maker : (r : Refusal) (told : Judged) (day : ℕ) (words : List (List ℕ)) (OfRule : ℕ → Type 0) (t : Telling) → RefusesText r told → MakerStays t
    → TellsMaker day words OfRule t (Err r)
text_maker (refusal.Line status line) told day words OfRule t h s = s
text_maker (refusal.Pattern what line) told day words OfRule t h s = absurd h
text_maker refusal.ReadFault told day words OfRule t h s = s
text_maker refusal.DiskFault told day words OfRule t h s = s
text_maker refusal.Memory told day words OfRule t h s = inl s

-- a maker of patterns that was asked nothing
pub unasked : (count : ℕ) (last : Option (List ℕ)) → Stays count count last last
unasked count last = record { count = refl; told = refl }

-- ---- the reports over a text

told_loaded : (asked : Asked) (day : ℕ) (items : List Placed) (book : Result Book Fault)
    → made_loaded (report_made asked day) items book ≡ told_report (report_loaded asked day items book)
unfolding report_made
told_loaded asked day items (Ok book) = refl
told_loaded asked day items (Err fault) = refl

told_read : (asked : Asked) (day : ℕ) (items : Result (List Placed) Fault)
    → made_read (report_made asked day) items ≡ told_report (report_read asked day items)
told_read asked day (Ok items) = told_loaded asked day items (load items)
told_read asked day (Err fault) = refl

pub report_judged : (asked : Asked) (day : ℕ) (year : Option ℕ) (text : List ℕ) → nat_lt item_limit (length (items_of text)) ≡ false
    → judged_text (report_made asked day) year text ≡ told_report (report_over asked day year text)
report_judged asked day year text few =
    let many = refused 7 (limit_line (length (items_of text)) item_limit) in
    let over = made_read (report_made asked day) (items_in year text) in
    ap (λ (b : Bool). if b then Err many else over) few ∙ told_read asked day (items_in year text)
