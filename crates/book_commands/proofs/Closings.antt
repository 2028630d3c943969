-- What is closed by a query is what is closed by the terms of its words.
use Rattle.std.proofs.Common.{◌≡◌, ℕ, List, Option, Some, None, Result, Ok, Err, refl, ap, sym, ◌∙◌, subst}
use Rattle.book.specs.declared.item.Book.{Book}
use Rattle.book.specs.declared.item.Placed.{Placed}
use Rattle.book.specs.declared.transaction.Txn.{Txn}
use Rattle.book_care.specs.Asked.{Asked as Closed, asked_of}
use Rattle.book_care.specs.Entries.{made}
use Rattle.book_care.specs.Judged.{IsFault, first_cause}
use Rattle.book_care.specs.Reads.{context_at_end}
use Rattle.book_care.specs.declared.close.Closing.{Closing}
use Rattle.book_care.specs.declared.faults.CloseFault.{CloseFault}
use Rattle.book_care.specs.declared.faults.CloseFault.TheVariants as close_fault
use Rattle.query.specs.Building.{AreBuilt}
use Rattle.query.specs.Made.{Makes}
use Rattle.query.specs.Matching.{Own}
use Rattle.query.specs.OwnLetters.{own_in}
use Rattle.query.specs.Words.{terms_mean}
use Rattle.query.specs.declared.faults.QueryFault.{QueryFault}
use Rattle.query.specs.declared.faults.QueryFault.TheVariants as query_fault
use Rattle.query.proofs.SameMeaning.{posting_by_terms}
use Rattle.query_terms.specs.Reading.{sources_of, terms_of}
use Rattle.query_terms.specs.declared.kinds.Term.{Term}
use Rattle.report_commands.specs.Faults.{of_query}
use Rattle.report_commands.specs.Matters.{letters_in}
use Rattle.refusals.specs.Refusing.{Refuses}
use Rattle.book_commands.specs.Answers.{Finds, Telling}
use Rattle.book_commands.specs.Closed.{IsClosingOf}
use Rattle.book_commands.specs.FaultLines.{close_line}
use Rattle.refusals.specs.Outcomes.{Outcome, refused, written}
use Rattle.book_commands.specs.Works.{close_by, close_made, close_outcome, closed_over, closing_outcome, pair_text}
use Rattle.refusals.specs.declared.refusal.Refusal.{Refusal}
use Rattle.refusals.specs.declared.refusal.Refusal.TheVariants as refusal
use Rattle.book_commands.specs.declared.work.CloseAsked.{CloseAsked}
use Rattle.book_commands.specs.declared.work.Entries.{Entries}
use Rattle.book_commands.proofs.Answering.{Tells, answering, memory_found, refused_found}

-- ---- the entries, or why there are none

module _ (chosen : Entries) (closed : Closed) where
  -- they are made
  pub closing_told : (output : List ℕ) (entries : Option (Txn × Txn)) → entries ≡ made closed → first_cause closed ≡ None
      → output ≡ pair_text (context_at_end closed.items) chosen entries → Finds (Ok output) (Ok (closing_outcome chosen closed))
  closing_told output entries e passes o =
      let context = context_at_end closed.items in
      ap answering
      (ap (λ (c : Option CloseFault). close_outcome context chosen (made closed) c) passes
      ∙ ap (λ (m : Option (Txn × Txn)). written (pair_text context chosen m)) (sym e)
      ∙ ap (λ (x : List ℕ). written x) (sym o))

  closing_said : (fault : CloseFault) → first_cause closed ≡ Some fault → closing_outcome chosen closed ≡ refused 1 (close_line fault)
  closing_said fault e = ap (λ (c : Option CloseFault). close_outcome (context_at_end closed.items) chosen (made closed) c) e

  -- they can't be made
  pub closing_refused : (fault : CloseFault) (r : Refusal) → IsFault (first_cause closed) fault → Refuses r 1 (close_line fault)
      → (fault ≡ close_fault.Memory → r ≡ refusal.Memory) → Finds (Err r) (Ok (closing_outcome chosen closed))
  closing_refused (close_fault.Later line day) r e k memory =
      refused_found r 1 (close_line (close_fault.Later line day)) (closing_outcome chosen closed) (closing_said (close_fault.Later line day) e) k
  closing_refused (close_fault.Renamed account) r e k memory =
      refused_found r 1 (close_line (close_fault.Renamed account)) (closing_outcome chosen closed) (closing_said (close_fault.Renamed account) e) k
  closing_refused (close_fault.Bare account) r e k memory =
      refused_found r 1 (close_line (close_fault.Bare account)) (closing_outcome chosen closed) (closing_said (close_fault.Bare account) e) k
  closing_refused (close_fault.Fine account symbol) r e k memory =
      refused_found r 1 (close_line (close_fault.Fine account symbol)) (closing_outcome chosen closed) (closing_said (close_fault.Fine account symbol) e) k
  closing_refused close_fault.Memory r e k memory = memory_found r (closing_outcome chosen closed) (memory refl)

-- ---- by a query

-- what is asked to be closed by terms over any letters
abbrev over : ℕ → List ℕ → List Placed → List Txn → Own → List Term → Closed
over on into items txns own terms =
    record { items = items; txns = txns; means = λ entry. terms_mean terms own entry.0 entry.1; on = on; into = into }

by_terms : (closing : Closing) → AreBuilt (sources_of closing.query.now.terms.items) closing.query.now.regexes.items
    → asked_of closing ≡ over closing.on.0 closing.into.now closing.items.now closing.book.now.txns (own_in closing.types.now) closing.query.now.terms.items
by_terms closing built = λ i. record {
  items = closing.items.now;
  txns = closing.book.now.txns;
  means = λ entry. posting_by_terms closing.query.now closing.types.now built entry.0 entry.1 i;
  on = closing.on.0;
  into = closing.into.now;
}

same_letters : (a b : Own) → ((name : List ℕ) → a name ≡ b name) → a ≡ b
same_letters a b same = λ i name. same name i

closed_is : (closing : Closing) → AreBuilt (sources_of closing.query.now.terms.items) closing.query.now.regexes.items
    → ((name : List ℕ) → own_in closing.types.now name ≡ letters_in closing.items.now name)
    → asked_of closing ≡ over closing.on.0 closing.into.now closing.items.now closing.book.now.txns (letters_in closing.items.now) closing.query.now.terms.items
closed_is closing built letters =
    by_terms closing built
    ∙ ap (λ (own : Own). over closing.on.0 closing.into.now closing.items.now closing.book.now.txns own closing.query.now.terms.items)
    (same_letters (own_in closing.types.now) (letters_in closing.items.now) letters)

-- what is asked of the words
pub close_is : (asked : CloseAsked) (day : ℕ) (items : List Placed) (book : Book) (read : Result (List Term) (List ℕ)) → terms_of day asked.words ≡ read
    → close_made asked day items book ≡ close_by asked items book read
unfolding close_made
close_is asked day items book read e = ap (λ (x : Result (List Term) (List ℕ)). close_by asked items book x) e

pub closing_is : (asked : CloseAsked) (day : ℕ) (items : List Placed) (book : Book) (closing : Closing) → IsClosingOf asked day items book closing
    → close_made asked day items book ≡ closing_outcome asked.entries (asked_of closing)
closing_is asked day items book closing is =
    let terms = closing.query.now.terms.items in
    let same : asked_of closing ≡ closed_over asked items book terms =
    closed_is closing is.query.built is.letters
    ∙ (λ i. over (is.on_is i) (is.into_is i) (is.items_are i) (is.book_is i).txns (letters_in (is.items_are i)) terms) in
    close_is asked day items book (Ok terms) is.query.read ∙ ap (λ (c : Closed). closing_outcome asked.entries c) (sym same)

pub closing_found : (asked : CloseAsked) (day : ℕ) (items : List Placed) (book : Book) (closing : Closing) (chosen : Entries) (r : Result (List ℕ) Refusal)
    → chosen ≡ asked.entries → IsClosingOf asked day items book closing → Finds r (Ok (closing_outcome chosen (asked_of closing))) → Finds r (Ok (close_made asked day items book))
closing_found asked day items book closing chosen r same is h =
    let F : Outcome → Type 0 = λ o. Finds r (Ok o) in
    subst F (ap (λ (e : Entries). closing_outcome e (asked_of closing)) same ∙ sym (closing_is asked day items book closing is)) h

-- ---- where no query was made

pub close_tells : (asked : CloseAsked) (day : ℕ) (items : List Placed) (book : Book) (t : Telling) (fault : QueryFault)
    → Makes day asked.words t.count_before t.count_now t.last_before t.last_now (Err fault)
    → Tells day asked.words t (close_made asked day items book) (of_query fault)
close_tells asked day items book t (query_fault.BadTerm word) h = (close_is asked day items book (Err word) h.0, h.1)
close_tells asked day items book t (query_fault.PatternRefused word) h = h
close_tells asked day items book t query_fault.Memory h = h
