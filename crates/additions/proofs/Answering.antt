-- What is answered of bytes behind a text is right of the whole.
use Rattle.std.proofs.Common.{◌≡◌, ℕ, Bool, true, false, cond, List, ◌++◌, map, Option, Some, None, Result, Ok, Err, refl, sym, ap, subst, ◌∙◌}
use Rattle.std.specs.Prelude.{IfOk, IfSome, find}
use Rattle.std.specs.List.{AllByRecursion, list_all, slice_get}
use Rattle.std.proofs.lemmas.Grind.{flat_map-append}
use Rattle.std.proofs.lemmas.Option.{none-some}
use Rattle.hl_base.specs.Gives.{Gives}
use Rattle.book.specs.Postings.{postings_of, txns_of}
use Rattle.book.specs.declared.fault.Fault.{Fault}
use Rattle.book.specs.declared.item.Book.{Book}
use Rattle.book.specs.declared.item.Placed.{Placed}
use Rattle.book.specs.declared.transaction.Txn.{Txn}
use Rattle.entry_balance.specs.Entry.{moved, moved_by, settled}
use Rattle.entry_balance.specs.Tally.{turnover_fits}
use Rattle.entry_balance.specs.Values.{Value}
use Rattle.entry_balance.proofs.Named.{left_true}
use Rattle.entry_reader.specs.Causes as reading
use Rattle.entry_reader.specs.Causes.{◌>>=◌}
use Rattle.entry_reader.specs.declared.fault.ReadFault.{ReadFault}
use Rattle.entry_reader.specs.declared.fault.ReadFault.TheVariants as reads
use Rattle.balancing.specs.Groups.{Group, groups_of}
use Rattle.balancing.specs.Load.{load}
use Rattle.balancing.specs.Solves.{Solves, are_unmarked}
use Rattle.balancing.proofs.Solving.{load_solves, solves_loads}
use Rattle.balancing.proofs.SolvingBook.{HasNone}
use Rattle.journal_reader.specs.Items.{items_in}
use Rattle.kept_turnover.specs.Keeping.{IsTurnover}
use Rattle.kept_turnover.proofs.Ranged.{ranged}
use Rattle.text_ends.specs.Ends.{end_of}
use Rattle.text_ends.specs.Going.{GoesOn, items_behind}
use Rattle.text_ends.specs.Growth.{MayStand, goes_behind, put_behind}
use Rattle.text_ends.specs.Told.{IsSo, told_behind}
use Rattle.text_ends.specs.declared.kept.KeptEnd.{KeptEnd}
use Rattle.text_ends.specs.declared.reading.Grown.{Grown}
use Rattle.text_ends.proofs.Saying.{goes_on}
use Rattle.text_ends.proofs.Walking.{is_so}
use Rattle.additions.specs.Asked.{has_assigned, last_asked}
use Rattle.additions.specs.Coming.{Coming, added_to_book, are_quiet, comes_to, fault_alone, fault_in, first_unbalanced, has_sums, is_unbalanced, put_apart, stand_apart, stay_in_range, unless_unbalanced, with_book}
use Rattle.additions.specs.Faults.{unread}
use Rattle.additions.specs.Kept.{IsKept}
use Rattle.additions.specs.Meaning.{AddsOn, IsRight, IsTold, IsWhole, Means, ReadsOn, cause_in, load_of}
use Rattle.additions.specs.Words.{GoesOnAs, added_seen, plain_txns, seen}
use Rattle.additions.specs.declared.book_end.Added.{Added}
use Rattle.additions.specs.declared.book_end.BookEnd.{BookEnd}
use Rattle.additions.specs.declared.book_end.Plain.{Plain}
use Rattle.additions.specs.declared.fault.AddFault.{AddFault}
use Rattle.additions.proofs.Handing.{same_asked}
use Rattle.additions.proofs.Booking.{asserted_there, book_is, kept, ms, solves_on}
use Rattle.additions.proofs.Finding.{found_at}
use Rattle.additions.proofs.Grouping.{all_balanced, has_none, unbalanced_behind}
use Rattle.additions.proofs.Joining.{txns_behind}
use Rattle.additions.proofs.Lists.{all_append, all_map}
use Rattle.additions.proofs.Quietly.{all_none}
use Rattle.additions.proofs.Refusing.{refuses}
use Rattle.additions.proofs.Unassigned.{Unassigned, all_unassigned, same_assigned, unassigned}
use Rattle.additions.proofs.Unmarked.{reads_unmarked}

-- ---- what was answered, in its parts

abbrev Verdict : Type 0
Verdict = Result (Option (List Txn)) Fault

-- transactions that stand apart, in range
record AreApart (asked : ℕ) (assigned : Bool) (moves : List Value) (us : List Txn) (r : Verdict) : Type 0 where
  pub quiet : are_quiet asked us ≡ true
  pub fits : stay_in_range moves us ≡ true
  pub is : unless_unbalanced assigned us (first_unbalanced us) ≡ r

chosen_told : (b : Bool) (r : Verdict) (vs : List Txn) → cond {A = Verdict} b r (Ok None) ≡ Ok (Some vs) → (b ≡ true) × (r ≡ Ok (Some vs))
chosen_told true r vs h = (refl, h)
chosen_told false r vs h = absurd (let never : ⊥ = cc in never)

chosen_fault : (b : Bool) (r : Verdict) (f : Fault) → cond {A = Verdict} b r (Ok None) ≡ Err f → (b ≡ true) × (r ≡ Err f)
chosen_fault true r f h = (refl, h)
chosen_fault false r f h = absurd (let never : ⊥ = cc in never)

apart_told : (asked : ℕ) (assigned : Bool) (moves : List Value) (us vs : List Txn) → added_to_book asked assigned moves us ≡ Ok (Some vs) → AreApart asked assigned moves us (Ok (Some vs))
apart_told asked assigned moves us vs h =
    let one = chosen_told (stand_apart asked us) (put_apart assigned moves us) vs h in
    let two = chosen_told (stay_in_range moves us) (unless_unbalanced assigned us (first_unbalanced us)) vs one.1 in
    record { quiet = left_true (are_quiet asked us) (list_all has_sums us) one.0; fits = two.0; is = two.1 }

apart_fault : (asked : ℕ) (assigned : Bool) (moves : List Value) (us : List Txn) (f : Fault) → added_to_book asked assigned moves us ≡ Err f → AreApart asked assigned moves us (Err f)
apart_fault asked assigned moves us f h =
    let one = chosen_fault (stand_apart asked us) (put_apart assigned moves us) f h in
    let two = chosen_fault (stay_in_range moves us) (unless_unbalanced assigned us (first_unbalanced us)) f one.1 in
    record { quiet = left_true (are_quiet asked us) (list_all has_sums us) one.0; fits = two.0; is = two.1 }

none_told : (us vs : List Txn) (o : Option Fault) (assigned : Bool) → unless_unbalanced assigned us o ≡ Ok (Some vs) → (o ≡ None) × (vs ≡ map settled us)
none_told us vs None assigned h = (refl, let same : map settled us ≡ vs = cc in sym same)
none_told us vs (Some f) true h = absurd (let never : ⊥ = cc in never)
none_told us vs (Some f) false h = absurd (let never : ⊥ = cc in never)

some_told : (us : List Txn) (f : Fault) (o : Option Fault) (assigned : Bool) → unless_unbalanced assigned us o ≡ Err f → (o ≡ Some f) × (assigned ≡ false)
some_told us f None assigned h = absurd (let never : ⊥ = cc in never)
some_told us f (Some x) true h = absurd (let never : ⊥ = cc in never)
some_told us f (Some x) false h = let same : x ≡ f = cc in (ap (λ (y : Fault). Some y) same, refl)

abbrev with_read : Grown → Verdict → Result (Option Coming) Fault
with_read g r = r >>= λ plain. Ok (Some (g, plain))

read_told : (g : Grown) (r : Verdict) (a : Added) → with_read g r ≡ Ok (Some (added_seen a)) → (r ≡ Ok (plain_txns a.plain)) × (g ≡ a.grown)
read_told g (Ok o) a h =
    let same : (let c : Coming = (g, o) in c) ≡ added_seen a = cc in
    (ap (λ (c : Coming). let r : Verdict = Ok c.1 in r) same, ap (λ (c : Coming). c.0) same)
read_told g (Err f) a h = absurd (let never : ⊥ = cc in never)

read_fault : (g : Grown) (r : Verdict) (f : Fault) → with_read g r ≡ Err f → r ≡ Err f
read_fault g (Ok o) f h = absurd (let never : ⊥ = cc in never)
read_fault g (Err x) f h = let same : x ≡ f = cc in ap (λ (y : Fault). let r : Verdict = Err y in r) same

-- ---- the fault of the first group

record IsFirst (txns : List Txn) (f : Fault) : Type 0 where
  pub group : Group
  pub found : find (λ g. is_unbalanced (slice_get txns g.1)) (groups_of txns) ≡ Some group
  pub is : fault_alone (slice_get txns group.1) ≡ Some f

first_of : (txns : List Txn) (f : Fault) (o : Option Group) → find (λ g. is_unbalanced (slice_get txns g.1)) (groups_of txns) ≡ o → fault_in txns o ≡ Some f → IsFirst txns f
first_of txns f None e h = absurd (none-some f h)
first_of txns f (Some g) e h = record { group = g; found = e; is = h }

first_is : (txns : List Txn) (f : Fault) → first_unbalanced txns ≡ Some f → IsFirst txns f
first_is txns f h = first_of txns f (find (λ g. is_unbalanced (slice_get txns g.1)) (groups_of txns)) refl h

-- ---- the whole

moved_on : (ts vs : List Txn) → moved (postings_of (ts ++ vs)) ≡ moved (postings_of ts) ++ moved (postings_of vs)
moved_on ts vs = ap moved (flat_map-append (λ (t : Txn). t.postings) ts vs) ∙ flat_map-append moved_by (postings_of ts) (postings_of vs)

-- A text reads as items that load to transactions, and this is kept of its end and of what its book asks.
record Stands (year : Option ℕ) (text : List ℕ) (items : List Placed) (ts : List Txn) (e : KeptEnd) (asked : ℕ) (assigned : Bool) : Type 0 where
  pub read : items_in year text ≡ Ok items
  pub loads : load items ≡ Ok (record { txns = ts })
  pub end : e ≡ end_of year text items
  pub last : asked ≡ last_asked ts
  pub none : assigned ≡ has_assigned ts

module _ (e : KeptEnd) (bytes : List ℕ) (asked : ℕ) (assigned : Bool) (may : goes_behind e bytes ≡ true) (year : Option ℕ) (text : List ℕ) (items : List Placed) (ts : List Txn) (k : Stands year text items ts e asked assigned) where
  goes : GoesOn year text bytes items
  goes = goes_on year text bytes items k.read (ap (λ (x : KeptEnd). goes_behind x bytes) (sym k.end) ∙ may)

  abbrev finish : Result Grown Fault → Result (List Placed) Fault
  finish r = r >>= λ g. Ok (items_behind items g)

  whole_is : items_in year (text ++ bytes) ≡ finish (put_behind e bytes)
  whole_is = goes.read ∙ ap (λ (x : KeptEnd). finish (put_behind x bytes)) (sym k.end)

  -- bytes that don't read
  unread_is : (f : Fault) → put_behind e bytes ≡ Err f → load_of year (text ++ bytes) ≡ Err f
  unread_is f h = ap (λ (r : Result (List Placed) Fault). r >>= load) (whole_is ∙ ap finish h)

  abbrev book : Book
  book = record { txns = ts }

  abbrev ws : List Txn
  ws = txns_of items

  solves : Solves ws ts
  solves = load_solves items book (reads_unmarked year text items k.read) k.loads

  abbrev moves : List Value
  moves = moved (postings_of ts)

  module _ (g : Grown) (so : put_behind e bytes ≡ Ok g) where
    abbrev us : List Txn
    us = txns_of g.items

    abbrev all : List Placed
    all = items_behind items g

    read : items_in year (text ++ bytes) ≡ Ok all
    read = whole_is ∙ ap finish so

    written : txns_of all ≡ ws ++ us
    written = txns_behind items g

    reads_on : ReadsOn year text bytes items g
    reads_on = record { read = read; written = written }

    unmarked : are_unmarked (ws ++ us) ≡ true
    unmarked = ap are_unmarked (sym written) ∙ reads_unmarked year (text ++ bytes) all read

    module _ (r : Verdict) (apart : AreApart asked assigned moves us r) where
      quiet : are_quiet (last_asked ts) us ≡ true
      quiet = ap (λ (day : ℕ). are_quiet day us) (sym k.last) ∙ apart.quiet

      fits : turnover_fits (moved (postings_of (ts ++ map settled us))) ≡ true
      fits = ap turnover_fits (moved_on ts (map settled us)) ∙ apart.fits

      abbrev made : List Txn
      made = ms ws us ts solves quiet

      fits_made : turnover_fits (moved (postings_of (map settled made))) ≡ true
      fits_made = ap (λ (x : List Txn). turnover_fits (moved (postings_of x))) (book_is ws us ts solves quiet) ∙ fits

      -- where nothing of the book is an assignment, nothing is written as one
      none_at_all : assigned ≡ false → AllByRecursion Unassigned (ws ++ us)
      none_at_all none =
          all_append Unassigned ws us (unassigned ws solves.made ts solves.kept solves.found (sym k.none ∙ none)) (all_unassigned (last_asked ts) us quiet)

      refused : (f : Fault) → first_unbalanced us ≡ Some f → assigned ≡ false → load all ≡ Err f
      refused f h none =
          let first = first_is made f (unbalanced_behind solves.made us solves.balanced ∙ h) in
          let found = found_at (λ n. is_unbalanced (slice_get made n.1)) (groups_of made) first.group first.found in
          let sound = all_map (λ (n : Group). is_unbalanced (slice_get made n.1) ≡ false) (λ n. HasNone (slice_get made n.1)) (λ n none. has_none (slice_get made n.1) none) found.before found.none in
          refuses (ws ++ us) made (kept ws us ts solves quiet) (none_at_all none) (asserted_there ws us ts solves quiet) fits_made
          found.before first.group found.after found.is sound f first.is all written

      solved : first_unbalanced us ≡ None → Solves (ws ++ us) (ts ++ map settled us)
      solved h = solves_on ws us ts solves quiet unmarked (all_balanced us h) fits

      loads_on : first_unbalanced us ≡ None → (vs : List Txn) → vs ≡ map settled us → load all ≡ Ok (record { txns = ts ++ vs })
      loads_on h vs is =
          let there : Solves (txns_of all) (ts ++ vs) =
          subst (λ (x : List Txn). Solves x (ts ++ vs)) (sym written) (subst (λ (x : List Txn). Solves (ws ++ us) (ts ++ x)) (sym is) (solved h)) in
          let more : Book = record { txns = ts ++ vs } in
          solves_loads all more there

      fits_on : (vs : List Txn) → vs ≡ map settled us → turnover_fits (moved (postings_of (ts ++ vs))) ≡ true
      fits_on vs is = ap (λ (x : List Txn). turnover_fits (moved (postings_of (ts ++ x)))) is ∙ fits

      asked_on : (vs : List Txn) → vs ≡ map settled us → last_asked (ts ++ vs) ≡ last_asked ts
      asked_on vs is = ap (λ (x : List Txn). last_asked (ts ++ x)) is ∙ same_asked ts (map settled us) (all_none (last_asked ts) us quiet)

      assigned_on : (vs : List Txn) → vs ≡ map settled us → has_assigned (ts ++ vs) ≡ has_assigned ts
      assigned_on vs is = ap (λ (x : List Txn). has_assigned (ts ++ x)) is ∙ same_assigned ts (map settled us) (all_none (last_asked ts) us quiet)

    -- what comes behind the book, where it is told
    loads_told : (vs : List Txn) → added_to_book asked assigned moves us ≡ Ok (Some vs) → load all ≡ Ok (record { txns = ts ++ vs })
    loads_told vs h =
        let apart = apart_told asked assigned moves us vs h in
        let parts = none_told us vs (first_unbalanced us) assigned apart.is in
        loads_on (Ok (Some vs)) apart parts.0 vs parts.1

    wrong : (f : Fault) → with_book asked assigned moves (Some g) ≡ Err f → load_of year (text ++ bytes) ≡ Err f
    wrong f h =
        let apart = apart_fault asked assigned moves us f (read_fault g (added_to_book asked assigned moves us) f h) in
        let parts = some_told us f (first_unbalanced us) assigned apart.is in
        ap (λ (x : Result (List Placed) Fault). x >>= load) read ∙ refused (Err f) apart f parts.0 parts.1

-- ---- by what is kept of a book

module _ (e : KeptEnd) (bytes : List ℕ) (b : BookEnd) (may : goes_behind e bytes ≡ true) (year : Option ℕ) (text : List ℕ) (items : List Placed) (ts : List Txn) (k : IsKept year text items ts e b) where
  stands : Stands year text items ts e b.asked b.assigned
  stands = record { read = k.read; loads = k.loads; end = k.end; last = k.known.asked; none = k.known.assigned }

  abbrev values : List Value
  values = moved (postings_of ts)

  module _ (g : Grown) (so : put_behind e bytes ≡ Ok g) where
    abbrev new : List Txn
    new = txns_of g.items

    adds : (r : Verdict) (apart : AreApart b.asked b.assigned values new r) → first_unbalanced new ≡ None → (p : Plain) → p.txns ≡ map settled new → GoesOnAs b p → AddsOn items ts g p
    adds r apart h p is goes_as =
        let asked : p.end.asked ≡ last_asked (ts ++ p.txns) =
        goes_as.asked ∙ k.known.asked ∙ sym (asked_on e bytes b.asked b.assigned may year text items ts stands g so r apart p.txns is) in
        let assigned : p.end.assigned ≡ has_assigned (ts ++ p.txns) =
        goes_as.assigned ∙ k.known.assigned ∙ sym (assigned_on e bytes b.asked b.assigned may year text items ts stands g so r apart p.txns is) in
        let turned : IsTurnover p.end.turnover (moved (postings_of (ts ++ p.txns))) =
        subst (IsTurnover p.end.turnover) (sym (moved_on ts p.txns)) (goes_as.moves values k.known.moves) in
        record {
          loads = loads_on e bytes b.asked b.assigned may year text items ts stands g so r apart h p.txns is;
          known = record { asked = asked; assigned = assigned; moves = turned };
          fits = ranged (postings_of (ts ++ p.txns)) turned.few (fits_on e bytes b.asked b.assigned may year text items ts stands g so r apart p.txns is);
        }

    -- what comes behind the book, if that is told
    adds_if : (o : Option Plain) → added_to_book b.asked b.assigned values new ≡ Ok (plain_txns o) → IfSome o (GoesOnAs b) → IfSome o (AddsOn items ts g)
    adds_if None h goes_as = tt
    adds_if (Some p) h goes_as =
        let apart = apart_told b.asked b.assigned values new p.txns h in
        let parts = none_told new p.txns (first_unbalanced new) b.assigned apart.is in
        adds (Ok (Some p.txns)) apart parts.0 p parts.1 goes_as

    right : (a : Added) → with_book b.asked b.assigned values (Some g) ≡ Ok (Some (added_seen a)) → IfSome a.plain (GoesOnAs b) → IsRight year text bytes items ts a
    right a h goes_as =
        let parts = read_told g (added_to_book b.asked b.assigned values new) a h in
        record {
          reads = subst (ReadsOn year text bytes items) parts.1 (reads_on e bytes b.asked b.assigned may year text items ts stands g so);
          adds = subst (λ (x : Grown). IfSome a.plain (AddsOn items ts x)) parts.1 (adds_if a.plain parts.0 goes_as);
        }

    of_cause : (o : Option Fault) → IfSome o (λ f. with_book b.asked b.assigned values (Some g) ≡ Err f) → IfSome o (λ f. load_of year (text ++ bytes) ≡ Err f)
    of_cause None h = tt
    of_cause (Some f) h = wrong e bytes b.asked b.assigned may year text items ts stands g so f h

    told_some : (answer : Result (Option Added) AddFault) → Gives seen cause_in answer (with_book b.asked b.assigned values (Some g)) → IfOk answer (λ o. IfSome o (λ a. IfSome a.plain (GoesOnAs b))) → IsTold year text bytes items ts answer
    told_some (Ok None) h goes_as = tt
    told_some (Ok (Some a)) h goes_as = right a h goes_as
    told_some (Err f) h goes_as = of_cause (cause_in f) h

  no_cause : (o : Option Fault) (r : Result (Option Coming) Fault) (c : Option Coming) → r ≡ Ok c → IfSome o (λ f. r ≡ Err f) → IfSome o (λ f. load_of year (text ++ bytes) ≡ Err f)
  no_cause None r c e h = tt
  no_cause (Some f) r c e h = absurd (let never : ⊥ = cc in never)

  -- of bytes with a directive nothing is told
  told_none : (answer : Result (Option Added) AddFault) → Gives seen cause_in answer (with_book b.asked b.assigned values None) → IsTold year text bytes items ts answer
  told_none (Ok None) h = tt
  told_none (Ok (Some a)) h = absurd (let never : ⊥ = cc in never)
  told_none (Err f) h = no_cause (cause_in f) (with_book b.asked b.assigned values None) None refl h

-- What is answered of what was read means what it says.
pub means_told : (e : KeptEnd) (bytes : List ℕ) (b : BookEnd) (told : Option Grown) (answer : Result (Option Added) AddFault) → MayStand e bytes → IsSo (Ok told) (put_behind e bytes)
    → ((moves : List Value) → IsTurnover b.turnover moves → Gives seen cause_in answer (with_book b.asked b.assigned moves told))
    → IfOk answer (λ o. IfSome o (λ a. IfSome a.plain (GoesOnAs b))) → Means e bytes b answer
means_told e bytes b None answer may so gives goes_as year text items ts k = told_none e bytes b may.goes year text items ts k answer (gives (moved (postings_of ts)) k.known.moves)
means_told e bytes b (Some g) answer may so gives goes_as year text items ts k = told_some e bytes b may.goes year text items ts k g so answer (gives (moved (postings_of ts)) k.known.moves) goes_as

-- and so does the fault of bytes that don't read
pub means_unread : (e : KeptEnd) (bytes : List ℕ) (b : BookEnd) (f : ReadFault) → MayStand e bytes → IsSo (Err f) (put_behind e bytes) → Means e bytes b (Err (unread f))
means_unread e bytes b (reads.Read fault) may so year text items ts k = unread_is e bytes b.asked b.assigned may.goes year text items ts (stands e bytes b may.goes year text items ts k) fault so
means_unread e bytes b reads.Memory may so year text items ts k = tt

-- ---- the definition

module _ (year : Option ℕ) (text bytes : List ℕ) (items : List Placed) (ts : List Txn) (e : KeptEnd) (asked : ℕ) (assigned : Bool) (may : goes_behind e bytes ≡ true) (k : Stands year text items ts e asked assigned) where
  of_verdict : (g : Grown) → put_behind e bytes ≡ Ok g → (r : Verdict) → added_to_book asked assigned (moved (postings_of ts)) (txns_of g.items) ≡ r → IsWhole year text bytes items ts (with_read g r)
  of_verdict g so (Ok None) h = reads_on e bytes asked assigned may year text items ts k g so
  of_verdict g so (Ok (Some vs)) h = (reads_on e bytes asked assigned may year text items ts k g so, loads_told e bytes asked assigned may year text items ts k g so vs h)
  of_verdict g so (Err f) h = wrong e bytes asked assigned may year text items ts k g so f (ap (with_read g) h)

  of_told : (r : Result (Option Grown) Fault) → told_behind e bytes ≡ r → IsWhole year text bytes items ts (r >>= with_book asked assigned (moved (postings_of ts)))
  of_told (Ok None) h = tt
  of_told (Ok (Some g)) h = of_verdict g (is_so e bytes (Ok (Some g)) h) (added_to_book asked assigned (moved (postings_of ts)) (txns_of g.items)) refl
  of_told (Err f) h = unread_is e bytes asked assigned may year text items ts k f (is_so e bytes (Err (reads.Read f)) h)

-- What bytes come to behind a text and its book is what a load of the whole gives.
pub whole_told : (year : Option ℕ) (text bytes : List ℕ) (items : List Placed) (ts : List Txn) → items_in year text ≡ Ok items → load items ≡ Ok (record { txns = ts }) → goes_behind (end_of year text items) bytes ≡ true
    → IsWhole year text bytes items ts (comes_to (end_of year text items) (last_asked ts) (has_assigned ts) (moved (postings_of ts)) bytes)
whole_told year text bytes items ts read loads may =
    let e = end_of year text items in
    of_told year text bytes items ts e (last_asked ts) (has_assigned ts) may (record { read = read; loads = loads; end = refl; last = refl; none = refl }) (told_behind e bytes) refl

-- the fault of bytes that don't read, as it is told
pub unread_told : (e : KeptEnd) (asked : ℕ) (assigned : Bool) (values : List Value) (bytes : List ℕ) (f : ReadFault) → IfSome (reading.cause_in f) (λ fault. told_behind e bytes ≡ Err fault) → IfSome (cause_in (unread f)) (λ fault. comes_to e asked assigned values bytes ≡ Err fault)
unread_told e asked assigned values bytes (reads.Read fault) h = ap (λ (r : Result (Option Grown) Fault). r >>= with_book asked assigned values) h
unread_told e asked assigned values bytes reads.Memory h = tt
