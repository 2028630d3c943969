-- What an entry comes to that is added.
use Rattle.std.proofs.Common.{◌≡◌, ℕ, ◌+◌, ◌<◌, ◌≤◌, Bool, true, false, cond, List, [], ◌∷◌, ◌++◌, length, map, find, not, ◌||◌, Option, Some, None, is_some, Result, Ok, Err, refl, sym, ap, subst, ◌∙◌, arith, append-nil, length-append}
use Rattle.std.specs.Prelude.{IfOk, IfSome, IsSome, nat_le}
use Rattle.std.specs.List.{AllByRecursion, list_any}
use Rattle.std.proofs.lemmas.Bool.{false≢true}
use Rattle.hl_base.specs.Counts.{Counts}
use Rattle.hl_base.specs.Gives.{Gives}
use Rattle.hl_base.specs.Items.{items_of}
use Rattle.hl_base.specs.Limits.{item_limit, text_limit}
use Rattle.hl_base.specs.declared.items.Kind.{Kind}
use Rattle.hl_base.specs.declared.items.Kind.TheVariants as kinds
use Rattle.hl_base.specs.declared.items.Piece.{Piece}
use Rattle.book.specs.Postings.{postings_of, txns_of}
use Rattle.book.specs.declared.fault.Fault.{Fault}
use Rattle.book.specs.declared.item.Book.{Book}
use Rattle.book.specs.declared.item.Placed.{Placed}
use Rattle.book.specs.declared.transaction.Txn.{Txn}
use Rattle.entry_balance.specs.Entry.{moved}
use Rattle.entry_balance.specs.Tally.{turnover_fits}
use Rattle.entry_balance.specs.Values.{Value}
use Rattle.entry_reader.specs.Causes.{◌>>=◌}
use Rattle.journal_reader.specs.Items.{items_in}
use Rattle.balancing.specs.Load.{load}
use Rattle.balancing.specs.Solves.{Solves}
use Rattle.kept_turnover.specs.Keeping.{IsTurnover}
use Rattle.text_ends.specs.Ends.{end_of}
use Rattle.text_ends.specs.Going.{GoesOn, items_behind}
use Rattle.text_ends.specs.Growth.{MayStand, goes_behind, put_behind, rest_of}
use Rattle.text_ends.specs.Told.{as_told, is_head, told_behind}
use Rattle.text_ends.specs.Whole.{ComesTo, IsMeasured}
use Rattle.text_ends.specs.declared.kept.KeptEnd.{KeptEnd}
use Rattle.text_ends.specs.declared.reading.Grown.{Grown}
use Rattle.text_ends.proofs.Saying.{goes_on}
use Rattle.additions.specs.Adding.{added}
use Rattle.additions.specs.Asked.{has_assigned, last_asked}
use Rattle.additions.specs.Coming.{Coming, added_to_book, comes_to, unless_unbalanced, with_book}
use Rattle.additions.specs.Kept.{IsBookEnd, IsKept}
use Rattle.additions.specs.Meaning.{IsRight, IsTold, Means, cause_in, load_of}
use Rattle.additions.specs.Words.{added_seen, plain_txns, seen}
use Rattle.additions.specs.declared.book_end.Added.{Added}
use Rattle.additions.specs.declared.book_end.BookEnd.{BookEnd}
use Rattle.additions.specs.declared.book_end.Plain.{Plain}
use Rattle.additions.specs.declared.fault.AddFault.{AddFault}
use Rattle.additions.specs.declared.fault.AddFault.TheVariants as add
use Rattle.additions.proofs.Unended.{added_behind, added_told}
use Rattle.reached_walk.specs.Closed.{edits_of}
use Rattle.walked_texts.specs.Making.{edit_behind}
use Rattle.loaded_texts.specs.Growing.{IsGrown}
use Rattle.loaded_texts.specs.Keeping.{IsLoaded}
use Rattle.loaded_texts.specs.declared.loaded.Loaded.{Loaded}
use Rattle.loaded_texts.proofs.Loads.{loaded_solves}
use Rattle.loaded_texts.proofs.Pieces.{count_read, end_measured}
use Rattle.live_journal.specs.declared.edit.Edit.{Edit}
use Rattle.live_journal.specs.declared.edit.Edit.TheVariants.{Add, Change, Replace}
use Rattle.live_journal.specs.declared.editing.Editing.{Editing}
use Rattle.live_journal.specs.declared.fault.EditFault.{EditFault}
use Rattle.live_journal.specs.Checking.{put_in, size_of}
use Rattle.live_journal.specs.Edits.{applied, splice_of}
use Rattle.live_journal.specs.Faults.{added_refusal}
use Rattle.live_journal.specs.Journals.{Journal}
use Rattle.live_journal.specs.Loading.{book_from, book_of, fault_of, first_of, reading_in}
use Rattle.live_journal.specs.Reading.{coming_from, coming_in, is_faulty, is_misread, is_quiet, stands_behind}
use Rattle.live_journal.specs.Refusals.{TellsRefusal, at_line, is_entry, is_gap, no_entry, not_transactions, other_piece}
use Rattle.live_journal.specs.Trying.{IsAdd, IsBehind, IsComing, IsEditing, journal_at}
use Rattle.live_journal.specs.Walking.{edit_made, is_plain_edit, written_from, written_in}
use Rattle.live_journal.proofs.Limits.{book_load, faulty}

-- ---- the entry of an edit that adds one

pub record OfEntry (edit : Edit) : Type 0 where
  pub entry : List ℕ
  pub is : edit ≡ Add entry

pub entry_of : (edit : Edit) → IsAdd edit → OfEntry edit
entry_of (Add entry) h = record { entry = entry; is = refl }
entry_of (Change base item entry) h = absurd h
entry_of (Replace base text) h = absurd h

pub adds_plain : (edit : Edit) → IsAdd edit → is_plain_edit edit ≡ true
adds_plain (Add entry) h = refl
adds_plain (Change base item entry) h = absurd h
adds_plain (Replace base text) h = absurd h

-- ---- where it stands

module _ (e : Editing) (is : IsEditing e) where
  -- the bytes that are counted
  pub put_length : put_in (journal_at e) e.edit.now ≡ length e.bytes.now
  put_length = sym (ap length is.put)

  pub size_length : size_of (journal_at e) e.edit.now ≡ length e.new.now
  size_length = sym (ap length is.makes)

  bytes_added : (entry : List ℕ) → e.edit.now ≡ Add entry → e.bytes.now ≡ added e.text.now entry
  bytes_added entry of = is.put ∙ ap (λ (d : Edit). (splice_of e.text.now d).inserted) of

  pub add_behind : (l : Loaded) → IsAdd e.edit.now → IsLoaded e.year e.text.now l → IsBehind e l
  add_behind l h loaded =
      let of = entry_of e.edit.now h in
      let kept = loaded.of_text in
      let bytes = bytes_added of.entry of.is in
      record {
        whole = is.makes ∙ ap (applied e.text.now) of.is ∙ ap (λ (b : List ℕ). e.text.now ++ b) (sym bytes);
        goes = ap (λ (k : KeptEnd). goes_behind k e.bytes.now) kept.end ∙ ap (goes_behind (end_of e.year e.text.now l.items)) bytes ∙ added_behind e.year e.text.now of.entry l.items;
      }

-- ---- how many items the whole has

pub count_whole : (e : Editing) (l : Loaded) → IsLoaded e.year e.text.now l → IsBehind e l → length l.items + length (items_of (rest_of l.text.end e.bytes.now)) ≡ length (items_of e.new.now)
count_whole e l loaded behind =
    let kept = loaded.of_text in
    let end : l.text.end ≡ end_of e.year e.text.now l.items = kept.end in
    let goes : goes_behind (end_of e.year e.text.now l.items) e.bytes.now ≡ true = ap (λ (k : KeptEnd). goes_behind k e.bytes.now) (sym end) ∙ behind.goes in
    let on = goes_on e.year e.text.now e.bytes.now l.items loaded.read goes in
    let rest : rest_of l.text.end e.bytes.now ≡ rest_of (end_of e.year e.text.now l.items) e.bytes.now = ap (λ (k : KeptEnd). rest_of k e.bytes.now) end in
    let count : length (items_of (e.text.now ++ e.bytes.now)) ≡ length (items_of e.text.now) + length (items_of (rest_of (end_of e.year e.text.now l.items) e.bytes.now)) = on.count in
    omega (arith, count, count_read e.year e.text.now l.items loaded.read, ap (λ (t : List ℕ). length (items_of t)) rest, ap (λ (t : List ℕ). length (items_of t)) behind.whole)

-- it may stand there
pub may_stand : (e : Editing) (l : Loaded) → IsLoaded e.year e.text.now l → IsBehind e l → length e.new.now ≤ text_limit → MayStand l.text.end e.bytes.now
may_stand e l loaded behind short =
    let kept = loaded.of_text in
    let measured = subst IsMeasured (sym kept.end) (end_measured e.year e.text.now l.items) in
    record {
      few = omega (arith, short, ap length behind.whole, length-append e.text.now e.bytes.now, ap (λ (k : KeptEnd). k.bytes) kept.end);
      lines = measured.lines;
      goes = behind.goes;
    }

-- ---- an entry has no directive

no_head : (k : Kind) → (is_entry k || is_gap k) ≡ true → is_head k ≡ false
no_head kinds.Entry h = refl
no_head kinds.Gap h = refl
no_head kinds.Block h = absurd (false≢true h)
no_head kinds.Head h = absurd (false≢true h)
no_head kinds.Stray h = absurd (false≢true h)

line_none : (o : Option Piece) → at_line o ≡ None → o ≡ None
line_none None h = refl
line_none (Some p) h = absurd (let never : ⊥ = cc in never)

others_by : (p : Piece) (ps : List Piece) (b : Bool) → (is_entry p.kind || is_gap p.kind) ≡ b → cond (not b) (Some p) (find (λ q. not (is_entry q.kind || is_gap q.kind)) ps) ≡ None
    → (find (λ q. not (is_entry q.kind || is_gap q.kind)) ps ≡ None → AllByRecursion (λ q. is_head q.kind ≡ false) ps) → AllByRecursion (λ q. is_head q.kind ≡ false) (p ∷ ps)
others_by p ps true e k rest = (no_head p.kind e, rest k)
others_by p ps false e k rest = absurd (let never : ⊥ = cc in never)

others_none : (ps : List Piece) → find (λ p. not (is_entry p.kind || is_gap p.kind)) ps ≡ None → AllByRecursion (λ p. is_head p.kind ≡ false) ps
others_none [] h = tt
others_none (p ∷ ps) h = others_by p ps (is_entry p.kind || is_gap p.kind) refl h (others_none ps)

first_none : (a b : Option EditFault) → first_of (a ∷ b ∷ []) ≡ None → a ≡ None
first_none None b h = refl
first_none (Some x) b h = absurd (let never : ⊥ = cc in never)

entry_heads : (ps : List Piece) (entry : List ℕ) → not_transactions ps (Add entry) ≡ None → AllByRecursion (λ p. is_head p.kind ≡ false) (items_of entry)
entry_heads ps entry h = others_none (items_of entry) (line_none _ (first_none (other_piece (items_of entry)) (no_entry (items_of entry)) h))

-- ---- what it comes to

-- transactions that are put behind a book are some, where others may change with them
unless_some : (assigned : Bool) (o : Option Fault) → o ≡ None → unless_unbalanced assigned [] o ≡ Ok None → ⊥
unless_some assigned o none h = let k : unless_unbalanced assigned [] None ≡ Ok None = ap (unless_unbalanced assigned []) (sym none) ∙ h in let never : ⊥ = cc in never

none_put : (fits : Bool) (r : Result (Option (List Txn)) Fault) → fits ≡ true → (r ≡ Ok None → ⊥) → cond fits r (Ok None) ≡ Ok None → ⊥
none_put true r e never h = never h
none_put false r e never h = absurd (false≢true e)

some_txns : (asked : ℕ) (assigned : Bool) (moves : List Value) (txns : List Txn) → turnover_fits moves ≡ true → added_to_book asked assigned moves txns ≡ Ok None → 0 < length txns
some_txns asked assigned moves [] fits h =
    absurd (none_put (turnover_fits (moves ++ [])) (unless_unbalanced assigned [] None) (ap turnover_fits (append-nil moves) ∙ fits) (unless_some assigned None refl) h)
some_txns asked assigned moves (t ∷ ts) fits h = omega arith

-- what was told of bytes without a directive
record IsComingTo (asked : ℕ) (assigned : Bool) (moves : List Value) (g : Grown) (plain : Option (List Txn)) : Type 0 where
  pub is : added_to_book asked assigned moves (txns_of g.items) ≡ Ok plain

grown_in : Grown → Result (Option Coming) Fault → Grown
grown_in g (Ok (Some (f, p))) = f
grown_in g (Ok None) = g
grown_in g (Err x) = g

plain_in : Option (List Txn) → Result (Option Coming) Fault → Option (List Txn)
plain_in q (Ok (Some (f, p))) = p
plain_in q (Ok None) = q
plain_in q (Err x) = q

put_of : (asked : ℕ) (assigned : Bool) (moves : List Value) (g f : Grown) (r : Result (Option (List Txn)) Fault) (plain : Option (List Txn)) → r ≡ added_to_book asked assigned moves (txns_of g.items)
    → (let s : Result (Option Coming) Fault = r >>= λ p. Ok (Some (g, p)) in s) ≡ Ok (Some (f, plain)) → IsComingTo asked assigned moves f plain
unfolding grown_in plain_in
put_of asked assigned moves g f (Ok p) plain e h =
    let same : g ≡ f = ap (grown_in g) h in
    let plain_is : p ≡ plain = ap (plain_in p) h in
    record { is = ap (λ (x : Grown). added_to_book asked assigned moves (txns_of x.items)) (sym same) ∙ sym e ∙ ap (λ (o : Option (List Txn)). let s : Result (Option (List Txn)) Fault = Ok o in s) plain_is }
put_of asked assigned moves g f (Err x) plain e h = absurd (let never : ⊥ = cc in never)

told_of : (asked : ℕ) (assigned : Bool) (moves : List Value) (r : Result Grown Fault) (f : Grown) (plain : Option (List Txn)) → (as_told r >>= with_book asked assigned moves) ≡ Ok (Some (f, plain)) → IsComingTo asked assigned moves f plain
told_of asked assigned moves (Ok g) f plain h = put_of asked assigned moves g f (added_to_book asked assigned moves (txns_of g.items)) plain refl h
told_of asked assigned moves (Err x) f plain h = absurd (let never : ⊥ = cc in never)

put_never : (g : Grown) (r : Result (Option (List Txn)) Fault) → (let s : Result (Option Coming) Fault = r >>= λ p. Ok (Some (g, p)) in s) ≡ Ok None → ⊥
put_never g (Ok p) h = let never : ⊥ = cc in never
put_never g (Err x) h = let never : ⊥ = cc in never

told_never : (asked : ℕ) (assigned : Bool) (moves : List Value) (r : Result Grown Fault) → (as_told r >>= with_book asked assigned moves) ≡ Ok None → ⊥
told_never asked assigned moves (Ok g) h = put_never g (added_to_book asked assigned moves (txns_of g.items)) h
told_never asked assigned moves (Err x) h = let never : ⊥ = cc in never

stands_some : (g : Grown) (p : Option Plain) → stands_behind (Ok (Some (g, plain_txns p))) ≡ is_some p
stands_some g None = refl
stands_some g (Some x) = refl

none_is : (p : Option Plain) → is_some p ≡ false → plain_txns p ≡ None
none_is None h = refl
none_is (Some x) h = absurd (false≢true (sym h))

module _ (e : Editing) (l : Loaded) (is : IsEditing e) (loaded : IsLoaded e.year e.text.now l) (adds : IsAdd e.edit.now) (entries : not_transactions (items_of e.text.now) e.edit.now ≡ None) where
  of : OfEntry e.edit.now
  of = entry_of e.edit.now adds

  abbrev moves : List Value
  moves = moved (postings_of l.book.txns)

  bytes_are : e.bytes.now ≡ added e.text.now of.entry
  bytes_are = bytes_added e is of.entry of.is

  kept : IsKept e.year e.text.now l.items l.book.txns l.text.end l.end
  kept = record { read = loaded.read; loads = loaded.loads; end = (loaded.of_text).end; known = loaded.of_end }

  no_heads : AllByRecursion (λ p. is_head p.kind ≡ false) (items_of of.entry)
  no_heads = entry_heads (items_of e.text.now) of.entry (ap (not_transactions (items_of e.text.now)) (sym of.is) ∙ entries)

  -- all of it is told
  all_told : told_behind l.text.end e.bytes.now ≡ as_told (put_behind l.text.end e.bytes.now)
  all_told =
      let end : l.text.end ≡ end_of e.year e.text.now l.items = (loaded.of_text).end in
      (λ i. told_behind (end i) (bytes_are i)) ∙ added_told e.year e.text.now of.entry l.items no_heads ∙ sym (λ i. as_told (put_behind (end i) (bytes_are i)))

  abbrev comes : Result (Option Coming) Fault
  comes = comes_to l.text.end l.end.asked l.end.assigned moves e.bytes.now

  comes_as : comes ≡ (as_told (put_behind l.text.end e.bytes.now) >>= with_book l.end.asked l.end.assigned moves)
  comes_as = ap (λ (r : Result (Option Grown) Fault). r >>= with_book l.end.asked l.end.assigned moves) all_told

  turns : IsTurnover l.end.turnover moves
  turns = (loaded.of_end).moves

  -- something is told
  pub comes_some : (o : Option Added) → ((values : List Value) → IsTurnover l.end.turnover values → comes_to l.text.end l.end.asked l.end.assigned values e.bytes.now ≡ Ok (seen o)) → IsSome o
  comes_some (Some a) h = refl
  comes_some None h = absurd (told_never l.end.asked l.end.assigned moves (put_behind l.text.end e.bytes.now) (sym comes_as ∙ h moves turns))

  coming_is : coming_in (journal_at e) of.entry ≡ comes
  coming_is =
      let book : book_of e.year e.text.now ≡ Ok l.book = ap book_from loaded.read ∙ loaded.loads in
      let known = loaded.of_end in
      let end : end_of e.year e.text.now l.items ≡ l.text.end = sym (loaded.of_text).end in
      (λ i. coming_from e.year e.text.now (loaded.read i) (book i) (added e.text.now of.entry))
      ∙ (λ i. comes_to (end i) (sym known.asked i) (sym known.assigned i) moves (sym bytes_are i))

  module _ (a : Added) (short : length e.new.now ≤ text_limit) (many : length (items_of e.new.now) ≤ item_limit)
      (value : comes ≡ Ok (Some (added_seen a))) (told : told_behind l.text.end e.bytes.now ≡ Ok (Some a.grown)) (right : IsRight e.year e.text.now e.bytes.now l.items l.book.txns a) where
    behind : IsBehind e l
    behind = add_behind e is l adds loaded

    seen_is : coming_in (journal_at e) of.entry ≡ Ok (Some (a.grown, plain_txns a.plain))
    seen_is = coming_is ∙ value

    reading : IsComingTo l.end.asked l.end.assigned moves a.grown (plain_txns a.plain)
    reading = told_of l.end.asked l.end.assigned moves (put_behind l.text.end e.bytes.now) a.grown (plain_txns a.plain) (sym comes_as ∙ value)

    reached : edit_made (journal_at e) e.edit.now ≡ edit_behind l.items a.grown
    reached =
        let front : written_in e.year e.text.now ≡ txns_of l.items = ap written_from loaded.read in
        let all : written_in e.year (applied e.text.now (Add of.entry)) ≡ txns_of (items_behind l.items a.grown) =
        ap (written_in e.year) (ap (applied e.text.now) (sym of.is) ∙ sym is.makes ∙ behind.whole) ∙ ap written_from (right.reads).read in
        ap (edit_made (journal_at e)) of.is ∙ (λ i. edits_of (λ n. nat_le (length (front i)) n) (front i) (all i))

    pub coming : IsComing e l a.grown a.plain
    coming = record {
      plain = adds_plain e.edit.now adds;
      sound = ap (is_misread (journal_at e)) of.is ∙ ap is_faulty seen_is;
      quiet = ap (is_quiet (journal_at e)) of.is ∙ ap stands_behind seen_is ∙ stands_some a.grown a.plain;
      whole = behind.whole;
      reach = reached;
      grown = record {
        few_bytes = subst (λ (t : List ℕ). length t ≤ text_limit) behind.whole short;
        few_items = subst (λ (t : List ℕ). length (items_of t) ≤ item_limit) behind.whole many;
        comes = record {
          may = subst (λ (k : KeptEnd). MayStand k e.bytes.now) (loaded.of_text).end (may_stand e l loaded behind short);
          measured = end_measured e.year e.text.now l.items;
          told = ap (λ (k : KeptEnd). told_behind k e.bytes.now) (sym (loaded.of_text).end) ∙ told;
        };
        reads = right.reads;
      };
      adds = right.adds;
      some = λ none. some_txns l.end.asked l.end.assigned moves (txns_of (a.grown).items) (loaded_solves e.year e.text.now l loaded).fits
          (reading.is ∙ ap (λ (o : Option (List Txn)). let s : Result (Option (List Txn)) Fault = Ok o in s) (none_is a.plain none));
    }

  -- of what was answered
  pub come_so : (o : Option Added) (a : Added) → o ≡ Some a → length e.new.now ≤ text_limit → length (items_of e.new.now) ≤ item_limit
      → ((values : List Value) → IsTurnover l.end.turnover values → comes_to l.text.end l.end.asked l.end.assigned values e.bytes.now ≡ Ok (seen o))
      → IfSome o (λ x. told_behind l.text.end e.bytes.now ≡ Ok (Some x.grown)) → Means l.text.end e.bytes.now l.end (Ok o) → IsComing e l a.grown a.plain
  come_so o a is_some short many value told means =
      coming a short many
      (value moves turns ∙ ap (λ (x : Option Added). let r : Result (Option Coming) Fault = Ok (seen x) in r) is_some)
      (subst (λ (x : Option Added). IfSome x (λ y. told_behind l.text.end e.bytes.now ≡ Ok (Some y.grown))) is_some told)
      (subst (λ (x : Option Added). IfSome x (IsRight e.year e.text.now e.bytes.now l.items l.book.txns)) is_some (means e.year e.text.now l.items l.book.txns kept))

  -- the fault of the whole
  pub unadded : (x : AddFault) → length e.new.now ≤ text_limit → length (items_of e.new.now) ≤ item_limit → Means l.text.end e.bytes.now l.end (Err x) → TellsRefusal (added_refusal x) (fault_of e.year e.new.now)
  unadded add.Memory short many means = tt
  unadded (add.Load fault) short many means =
      let behind = add_behind e is l adds loaded in
      let told : load_of e.year (e.text.now ++ e.bytes.now) ≡ Err fault = means e.year e.text.now l.items l.book.txns kept in
      faulty e.year e.new.now fault short many
      (ap (book_of e.year) behind.whole ∙ sym (book_load (items_in e.year (e.text.now ++ e.bytes.now))) ∙ told)
