-- What an edit comes to, of what its steps tell.
use Rattle.std.proofs.Common.{◌≡◌, ℕ, ◌+◌, ◌*◌, ◌≤◌, Bool, true, false, List, [], ◌∷◌, ◌++◌, length, Option, Some, None, is_some, Result, Ok, Err, refl, sym, ap, subst, ◌∙◌, arith}
use Rattle.std.specs.Prelude.{IfOk, IfSome, OnErr, OnOk}
use Rattle.hl_base.specs.Counts.{Counts}
use Rattle.hl_base.specs.Items.{items_of}
use Rattle.hl_base.specs.Limits.{text_limit}
use Rattle.book.specs.Postings.{txns_of}
use Rattle.book.specs.declared.fault.Fault.{Fault}
use Rattle.book.specs.declared.item.Book.{Book}
use Rattle.book.specs.declared.item.Placed.{Placed}
use Rattle.book.specs.declared.transaction.Txn.{Txn}
use Rattle.journal_reader.specs.Items.{items_in}
use Rattle.balancing.specs.Load.{load}
use Rattle.additions.specs.declared.book_end.Plain.{Plain}
use Rattle.book_laws.specs.Reaching.{HasNoPlainReach, HasNoUnmixedReach, IsUnmixedReach}
use Rattle.kept_books.specs.Counting.{AsksWritten, ChecksFew}
use Rattle.read_days.proofs.Items.{plain_reach}
use Rattle.reached_walk.specs.Closed as walks
use Rattle.text_ends.specs.Going.{items_behind}
use Rattle.text_ends.specs.declared.reading.Grown.{Grown}
use Rattle.walked_texts.specs.Making.{Answers}
use Rattle.walked_edits.specs.Causes.{IsCause}
use Rattle.walked_edits.specs.declared.fault.WalkFault.{WalkFault}
use Rattle.loaded_texts.specs.Growing.{IsGrown}
use Rattle.loaded_texts.specs.Keeping.{IsLoaded}
use Rattle.loaded_texts.specs.Standing.{MakesBook, book_by}
use Rattle.loaded_texts.specs.Ways.{Adds, AddsTo, IsAdded, IsMadeFrom}
use Rattle.loaded_texts.specs.declared.adding.Addition.{Addition}
use Rattle.loaded_texts.specs.declared.loaded.Loaded.{Loaded}
use Rattle.loaded_texts.specs.declared.made.Made.{Made}
use Rattle.loaded_texts.specs.declared.made.Made.TheVariants as ways
use Rattle.live_journal.specs.declared.edit.Edit.{Edit}
use Rattle.live_journal.specs.declared.editing.Editing.{Editing}
use Rattle.live_journal.specs.declared.fault.EditFault.{EditFault}
use Rattle.live_journal.specs.declared.fault.EditFault.TheVariants as refused
use Rattle.live_journal.specs.declared.fault.OpenFault.{OpenFault}
use Rattle.live_journal.specs.Checking.{CountsBytes, CountsEdit, CountsRefused, put_in, size_of}
use Rattle.live_journal.specs.Journals.{Journal}
use Rattle.live_journal.specs.Loading.{book_from, book_of, fault_of, first_of, limit_fault, past_limit, reading_in, text_fault}
use Rattle.live_journal.specs.Refusals.{TellsRefusal}
use Rattle.live_journal.specs.Trying.{Comes, ComesOf, IsAnew, IsComing, IsEditing, IsOpen, IsOther, IsTried, journal_at}
use Rattle.live_journal.specs.Walking.{edit_made, is_plain_edit, written_from, written_in}
use Rattle.live_journal.proofs.Checking.{bytes_as, counts_at, load_counts, load_refused, put_counts, put_refused, refused_at, reload_counts, walk_counts, walk_refused}
use Rattle.live_journal.proofs.Coming.{put_length, size_length}
use Rattle.live_journal.proofs.Limits.{sound_text}

-- ---- what was loaded

pub sound : (year : Option ℕ) (text : List ℕ) (l : Loaded) → IsLoaded year text l → fault_of year text ≡ None
sound year text l h = sound_text year text l.book h.few_bytes h.few_items (ap book_from h.read ∙ h.loads)

-- a text without a fault reads
pub record Reads (year : Option ℕ) (text : List ℕ) : Type 0 where
  pub items : List Placed
  pub is : reading_in year text ≡ Ok items

reads_by : (year : Option ℕ) (text : List ℕ) (past : Option (ℕ × ℕ)) (r : Result (List Placed) Fault) → reading_in year text ≡ r → first_of (limit_fault past ∷ text_fault (book_from r) ∷ []) ≡ None → Reads year text
reads_by year text past (Ok items) e h = record { items = items; is = e }
reads_by year text None (Err f) e h = absurd (let never : ⊥ = cc in never)
reads_by year text (Some p) (Err f) e h = absurd (let never : ⊥ = cc in never)

pub reads_of : (year : Option ℕ) (text : List ℕ) → fault_of year text ≡ None → Reads year text
reads_of year text h = reads_by year text (past_limit text) (reading_in year text) refl h

-- ---- an edit that isn't walked

pub anew_comes : (e : Editing) (answer : Result Made EditFault) (before after : Counts) → IsEditing e → IsOther e.edit.now → IsAnew e answer before after → Comes e answer before after
anew_comes e (Ok made) before after is other h = record {
  made = h.made;
  loads = h.loads;
  few = h.few;
  fault = tt;
  counts = load_counts (journal_at e) e.edit.now before after other (bytes_as _ _ before after (sym (size_length e is)) h.counts);
  refused = tt;
}
anew_comes e (Err x) before after is other h = record {
  made = tt;
  loads = tt;
  few = tt;
  fault = h.fault;
  counts = tt;
  refused = load_refused (journal_at e) e.edit.now before after other (bytes_as _ _ before after (sym (size_length e is)) h.counts);
}

-- ---- one that a walk doesn't tell

-- what no walk can do of a text that reads
none_unmixed : (e : Editing) → IsEditing e → HasNoPlainReach (edit_made (journal_at e) e.edit.now) → fault_of e.year e.new.now ≡ None → HasNoUnmixedReach (edit_made (journal_at e) e.edit.now)
none_unmixed e is none loads = λ set book reach.
    let reads = reads_of e.year e.new.now loads in
    let after : (edit_made (journal_at e) e.edit.now).after ≡ txns_of reads.items = ap (written_in e.year) (sym is.makes) ∙ ap written_from reads.is in
    none set book (plain_reach e.year e.new.now reads.items reads.is (edit_made (journal_at e) e.edit.now) after set book reach)

pub past_read : (e : Editing) (before mid after : Counts) → IsEditing e → IsTried e before mid → CountsBytes (length e.new.now) mid after
    → after.bytes_read ≤ before.bytes_read + put_in (journal_at e) e.edit.now + size_of (journal_at e) e.edit.now
past_read e before mid after is tried h =
    let first = tried.read in
    let then_ = h.read in
    omega (arith, first, then_, put_length e is, size_length e is)

pub past_checked : (e : Editing) (before mid after : Counts) (most : ℕ) → IsTried e before mid → CountsBytes most mid after → ChecksFew (edit_made (journal_at e) e.edit.now) before after
past_checked e before mid after most tried h = λ set closed.
    let few = tried.checked set closed in
    omega (arith, few, ap (λ (c : Counts). c.checked) h.others)

pub anew_past : (e : Editing) (answer : Result Made EditFault) (before mid after : Counts) → IsEditing e → IsOpen e → HasNoPlainReach (edit_made (journal_at e) e.edit.now) → IsTried e before mid → IsAnew e answer mid after
    → Comes e answer before after
anew_past e (Ok made) before mid after is open_ none tried h = record {
  made = h.made;
  loads = h.loads;
  few = h.few;
  fault = tt;
  counts = reload_counts (journal_at e) e.edit.now before after open_.plain open_.loud (none_unmixed e is none h.loads) (past_read e before mid after is tried h.counts) (past_checked e before mid after _ tried h.counts);
  refused = tt;
}
anew_past e (Err x) before mid after is open_ none tried h = record {
  made = tt;
  loads = tt;
  few = tt;
  fault = h.fault;
  counts = tt;
  refused = walk_refused (journal_at e) e.edit.now before after open_.plain open_.sound (past_read e before mid after is tried h.counts) (past_checked e before mid after _ tried h.counts);
}

-- memory is wanting after a walk
pub memory_past : (e : Editing) (before after : Counts) → IsEditing e → IsOpen e → IsTried e before after → Comes e (Err refused.Memory) before after
memory_past e before after is open_ tried =
    let first = tried.read in
    record {
      made = tt;
      loads = tt;
      few = tt;
      fault = tt;
      counts = tt;
      refused = walk_refused (journal_at e) e.edit.now before after open_.plain open_.sound (omega (arith, first, put_length e is)) tried.checked;
    }

-- ---- one that is put behind the text

pub put_bytes : (e : Editing) (before after : Counts) → IsEditing e → CountsBytes (length e.bytes.now) before after → CountsBytes (put_in (journal_at e) e.edit.now) before after
put_bytes e before after is h = bytes_as _ _ before after (sym (put_length e is)) h

module _ (e : Editing) (l : Loaded) (g : Grown) (p : Option Plain) (is : IsEditing e) (loaded : IsLoaded e.year e.text.now l) (coming : IsComing e l g p) where
  -- memory is wanting
  pub memory_since : (before after : Counts) → CountsBytes (length e.bytes.now) before after → Comes e (Err refused.Memory) before after
  memory_since before after read = record {
    made = tt;
    loads = tt;
    few = tt;
    fault = tt;
    counts = tt;
    refused = put_refused (journal_at e) e.edit.now before after coming.plain (put_bytes e before after is read);
  }

  module _ (a : Addition) (adds : AddsTo e.year e.text.now e.bytes.now a) where
    here : Adds e.year e.text.now e.bytes.now l.items l.book.txns a
    here = adds l.items l.book.txns loaded.read loaded.loads

    whole_sound : fault_of e.year e.new.now ≡ None
    whole_sound =
        let grown = here.grown in
        let reads = grown.reads in
        let makes = here.makes in
        ap (fault_of e.year) coming.whole
        ∙ sound_text e.year (e.text.now ++ e.bytes.now) (record { txns = book_by l.book.txns a.parts }) grown.few_bytes grown.few_items (ap book_from reads.read ∙ makes.loads)

    whole_few : length e.new.now ≤ text_limit
    whole_few = let grown = here.grown in subst (λ (t : List ℕ). length t ≤ text_limit) (sym coming.whole) grown.few_bytes

    made_so : IsMadeFrom e.year e.text.now e.bytes.now e.new.now (ways.Added a)
    made_so = record { whole = coming.whole; adds = adds }

    -- all other transactions stay as they are
    pub plain_comes : is_some p ≡ true → (before after : Counts) → CountsBytes (length e.bytes.now) before after → Comes e (Ok (ways.Added a)) before after
    plain_comes some before after read = record {
      made = made_so;
      loads = whole_sound;
      few = whole_few;
      fault = tt;
      counts = put_counts (journal_at e) e.edit.now before after coming.plain (put_bytes e before after is read);
      refused = tt;
    }

    -- a walk tells the others
    pub walk_comes : is_some p ≡ false → (before mid after : Counts) → CountsBytes (length e.bytes.now) before mid → IsTried e before after → AsksWritten (edit_made (journal_at e) e.edit.now) before after
        → Comes e (Ok (ways.Added a)) before after
    walk_comes none before mid after read tried asks =
        let first = tried.read in
        record {
          made = made_so;
          loads = whole_sound;
          few = whole_few;
          fault = tt;
          counts = walk_counts (journal_at e) e.edit.now before after coming.plain (coming.quiet ∙ none) (omega (arith, first, put_length e is)) tried.checked asks;
          refused = tt;
        }

  pub is_open : is_some p ≡ false → IsOpen e
  is_open none = record { plain = coming.plain; sound = coming.sound; loud = coming.quiet ∙ none }

-- ---- what a walk counted, of an edit that is told by the transactions of the texts

module _ (e : Editing) (x : walks.Edit) (reach : edit_made (journal_at e) e.edit.now ≡ x) where
  module _ (before mid after : Counts) (read : CountsBytes (length e.bytes.now) before mid) where
    pub walk_tried : {A : Type 0} {P : A → Type 0} {answer : Result A WalkFault} → Answers x P answer mid after → IsTried e before after
    walk_tried answers =
        let first = read.read in
        record {
          read = omega (arith, first, answers.read);
          checked = subst (λ (y : walks.Edit). ChecksFew y before after) (sym reach) (λ set closed. (let few = answers.few set closed in omega (arith, few, ap (λ (c : Counts). c.checked) read.others)));
        }

    pub walk_asks : AsksWritten x mid after → AsksWritten (edit_made (journal_at e) e.edit.now) before after
    walk_asks asks = subst (λ (y : walks.Edit). AsksWritten y before after) (sym reach) (λ set closed. (let few = asks set closed in omega (arith, few, ap (λ (c : Counts). c.nodes) read.others)))

  -- why it tells nothing
  pub cause_here : (fault : WalkFault) → IsCause fault (HasNoPlainReach x) → IsCause fault (HasNoPlainReach (edit_made (journal_at e) e.edit.now))
  cause_here fault h = subst (λ (y : walks.Edit). IsCause fault (HasNoPlainReach y)) (sym reach) h

-- only bytes were read
pub bytes_tried : (e : Editing) (before mid : Counts) → CountsBytes (length e.bytes.now) before mid → IsTried e before mid
bytes_tried e before mid h = record { read = h.read; checked = λ set closed. omega (arith, ap (λ (c : Counts). c.checked) h.others) }

-- ---- as a journal has it

pub comes_of : (j : Journal) (e : Editing) (answer : Result Made EditFault) (before after : Counts) → e.year ≡ j.year → e.text.now ≡ j.text → Comes e answer before after → ComesOf j e.edit.now e.bytes.now e.new.now answer before after
comes_of j e (Ok made) before after y t h = record {
  made = subst (λ (x : List ℕ). IsMadeFrom j.year x e.bytes.now e.new.now made) t (subst (λ (x : Option ℕ). IsMadeFrom x e.text.now e.bytes.now e.new.now made) y h.made);
  loads = subst (λ (x : Option ℕ). fault_of x e.new.now ≡ None) y h.loads;
  few = h.few;
  fault = tt;
  counts = counts_at 0 j e.edit.now before after (subst (λ (x : Journal). CountsEdit x e.edit.now before after) (λ i. record { text = t i; year = y i; revision = 0 }) h.counts);
  refused = tt;
}
comes_of j e (Err x) before after y t h = record {
  made = tt;
  loads = tt;
  few = tt;
  fault = subst (λ (o : Option ℕ). TellsRefusal x (fault_of o e.new.now)) y h.fault;
  counts = tt;
  refused = refused_at 0 j e.edit.now before after (subst (λ (k : Journal). CountsRefused k e.edit.now before after) (λ i. record { text = t i; year = y i; revision = 0 }) h.refused);
}
