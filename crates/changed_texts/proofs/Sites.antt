-- What is read in the place of an entry is what the new text says there.
use Rattle.std.proofs.Common.{ℕ, ◌≡◌, ◌+◌, ◌^◌, ◌<◌, ◌≤◌, List, [], ◌∷◌, ◌++◌, length, take, drop, get_or, Option, Result, Ok, Err, sym, ap, subst, ◌∙◌, arith}
use Rattle.std.specs.Prelude.{IfSome}
use Rattle.std.specs.List.{AllByRecursion}
use Rattle.std.proofs.Math.Seq.{get_or-append_seam}
use Rattle.hl_base.specs.Gives.{Gives}
use Rattle.hl_base.specs.Items.{items_of}
use Rattle.hl_base.specs.Pieces.{IsWithin}
use Rattle.hl_base.specs.declared.items.Piece.{Piece}
use Rattle.book.specs.declared.fault.Fault.{Fault}
use Rattle.book.specs.declared.item.Item.{Item}
use Rattle.book.specs.declared.item.Placed.{Placed}
use Rattle.entry_reader.proofs.Lines.{few_lines}
use Rattle.entry_reader.specs.Causes.{◌>>=◌, cause_in}
use Rattle.entry_reader.specs.Contexts.{context_of}
use Rattle.entry_reader.specs.Lines.{contents_of}
use Rattle.entry_reader.specs.declared.fault.ReadFault.{ReadFault}
use Rattle.entry_reader.specs.declared.fault.ReadFault.TheVariants as faults
use Rattle.journal_reader.specs.Items.{items_in, reading, reading_from}
use Rattle.moved_lines.proofs.Lists.{at-place}
use Rattle.text_ends.specs.Ends.{items_at}
use Rattle.changed_texts.proofs.Joining.{all_within}
use Rattle.text_ends.proofs.Stepping.{bound, ok_same, placed_as}
use Rattle.changed_texts.specs.Changing.{change_to, items_with}
use Rattle.changed_texts.specs.Replacing.{IsEntry, IsEntryOf, IsTxn, changed_items, replaced, said_there}
use Rattle.changed_texts.specs.Standing.{Replaces}
use Rattle.changed_texts.specs.declared.change.Change.{Change}
use Rattle.changed_texts.proofs.Anew.{new_txn, old_none, read_anew_is, told}
use Rattle.changed_texts.proofs.Found.{found}
use Rattle.changed_texts.proofs.Near.{txn-says-none}
use Rattle.changed_texts.proofs.Standing.{changed_context, here_is, lone_entries}

-- ---- where an item of a text lies

abbrev LiesIn : ℕ → Placed → Type 0
LiesIn size q = IsWithin size q.piece

pub each_within : (year : Option ℕ) (text : List ℕ) (size : ℕ) (before : List Item) (ps : List Piece) (items : List Placed) → AllByRecursion (IsWithin size) ps → reading_from year before text ps ≡ Ok items → AllByRecursion (LiesIn size) items
unfolding reading_from
each_within year text size before [] items within h = subst (λ (is : List Placed). AllByRecursion (LiesIn size) is) (ok_same [] items h) tt
each_within year text size before (p ∷ ps) items within h =
    let one = bound (reading (context_of year before) p.line (take p.len (drop p.at text))) (λ i. reading_from year (before ++ i ∷ []) text ps >>= λ rest. Ok (placed_as p i ∷ rest)) items h in
    let two = bound (reading_from year (before ++ one.value ∷ []) text ps) (λ rest. Ok (placed_as p one.value ∷ rest)) items one.second in
    subst (λ (is : List Placed). AllByRecursion (LiesIn size) is) (ok_same (placed_as p one.value ∷ two.value) items two.second)
    (within.0, each_within year text size (before ++ one.value ∷ []) ps two.value within.1 two.first)

pub lies_within : (year : Option ℕ) (text : List ℕ) (items : List Placed) (n : ℕ) (d : Placed) → items_in year text ≡ Ok items → n < length items → d ≡ get_or items n d → IsWithin (length text) d.piece
lies_within year text items n d read below is =
    subst (LiesIn (length text)) (sym is) (at-place (LiesIn (length text)) items n d below (each_within year text (length text) [] (items_of text) items (all_within text) read))

pub bytes_fit : (text : List ℕ) (p : Piece) → IsWithin (length text) p → p.at + p.len ≤ length text
bytes_fit text p within = within.bytes

pub lines_fit : (text bytes : List ℕ) (p : Piece) → IsWithin (length text) p → length text + length bytes + 1 < 2 ^ 64 → p.line + length (contents_of bytes) < 2 ^ 64
lines_fit text bytes p within few = let lines = within.lines in omega (arith, lines, few, few_lines bytes)

-- ---- what stands there

module _ (year : Option ℕ) (text bytes : List ℕ) (items before : List Placed) (n : ℕ) (d : Placed) (p : Piece) (read : items_in year text ≡ Ok items) (of : IsEntryOf text n p) (entry : IsEntry bytes) (is : d ≡ get_or items n d)
    (before_is : before ≡ take n items) where
  piece_there : d.piece ≡ p
  piece_there =
      let t = told year text items n p (found text n p of) read in
      ap (λ (q : Placed). q.piece) (is ∙ (λ i. get_or (t.items_are i) (sym t.count i) d) ∙ get_or-append_seam t.before (placed_as p t.old) t.later d)

  said_is : reading (context_of year (items_at before)) d.piece.line bytes ≡ said_there year items n p bytes
  said_is = λ i. reading (context_of year (items_at (before_is i))) (piece_there i).line bytes

  anew : (r : Result Item Fault) → reading (context_of year (items_at before)) d.piece.line bytes ≡ r → items_in year (replaced text p bytes) ≡ (r >>= λ i. Ok (changed_items text items n p bytes i))
  anew r e = read_anew_is year text bytes items n p of entry read ∙ ap (λ (q : Result Item Fault). q >>= λ i. Ok (changed_items text items n p bytes i)) (sym said_is ∙ e)

  pub read_ok : (i : Item) (change : Change) → reading (context_of year (items_at before)) d.piece.line bytes ≡ Ok i → change ≡ change_to text d.piece bytes i
      → Gives (items_with n items) cause_in (let r : Result Change ReadFault = Ok change in r) (items_in year (replaced text p bytes))
  read_ok i change e made = anew (Ok i) e ∙ (λ k. Ok (items_with n items (change_to text (sym piece_there k) bytes i))) ∙ ap (λ (x : Change). Ok (items_with n items x)) (sym made)

  pub read_err : (fault : ReadFault) → IfSome (cause_in fault) (λ f. reading (context_of year (items_at before)) d.piece.line bytes ≡ Err f)
      → Gives (items_with n items) cause_in (let r : Result Change ReadFault = Err fault in r) (items_in year (replaced text p bytes))
  read_err faults.Memory h = tt
  read_err (faults.Read f) h = anew (Err f) h

  -- the change is that to what the bytes say
  pub made_is : (i : Item) (change : Change) → change ≡ change_to text d.piece bytes i → change ≡ change_to text p bytes change.placed.item
  made_is i change made = made ∙ (λ k. change_to text (piece_there k) bytes (sym (ap (λ (x : Change). x.placed.item) made) k))

  -- the bytes stand in the place of the entry
  pub replaces_is : (i : Item) (change : Change) → reading (context_of year (items_at before)) d.piece.line bytes ≡ Ok i → change ≡ change_to text d.piece bytes i
      → Replaces year text items n p bytes (items_with n items change)
  replaces_is i change e made =
      let c = found text n p of in
      let t = told year text items n p c read in
      let txn : IsTxn change.placed.item = subst IsTxn (sym (ap (λ (x : Change). x.placed.item) made)) ((new_txn year items n p bytes entry).is i (sym said_is ∙ e)) in
      record {
        of = of;
        entries = lone_entries bytes entry;
        ends = entry.ends;
        was = read;
        is = read_ok i change e made;
        context = changed_context year change.by n items (placed_as p t.old) change.placed (here_is year text items n p c t) (old_none year text items n p c t) (txn-says-none change.placed.item txn);
      }

-- what is read is a transaction
pub txn_is : (year : Option ℕ) (text bytes : List ℕ) (items before : List Placed) (n : ℕ) (old : Piece) (i : Item) (change : Change) → IsEntry bytes → before ≡ take n items
    → reading (context_of year (items_at before)) old.line bytes ≡ Ok i → change ≡ change_to text old bytes i → IsTxn change.placed.item
txn_is year text bytes items before n old i change entry e h made =
    subst IsTxn (sym (ap (λ (x : Change). x.placed.item) made))
    ((new_txn year items n old bytes entry).is i (sym (ap (λ (xs : List Placed). reading (context_of year (items_at xs)) old.line bytes) e) ∙ h))
