-- What is counted of an edit.
use Rattle.std.proofs.Common.{◌≡◌, ℕ, ◌+◌, ◌*◌, ◌-◌, ◌≤◌, Bool, true, false, List, [], ◌∷◌, ◌++◌, length, take, drop, Option, Some, None, Result, Ok, Err, refl, sym, ap, subst, ◌∙◌, arith, length-append}
use Rattle.std.proofs.lemmas.Bool.{false≢true}
use Rattle.hl_base.specs.Counts.{Counts}
use Rattle.hl_base.specs.Items.{items_of}
use Rattle.hl_base.specs.declared.items.Piece.{Piece}
use Rattle.book.specs.declared.transaction.Txn.{Txn}
use Rattle.book_laws.specs.Reaching.{HasNoUnmixedReach}
use Rattle.kept_books.specs.Counting.{AsksWritten, ChecksFew}
use Rattle.live_journal.specs.declared.edit.Edit.{Edit}
use Rattle.live_journal.specs.declared.edit.Edit.TheVariants.{Add, Change, Replace}
use Rattle.live_journal.specs.Checking.{CountsBytes, CountsEdit, CountsPlain, CountsRefused, put_in, size_of}
use Rattle.live_journal.specs.Edits.{added, applied, ended, numbered, replaced, replacing}
use Rattle.live_journal.specs.Journals.{Journal}
use Rattle.live_journal.specs.Reading.{is_misread, is_quiet}
use Rattle.live_journal.specs.Walking.{edit_made, is_plain_edit}

-- ---- an edit puts in no more bytes than the new text has

in_place : (text bytes : List ℕ) (o : Option Piece) → length (replacing o bytes).inserted ≤ length (replaced text o bytes)
in_place text bytes None = omega arith
in_place text bytes (Some p) = omega (arith, length-append (take p.at text) bytes, length-append (take p.at text ++ bytes) (drop (p.at + p.len) text))

pub put_within : (j : Journal) (edit : Edit) → put_in j edit ≤ size_of j edit
put_within j (Add entry) = omega (arith, length-append j.text (added j.text entry))
put_within j (Change base item entry) = in_place j.text (ended entry) (numbered (items_of j.text) item)
put_within j (Replace base text) = omega arith

-- ---- what is quiet or misread is plain

pub quiet_plain : (j : Journal) (edit : Edit) → is_quiet j edit ≡ true → is_plain_edit edit ≡ true
quiet_plain j (Add entry) h = refl
quiet_plain j (Change base item entry) h = absurd (false≢true h)
quiet_plain j (Replace base text) h = absurd (false≢true h)

pub misread_plain : (j : Journal) (edit : Edit) → is_misread j edit ≡ true → is_plain_edit edit ≡ true
misread_plain j (Add entry) h = refl
misread_plain j (Change base item entry) h = absurd (false≢true h)
misread_plain j (Replace base text) h = absurd (false≢true h)

-- ---- bytes alone

pub no_bytes : (most : ℕ) (c : Counts) → CountsBytes most c c
no_bytes most c = record { read = omega arith; others = refl }

pub bytes_as : (a b : ℕ) (before after : Counts) → a ≡ b → CountsBytes a before after → CountsBytes b before after
bytes_as a b before after e h = subst (λ (n : ℕ). CountsBytes n before after) e h

module _ (j : Journal) (edit : Edit) (before after : Counts) where
  bytes_checks : (most : ℕ) → CountsBytes most before after → ChecksFew (edit_made j edit) before after
  bytes_checks most h = λ set closed. omega (arith, ap (λ (c : Counts). c.checked) h.others)

  bytes_asks : (most : ℕ) → CountsBytes most before after → AsksWritten (edit_made j edit) before after
  bytes_asks most h = λ set closed. omega (arith, ap (λ (c : Counts). c.nodes) h.others)

  -- of an edit that leaves all other transactions as they are, what it puts in is read
  pub put_counts : is_plain_edit edit ≡ true → CountsBytes (put_in j edit) before after → CountsEdit j edit before after
  put_counts plain h =
      let read = h.read in
      record {
        read = omega (arith, read, put_within j edit);
        checked = bytes_checks (put_in j edit) h;
        plain = λ p set book reach. record { read = h.read; nodes = bytes_asks (put_in j edit) h };
        quiet = λ q. h;
        other = λ o. absurd (false≢true (sym o ∙ plain));
      }

  -- of one that isn't plain the new text is read
  pub load_counts : is_plain_edit edit ≡ false → CountsBytes (size_of j edit) before after → CountsEdit j edit before after
  load_counts other h =
      let read = h.read in
      record {
        read = omega (arith, read);
        checked = bytes_checks (size_of j edit) h;
        plain = λ p set book reach. absurd (false≢true (sym other ∙ p));
        quiet = λ q. absurd (false≢true (sym other ∙ quiet_plain j edit q));
        other = λ o. h;
      }

  -- of one that is walked, what it puts in is read, and what it reaches is checked
  pub walk_counts : is_plain_edit edit ≡ true → is_quiet j edit ≡ false → after.bytes_read ≤ before.bytes_read + put_in j edit
      → ChecksFew (edit_made j edit) before after → AsksWritten (edit_made j edit) before after → CountsEdit j edit before after
  walk_counts plain loud read few asks = record {
    read = omega (arith, read, put_within j edit);
    checked = few;
    plain = λ p set book reach. record { read = read; nodes = asks };
    quiet = λ q. absurd (false≢true (sym loud ∙ q));
    other = λ o. absurd (false≢true (sym o ∙ plain));
  }

  -- of one that a walk can't tell the new text is read besides
  pub reload_counts : is_plain_edit edit ≡ true → is_quiet j edit ≡ false → HasNoUnmixedReach (edit_made j edit) → after.bytes_read ≤ before.bytes_read + put_in j edit + size_of j edit
      → ChecksFew (edit_made j edit) before after → CountsEdit j edit before after
  reload_counts plain loud none read few = record {
    read = omega (arith, read, put_within j edit);
    checked = few;
    plain = λ p set book reach. absurd (none set book reach);
    quiet = λ q. absurd (false≢true (sym loud ∙ q));
    other = λ o. absurd (false≢true (sym o ∙ plain));
  }

  -- ---- of one that is refused

  -- by what it puts in, or before that
  pub put_refused : is_plain_edit edit ≡ true → CountsBytes (put_in j edit) before after → CountsRefused j edit before after
  put_refused plain h =
      let read = h.read in
      record {
        read = omega (arith, read, put_within j edit);
        checked = bytes_checks (put_in j edit) h;
        misread = λ m. h;
        other = λ o. absurd (false≢true (sym o ∙ plain));
      }

  -- by a load
  pub load_refused : is_plain_edit edit ≡ false → CountsBytes (size_of j edit) before after → CountsRefused j edit before after
  load_refused other h =
      let read = h.read in
      record {
        read = omega (arith, read);
        checked = bytes_checks (size_of j edit) h;
        misread = λ m. absurd (false≢true (sym other ∙ misread_plain j edit m));
        other = λ o. h;
      }

  -- after a walk, and maybe a load
  pub walk_refused : is_plain_edit edit ≡ true → is_misread j edit ≡ false → after.bytes_read ≤ before.bytes_read + put_in j edit + size_of j edit
      → ChecksFew (edit_made j edit) before after → CountsRefused j edit before after
  walk_refused plain sound read few = record {
    read = omega (arith, read, put_within j edit);
    checked = few;
    misread = λ m. absurd (false≢true (sym sound ∙ m));
    other = λ o. absurd (false≢true (sym o ∙ plain));
  }

-- one for which nothing is counted
pub none_counted : (j : Journal) (edit : Edit) (c : Counts) → CountsEdit j edit c c
none_counted j edit c = record {
  read = omega arith;
  checked = λ set closed. omega arith;
  plain = λ p set book reach. record { read = omega arith; nodes = λ other closed. omega arith };
  quiet = λ q. no_bytes (put_in j edit) c;
  other = λ o. no_bytes (size_of j edit) c;
}

-- one that is refused before its bytes are read
pub none_refused : (j : Journal) (edit : Edit) (c : Counts) → CountsRefused j edit c c
none_refused j edit c = record {
  read = omega arith;
  checked = λ set closed. omega arith;
  misread = λ m. no_bytes (put_in j edit) c;
  other = λ o. no_bytes (size_of j edit) c;
}

-- ---- how many edits a journal has had doesn't matter

abbrev with_revision : ℕ → Journal → Journal
with_revision n j = record { text = j.text; year = j.year; revision = n }

pub counts_at : (n : ℕ) (j : Journal) (edit : Edit) (before after : Counts) → CountsEdit (with_revision n j) edit before after → CountsEdit j edit before after
counts_at n j edit before after h = record {
  read = h.read;
  checked = h.checked;
  plain = λ p set book reach. (let k = h.plain p set book reach in record { read = k.read; nodes = k.nodes });
  quiet = h.quiet;
  other = h.other;
}

pub refused_at : (n : ℕ) (j : Journal) (edit : Edit) (before after : Counts) → CountsRefused (with_revision n j) edit before after → CountsRefused j edit before after
refused_at n j edit before after h = record { read = h.read; checked = h.checked; misread = h.misread; other = h.other }
