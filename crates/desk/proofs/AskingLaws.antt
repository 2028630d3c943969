-- What the words of a report ask.
use Rattle.std.proofs.Common.{Bor, ◌≡◌, ℕ, Bool, true, false, List, Option, Some, None, Result, Ok, Err, IfOk, IfSome, refl, sym, ap, subst, ◌∙◌}
use Rattle.std.specs.Prelude.{IfErr}
use Rattle.std.specs.Option.{option_copied}
use Rattle.book.specs.declared.fault.Fault.{Fault}
use Rattle.book.specs.declared.item.Book.{Book}
use Rattle.book.specs.declared.item.Placed.{Placed}
use Rattle.hl_base.specs.Counts.{Counts}
use Rattle.index_cells.specs.Books.{KeepsBook}
use Rattle.index_cells.specs.declared.kept.Kept.{Kept}
use Rattle.kept_reports.specs.Nodes.{Asks, AsksWhere, bare_columns, nodes_in}
use Rattle.kept_reports.specs.Served.{is_from_kept}
use Rattle.kept_reports.proofs.Noding.{none_asked}
use Rattle.live_journal.specs.Loading.{book_of, reading_in}
use Rattle.plan_commands.specs.Commands.{asked_of}
use Rattle.report_commands.specs.declared.asked.Asked.{Asked}
use Rattle.report_commands.specs.declared.fault.WordsFault.{WordsFault}
use Rattle.desk.specs.Reading.{AsksReport}

-- where nothing is counted
nothing_unread : (r : Result Asked WordsFault) (c : Counts) → IfErr r (λ fault. c ≡ c)
nothing_unread (Ok asked) c = tt
nothing_unread (Err fault) c = refl

pub asks_idle : (day : ℕ) (year : Option ℕ) (text : List ℕ) (words : List (List ℕ)) (c : Counts) → AsksReport day year text words c c
asks_idle day year text words c = record {
  bytes_read = refl;
  checked = refl;
  unread = nothing_unread (asked_of day words) c;
  nodes = λ asked items book is read made. none_asked (is_from_kept asked) (nodes_in book (bare_columns asked day items book)) c;
}

-- nothing is read or checked
quiet : (served : Bool) (most : ℕ) (old new : Counts) → AsksWhere served most old new → (new.bytes_read ≡ old.bytes_read) × (new.checked ≡ old.checked)
quiet true most old new h = (h.bytes_read, h.checked)
quiet false most old new h = (ap (λ (c : Counts). c.bytes_read) h, ap (λ (c : Counts). c.checked) h)

abbrev made_or : {A E : Type 0} → A → Result A E → A
made_or other (Ok a) = a
made_or other (Err e) = other

same_made : {A E : Type 0} (r : Result A E) (a b : A) → r ≡ Ok a → r ≡ Ok b → a ≡ b
same_made r a b is also = ap (made_or a) (sym is ∙ also)

-- what is asked over the items and the book of the text
pub asks_read : (day : ℕ) (year : Option ℕ) (text : List ℕ) (words : List (List ℕ)) (asked : Asked) (items : List Placed) (book : Book) (old new : Counts)
    → asked_of day words ≡ Ok asked → reading_in year text ≡ Ok items → book_of year text ≡ Ok book → Asks asked day items book old new → AsksReport day year text words old new
asks_read day year text words asked items book old new is read made asks =
    let still = quiet (is_from_kept asked) (nodes_in book (bare_columns asked day items book)) old new asks in
    record {
      bytes_read = still.0;
      checked = still.1;
      unread = subst (λ (r : Result Asked WordsFault). IfErr r (λ fault. new ≡ old)) (sym is) tt;
      nodes = λ other others another is' read' made'.
          subst (λ (a : Asked). Asks a day others another old new) (same_made (asked_of day words) asked other is is')
          (subst (λ (ps : List Placed). Asks asked day ps another old new) (same_made (reading_in year text) items others read read')
          (subst (λ (b : Book). Asks asked day items b old new) (same_made (book_of year text) book another made made') asks));
    }

-- sums that are kept are those of the book
pub sums_keep : (o : Option (Bor Kept)) (r : Result Book Fault) (book : Book) → r ≡ Ok book → IfSome (option_copied o) (λ kept. IfOk r (λ b. KeepsBook b.txns kept))
    → IfSome o (λ kept. KeepsBook book.txns kept.now)
sums_keep None r book is h = tt
sums_keep (Some kept) r book is h = subst (λ (q : Result Book Fault). IfOk q (λ b. KeepsBook b.txns kept.now)) is h
