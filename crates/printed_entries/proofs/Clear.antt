-- A plain transaction reads again as an entry of a text behind which nothing changes names or symbols.
use Rattle.std.proofs.Common.{ℕ, ◌≡◌, ◌≤◌, List, length, Option, Some, None, Ok, refl, ap, ◌∙◌}
use Rattle.std.specs.Prelude.{unwrap_or}
use Rattle.book.specs.declared.amount.Amount.{Amount}
use Rattle.book.specs.declared.item.Placed.{Placed}
use Rattle.book.specs.declared.transaction.Txn.{Txn}
use Rattle.entry_reader.specs.Contexts.{Context, decided_mark, renamed, with_applied}
use Rattle.journal_printer.specs.Entries.{entry_shape}
use Rattle.journal_printer.specs.declared.detail.Detail.TheVariants as detailed
use Rattle.journal_reader.specs.Items.{items_in}
use Rattle.closed_journals.proofs.Declared.{context_told, items_told}
use Rattle.closed_journals.proofs.Digits.{IsDecided, decided_mark_is}
use Rattle.closed_journals.proofs.Told.{all_decided}
use Rattle.printed_entries.specs.Printed.{IsClear, IsPlain, PrintsBack, context_behind, entry_in}
use Rattle.printed_entries.specs.Shapes.{IsOf, IsShape}
use Rattle.printed_entries.proofs.Assembled.{plain_in, shows}
use Rattle.printed_entries.proofs.Told.{ChangesNothing}

pub changes_nothing : (context : Context) → IsClear context → ChangesNothing context
changes_nothing context is = record {
  usual = is.usual;
  named = λ name. ap (λ (aliases : List (List ℕ × List ℕ)). renamed aliases (with_applied context.applied name)) is.aliases
      ∙ ap (λ (names : List (List ℕ)). with_applied names name) is.applied;
}

of_decided : (decided : Option ℕ) → IsOf decided (unwrap_or decided 46)
of_decided None = tt
of_decided (Some m) = refl

entry_shapes : (context : Context) → ((symbol : List ℕ) → IsDecided (decided_mark context symbol)) → (a : Amount) → IsShape (decided_mark context a.symbol) (entry_shape context a)
entry_shapes context decided a = record {
  mark = decided_mark_is (decided_mark context a.symbol) (decided a.symbol);
  group = tt;
  decided = of_decided (decided_mark context a.symbol);
}

pub entry_prints : (year : Option ℕ) (text : List ℕ) (items : List Placed) (line : ℕ) (t : Txn) → items_in year text ≡ Ok items → IsClear (context_behind year items) → IsPlain t
    → length (entry_in (context_behind year items) t) ≤ 65536 → PrintsBack (context_behind year items) line (entry_in (context_behind year items) t) t
entry_prints year text items line t read clear plain short =
    let context = context_behind year items in
    let sound = context_told year items (items_told year text items read) in
    plain_in (entry_shape context) detailed.Written context line t
    (λ y w. shows (entry_shape context) detailed.Written context y w (changes_nothing context clear) (entry_shapes context (λ symbol. all_decided context symbol sound)))
    plain short
