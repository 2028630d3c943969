-- Transactions that read again where they are printed.
use Rattle.std.specs.Prelude.{◌≡◌, ℕ, Bool, true, false, ◌||◌, not, List, [], ◌∷◌, ◌==◌, length, map, Option, None, Ok}
use Rattle.std.specs.List.{AllByRecursion}
use Rattle.hl_base.specs.Ascii.{asterisk, exclamation, open_round}
use Rattle.hl_base.specs.Items.{items_of}
use Rattle.hl_base.specs.declared.items.Kind.TheVariants.{Entry}
use Rattle.hl_base.specs.declared.items.Piece.{Piece}
use Rattle.book.specs.declared.item.Item.TheVariants as item
use Rattle.book.specs.declared.item.Placed.{Placed}
use Rattle.book.specs.declared.transaction.Txn.{Txn}
use Rattle.entry_reader.specs.Contexts.{Context, context_of}
use Rattle.entry_reader.specs.Heads.{is_mark}
use Rattle.entry_reader.specs.Lines.{first_is}
use Rattle.journal_printer.specs.Entries.{entry_shape}
use Rattle.journal_printer.specs.Layout.{txn_text}
use Rattle.journal_printer.specs.declared.detail.Detail.TheVariants as detail
use Rattle.journal_reader.specs.Items.{reading}
use Rattle.printed_entries.specs.Alike.{unshaped_posting}

-- the same transaction, but for line numbers and how amounts are written
abbrev pub unshaped : Txn → Txn
unshaped t = record t { line = 0; postings = map unshaped_posting t.postings }

-- A transaction reads from some bytes in a context without directives.
pub record IsRead (t : Txn) : Type 0 where
  pub year : Option ℕ
  pub line : ℕ
  pub bytes : List ℕ
  pub reads : reading (context_of year []) line bytes ≡ Ok (item.Txn t)

-- `(`, `!` and `*` begin a code or a mark
abbrev pub opens_field : ℕ → Bool
opens_field b = (b == open_round) || (b == exclamation) || (b == asterisk)

-- the code isn't empty, or the description doesn't begin as a code or a mark does
abbrev pub is_titled : (code description : List ℕ) → Bool
is_titled [] description = not (first_is opens_field description)
is_titled (b ∷ bs) description = true

-- A plain transaction: it reads in a context without directives; it has a code, or its description begins with none of `(`,
-- `!` and `*`; and none of its accounts begins with `!` or `*`.
pub record IsPlain (t : Txn) : Type 0 where
  pub read : IsRead t
  pub titled : is_titled t.code t.description ≡ true
  pub accounts : AllByRecursion (λ p. first_is is_mark p.account ≡ false) t.postings

-- A context in which no name is applied, no alias is in force, and there is no default commodity.
pub record IsClear (context : Context) : Type 0 where
  pub usual : context.usual ≡ None
  pub applied : context.applied ≡ []
  pub aliases : context.aliases ≡ []

-- the context behind some items
abbrev pub context_behind : Option ℕ → List Placed → Context
context_behind year items = context_of year (map (λ placed. placed.item) items)

-- the text of a transaction as an entry to be read in a context
abbrev pub entry_in : Context → Txn → List ℕ
entry_in context t = txn_text (entry_shape context) detail.Written t

-- all of a text, as an entry
abbrev pub whole_entry : List ℕ → Piece
whole_entry text = record { at = 0; len = length text; line = 1; kind = Entry }

-- A text is one entry, and in a context it reads as a transaction, but for line numbers and how amounts are written.
pub record PrintsBack (context : Context) (line : ℕ) (text : List ℕ) (t : Txn) : Type 0 where
  pub cut : items_of text ≡ whole_entry text ∷ []
  pub txn : Txn
  pub reads : reading context line text ≡ Ok (item.Txn txn)
  pub alike : unshaped txn ≡ unshaped t
