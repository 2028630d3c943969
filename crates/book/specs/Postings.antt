-- Postings, transactions and items, as lists.
use Rattle.std.specs.Prelude.{ℕ, false, List, [], ◌∷◌, None}
use Rattle.std.specs.List.{flat_map}
use Rattle.book.specs.declared.transaction.Posting.{Posting}
use Rattle.book.specs.declared.transaction.Txn.{Txn}
use Rattle.book.specs.declared.transaction.Side.{Side}
use Rattle.book.specs.declared.transaction.Mark.TheVariants.{Unmarked}
use Rattle.book.specs.declared.item.Placed.{Placed}
use Rattle.book.specs.declared.item.Item.{Item}
use Rattle.book.specs.declared.item.Item.TheVariants as item

-- a posting of an account that says nothing else
abbrev pub plain_posting : ℕ → Side → List ℕ → Posting
plain_posting line side account = record {
  line = line;
  mark = Unmarked;
  side = side;
  account = account;
  amount = None;
  cost = None;
  wanted = None;
  filled = false;
  costed = false;
  comment = [];
  tags = [];
  day = None;
}

-- the postings of some transactions, in order
abbrev pub postings_of : List Txn → List Posting
postings_of txns = flat_map (λ t. t.postings) txns

-- the transaction that an item is
abbrev pub txn_in : Item → List Txn
txn_in (item.Txn t) = t ∷ []
txn_in _ = []

-- an item is a transaction
abbrev pub IsTxn : Item → Type 0
IsTxn (item.Txn t) = Unit {0}
IsTxn _ = ⊥

-- the transactions among some items, in order
abbrev pub txns_of : List Placed → List Txn
txns_of items = flat_map (λ placed. txn_in placed.item) items
