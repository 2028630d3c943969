-- Two real postings, of which the second takes what the first gives.
use Rattle.std.specs.Prelude.{Bool, true, false, not, ◌&&◌, List, [], ◌∷◌, Option, Some, None, is_none}
use Rattle.hl_num.specs.Decimal.{negated}
use Rattle.book.specs.declared.amount.Amount.{Amount}
use Rattle.book.specs.declared.transaction.Posting.{Posting}
use Rattle.book.specs.declared.transaction.Side.TheVariants.{Real}
use Rattle.entry_balance.specs.Entry.{is_nothing, plain_amount, same_side}
use Rattle.entry_balance.specs.Values.{Value}

-- an amount that isn't zero
abbrev pub is_given : Option Amount → Bool
is_given None = false
is_given (Some a) = not (is_nothing a.value)

-- a real posting that has one, and no cost
abbrev pub gives : Posting → Bool
gives p = same_side Real p.side && is_none p.cost && is_given p.amount

-- a real posting with neither an amount nor an assertion
abbrev pub takes : Posting → Bool
takes p = same_side Real p.side && is_none p.amount && is_none p.wanted

abbrev pub is_pair : List Posting → Bool
is_pair (p ∷ q ∷ []) = gives p && takes q
is_pair _ = false

-- the amount that makes up for another
abbrev pub opposite : Option Amount → Option Amount
opposite None = None
opposite (Some a) = Some (plain_amount (a.symbol, negated a.value))

-- a posting with an amount that was found for it
abbrev pub with_amount : Posting → Option Amount → Posting
with_amount p amount = record {
  line = p.line;
  mark = p.mark;
  side = p.side;
  account = p.account;
  amount = amount;
  cost = None;
  wanted = None;
  filled = true;
  costed = false;
  comment = p.comment;
  tags = p.tags;
  day = p.day;
}

-- what a pair moves, by the amount of its first posting
abbrev pub moves_of : Option Amount → List Value
moves_of None = []
moves_of (Some a) = (a.symbol, a.value) ∷ (a.symbol, negated a.value) ∷ []

abbrev pub moves_first : List Posting → List Value
moves_first [] = []
moves_first (p ∷ ps) = moves_of p.amount
