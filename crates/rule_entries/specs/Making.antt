-- The transactions that periodic rules make within a window.
use Rattle.std.specs.Prelude.{ℕ, List, [], map}
use Rattle.std.specs.List.{flat_map}
use Rattle.hl_time.specs.declared.spans.Span.{Span}
use Rattle.book.specs.declared.item.Item.{Item}
use Rattle.book.specs.declared.item.Item.TheVariants as item
use Rattle.book.specs.declared.item.Placed.{Placed}
use Rattle.book.specs.declared.rules.PeriodicRule.{PeriodicRule}
use Rattle.book.specs.declared.transaction.Mark.TheVariants.{Unmarked}
use Rattle.book.specs.declared.transaction.Txn.{Txn}
use Rattle.rule_entries.specs.Occurring.{days_of}
use Rattle.book.specs.ByDay.{by_day}

-- the transaction of a rule on a day
abbrev pub txn_on : PeriodicRule → ℕ → Txn
txn_on rule day = record {
  line = rule.line;
  day = record { 0 = day };
  mark = Unmarked;
  code = [];
  description = rule.description;
  comment = [];
  tags = [];
  postings = rule.postings;
}

-- the transactions of a rule within a window, one on each of its days
abbrev pub txns_by : Span → PeriodicRule → List Txn
txns_by window rule = map (txn_on rule) (days_of rule.period window)

abbrev pub made_in : Span → Item → List Txn
made_in window (item.Periodic rule) = txns_by window rule
made_in window _ = []

-- the transactions of the rules among some items, rule by rule
abbrev pub made_of : Span → List Placed → List Txn
made_of window items = flat_map (λ placed. made_in window placed.item) items

-- the same by day, and on one day in the order of the rules
abbrev pub made_by_day : Span → List Placed → List Txn
made_by_day window items = by_day (made_of window items)
