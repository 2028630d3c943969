-- What is found of transactions one after another.
use Rattle.std.specs.Prelude.{◌≡◌, ℕ, min, true, List, [], ◌∷◌, ◌++◌, nat_lt, Option, Some, None, if◌then◌else◌}
use Rattle.std.specs.List.{fold, AllByRecursion}
use Rattle.std.specs.Option.{option_map}
use Rattle.book.specs.declared.fault.Fault.{Fault}
use Rattle.book.specs.declared.transaction.Posting.{Posting}
use Rattle.book.specs.declared.transaction.Txn.{Txn}
use Rattle.book.specs.Postings.{postings_of}
use Rattle.entry_balance.specs.Entry.{cause_alone, costs_fit, moved, settled}
use Rattle.entry_balance.specs.Settled.{IsSettled}
use Rattle.entry_balance.specs.Values.{Value}
use Rattle.balancing.specs.Groups.{day_of}
use Rattle.balancing.specs.Load.{fault_at}
use Rattle.kept_turnover.specs.Keeping.{IsTurnover}
use Rattle.kept_turnover.specs.declared.turnover.Turnover.{Turnover}
use Rattle.text_ends.specs.declared.reading.Grown.{Grown}
use Rattle.additions.specs.declared.book_end.Added.{Added}
use Rattle.additions.specs.declared.book_end.BookEnd.{BookEnd}
use Rattle.additions.specs.declared.book_end.Plain.{Plain}
use Rattle.additions.specs.declared.settling.Judged.{Judged}
use Rattle.additions.specs.declared.firsts.First.{First}

-- ---- the first group of a transaction

-- the earliest day of a transaction's postings, its own day where it has none
abbrev pub first_of : Txn → List Posting → ℕ
first_of t [] = t.day.0
first_of t (p ∷ ps) = fold (λ d q. min d (day_of t q)) (day_of t p) ps

abbrev pub first_day : Txn → ℕ
first_day t = first_of t t.postings

-- ---- the first fault

abbrev pub first_at : ℕ → Option Fault → Option First
first_at day None = None
first_at day (Some fault) = Some (record { day = day; fault = fault })

-- of two, the one on the earlier day; the first one of the same day
abbrev pub sooner : First → First → First
sooner a b = if nat_lt b.day a.day then b else a

abbrev pub or_sooner : Option First → Option First → Option First
or_sooner None later = later
or_sooner (Some a) None = Some a
or_sooner (Some a) (Some b) = Some (sooner a b)

-- the first fault of some transactions, by the day of the first group
abbrev pub first_in : List Txn → Option First
first_in [] = None
first_in (t ∷ ts) = or_sooner (first_at (first_day t) (fault_at t.line (cause_alone t.postings))) (first_in ts)

-- ---- as they were judged

pub record IsJudged (written : Txn) (j : Judged) : Type 0 where
  pub settled : IsSettled written j.txn j.cause
  pub first : j.first ≡ first_day written

abbrev pub AreJudged : List Txn → List Judged → Type 0
AreJudged [] [] = Unit {0}
AreJudged (t ∷ ts) (j ∷ js) = IsJudged t j × AreJudged ts js
AreJudged _ _ = ⊥

-- a transaction with sums, as balancing leaves it
pub record IsSummed (written : Txn) (j : Judged) : Type 0 where
  pub txn : j.txn ≡ settled written
  pub cause : j.cause ≡ cause_alone written.postings
  pub first : j.first ≡ first_day written

abbrev pub AreSummed : List Txn → List Judged → Type 0
AreSummed [] [] = Unit {0}
AreSummed (t ∷ ts) (j ∷ js) = IsSummed t j × AreSummed ts js
AreSummed _ _ = ⊥

-- each has costs that can be told
abbrev pub HaveCosts : List Judged → Type 0
HaveCosts js = AllByRecursion (λ j. costs_fit j.txn.postings ≡ true) js

-- the first of some faults, and of one more
abbrev pub judged_more : Option First → Judged → Option First
judged_more before j = or_sooner before (first_at j.first (fault_at j.txn.line j.cause))

abbrev pub first_judged : List Judged → Option First
first_judged js = fold judged_more None js

-- ---- what is kept with them

-- What is kept of a book with transactions behind it that ask for nothing.
pub record GoesOnAs (b : BookEnd) (p : Plain) : Type 0 where
  pub asked : p.end.asked ≡ b.asked
  pub assigned : p.end.assigned ≡ b.assigned
  pub moves : (moves : List Value) → IsTurnover b.turnover moves → IsTurnover p.end.turnover (moves ++ moved (postings_of p.txns))

-- what is kept of a book as before, but with a turnover
pub record EndsAs (b : BookEnd) (turnover : Turnover) (p : Plain) : Type 0 where
  pub asked : p.end.asked ≡ b.asked
  pub assigned : p.end.assigned ≡ b.assigned
  pub moves : p.end.turnover ≡ turnover

-- ---- what is answered

abbrev pub plain_txns : Option Plain → Option (List Txn)
plain_txns o = option_map (λ p. p.txns) o

abbrev pub added_seen : Added → Grown × Option (List Txn)
added_seen a = (a.grown, plain_txns a.plain)

abbrev pub seen : Option Added → Option (Grown × Option (List Txn))
seen o = option_map added_seen o
