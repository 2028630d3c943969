-- What is kept of a book with transactions behind it.
use Rattle.std.proofs.Common.{◌≡◌, ℕ, ◌+◌, ◌<◌, ◌≤◌, true, List, [], ◌∷◌, ◌++◌, get_or, length, take, sym, ap, subst, ◌∙◌, arith, length-append}
use Rattle.std.proofs.lemmas.Grind.{flat_map-append}
use Rattle.std.proofs.lemmas.List.{append-nil, append_assoc, length-take-le, take_all, take_more}
use Rattle.book.specs.Bounds as amounts
use Rattle.book.specs.Postings.{postings_of}
use Rattle.book.specs.declared.transaction.Posting.{Posting}
use Rattle.book.specs.declared.transaction.Txn.{Txn}
use Rattle.entry_balance.specs.Entry.{moved, moved_by}
use Rattle.entry_balance.specs.Values.{Value}
use Rattle.kept_turnover.specs.Keeping.{Gains, IsTurnover, Stays, are_told}
use Rattle.kept_turnover.specs.declared.turnover.Turnover.{Turnover}
use Rattle.live_index.proofs.NetLaws.{fits-by}
use Rattle.live_index.specs.Rows as rows
use Rattle.live_index.specs.Standing.{standing}
use Rattle.live_index.specs.declared.row.Row.{Row}
use Rattle.placed_sums.proofs.Fitting.{rows_fit}
use Rattle.placed_sums.proofs.Replacing.{stand_more}
use Rattle.placed_sums.specs.Rows.{Stand, rows_of}
use Rattle.shared_days.specs.Days.{numbers_now}
use Rattle.shared_days.specs.Days.{AreOf as AreDaysOf}
use Rattle.shared_days.specs.declared.days.SharedDays.{SharedDays}
use Rattle.hl_time.specs.declared.day.Day.{Day}
use Rattle.watchers.proofs.Tests.{and-second}
use Rattle.walked_edits.specs.Keeping.{IsKept}
use Rattle.walked_edits.specs.declared.kept.Kept.{Kept}

-- ---- rows

pub rows_behind : (index : List Row) (book more : List Txn) → Stand index book → amounts.TurnoverFits (postings_of (book ++ more)) → rows.TurnoverFits (standing (index ++ rows_of more))
rows_behind index book more stands fits = fits-by (rows_of (book ++ more)) (index ++ rows_of more) (stand_more index book more stands).net (rows_fit (book ++ more) fits)

-- ---- days

pub days_none : (days copy : SharedDays) (book more : List Txn) → AreDaysOf book days → ((day : Day) → numbers_now day copy ≡ numbers_now day days) → AreDaysOf (book ++ take 0 more) copy
days_none days copy book more are same = subst (λ (ts : List Txn). AreDaysOf ts copy) (sym (append-nil book)) (λ day. same day ∙ are day)

pub days_step : (old new : SharedDays) (book more : List Txn) (i : ℕ) (t : Txn) → i < length more → t ≡ get_or more i t → AreDaysOf (book ++ take i more) old
    → ((b : List Txn) → AreDaysOf b old → length book + i ≡ length b → AreDaysOf (b ++ t ∷ []) new) → AreDaysOf (book ++ take (i + 1) more) new
days_step old new book more i t lt is are add =
    let front = book ++ take i more in
    let size : length book + i ≡ length front = let one = length-append book (take i more) in let two = length-take-le i more (omega (arith, lt)) in omega (arith, one, two) in
    let all : front ++ t ∷ [] ≡ book ++ take (i + 1) more = append_assoc book (take i more) (t ∷ []) ∙ ap (λ (ts : List Txn). book ++ ts) (sym (take_more more i t lt ∙ ap (λ (x : Txn). take i more ++ x ∷ []) (sym is))) in
    subst (λ (ts : List Txn). AreDaysOf ts new) all (add front are size)

pub days_all : (days : SharedDays) (book more : List Txn) (i : ℕ) → length more ≤ i → AreDaysOf (book ++ take i more) days → AreDaysOf (book ++ more) days
days_all days book more i le are = subst (λ (ts : List Txn). AreDaysOf (book ++ ts) days) (take_all i more le) are

-- ---- turnover

abbrev pub Moves : Turnover → Turnover → List Txn → Type 0
Moves old new more = (values : List Value) → IsTurnover old values → IsTurnover new (values ++ moved (postings_of more))

pub moves_none : (old copy : Turnover) (more : List Txn) → Stays old copy → Moves old copy (take 0 more)
moves_none old copy more stays = λ values is. subst (IsTurnover copy) (sym (append-nil values)) (stays values is)

moved_more : (ts : List Txn) (t : Txn) → moved (postings_of (ts ++ t ∷ [])) ≡ moved (postings_of ts) ++ moved t.postings
moved_more ts t =
    ap moved (flat_map-append (λ (u : Txn). u.postings) ts (t ∷ []) ∙ ap (λ (ps : List Posting). postings_of ts ++ ps) (append-nil t.postings))
    ∙ flat_map-append moved_by (postings_of ts) t.postings

pub moves_step : (old mid new : Turnover) (more : List Txn) (i : ℕ) (t : Txn) → i < length more → t ≡ get_or more i t → Moves old mid (take i more) → Gains mid.symbols new.symbols (moved t.postings) → Moves old new (take (i + 1) more)
moves_step old mid new more i t lt is h gains = λ values was.
    let front = values ++ moved (postings_of (take i more)) in
    let next : take (i + 1) more ≡ take i more ++ t ∷ [] = take_more more i t lt ∙ ap (λ (x : Txn). take i more ++ x ∷ []) (sym is) in
    let made = gains front [] (subst (IsTurnover mid) (sym (append-nil front)) (h values was)) in
    subst (IsTurnover new)
    (ap (λ (vs : List Value). front ++ vs) (append-nil (moved t.postings))
    ∙ append_assoc values (moved (postings_of (take i more))) (moved t.postings)
    ∙ ap (λ (vs : List Value). values ++ vs) (sym (moved_more (take i more) t))
    ∙ ap (λ (ts : List Txn). values ++ moved (postings_of ts)) (sym next)) made

pub moves_all : (old new : Turnover) (more : List Txn) (i : ℕ) → length more ≤ i → Moves old new (take i more) → Moves old new more
moves_all old new more i le h = subst (Moves old new) (take_all i more le) h

moved_behind : (book more : List Txn) → moved (postings_of book) ++ moved (postings_of more) ≡ moved (postings_of (book ++ more))
moved_behind book more =
    sym (flat_map-append moved_by (postings_of book) (postings_of more)) ∙ ap moved (sym (flat_map-append (λ (t : Txn). t.postings) book more))

-- ---- all of it

pub kept_more : (book more : List Txn) (kept after : Kept) → IsKept book kept → after.index ≡ kept.index ++ rows_of more → AreDaysOf (book ++ more) after.days → Moves kept.turnover after.turnover more → IsKept (book ++ more) after
kept_more book more kept after is index days moves = record {
  stand = subst (λ (rs : List Row). Stand rs (book ++ more)) (sym index) (stand_more kept.index book more is.stand);
  days = days;
  turnover = subst (IsTurnover after.turnover) (moved_behind book more) (moves (moved (postings_of book)) is.turnover);
}

-- those behind a book whose costs can be told
pub told_behind : (book more : List Txn) → are_told (book ++ more) ≡ true → are_told more ≡ true
told_behind [] more h = h
told_behind (t ∷ book) more h = told_behind book more (and-second _ _ h)
