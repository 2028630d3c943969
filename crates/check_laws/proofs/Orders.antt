-- The postings of a transaction's only group in the order of their places.
use Rattle.std.proofs.Common.{◌≡◌, ℕ, suc, Bool, true, false, ◌&&◌, cond, eqb, List, [], ◌∷◌, ◌++◌, filter, refl, sym, ap, ◌∙◌}
use Rattle.std.specs.List.{AllByRecursion, list_any}
use Rattle.std.proofs.lemmas.Bool.Decides.{Decides-eqb}
use Rattle.book.specs.SumsBefore.{is_assigned, placed_in}
use Rattle.book.specs.declared.transaction.Posting.{Posting}
use Rattle.book.specs.declared.transaction.Txn.{Txn}
use Rattle.balancing.specs.Groups.{day_of}
use Rattle.balancing.specs.Parts.{is_chosen, is_found, is_in, part_on, postings_on}
use Rattle.balancing.specs.declared.groups.Part.{Part}
use Rattle.balancing.specs.declared.groups.Part.TheVariants as part
use Rattle.balancing.proofs.SolvingOrders.{Reorders, by_equal, joined}
use Rattle.balancing.proofs.SolvingRising.{all_kept}
use Rattle.balancing.proofs.SolvingWalk.{filter_alike, placed_on, placed_on_by, two_parts}
use Rattle.entry_check.specs.Checked.{in_order}
use Rattle.placed_checks.proofs.Elsewhere.{Entry}
use Rattle.placed_checks.proofs.Own.{IsOnDay}

and_true : (b : Bool) → b ≡ (b && true)
and_true true = refl
and_true false = refl

all_placed : (t : Txn) (n k : ℕ) (ps : List Posting) → AllByRecursion (IsOnDay t) ps → AllByRecursion (λ (e : Entry). eqb (day_of t e.1) t.day.0 ≡ true) (placed_in t n k ps)
all_placed t n k [] on = tt
all_placed t n k (p ∷ ps) on = ((Decides-eqb (day_of t p) t.day.0).1 on.0, all_placed t n (suc k) ps on.1)

-- they are all in the group, those that were missing last
pub placed_order : (t : Txn) (n : ℕ) → AllByRecursion (IsOnDay t) t.postings → Reorders (placed_in t n 0 t.postings) (placed_on t.day.0 n t)
placed_order t n days =
    let test : Entry → Bool = λ e. eqb (day_of t e.1) t.day.0 in
    joined (by_equal (sym (all_kept test (placed_in t n 0 t.postings) (all_placed t n 0 t.postings days))))
    (elim (list_any is_assigned t.postings) as (λ b. Reorders (filter test (placed_in t n 0 t.postings)) (placed_on_by b t.day.0 n t)) [
      | true ↦ two_parts test (λ (e : Entry). is_found e.1) (placed_in t n 0 t.postings)
      | false ↦ by_equal (filter_alike test (λ (e : Entry). eqb (day_of t e.1) t.day.0 && true) (λ e. and_true (eqb (day_of t e.1) t.day.0)) (placed_in t n 0 t.postings))
    ])

chosen_on : (kind : Part) (t : Txn) (ps : List Posting) → AllByRecursion (IsOnDay t) ps → filter (is_chosen kind t.day.0 t) ps ≡ filter (is_in kind) ps
chosen_on kind t [] on = refl
chosen_on kind t (p ∷ ps) on = λ i. cond ((Decides-eqb (day_of t p) t.day.0).1 on.0 i && is_in kind p) (p ∷ chosen_on kind t ps on.1 i) (chosen_on kind t ps on.1 i)

all_in : (ps : List Posting) → filter (is_in part.All) ps ≡ ps
all_in [] = refl
all_in (p ∷ ps) = ap (λ (qs : List Posting). p ∷ qs) (all_in ps)

-- the postings of the group are those of the transaction in order
pub on_one_day : (t : Txn) → AllByRecursion (IsOnDay t) t.postings → postings_on t.day.0 t ≡ in_order t.postings
on_one_day t days =
    elim (list_any is_assigned t.postings) as (λ b. cond b (part_on part.ButFound t.day.0 t ++ part_on part.Found t.day.0 t) (part_on part.All t.day.0 t) ≡ cond b (filter (is_in part.ButFound) t.postings ++ filter (is_in part.Found) t.postings) t.postings) [
      | true ↦ λ i. chosen_on part.ButFound t t.postings days i ++ chosen_on part.Found t t.postings days i
      | false ↦ chosen_on part.All t t.postings days ∙ all_in t.postings
    ]
