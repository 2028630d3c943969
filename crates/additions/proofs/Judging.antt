-- Transactions that are judged one after another.
use Rattle.std.proofs.Common.{◌≡◌, ℕ, zero, suc, ◌<◌, ◌+◌, ltb, Bool, true, false, cond, not, ◌&&◌, List, [], ◌∷◌, ◌++◌, length, get_or, take, map, Option, Some, None, is_none, Result, Ok, Err, refl, sym, ap, subst, ◌∙◌, arith, append_assoc, append-nil}
use Rattle.std.specs.Prelude.{IfOk, IfSome}
use Rattle.std.specs.List.{fold, list_all}
use Rattle.std.proofs.lemmas.Bool.{false≢true}
use Rattle.std.proofs.lemmas.Grind.{flat_map-append}
use Rattle.std.proofs.lemmas.List.{map-append, take_more}
use Rattle.std.proofs.lemmas.Bool.Decides.{nat_tests}
use Rattle.book.specs.Postings.{postings_of, txn_in, txns_of}
use Rattle.hl_base.specs.Gives.{Gives}
use Rattle.book.specs.declared.fault.Cause.{Cause}
use Rattle.book.specs.declared.fault.Fault.{Fault}
use Rattle.book.specs.declared.item.Placed.{Placed}
use Rattle.book.specs.declared.transaction.Posting.{Posting}
use Rattle.book.specs.declared.transaction.Txn.{Txn}
use Rattle.entry_balance.specs.Entry.{assignment_fault, cause_alone, costs_fit, is_assignable, moved, settled, with_postings}
use Rattle.entry_balance.specs.Settled.{IsSettled, lacks_sums}
use Rattle.entry_balance.specs.Tally.{turnover_fits}
use Rattle.entry_balance.specs.Values.{Value}
use Rattle.entry_balance.proofs.Adding.{made-more}
use Rattle.entry_balance.proofs.Named.{left_true, right_true}
use Rattle.entry_reader.specs.Causes.{◌>>=◌}
use Rattle.balancing.specs.Load.{fault_at}
use Rattle.balancing.proofs.Walked.{costs_known}
use Rattle.kept_turnover.specs.Keeping.{AreOf, Gains, IsTurnover, Symbols}
use Rattle.kept_turnover.specs.declared.turnover.Turnover.{Turnover}
use Rattle.kept_turnover.proofs.Booking.{moved_both}
use Rattle.additions.specs.Coming.{added_to_book, are_quiet, first_unbalanced, has_sums, is_quiet, put_apart, refused, stand_apart, stay_in_range, unless_unbalanced, with_book}
use Rattle.additions.specs.Meaning.{cause_in}
use Rattle.additions.specs.Words.{AreJudged, AreSummed, EndsAs, GoesOnAs, HaveCosts, IsJudged, first_at, first_day, first_in, first_judged, judged_more, or_sooner, plain_txns, sooner}
use Rattle.additions.specs.declared.book_end.Added.{Added}
use Rattle.additions.specs.declared.book_end.BookEnd.{BookEnd}
use Rattle.additions.specs.declared.book_end.Plain.{Plain}
use Rattle.additions.specs.declared.fault.AddFault.{AddFault}
use Rattle.additions.specs.declared.fault.AddFault.TheVariants as add
use Rattle.additions.specs.declared.firsts.First.{First}
use Rattle.additions.specs.declared.settling.Judged.{Judged}
use Rattle.text_ends.specs.declared.reading.Grown.{Grown}
use Rattle.additions.proofs.Grouping.{fault_of, unbalanced_is}
use Rattle.additions.proofs.Quietly.{quiet_unassigned}

-- ---- items

pub all_flat : (day : ℕ) (items : List Placed) → list_all (λ p. are_quiet day (txn_in p.item)) items ≡ are_quiet day (txns_of items)
all_flat day [] = refl
all_flat day (x ∷ xs) = ap (λ (b : Bool). are_quiet day (txn_in x.item) && b) (all_flat day xs) ∙ sym (parts (is_quiet day) (txn_in x.item) (txns_of xs))
  where
    parts : (p : Txn → Bool) (us vs : List Txn) → list_all p (us ++ vs) ≡ (list_all p us && list_all p vs)
    parts p [] vs = refl
    parts p (u ∷ us) vs = ap (λ (b : Bool). p u && b) (parts p us vs) ∙ assoc (p u) (list_all p us) (list_all p vs)
      where
        assoc : (a b c : Bool) → (a && (b && c)) ≡ ((a && b) && c)
        assoc true b c = refl
        assoc false b c = refl

pub with_own : (t copy : Txn) (ps : List Posting) → ps ≡ t.postings → copy ≡ with_postings t ps → copy ≡ t
with_own t copy ps e h = h ∙ ap (with_postings t) e

-- one transaction, by a copy of it
pub judged_is : (t copy : Txn) (j : Judged) (settled_txn : Txn) (cause : Option Cause) (first : ℕ) → copy ≡ t → IsSettled copy settled_txn cause
    → (j.txn ≡ settled_txn) × ((j.cause ≡ cause) × (j.first ≡ first)) → first ≡ first_day t → IsJudged t j
judged_is t copy j settled_txn cause first same h is day = record {
  settled = subst (λ (x : Txn). IsSettled x j.txn j.cause) same (subst (λ (x : Txn). IsSettled copy x j.cause) (sym is.0) (subst (λ (c : Option Cause). IsSettled copy settled_txn c) (sym is.1.0) h));
  first = is.1.1 ∙ day;
}

judged_push : (ts : List Txn) (js : List Judged) (t : Txn) (j : Judged) → AreJudged ts js → IsJudged t j → AreJudged (ts ++ t ∷ []) (js ++ j ∷ [])
judged_push [] [] t j h k = (k, tt)
judged_push [] (x ∷ js) t j h k = absurd h
judged_push (u ∷ ts) [] t j h k = absurd h
judged_push (u ∷ ts) (x ∷ js) t j h k = (h.0, judged_push ts js t j h.1 k)

pub pushed : (before : List Txn) (old new : List Judged) (t : Txn) (j : Judged) → new ≡ old ++ j ∷ [] → IsJudged t j → AreJudged before old → AreJudged (before ++ t ∷ []) new
pushed before old new t j is k h = subst (AreJudged (before ++ t ∷ [])) (sym is) (judged_push before old t j h k)

pub none_pushed : (before : List Txn) (js : List Judged) → AreJudged before js → AreJudged (before ++ []) js
none_pushed before js h = subst (λ (ts : List Txn). AreJudged ts js) (sym (append-nil before)) h

pub more_judged : (items : List Placed) (i : ℕ) (x : Placed) (js : List Judged) → i < length items → x ≡ get_or items i x → AreJudged (txns_of (take i items) ++ txn_in x.item) js → AreJudged (txns_of (take (i + 1) items)) js
more_judged items i x js lt is h = subst (λ (ts : List Txn). AreJudged ts js) (sym (made-more (λ (p : Placed). txn_in p.item) items i x lt is)) h

-- ---- those with sums

pub sums_same : (ts : List Txn) (js : List Judged) → AreJudged ts js → list_all (λ j. not (lacks_sums j.cause)) js ≡ list_all has_sums ts
sums_same [] [] h = refl
sums_same [] (j ∷ js) h = absurd h
sums_same (t ∷ ts) [] h = absurd h
sums_same (t ∷ ts) (j ∷ js) h = let here = (h.0).settled.cause in λ i. not (lacks_sums (here i)) && sums_same ts js h.1 i

not_lacking : (b : Bool) → not b ≡ true → b ≡ false
not_lacking true h = absurd (false≢true h)
not_lacking false h = refl

pub all_summed : (day : ℕ) (ts : List Txn) (js : List Judged) → are_quiet day ts ≡ true → list_all (λ j. not (lacks_sums j.cause)) js ≡ true → AreJudged ts js → AreSummed ts js
all_summed day [] [] q s h = tt
all_summed day [] (j ∷ js) q s h = absurd h
all_summed day (t ∷ ts) [] q s h = absurd h
all_summed day (t ∷ ts) (j ∷ js) q s h =
    let none = quiet_unassigned day t (left_true (is_quiet day t) (are_quiet day ts) q) in
    let sums = not_lacking (lacks_sums j.cause) (left_true (not (lacks_sums j.cause)) (list_all (λ (x : Judged). not (lacks_sums x.cause)) js) s) in
    let is = (h.0).settled in (
      record { txn = is.sums none sums; cause = is.cause; first = (h.0).first },
      all_summed day ts js (right_true (is_quiet day t) (are_quiet day ts) q) (right_true (not (lacks_sums j.cause)) (list_all (λ (x : Judged). not (lacks_sums x.cause)) js) s) h.1,
    )

pub all_costs : (day : ℕ) (ts : List Txn) (js : List Judged) → are_quiet day ts ≡ true → list_all (λ j. not (lacks_sums j.cause)) js ≡ true → AreJudged ts js → HaveCosts js
all_costs day [] [] q s h = tt
all_costs day [] (j ∷ js) q s h = absurd h
all_costs day (t ∷ ts) [] q s h = absurd h
all_costs day (t ∷ ts) (j ∷ js) q s h =
    let none = quiet_unassigned day t (left_true (is_quiet day t) (are_quiet day ts) q) in
    let sums = not_lacking (lacks_sums j.cause) (left_true (not (lacks_sums j.cause)) (list_all (λ (x : Judged). not (lacks_sums x.cause)) js) s) in
    let ready : is_assignable t.postings ≡ false = ap (λ (b : Bool). b && is_none (assignment_fault t.postings)) none in (
      costs_known t j.txn j.cause ready (h.0).settled sums,
      all_costs day ts js (right_true (is_quiet day t) (are_quiet day ts) q) (right_true (not (lacks_sums j.cause)) (list_all (λ (x : Judged). not (lacks_sums x.cause)) js) s) h.1,
    )

-- as the transactions stand in the book
pub summed_txns : (ts : List Txn) (js : List Judged) → AreSummed ts js → map (λ j. j.txn) js ≡ map settled ts
summed_txns [] [] h = refl
summed_txns [] (j ∷ js) h = absurd h
summed_txns (t ∷ ts) [] h = absurd h
summed_txns (t ∷ ts) (j ∷ js) h = let here = (h.0).txn in λ i. here i ∷ summed_txns ts js h.1 i

-- ---- their turnover

abbrev pub book_of : List Judged → List Txn
book_of js = map (λ j. j.txn) js

abbrev pub Turned : Turnover → Turnover → List Judged → Type 0
Turned old new js = (moves : List Value) → IsTurnover old moves → IsTurnover new (moves ++ moved (postings_of (book_of js)))

pub all_at : (js : List Judged) (i : ℕ) (d : Judged) → i < length js → HaveCosts js → costs_fit (get_or js i d).txn.postings ≡ true
all_at [] i d lt h = absurd (let never : ⊥ = omega (arith, lt) in never)
all_at (j ∷ js) zero d lt h = h.0
all_at (j ∷ js) (suc i) d lt h = all_at js i d (omega (arith, lt)) h.1

-- ---- the first fault

-- which of three comes first doesn't depend on how they are compared
sooner_assoc : (a b c : First) → sooner (sooner a b) c ≡ sooner a (sooner b c)
sooner_assoc a b c = by (ltb b.day a.day) (ltb c.day b.day) refl refl
  where
    trans : (x y z : ℕ) → ltb x y ≡ true → ltb y z ≡ true → ltb x z ≡ true
    trans x y z h k = grind (arith, nat_tests)

    not_trans : (x y z : ℕ) → ltb x y ≡ false → ltb y z ≡ false → ltb x z ≡ false
    not_trans x y z h k = grind (arith, nat_tests)

    by : (s t : Bool) → ltb b.day a.day ≡ s → ltb c.day b.day ≡ t → sooner (cond s b a) c ≡ sooner a (cond t c b)
    by true true e f = ap (λ (k : Bool). cond k c b) f ∙ sym (ap (λ (k : Bool). cond k c a) (trans c.day b.day a.day f e))
    by true false e f = ap (λ (k : Bool). cond k c b) f ∙ sym (ap (λ (k : Bool). cond k b a) e)
    by false true e f = refl
    by false false e f = ap (λ (k : Bool). cond k c a) (not_trans c.day b.day a.day f e) ∙ sym (ap (λ (k : Bool). cond k b a) e)

or_assoc : (a b c : Option First) → or_sooner (or_sooner a b) c ≡ or_sooner a (or_sooner b c)
or_assoc None b c = refl
or_assoc (Some a) None c = refl
or_assoc (Some a) (Some b) None = refl
or_assoc (Some a) (Some b) (Some c) = ap (λ (f : First). Some f) (sooner_assoc a b c)

or_none : (a : Option First) → or_sooner a None ≡ a
or_none None = refl
or_none (Some a) = refl

fold_first : (before : Option First) (ts : List Txn) (js : List Judged) → AreSummed ts js → fold judged_more before js ≡ or_sooner before (first_in ts)
fold_first before [] [] h = sym (or_none before)
fold_first before [] (j ∷ js) h = absurd h
fold_first before (t ∷ ts) [] h = absurd h
fold_first before (t ∷ ts) (j ∷ js) h =
    let s = h.0 in
    let line : j.txn.line ≡ t.line = ap (λ (x : Txn). x.line) s.txn in
    let own : first_at j.first (fault_at j.txn.line j.cause) ≡ first_at (first_day t) (fault_at t.line (cause_alone t.postings)) = λ i. first_at (s.first i) (fault_at (line i) (s.cause i)) in
    fold_first (judged_more before j) ts js h.1
    ∙ ap (λ (o : Option First). or_sooner (or_sooner before o) (first_in ts)) own
    ∙ or_assoc before (first_at (first_day t) (fault_at t.line (cause_alone t.postings))) (first_in ts)

pub first_is : (ts : List Txn) (js : List Judged) → AreSummed ts js → first_unbalanced ts ≡ fault_of (first_judged js)
first_is ts js h = unbalanced_is ts ∙ ap fault_of (sym (fold_first None ts js h))

-- ---- what is answered

-- where there is a fault
pub told_fault : (assigned : Bool) (ts : List Txn) (js : List Judged) (o : Option First) (first : First) → AreSummed ts js → o ≡ first_judged js → o ≡ Some first → unless_unbalanced assigned ts (first_unbalanced ts) ≡ refused assigned first.fault
told_fault assigned ts js o first h e is = ap (unless_unbalanced assigned ts) (first_is ts js h ∙ ap fault_of (sym e ∙ is))

-- and where there is none
pub told_txns : (assigned : Bool) (ts : List Txn) (js : List Judged) (o : Option First) (txns : List Txn) → AreSummed ts js → o ≡ first_judged js → o ≡ None → txns ≡ book_of js → unless_unbalanced assigned ts (first_unbalanced ts) ≡ Ok (Some txns)
told_txns assigned ts js o txns h e is txns_are =
    ap (unless_unbalanced assigned ts) (first_is ts js h ∙ ap fault_of (sym e ∙ is))
    ∙ ap (λ (x : List Txn). Ok (Some x)) (sym (txns_are ∙ summed_txns ts js h))

-- or it is left to a load
pub nothing_told : (P : Plain → Type 0) (r : Result (Option Plain) AddFault) → IfOk r (λ o. o ≡ None) → IfOk r (λ o. IfSome o P)
nothing_told P (Ok None) h = tt
nothing_told P (Ok (Some p)) h = absurd (let never : ⊥ = cc in never)
nothing_told P (Err e) h = tt

-- in range or not
range_is : (moves : List Value) (ts : List Txn) (js : List Judged) → AreSummed ts js → stay_in_range moves ts ≡ turnover_fits (moves ++ moved (postings_of (book_of js)))
range_is moves ts js h = ap (λ (x : List Txn). turnover_fits (moves ++ moved (postings_of x))) (sym (summed_txns ts js h))

pub out_of_range : (assigned : Bool) (moves : List Value) (ts : List Txn) (js : List Judged) → AreSummed ts js → turnover_fits (moves ++ moved (postings_of (book_of js))) ≡ false → put_apart assigned moves ts ≡ Ok None
out_of_range assigned moves ts js h off = ap (λ (b : Bool). cond b (unless_unbalanced assigned ts (first_unbalanced ts)) (Ok None)) (range_is moves ts js h ∙ off)

pub in_range : (assigned : Bool) (moves : List Value) (ts : List Txn) (js : List Judged) → AreSummed ts js → turnover_fits (moves ++ moved (postings_of (book_of js))) ≡ true → put_apart assigned moves ts ≡ unless_unbalanced assigned ts (first_unbalanced ts)
in_range assigned moves ts js h on = ap (λ (b : Bool). cond b (unless_unbalanced assigned ts (first_unbalanced ts)) (Ok None)) (range_is moves ts js h ∙ on)

-- transactions that don't stand apart
pub not_apart : (asked : ℕ) (assigned : Bool) (moves : List Value) (ts : List Txn) → stand_apart asked ts ≡ false → added_to_book asked assigned moves ts ≡ Ok None
not_apart asked assigned moves ts off = ap (λ (b : Bool). cond b (put_apart assigned moves ts) (Ok None)) off

pub not_quiet : (asked : ℕ) (assigned : Bool) (moves : List Value) (ts : List Txn) → are_quiet asked ts ≡ false → added_to_book asked assigned moves ts ≡ Ok None
not_quiet asked assigned moves ts off = not_apart asked assigned moves ts (ap (λ (b : Bool). b && list_all has_sums ts) off)

and_false : (b : Bool) → (b && false) ≡ false
and_false true = refl
and_false false = refl

pub not_summed : (asked : ℕ) (assigned : Bool) (moves : List Value) (ts : List Txn) → list_all has_sums ts ≡ false → added_to_book asked assigned moves ts ≡ Ok None
not_summed asked assigned moves ts off = not_apart asked assigned moves ts (ap (λ (b : Bool). are_quiet asked ts && b) off ∙ and_false (are_quiet asked ts))

pub apart_is : (asked : ℕ) (assigned : Bool) (moves : List Value) (ts : List Txn) → are_quiet asked ts ≡ true → list_all has_sums ts ≡ true → added_to_book asked assigned moves ts ≡ put_apart assigned moves ts
apart_is asked assigned moves ts quiet sums = ap (λ (b : Bool). cond b (put_apart assigned moves ts) (Ok None)) (λ i. quiet i && sums i)

-- ---- with a book and what was read

pub turned_none : (old new : Turnover) → ((values : List Value) → IsTurnover old values → IsTurnover new values) → Turned old new []
turned_none old new h = λ moves turned. subst (IsTurnover new) (sym (append-nil moves)) (h moves turned)

book_more : (js : List Judged) (i : ℕ) (j : Judged) → i < length js → j ≡ get_or js i j → moved (postings_of (book_of (take (i + 1) js))) ≡ moved (postings_of (book_of (take i js))) ++ moved j.txn.postings
book_more js i j lt is =
    ap (λ (xs : List Judged). moved (postings_of (book_of xs))) (take_more js i j lt ∙ ap (λ (x : Judged). take i js ++ x ∷ []) (sym is))
    ∙ ap (λ (ts : List Txn). moved (postings_of ts)) (map-append (λ (x : Judged). x.txn) (take i js) (j ∷ []))
    ∙ ap moved (flat_map-append (λ (t : Txn). t.postings) (book_of (take i js)) (j.txn ∷ []) ∙ ap (λ (ps : List Posting). postings_of (book_of (take i js)) ++ ps) (append-nil j.txn.postings))
    ∙ moved_both (postings_of (book_of (take i js))) j.txn.postings

gains_behind : (old new : Symbols) (values more : List Value) → Gains old new more → AreOf old values → AreOf new (values ++ more)
gains_behind old new values more gains h =
    subst (AreOf new) (ap (λ (vs : List Value). values ++ vs) (append-nil more)) (gains values [] (subst (AreOf old) (sym (append-nil values)) h))

pub turned_more : (start old new : Turnover) (js : List Judged) (i : ℕ) (j : Judged) → i < length js → j ≡ get_or js i j → Turned start old (take i js) → Gains old.symbols new.symbols (moved j.txn.postings) → Turned start new (take (i + 1) js)
turned_more start old new js i j lt is before gains = λ moves turned.
    let vs = moved (postings_of (book_of (take i js))) in
    subst (IsTurnover new) (append_assoc moves vs (moved j.txn.postings) ∙ ap (λ (ws : List Value). moves ++ ws) (sym (book_more js i j lt is)))
    (gains_behind old.symbols new.symbols (moves ++ vs) (moved j.txn.postings) gains (before moves turned))

pub in_range_gives : (assigned : Bool) (moves : List Value) (ts : List Txn) (js : List Judged) (r : Result (Option Plain) AddFault) → AreSummed ts js → turnover_fits (moves ++ moved (postings_of (book_of js))) ≡ true
    → Gives plain_txns cause_in r (unless_unbalanced assigned ts (first_unbalanced ts)) → Gives plain_txns cause_in r (put_apart assigned moves ts)
in_range_gives assigned moves ts js r h on gives = subst (Gives plain_txns cause_in r) (sym (in_range assigned moves ts js h on)) gives

pub apart_gives : (asked : ℕ) (assigned : Bool) (moves : List Value) (ts : List Txn) (js : List Judged) (r : Result (Option Plain) AddFault) → are_quiet asked ts ≡ true → list_all (λ j. not (lacks_sums j.cause)) js ≡ true → AreJudged ts js
    → Gives plain_txns cause_in r (put_apart assigned moves ts) → Gives plain_txns cause_in r (added_to_book asked assigned moves ts)
apart_gives asked assigned moves ts js r quiet sums judged gives =
    subst (Gives plain_txns cause_in r) (sym (apart_is asked assigned moves ts quiet (sym (sums_same ts js judged) ∙ sums))) gives

goes_as : (b : BookEnd) (js : List Judged) (turnover : Turnover) (p : Plain) → Turned b.turnover turnover js → EndsAs b turnover p → p.txns ≡ book_of js → GoesOnAs b p
goes_as b js turnover p turned end txns = record {
  asked = end.asked;
  assigned = end.assigned;
  moves = λ moves h. subst (λ (t : Turnover). IsTurnover t (moves ++ moved (postings_of p.txns))) (sym end.moves) (subst (λ (ts : List Txn). IsTurnover turnover (moves ++ moved (postings_of ts))) (sym txns) (turned moves h));
}

pub kept_with : (b : BookEnd) (js : List Judged) (turnover : Turnover) (r : Result (Option Plain) AddFault) → Turned b.turnover turnover js
    → IfOk r (λ o. IfSome o (EndsAs b turnover)) → IfOk r (λ o. IfSome o (λ p. p.txns ≡ book_of js)) → IfOk r (λ o. IfSome o (GoesOnAs b))
kept_with b js turnover (Ok None) turned end txns = tt
kept_with b js turnover (Ok (Some p)) turned end txns = goes_as b js turnover p turned end txns
kept_with b js turnover (Err e) turned end txns = tt

pub with_read_ok : (asked : ℕ) (assigned : Bool) (moves : List Value) (g : Grown) (items : List Placed) (o : Option Plain) → items ≡ g.items → added_to_book asked assigned moves (txns_of items) ≡ Ok (plain_txns o) → with_book asked assigned moves (Some g) ≡ Ok (Some (g, plain_txns o))
with_read_ok asked assigned moves g items o is h =
    ap (λ (r : Result (Option (List Txn)) Fault). r >>= λ plain. Ok (Some (g, plain))) (ap (λ (xs : List Placed). added_to_book asked assigned moves (txns_of xs)) (sym is) ∙ h)

pub with_read_err : (asked : ℕ) (assigned : Bool) (moves : List Value) (g : Grown) (items : List Placed) (e : AddFault) → items ≡ g.items → IfSome (cause_in e) (λ f. added_to_book asked assigned moves (txns_of items) ≡ Err f) → IfSome (cause_in e) (λ f. with_book asked assigned moves (Some g) ≡ Err f)
with_read_err asked assigned moves g items (add.Load fault) is h =
    ap (λ (r : Result (Option (List Txn)) Fault). r >>= λ plain. Ok (Some (g, plain))) (ap (λ (xs : List Placed). added_to_book asked assigned moves (txns_of xs)) (sym is) ∙ h)
with_read_err asked assigned moves g items add.Memory is h = tt

-- what was read is handed on
pub grown_as : (r : Result (Option Added) AddFault) (told : Option Grown) (g : Grown) → told ≡ Some g → IfOk r (λ o. IfSome o (λ a. a.grown ≡ g)) → IfOk r (λ o. IfSome o (λ a. told ≡ Some a.grown))
grown_as (Ok None) told g is h = tt
grown_as (Ok (Some a)) told g is h = is ∙ ap (λ (x : Grown). Some x) (sym h)
grown_as (Err e) told g is h = tt

pub told_as : (r : Result (Option Added) AddFault) (told : Option Grown) (d : Result (Option Grown) Fault) → d ≡ Ok told → IfOk r (λ o. IfSome o (λ a. told ≡ Some a.grown)) → IfOk r (λ o. IfSome o (λ a. d ≡ Ok (Some a.grown)))
told_as (Ok None) told d is h = tt
told_as (Ok (Some a)) told d is h = is ∙ ap (λ (o : Option Grown). let x : Result (Option Grown) Fault = Ok o in x) h
told_as (Err e) told d is h = tt
