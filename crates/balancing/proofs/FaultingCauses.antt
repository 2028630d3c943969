-- The causes of a group, as they are written and as they are judged.
use Rattle.std.proofs.Common.{◌≡◌, ℕ, ◌+◌, Bool, true, false, cond, ◌&&◌, ◌||◌, not, eqb, List, [], ◌∷◌, ◌++◌, map, filter, Option, Some, None, is_some, is_none, refl, sym, ap, ◌∙◌, subst}
use Rattle.std.specs.Prelude.{unwrap_or, count_by, nat_lt}
use Rattle.std.specs.List.{fold, list_any, AllByRecursion}
use Rattle.std.proofs.lemmas.Bool.{false≢true, or_parts}
use Rattle.std.proofs.lemmas.Bool.Decides.{Decides-eqb}
use Rattle.hl_time.specs.declared.day.Day.{Day}
use Rattle.book.specs.declared.amount.Amount.{Amount}
use Rattle.book.specs.declared.amount.Assertion.{Assertion}
use Rattle.book.specs.declared.fault.Cause.{Cause}
use Rattle.book.specs.declared.fault.Cause.TheVariants as cause
use Rattle.book.specs.declared.transaction.Posting.{Posting}
use Rattle.book.specs.declared.transaction.Txn.{Txn}
use Rattle.book.specs.declared.transaction.Side.{Side}
use Rattle.book.specs.declared.transaction.Side.TheVariants.{Real, Balanced, Free}
use Rattle.book.specs.SumsBefore.{is_assigned}
use Rattle.entry_balance.specs.Values.{Value}
use Rattle.entry_balance.specs.Tally.{turnover_fits}
use Rattle.entry_balance.specs.Entry.{same_side, is_missing, missing_count, has_two_missing, is_assignment, has_assignment, is_absent, absent_count, lacks_two, is_dated, assignment_fault, is_assignable, costs_fit, fits_alone, unbalanced_by, unbalanced_sums, cause_alone, or_else, settled, solved, solved_posting, found_posting, found_values, recorded_cost, moved, moved_by}
use Rattle.entry_balance.proofs.Named.{left_true}
use Rattle.entry_balance.proofs.Turnover.{fits-first}
use Rattle.balancing.specs.declared.groups.Part.TheVariants.{All, ButFound, Found}
use Rattle.balancing.specs.Groups.{day_of}
use Rattle.balancing.specs.Parts.{is_found, part_on, postings_on}
use Rattle.balancing.specs.Load.{group_cause}
use Rattle.balancing.specs.Solves.{is_allowed, IsMadeBy, AreMade, IsMadeTxn}
use Rattle.balancing.specs.Faults.{cause_if, IsMadeIf}
use Rattle.balancing.proofs.SolvingOrders.{Reorders, joined, by_equal, spread, parts_swapped}
use Rattle.balancing.proofs.SolvingSums.{fits_same}
use Rattle.balancing.proofs.SolvingWalk.{two_parts, filter_alike}
use Rattle.balancing.proofs.SolvingRising.{all_append}
use Rattle.balancing.proofs.SolvingMade.{costed_alike, solved_by}
use Rattle.balancing.proofs.SolvingTxn.{assignable_days, made_days, none_made}

-- ---- what is missing

abbrev bits : List Bool → ℕ
bits bs = fold (λ a b. a + cond b 1 0) 0 bs

counted : (p : Posting → Bool) (ps : List Posting) → count_by p ps ≡ bits (map p ps)
counted p ps = from 0 ps
  where
    from : (z : ℕ) (ps : List Posting) → fold (λ a x. a + cond (p x) 1 0) z ps ≡ fold (λ a b. a + cond b 1 0) z (map p ps)
    from z [] = refl
    from z (x ∷ ps) = from (z + cond (p x) 1 0) ps

counts_same : (p q : Posting → Bool) (ps qs : List Posting) → map p ps ≡ map q qs → count_by p ps ≡ count_by q qs
counts_same p q ps qs h = counted p ps ∙ ap bits h ∙ sym (counted q qs)

missing_one : (s n : Bool) (o : Option Assertion) → (n && is_some o) ≡ false → (s && n) ≡ ((s && n) && is_none o)
missing_one true true None h = refl
missing_one true true (Some w) h = absurd (false≢true (sym h))
missing_one true false o h = refl
missing_one false n o h = refl

missing_all : (side : Side) (ps : List Posting) → has_assignment ps ≡ false → map (is_missing side) ps ≡ map (is_absent side) ps
missing_all side [] h = refl
missing_all side (p ∷ ps) h =
    let parts = or_parts (is_assignment p) (has_assignment ps) h in
    λ i. missing_one (same_side side p.side) (is_none p.amount) p.wanted parts.0 i ∷ missing_all side ps parts.1 i

-- without assignments what has no amount is missing
two_missing : (ps : List Posting) → has_assignment ps ≡ false → has_two_missing ps ≡ lacks_two ps
two_missing ps h =
    let same : (side : Side) → missing_count side ps ≡ absent_count side ps = λ side. counts_same (is_missing side) (is_absent side) ps ps (missing_all side ps h) in
    λ i. nat_lt 1 (same Real i) || nat_lt 1 (same Balanced i) || nat_lt 0 (same Free i)

and_false : (b : Bool) → (b && false) ≡ false
and_false true = refl
and_false false = refl

absent_one : (side : Side) (a : Option Amount) (o : Option Assertion) (w q : Posting) → w.wanted ≡ o → IsMadeBy a o w q → is_absent side q ≡ is_absent side w
absent_one side (Some a) o w q e is = ap (is_absent side) is
absent_one side None None w q e is = ap (is_absent side) is
absent_one side None (Some x) w q e is =
    ap (is_absent side) is.1
    ∙ ap (λ b. b && is_none w.wanted) (and_false (same_side side w.side))
    ∙ sym (and_false (is_missing side w)) ∙ ap (λ (o : Option Assertion). is_missing side w && is_none o) (sym e)

absent_all : (side : Side) (ws qs : List Posting) → AreMade ws qs → map (is_absent side) qs ≡ map (is_absent side) ws
absent_all side [] [] h = refl
absent_all side [] (q ∷ qs) h = absurd h
absent_all side (w ∷ ws) [] h = absurd h
absent_all side (w ∷ ws) (q ∷ qs) h = λ i. absent_one side w.amount w.wanted w q refl h.0 i ∷ absent_all side ws qs h.1 i

-- made amounts are none of those that are missing
lacks_same : (ws qs : List Posting) → AreMade ws qs → lacks_two qs ≡ lacks_two ws
lacks_same ws qs h =
    let same : (side : Side) → absent_count side qs ≡ absent_count side ws = λ side. counts_same (is_absent side) (is_absent side) qs ws (absent_all side ws qs h) in
    λ i. nat_lt 1 (same Real i) || nat_lt 1 (same Balanced i) || nat_lt 0 (same Free i)

made_one : (a : Option Amount) (o : Option Assertion) (w q : Posting) → w.amount ≡ a → w.wanted ≡ o → IsMadeBy a o w q → is_assignment q ≡ false
made_one (Some a) o w q e f is = ap is_assignment is ∙ ap (λ (x : Option Amount). is_none x && is_some w.wanted) e
made_one None None w q e f is = ap is_assignment is ∙ ap (λ (x : Option Assertion). is_none w.amount && is_some x) f ∙ and_false (is_none w.amount)
made_one None (Some x) w q e f is = ap is_assignment is.1

-- what is made has no assignments left
made_none : (ws qs : List Posting) → AreMade ws qs → has_assignment qs ≡ false
made_none [] [] h = refl
made_none [] (q ∷ qs) h = absurd h
made_none (w ∷ ws) [] h = absurd h
made_none (w ∷ ws) (q ∷ qs) h = λ i. made_one w.amount w.wanted w q refl refl h.0 i || made_none ws qs h.1 i

-- ---- the range of a transaction alone

found_on_day : (T : Txn) (day : ℕ) (p : Posting) (vs : List Value) → day_of T p ≡ day → AllByRecursion (λ p. day_of T p ≡ day) (map (found_posting p) vs)
found_on_day T day p [] h = tt
found_on_day T day p (v ∷ vs) h = (h, found_on_day T day p vs h)

solved_on_day : (T : Txn) (day : ℕ) (ps0 : List Posting) (p : Posting) (a : Option Amount) → day_of T p ≡ day → AllByRecursion (λ p. day_of T p ≡ day) (solved_posting ps0 p a)
solved_on_day T day ps0 p None h = found_on_day T day p (found_values p.side ps0) h
solved_on_day T day ps0 p (Some a) h = (ap (λ (o : Option Day). (unwrap_or o T.day).0) (costed_alike (recorded_cost ps0) p).day ∙ h, tt)

all_on_day : (T : Txn) (day : ℕ) (ps0 ps : List Posting) → AllByRecursion (λ p. day_of T p ≡ day) ps → AllByRecursion (λ p. day_of T p ≡ day) (solved_by ps0 ps)
all_on_day T day ps0 [] h = tt
all_on_day T day ps0 (p ∷ ps) h = all_append (λ p. day_of T p ≡ day) (solved_posting ps0 p p.amount) (solved_by ps0 ps) (solved_on_day T day ps0 p p.amount h.0) (all_on_day T day ps0 ps h.1)

and_true : (b : Bool) → b ≡ (b && true)
and_true true = refl
and_true false = refl

whole_day : (T : Txn) (day : ℕ) (ps : List Posting) → AllByRecursion (λ p. day_of T p ≡ day) ps → filter (λ p. eqb (day_of T p) day) ps ≡ ps
whole_day T day [] h = refl
whole_day T day (p ∷ ps) h = λ i. cond ((Decides-eqb (day_of T p) day).1 h.0 i) (p ∷ whole_day T day ps h.1 i) (whole_day T day ps h.1 i)

one_group : (T : Txn) (day : ℕ) → AllByRecursion (λ p. day_of T p ≡ day) T.postings → Reorders T.postings (postings_on day T)
one_group T day h =
    joined (by_equal (sym (whole_day T day T.postings h)))
    (elim (list_any is_assigned T.postings) as (λ b. Reorders (filter (λ p. eqb (day_of T p) day) T.postings) (cond b (part_on ButFound day T ++ part_on Found day T) (part_on All day T))) [
      | true ↦ two_parts (λ p. eqb (day_of T p) day) is_found T.postings
      | false ↦ by_equal (filter_alike (λ p. eqb (day_of T p) day) (λ p. eqb (day_of T p) day && true) (λ p. and_true (eqb (day_of T p) day)) T.postings)
    ])

fits_second : (xs ys : List Value) → turnover_fits (xs ++ ys) ≡ true → turnover_fits ys ≡ true
fits_second xs ys h = fits-first ys xs (sym (fits_same (parts_swapped xs ys)) ∙ h)

-- a transaction with assignments fits alone where its one group fits
pub fits_in_group : (before : List Value) (day : ℕ) (t m : Txn) → IsMadeTxn t m → is_assignable t.postings ≡ true → day ≡ t.day.0 → turnover_fits (before ++ moved (postings_on day (settled m))) ≡ true → turnover_fits (moved (solved m.postings)) ≡ true
fits_in_group before day t m made can own fits =
    let T : Txn = settled m in
    let days : AllByRecursion (λ p. day_of T p ≡ t.day.0) m.postings = made_days T t.day (ap (λ (x : Txn). x.day) made.rest) t.postings m.postings made.postings (assignable_days t.postings can) in
    let all : AllByRecursion (λ p. day_of T p ≡ day) (solved m.postings) = subst (λ (d : ℕ). AllByRecursion (λ p. day_of T p ≡ d) (solved m.postings)) (sym own) (all_on_day T t.day.0 m.postings m.postings days) in
    fits_same (spread moved_by (one_group T day all)) ∙ fits_second before (moved (postings_on day T)) fits

-- ---- the first cause that holds

abbrev pub NoneUnless : Bool → Option Cause → Type 0
NoneUnless first c = first ≡ false → c ≡ None

abbrev of_missing : Bool → Bool → Bool → Option Cause
of_missing has lacks dated = cond {A = Option Cause} lacks (Some cause.TwoMissing) (cond {A = Option Cause} (has && dated) (Some cause.NotAllowed) None)

abbrev chosen : Bool → Bool → Bool → Bool → Bool → Bool → Bool → List Value → Option Cause
chosen first fits costs alone has lacks dated us =
    or_else (cause_if first (of_missing has lacks dated))
    (or_else (cause_if (not (fits && costs) || (first && (not has && not alone))) (Some cause.Range)) (cause_if first (unbalanced_by us)))

not_none : {A : Type 0} {x : A} {B : Type 0} → Some x ≡ None → B
not_none h = absurd (let never : ⊥ = cc in never)

-- without assignments
plain_cause : (first fits costs alone lacks dated : Bool) (us : List Value) → (alone ≡ true → costs ≡ true) →
    NoneUnless first (cond {A = Option Cause} lacks (Some cause.TwoMissing) (cond alone (unbalanced_by us) (Some cause.Range))) →
    chosen first fits costs alone false lacks dated us ≡ group_cause fits (cond {A = Option Cause} lacks (Some cause.TwoMissing) (cond alone (unbalanced_by us) (Some cause.Range)))
plain_cause true true costs alone true dated us c n = refl
plain_cause true false costs alone true dated us c n = refl
plain_cause true false costs true false dated [] c n = refl
plain_cause true false costs true false dated (u ∷ us) c n = refl
plain_cause true false costs false false dated us c n = refl
plain_cause true true true true false dated [] c n = refl
plain_cause true true true true false dated (u ∷ us) c n = refl
plain_cause true true false true false dated us c n = absurd (false≢true (c refl))
plain_cause true true true false false dated us c n = refl
plain_cause true true false false false dated us c n = refl
plain_cause false fits costs alone true dated us c n = not_none (n refl)
plain_cause false fits costs false false dated us c n = not_none (n refl)
plain_cause false fits costs true false dated (u ∷ us) c n = not_none (n refl)
plain_cause false true true true false dated [] c n = refl
plain_cause false false true true false dated [] c n = refl
plain_cause false fits false true false dated [] c n = absurd (false≢true (c refl))

-- with assignments that can be made
given_cause : (first fits costs alone : Bool) (us : List Value) → (fits ≡ true → costs ≡ true → alone ≡ true) → (alone ≡ true → costs ≡ true) →
    NoneUnless first (cond alone (unbalanced_by us) (Some cause.Range)) → (own : Bool) →
    chosen first fits costs own true false false us ≡ group_cause fits (cond alone (unbalanced_by us) (Some cause.Range))
given_cause true false costs true [] f c n own = refl
given_cause true false costs true (u ∷ us) f c n own = refl
given_cause true false costs false us f c n own = refl
given_cause true true true true [] f c n own = refl
given_cause true true true true (u ∷ us) f c n own = refl
given_cause true true true false us f c n own = absurd (false≢true (f refl refl))
given_cause true true false true us f c n own = absurd (false≢true (c refl))
given_cause true true false false us f c n own = refl
given_cause false fits costs false us f c n own = not_none (n refl)
given_cause false fits costs true (u ∷ us) f c n own = not_none (n refl)
given_cause false true true true [] f c n own = refl
given_cause false false true true [] f c n own = refl
given_cause false fits false true [] f c n own = absurd (false≢true (c refl))

-- with assignments that can't be made
refused_cause : (first fits costs alone lacks dated : Bool) (us : List Value) → is_none (cond {A = Option Cause} lacks (Some cause.TwoMissing) (cond {A = Option Cause} dated (Some cause.NotAllowed) None)) ≡ false →
    NoneUnless first (cond {A = Option Cause} lacks (Some cause.TwoMissing) (cond {A = Option Cause} dated (Some cause.NotAllowed) None)) →
    chosen first fits costs alone true lacks dated us ≡ group_cause fits (cond {A = Option Cause} lacks (Some cause.TwoMissing) (cond {A = Option Cause} dated (Some cause.NotAllowed) None))
refused_cause true true costs alone true dated us r n = refl
refused_cause true false costs alone true dated us r n = refl
refused_cause true true costs alone false true us r n = refl
refused_cause true false costs alone false true us r n = refl
refused_cause first fits costs alone false false us r n = absurd (false≢true (sym r))
refused_cause false fits costs alone true dated us r n = not_none (n refl)
refused_cause false fits costs alone false true us r n = not_none (n refl)

-- ---- of a group's transaction

abbrev pub cause_by : Bool → Bool → Txn → Txn → Option Cause
cause_by first fits t m =
    chosen first fits (costs_fit m.postings) (fits_alone t.postings) (has_assignment t.postings) (lacks_two t.postings) (list_any is_dated t.postings) (unbalanced_sums m.postings)

alone_by : (ps : List Posting) (h : Bool) → has_assignment ps ≡ h → cause_alone ps ≡ cond h (assignment_fault ps) (cond {A = Option Cause} (has_two_missing ps) (Some cause.TwoMissing) (cond (fits_alone ps) (unbalanced_by (unbalanced_sums ps)) (Some cause.Range)))
alone_by ps h e = ap (λ (b : Bool). cond b (assignment_fault ps) (cond {A = Option Cause} (has_two_missing ps) (Some cause.TwoMissing) (cond (fits_alone ps) (unbalanced_by (unbalanced_sums ps)) (Some cause.Range)))) e

alone_costs : (ps : List Posting) → fits_alone ps ≡ true → costs_fit ps ≡ true
alone_costs ps h = left_true (costs_fit ps) (turnover_fits (moved (solved ps))) h

own_cause : (t : Txn) (first fits : Bool) → has_assignment t.postings ≡ false → NoneUnless first (cause_alone t.postings) → cause_by first fits t t ≡ group_cause fits (cause_alone t.postings)
own_cause t first fits none n =
    let ps = t.postings in
    let is = alone_by ps false none ∙ ap (λ (b : Bool). cond {A = Option Cause} b (Some cause.TwoMissing) (cond (fits_alone ps) (unbalanced_by (unbalanced_sums ps)) (Some cause.Range))) (two_missing ps none) in
    ap (λ (b : Bool). chosen first fits (costs_fit ps) (fits_alone ps) b (lacks_two ps) (list_any is_dated ps) (unbalanced_sums ps)) none
    ∙ plain_cause first fits (costs_fit ps) (fits_alone ps) (lacks_two ps) (list_any is_dated ps) (unbalanced_sums ps) (alone_costs ps) (λ e. sym is ∙ n e)
    ∙ ap (group_cause fits) (sym is)

-- the parts of what may not be
not_allowed : (h n : Bool) → (not h || n) ≡ false → (h ≡ true) × (n ≡ false)
not_allowed true n e = (refl, e)
not_allowed false n e = absurd (false≢true (sym e))

-- and of what may be
no_fault_parts : (lacks dated : Bool) → is_none (cond {A = Option Cause} lacks (Some cause.TwoMissing) (cond {A = Option Cause} dated (Some cause.NotAllowed) None)) ≡ true → (lacks ≡ false) × (dated ≡ false)
no_fault_parts true dated h = absurd (false≢true h)
no_fault_parts false true h = absurd (false≢true h)
no_fault_parts false false h = (refl, refl)

refused : (t : Txn) (first fits : Bool) → is_allowed t ≡ false → NoneUnless first (cause_alone t.postings) → cause_by first fits t t ≡ group_cause fits (cause_alone t.postings)
refused t first fits cannot n =
    let ps = t.postings in
    let parts = not_allowed (has_assignment ps) (is_none (assignment_fault ps)) cannot in
    let is = alone_by ps true parts.0 in
    ap (λ (b : Bool). chosen first fits (costs_fit ps) (fits_alone ps) b (lacks_two ps) (list_any is_dated ps) (unbalanced_sums ps)) parts.0
    ∙ refused_cause first fits (costs_fit ps) (fits_alone ps) (lacks_two ps) (list_any is_dated ps) (unbalanced_sums ps) parts.1 (λ e. sym is ∙ n e)
    ∙ ap (group_cause fits) (sym is)

made_cause : (t m : Txn) (first fits : Bool) → IsMadeTxn t m → has_assignment t.postings ≡ true → assignment_fault t.postings ≡ None → (fits ≡ true → turnover_fits (moved (solved m.postings)) ≡ true) → NoneUnless first (cause_alone m.postings) → cause_by first fits t m ≡ group_cause fits (cause_alone m.postings)
made_cause t m first fits made has none alone n =
    let ps = m.postings in
    let parts = no_fault_parts (lacks_two t.postings) (list_any is_dated t.postings) (ap is_none none) in
    let plain : has_assignment ps ≡ false = made_none t.postings ps made.postings in
    let two : has_two_missing ps ≡ false = two_missing ps plain ∙ lacks_same t.postings ps made.postings ∙ parts.0 in
    let is = alone_by ps false plain ∙ ap (λ (b : Bool). cond {A = Option Cause} b (Some cause.TwoMissing) (cond (fits_alone ps) (unbalanced_by (unbalanced_sums ps)) (Some cause.Range))) two in
    (λ i. chosen first fits (costs_fit ps) (fits_alone t.postings) (has i) (parts.0 i) (parts.1 i) (unbalanced_sums ps))
    ∙ given_cause first fits (costs_fit ps) (fits_alone ps) (unbalanced_sums ps) (λ f c. λ i. c i && alone f i) (alone_costs ps) (λ e. sym is ∙ n e) (fits_alone t.postings)
    ∙ ap (group_cause fits) (sym is)

none_there : {A : Type 0} (o : Option A) → is_none o ≡ true → o ≡ None
none_there None h = refl
none_there (Some x) h = absurd (false≢true h)

may_have : (t m : Txn) (first fits : Bool) → IsMadeTxn t m → is_allowed t ≡ true → (is_assignable t.postings ≡ true → fits ≡ true → turnover_fits (moved (solved m.postings)) ≡ true) → NoneUnless first (cause_alone m.postings) → cause_by first fits t m ≡ group_cause fits (cause_alone m.postings)
may_have t m first fits made allowed alone n =
    elim (has_assignment t.postings) as (λ h. has_assignment t.postings ≡ h → (not h || is_none (assignment_fault t.postings)) ≡ true → cause_by first fits t m ≡ group_cause fits (cause_alone m.postings)) [
      | true ↦ λ has a. made_cause t m first fits made has (none_there (assignment_fault t.postings) a) (λ f. alone (λ i. has i && a i) f) n
      | false ↦ λ has a.
          let same : m ≡ t = made.rest ∙ ap (λ (ps : List Posting). record t { postings = ps }) (none_made t.postings m.postings made.postings has) in
          ap (λ (x : Txn). cause_by first fits t x) same
          ∙ own_cause t first fits has (λ e. ap (λ (x : Txn). cause_alone x.postings) (sym same) ∙ n e)
          ∙ ap (λ (x : Txn). group_cause fits (cause_alone x.postings)) (sym same)
    ] refl allowed

-- the cause of a group is the one that is judged, where at a later group of its transaction none is left
pub cause_is : (t m : Txn) (first fits : Bool) → IsMadeIf (is_allowed t) t m → (is_assignable t.postings ≡ true → IsMadeTxn t m → fits ≡ true → turnover_fits (moved (solved m.postings)) ≡ true) → NoneUnless first (cause_alone m.postings) → cause_by first fits t m ≡ group_cause fits (cause_alone m.postings)
cause_is t m first fits made alone n =
    elim (is_allowed t) as (λ b. is_allowed t ≡ b → IsMadeIf b t m → cause_by first fits t m ≡ group_cause fits (cause_alone m.postings)) [
      | true ↦ λ e made. may_have t m first fits made e (λ can. alone can made) n
      | false ↦ λ e same.
          ap (λ (x : Txn). cause_by first fits t x) same
          ∙ refused t first fits e (λ f. ap (λ (x : Txn). cause_alone x.postings) (sym same) ∙ n f)
          ∙ ap (λ (x : Txn). group_cause fits (cause_alone x.postings)) (sym same)
    ] refl made
