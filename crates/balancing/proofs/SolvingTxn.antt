-- The assignments of one transaction, by what stands before its group.
use Rattle.std.proofs.Common.{◌≡◌, ℕ, Bool, true, false, cond, ◌&&◌, ◌||◌, not, eqb, List, [], ◌∷◌, ◌++◌, map, filter, Option, Some, None, is_some, is_none, refl, sym, ap, ◌∙◌, subst}
use Rattle.std.specs.Prelude.{unwrap_or}
use Rattle.std.specs.List.{list_any, AllByRecursion}
use Rattle.std.proofs.lemmas.Bool.{false≢true, or_parts}
use Rattle.hl_num.specs.Decimal.{Decimal}
use Rattle.hl_time.specs.declared.day.Day.{Day}
use Rattle.book.specs.declared.amount.Amount.{Amount}
use Rattle.book.specs.declared.amount.Assertion.{Assertion}
use Rattle.book.specs.declared.transaction.Posting.{Posting}
use Rattle.book.specs.declared.transaction.Txn.{Txn}
use Rattle.book.specs.declared.fault.Cause.{Cause}
use Rattle.book.specs.declared.fault.Cause.TheVariants as cause
use Rattle.book.specs.SumsBefore.{is_assigned}
use Rattle.entry_balance.specs.Values.{Value}
use Rattle.entry_balance.specs.Entry.{found_posting, found_values, costed_posting, recorded_cost, solved_posting, settled, with_postings, is_dated, is_date_tag, is_assignment, has_assignment, is_assignable, assignment_fault, lacks_two}
use Rattle.entry_balance.proofs.Named.{left_true, right_true}
use Rattle.balancing.specs.declared.groups.Part.TheVariants.{All, ButFound, Found}
use Rattle.balancing.specs.Groups.{day_of}
use Rattle.balancing.specs.Parts.{is_found, is_chosen, part_on, postings_on}
use Rattle.balancing.specs.Assigned.{assigned_posting, assigned_value_by, given_posting_by, given_postings_by, given_by}
use Rattle.balancing.specs.Solves.{is_allowed, IsMadeBy, AreMade, IsMadeTxn}
use Rattle.balancing.proofs.SolvingRising.{all_append}
use Rattle.balancing.proofs.SolvingSeen.{EachAfter, each_append, each_first}
use Rattle.balancing.proofs.SolvingMade.{AssignedAfter, AreUnmarked, costed_alike, alike_assigned, unassigned_holds, unfilled, there, solved_by, all_chosen, given_holds, made_given}

-- ---- what is allowed

none_is : {A : Type 0} (o : Option A) → is_some o ≡ false → o ≡ None
none_is None h = refl
none_is (Some x) h = absurd (false≢true (sym h))

none_there : {A : Type 0} (o : Option A) → is_none o ≡ true → o ≡ None
none_there None h = refl
none_there (Some x) h = absurd (false≢true h)

undated : (ps : List Posting) → assignment_fault ps ≡ None → list_any is_dated ps ≡ false
undated ps h =
    elim (lacks_two ps) as (λ a. cond {A = Option Cause} a (Some cause.TwoMissing) (cond (list_any is_dated ps) (Some cause.NotAllowed) None) ≡ None → list_any is_dated ps ≡ false) [
      | true ↦ λ e. absurd (let never : ⊥ = cc in never)
      | false ↦ λ e. second (list_any is_dated ps) e
    ] h
  where
    second : (b : Bool) → cond {A = Option Cause} b (Some cause.NotAllowed) None ≡ None → b ≡ false
    second true e = absurd (let never : ⊥ = cc in never)
    second false e = refl

no_days : (ps : List Posting) → list_any is_dated ps ≡ false → AllByRecursion (λ p. p.day ≡ None) ps
no_days [] h = tt
no_days (p ∷ ps) h =
    let parts = or_parts (is_dated p) (list_any is_dated ps) h in
    (none_is p.day (or_parts (is_some p.day) (list_any is_date_tag p.tags) parts.0).0, no_days ps parts.1)

pub assignable_days : (ps : List Posting) → is_assignable ps ≡ true → AllByRecursion (λ p. p.day ≡ None) ps
assignable_days ps h = no_days ps (undated ps (none_there (assignment_fault ps) (right_true (has_assignment ps) (is_none (assignment_fault ps)) h)))

-- a transaction that may have assignments, and can't have them made, has none
has_none : (h n : Bool) → (not h || n) ≡ true → (h && n) ≡ false → h ≡ false
has_none true true a b = b
has_none true false a b = absurd (false≢true a)
has_none false n a b = refl

-- ---- each of two parts

any_parts : {A : Type 0} (p : A → Bool) (xs ys : List A) → list_any p (xs ++ ys) ≡ (list_any p xs || list_any p ys)
any_parts p [] ys = refl
any_parts p (x ∷ xs) ys = ap (λ b. p x || b) (any_parts p xs ys) ∙ assoc (p x) (list_any p xs) (list_any p ys)
  where
    assoc : (a b c : Bool) → (a || (b || c)) ≡ ((a || b) || c)
    assoc true b c = refl
    assoc false b c = refl

or_right : (a b : Bool) → b ≡ true → (a || b) ≡ true
or_right true b h = refl
or_right false b h = h

-- ---- made postings against written ones

amount_absent : (a : Option Amount) (o : Option Assertion) → (is_none a && is_some o) ≡ false → (w q : Posting) → IsMadeBy a o w q → q ≡ w
amount_absent (Some a) o h w q is = is
amount_absent None None h w q is = is
amount_absent None (Some x) h w q is = absurd (false≢true (sym h))

-- without assignments all is as written
pub none_made : (ws qs : List Posting) → AreMade ws qs → has_assignment ws ≡ false → qs ≡ ws
none_made [] [] made h = refl
none_made [] (q ∷ qs) made h = absurd made
none_made (w ∷ ws) [] made h = absurd made
none_made (w ∷ ws) (q ∷ qs) made h =
    let parts = or_parts (is_assignment w) (has_assignment ws) h in
    let first = amount_absent w.amount w.wanted parts.0 w q made.0 in
    let rest = none_made ws qs made.1 parts.1 in
    λ i. first i ∷ rest i

module _ (ps0 : List Posting) where
  assigned_there : (a : Option Amount) (o : Option Assertion) (w q : Posting) → w.wanted ≡ o → IsMadeBy a o w q → (is_none a && is_some o) ≡ true → list_any is_assigned (solved_posting ps0 q q.amount) ≡ true
  assigned_there (Some a) o w q e is h = absurd (false≢true h)
  assigned_there None None w q e is h = absurd (false≢true h)
  assigned_there None (Some x) w q e is h =
      let p = assigned_posting w is.0 in
      let alike = costed_alike (recorded_cost ps0) p in
      subst (λ (q : Posting). list_any is_assigned (solved_posting ps0 q q.amount) ≡ true) (sym is.1)
      (ap (λ b. b || false) (alike_assigned (costed_posting (recorded_cost ps0) p) p alike ∙ ap is_some e))

  has_assigned : (ws qs : List Posting) → AreMade ws qs → has_assignment ws ≡ true → list_any is_assigned (solved_by ps0 qs) ≡ true
  has_assigned [] qs made h = absurd (false≢true h)
  has_assigned (w ∷ ws) [] made h = absurd made
  has_assigned (w ∷ ws) (q ∷ qs) made h =
      any_parts is_assigned (solved_posting ps0 q q.amount) (solved_by ps0 qs)
      ∙ elim (is_assignment w) as (λ b. is_assignment w ≡ b → (b || has_assignment ws) ≡ true → (list_any is_assigned (solved_posting ps0 q q.amount) || list_any is_assigned (solved_by ps0 qs)) ≡ true) [
        | true ↦ λ e _. ap (λ b. b || list_any is_assigned (solved_by ps0 qs)) (assigned_there w.amount w.wanted w q refl made.0 e)
        | false ↦ λ e rest. or_right (list_any is_assigned (solved_posting ps0 q q.amount)) (list_any is_assigned (solved_by ps0 qs)) (has_assigned ws qs made.1 rest)
      ] refl h

pub made_day : (a : Option Amount) (o : Option Assertion) (w q : Posting) → IsMadeBy a o w q → q.day ≡ w.day
made_day (Some a) o w q is = ap (λ (p : Posting). p.day) is
made_day None None w q is = ap (λ (p : Posting). p.day) is
made_day None (Some x) w q is = ap (λ (p : Posting). p.day) is.1

not_found : (a : Option Amount) (o : Option Assertion) (w q : Posting) → w.wanted ≡ o → w.filled ≡ false → IsMadeBy a o w q → is_found q ≡ false
not_found (Some a) o w q e h is = ap is_found is ∙ ap (λ b. b && is_none w.wanted) h
not_found None None w q e h is = ap is_found is ∙ ap (λ b. b && is_none w.wanted) h
not_found None (Some x) w q e h is = ap is_found is.1 ∙ ap is_none e

pub made_days : (T : Txn) (day : Day) → T.day ≡ day → (ws qs : List Posting) → AreMade ws qs → AllByRecursion (λ p. p.day ≡ None) ws → AllByRecursion (λ p. day_of T p ≡ day.0) qs
made_days T day e [] [] made h = tt
made_days T day e [] (q ∷ qs) made h = absurd made
made_days T day e (w ∷ ws) [] made h = absurd made
made_days T day e (w ∷ ws) (q ∷ qs) made h =
    let own : q.day ≡ None = made_day w.amount w.wanted w q made.0 ∙ h.0 in
    ((λ i. (unwrap_or (own i) (e i)).0), made_days T day e ws qs made.1 h.1)

made_found : (ws qs : List Posting) → AreMade ws qs → AreUnmarked ws → AllByRecursion (λ p. is_found p ≡ false) qs
made_found [] [] made h = tt
made_found [] (q ∷ qs) made h = absurd made
made_found (w ∷ ws) [] made h = absurd made
made_found (w ∷ ws) (q ∷ qs) made h = (not_found w.amount w.wanted w q refl h.0 made.0, made_found ws qs made.1 h.1)

-- ---- the postings of a group

all_filtered : (P : Posting → Type 0) (p : Posting → Bool) → ((x : Posting) → p x ≡ true → P x) → (xs : List Posting) → AllByRecursion P (filter p xs)
all_filtered P p f [] = tt
all_filtered P p f (x ∷ xs) =
    let rest = all_filtered P p f xs in
    elim (p x) as (λ b. p x ≡ b → AllByRecursion P (cond b (x ∷ filter p xs) (filter p xs))) [ true ↦ λ e. (f x e, rest) | false ↦ λ e. rest ] refl

still_all : (P : Posting → Type 0) (p : Posting → Bool) (xs : List Posting) → AllByRecursion P xs → AllByRecursion P (filter p xs)
still_all P p [] h = tt
still_all P p (x ∷ xs) h =
    let rest = still_all P p xs h.1 in
    elim (p x) as (λ b. AllByRecursion P (cond b (x ∷ filter p xs) (filter p xs))) [ true ↦ (h.0, rest) | false ↦ rest ]

module _ (enter : Decimal → Decimal) where
  none_assigned : (seen ps : List Posting) → AllByRecursion (λ p. is_assigned p ≡ false) ps → EachAfter (AssignedAfter enter) seen ps
  none_assigned seen [] h = tt
  none_assigned seen (p ∷ ps) h = (unassigned_holds enter seen p h.0, none_assigned (seen ++ p ∷ []) ps h.1)

found_unassigned : (p : Posting) → is_found p ≡ true → is_assigned p ≡ false
found_unassigned p h = by p.filled p.wanted h
  where
    by : (f : Bool) (o : Option Assertion) → (f && is_none o) ≡ true → (f && is_some o) ≡ false
    by true None h = refl
    by true (Some w) h = absurd (false≢true h)
    by false o h = absurd (false≢true h)

module _ (enter : Decimal → Decimal) where
  found_part : (day : ℕ) (T : Txn) (seen : List Posting) → EachAfter (AssignedAfter enter) seen (part_on Found day T)
  found_part day T seen =
      none_assigned enter seen (part_on Found day T)
      (all_filtered (λ p. is_assigned p ≡ false) (is_chosen Found day T) (λ x e. found_unassigned x (right_true (eqb (day_of T x) day) (is_found x) e)) T.postings)

-- the group of a transaction whose assignments are made: the postings that aren't missing, and then what was missing
group_made : (t u : Txn) → IsMadeTxn t u → AreUnmarked t.postings → is_assignable t.postings ≡ true → postings_on t.day.0 (settled u) ≡ there u.postings u.postings ++ part_on Found t.day.0 (settled u)
group_made t u made unmarked can =
    let any = has_assigned u.postings t.postings u.postings made.postings (left_true (has_assignment t.postings) (is_none (assignment_fault t.postings)) can) in
    let T = settled u in
    let same : T.day ≡ t.day = ap (λ (x : Txn). x.day) made.rest in
    ap (λ (b : Bool). cond b (part_on ButFound t.day.0 T ++ part_on Found t.day.0 T) (part_on All t.day.0 T)) any
    ∙ ap (λ (ps : List Posting). ps ++ part_on Found t.day.0 T) (all_chosen u.postings T t.day.0 u.postings (made_days T t.day same t.postings u.postings made.postings (assignable_days t.postings can)) (made_found t.postings u.postings made.postings unmarked))

-- ---- assignments made one after another

module _ (enter : Decimal → Decimal) where
  given_one : (seen : List Posting) (a : Option Amount) (o : Option Assertion) (w : Posting) → IsMadeBy a o w (given_posting_by enter seen w a o)
  given_one seen (Some a) o w = refl
  given_one seen None None w = refl
  given_one seen None (Some x) w = (assigned_value_by enter seen w x, refl)

  given_all : (seen ws : List Posting) → AreMade ws (given_postings_by enter seen ws)
  given_all seen [] = tt
  given_all seen (w ∷ ws) = (given_one seen w.amount w.wanted w, given_all (seen ++ given_posting_by enter seen w w.amount w.wanted ∷ []) ws)

nothing_given : (a : Option Amount) (o : Option Assertion) (w : Posting) → (is_none a && is_some o) ≡ false → IsMadeBy a o w w
nothing_given (Some a) o w h = refl
nothing_given None None w h = refl
nothing_given None (Some x) w h = absurd (false≢true (sym h))

as_written : (ws : List Posting) → has_assignment ws ≡ false → AreMade ws ws
as_written [] h = tt
as_written (w ∷ ws) h =
    let parts = or_parts (is_assignment w) (has_assignment ws) h in
    (nothing_given w.amount w.wanted w parts.0, as_written ws parts.1)

module _ (enter : Decimal → Decimal) where
  -- what is given is made, where it may be
  pub given_made : (seen : List Posting) (t : Txn) → is_allowed t ≡ true → IsMadeTxn t (given_by enter seen t)
  given_made seen t allowed =
      elim (is_assignable t.postings) as (λ b. is_assignable t.postings ≡ b → IsMadeTxn t (cond b (with_postings t (given_postings_by enter seen t.postings)) t)) [
        | true ↦ λ e. record { postings = given_all enter seen t.postings; rest = refl }
        | false ↦ λ e. record { postings = as_written t.postings (has_none (has_assignment t.postings) (is_none (assignment_fault t.postings)) allowed e); rest = refl }
      ] refl

unassigned_found : (p : Posting) (vs : List Value) → AllByRecursion (λ p. is_assigned p ≡ false) (map (found_posting p) vs)
unassigned_found p [] = tt
unassigned_found p (v ∷ vs) = (refl, unassigned_found p vs)

unassigned_one : (ps0 : List Posting) (p : Posting) (a : Option Amount) → p.filled ≡ false → AllByRecursion (λ p. is_assigned p ≡ false) (solved_posting ps0 p a)
unassigned_one ps0 p None h = unassigned_found p (found_values p.side ps0)
unassigned_one ps0 p (Some a) h = (alike_assigned (costed_posting (recorded_cost ps0) p) p (costed_alike (recorded_cost ps0) p) ∙ unfilled p h, tt)

unassigned_all : (ps0 ps : List Posting) → AreUnmarked ps → AllByRecursion (λ p. is_assigned p ≡ false) (solved_by ps0 ps)
unassigned_all ps0 [] h = tt
unassigned_all ps0 (p ∷ ps) h = all_append (λ p. is_assigned p ≡ false) (solved_posting ps0 p p.amount) (solved_by ps0 ps) (unassigned_one ps0 p p.amount h.0) (unassigned_all ps0 ps h.1)

unassigned_on : (day : ℕ) (T : Txn) → AllByRecursion (λ p. is_assigned p ≡ false) T.postings → AllByRecursion (λ p. is_assigned p ≡ false) (postings_on day T)
unassigned_on day T h =
    let P : Posting → Type 0 = λ p. is_assigned p ≡ false in
    elim (list_any is_assigned T.postings) as (λ b. AllByRecursion (λ p. is_assigned p ≡ false) (cond b (part_on ButFound day T ++ part_on Found day T) (part_on All day T))) [
      | true ↦ all_append P (part_on ButFound day T) (part_on Found day T) (still_all P (is_chosen ButFound day T) T.postings h) (still_all P (is_chosen Found day T) T.postings h)
      | false ↦ still_all P (is_chosen All day T) T.postings h
    ]

module _ (enter : Decimal → Decimal) (day : ℕ) (seen : List Posting) (t : Txn) (unmarked : AreUnmarked t.postings) (own : is_assignable t.postings ≡ true → day ≡ t.day.0) where
  given_group : is_assignable t.postings ≡ true → EachAfter (AssignedAfter enter) seen (postings_on day (settled (with_postings t (given_postings_by enter seen t.postings))))
  given_group can =
      let u = with_postings t (given_postings_by enter seen t.postings) in
      let made : IsMadeTxn t u = record { postings = given_all enter seen t.postings; rest = refl } in
      subst (λ (d : ℕ). EachAfter (AssignedAfter enter) seen (postings_on d (settled u))) (sym (own can))
      (subst (λ (ps : List Posting). EachAfter (AssignedAfter enter) seen ps) (sym (group_made t u made unmarked can))
      (each_append (AssignedAfter enter) seen (there u.postings u.postings) (part_on Found t.day.0 (settled u))
      (given_holds enter u.postings t.postings unmarked seen seen (λ below root. refl))
      (found_part enter t.day.0 (settled u) (seen ++ there u.postings u.postings))))

  -- what was given has the amounts that it is assigned in its group
  pub given_is_assigned : EachAfter (AssignedAfter enter) seen (postings_on day (settled (given_by enter seen t)))
  given_is_assigned =
      elim (is_assignable t.postings) as (λ b. is_assignable t.postings ≡ b → EachAfter (AssignedAfter enter) seen (postings_on day (settled (cond b (with_postings t (given_postings_by enter seen t.postings)) t)))) [
        | true ↦ λ e. given_group e
        | false ↦ λ e. none_assigned enter seen (postings_on day (settled t)) (unassigned_on day (settled t) (unassigned_all t.postings t.postings unmarked))
      ] refl

  -- what has the amounts that it is assigned in its group was given
  pub assigned_is_given : (u : Txn) → IsMadeTxn t u → is_allowed t ≡ true → EachAfter (AssignedAfter enter) seen (postings_on day (settled u)) → u ≡ given_by enter seen t
  assigned_is_given u made allowed h =
      elim (is_assignable t.postings) as (λ b. is_assignable t.postings ≡ b → u ≡ cond b (with_postings t (given_postings_by enter seen t.postings)) t) [
        | true ↦ λ e.
            let on = subst (λ (d : ℕ). EachAfter (AssignedAfter enter) seen (postings_on d (settled u))) (own e) h in
            let parts = subst (λ (ps : List Posting). EachAfter (AssignedAfter enter) seen ps) (group_made t u made unmarked e) on in
            let first = each_first (AssignedAfter enter) seen (there u.postings u.postings) (part_on Found t.day.0 (settled u)) parts in
            made.rest ∙ ap (with_postings t) (made_given enter u.postings t.postings u.postings made.postings seen seen (λ below root. refl) first)
        | false ↦ λ e. made.rest ∙ ap (with_postings t) (none_made t.postings u.postings made.postings (has_none (has_assignment t.postings) (is_none (assignment_fault t.postings)) allowed e))
      ] refl
