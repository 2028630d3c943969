-- A text with one or two plain entries behind it: its assignments, and the first fault of its groups.
use Rattle.std.proofs.Common.{ℕ, zero, suc, ◌≡◌, ◌+◌, ◌<◌, ◌≤◌, inl, inr, ◌⊎◌, Bool, true, false, cond, not, List, [], ◌∷◌, ◌++◌, length, Option, Some, None, refl, sym, ap, subst, ◌∙◌, arith, append-nil}
use Rattle.std.specs.List.{slice_get, AllByRecursion}
use Rattle.std.proofs.lemmas.Bool.{cases_lt}
use Rattle.book.specs.declared.fault.Cause.{Cause}
use Rattle.book.specs.declared.fault.Cause.TheVariants as cause
use Rattle.book.specs.declared.fault.Fault.{Fault}
use Rattle.book.specs.declared.transaction.Posting.{Posting}
use Rattle.book.specs.declared.transaction.Txn.{Txn}
use Rattle.book.specs.Order.{each_once}
use Rattle.assertions.specs.Assertions.{first_failure, or_else_fault}
use Rattle.entry_balance.specs.Entry.{cause_alone, is_assignable, moved, settled}
use Rattle.entry_balance.specs.Tally.{turnover_fits}
use Rattle.entry_balance.specs.Values.{Value}
use Rattle.balancing.specs.Assigned.{assigned, given_at, given_from, is_ready}
use Rattle.balancing.specs.Groups.{Group, group_cmp, groups_by, groups_from, groups_of}
use Rattle.balancing.specs.Load.{fault_at, fault_of_group, first_fault, group_cause, moved_of_group, moved_on}
use Rattle.balancing.specs.Parts.{postings_of_group, postings_on}
use Rattle.balancing.proofs.Given.{given-keeps, given_at-same}
use Rattle.balancing.proofs.SolvingBook.{group_ok, no_cause, none_of}
use Rattle.balancing.proofs.SolvingRising.{all_append}
use Rattle.closed_journals.proofs.Ordered.{BareIf, Before, Divided, IsGroup, IsOnTime, Parted, Stands, all_by, divided, groups_append, groups_known, parted}

-- ---- places in two lists

abbrev Within : List Txn → Group → Type 0
Within ts g = g.1 < length ts

get_front : (ts us : List Txn) (n : ℕ) → n < length ts → slice_get (ts ++ us) n ≡ slice_get ts n
get_front [] us n h = absurd (omega arith)
get_front (t ∷ ts) us zero h = refl
get_front (t ∷ ts) us (suc n) h = get_front ts us n (omega arith)

get_behind : (ts us : List Txn) (n k : ℕ) → n ≡ length ts + k → slice_get (ts ++ us) n ≡ slice_get us k
get_behind [] us n k e = ap (slice_get us) (let same : n ≡ k = omega arith in same)
get_behind (t ∷ ts) us zero k e = absurd (omega arith)
get_behind (t ∷ ts) us (suc n) k e = get_behind ts us n k (omega arith)

given_front : (seen : List Posting) (n : ℕ) (ts us : List Txn) → n < length ts → given_at seen n (ts ++ us) ≡ given_at seen n ts ++ us
given_front seen n [] us h = absurd (omega arith)
given_front seen zero (t ∷ ts) us h = refl
given_front seen (suc n) (t ∷ ts) us h = ap (λ (l : List Txn). t ∷ l) (given_front seen n ts us (omega arith))

given_length : (seen : List Posting) (n : ℕ) (ts : List Txn) → length (given_at seen n ts) ≡ length ts
given_length seen n [] = refl
given_length seen zero (t ∷ ts) = refl
given_length seen (suc n) (t ∷ ts) = ap suc (given_length seen n ts)

pub from_length : (ts : List Txn) (seen : List Posting) (gs : List Group) → length (given_from ts seen gs) ≡ length ts
from_length ts seen [] = refl
from_length ts seen (g ∷ gs) =
    let next = given_at seen g.1 ts in
    from_length next (seen ++ postings_of_group g.0 (slice_get next g.1)) gs ∙ given_length seen g.1 ts

all_within : (ts us : List Txn) (gs : List Group) → length us ≡ length ts → AllByRecursion (Within ts) gs → AllByRecursion (Within us) gs
all_within ts us gs e h = all_by (Within ts) (Within us) (λ g w. let more : g.1 < length us = omega (arith, e, w) in more) gs h

-- ---- assignments

-- what stands before the groups behind some others
abbrev seen_after : List Txn → List Posting → List Group → List Posting
seen_after ts seen [] = seen
seen_after ts seen (g ∷ gs) =
    let next = given_at seen g.1 ts in
    seen_after next (seen ++ postings_of_group g.0 (slice_get next g.1)) gs

given_parts : (ts : List Txn) (seen : List Posting) (fs bs : List Group) → given_from ts seen (fs ++ bs) ≡ given_from (given_from ts seen fs) (seen_after ts seen fs) bs
given_parts ts seen [] bs = refl
given_parts ts seen (g ∷ fs) bs =
    let next = given_at seen g.1 ts in
    given_parts next (seen ++ postings_of_group g.0 (slice_get next g.1)) fs bs

-- the assignments of the front are made as without the entries
given_among : (ts us : List Txn) (seen : List Posting) (fs : List Group) → AllByRecursion (Within ts) fs
    → given_from (ts ++ us) seen fs ≡ given_from ts seen fs ++ us
given_among ts us seen [] h = refl
given_among ts us seen (g ∷ fs) h =
    let next = given_at seen g.1 ts in
    let there = get_front next us g.1 (omega (arith, given_length seen g.1 ts, h.0)) in
    ap (λ (l : List Txn). given_from l (seen ++ postings_of_group g.0 (slice_get l g.1)) fs) (given_front seen g.1 ts us h.0)
    ∙ ap (λ (o : Option Txn). given_from (next ++ us) (seen ++ postings_of_group g.0 o) fs) there
    ∙ given_among next us (seen ++ postings_of_group g.0 (slice_get next g.1)) fs (all_within ts next fs (given_length seen g.1 ts) h.1)

abbrev Ready : List Txn → Group → Type 0
Ready ts g = is_ready (slice_get ts g.1) ≡ true

-- groups without assignments change nothing
given_none : (ts : List Txn) (seen : List Posting) (gs : List Group) → AllByRecursion (Ready ts) gs → given_from ts seen gs ≡ ts
given_none ts seen [] h = refl
given_none ts seen (g ∷ gs) h =
    ap (λ (l : List Txn). given_from l (seen ++ postings_of_group g.0 (slice_get l g.1)) gs) (given_at-same seen g.1 ts h.0)
    ∙ given_none ts (seen ++ postings_of_group g.0 (slice_get ts g.1)) gs h.1

ready_after : (ts : List Txn) (seen : List Posting) (fs gs : List Group) → AllByRecursion (Ready ts) gs → AllByRecursion (Ready (given_from ts seen fs)) gs
ready_after ts seen fs gs h = all_by (Ready ts) (Ready (given_from ts seen fs)) (λ g r. ap is_ready (given-keeps ts seen fs g.1 r) ∙ r) gs h

-- ---- plain entries

-- An entry of which nothing is to be found: its postings are on its day, and it is balanced where it is in range.
pub record IsPlain (t : Txn) : Type 0 where
  pub ready : is_assignable t.postings ≡ false
  pub settled_is : settled t ≡ t
  pub cause_is : cause_alone t.postings ≡ cond (turnover_fits (moved t.postings)) None (Some cause.Range)
  pub unclaimed : (seen : List Posting) (day : ℕ) → first_failure seen (postings_on day t) ≡ None
  pub own : (n : ℕ) → each_once group_cmp (groups_by n t t.postings ++ []) ≡ (t.day.0, n) ∷ []
  pub own_before : (n : ℕ) (more : List Group) (next : Group) → Before (t.day.0, n) next → each_once group_cmp more ≡ next ∷ [] → each_once group_cmp (groups_by n t t.postings ++ more) ≡ (t.day.0, n) ∷ next ∷ []

-- a group of a transaction without postings
abbrev Quiet : List Txn → Group → Type 0
Quiet ts g = (g.1 < length ts) × BareIf (slice_get ts g.1)

bare_ready : (o : Option Txn) → BareIf o → is_ready o ≡ true
bare_ready None h = refl
bare_ready (Some t) h = ap (λ (ps : List Posting). not (is_assignable ps)) h

-- ---- the first fault

-- Where the groups of a front have no fault, those behind it decide.
record IsPassed (all : List Txn) (before : List Value) (seen : List Posting) (fs bs : List Group) : Type 0 where
  before_them : List Value
  seen_then : List Posting
  rest : first_fault all before seen (fs ++ bs) ≡ first_fault all before_them seen_then bs
  fits : turnover_fits before_them ≡ true

still_fits : (before : List Value) (day : ℕ) (o : Option Txn) → fault_of_group before day o ≡ None → turnover_fits before ≡ true → turnover_fits (before ++ moved_of_group day o) ≡ true
still_fits before day None h fits = ap turnover_fits (append-nil before) ∙ fits
still_fits before day (Some t) h fits = (group_ok (turnover_fits (before ++ moved_on day (settled t))) (cause_alone t.postings) (no_cause t.line (group_cause (turnover_fits (before ++ moved_on day (settled t))) (cause_alone t.postings)) h)).0

pass : (ts us : List Txn) (before : List Value) (seen : List Posting) (fs bs rest : List Group) → AllByRecursion (Within ts) fs → turnover_fits before ≡ true
    → first_fault ts before seen (fs ++ rest) ≡ None → IsPassed (ts ++ us) before seen fs bs
pass ts us before seen [] bs rest h fits none = record { before_them = before; seen_then = seen; rest = refl; fits = fits }
pass ts us before seen (g ∷ fs) bs rest h fits none =
    let o = slice_get ts g.1 in
    let there : slice_get (ts ++ us) g.1 ≡ o = get_front ts us g.1 h.0 in
    let moved_now = moved_of_group g.0 o in
    let postings = postings_of_group g.0 o in
    let one = none_of (fault_of_group before g.0 o) (or_else_fault (first_failure seen postings) (first_fault ts (before ++ moved_now) (seen ++ postings) (fs ++ rest))) none in
    let two = none_of (first_failure seen postings) (first_fault ts (before ++ moved_now) (seen ++ postings) (fs ++ rest)) one.1 in
    let more = pass ts us (before ++ moved_now) (seen ++ postings) fs bs rest h.1 (still_fits before g.0 o one.0 fits) two.1 in
    record {
      before_them = more.before_them;
      seen_then = more.seen_then;
      rest =
          ap (λ (x : Option Txn). or_else_fault (fault_of_group before g.0 x) (or_else_fault (first_failure seen (postings_of_group g.0 x)) (first_fault (ts ++ us) (before ++ moved_of_group g.0 x) (seen ++ postings_of_group g.0 x) (fs ++ bs)))) there
          ∙ ap (λ (f : Option Fault). or_else_fault f (or_else_fault (first_failure seen postings) (first_fault (ts ++ us) (before ++ moved_now) (seen ++ postings) (fs ++ bs)))) one.0
          ∙ ap (λ (f : Option Fault). or_else_fault f (first_fault (ts ++ us) (before ++ moved_now) (seen ++ postings) (fs ++ bs))) two.0
          ∙ more.rest;
      fits = more.fits;
    }

abbrev with_rest : Txn → List Posting → Txn
with_rest t ps = settled (record t { postings = ps })

-- a group of a transaction without postings has no fault, and moves nothing
bare_fault : (before : List Value) (day : ℕ) (t : Txn) → t.postings ≡ [] → turnover_fits before ≡ true → fault_of_group before day (Some t) ≡ None
bare_fault before day t empty fits =
    ap (λ (ps : List Posting). fault_at t.line (group_cause (turnover_fits (before ++ moved_on day (with_rest t ps))) (cause_alone ps))) empty
    ∙ ap (λ (vs : List Value). fault_at t.line (group_cause (turnover_fits vs) None)) (append-nil before)
    ∙ ap (λ (b : Bool). fault_at t.line (group_cause b None)) fits

bare_moved : (day : ℕ) (o : Option Txn) → BareIf o → moved_of_group day o ≡ []
bare_moved day None h = refl
bare_moved day (Some t) h = ap (λ (ps : List Posting). moved_on day (with_rest t ps)) h

bare_postings : (day : ℕ) (o : Option Txn) → BareIf o → postings_of_group day o ≡ []
bare_postings day None h = refl
bare_postings day (Some t) h = ap (λ (ps : List Posting). postings_on day (with_rest t ps)) h

bare_none : (before : List Value) (day : ℕ) (o : Option Txn) → BareIf o → turnover_fits before ≡ true → fault_of_group before day o ≡ None
bare_none before day None h fits = refl
bare_none before day (Some t) h fits = bare_fault before day t h fits

pass_quiet : (all : List Txn) (before : List Value) (seen : List Posting) (qs bs : List Group) → AllByRecursion (λ g. BareIf (slice_get all g.1)) qs → turnover_fits before ≡ true
    → first_fault all before seen (qs ++ bs) ≡ first_fault all before seen bs
pass_quiet all before seen [] bs h fits = refl
pass_quiet all before seen (g ∷ qs) bs h fits =
    let o = slice_get all g.1 in
    ap (λ (f : Option Fault). or_else_fault f (or_else_fault (first_failure seen (postings_of_group g.0 o)) (first_fault all (before ++ moved_of_group g.0 o) (seen ++ postings_of_group g.0 o) (qs ++ bs)))) (bare_none before g.0 o h.0 fits)
    ∙ ap (λ (ps : List Posting). or_else_fault (first_failure seen ps) (first_fault all (before ++ moved_of_group g.0 o) (seen ++ ps) (qs ++ bs))) (bare_postings g.0 o h.0)
    ∙ ap (λ (vs : List Value). first_fault all (before ++ vs) (seen ++ []) (qs ++ bs)) (bare_moved g.0 o h.0)
    ∙ (λ i. first_fault all (append-nil before i) (append-nil seen i) (qs ++ bs))
    ∙ pass_quiet all before seen qs bs h.1 fits

-- What becomes of a plain entry's group behind others: it is out of range, or the groups behind it decide.
abbrev out_of_range : Txn → Fault
out_of_range t = record { line = t.line; cause = cause.Range }

data Goes (all : List Txn) (before : List Value) (seen : List Posting) (g : Group) (bs : List Group) (t : Txn) : Type 0 where
  stops : first_fault all before seen (g ∷ bs) ≡ Some (out_of_range t) → Goes all before seen g bs t
  goes_on : (next : List Value) (later : List Posting) → turnover_fits next ≡ true → first_fault all before seen (g ∷ bs) ≡ first_fault all next later bs → Goes all before seen g bs t

module _ (all : List Txn) (before : List Value) (seen : List Posting) (g : Group) (bs : List Group) (t : Txn) where
  abbrev later : Option Fault
  later = or_else_fault (first_failure seen (postings_of_group g.0 (Some t))) (first_fault all (before ++ moved_of_group g.0 (Some t)) (seen ++ postings_of_group g.0 (Some t)) bs)

  abbrev told : Bool → Bool → Option Fault
  told a b = or_else_fault (fault_at t.line (group_cause a (cond b None (Some cause.Range)))) later

  abbrev fits_there : Bool
  fits_there = turnover_fits (before ++ moved_on g.0 (settled t))

  abbrev fits_itself : Bool
  fits_itself = turnover_fits (moved t.postings)

  first : slice_get all g.1 ≡ Some t → IsPlain t → first_fault all before seen (g ∷ bs) ≡ told fits_there fits_itself
  first there plain =
      ap (λ (x : Option Txn). or_else_fault (fault_of_group before g.0 x) (or_else_fault (first_failure seen (postings_of_group g.0 x)) (first_fault all (before ++ moved_of_group g.0 x) (seen ++ postings_of_group g.0 x) bs))) there
      ∙ ap (λ (c : Option Cause). or_else_fault (fault_at t.line (group_cause fits_there c)) later) plain.cause_is

  both : (a b : Bool) → fits_there ≡ a → fits_itself ≡ b → first_fault all before seen (g ∷ bs) ≡ told fits_there fits_itself → first_fault all before seen (g ∷ bs) ≡ told a b
  both a b e f is = is ∙ (λ i. told (e i) (f i))

  by : (a b : Bool) → fits_there ≡ a → fits_itself ≡ b → first_fault all before seen (g ∷ bs) ≡ told fits_there fits_itself → IsPlain t → Goes all before seen g bs t
  by true true e f is plain = goes_on (before ++ moved_of_group g.0 (Some t)) (seen ++ postings_of_group g.0 (Some t)) e
      (both true true e f is
      ∙ ap (λ (x : Option Fault). or_else_fault x (first_fault all (before ++ moved_of_group g.0 (Some t)) (seen ++ postings_of_group g.0 (Some t)) bs))
      (ap (λ (u : Txn). first_failure seen (postings_on g.0 u)) plain.settled_is ∙ plain.unclaimed seen g.0))
  by true false e f is plain = stops (both true false e f is)
  by false true e f is plain = stops (both false true e f is)
  by false false e f is plain = stops (both false false e f is)

  pass_plain : slice_get all g.1 ≡ Some t → IsPlain t → Goes all before seen g bs t
  pass_plain there plain = by fits_there fits_itself refl refl (first there plain) plain

-- ---- one entry behind a text

-- The first fault there is: none, or the entry is out of range.
pub data EndsAlone (all : List Txn) (one : Txn) : Type 0 where
  alone_sound : first_fault all [] [] (groups_of all) ≡ None → EndsAlone all one
  alone_out : first_fault all [] [] (groups_of all) ≡ Some (record { line = one.line; cause = cause.Range }) → EndsAlone all one

-- What is known of a text and an entry behind it.
pub record IsFollowedBy (on : ℕ) (ts : List Txn) (one : Txn) : Type 0 where
  pub timely : AllByRecursion (IsOnTime on) ts
  pub day : one.day.0 ≡ on
  pub plain : IsPlain one

module _ (on : ℕ) (ts : List Txn) (one : Txn) (is : IsFollowedBy on ts one) where
  abbrev with_it : List Txn
  with_it = ts ++ one ∷ []

  abbrev its_group : Group
  its_group = (one.day.0, length ts)

  its_time : (g : Group) → g.0 ≤ on → g.1 < length ts → Before g its_group
  its_time g most within = by (cases_lt g.0 one.day.0)
    where
      by : (g.0 < one.day.0) ⊎ (one.day.0 ≤ g.0) → Before g its_group
      by (inl less) = inl less
      by (inr more) = inr (let same : g.0 ≡ one.day.0 = omega (arith, most, is.day) in same, within)

  before_it : (g : Group) → IsGroup on 0 ts g → Stands (Within ts) (Quiet ts) its_group g
  before_it g known = record { kept = within; number = within; kind = by known.kind }
    where
      number : g.1 ≡ known.place
      number = omega (arith, known.is)

      within : g.1 < length ts
      within = omega (arith, known.is, known.within)

      by : (g.0 ≤ on) ⊎ BareIf (slice_get ts known.place) → (Before g its_group) ⊎ (Quiet ts g)
      by (inl most) = inl (its_time g most within)
      by (inr bare) = inr (within, subst (λ (k : ℕ). BareIf (slice_get ts k)) (sym number) bare)

  its_groups : List Group
  its_groups = groups_by (length ts) one one.postings ++ []

  its_groups_are : each_once group_cmp its_groups ≡ its_group ∷ []
  unfolding its_groups
  its_groups_are = is.plain.own (length ts)

  groups_with_it : groups_from 0 with_it ≡ groups_from 0 ts ++ its_groups
  unfolding its_groups
  groups_with_it = groups_append 0 ts (one ∷ []) ∙ ap (λ (k : ℕ). groups_from 0 ts ++ groups_from k (one ∷ [])) (none (length ts))
    where
      none : (n : ℕ) → 0 + n ≡ n
      none n = omega arith

  pub all_divided : Divided (Within ts) (Quiet ts) its_group (groups_of ts) (groups_of with_it)
  all_divided =
      subst (λ (gs : List Group). Divided (Within ts) (Quiet ts) its_group (groups_of ts) (each_once group_cmp gs)) (sym groups_with_it)
      (divided (Within ts) (Quiet ts) its_group (groups_from 0 ts) its_groups its_groups_are
      (all_by (IsGroup on 0 ts) (Stands (Within ts) (Quiet ts) its_group) before_it (groups_from 0 ts) (groups_known on 0 ts is.timely)))

  ready_with_it : (vs : List Txn) (gs : List Group) → length vs ≡ length ts → AllByRecursion (Ready vs) gs → AllByRecursion (Within ts) gs → AllByRecursion (Ready (vs ++ one ∷ [])) gs
  ready_with_it vs [] e h w = tt
  ready_with_it vs (g ∷ gs) e h w = (ap is_ready (get_front vs (one ∷ []) g.1 (omega (arith, e, w.0))) ∙ h.0, ready_with_it vs gs e h.1 w.1)

  there_it : (vs : List Txn) → length vs ≡ length ts → slice_get (vs ++ one ∷ []) (length ts) ≡ Some one
  there_it vs e = get_behind vs (one ∷ []) (length ts) 0 (omega (arith, e))

  -- the assignments of the text are made as they are without the entry
  pub assigned_with_it : assigned with_it ≡ assigned ts ++ one ∷ []
  assigned_with_it =
      let d = all_divided in
      let vs = given_from ts [] d.first in
      let seen = seen_after ts [] d.first in
      let count : length vs ≡ length ts = from_length ts [] d.first in
      let within : AllByRecursion (Within ts) d.second = all_by (Quiet ts) (Within ts) (λ g q. q.0) d.second d.quiet_second in
      let second =
      ready_after ts [] d.first d.second (all_by (Quiet ts) (Ready ts) (λ g q. bare_ready (slice_get ts g.1) q.1) d.second d.quiet_second) in
      let alone : assigned ts ≡ vs =
      ap (given_from ts []) d.groups_are ∙ given_parts ts [] d.first d.second ∙ given_none vs seen d.second second in
      let later : AllByRecursion (Ready (vs ++ one ∷ [])) (its_group ∷ d.second) = (
        ap is_ready (there_it vs count) ∙ ap not is.plain.ready,
        ready_with_it vs d.second count second within,
      ) in
      ap (given_from with_it []) d.all_are
      ∙ given_parts with_it [] d.first (its_group ∷ d.second)
      ∙ ap (λ (l : List Txn). given_from l (seen_after with_it [] d.first) (its_group ∷ d.second)) (given_among ts (one ∷ []) [] d.first d.kept)
      ∙ given_none (vs ++ one ∷ []) (seen_after with_it [] d.first) (its_group ∷ d.second) later
      ∙ ap (λ (l : List Txn). l ++ one ∷ []) (sym alone)

  bare_with_it : (gs : List Group) → AllByRecursion (Quiet ts) gs → AllByRecursion (λ g. BareIf (slice_get with_it g.1)) gs
  bare_with_it gs h = all_by (Quiet ts) (λ g. BareIf (slice_get with_it g.1)) (λ g q. subst BareIf (sym (get_front ts (one ∷ []) g.1 q.0)) q.1) gs h

  pub ends_alone : first_fault ts [] [] (groups_of ts) ≡ None → EndsAlone with_it one
  ends_alone none =
      let d = all_divided in
      let front = pass ts (one ∷ []) [] [] d.first (its_group ∷ d.second) d.second d.kept refl (sym (ap (first_fault ts [] []) d.groups_are) ∙ none) in
      let start : first_fault with_it [] [] (groups_of with_it) ≡ first_fault with_it front.before_them front.seen_then (its_group ∷ d.second) = ap (first_fault with_it [] []) d.all_are ∙ front.rest in
      at_it d start (pass_plain with_it front.before_them front.seen_then its_group d.second one (there_it ts refl) is.plain)
    where
      at_it : (d : Divided (Within ts) (Quiet ts) its_group (groups_of ts) (groups_of with_it)) {before : List Value} {seen : List Posting}
          → first_fault with_it [] [] (groups_of with_it) ≡ first_fault with_it before seen (its_group ∷ d.second) → Goes with_it before seen its_group d.second one → EndsAlone with_it one
      at_it d e (stops f) = alone_out (e ∙ f)
      at_it d e (goes_on next later fits f) =
          alone_sound (e ∙ f ∙ ap (first_fault with_it next later) (sym (append-nil d.second)) ∙ pass_quiet with_it next later d.second [] (bare_with_it d.second d.quiet_second) fits)

-- ---- two entries behind it

-- The first fault there is: none, or one of the two is out of range.
pub data Ends (all : List Txn) (one two : Txn) : Type 0 where
  sound : first_fault all [] [] (groups_of all) ≡ None → Ends all one two
  first_out : first_fault all [] [] (groups_of all) ≡ Some (record { line = one.line; cause = cause.Range }) → Ends all one two
  second_out : first_fault all [] [] (groups_of all) ≡ Some (record { line = two.line; cause = cause.Range }) → Ends all one two

-- What is known of a text and two entries behind it.
pub record IsFollowed (on : ℕ) (ts : List Txn) (one two : Txn) : Type 0 where
  pub timely : AllByRecursion (IsOnTime on) ts
  pub day_one : one.day.0 ≡ on
  pub day_two : two.day.0 ≡ suc on
  pub plain_one : IsPlain one
  pub plain_two : IsPlain two

module _ (on : ℕ) (ts : List Txn) (one two : Txn) (is : IsFollowed on ts one two) where
  abbrev us : List Txn
  us = one ∷ two ∷ []

  abbrev all : List Txn
  all = ts ++ us

  abbrev g_one : Group
  g_one = (one.day.0, length ts)

  abbrev g_two : Group
  g_two = (two.day.0, length ts + 1)

  order : Before g_one g_two
  order = inl (let less : one.day.0 < two.day.0 = omega (arith, is.day_one, is.day_two) in less)

  on_time : (g : Group) → g.0 ≤ on → g.1 < length ts → Before g g_one
  on_time g most within = by (cases_lt g.0 one.day.0)
    where
      by : (g.0 < one.day.0) ⊎ (one.day.0 ≤ g.0) → Before g g_one
      by (inl less) = inl less
      by (inr more) = inr (let same : g.0 ≡ one.day.0 = omega (arith, most, is.day_one) in same, within)

  stands : (g : Group) → IsGroup on 0 ts g → Stands (Within ts) (Quiet ts) g_one g
  stands g known = record { kept = within; number = within; kind = by known.kind }
    where
      number : g.1 ≡ known.place
      number = omega (arith, known.is)

      within : g.1 < length ts
      within = omega (arith, known.is, known.within)

      by : (g.0 ≤ on) ⊎ BareIf (slice_get ts known.place) → (Before g g_one) ⊎ (Quiet ts g)
      by (inl most) = inl (on_time g most within)
      by (inr bare) = inr (within, subst (λ (k : ℕ). BareIf (slice_get ts k)) (sym number) bare)

  more : List Group
  more = groups_by (length ts) one one.postings ++ (groups_by (length ts + 1) two two.postings ++ [])

  more_are : each_once group_cmp more ≡ g_one ∷ g_two ∷ []
  unfolding more
  more_are = is.plain_one.own_before (length ts) (groups_by (length ts + 1) two two.postings ++ []) g_two order (is.plain_two.own (length ts + 1))

  groups_are : groups_from 0 all ≡ groups_from 0 ts ++ more
  unfolding more
  groups_are = groups_append 0 ts us ∙ ap (λ (k : ℕ). groups_from 0 ts ++ groups_from k us) (none (length ts))
    where
      none : (n : ℕ) → 0 + n ≡ n
      none n = omega arith

  pub all_parted : Parted (Within ts) (Quiet ts) g_one g_two (groups_of ts) (groups_of all)
  all_parted =
      subst (λ (gs : List Group). Parted (Within ts) (Quiet ts) g_one g_two (groups_of ts) (each_once group_cmp gs)) (sym groups_are)
      (parted (Within ts) (Quiet ts) g_one g_two order (groups_from 0 ts) more (let less : length ts < length ts + 1 = omega arith in less) more_are
      (all_by (IsGroup on 0 ts) (Stands (Within ts) (Quiet ts) g_one) stands (groups_from 0 ts) (groups_known on 0 ts is.timely)))

  -- ---- assignments

  all_ready : (vs : List Txn) (gs : List Group) → length vs ≡ length ts → AllByRecursion (Ready vs) gs → AllByRecursion (Within ts) gs → AllByRecursion (Ready (vs ++ us)) gs
  all_ready vs [] e h w = tt
  all_ready vs (g ∷ gs) e h w = (ap is_ready (get_front vs us g.1 (omega (arith, e, w.0))) ∙ h.0, all_ready vs gs e h.1 w.1)

  quiet_ready : (gs : List Group) → AllByRecursion (Quiet ts) gs → AllByRecursion (Ready ts) gs
  quiet_ready gs h = all_by (Quiet ts) (Ready ts) (λ g q. bare_ready (slice_get ts g.1) q.1) gs h

  quiet_within : (gs : List Group) → AllByRecursion (Quiet ts) gs → AllByRecursion (Within ts) gs
  quiet_within gs h = all_by (Quiet ts) (Within ts) (λ g q. q.0) gs h

  there_one : (vs : List Txn) → length vs ≡ length ts → slice_get (vs ++ us) (length ts) ≡ Some one
  there_one vs e = get_behind vs us (length ts) 0 (omega (arith, e))

  there_two : (vs : List Txn) → length vs ≡ length ts → slice_get (vs ++ us) (length ts + 1) ≡ Some two
  there_two vs e = get_behind vs us (length ts + 1) 1 (omega (arith, e))

  -- the assignments of the text are made as they are without the entries
  pub assigned_are : assigned all ≡ assigned ts ++ us
  assigned_are =
      let d = all_parted in
      let vs = given_from ts [] d.first in
      let seen = seen_after ts [] d.first in
      let count : length vs ≡ length ts = from_length ts [] d.first in
      let second = ready_after ts [] d.first d.second (quiet_ready d.second d.quiet_second) in
      let third = ready_after ts [] d.first d.third (quiet_ready d.third d.quiet_third) in
      let alone : assigned ts ≡ vs =
      ap (given_from ts []) d.groups_are ∙ given_parts ts [] d.first (d.second ++ d.third)
      ∙ given_none vs seen (d.second ++ d.third) (all_append (Ready vs) d.second d.third second third) in
      let later : AllByRecursion (Ready (vs ++ us)) (g_one ∷ (d.second ++ g_two ∷ d.third)) = (
        ap is_ready (there_one vs count) ∙ ap not is.plain_one.ready,
        all_append (Ready (vs ++ us)) d.second (g_two ∷ d.third) (all_ready vs d.second count second (quiet_within d.second d.quiet_second))
            (ap is_ready (there_two vs count) ∙ ap not is.plain_two.ready, all_ready vs d.third count third (quiet_within d.third d.quiet_third)),
      ) in
      ap (given_from all []) d.all_are
      ∙ given_parts all [] d.first (g_one ∷ (d.second ++ g_two ∷ d.third))
      ∙ ap (λ (l : List Txn). given_from l (seen_after all [] d.first) (g_one ∷ (d.second ++ g_two ∷ d.third))) (given_among ts us [] d.first d.kept)
      ∙ given_none (vs ++ us) (seen_after all [] d.first) (g_one ∷ (d.second ++ g_two ∷ d.third)) later
      ∙ ap (λ (l : List Txn). l ++ us) (sym alone)

  -- ---- the first fault

  bare_all : (gs : List Group) → AllByRecursion (Quiet ts) gs → AllByRecursion (λ g. BareIf (slice_get all g.1)) gs
  bare_all gs h = all_by (Quiet ts) (λ g. BareIf (slice_get all g.1)) (λ g q. subst BareIf (sym (get_front ts us g.1 q.0)) q.1) gs h

  pub ends : first_fault ts [] [] (groups_of ts) ≡ None → Ends all one two
  ends none =
      let d = all_parted in
      let k_two = g_two ∷ d.third in
      let k_one = g_one ∷ (d.second ++ k_two) in
      let front = pass ts us [] [] d.first k_one (d.second ++ d.third) d.kept refl (sym (ap (first_fault ts [] []) d.groups_are) ∙ none) in
      let start : first_fault all [] [] (groups_of all) ≡ first_fault all front.before_them front.seen_then k_one = ap (first_fault all [] []) d.all_are ∙ front.rest in
      at_one d start (pass_plain all front.before_them front.seen_then g_one (d.second ++ k_two) one (there_one ts refl) is.plain_one)
    where
      at_end : (d : Parted (Within ts) (Quiet ts) g_one g_two (groups_of ts) (groups_of all)) (next : List Value) (later : List Posting) → turnover_fits next ≡ true
          → first_fault all [] [] (groups_of all) ≡ first_fault all next later d.third → Ends all one two
      at_end d next later fits e =
          sound (e ∙ ap (first_fault all next later) (sym (append-nil d.third)) ∙ pass_quiet all next later d.third [] (bare_all d.third d.quiet_third) fits)

      at_two : (d : Parted (Within ts) (Quiet ts) g_one g_two (groups_of ts) (groups_of all)) (before : List Value) (seen : List Posting)
          → first_fault all [] [] (groups_of all) ≡ first_fault all before seen (g_two ∷ d.third) → Goes all before seen g_two d.third two → Ends all one two
      at_two d before seen e (stops f) = second_out (e ∙ f)
      at_two d before seen e (goes_on next later fits f) = at_end d next later fits (e ∙ f)

      at_one : (d : Parted (Within ts) (Quiet ts) g_one g_two (groups_of ts) (groups_of all)) {before : List Value} {seen : List Posting}
          → first_fault all [] [] (groups_of all) ≡ first_fault all before seen (g_one ∷ (d.second ++ g_two ∷ d.third)) → Goes all before seen g_one (d.second ++ g_two ∷ d.third) one → Ends all one two
      at_one d e (stops f) = first_out (e ∙ f)
      at_one d e (goes_on next later fits f) =
          at_two d next later (e ∙ f ∙ pass_quiet all next later d.second (g_two ∷ d.third) (bare_all d.second d.quiet_second) fits)
          (pass_plain all next later g_two d.third two (there_two ts refl) is.plain_two)
