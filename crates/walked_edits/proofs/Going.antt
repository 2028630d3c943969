-- A walk from step to step.
use Rattle.std.proofs.Common.{◌≡◌, ℕ, zero, suc, ◌+◌, ◌<◌, ◌≤◌, ◌==◌, true, List, [], ◌∷◌, ◌++◌, length, set, slice_get, take, drop, get_or, Result, Ok, Err, IfErr, IfOk, OnOk, refl, sym, ap, subst, ◌∙◌, arith, append-nil}
use Rattle.std.specs.List.{AllByRecursion}
use Rattle.std.proofs.lemmas.Bool.{eq-eqb}
use Rattle.std.proofs.lemmas.List.{drop_all, drop_more, length-map, take_all, take_more}
use Rattle.std.proofs.lemmas.List.Sums.{sum_by_push}
use Rattle.std.proofs.lemmas.Option.{same_Some}
use Rattle.hl_base.specs.Counts.{Counts}
use Rattle.book.specs.declared.transaction.Txn.{Txn}
use Rattle.entry_balance.specs.Entry.{costs_fit}
use Rattle.reached_walk.proofs.Noting.{got-at}
use Rattle.reached_walk.specs.declared.place.Spot.{Spot}
use Rattle.reached_walk.specs.Closed.{AreReached}
use Rattle.reached_walk.specs.Spots.{holds}
use Rattle.watchers.proofs.Tests.{or-left, or-right}
use Rattle.walked_edits.specs.Causes.{IsCause}
use Rattle.walked_edits.specs.Counting.{AreChecked, ChecksFew, nodes_at, nodes_on}
use Rattle.walked_edits.specs.Forms.{IsInside, put_back, put_forms, spots_of, vacant, with_room, with_vacants}
use Rattle.walked_edits.specs.Scenes.{Scene, edit_in}
use Rattle.walked_edits.specs.Stepping.{StaysBack}
use Rattle.walked_edits.specs.Walking.{IsNext, IsPutting, IsTold, IsWalked, IsWalkedIn, PutsNext}
use Rattle.walked_edits.specs.declared.fault.WalkFault.{WalkFault}
use Rattle.walked_edits.specs.declared.kept.Kept.{Kept}
use Rattle.walked_edits.specs.declared.replaced.Replaced.{Replaced}
use Rattle.walked_edits.specs.declared.walking.Walked.{Walked}
use Rattle.walked_edits.specs.declared.walking.Walking.{Walking}
use Rattle.reached_walk.proofs.Lists.{all-map}
use Rattle.walked_edits.proofs.Beginning.{spots_own}
use Rattle.walked_edits.proofs.Begins.{put_over_all}
use Rattle.walked_edits.proofs.Ends.{ended_solves}
use Rattle.walked_edits.proofs.Exchanging.{spots_last}
use Rattle.walked_edits.proofs.Putting.{cause_map, held_at, next_inside}
use Rattle.walked_edits.proofs.Waiting.{back_size}

-- ---- forms are put in, one after another

pub record IsPuttingOn (s : Scene) (taken : List Replaced) (start book : List Txn) (kept : Kept) (i : ℕ) (begun now : Counts) : Type 0 where
  pub putting : IsPutting s book kept (take i taken) (drop i taken)
  pub back : put_back book taken ≡ put_back start taken
  pub counted : AreChecked i begun now
  pub few : now.nodes ≤ begun.nodes + nodes_on s (spots_of (take i taken))
  pub most : i ≤ length taken

pub putting_begins : (s : Scene) (taken : List Replaced) (book : List Txn) (kept : Kept) (steps : Counts) → IsPutting s book kept [] taken → IsPuttingOn s taken book book kept 0 steps steps
putting_begins s taken book kept steps h = record {
  putting = h;
  back = refl;
  counted = record { bytes_read = refl; checked = omega arith };
  few = omega arith;
  most = omega arith;
}

-- the next of them
next_out : (s : Scene) (taken : List Replaced) (book : List Txn) (kept : Kept) (i : ℕ) (next : Replaced) → i < length taken → next ≡ get_or taken i next → IsPutting s book kept (take i taken) (drop i taken) → IsPutting s book kept (take i taken) (next ∷ drop (i + 1) taken)
next_out s taken book kept i next less read h =
    subst (λ (out : List Replaced). IsPutting s book kept (take i taken) out) (drop_more taken i next less ∙ ap (λ (r : Replaced). r ∷ drop (i + 1) taken) (sym read)) h

pub next_is : (s : Scene) (taken : List Replaced) (start book : List Txn) (kept : Kept) (i : ℕ) (begun now : Counts) (next : Replaced) → i < length taken → next ≡ get_or taken i next → IsPuttingOn s taken start book kept i begun now → IsNext s book kept next
next_is s taken start book kept i begun now next less read h = record {
  done = take i taken;
  rest = drop (i + 1) taken;
  putting = next_out s taken book kept i next less read h.putting;
}

-- it is one of them
pub next_held : (taken : List Replaced) (i : ℕ) (next : Replaced) → i < length taken → next ≡ get_or taken i next → holds (spots_of taken) next.spot.number ≡ true
next_held [] i next less read = absurd (omega (arith, less))
next_held (r ∷ taken) zero next less read = or-left (r.spot.number == next.spot.number) (holds (spots_of taken) next.spot.number) (eq-eqb r.spot.number next.spot.number (ap (λ (x : Replaced). x.spot.number) (sym read)))
next_held (r ∷ taken) (suc i) next less read = or-right (r.spot.number == next.spot.number) (holds (spots_of taken) next.spot.number) (next_held taken i next (omega (arith, less)) read)

pub putting_on_by : (s : Scene) (taken : List Replaced) (start book new : List Txn) (kept after : Kept) (i : ℕ) (begun now then_now : Counts) (next : Replaced) → i < length taken → next ≡ get_or taken i next → IsPuttingOn s taken start book kept i begun now → PutsNext s next book kept new after → StaysBack next.spot.number book new → AreChecked 1 now then_now
    → then_now.nodes ≤ now.nodes + nodes_at s.symbols (slice_get s.written next.spot.number) → IsPuttingOn s taken start new after (i + 1) begun then_now
putting_on_by s taken start book new kept after i begun now then_now next less read h puts stays one asked =
    let more : take (i + 1) taken ≡ take i taken ++ next ∷ [] = take_more taken i next less ∙ ap (λ (r : Replaced). take i taken ++ r ∷ []) (sym read) in
    record {
      putting =
          subst (λ (done : List Replaced). IsPutting s new after done (drop (i + 1) taken)) (sym more)
          (puts (take i taken) (drop (i + 1) taken) (next_out s taken book kept i next less read h.putting));
      back = stays taken (next_held taken i next less read) ∙ h.back;
      counted = record { bytes_read = one.bytes_read ∙ h.counted.bytes_read; checked = let a = h.counted.checked in let b = one.checked in omega (arith, a, b) };
      few =
          let nodes : nodes_on s (spots_of (take (i + 1) taken)) ≡ nodes_on s (spots_of (take i taken)) + nodes_at s.symbols (slice_get s.written next.spot.number) =
          ap (λ (rs : List Replaced). nodes_on s (spots_of rs)) more ∙ ap (nodes_on s) (spots_last (take i taken) next) ∙ sum_by_push (λ (p : Spot). nodes_at s.symbols (slice_get s.written p.number)) (spots_of (take i taken)) next.spot in
          let a = h.few in
          omega (arith, nodes, a, asked);
      most = omega (arith, less);
    }

pub all_put : (s : Scene) (taken : List Replaced) (start book : List Txn) (kept : Kept) (i : ℕ) (begun now : Counts) → length taken ≤ i → IsPuttingOn s taken start book kept i begun now → IsPutting s book kept taken []
all_put s taken start book kept i begun now past h =
    subst (λ (done : List Replaced). IsPutting s book kept done []) (take_all i taken past)
    (subst (λ (out : List Replaced). IsPutting s book kept (take i taken) out) (drop_all i taken past) h.putting)

pub all_counted : (s : Scene) (taken : List Replaced) (start book : List Txn) (kept : Kept) (i : ℕ) (begun now : Counts) → length taken ≤ i → IsPuttingOn s taken start book kept i begun now → AreChecked (length taken) begun now
all_counted s taken start book kept i begun now past h =
    let most = h.most in
    let same : i ≡ length taken = omega (arith, past, most) in
    subst (λ (n : ℕ). AreChecked n begun now) same h.counted

pub all_few : (s : Scene) (taken : List Replaced) (start book : List Txn) (kept : Kept) (i : ℕ) (begun now : Counts) → length taken ≤ i → IsPuttingOn s taken start book kept i begun now → now.nodes ≤ begun.nodes + nodes_on s (spots_of taken)
all_few s taken start book kept i begun now past h =
    subst (λ (rs : List Replaced). now.nodes ≤ begun.nodes + nodes_on s (spots_of rs)) (take_all i taken past) h.few

-- no more were checked than the edit reaches
pub most_checked : (s : Scene) (book : List Txn) (kept : Kept) (taken : List Replaced) (n : ℕ) (begun now : Counts) → IsPutting s book kept [] taken → now.checked ≤ begun.checked + n → n ≤ length taken → ChecksFew s begun now
most_checked s book kept taken n begun now h checked most set closed =
    let few = h.reached.few set closed in
    let size = length-map taken (λ (r : Replaced). r.spot) in
    omega (arith, few, size, checked, most)

pub none_checked : (s : Scene) (steps : Counts) → ChecksFew s steps steps
none_checked s steps set closed = omega arith

pub all_most : (s : Scene) (taken : List Replaced) (start book : List Txn) (before kept : Kept) (i : ℕ) (begun now : Counts) → IsPutting s start before [] taken → IsPuttingOn s taken start book kept i begun now → ChecksFew s begun now
all_most s taken start book before kept i begun now first h = most_checked s start before taken i begun now first (let e = h.counted.checked in omega (arith, e)) h.most

-- a step that fails has checked one at most
pub one_most : (s : Scene) (taken : List Replaced) (start book : List Txn) (before kept : Kept) (i : ℕ) (begun mid now : Counts) → i < length taken → IsPutting s start before [] taken → IsPuttingOn s taken start book kept i begun mid → now.checked ≤ mid.checked + 1 → ChecksFew s begun now
one_most s taken start book before kept i begun mid now less first h one =
    most_checked s start before taken (i + 1) begun now first (let e = h.counted.checked in omega (arith, e, one)) (omega (arith, less))

-- forms stand inside a book of the same size
pub still_inside : (book new : List Txn) (forms : List Replaced) → put_back new forms ≡ put_back book forms → AllByRecursion (IsInside book) forms → AllByRecursion (IsInside new) forms
still_inside book new forms back h =
    let size : length new ≡ length book = sym (back_size new forms) ∙ ap (λ (b : List Txn). length b) back ∙ back_size book forms in
    each forms size h
  where
    each : (rs : List Replaced) → length new ≡ length book → AllByRecursion (IsInside book) rs → AllByRecursion (IsInside new) rs
    each [] size h = tt
    each (r ∷ rs) size h = (let one = h.0 in omega (arith, size, one), each rs size h.1)

-- ---- the end

if_told : {X E : Type 0} (P : Type 0) (r : Result X E) (x : X) → r ≡ Ok x → OnOk r P → P
if_told P (Ok y) x e h = h
if_told P (Err y) x e h = absurd (let never : ⊥ = cc in never)

inside_by : (size : ℕ) (forms : List Replaced) → AllByRecursion (λ (t : Spot). t.number < size) (spots_of forms) → AllByRecursion (λ (r : Replaced). r.spot.number < size) forms
inside_by size [] h = tt
inside_by size (r ∷ forms) h = (h.0, inside_by size forms h.1)

inside_spots : (size : ℕ) (forms : List Replaced) → AllByRecursion (λ (r : Replaced). r.spot.number < size) forms → AllByRecursion (λ (t : Spot). t.number < size) (spots_of forms)
inside_spots size [] h = tt
inside_spots size (r ∷ forms) h = (h.0, inside_spots size forms h.1)

pub walked_in : (s : Scene) (room end now : List Txn) (w : Walking) (forms : List Replaced) (outcome : Result (Unit {0}) WalkFault) (r : Result Walked WalkFault)
    → OnOk outcome (IsPutting s end w.kept w.taken.items []) → put_back end w.taken.items ≡ room → AllByRecursion (IsInside end) w.taken.items
    → now ≡ put_back end w.taken.items → put_forms now forms ≡ end → spots_of forms ≡ spots_of w.taken.items
    → IfOk r (λ x. x.kept ≡ w.kept) → IfOk r (λ x. x.forms.items ≡ forms) → IfOk r (λ _. outcome ≡ Ok tt)
    → IfOk r (IsWalkedIn s room)
walked_in s room end now w forms outcome (Err e) ended back inside now_is forth spots kept_is forms_are told = tt
walked_in s room end now w forms outcome (Ok x) ended back inside now_is forth spots kept_is forms_are told =
    let all : IsPutting s end w.kept w.taken.items [] = if_told (IsPutting s end w.kept w.taken.items []) outcome tt told ended in
    let reached : AreReached (edit_in s) (spots_of w.taken.items) = subst (λ (rs : List Replaced). AreReached (edit_in s) (spots_of rs)) (append-nil w.taken.items) all.reached in
    let same_spots : spots_of x.forms.items ≡ spots_of w.taken.items = ap spots_of forms_are ∙ spots in
    let whole : put_forms room x.forms.items ≡ end = (λ i. put_forms (sym back i) (forms_are i)) ∙ ap (λ (b : List Txn). put_forms b forms) (sym now_is) ∙ forth in
    let size : length end ≡ length room = sym (back_size end w.taken.items) ∙ ap (λ (b : List Txn). length b) back in
    record {
      told = subst (λ (b : List Txn). IsTold s b (spots_of x.forms.items) x.kept) (sym whole)
          (subst (λ (spots : List Spot). IsTold s end spots x.kept) (sym same_spots)
          (subst (λ (k : Kept). IsTold s end (spots_of w.taken.items) k) (sym kept_is) (record {
            solves = ended_solves s end w.kept w.taken.items all.partly reached;
            reached = reached;
            kept_is = record { stand = all.partly.sums.stand; days = all.partly.days; turnover = all.partly.sums.turnover };
            symbols = all.partly.symbols;
            inside = subst (λ (n : ℕ). AllByRecursion (λ (t : Spot). t.number < n) (spots_of w.taken.items)) all.partly.size (inside_spots (length end) w.taken.items inside);
          })));
      inside =
          inside_by (length room) x.forms.items
          (subst (λ (spots : List Spot). AllByRecursion (λ (t : Spot). t.number < length room) spots) (sym same_spots)
          (subst (λ (n : ℕ). AllByRecursion (λ (t : Spot). t.number < n) (spots_of w.taken.items)) size (inside_spots (length end) w.taken.items inside)));
    }

pub walked_count : (begun now : Counts) (w : Walking) (forms : List Replaced) (outcome : Result (Unit {0}) WalkFault) (r : Result Walked WalkFault)
    → OnOk outcome (AreChecked (length w.taken.items) begun now) → spots_of forms ≡ spots_of w.taken.items
    → IfOk r (λ x. x.forms.items ≡ forms) → IfOk r (λ _. outcome ≡ Ok tt)
    → IfOk r (λ x. AreChecked (length x.forms.items) begun now)
walked_count begun now w forms outcome (Err e) counted spots forms_are told = tt
walked_count begun now w forms outcome (Ok x) counted spots forms_are told =
    subst (λ (n : ℕ). AreChecked n begun now)
    (sym (ap (λ (xs : List Replaced). length xs) forms_are ∙ sym (length-map forms (λ (r : Replaced). r.spot)) ∙ ap (λ (xs : List Spot). length xs) spots ∙ length-map w.taken.items (λ (r : Replaced). r.spot)))
    (if_told (AreChecked (length w.taken.items) begun now) outcome tt told counted)

pub walked_nodes : (s : Scene) (begun now : Counts) (w : Walking) (forms : List Replaced) (outcome : Result (Unit {0}) WalkFault) (r : Result Walked WalkFault)
    → OnOk outcome (now.nodes ≤ begun.nodes + nodes_on s (spots_of w.taken.items)) → spots_of forms ≡ spots_of w.taken.items
    → IfOk r (λ x. x.forms.items ≡ forms) → IfOk r (λ _. outcome ≡ Ok tt)
    → IfOk r (λ x. now.nodes ≤ begun.nodes + nodes_on s (spots_of x.forms.items))
walked_nodes s begun now w forms outcome (Err e) few spots forms_are told = tt
walked_nodes s begun now w forms outcome (Ok x) few spots forms_are told =
    subst (λ (ps : List Spot). now.nodes ≤ begun.nodes + nodes_on s ps) (sym (ap spots_of forms_are ∙ spots))
    (if_told (now.nodes ≤ begun.nodes + nodes_on s (spots_of w.taken.items)) outcome tt told few)

pub walked_cause : (P : Type 0) (outcome : Result (Unit {0}) WalkFault) (r : Result Walked WalkFault) → IfErr outcome (λ fault. IsCause fault P) → IfErr r (λ fault. outcome ≡ Err fault) → IfErr r (λ fault. IsCause fault P)
walked_cause P outcome (Ok x) h told = tt
walked_cause P outcome (Err e) h told = subst (λ (o : Result (Unit {0}) WalkFault). IfErr o (λ fault. IsCause fault P)) told h

-- ---- in the book before the edit

pub walked_before : (s : Scene) (before room : List Txn) (r : Result Walked WalkFault) → room ≡ with_room s.written before → IfOk r (IsWalkedIn s (with_vacants s.spots room)) → IfOk r (IsWalked s before)
walked_before s before room (Err e) is h = tt
walked_before s before room (Ok w) is h =
    let there : IsWalkedIn s (with_vacants s.spots (with_room s.written before)) w = subst (λ (b : List Txn). IsWalkedIn s (with_vacants s.spots b) w) is h in
    subst (λ (b : List Txn). IsTold s b (spots_of w.forms.items) w.kept)
    (put_over_all s.spots (with_room s.written before) w.forms.items
    (all-map (λ (t : Spot). holds s.spots t.number ≡ true) (λ (t : Spot). holds (spots_of w.forms.items) t.number ≡ true) (λ t own. there.told.reached.closed.edited t.number own) s.spots (spots_own s.spots)))
    there.told

-- ---- answers of which something is known

pub ok_map : {X E A B : Type 0} (r : Result X E) → (A → B) → OnOk r A → OnOk r B
ok_map (Ok x) f a = f a
ok_map (Err e) f a = tt

pub err_map : {X : Type 0} (P Q : Type 0) → (P → Q) → (r : Result X WalkFault) → IfErr r (λ fault. IsCause fault P) → IfErr r (λ fault. IsCause fault Q)
err_map P Q f (Ok x) h = tt
err_map P Q f (Err fault) h = cause_map fault P Q f h

-- ---- what holds the next place

pub held_is : (s : Scene) (book : List Txn) (kept : Kept) (next : Replaced) (held : Txn) → IsNext s book kept next → held ≡ get_or book next.spot.number held → held ≡ vacant next.spot.day
held_is s book kept next held n read =
    same_Some held (vacant next.spot.day)
    (sym (got-at book next.spot.number held (next_inside s book kept next n.done n.rest n.putting) read) ∙ held_at s book kept next n.done n.rest n.putting)

pub held_costs : (next : Replaced) (held : Txn) → held ≡ vacant next.spot.day → costs_fit held.postings ≡ true
held_costs next held is = ap (λ (t : Txn). costs_fit t.postings) is
