-- Passes for kits, what became of them, and what the first pass keeps of them.
use Rattle.std.proofs.Common.{◌≡◌, ◌≢◌, ℕ, suc, ◌+◌, ◌^◌, ◌<◌, ◌≤◌, ltb, Bool, true, false, ◌||◌, List, [], ◌∷◌, ◌++◌, length, map, Option, refl, sym, ap, subst, ◌∙◌, length-append, arith, if◌then◌else◌}
use Rattle.std.specs.Prelude.{All}
use Rattle.std.specs.List.{list_any}
use Rattle.std.proofs.lemmas.List.{length-map}
use Rattle.std.proofs.lemmas.List.Folds.{list_any-append}
use Rattle.std.proofs.lemmas.Bool.{ltb-true, ltb-false}
use Rattle.std.proofs.lemmas.List.Elements.{All-cons, All-head, All-nil, All-push, All-tail, All-weaker}
use Rattle.hl_base.specs.declared.clock.Clock.{Ghosts as Clocks}
use Rattle.hl_base.specs.declared.disk.Disk.{Ghosts}
use Rattle.hl_base.specs.declared.door.Door.{Ghosts as Doors}
use Rattle.query_terms.specs.declared.making.Maker.{Ghosts as Makers}
use Rattle.turn_lock.specs.History.{IsNone, IsOf, longer, made_by}
use Rattle.turn_lock.specs.Passes.{IsFree, first_pass}
use Rattle.turn_lock.specs.Views.{Lock, Standing}
use Rattle.turn_lock.specs.declared.known.Entered.{Entered}
use Rattle.turn_lock.specs.declared.known.Hold.TheVariants.{Free}
use Rattle.turn_lock.specs.declared.known.Member.{Member}
use Rattle.desk.specs.declared.desk.Desk.{Desk}
use Rattle.desk.specs.Entries.{Entry}
use Rattle.shared_desk.specs.Histories.{IsLegal}
use Rattle.shared_desk.specs.Stays.{KitTold, kit_told, runs_of}
use Rattle.web_messages.specs.declared.page.Page.{Page}
use Rattle.desk_team.specs.Teams.{AllServe, AllWorked, DoneTold, ServesTeam, ServesUnder, Worked, has_failed, hired, is_failed, member_of, seated, told_of}
use Rattle.shared_desk.specs.declared.kit.Kit.{Kit}
use Rattle.shared_desk.specs.declared.serving.DoorEnd.{DoorEnd}
use Rattle.shared_desk.specs.declared.serving.DoorEnd.TheVariants as door_end
use Rattle.desk_team.specs.declared.worker.Worker.{Worker}
use Rattle.shared_desk.proofs.Passes.{free_still}

or_no : (b : Bool) → (b || false) ≡ b
or_no true = refl
or_no false = refl

not_failed : (end : DoorEnd) → end ≢ door_end.Failed → is_failed end ≡ false
not_failed door_end.Failed other = absurd (other refl)
not_failed door_end.End other = refl
not_failed door_end.Enough other = refl
not_failed door_end.Spent other = refl

-- the longer of two histories is as long as each
abbrev NoLonger : List (Entered Entry) → List (Entered Entry) → Type 0
NoLonger xs ys = length xs ≤ length ys

by_length : (xs ys : List (Entered Entry)) (b : Bool) → ltb (length xs) (length ys) ≡ b
    → NoLonger xs (if b then ys else xs) × NoLonger ys (if b then ys else xs)
by_length xs ys true is = let less = ltb-true (length xs) (length ys) is in (omega (arith, less), omega arith)
by_length xs ys false is = let least = ltb-false (length xs) (length ys) is in (omega arith, omega (arith, least))

both_shorter : (xs ys : List (Entered Entry)) → NoLonger xs (longer xs ys) × NoLonger ys (longer xs ys)
both_shorter xs ys = by_length xs ys (ltb (length xs) (length ys)) refl

module _ {T R C M : Type 0} where
  -- no worker has seen more than this
  abbrev pub SawNoMore : List (Entered Entry) → Worker (Standing T Entry) R C M → Type 0
  SawNoMore history worker = NoLonger worker.pass.seen history

  -- one more worker was taken in
  pub seen-push : (seen : List (Entered Entry)) (ws : List (Worker (Standing T Entry) R C M)) (w : Worker (Standing T Entry) R C M)
      → All (SawNoMore seen) ws → All (SawNoMore (longer seen w.pass.seen)) (ws ++ w ∷ [])
  seen-push seen ws w all =
      let both = both_shorter seen w.pass.seen in
      let more : (v : Worker (Standing T Entry) R C M) → SawNoMore seen v → SawNoMore (longer seen w.pass.seen) v = λ v less. omega (arith, less, both.0) in
      All-push (SawNoMore (longer seen w.pass.seen)) ws w (All-weaker (SawNoMore seen) (SawNoMore (longer seen w.pass.seen)) more ws all) both.1

  -- one more kit
  pub hired-push : (lock : Lock T) (n : ℕ) (ks : List (Kit R C M)) (k : Kit R C M)
      → hired lock n (ks ++ k ∷ []) ≡ hired lock n ks ++ seated lock (n + length ks) k ∷ []
  hired-push lock n [] k =
      let same : n ≡ n + 0 = omega arith in
      ap (λ (m : ℕ). seated lock m k ∷ []) same
  hired-push lock n (x ∷ ks) k =
      let same : n + 1 + length ks ≡ n + suc (length ks) = omega arith in
      ap (λ (ws : List (Worker (Standing T Entry) R C M)). seated lock n x ∷ ws)
      (hired-push lock (n + 1) ks k ∙ ap (λ (m : ℕ). hired lock (n + 1) ks ++ seated lock m k ∷ []) same)

  pub hired-length : (lock : Lock T) (n : ℕ) (ks : List (Kit R C M)) → length (hired lock n ks) ≡ length ks
  hired-length lock n [] = refl
  hired-length lock n (k ∷ ks) = ap suc (hired-length lock (n + 1) ks)

  pub hired-free : (lock : Lock T) (n : ℕ) (ks : List (Kit R C M)) → All (λ (w : Worker (Standing T Entry) R C M). IsFree lock w.pass) (hired lock n ks)
  hired-free lock n [] = All-nil (λ (w : Worker (Standing T Entry) R C M). IsFree lock w.pass)
  hired-free lock n (k ∷ ks) =
      All-cons (λ (w : Worker (Standing T Entry) R C M). IsFree lock w.pass) (seated lock n k) (hired lock (n + 1) ks) (refl, refl) (hired-free lock (n + 1) ks)

  pub members-length : (ws : List (Worker (Standing T Entry) R C M)) (members : List (Member Entry)) → members ≡ map member_of ws
      → length members ≡ length ws
  members-length ws members is = ap length is ∙ length-map ws member_of

  pub kits-length : (ws : List (Worker (Standing T Entry) R C M)) (kits : List (Kit R C M))
      → kits ≡ map (λ (w : Worker (Standing T Entry) R C M). w.kit) ws → length kits ≡ length ws
  kits-length ws kits is = ap length is ∙ length-map ws (λ (w : Worker (Standing T Entry) R C M). w.kit)

  -- whether a call of a door failed, with one more worker
  pub failed-push : (ws : List (Worker (Standing T Entry) R C M)) (w : Worker (Standing T Entry) R C M) (so_far new : Bool)
      → so_far ≡ list_any has_failed ws → new ≡ (so_far || is_failed w.end) → new ≡ list_any has_failed (ws ++ w ∷ [])
  failed-push ws w so_far new is made =
      made
      ∙ ap (λ (b : Bool). b || is_failed w.end) is
      ∙ ap (λ (b : Bool). list_any has_failed ws || b) (sym (or_no (is_failed w.end)))
      ∙ sym (list_any-append has_failed ws (w ∷ []))

  -- the first pass after one more was made
  pub next-first : (lock : Lock T) (ks : List (Kit R C M)) (k : Kit R C M) (first new : Standing T Entry)
      → first ≡ record (first_pass lock) { made = length ks } → new ≡ record first { made = first.made + 1 }
      → new ≡ record (first_pass lock) { made = length (ks ++ k ∷ []) }
  next-first lock ks k first new is made =
      let same : length ks + 1 ≡ length (ks ++ k ∷ []) = sym (length-append ks (k ∷ [])) in
      let P : ℕ → Standing T Entry = λ n. record { lock = lock; number = 0; made = n; seen = []; mine = []; joined = []; hold = Free } in
      made ∙ ap (λ (p : Standing T Entry). record p { made = p.made + 1 }) is ∙ ap P same

  -- one more kit has its pass
  pub next-worker : (lock : Lock T) (ks : List (Kit R C M)) (k : Kit R C M) (first p : Standing T Entry)
      (workers news : List (Worker (Standing T Entry) R C M)) → first ≡ record (first_pass lock) { made = length ks }
      → p ≡ record first { number = first.made + 1; made = 0; mine = []; joined = [] } → workers ≡ hired lock 0 ks
      → news ≡ workers ++ record { pass = p; kit = k; end = door_end.End } ∷ [] → news ≡ hired lock 0 (ks ++ k ∷ [])
  next-worker lock ks k first p workers news is made hired_are pushed =
      let same : length ks ≡ 0 + length ks = omega arith in
      let at : Standing T Entry → Worker (Standing T Entry) R C M = λ q. record { pass = q; kit = k; end = door_end.End } in
      pushed
      ∙ ap (λ (q : Standing T Entry). workers ++ at q ∷ [])
      (made ∙ ap (λ (f : Standing T Entry). record f { number = f.made + 1; made = 0; mine = []; joined = [] }) is)
      ∙ ap (λ (ws : List (Worker (Standing T Entry) R C M)). ws ++ seated lock (length ks) k ∷ []) hired_are
      ∙ ap (λ (m : ℕ). hired lock 0 ks ++ seated lock m k ∷ []) same
      ∙ sym (hired-push lock 0 ks k)

module _ {R K C M : Type 0} (r : Doors R K) (c : Clocks C) (m : Makers M) where
  pub told-length : (ks : List (Kit R C M)) → length (told_of r c m ks) ≡ length ks
  told-length [] = refl
  told-length (k ∷ ks) = ap suc (told-length ks)

module _ {T R K C M : Type 0} (r : Doors R K) (c : Clocks C) (m : Makers M) (coming sent : K → Option (List ℕ)) (page : Page) (limit : ℕ) where
  -- workers that worked, after the first of them
  later_worked : (o w : Worker (Standing T Entry) R C M) (os ws : List (Worker (Standing T Entry) R C M))
      → AllWorked r c m coming sent page limit (o ∷ os) (w ∷ ws) → AllWorked r c m coming sent page limit os ws
  later_worked o w os ws all = λ k d less. all (suc k) d (omega (arith, less))

  -- passes that grew hold no value
  pub worked-free : (lock : Lock T) (os ws : List (Worker (Standing T Entry) R C M)) → length ws ≡ length os
      → AllWorked r c m coming sent page limit os ws → All (λ (w : Worker (Standing T Entry) R C M). IsFree lock w.pass) os
      → All (λ (w : Worker (Standing T Entry) R C M). IsFree lock w.pass) ws
  worked-free lock [] [] same all free = free
  worked-free lock [] (w ∷ ws) same all free = absurd (omega (arith, same))
  worked-free lock (o ∷ os) [] same all free = absurd (omega (arith, same))
  worked-free lock (o ∷ os) (w ∷ ws) same all free =
      let Idle : Worker (Standing T Entry) R C M → Type 0 = λ v. IsFree lock v.pass in
      let one : Worked r c m coming sent page limit o w = all 0 w (omega arith) in
      All-cons Idle w ws (free_still lock o.pass w.pass (runs_of one.0.stays) (All-head Idle o os free) one.0.grown)
      (worked-free lock os ws (omega (arith, same)) (later_worked o w os ws all) (All-tail Idle o os free))

  -- what is told of a worker that ended
  abbrev told_done : Worker (Standing T Entry) R C M → DoneTold K
  told_done w = record { kit = kit_told r c m w.kit; end = w.end }

  -- what stands under the number of a worker
  one_served : (lock : Lock T) (n : ℕ) (history : List (Entered Entry)) (k : Kit R C M) (w : Worker (Standing T Entry) R C M)
      → Worked r c m coming sent page limit (seated lock n k) w → made_by w.pass.number history ≡ w.pass.mine → lock.done ≡ 0 → SawNoMore history w
      → ServesUnder coming sent page limit history (n + 1) (kit_told r c m k) (told_done w)
  one_served lock n history k w one made none seen = record {
    stays = one.0.stays;
    served = one.0.served;
    ends = one.0.ends;
    full = λ is.
        let at_end : w.pass.lock.done + length w.pass.seen + 1 ≡ 2 ^ 63 = one.0.full is in
        let same : w.pass.lock.done ≡ 0 = ap (λ (l : Lock T). l.done) one.0.grown.lock ∙ none in
        omega (arith, at_end, same, seen);
    made = ap (λ (number : ℕ). made_by number history) (sym one.0.grown.number) ∙ made ∙ one.0.grown.mine;
    asked = one.0.asked;
    day = one.0.day;
  }

  pub all_served : (lock : Lock T) (n : ℕ) (history : List (Entered Entry)) (ks : List (Kit R C M)) (ws : List (Worker (Standing T Entry) R C M))
      → length ws ≡ length ks → AllWorked r c m coming sent page limit (hired lock n ks) ws
      → All (λ (member : Member Entry). made_by member.number history ≡ member.mine) (map member_of ws)
      → lock.done ≡ 0 → All (SawNoMore history) ws
      → AllServe coming sent page limit history n (told_of r c m ks)
      (map told_done ws)
  all_served lock n history [] [] same all made none seen = tt
  all_served lock n history [] (w ∷ ws) same all made none seen = absurd (omega (arith, same))
  all_served lock n history (k ∷ ks) [] same all made none seen = absurd (omega (arith, same))
  all_served lock n history (k ∷ ks) (w ∷ ws) same all made none seen =
      let Made : Member Entry → Type 0 = λ member. made_by member.number history ≡ member.mine in (
        one_served lock n history k w (all 0 w (omega arith)) (All-head Made (member_of w) (map member_of ws) made) none
            (All-head (SawNoMore history) w ws seen),
        all_served lock (n + 1) history ks ws (omega (arith, same)) (later_worked (seated lock n k) w (hired lock (n + 1) ks) ws all)
            (All-tail Made (member_of w) (map member_of ws) made) none (All-tail (SawNoMore history) w ws seen),
      )

  -- a number past those of all workers is none of theirs
  none_other : (lock : Lock T) (n : ℕ) (ks : List (Kit R C M)) (ws : List (Worker (Standing T Entry) R C M)) (number : ℕ)
      → length ws ≡ length ks → AllWorked r c m coming sent page limit (hired lock n ks) ws → n + length ks < number
      → IsNone number (map member_of ws)
  none_other lock n [] [] number same all past = All-nil (λ (member : Member Entry). member.number ≢ number)
  none_other lock n [] (w ∷ ws) number same all past = absurd (omega (arith, same))
  none_other lock n (k ∷ ks) [] number same all past = absurd (omega (arith, same))
  none_other lock n (k ∷ ks) (w ∷ ws) number same all past =
      let one : Worked r c m coming sent page limit (seated lock n k) w = all 0 w (omega arith) in
      let is : w.pass.number ≡ n + 1 = one.0.grown.number in
      All-cons (λ (member : Member Entry). member.number ≢ number) (member_of w) (map member_of ws) (λ e. omega (arith, e, is, past))
      (none_other lock (n + 1) ks ws number (omega (arith, same)) (later_worked (seated lock n k) w (hired lock (n + 1) ks) ws all) (omega (arith, past)))

  -- no call of a door failed where none was to
  pub none_failed : (lock : Lock T) (n : ℕ) (ks : List (Kit R C M)) (ws : List (Worker (Standing T Entry) R C M)) → length ws ≡ length ks
      → AllWorked r c m coming sent page limit (hired lock n ks) ws → All (λ (k : Kit R C M). r.IsSound k.door) ks → list_any has_failed ws ≡ false
  none_failed lock n [] [] same all sound = refl
  none_failed lock n [] (w ∷ ws) same all sound = absurd (omega (arith, same))
  none_failed lock n (k ∷ ks) [] same all sound = absurd (omega (arith, same))
  none_failed lock n (k ∷ ks) (w ∷ ws) same all sound =
      let Sound : Kit R C M → Type 0 = λ (kit : Kit R C M). r.IsSound kit.door in
      let one : Worked r c m coming sent page limit (seated lock n k) w = all 0 w (omega arith) in
      let here : is_failed w.end ≡ false = not_failed w.end (one.1 (All-head Sound k ks sound)).0 in
      ap (λ (b : Bool). b || list_any has_failed ws) here
      ∙ none_failed lock (n + 1) ks ws (omega (arith, same)) (later_worked (seated lock n k) w (hired lock (n + 1) ks) ws all) (All-tail Sound k ks sound)

  -- the kits of workers that ended, and whether a call of a door failed
  kits_told : (ws : List (Worker (Standing T Entry) R C M))
      → told_of r c m (map (λ (w : Worker (Standing T Entry) R C M). w.kit) ws) ≡ map (λ (d : DoneTold K). d.kit) (map told_done ws)
  kits_told [] = refl
  kits_told (w ∷ ws) = ap (λ (ks : List (KitTold K)). kit_told r c m w.kit ∷ ks) (kits_told ws)

  failed_told : (ws : List (Worker (Standing T Entry) R C M))
      → list_any has_failed ws ≡ list_any (λ (d : DoneTold K). is_failed d.end) (map told_done ws)
  failed_told [] = refl
  failed_told (w ∷ ws) = ap (λ (b : Bool). is_failed w.end || b) (failed_told ws)

  -- what the closed lock gives is what the workers did
  pub team_served : {D : Type 0} {g : Ghosts D} (lock : Lock T) (opening last : Desk D g) (history : List (Entered Entry)) (ks : List (Kit R C M))
      (ws : List (Worker (Standing T Entry) R C M)) (kits : List (Kit R C M)) (failed : Bool) (mine : List Entry) (joined : List (Member Entry))
      → kits ≡ map (λ (w : Worker (Standing T Entry) R C M). w.kit) ws → failed ≡ list_any has_failed ws → length ws ≡ length ks
      → AllWorked r c m coming sent page limit (hired lock 0 ks) ws → mine ≡ [] → joined ≡ map member_of ws
      → IsLegal opening history last → IsOf history mine joined → lock.done ≡ 0 → All (SawNoMore history) ws
      → ServesTeam coming sent page limit opening (told_of r c m ks) (told_of r c m kits) failed history last
  team_served lock opening last history ks ws kits failed mine joined kits_are failed_is same all none members legal whole begins seen =
      let Of : List (Member Entry) → Type 0 = λ those. All (λ (member : Member Entry). made_by member.number history ≡ member.mine) those in
      record {
        legal = legal;
        done = map told_done ws;
        kits_are = ap (told_of r c m) kits_are ∙ kits_told ws;
        failed_is = failed_is ∙ failed_told ws;
        workers = all_served lock 0 history ks ws same all (subst Of members whole.members) begins seen;
        first = whole.first ∙ none;
        others = λ number past.
            let past' : length ks < number = omega (arith, past, told-length r c m ks) in
            whole.others number (omega (arith, past'))
            (subst (λ (those : List (Member Entry)). IsNone number those) (sym members) (none_other lock 0 ks ws number same all (omega (arith, past'))));
      }
