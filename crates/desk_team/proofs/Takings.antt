-- Kits that a house handed out and took back.
use Rattle.std.proofs.Common.{◌≡◌, ◌⊎◌, inl, inr, ℕ, suc, ◌+◌, ◌-◌, ◌<◌, ◌≤◌, ◌^◌, ◌==◌, Bool, true, false, ◌||◌, if◌then◌else◌, List, [], ◌∷◌, ◌++◌, length, map, Option, Some, None, IfSome, Result, Ok, Err, refl, sym, ap, subst, ◌∙◌, append_assoc, append-nil, length-append, arith}
use Rattle.std.specs.Prelude.{◌≢◌, All, IfErr, IfOk, MatchBool}
use Rattle.std.specs.List.{list_any}
use Rattle.std.proofs.lemmas.Bool.{cases_lt, false≢true}
use Rattle.std.proofs.lemmas.Bool.Decides.{nat_tests}
use Rattle.std.proofs.lemmas.List.{length-map, map-append}
use Rattle.std.proofs.lemmas.List.Elements.{All-head, All-map, All-tail}
use Rattle.hl_base.specs.Causes.{Rose}
use Rattle.hl_base.specs.declared.disk.Disk.{Ghosts}
use Rattle.turn_lock.specs.History.{made_by}
use Rattle.turn_lock.specs.Views.{Standing}
use Rattle.turn_lock.specs.declared.known.Entered.{Entered}
use Rattle.desk.specs.declared.desk.Desk.{Desk}
use Rattle.desk.specs.Entries.{Entry}
use Rattle.desk.specs.Steps.{one_more}
use Rattle.shared_desk.specs.Histories.{RoseBy, pattern_refusals}
use Rattle.shared_desk.specs.Stays.{DoorTold, EndsDoor, KitTold, Stay, runs_of}
use Rattle.shared_desk.specs.declared.serving.DoorEnd.{DoorEnd}
use Rattle.shared_desk.specs.declared.serving.DoorEnd.TheVariants as door_end
use Rattle.shared_desk.proofs.Refusing.{counted}
use Rattle.web_messages.specs.declared.page.Page.{Page}
use Rattle.desk_team.specs.Hostings.{AreAllOut, Hosts, IsFreshKit, Takes, TakesAll, Unserved, after_doors, after_makers, entries_in}
use Rattle.desk_team.specs.Houses.{AreOut, Binds, HandsOut, HouseTold, IsFaultless, TakesBack, after_door, after_maker, and_first, and_then, bound_once_more}
use Rattle.desk_team.specs.Teams.{AllServe, DoneTold, ServesTeam, is_failed}
use Rattle.desk_team.specs.declared.hosting.HouseFault.{HouseFault}
use Rattle.desk_team.specs.declared.hosting.HouseFault.TheVariants as house_fault
use Rattle.desk_team.proofs.Refusals.{after, all_under, rose_more, upto_is}

elim_order : {P Q R : Type 0} → (P → R) → (Q → R) → P ⊎ Q → R
elim_order f h (inl p) = f p
elim_order f h (inr q) = h q

-- which of two facts a test says
pub if_false : (P Q : Type 0) (b : Bool) → b ≡ false → MatchBool b P Q → Q
if_false P Q b is m = subst (λ (c : Bool). MatchBool c P Q) is m

pub if_true : (P Q : Type 0) (b : Bool) → b ≡ true → MatchBool b P Q → P
if_true P Q b is m = subst (λ (c : Bool). MatchBool c P Q) is m

module _ {A E : Type 0} where
  -- another fact of an answer
  pub ok_on : (P Q : A → Type 0) (r : Result A E) → ((a : A) → P a → Q a) → IfOk r P → IfOk r Q
  ok_on P Q (Ok a) f p = f a p
  ok_on P Q (Err e) f p = tt

  pub err_on : (P Q : E → Type 0) (r : Result A E) → ((e : E) → P e → Q e) → IfErr r P → IfErr r Q
  err_on P Q (Ok a) f p = tt
  err_on P Q (Err e) f p = f e p

module _ {A : Type 0} where
  then_more : (o : Option (List A)) (xs ys : List A) → and_then (and_then o xs) ys ≡ and_then o (xs ++ ys)
  then_more None xs ys = refl
  then_more (Some l) xs ys = ap (λ (m : List A). Some m) (append_assoc l xs ys)

  then_none : (o : Option (List A)) → and_then o [] ≡ o
  then_none None = refl
  then_none (Some l) = ap (λ (m : List A). Some m) (append-nil l)

  first_more : (o : Option (List A)) (xs ys : List A) → and_first xs (and_first ys o) ≡ and_first (xs ++ ys) o
  first_more None xs ys = refl
  first_more (Some l) xs ys = ap (λ (m : List A). Some m) (sym (append_assoc xs ys l))

  first_none : (o : Option (List A)) → o ≡ and_first [] o
  first_none None = refl
  first_none (Some l) = refl

  -- so many are out, by the two lists that are told
  abbrev Out : Option (List A) → Option (List A) → ℕ → Type 0
  Out given back n = IfSome given (λ g. IfSome back (λ b. length b + n ≤ length g))

  -- no kit yet
  pub takes_none : (house : HouseTold A) → Takes house house []
  takes_none house = record {
    came = first_none house.coming;
    given = sym (then_none house.given);
    order = λ some. absurd (omega (arith, some));
    back = refl;
    bound = refl;
    refusals = refl;
  }

  first_order : (old mid : HouseTold A) (kits : List A) → Takes old mid kits → AreOut mid 0 → AreOut old 0
  first_order old mid [] t out =
      let given : mid.given ≡ old.given = t.given ∙ then_none old.given in
      subst (λ (b : Option (List A)). Out old.given b 0) t.back (subst (λ (o : Option (List A)). Out o mid.back 0) given out)
  first_order old mid (kit ∷ kits) t out = t.order (omega arith)

  -- one more
  pub takes_more : {E : Type 0} (old mid new : HouseTold A) (kits news : List A) (kit : A) → Takes old mid kits
      → HandsOut {E = E} mid new (Ok kit) → news ≡ kits ++ kit ∷ [] → Takes old new news
  takes_more old mid new kits news kit t h is = subst (λ (l : List A). Takes old new l) (sym is) (record {
    came = t.came ∙ ap (λ (o : Option (List A)). and_first kits o) h.came ∙ first_more new.coming kits (kit ∷ []);
    given = h.given ∙ ap (λ (o : Option (List A)). and_then o (kit ∷ [])) t.given ∙ then_more old.given kits (kit ∷ []);
    order = λ some. first_order old mid kits t h.order;
    back = h.back ∙ t.back;
    bound = h.bound ∙ t.bound;
    refusals = h.refusals ∙ t.refusals;
  })

  -- the next call failed
  pub takes_stop : {E : Type 0} (old mid new : HouseTold A) (kits : List A) (failed : E) → Takes old mid kits
      → HandsOut {E = E} mid new (Err failed) → Takes old new kits
  takes_stop old mid new kits failed t h = record {
    came = t.came ∙ ap (λ (o : Option (List A)). and_first kits o) (h.came ∙ sym (first_none new.coming));
    given = h.given ∙ then_none mid.given ∙ t.given;
    order = t.order;
    back = h.back ∙ t.back;
    bound = h.bound ∙ t.bound;
    refusals = h.refusals ∙ t.refusals;
  }

  -- all that were taken are out
  out_now : (given back : Option (List A)) (kits : List A) → Out given back 0 → Out (and_then given kits) back (length kits)
  out_now None back kits out = tt
  out_now (Some g) None kits out = tt
  out_now (Some g) (Some b) kits out = let sum = length-append g kits in omega (arith, sum, out)

  pub takes_out : (old new : HouseTold A) (kits : List A) → Takes old new kits → AreAllOut new kits
  takes_out old new kits t =
      λ some.
      subst (λ (o : Option (List A)). Out o new.back (length kits)) (sym t.given)
      (subst (λ (b : Option (List A)). Out (and_then old.given kits) b (length kits)) (sym t.back)
      (out_now old.given old.back kits (t.order some)))

  -- some came back, and one more is out
  out_later : (given back : Option (List A)) (some : List A) (n : ℕ) → Out given back n → length some < n → Out given (and_then back some) 1
  out_later None back some n out less = tt
  out_later (Some g) None some n out less = tt
  out_later (Some g) (Some b) some n out less = let sum = length-append b some in omega (arith, sum, out, less)

module _ {K : Type 0} where
  doors_push : (f : ℕ) (ks : List (KitTold K)) (k : KitTold K) → after_doors f (ks ++ k ∷ []) ≡ after_door (after_doors f ks) k.door.faults
  doors_push f [] k = refl
  doors_push f (x ∷ ks) k = doors_push (after_door f x.door.faults) ks k

  makers_push : (r : ℕ) (ks : List (KitTold K)) (k : KitTold K)
      → after_makers r (ks ++ k ∷ []) ≡ after_maker (after_makers r ks) k.tools.refusals
  makers_push r [] k = refl
  makers_push r (x ∷ ks) k = makers_push (after_maker r x.tools.refusals) ks k

module _ {A K : Type 0} (tell : A → KitTold K) where
  -- no kit came back yet
  pub none_back : (house : HouseTold A) → TakesAll tell house house []
  none_back house = record { back = sym (then_none house.back); faults = refl; refusals = refl; coming = refl; given = refl; bound = refl }

  -- one more came back
  pub one_back : (old mid new : HouseTold A) (kits : List A) (kit : A) → TakesAll tell old mid kits
      → TakesBack mid new kit (tell kit).door.faults (tell kit).tools.refusals → TakesAll tell old new (kits ++ kit ∷ [])
  one_back old mid new kits kit p t =
      let both = map-append tell kits (kit ∷ []) in
      record {
        back = t.back ∙ ap (λ (o : Option (List A)). and_then o (kit ∷ [])) p.back ∙ then_more old.back kits (kit ∷ []);
        faults = t.faults
            ∙ ap (λ (f : ℕ). after_door f (tell kit).door.faults) p.faults
            ∙ sym (doors_push old.faults (map tell kits) (tell kit))
            ∙ ap (after_doors old.faults) (sym both);
        refusals = t.refusals
            ∙ ap (λ (r : ℕ). after_maker r (tell kit).tools.refusals) p.refusals
            ∙ sym (makers_push old.refusals (map tell kits) (tell kit))
            ∙ ap (after_makers old.refusals) (sym both);
        given = t.given ∙ p.given;
        bound = t.bound ∙ p.bound;
        coming = t.coming ∙ p.coming;
      }

  -- the next one is out
  pub next_out : (old mid : HouseTold A) (all some : List A) → TakesAll tell old mid some → AreAllOut old all → length some < length all
      → AreOut mid 1
  next_out old mid all some p out less =
      subst (λ (o : Option (List A)). Out o mid.back 1) (sym p.given)
      (subst (λ (b : Option (List A)). Out old.given b 1) (sym p.back)
      (out_later old.given old.back some (length all) (out (omega (arith, less))) less))

-- ---- faults of doors

same_door : (f n : ℕ) → (n == 0) ≡ true → after_door f n ≡ f
same_door f n none = ap (λ (b : Bool). if b then f else one_more f) none

up_door : (f n : ℕ) → (n == 0) ≡ false → after_door f n ≡ one_more f
up_door f n some = ap (λ (b : Bool). if b then f else one_more f) some

is_zero : (n : ℕ) → n ≡ 0 → (n == 0) ≡ true
is_zero n is = grind (arith, nat_tests)

not_zero : (n : ℕ) → 0 < n → (n == 0) ≡ false
not_zero n less = grind (arith, nat_tests)

rose_some : (n : ℕ) → Rose 0 n → 0 < n
rose_some n (inl less) = less
rose_some n (inr last) = omega (arith, last)

rose_up : (before f : ℕ) → f ≡ before → Rose before (one_more f)
rose_up before f same =
    elim_order (λ less. inr (omega (arith, less))) (λ le. inl (omega (arith, same, le))) (cases_lt (2 ^ 64 - 1) (f + 1))

rose_further : (before f : ℕ) → Rose before f → Rose before (one_more f)
rose_further before f (inl less) =
    elim_order (λ more. inr (omega (arith, more))) (λ le. inl (omega (arith, less, le))) (cases_lt (2 ^ 64 - 1) (f + 1))
rose_further before f (inr last) = inr (omega (arith, last))

rose_still : (before f n : ℕ) (b : Bool) → (n == 0) ≡ b → Rose before f → Rose before (after_door f n)
rose_still before f n true is rose = subst (λ (m : ℕ). Rose before m) (sym (same_door f n is)) rose
rose_still before f n false is rose = subst (λ (m : ℕ). Rose before m) (sym (up_door f n is)) (rose_further before f rose)

-- a door failed, or it didn't
failed_door : (before f n : ℕ) (so_far : Bool) → Rose 0 n → MatchBool so_far (Rose before f) (f ≡ before)
    → MatchBool (so_far || true) (Rose before (after_door f n)) (after_door f n ≡ before)
failed_door before f n true rose so = rose_still before f n (n == 0) refl so
failed_door before f n false rose so =
    subst (λ (m : ℕ). Rose before m) (sym (up_door f n (not_zero n (rose_some n rose)))) (rose_up before f so)

sound_door : (before f n : ℕ) (so_far : Bool) → n ≡ 0 → MatchBool so_far (Rose before f) (f ≡ before)
    → MatchBool (so_far || false) (Rose before (after_door f n)) (after_door f n ≡ before)
sound_door before f n true none so = rose_still before f n (n == 0) refl so
sound_door before f n false none so = same_door f n (is_zero n none) ∙ so

no_less : (a b : ℕ) → b ≡ a → a + 0 ≤ b
no_less a b is = omega (arith, is)

or_three : (a b c : Bool) → ((a || b) || c) ≡ (a || (b || c))
or_three true b c = refl
or_three false b c = refl

or_none : (a : Bool) → a ≡ (a || false)
or_none true = refl
or_none false = refl

module _ {K : Type 0} (coming sent : K → Option (List ℕ)) (page : Page) where
  one_door : (limit : ℕ) (end : DoorEnd) (old new : DoorTold K) (stays : List (Stay K)) (before f : ℕ) (so_far : Bool)
      → EndsDoor limit end old new stays → old.faults ≡ 0 → MatchBool so_far (Rose before f) (f ≡ before)
      → MatchBool (so_far || is_failed end) (Rose before (after_door f new.faults)) (after_door f new.faults ≡ before)
  one_door limit door_end.End old new stays before f so_far ends none so = sound_door before f new.faults so_far (ends.3 ∙ none) so
  one_door limit door_end.Failed old new stays before f so_far ends none so =
      failed_door before f new.faults so_far (subst (λ (n : ℕ). Rose n new.faults) none ends.2) so
  one_door limit door_end.Enough old new stays before f so_far ends none so = sound_door before f new.faults so_far (ends.2 ∙ none) so
  one_door limit door_end.Spent old new stays before f so_far ends none so = sound_door before f new.faults so_far (ends.2 ∙ none) so

  doors_tell : (limit n : ℕ) (history : List (Entered Entry)) (olds : List (KitTold K)) (done : List (DoneTold K)) (before f : ℕ) (so_far : Bool)
      → AllServe coming sent page limit history n olds done → All IsFreshKit olds → MatchBool so_far (Rose before f) (f ≡ before)
      → MatchBool (so_far || list_any (λ (d : DoneTold K). is_failed d.end) done)
      (Rose before (after_doors f (map (λ (d : DoneTold K). d.kit) done))) (after_doors f (map (λ (d : DoneTold K). d.kit) done) ≡ before)
  doors_tell limit n history [] [] before f so_far serve fresh so = subst (λ (b : Bool). MatchBool b (Rose before f) (f ≡ before)) (or_none so_far) so
  doors_tell limit n history [] (d ∷ ds) before f so_far serve fresh so = absurd serve
  doors_tell limit n history (o ∷ os) [] before f so_far serve fresh so = absurd serve
  doors_tell limit n history (o ∷ os) (d ∷ ds) before f so_far serve fresh so =
      let kit : DoneTold K → KitTold K = λ (e : DoneTold K). e.kit in
      let rest = list_any (λ (e : DoneTold K). is_failed e.end) ds in
      let now : ℕ = after_doors (after_door f d.kit.door.faults) (map kit ds) in
      let here = one_door limit d.end o.door d.kit.door serve.0.stays before f so_far serve.0.ends (All-head IsFreshKit o os fresh).no_fault so in
      subst (λ (b : Bool). MatchBool b (Rose before now) (now ≡ before)) (or_three so_far (is_failed d.end) rest)
      (doors_tell limit (n + 1) history os ds before (after_door f d.kit.door.faults) (so_far || is_failed d.end) serve.1 (All-tail IsFreshKit o os fresh) here)

  makers_tell : (limit n : ℕ) (history : List (Entered Entry)) (olds : List (KitTold K)) (done : List (DoneTold K)) (before r sum : ℕ)
      → AllServe coming sent page limit history n olds done → All IsFreshKit olds → RoseBy before r sum
      → RoseBy before (after_makers r (map (λ (d : DoneTold K). d.kit) done)) (sum + after history n olds)
  makers_tell limit n history [] [] before r sum serve fresh so =
      let same : sum ≡ sum + 0 = omega arith in subst (λ (m : ℕ). RoseBy before r m) same so
  makers_tell limit n history [] (d ∷ ds) before r sum serve fresh so = absurd serve
  makers_tell limit n history (o ∷ os) [] before r sum serve fresh so = absurd serve
  makers_tell limit n history (o ∷ os) (d ∷ ds) before r sum serve fresh so =
      let one = serve.0 in
      let runs = runs_of one.stays in
      let told = counted o.tools.refusals d.kit.tools.refusals o.tools.last_refused d.kit.tools.last_refused runs one.asked.1 in
      let zero = (All-head IsFreshKit o os fresh).no_refusal in
      let from : RoseBy 0 d.kit.tools.refusals (pattern_refusals runs) = subst (λ (m : ℕ). RoseBy m d.kit.tools.refusals (pattern_refusals runs)) zero told in
      let here : RoseBy 0 d.kit.tools.refusals (pattern_refusals (made_by (n + 1) history)) =
      subst (λ (es : List Entry). RoseBy 0 d.kit.tools.refusals (pattern_refusals es)) (sym one.made) from in
      let under : ℕ = pattern_refusals (made_by (n + 1) history) in
      let rest = makers_tell limit (n + 1) history os ds before (after_maker r d.kit.tools.refusals) (sum + under) serve.1 (All-tail IsFreshKit o os fresh)
      (rose_more before r sum d.kit.tools.refusals under so here) in
      let same : sum + under + after history (n + 1) os ≡ sum + (under + after history (n + 1) os) = omega arith in
      subst (λ (m : ℕ). RoseBy before (after_makers (after_maker r d.kit.tools.refusals) (map (λ (e : DoneTold K). e.kit) ds)) m) same rest

-- ---- the whole

module _ {K : Type 0} (coming sent : K → Option (List ℕ)) (page : Page) (limit : ℕ) where
  serve_long : (n : ℕ) (history : List (Entered Entry)) (olds : List (KitTold K)) (done : List (DoneTold K))
      → AllServe coming sent page limit history n olds done → length done ≡ length olds
  serve_long n history [] [] serve = refl
  serve_long n history [] (d ∷ ds) serve = absurd serve
  serve_long n history (o ∷ os) [] serve = absurd serve
  serve_long n history (o ∷ os) (d ∷ ds) serve = ap suc (serve_long (n + 1) history os ds serve.1)

module _ {A K D : Type 0} {g : Ghosts D} (tell : A → KitTold K) (coming sent : K → Option (List ℕ)) (page : Page) (limit : ℕ) where
  -- the same by what a function hands on
  pub served_as : {T : Type 0} (opening : Desk D g) (kits kits_now : List A) (last last_now : Desk D g) (pass pass_now : Standing T Entry)
      (failed failed_now : Bool) → last_now ≡ last → pass_now ≡ pass → failed_now ≡ failed
      → ServesTeam coming sent page limit opening (map tell kits) (map tell kits_now) failed pass.seen last
      → ServesTeam coming sent page limit opening (map tell kits) (map tell kits_now) failed_now pass_now.seen last_now
  served_as {T} opening kits kits_now last last_now pass pass_now failed failed_now l p f team =
      let S : Bool → List (Entered Entry) → Desk D g → Type 0 = λ b h d. ServesTeam coming sent page limit opening (map tell kits) (map tell kits_now) b h d in
      subst (λ (d : Desk D g). S failed_now pass_now.seen d) (sym l)
      (subst (λ (q : Standing T Entry). S failed_now q.seen last) (sym p)
      (subst (λ (b : Bool). S b pass.seen last) (sym f) team))

  -- as many kits come back as were handed out
  pub still_out : (opening last : Desk D g) (house : HouseTold A) (kits kits_now : List A) (failed : Bool) (history : List (Entered Entry))
      → ServesTeam coming sent page limit opening (map tell kits) (map tell kits_now) failed history last → AreAllOut house kits → AreAllOut house kits_now
  still_out opening last house kits kits_now failed history team out =
      let kit : DoneTold K → KitTold K = λ (d : DoneTold K). d.kit in
      let same : length kits_now ≡ length kits =
      sym (length-map kits_now tell) ∙ ap length team.kits_are ∙ length-map team.done kit
      ∙ serve_long coming sent page limit 0 history (map tell kits) team.done team.workers ∙ length-map kits tell in
      λ some. subst (λ (n : ℕ). AreOut house n) (sym same) (out (omega (arith, some, same)))

module _ {A K D : Type 0} {g : Ghosts D} (tell : A → KitTold K) (coming sent : K → Option (List ℕ)) (page : Page) (workers limit : ℕ) where
  -- kits were handed out, their workers served, and the kits came back
  pub hosts_of : (opening last : Desk D g) (old mid new : HouseTold A) (kits kits_now : List A) (failed : Bool) (history : List (Entered Entry))
      → Takes old mid kits → length kits ≡ workers → mid.faults ≡ old.faults → All (λ (kit : A). IsFreshKit (tell kit)) kits
      → ServesTeam coming sent page limit opening (map tell kits) (map tell kits_now) failed history last → TakesAll tell mid new kits_now
      → (IsFaultless old workers → failed ≡ false) → Hosts tell coming sent page workers limit old.bound opening old new failed history last
  hosts_of opening last old mid new kits kits_now failed history t many same fresh team b sound =
      let olds = map tell kits in
      let done = team.done in
      let kit : DoneTold K → KitTold K = λ (d : DoneTold K). d.kit in
      let fresh_told = All-map IsFreshKit tell kits fresh in
      let doors = doors_tell coming sent page limit 0 history olds done old.faults mid.faults false team.workers fresh_told same in
      let faults : new.faults ≡ after_doors mid.faults (map kit done) = b.faults ∙ ap (after_doors mid.faults) team.kits_are in
      let first : RoseBy old.refusals mid.refusals 0 = inl (no_less old.refusals mid.refusals t.refusals) in
      let makers = makers_tell coming sent page limit 0 history olds done old.refusals mid.refusals 0 team.workers fresh_told first in
      let refusals : new.refusals ≡ after_makers mid.refusals (map kit done) = b.refusals ∙ ap (after_makers mid.refusals) team.kits_are in
      let all : pattern_refusals (entries_in history) ≡ 0 + after history 0 olds =
      all_under history olds team.others ∙ upto_is history 0 olds
      ∙ ap (λ (es : List Entry). pattern_refusals es + after history 0 olds) team.first in
      record {
        kits = kits;
        kits_now = kits_now;
        many = many;
        fresh = fresh;
        came = t.came ∙ ap (λ (o : Option (List A)). and_first kits o) (sym b.coming);
        given = b.given ∙ t.given;
        back = b.back ∙ ap (λ (o : Option (List A)). and_then o kits_now) t.back;
        team = team;
        bound_is = b.bound ∙ t.bound;
        faults = subst (λ (n : ℕ). MatchBool failed (Rose old.faults n) (n ≡ old.faults)) (sym faults)
            (subst (λ (f : Bool). MatchBool f (Rose old.faults (after_doors mid.faults (map kit done))) (after_doors mid.faults (map kit done) ≡ old.faults))
            (sym team.failed_is) doors);
        sound = sound;
        refusals = subst (λ (n : ℕ). RoseBy old.refusals n (pattern_refusals (entries_in history))) (sym refusals)
            (subst (λ (n : ℕ). RoseBy old.refusals (after_makers mid.refusals (map kit done)) n) (sym all) makers);
      }

  -- after a bind
  pub hosts_bound : {T E : Type 0} (opening last : Desk D g) (old mid new : HouseTold A) (failed : Bool) (history : List (Entered Entry))
      (host : List ℕ) (port : ℕ) (answer : T) → Binds {T = T} {E = E} old mid host port (Ok answer)
      → Hosts tell coming sent page workers limit mid.bound opening mid new failed history last
      → Hosts tell coming sent page workers limit (bound_once_more old.bound host port) opening old new failed history last
  hosts_bound opening last old mid new failed history host port answer b h = record {
    kits = h.kits;
    kits_now = h.kits_now;
    many = h.many;
    fresh = h.fresh;
    came = sym b.coming ∙ h.came;
    given = h.given ∙ ap (λ (o : Option (List A)). and_then o h.kits) b.given;
    back = h.back ∙ ap (λ (o : Option (List A)). and_then o h.kits_now) b.back;
    team = h.team;
    bound_is = h.bound_is ∙ b.bound;
    faults = subst (λ (n : ℕ). MatchBool failed (Rose n new.faults) (new.faults ≡ n)) b.cause.same h.faults;
    sound = λ none. h.sound (subst (λ (n : ℕ). (0 < n) × (workers ≤ n)) (sym b.faultless) none);
    refusals = subst (λ (n : ℕ). RoseBy n new.refusals (pattern_refusals (entries_in history))) b.refusals h.refusals;
  }

module _ {A K : Type 0} (tell : A → KitTold K) where
  -- kits were handed out, and came back as they were
  pub unserved : (workers : ℕ) (old mid new : HouseTold A) (kits : List A) (fault : HouseFault) → length kits ≤ workers
      → (fault ≡ house_fault.Failed → (kits ≡ []) ⊎ (length kits < workers)) → Takes old mid kits → TakesAll tell mid new kits
      → (fault ≡ house_fault.Failed → Rose old.faults new.faults)
      → (IsFaultless old workers → (fault ≢ house_fault.Failed) × (new.faults ≡ old.faults)) → Unserved workers old.bound old new fault
  unserved workers old mid new kits fault few short t b cause sound = record {
    kits = kits;
    few = few;
    short = short;
    came = t.came ∙ ap (λ (o : Option (List A)). and_first kits o) (sym b.coming);
    given = b.given ∙ t.given;
    back = b.back ∙ ap (λ (o : Option (List A)). and_then o kits) t.back;
    bound_is = b.bound ∙ t.bound;
    cause = cause;
    sound = sound;
  }

  -- no kit was handed out
  pub nothing_taken : (workers : ℕ) (house : HouseTold A) (fault : HouseFault) → (fault ≡ house_fault.Failed → ⊥)
      → Unserved workers house.bound house house fault
  nothing_taken workers house fault other = record {
    kits = [];
    few = omega arith;
    short = λ is. absurd (other is);
    came = first_none house.coming;
    given = sym (then_none house.given);
    back = sym (then_none house.back);
    bound_is = refl;
    cause = λ is. absurd (other is);
    sound = λ none. (other, refl);
  }

  -- no door of a kit that came back as it was has a fault
  pub still : (f : ℕ) (kits : List A) → All (λ (kit : A). IsFreshKit (tell kit)) kits → after_doors f (map tell kits) ≡ f
  still f [] fresh = refl
  still f (kit ∷ kits) fresh =
      let Fresh : A → Type 0 = λ (k : A). IsFreshKit (tell k) in
      let here = same_door f (tell kit).door.faults (is_zero (tell kit).door.faults (All-head Fresh kit kits fresh).no_fault) in
      ap (λ (n : ℕ). after_doors n (map tell kits)) here ∙ still f kits (All-tail Fresh kit kits fresh)

module _ {A K : Type 0} (tell : A → KitTold K) where
  -- not all kits were handed out, and those that were came back as they were
  pub unserved_some : (workers : ℕ) (old mid new : HouseTold A) (taken kits : List A) → length taken < workers → kits ≡ taken → Takes old mid taken
      → All (λ (kit : A). IsFreshKit (tell kit)) taken → Rose old.faults mid.faults → TakesAll tell mid new kits
      → (workers ≤ old.faultless → ⊥) → Unserved workers old.bound old new house_fault.Failed
  unserved_some workers old mid new taken kits less is t fresh rose b fails =
      let b' = subst (λ (l : List A). TakesAll tell mid new l) is b in
      let same : new.faults ≡ mid.faults = b'.faults ∙ still tell mid.faults taken fresh in
      unserved tell workers old mid new taken house_fault.Failed (omega (arith, less)) (λ failed. inr less) t b' (λ failed. subst (λ (n : ℕ). Rose old.faults n) (sym same) rose)
      (λ none. absurd (fails none.1))

module _ {A : Type 0} where
  -- after a bind
  pub unserved_bound : {T E : Type 0} (workers : ℕ) (old mid new : HouseTold A) (fault : HouseFault) (host : List ℕ) (port : ℕ) (answer : T)
      → Binds {T = T} {E = E} old mid host port (Ok answer) → Unserved workers mid.bound mid new fault
      → Unserved workers (bound_once_more old.bound host port) old new fault
  unserved_bound workers old mid new fault host port answer b u = record {
    kits = u.kits;
    few = u.few;
    short = u.short;
    came = sym b.coming ∙ u.came;
    given = u.given ∙ ap (λ (o : Option (List A)). and_then o u.kits) b.given;
    back = u.back ∙ ap (λ (o : Option (List A)). and_then o u.kits) b.back;
    bound_is = u.bound_is ∙ b.bound;
    cause = λ failed. subst (λ (n : ℕ). Rose n new.faults) b.cause.same (u.cause failed);
    sound = λ none.
        let so = u.sound (subst (λ (n : ℕ). (0 < n) × (workers ≤ n)) (sym b.faultless) none) in
        (so.0, so.1 ∙ b.cause.same);
  }

  -- the bind failed
  pub unbound : {T E : Type 0} (workers : ℕ) (old new : HouseTold A) (host : List ℕ) (port : ℕ) (failed : E)
      → Binds {T = T} {E = E} old new host port (Err failed) → Unserved workers (bound_once_more old.bound host port) old new house_fault.Failed
  unbound workers old new host port failed b = record {
    kits = [];
    few = omega arith;
    short = λ is. inl refl;
    came = sym b.coming ∙ first_none new.coming;
    given = b.given ∙ sym (then_none old.given);
    back = b.back ∙ sym (then_none old.back);
    bound_is = b.bound;
    cause = λ is. b.cause.rose;
    sound = λ none. absurd (false≢true (b.sound none.0));
  }
