-- One link of a door after another.
use Rattle.std.proofs.Common.{◌≡◌, ℕ, ◌+◌, ◌<◌, ◌≤◌, Bool, true, false, List, [], ◌∷◌, ◌++◌, map, Option, Some, None, IfSome, refl, sym, ap, subst, ◌∙◌, append_assoc, append-nil, length-append, arith, lit<, lit≤}
use Rattle.std.specs.Prelude.{is_none, if◌then◌else◌}
use Rattle.std.specs.Option.{option_map}
use Rattle.std.proofs.lemmas.Grind.{flat_map-append}
use Rattle.std.proofs.lemmas.List.{map-append}
use Rattle.std.proofs.lemmas.List.Elements.{All-append, All-cons, All-head, All-nil, All-tail}
use Rattle.hl_base.specs.Causes.{Rose}
use Rattle.hl_base.specs.Door.{Returned, Visit, come_back}
use Rattle.turn_lock.specs.Growth.{Grown}
use Rattle.turn_lock.specs.Views.{Standing}
use Rattle.turn_lock.proofs.Growth.{calls_in_a_row, no_calls}
use Rattle.desk.specs.Entries.{Entry}
use Rattle.web_desk.specs.declared.conn_end.ConnEnd.{ConnEnd}
use Rattle.web_desk.specs.declared.conn_end.ConnEnd.TheVariants as conn
use Rattle.web_desk.proofs.MakerLemmas.{asked_more, none_asked}
use Rattle.web_messages.specs.declared.page.Page.{Page}
use Rattle.shared_desk.specs.Stays.{AreBack, AreServed, AreUnspent, AskedWith, DoorTold, EndsDoor, IsSpentAtLast, IsStay, KitTold, ServesDoor, ServesGiven, Stay, Tools, end_after, is_spent, runs_of, visit_of}
use Rattle.shared_desk.specs.declared.serving.DoorEnd.{DoorEnd}
use Rattle.shared_desk.specs.declared.serving.DoorEnd.TheVariants as door_end

-- the lock was spent where the serving says so
pub spent_is : (end : ConnEnd) → end_after end ≡ door_end.Spent → end ≡ conn.Spent
spent_is conn.Spent h = refl
spent_is conn.Closed h = absurd (cc (h))
spent_is (conn.LinkFault way) h = absurd (cc (h))
spent_is (conn.BadHead at) h = absurd (cc (h))
spent_is conn.HeadTooLong h = absurd (cc (h))
spent_is (conn.BodyTooLong said) h = absurd (cc (h))
spent_is (conn.CutOff had said) h = absurd (cc (h))
spent_is (conn.HeadCut had) h = absurd (cc (h))
spent_is conn.Memory h = absurd (cc (h))

-- the serving goes on or is spent, which is no fault of the door
no_fault : (b : Bool) → (if b then door_end.Spent else door_end.Enough) ≡ door_end.Failed → ⊥
no_fault true h = absurd (cc (h))
no_fault false h = absurd (cc (h))

pub not_failed : (end : ConnEnd) → end_after end ≡ door_end.Failed → ⊥
not_failed end h = no_fault (is_spent end) h

-- the visit that was handed out last comes back, where those before it are back
pub last_back : (visits : List Visit) (had : Option (List ℕ)) (back : Returned) → AreBack visits
    → come_back back (visits ++ record { had = had; back = None } ∷ []) ≡ visits ++ record { had = had; back = Some back } ∷ []
last_back [] had back are = refl
last_back (visit ∷ visits) had back are =
    let out : Visit = record { had = had; back = None } in
    let is = All-head (λ (v : Visit). is_none v.back ≡ false) visit visits are in
    let more = last_back visits had back (All-tail (λ (v : Visit). is_none v.back ≡ false) visit visits are) in
    ap (λ (b : Bool). if b then record visit { back = Some back } ∷ (visits ++ out ∷ []) else visit ∷ come_back back (visits ++ out ∷ [])) is
    ∙ ap (λ (vs : List Visit). visit ∷ vs) more

module _ {K : Type 0} (coming sent : K → Option (List ℕ)) (page : Page) where
  -- links that came back are back
  visits_back : (stays : List (Stay K)) → AreBack (map (visit_of coming sent page) stays)
  visits_back [] = All-nil (λ (v : Visit). is_none v.back ≡ false)
  visits_back (stay ∷ stays) =
      All-cons (λ (v : Visit). is_none v.back ≡ false) (visit_of coming sent page stay) (map (visit_of coming sent page) stays) refl (visits_back stays)

  -- links that came, and then others
  came_more : (a b c : Option (List K)) (xs ys : List K) → a ≡ option_map (λ left. xs ++ left) b → b ≡ option_map (λ left. ys ++ left) c
      → a ≡ option_map (λ left. (xs ++ ys) ++ left) c
  came_more a b None xs ys p q = p ∙ ap (option_map (λ left. xs ++ left)) q
  came_more a b (Some zs) xs ys p q =
      p ∙ ap (option_map (λ left. xs ++ left)) q ∙ ap (λ (l : List K). Some l) (sym (append_assoc xs ys zs))

  none_came : (a b : Option (List K)) → b ≡ a → a ≡ option_map (λ left. [] ++ left) b
  none_came a None p = sym p
  none_came a (Some xs) p = sym p

  none_served : (old new : DoorTold K) → new.coming ≡ old.coming → new.given ≡ old.given → AreServed coming sent page old new []
  none_served old new came given = record {
    came = none_came old.coming new.coming came;
    back = λ visits is are. given ∙ is ∙ ap (λ (vs : List Visit). Some vs) (sym (append-nil visits));
    each = All-nil (IsStay coming sent page);
  }

  served_more : (a b c : DoorTold K) (xs ys : List (Stay K)) → AreServed coming sent page a b xs → AreServed coming sent page b c ys
      → AreServed coming sent page a c (xs ++ ys)
  served_more a b c xs ys p q =
      let link : Stay K → K = λ (stay : Stay K). stay.link in
      let visit : Stay K → Visit = visit_of coming sent page in
      record {
        came = came_more a.coming b.coming c.coming (map link xs) (map link ys) p.came q.came
            ∙ ap (λ (ls : List K). option_map (λ left. ls ++ left) c.coming) (sym (map-append link xs ys));
        back = λ visits is are.
            q.back (visits ++ map visit xs) (p.back visits is are) (All-append (λ (v : Visit). is_none v.back ≡ false) visits (map visit xs) are (visits_back xs))
            ∙ ap (λ (vs : List Visit). Some vs) (append_assoc visits (map visit xs) (map visit ys) ∙ ap (λ (vs : List Visit). visits ++ vs) (sym (map-append visit xs ys)));
        each = All-append (IsStay coming sent page) xs ys p.each q.each;
      }

-- the runs of some links, and then of others
runs_more : {K : Type 0} (xs ys : List (Stay K)) → runs_of (xs ++ ys) ≡ runs_of xs ++ runs_of ys
runs_more {K} xs ys = flat_map-append (λ (stay : Stay K). stay.run) xs ys

-- the days stay, and the maker tells more
asked_on : (a b c : Tools) (xs ys : List Entry) → b.day ≡ a.day → AskedWith a b xs → AskedWith b c ys → AskedWith a c (xs ++ ys)
asked_on a b c xs ys day p q =
    asked_more a.day b.day a.refusals b.refusals c.refusals a.last_refused b.last_refused c.last_refused xs ys day p q

-- no two counts rose where the first stayed
rose_later : (a b c : ℕ) → b ≡ a → Rose b c → Rose a c
rose_later a b c is rose = subst (λ (n : ℕ). Rose n c) is rose

module _ {K : Type 0} where
  unspent_more : (xs ys : List (Stay K)) → AreUnspent xs → AreUnspent ys → AreUnspent (xs ++ ys)
  unspent_more xs ys p q = All-append (λ (stay : Stay K). is_spent stay.end ≡ false) xs ys p q

  spent_later : (xs ys : List (Stay K)) → AreUnspent xs → IsSpentAtLast ys → IsSpentAtLast (xs ++ ys)
  spent_later xs ys p q =
      (xs ++ q.0, q.1, ap (λ (stays : List (Stay K)). xs ++ stays) q.2 ∙ sym (append_assoc xs q.0 (q.1 ∷ [])), unspent_more xs q.0 p q.3, q.4)

  -- so many links were served, and one more was
  ends_on : (n : ℕ) (a b c : DoorTold K) (xs ys : List (Stay K)) → EndsDoor n door_end.Enough a b xs → EndsDoor 1 door_end.Enough b c ys
      → EndsDoor (n + 1) door_end.Enough a c (xs ++ ys)
  ends_on n a b c xs ys p q = (omega (arith, length-append xs ys, p.0, q.0), unspent_more xs ys p.1 q.1, q.2 ∙ p.2)

  -- so many were served, and then the serving ended
  ends_stop : (n limit : ℕ) (end : DoorEnd) (a b c : DoorTold K) (xs ys : List (Stay K)) → n < limit → (end ≡ door_end.Enough → ⊥)
      → EndsDoor n door_end.Enough a b xs → EndsDoor 1 end b c ys → EndsDoor limit end a c (xs ++ ys)
  ends_stop n limit door_end.End a b c xs ys less going p q =
      (omega (arith, length-append xs ys, p.0, q.0, less), unspent_more xs ys p.1 q.1, q.2, q.3 ∙ p.2)
  ends_stop n limit door_end.Failed a b c xs ys less going p q =
      (omega (arith, length-append xs ys, p.0, q.0, less), unspent_more xs ys p.1 q.1, rose_later a.faults b.faults c.faults p.2 q.2)
  ends_stop n limit door_end.Enough a b c xs ys less going p q = absurd (going refl)
  ends_stop n limit door_end.Spent a b c xs ys less going p q =
      (omega (arith, length-append xs ys, p.0, q.0, less), spent_later xs ys p.1 q.1, q.2 ∙ p.2)

  -- one link was served, and so its connection ended
  ends_one : (b : Bool) (end : DoorEnd) (old new : DoorTold K) (stay : Stay K) → is_spent stay.end ≡ b
      → end ≡ (if b then door_end.Spent else door_end.Enough) → new.faults ≡ old.faults → EndsDoor 1 end old new (stay ∷ [])
  ends_one true end old new stay spent is faults =
      let E : DoorEnd → Type 0 = λ e. EndsDoor 1 e old new (stay ∷ []) in
      subst E (sym is) (lit≤ tt, ([], stay, refl, All-nil (λ (s : Stay K). is_spent s.end ≡ false), spent), faults)
  ends_one false end old new stay spent is faults =
      let E : DoorEnd → Type 0 = λ e. EndsDoor 1 e old new (stay ∷ []) in
      subst E (sym is) (refl, All-cons (λ (s : Stay K). is_spent s.end ≡ false) stay [] spent (All-nil (λ (s : Stay K). is_spent s.end ≡ false)), faults)

module _ {K T : Type 0} (coming sent : K → Option (List ℕ)) (page : Page) where
  -- no link yet
  pub serves_none : (kit : KitTold K) (pass : Standing T Entry) → ServesDoor coming sent page 0 door_end.Enough kit kit pass pass
  serves_none kit pass = record {
    stays = [];
    served = none_served coming sent page kit.door kit.door refl refl;
    ends = (refl, All-nil (λ (s : Stay K). is_spent s.end ≡ false), refl);
    grown = no_calls pass;
    asked = none_asked kit.tools.day kit.tools.refusals kit.tools.last_refused;
    day = refl;
    full = λ h. absurd (cc (h));
  }

  -- no link comes any more
  pub serves_end : (kit kit_now : KitTold K) (pass : Standing T Entry) → kit_now.door.coming ≡ kit.door.coming
      → IfSome kit.door.coming (λ left. left ≡ []) → kit_now.door.given ≡ kit.door.given → kit_now.door.faults ≡ kit.door.faults
      → kit_now.tools ≡ kit.tools → ServesDoor coming sent page 1 door_end.End kit kit_now pass pass
  serves_end kit kit_now pass came none given faults tools = record {
    stays = [];
    served = none_served coming sent page kit.door kit_now.door came given;
    ends = (
      lit< tt,
      All-nil (λ (s : Stay K). is_spent s.end ≡ false),
      subst (λ (o : Option (List K)). IfSome o (λ left. left ≡ [])) (sym came) none,
      faults,
    );
    grown = no_calls pass;
    asked = subst (λ (t : Tools). AskedWith kit.tools t []) (sym tools) (none_asked kit.tools.day kit.tools.refusals kit.tools.last_refused);
    day = ap (λ (t : Tools). t.day) tools;
    full = λ h. absurd (cc (h));
  }

  -- a call of the door failed
  pub serves_failed : (kit kit_now : KitTold K) (pass : Standing T Entry) → kit_now.door.coming ≡ kit.door.coming
      → kit_now.door.given ≡ kit.door.given → Rose kit.door.faults kit_now.door.faults → kit_now.tools ≡ kit.tools
      → ServesDoor coming sent page 1 door_end.Failed kit kit_now pass pass
  serves_failed kit kit_now pass came given rose tools = record {
    stays = [];
    served = none_served coming sent page kit.door kit_now.door came given;
    ends = (lit< tt, All-nil (λ (s : Stay K). is_spent s.end ≡ false), rose);
    grown = no_calls pass;
    asked = subst (λ (t : Tools). AskedWith kit.tools t []) (sym tools) (none_asked kit.tools.day kit.tools.refusals kit.tools.last_refused);
    day = ap (λ (t : Tools). t.day) tools;
    full = λ h. absurd (cc (h));
  }

  -- a link came, was served, and went back
  pub serves_one : (end : DoorEnd) (link : K) (kit mid kit_now : KitTold K) (pass pass_now : Standing T Entry)
      → kit.door.coming ≡ option_map (λ links. link ∷ links) mid.door.coming
      → mid.door.given ≡ option_map (λ visits. visits ++ record { had = coming link; back = None } ∷ []) kit.door.given
      → mid.door.faults ≡ kit.door.faults → mid.tools ≡ kit.tools → ServesGiven coming sent page end link mid kit_now pass pass_now
      → ServesDoor coming sent page 1 end kit kit_now pass pass_now
  serves_one end link kit mid kit_now pass pass_now came given faults tools s =
      let stay : Stay K = s.stay in
      let out : Visit = record { had = coming link; back = None } in
      let at : K → Visit = λ k. record { had = coming k; back = Some stay.back } in
      let run : List Entry = stay.run in
      record {
        stays = stay ∷ [];
        served = record {
          came = came ∙ ap (option_map (λ (links : List K). link ∷ links)) (sym s.coming_stays)
              ∙ ap (λ (k : K). option_map (λ (links : List K). k ∷ links) kit_now.door.coming) (sym s.given);
          back = λ visits is are.
              s.back
              ∙ ap (option_map (come_back stay.back)) (given ∙ ap (option_map (λ (vs : List Visit). vs ++ out ∷ [])) is)
              ∙ ap (λ (vs : List Visit). Some vs) (last_back visits (coming link) stay.back are)
              ∙ ap (λ (k : K). Some (visits ++ at k ∷ [])) (sym s.given);
          each = All-cons (IsStay coming sent page) stay [] s.served (All-nil (IsStay coming sent page));
        };
        ends = ends_one (is_spent stay.end) end kit.door kit_now.door stay refl s.goes (s.faults ∙ faults);
        grown = subst (λ (es : List Entry). Grown pass pass_now es) (sym (append-nil run)) s.grown;
        asked = subst (λ (es : List Entry). AskedWith kit.tools kit_now.tools es) (sym (append-nil run))
            (subst (λ (t : Tools). AskedWith t kit_now.tools run) tools s.asked);
        day = s.day ∙ ap (λ (t : Tools). t.day) tools;
        full = s.full;
      }

  -- so many links were served, and then one more
  pub serves_on : (n : ℕ) (a b c : KitTold K) (p q r : Standing T Entry) → ServesDoor coming sent page n door_end.Enough a b p q
      → ServesDoor coming sent page 1 door_end.Enough b c q r → ServesDoor coming sent page (n + 1) door_end.Enough a c p r
  serves_on n a b c p q r first next =
      let xs = first.stays in
      let ys = next.stays in
      let runs = sym (runs_more xs ys) in
      record {
        stays = xs ++ ys;
        served = served_more coming sent page a.door b.door c.door xs ys first.served next.served;
        ends = ends_on n a.door b.door c.door xs ys first.ends next.ends;
        grown = subst (λ (es : List Entry). Grown p r es) runs (calls_in_a_row p q r (runs_of xs) (runs_of ys) first.grown next.grown);
        asked = subst (λ (es : List Entry). AskedWith a.tools c.tools es) runs
            (asked_on a.tools b.tools c.tools (runs_of xs) (runs_of ys) first.day first.asked next.asked);
        day = next.day ∙ first.day;
        full = λ h. absurd (cc (h));
      }

  -- so many links were served, and then the serving ended
  pub serves_stop : (n limit : ℕ) (end : DoorEnd) (a b c : KitTold K) (p q r : Standing T Entry) → n < limit → (end ≡ door_end.Enough → ⊥)
      → ServesDoor coming sent page n door_end.Enough a b p q → ServesDoor coming sent page 1 end b c q r → ServesDoor coming sent page limit end a c p r
  serves_stop n limit end a b c p q r less going first next =
      let xs = first.stays in
      let ys = next.stays in
      let runs = sym (runs_more xs ys) in
      record {
        stays = xs ++ ys;
        served = served_more coming sent page a.door b.door c.door xs ys first.served next.served;
        ends = ends_stop n limit end a.door b.door c.door xs ys less going first.ends next.ends;
        grown = subst (λ (es : List Entry). Grown p r es) runs (calls_in_a_row p q r (runs_of xs) (runs_of ys) first.grown next.grown);
        asked = subst (λ (es : List Entry). AskedWith a.tools c.tools es) runs
            (asked_on a.tools b.tools c.tools (runs_of xs) (runs_of ys) first.day first.asked next.asked);
        day = next.day ∙ first.day;
        full = next.full;
      }
