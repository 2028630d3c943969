-- Each step keeps the rule.
use Rattle.std.proofs.Math.Nat.{mod-eq_of_lt}
use Rattle.std.proofs.Common.{◌≡◌, ◌≢◌, ℕ, zero, suc, false, eqb, ◌+◌, ◌-◌, ◌*◌, ◌%◌, ◌^◌, ◌<◌, ◌⊎◌, inl, inr, ⊎_elim, List, [], ◌∷◌, ◌++◌, length, get_or, set, refl, ap, sym, subst, ◌∙◌, arith, length-append, Some, None, Option}
use mathlib.Core.Option.{none, some, some-injective, some-ne-none}
use mathlib.Core.Option as maybe
use native.Mathlib.Decide.{ℕ_discrete}
use lib.ListN.{get_elem?}
use lib.Seq.{set-get_or}
use prog.Atomic.{either}
use Rattle.atomic_table.specs.Table.{State, Me, step, stepped, Act, keeps, takes, gives, Valid, Allows, Splits, Joins, Seen, Final, opening, carried_after, put_back, rest}
use Rattle.atomic_table.proofs.Lists.{at_set, set_here, set_else, set_again, at_longer, at_snoc, exchanged}
use Rattle.turn_lock.specs.History.{Leads, made_by, IsOf}
use Rattle.turn_lock.specs.Views.{is_over, taken, told, given, parent, child, joint, closed, stamped, over_live, over_both}
use Rattle.turn_lock.specs.Rule.{At, Counts, Resting, Taken, Rule, took, Took, TookFrom, looked, EndedFrom, gave, first_view}
use Rattle.turn_lock.specs.declared.known.Entered.{Entered}
use Rattle.turn_lock.specs.declared.known.Hold.{Hold}
use Rattle.turn_lock.specs.declared.known.Hold.TheVariants.{Free, Holds, Over}
use Rattle.turn_lock.specs.declared.known.Known.{Known}
use Rattle.turn_lock.specs.declared.known.Opening.{Opening}
use Rattle.turn_lock.specs.declared.known.Place.{Place}
use Rattle.turn_lock.specs.declared.known.View.{View}
use Rattle.turn_lock.specs.declared.known.View.TheVariants.{Spent, Live}
use Rattle.turn_lock.proofs.Prefixes.{prefix_self, prefix_more}
use Rattle.turn_lock.proofs.Histories.{leads_on, made_here, made_there}
use Rattle.turn_lock.proofs.Rosters.{live_same, inside, moves, forks, joins, closes, ends, nobody_else, starts}

-- the slot that is out first, and the others
pub out_is : {P : Type 0} (xs : List (ℕ × P)) (p : P) (ys : List (ℕ × P)) → xs ≡ (0, p) ∷ ys → (old : P) × (xs ≡ (0, old) ∷ rest xs)
out_is {P} xs p ys h = (p, h ∙ ap (λ (zs : List (ℕ × P)). (0, p) ∷ zs) (sym (ap rest h)))

pub swapped : {T E : Type 0} (me me' : Me (Place T E) (View T E)) (v : Known T E) (p q : Place T E) → me ≡ (Live v, (0, p) ∷ []) → me' ≡ (me.0, (0, q) ∷ rest me.1) → me' ≡ (Live v, (0, q) ∷ [])
swapped me me' v p q is h = h ∙ (λ i. ((is i).0, (0, q) ∷ rest (is i).1))

module _ {T E S : Type 0} (state : T → S) (leads : S → E → S → Type 0) (key : Opening T) where
  abbrev St : Type 0
  St = State (Place T E) (View T E)

  abbrev M : Type 0
  M = Me (Place T E) (View T E)

  -- the step may leave m in the word, where `then` holds of the seat after
  abbrev Goes : St → ℕ → M → (M → Type 0) → ℕ → Type 0
  Goes s id me then m = (w : View T E) × (a : Act (Place T E)) × Valid s.homes me.1 a × Rule state leads key (stepped s 0 m id me.1 w a) × then (w, carried_after me.1 a)

  not_over : (h : Hold T) → h ≡ Free → is_over h ≡ false
  not_over h e = ap is_over e

  holds_not_over : (h : Hold T) (x : T) → h ≡ Holds x → is_over h ≡ false
  holds_not_over h x e = ap is_over e

  free_holds : (x : T) → Free ≡ Holds x → ⊥
  free_holds x e = cc

  over_holds : (x : T) → Over ≡ Holds x → ⊥
  over_holds x e = cc

  -- nothing changes
  stays : (s : St) (id : ℕ) (me : M) (then : M → Type 0) → Rule state leads key s → get_elem? s.views id ≡ some me.0 → then me → Goes s id me then (get_or s.words 0 0)
  stays s id me then r at told = (me.0, keeps, tt, subst (Rule state leads key) same r, told)
    where
      same : s ≡ stepped s 0 (get_or s.words 0 0) id me.1 me.0 keeps
      same = λ i. record { words = sym (set-get_or s.words 0 0) i; homes = s.homes; views = sym (set_again s.views id me.0 at) i }

  wins : (s : St) (id : ℕ) (me : M) (v : Known T E) (old : ℕ) → me.0 ≡ Live v → v.hold ≡ Free → old % 2 ≡ 0 → old + 2 < 2 ^ 64 → Rule state leads key s → get_elem? s.views id ≡ some (Live v) → get_or s.words 0 0 ≡ old
      → Goes s id me (Took state leads me) (old + 1)
  wins s id me v old is free even room r at hit = ⊎_elim go (λ t. let n : old ≡ 2 * (key.done + length r.log) + 1 = sym hit ∙ ap (λ (ws : List ℕ). get_or ws 0 0) t.word in absurd (omega arith)) r.turn
    where
      go : Resting state leads key.done key.first.value r.log s.words s.homes s.views → Goes s id me (Took state leads me) (old + 1)
      go t =
          let n : old ≡ 2 * (key.done + length r.log) = sym hit ∙ ap (λ (ws : List ℕ). get_or ws 0 0) t.word in
          let counts : Counts id v = inr (not_over v.hold free) in
          let fit = r.roster.fits id v at counts in
          let w : Known T E = taken v r.log t.value in (
            Live w,
            takes 0 record { value = Some t.value; last = t.last },
            ap (λ (hs : List (maybe.Option (Place T E))). get_elem? hs 0) t.home,
            record {
              log = r.log;
              room = r.room;
              roster = moves key.done key.first.value r.log s.views r.roster r.log id v w at counts refl refl refl refl refl (sym (not_over v.hold free)) refl (prefix_self r.log) fit.mine (λ k _. refl);
              turn = inr record {
                holder = id;
                view = w;
                value = t.value;
                word = ap (λ (ws : List ℕ). set ws 0 (old + 1)) t.word ∙ ap (λ (k : ℕ). (k + 1) ∷ []) n;
                home = ap (λ (hs : List (maybe.Option (Place T E))). set hs 0 none) t.home;
                at = set_here s.views id (Live w) (inside s.views id (Live v) at);
                holds = refl;
                seen = refl;
                led = t.led;
                alone = λ k u x a h. ⊎_elim (λ z. z.0) (λ z. absurd (t.free k u x z.1 h)) (at_set s.views id k (Live w) (Live u) a);
                room = omega arith;
              };
            },
            λ u e. let same : v ≡ u = live_same v u (ap some (sym is ∙ e)) in subst (λ (u : Known T E). TookFrom state leads u me.1 (Live w, (0, record { value = Some t.value; last = t.last }) ∷ me.1)) same (r.log, t.value, t.last, refl, fit.seen, subst (λ (o : T). Leads leads (state o) r.log (state t.value)) (sym fit.opening_is) t.led, (let d = fit.done_is in omega arith)),
          )

  -- 1 and 2: a take wins or loses
  pub tries : (slots id : ℕ) (me : M) (v : Known T E) (old : ℕ) → me.0 ≡ Live v → v.hold ≡ Free → old % 2 ≡ 0 → old + 2 < 2 ^ 64
      → Allows (Rule state leads key) slots id me 0 (λ n. either (eqb n old) (old + 1) n) (took state leads (step slots 0 old (old + 1) none) me)
  tries slots id me v old is free even room s r wide at fits = let n : ℕ = get_or s.words 0 0 in
      exchanged n old (old + 1) (Goes s id me (took state leads (step slots 0 old (old + 1) none) me n))
      (λ hit. let g = wins s id me v old is free even room r (at ∙ ap some is) hit in (g.0, g.1, g.2, g.3, ((λ _. g.4), λ miss. absurd (miss hit))))
      (λ miss. stays s id me (took state leads (step slots 0 old (old + 1) none) me n) r at ((λ hit. absurd (miss hit)), λ _. refl))

  -- 4: a load
  pub looks : (slots id : ℕ) (me : M) (v : Known T E) → me.0 ≡ Live v → v.hold ≡ Free → Allows (Rule state leads key) slots id me 0 (λ n. n) (looked (step slots 0 0 0 none) me)
  looks slots id me v is free s r wide at fits = go (ℕ_discrete (get_or s.words 0 0) (2 ^ 64 - 2))
    where
      at' : get_elem? s.views id ≡ some (Live v)
      at' = at ∙ ap some is

      spent : Resting state leads key.done key.first.value r.log s.words s.homes s.views → get_or s.words 0 0 ≡ 2 ^ 64 - 2 → Goes s id me (looked (step slots 0 0 0 none) me (get_or s.words 0 0)) (get_or s.words 0 0)
      spent t hit =
          let n : get_or s.words 0 0 ≡ 2 * (key.done + length r.log) = ap (λ (ws : List ℕ). get_or ws 0 0) t.word in
          let counts : Counts id v = inr (not_over v.hold free) in
          let fit = r.roster.fits id v at' counts in
          let w : Known T E = told v r.log in (
            Live w,
            keeps,
            tt,
            record {
              log = r.log;
              room = r.room;
              roster = moves key.done key.first.value r.log s.views r.roster r.log id v w at' counts refl refl refl refl refl refl refl (prefix_self r.log) fit.mine (λ k _. refl);
              turn = inl record {
                value = t.value;
                last = t.last;
                word = set-get_or s.words 0 0 ∙ t.word;
                home = t.home;
                led = t.led;
                free = λ k u x a h. ⊎_elim (λ z. free_holds x (sym free ∙ (ap (λ (y : Known T E). y.hold) (live_same w u (ap some z.1)) ∙ h))) (λ z. t.free k u x z.1 h) (at_set s.views id k (Live w) (Live u) a);
              };
            },
            (
              (λ _ u e. let same : v ≡ u = live_same v u (ap some (sym is ∙ e)) in
                  subst (λ (u : Known T E). EndedFrom u me.1 (Live w, me.1)) same (r.log, refl, fit.seen, (let d = fit.done_is in omega arith))),
              λ miss. absurd (miss hit),
            ),
          )

      go : Dec (get_or s.words 0 0 ≡ 2 ^ 64 - 2) → Goes s id me (looked (step slots 0 0 0 none) me (get_or s.words 0 0)) (get_or s.words 0 0)
      go (yes hit) = ⊎_elim (λ t. spent t hit) (λ t. let n : get_or s.words 0 0 ≡ 2 * (key.done + length r.log) + 1 = ap (λ (ws : List ℕ). get_or ws 0 0) t.word in absurd (omega arith)) r.turn
      go (no miss) = stays s id me (looked (step slots 0 0 0 none) me (get_or s.words 0 0)) r at ((λ hit. absurd (miss hit)), λ _. refl)

  abbrev offered : T → E → Place T E
  offered x e = record { value = Some x; last = Some e }

  held_same : {a b : T} → Holds a ≡ Holds b → a ≡ b
  held_same h = cc

  abbrev first_of : Place T E → List (ℕ × Place T E) → Place T E
  first_of d [] = d
  first_of d (x ∷ xs) = x.1

  place_same : (p q : Place T E) → ◌≡◌ {A = List (ℕ × Place T E)} ((0, p) ∷ []) ((0, q) ∷ []) → p ≡ q
  place_same p q h = ap (first_of p) h

  some_same : {a b : E} → Some a ≡ Some b → a ≡ b
  some_same h = cc

  mod_small : (k : ℕ) → k < 2 ^ 64 → k % 2 ^ 64 ≡ k
  mod_small k lt = mod-eq_of_lt lt

  put_home : (me : M) (v : Known T E) (p : Place T E) (homes : List (maybe.Option (Place T E))) → me ≡ (Live v, (0, p) ∷ []) → homes ≡ none ∷ [] → put_back homes me.1 ≡ some p ∷ []
  put_home me v p homes m h = ap (λ (y : M). put_back homes y.1) m ∙ ap (λ (hs : List (maybe.Option (Place T E))). set hs 0 (some p)) h

  gave_is : (me : M) (v : Known T E) (x : T) (e : E) → me ≡ (Live v, (0, offered x e) ∷ []) → (v' : Known T E) (p : Place T E) (e' : E) → me ≡ (Live v', (0, p) ∷ []) → p.last ≡ Some e' → ◌≡◌ {A = M} (Live (given v e), rest me.1) (Live (given v' e'), [])
  gave_is me v x e m v' p e' m' last =
      let both : ◌≡◌ {A = M} (Live v, (0, offered x e) ∷ []) (Live v', (0, p) ∷ []) = sym m ∙ m' in
      let a : v ≡ v' = live_same v v' (ap (λ (y : M). some y.0) both) in
      let b : offered x e ≡ p = place_same (offered x e) p (ap (λ (y : M). y.1) both) in
      let c : e ≡ e' = some_same (ap (λ (q : Place T E). q.last) b ∙ last) in
      λ i. (Live (given (a i) (c i)), rest (m i).1)

  -- 3: a give
  pub gives_back : (slots id : ℕ) (me : M) (v : Known T E) (was x : T) (e : E) → me ≡ (Live v, (0, offered x e) ∷ []) → v.hold ≡ Holds was → leads (state was) e (state x)
      → Allows (Rule state leads key) slots id me 0 (λ n. (n + 1) % 2 ^ 64) (gave (step slots 0 1 0 none) me)
  gives_back slots id me v was x e is held step_is s r wide at fits = ⊎_elim (λ t. absurd (t.free id v was at' held)) go r.turn
    where
      at' : get_elem? s.views id ≡ some (Live v)
      at' = at ∙ ap (λ (m : M). some m.0) is

      go : Taken state leads key.done key.first.value r.log s.words s.homes s.views → Goes s id me (gave (step slots 0 1 0 none) me (get_or s.words 0 0)) ((get_or s.words 0 0 + 1) % 2 ^ 64)
      go t =
          let n : get_or s.words 0 0 ≡ 2 * (key.done + length r.log) + 1 = ap (λ (ws : List ℕ). get_or ws 0 0) t.word in
          let mine : id ≡ t.holder = t.alone id v was at' held in
          let same : v ≡ t.view = live_same v t.view (sym at' ∙ (ap (get_elem? s.views) mine ∙ t.at)) in
          let value : was ≡ t.value = held_same (sym held ∙ (ap (λ (y : Known T E). y.hold) same ∙ t.holds)) in
          let seen : v.seen ≡ r.log = ap (λ (y : Known T E). y.seen) same ∙ t.seen in
          let counts : Counts id v = inr (holds_not_over v.hold was held) in
          let fit = r.roster.fits id v at' counts in
          let x' : Entered E = stamped v.number e in
          let log' : List (Entered E) = r.log ++ x' ∷ [] in
          let long : length log' ≡ length r.log + 1 = omega (arith, length-append r.log (x' ∷ [])) in
          let w : Known T E = given v e in
          let room : key.done + length r.log + 1 < 2 ^ 63 = t.room in
          let word : (get_or s.words 0 0 + 1) % 2 ^ 64 ≡ 2 * (key.done + length log') = mod_small (get_or s.words 0 0 + 1) (omega arith) ∙ (omega arith) in (
            Live w,
            gives,
            tt,
            record {
              log = log';
              room = omega arith;
              roster = moves key.done key.first.value r.log s.views r.roster log' id v w at' counts refl refl refl refl refl (sym (holds_not_over v.hold was held)) (ap (λ (xs : List (Entered E)). xs ++ x' ∷ []) seen) (prefix_more r.log (x' ∷ []))
                  (subst (λ (k : ℕ). made_by id (r.log ++ stamped k e ∷ []) ≡ v.mine ++ e ∷ []) (sym fit.number_is) (made_here id e r.log ∙ ap (λ (es : List E). es ++ e ∷ []) fit.mine))
                  (λ k ne. subst (λ (j : ℕ). made_by k (r.log ++ stamped j e ∷ []) ≡ made_by k r.log) (sym fit.number_is) (made_there k id e r.log ne));
              turn = inl record {
                value = x;
                last = Some e;
                word = ap (λ (ws : List ℕ). set ws 0 ((get_or s.words 0 0 + 1) % 2 ^ 64)) t.word ∙ ap (λ (k : ℕ). k ∷ []) word;
                home = put_home me v (offered x e) s.homes is t.home;
                led = leads_on leads (state key.first.value) (state t.value) (state x) r.log x' t.led (subst (λ (y : T). leads (state y) e (state x)) value step_is);
                free = λ k u y a h. ⊎_elim (λ z. free_holds y (ap (λ (q : Known T E). q.hold) (live_same w u (ap some z.1)) ∙ h)) (λ z. z.0 (t.alone k u y z.1 h ∙ sym mine)) (at_set s.views id k (Live w) (Live u) a);
              };
            },
            gave_is me v x e is,
          )

  -- a view that holds nothing, another in its place that holds nothing, and one more that holds nothing
  abbrev Turn : List (Entered E) → List ℕ → List (maybe.Option (Place T E)) → List (View T E) → Type 0
  Turn log words homes views = Resting state leads key.done key.first.value log words homes views ⊎ Taken state leads key.done key.first.value log words homes views

  grown : (s : St) (r : Rule state leads key s) (v f last : Known T E) → At s.views 0 v → ((x : T) → v.hold ≡ Holds x → ⊥) → ((x : T) → f.hold ≡ Holds x → ⊥) → ((x : T) → last.hold ≡ Holds x → ⊥)
      → Turn r.log s.words s.homes (set s.views 0 (Live f) ++ Live last ∷ [])
  grown s r v f last at idle idle' idle'' = ⊎_elim
      (λ t. inl record { value = t.value; last = t.last; word = t.word; home = t.home; led = t.led; free = λ k u x a h. ⊎_elim (λ b. t.free k u x b h) (λ b. b) (still k u x a h) })
      (λ t. inr record {
        holder = t.holder;
        view = t.view;
        value = t.value;
        word = t.word;
        home = t.home;
        at = at_longer (set s.views 0 (Live f)) (Live last ∷ []) t.holder (Live t.view) (set_else s.views 0 t.holder (Live f) (λ z. idle t.value (ap (λ (y : Known T E). y.hold) (live_same v t.view (sym at ∙ (ap (get_elem? s.views) (sym z) ∙ t.at))) ∙ t.holds)) ∙ t.at);
        holds = t.holds;
        seen = t.seen;
        led = t.led;
        alone = λ k u x a h. ⊎_elim (λ b. t.alone k u x b h) (λ b. absurd b) (still k u x a h);
        room = t.room;
      })
      r.turn
    where
      still : (k : ℕ) (u : Known T E) (x : T) → At (set s.views 0 (Live f) ++ Live last ∷ []) k u → u.hold ≡ Holds x → At s.views k u ⊎ ⊥
      still k u x a h = ⊎_elim
          (λ z. ⊎_elim (λ y. inr (idle' x (ap (λ (q : Known T E). q.hold) (live_same f u (ap some y.1)) ∙ h))) (λ y. inl y.1) (at_set s.views 0 k (Live f) (Live u) z))
          (λ z. inr (idle'' x (ap (λ (q : Known T E). q.hold) (live_same last u (ap some z)) ∙ h)))
          (at_snoc (set s.views 0 (Live f)) (Live last) (Live u) k a)

  -- 5: the first pass makes another
  pub splits : (id : ℕ) (at : View T E) (v : Known T E) → at ≡ Live v → v.hold ≡ Free → v.number ≡ 0 → Splits (Rule state leads key) id at (over_live parent at) (over_live child at)
  splits id at' v is free zero_is s r at =
      let counts : Counts id v = inr (not_over v.hold free) in
      let here : get_elem? s.views id ≡ some (Live v) = at ∙ ap some is in
      let first : id ≡ 0 = sym (r.roster.fits id v here counts).number_is ∙ zero_is in
      let here' : At s.views 0 v = ap (get_elem? s.views) (sym first) ∙ here in
      let views' : List (View T E) = set s.views 0 (Live (parent v)) ++ Live (child v) ∷ [] in
      let same : views' ≡ set s.views id (over_live parent at') ++ over_live child at' ∷ [] = λ i. set s.views (sym first i) (over_live parent (sym is i)) ++ over_live child (sym is i) ∷ [] in
      subst (λ (vs : List (View T E)). Rule state leads key record { words = s.words; homes = s.homes; views = vs }) same record {
        log = r.log;
        room = r.room;
        roster = forks key.done key.first.value r.log s.views r.roster v here' (not_over v.hold free);
        turn = grown s r v (parent v) (child v) here' (λ x h. free_holds x (sym free ∙ h)) (λ x h. free_holds x (sym free ∙ h)) (λ x h. free_holds x (sym free ∙ h));
      }

  -- the first pass ends
  pub closes_first : (id : ℕ) (at : View T E) (v : Known T E) → at ≡ Live v → v.hold ≡ Free → v.number ≡ 0 → Splits (Rule state leads key) id at (over_live closed at) (over_live closed at)
  closes_first id at' v is free zero_is s r at =
      let counts : Counts id v = inr (not_over v.hold free) in
      let here : get_elem? s.views id ≡ some (Live v) = at ∙ ap some is in
      let first : id ≡ 0 = sym (r.roster.fits id v here counts).number_is ∙ zero_is in
      let here' : At s.views 0 v = ap (get_elem? s.views) (sym first) ∙ here in
      let views' : List (View T E) = set s.views 0 (Live (closed v)) ++ Live (closed v) ∷ [] in
      let same : views' ≡ set s.views id (over_live closed at') ++ over_live closed at' ∷ [] = λ i. set s.views (sym first i) (over_live closed (sym is i)) ++ over_live closed (sym is i) ∷ [] in
      subst (λ (vs : List (View T E)). Rule state leads key record { words = s.words; homes = s.homes; views = vs }) same record {
        log = r.log;
        room = r.room;
        roster = closes key.done key.first.value r.log s.views r.roster v here';
        turn = grown s r v (closed v) (closed v) here' (λ x h. free_holds x (sym free ∙ h)) (λ x h. over_holds x h) (λ x h. over_holds x h);
      }

  fewer : (s : St) (r : Rule state leads key s) (v w : Known T E) (other : ℕ) → At s.views 0 v → At s.views other w → ((x : T) → v.hold ≡ Holds x → ⊥) → ((x : T) → w.hold ≡ Holds x → ⊥)
      → Turn r.log s.words s.homes (set (set s.views 0 (Live (joint v w))) other Spent)
  fewer s r v w other at there idle idle' = ⊎_elim
      (λ t. inl record { value = t.value; last = t.last; word = t.word; home = t.home; led = t.led; free = λ k u x a h. ⊎_elim (λ b. t.free k u x b h) (λ b. b) (still k u x a h) })
      (λ t. inr record {
        holder = t.holder;
        view = t.view;
        value = t.value;
        word = t.word;
        home = t.home;
        at = set_else (set s.views 0 (Live (joint v w))) other t.holder Spent (λ z. idle' t.value (ap (λ (y : Known T E). y.hold) (live_same w t.view (sym there ∙ (ap (get_elem? s.views) (sym z) ∙ t.at))) ∙ t.holds))
            ∙ (set_else s.views 0 t.holder (Live (joint v w)) (λ z. idle t.value (ap (λ (y : Known T E). y.hold) (live_same v t.view (sym at ∙ (ap (get_elem? s.views) (sym z) ∙ t.at))) ∙ t.holds)) ∙ t.at);
        holds = t.holds;
        seen = t.seen;
        led = t.led;
        alone = λ k u x a h. ⊎_elim (λ b. t.alone k u x b h) (λ b. absurd b) (still k u x a h);
        room = t.room;
      })
      r.turn
    where
      spent_live : (u : Known T E) → Spent ≡ Live u → ⊥
      spent_live u e = cc

      still : (k : ℕ) (u : Known T E) (x : T) → At (set (set s.views 0 (Live (joint v w))) other Spent) k u → u.hold ≡ Holds x → At s.views k u ⊎ ⊥
      still k u x a h = ⊎_elim
          (λ z. inr (spent_live u z.1))
          (λ z. ⊎_elim (λ y. inr (idle x (ap (λ (q : Known T E). q.hold) (live_same (joint v w) u (ap some y.1)) ∙ h))) (λ y. inl y.1) (at_set s.views 0 k (Live (joint v w)) (Live u) z.1))
          (at_set (set s.views 0 (Live (joint v w))) other k Spent (Live u) a)

  -- 6: the first pass takes another in
  pub joins_other : (id : ℕ) (at : View T E) (v : Known T E) (other : ℕ) (there : View T E) (w : Known T E) → at ≡ Live v → there ≡ Live w → v.hold ≡ Free → w.hold ≡ Free → v.number ≡ 0
      → Joins (Rule state leads key) id at other there (over_both joint at there) Spent
  joins_other id at' v other there' w is is' free free' zero_is s r at ne there =
      let counts : Counts id v = inr (not_over v.hold free) in
      let here : get_elem? s.views id ≡ some (Live v) = at ∙ ap some is in
      let first : id ≡ 0 = sym (r.roster.fits id v here counts).number_is ∙ zero_is in
      let here' : At s.views 0 v = ap (get_elem? s.views) (sym first) ∙ here in
      let there'' : At s.views other w = sym (set_else s.views id other (over_both joint at' there') ne) ∙ (there ∙ ap some is') in
      let pos : 0 < other = above other (λ z. ne (z ∙ sym first)) in
      let views' : List (View T E) = set (set s.views 0 (Live (joint v w))) other Spent in
      let same : views' ≡ set (set s.views id (over_both joint at' there')) other Spent = λ i. set (set s.views (sym first i) (over_both joint (sym is i) (sym is' i))) other Spent in
      let idle : (x : T) → v.hold ≡ Holds x → ⊥ = λ x h. free_holds x (sym free ∙ h) in
      let idle' : (x : T) → w.hold ≡ Holds x → ⊥ = λ x h. free_holds x (sym free' ∙ h) in
      subst (λ (vs : List (View T E)). Rule state leads key record { words = s.words; homes = s.homes; views = vs }) same record {
        log = r.log;
        room = r.room;
        roster = joins key.done key.first.value r.log s.views r.roster v here' other w pos there'' (not_over w.hold free');
        turn = fewer s r v w other here' there'' idle idle';
      }
    where
      above : (k : ℕ) → k ≢ 0 → 0 < k
      above zero ne = absurd (ne refl)
      above (suc k) ne = omega arith

  -- the table at the start
  pub starts_as : (v : T) → key.done < 2 ^ 63 → key.first.value ≡ v → Rule state leads key (opening (2 * key.done ∷ []) (record { value = Some v; last = None } ∷ []) (first_view key))
  starts_as v small is = record {
    log = [];
    room = omega arith;
    roster = starts key.done key.first.value record { done = key.done; opening = key.first.value; number = 0; made = 0; seen = []; mine = []; joined = []; hold = Free } refl refl refl refl refl refl refl refl;
    turn = inl record { value = v; last = None; word = ap (λ (k : ℕ). 2 * k ∷ []) (omega arith); home = refl; led = ap state is; free = free_of };
  }
    where
      free_of : (k : ℕ) (u : Known T E) (x : T) → At (first_view key ∷ []) k u → u.hold ≡ Holds x → ⊥
      free_of zero u x a h = free_holds x (ap (λ (q : Known T E). q.hold) (live_same record { done = key.done; opening = key.first.value; number = 0; made = 0; seen = []; mine = []; joined = []; hold = Free } u a) ∙ h)
      free_of (suc k) u x a h = some-ne-none (Live u) (sym a)

  -- where all passes were joined and the first has ended, nobody holds the value
  nobody : (s : St) (r : Rule state leads key s) (v : Known T E) → At s.views 0 v → v.hold ≡ Over → v.made ≡ length v.joined → (t : Taken state leads key.done key.first.value r.log s.words s.homes s.views) → Dec (t.holder ≡ 0) → ⊥
  nobody s r v at over all t (yes z) = over_holds t.value (sym over ∙ (ap (λ (y : Known T E). y.hold) (live_same v t.view (sym at ∙ (ap (get_elem? s.views) (sym z) ∙ t.at))) ∙ t.holds))
  nobody s r v at over all t (no z) = nobody_else key.done key.first.value r.log s.views r.roster v at all t.holder (above t.holder z) (t.view, t.at, holds_not_over t.view.hold t.value t.holds)
    where
      above : (k : ℕ) → k ≢ 0 → 0 < k
      above zero ne = absurd (ne refl)
      above (suc k) ne = omega arith

  -- what the first pass has seen at the end, and the value that lies in the slot
  pub record Closes (v : Known T E) (xs : List (Place T E)) : Type 0 where
    pub value : T
    pub last : Option E
    pub home : get_elem? xs 0 ≡ some record { value = Some value; last = last }
    pub led : Leads leads (state key.first.value) v.seen (state value)
    pub whole : IsOf v.seen v.mine v.joined

  pub ends_as : (id : ℕ) (at : View T E) (v : Known T E) (ws : List ℕ) (xs : List (Place T E)) → at ≡ Live v → id ≡ 0 → v.hold ≡ Over → v.made ≡ length v.joined → Final (Seen (Rule state leads key) id at) ws xs → Closes v xs
  ends_as id at' v ws xs is first over all f =
      let s : St = f.0 in
      let r : Rule state leads key s = f.1.0 in
      let at : At s.views 0 v = ap (get_elem? s.views) (sym first) ∙ (f.1.1 ∙ ap some is) in
      let law = ends key.done key.first.value r.log s.views r.roster v at all in
      ⊎_elim
      (λ t. record {
        value = t.value;
        last = t.last;
        home = f.4 0 record { value = Some t.value; last = t.last } (ap (λ (hs : List (maybe.Option (Place T E))). get_elem? hs 0) t.home);
        led = subst (λ (l : List (Entered E)). Leads leads (state key.first.value) l (state t.value)) (sym law.0) t.led;
        whole = subst (λ (l : List (Entered E)). IsOf l v.mine v.joined) (sym law.0) law.1;
      })
      (λ t. absurd (nobody s r v at over all t (ℕ_discrete t.holder 0)))
      r.turn
