-- What of the rule is about all views, and how each step keeps it.
use Rattle.std.proofs.Common.{◌≡◌, ◌≢◌, ℕ, zero, suc, Bool, true, false, ◌+◌, ◌<◌, ◌≤◌, ◌⊎◌, inl, inr, ⊎_elim, List, [], ◌∷◌, ◌++◌, length, ltb, get_or, set, refl, ap, sym, subst, ◌∙◌, lt_of_not-le, arith, length-append, length-set, if◌then◌else◌}
use Rattle.std.specs.Prelude.{All, Some}
use Rattle.std.proofs.lemmas.List.Elements.{All-push, All-pop}
use Rattle.std.proofs.lemmas.Bool.{true≢false}
use borrow.Author.Tests.{ltb-true, ltb-false}
use mathlib.Core.List.{IsPrefix}
use mathlib.Core.Option.{some, some-injective, some-ne-none}
use native.Mathlib.Decide.{ℕ_discrete, dec_le}
use lib.ListN.{get_elem?}
use Rattle.atomic_table.proofs.Lists.{at_set, set_here, set_else, at_longer, at_last}
use Rattle.turn_lock.specs.History.{made_by, IsNone, IsOf, longer}
use Rattle.turn_lock.specs.Views.{is_over, parent, child, joint, closed}
use Rattle.turn_lock.specs.Rule.{At, Counts, LiveAt, one, live_count, tail, Fits, Gone, Roster}
use Rattle.turn_lock.specs.declared.known.Entered.{Entered}
use Rattle.turn_lock.specs.declared.known.Member.{Member}
use Rattle.turn_lock.specs.declared.known.Known.{Known}
use Rattle.turn_lock.specs.declared.known.View.{View}
use Rattle.turn_lock.specs.declared.known.View.TheVariants.{Spent, Live}
use Rattle.turn_lock.proofs.Prefixes.{prefix_self, prefix_trans, prefix_length, prefix_whole}

pub all_mono : {X : Type 0} (P Q : X → Type 0) (xs : List X) → ((x : X) → P x → Q x) → All P xs → All Q xs
all_mono P Q xs f h = λ k d lt. f (get_or xs k d) (h k d lt)

pub inside : {X : Type 0} (xs : List X) (k : ℕ) (x : X) → get_elem? xs k ≡ some x → k < length xs
inside [] k x e = absurd (some-ne-none x (sym e))
inside (y ∷ xs) zero x e = omega arith
inside (y ∷ xs) (suc k) x e = let h = inside xs k x e in omega arith

pub at_end : {X : Type 0} (xs : List X) (a b : X) (k : ℕ) → get_elem? (xs ++ a ∷ []) k ≡ some b → (get_elem? xs k ≡ some b) ⊎ ((k ≡ length xs) × (a ≡ b))
at_end [] a b zero e = inr (refl, some-injective a b e)
at_end [] a b (suc k) e = absurd (some-ne-none b (sym e))
at_end (x ∷ xs) a b zero e = inl e
at_end (x ∷ xs) a b (suc k) e = ⊎_elim (λ z. inl z) (λ z. inr (ap suc z.0, z.1)) (at_end xs a b k e)

module _ {E : Type 0} where
  longer_by : Bool → List (Entered E) → List (Entered E) → List (Entered E)
  longer_by b xs ys = if b then ys else xs

  -- the longer of two beginnings begins the list too
  pub longer_prefix : (xs ys log : List (Entered E)) → IsPrefix xs log → IsPrefix ys log → IsPrefix (longer xs ys) log
  longer_prefix xs ys log p q = go (ltb (length xs) (length ys))
    where
      go : (b : Bool) → IsPrefix (if b then ys else xs) log
      go true = q
      go false = p

  -- and it is the list where one of them is
  pub longer_whole : (xs ys log : List (Entered E)) → IsPrefix xs log → IsPrefix ys log → (xs ≡ log) ⊎ (ys ≡ log) → longer xs ys ≡ log
  longer_whole xs ys log p q whole = go (ltb (length xs) (length ys)) refl
    where
      go : (b : Bool) → ltb (length xs) (length ys) ≡ b → (if b then ys else xs) ≡ log
      go true is = ⊎_elim (λ z. let l = ltb-true (length xs) (length ys) is in let m = prefix_length ys log q in let n = ap length z in absurd (omega arith)) (λ z. z) whole
      go false is = ⊎_elim (λ z. z) (λ z. let l = ltb-false (length xs) (length ys) is in let n = ap length z in prefix_whole xs log p (omega arith)) whole

module _ {T E : Type 0} where
  pub live_same : (v w : Known T E) → some (Live v) ≡ some (Live w) → v ≡ w
  live_same v w e = cc

  pub count_set : (xs : List (View T E)) (k : ℕ) (a b : View T E) → get_elem? xs k ≡ some a → live_count (set xs k b) + one a ≡ live_count xs + one b
  count_set [] k a b e = absurd (some-ne-none a (sym e))
  count_set (x ∷ xs) zero a b e = let is : one x ≡ one a = ap one (some-injective x a e) in omega arith
  count_set (x ∷ xs) (suc k) a b e = let h = count_set xs k a b e in omega arith

  -- a view other than the first changes
  pub count_rest : (xs : List (View T E)) (k : ℕ) (a b : View T E) → 0 < k → get_elem? xs k ≡ some a → live_count (tail (set xs k b)) + one a ≡ live_count (tail xs) + one b
  count_rest [] k a b pos e = absurd (some-ne-none a (sym e))
  count_rest (x ∷ xs) zero a b pos e = absurd (omega arith)
  count_rest (x ∷ xs) (suc k) a b pos e = count_set xs k a b e

  pub count_front : (xs : List (View T E)) (b : View T E) → live_count (tail (set xs 0 b)) ≡ live_count (tail xs)
  count_front [] b = refl
  count_front (x ∷ xs) b = refl

  pub count_same : (xs : List (View T E)) (k : ℕ) (a b : View T E) → get_elem? xs k ≡ some a → one a ≡ one b → live_count (tail (set xs k b)) ≡ live_count (tail xs)
  count_same xs zero a b e same = count_front xs b
  count_same xs (suc k) a b e same = let h = count_rest xs (suc k) a b (omega arith) e in omega arith

  pub count_last : (xs : List (View T E)) (b : View T E) → live_count (xs ++ b ∷ []) ≡ live_count xs + one b
  count_last [] b = omega arith
  count_last (x ∷ xs) b = let h = count_last xs b in omega arith

  pub count_longer : (xs : List (View T E)) (b : View T E) → 0 < length xs → live_count (tail (xs ++ b ∷ [])) ≡ live_count (tail xs) + one b
  count_longer [] b pos = absurd (omega arith)
  count_longer (x ∷ xs) b pos = count_last xs b

  one_live : (v : Known T E) → is_over v.hold ≡ false → one (Live v) ≡ 1
  one_live v o = ap (λ (b : Bool). if b then 0 else 1) o

  one_over : (v : Known T E) → is_over v.hold ≡ true → one (Live v) ≡ 0
  one_over v o = ap (λ (b : Bool). if b then 0 else 1) o

  count_some : (xs : List (View T E)) (k : ℕ) (v : Known T E) → At xs k v → is_over v.hold ≡ false → 0 < live_count xs
  count_some [] k v at o = absurd (some-ne-none (Live v) (sym at))
  count_some (x ∷ xs) zero v at o = let is : one x ≡ 1 = ap one (some-injective x (Live v) at) ∙ one_live v o in omega arith
  count_some (x ∷ xs) (suc k) v at o = let h = count_some xs k v at o in omega arith

  -- where no view but the first is live
  pub none_else : (xs : List (View T E)) (k : ℕ) → live_count (tail xs) ≡ 0 → 0 < k → LiveAt xs k → ⊥
  none_else [] k c pos l = some-ne-none (Live l.0) (sym l.1)
  none_else (x ∷ xs) zero c pos l = omega arith
  none_else (x ∷ xs) (suc k) c pos l = let h = count_some xs k l.0 l.1 l.2 in omega arith

  module _ (done : ℕ) (opening : T) (log : List (Entered E)) (views : List (View T E)) (r : Roster done opening log views) where
    pub near : (k : ℕ) (v : Known T E) → At views k v → Counts k v → k ≤ r.made
    near k v at counts = ⊎_elim (λ (z : k ≡ 0). let h : k ≤ r.made = omega arith in h) (λ o. r.below k (v, at, o)) counts

    -- no joined pass has the number of a view that counts
    pub apart : (k : ℕ) (v : Known T E) (m : Member E) → At views k v → Counts k v → Gone log r.made views m → m.number ≢ k
    apart k v m at counts g is = ⊎_elim (λ (z : k ≡ 0). let a = g.after in omega arith) (λ o. g.gone (subst (LiveAt views) (sym is) (v, at, o))) counts

    -- one view moves on, sees the whole history, and enters nothing or one entry
    pub moves : (log' : List (Entered E)) (id : ℕ) (v w : Known T E) → At views id v → Counts id v → w.done ≡ v.done → w.opening ≡ v.opening → w.number ≡ v.number → w.made ≡ v.made → w.joined ≡ v.joined
        → is_over w.hold ≡ is_over v.hold → w.seen ≡ log' → IsPrefix log log' → made_by id log' ≡ w.mine → ((n : ℕ) → n ≢ id → made_by n log' ≡ made_by n log) → Roster done opening log' (set views id (Live w))
    moves log' id v w at counts d o num md jn ov seen more mine others =
        let views' : List (View T E) = set views id (Live w) in
        let here : At views' id w = set_here views id (Live w) (inside views id (Live v) at) in
        let counts' : Counts id w = ⊎_elim (λ z. inl z) (λ z. inr (ov ∙ z)) counts in
        let old = r.fits id v at counts in
        let case : (k : ℕ) (u : Known T E) → At views' k u → ((k ≡ id) × (w ≡ u)) ⊎ ((k ≢ id) × At views k u) = λ k u a. ⊎_elim (λ z. inl (z.0, live_same w u (ap some z.1))) (λ z. inr z) (at_set views id k (Live w) (Live u) a) in
        let still : (k : ℕ) → LiveAt views' k → LiveAt views k = λ k l. ⊎_elim (λ z. (v, subst (λ (n : ℕ). At views n v) (sym z.0) at, sym ov ∙ (ap (λ (u : Known T E). is_over u.hold) z.1 ∙ l.2))) (λ z. (l.0, z.1, l.2)) (case k l.0 l.1) in
        record {
          made = r.made;
          joined = r.joined;
          over = r.over;
          front = let f = r.front in front_of (ℕ_discrete 0 id) here (let case0 : 0 ≡ id → v ≡ f.0 = λ z. live_same v f.0 (sym at ∙ (ap (get_elem? views) (sym z) ∙ f.1)) in case0);
          fits = λ k u a cu. ⊎_elim
              (λ z. subst (λ (x : Known T E). Fits done opening log' k x) z.1 (subst (λ (n : ℕ). Fits done opening log' n w) (sym z.0) record { done_is = d ∙ old.done_is; opening_is = o ∙ old.opening_is; number_is = num ∙ old.number_is; seen = subst (λ (xs : List (Entered E)). IsPrefix xs log') (sym seen) (prefix_self log'); mine = mine }))
              (λ z. let f = r.fits k u z.1 cu in record { done_is = f.done_is; opening_is = f.opening_is; number_is = f.number_is; seen = prefix_trans u.seen log log' f.seen more; mine = others k z.0 ∙ f.mine })
              (case k u a);
          whole = (id, (w, here, counts', seen));
          below = λ k l. r.below k (still k l);
          size = λ z. length-set views id (Live w) ∙ r.size z;
          count = ap (λ (n : ℕ). n + length r.joined) (count_same views id (Live v) (Live w) at (ap (λ (b : Bool). if b then 0 else 1) (sym ov))) ∙ r.count;
          members = all_mono (Gone log r.made views) (Gone log' r.made views') r.joined (λ m g. record { after = g.after; within = g.within; mine = others m.number (apart id v m at counts g) ∙ g.mine; gone = λ l. g.gone (still m.number l) }) r.members;
          left = λ n pos le. ⊎_elim (λ l. inl (alive n l)) (λ z. inr z) (r.left n pos le);
          unmade = λ n lt. others n (λ z. let b = near id v at counts in omega arith) ∙ r.unmade n lt;
        }
      where
        front_of : Dec (0 ≡ id) → At (set views id (Live w)) id w → (0 ≡ id → v ≡ r.front.0) → (x : Known T E) × At (set views id (Live w)) 0 x × (x.made ≡ r.made) × (x.joined ≡ r.joined) × (is_over x.hold ≡ r.over)
        front_of (yes z) here is = let e = is z in (w, subst (λ (n : ℕ). At (set views id (Live w)) n w) (sym z) here, md ∙ (ap (λ (x : Known T E). x.made) e ∙ r.front.2), jn ∙ (ap (λ (x : Known T E). x.joined) e ∙ r.front.3), ov ∙ (ap (λ (x : Known T E). is_over x.hold) e ∙ r.front.4))
        front_of (no z) here is = (r.front.0, set_else views id 0 (Live w) z ∙ r.front.1, r.front.2, r.front.3, r.front.4)

        alive : (n : ℕ) → LiveAt views n → LiveAt (set views id (Live w)) n
        alive n l = go (ℕ_discrete n id)
          where
            go : Dec (n ≡ id) → LiveAt (set views id (Live w)) n
            go (yes z) = let e = live_same v l.0 (sym at ∙ (ap (get_elem? views) (sym z) ∙ l.1)) in (w, subst (λ (k : ℕ). At (set views id (Live w)) k w) (sym z) (set_here views id (Live w) (inside views id (Live v) at)), ov ∙ (ap (λ (x : Known T E). is_over x.hold) e ∙ l.2))
            go (no z) = (l.0, set_else views id n (Live w) z ∙ l.1, l.2)

    module _ (v : Known T E) (at : At views 0 v) where
      front_is : v ≡ r.front.0
      front_is = live_same v r.front.0 (sym at ∙ r.front.1)

      made_is : v.made ≡ r.made
      made_is = ap (λ (x : Known T E). x.made) front_is ∙ r.front.2

      joined_is : v.joined ≡ r.joined
      joined_is = ap (λ (x : Known T E). x.joined) front_is ∙ r.front.3

      over_is : is_over v.hold ≡ r.over
      over_is = ap (λ (x : Known T E). is_over x.hold) front_is ∙ r.front.4

      some_view : 0 < length views
      some_view = inside views 0 (Live v) at

      module _ (f last : Known T E) where
        grown : List (View T E)
        grown = set views 0 (Live f) ++ Live last ∷ []

        grown_here : At grown 0 f
        unfolding grown
        grown_here = at_longer (set views 0 (Live f)) (Live last ∷ []) 0 (Live f) (set_here views 0 (Live f) some_view)

        grown_last : At grown (length views) last
        unfolding grown
        grown_last = at_last (set views 0 (Live f)) (Live last) (length views) (length-set views 0 (Live f))

        grown_else : (k : ℕ) (u : Known T E) → k ≢ 0 → At views k u → At grown k u
        unfolding grown
        grown_else k u ne a = at_longer (set views 0 (Live f)) (Live last ∷ []) k (Live u) (set_else views 0 k (Live f) ne ∙ a)

        grown_cases : (k : ℕ) (u : Known T E) → At grown k u → ((k ≡ 0) × (f ≡ u)) ⊎ (((k ≡ length views) × (last ≡ u)) ⊎ ((k ≢ 0) × At views k u))
        unfolding grown
        grown_cases k u a = ⊎_elim
            (λ z. ⊎_elim (λ y. inl (y.0, live_same f u (ap some y.1))) (λ y. inr (inr y)) (at_set views 0 k (Live f) (Live u) z))
            (λ z. inr (inl (z.0 ∙ length-set views 0 (Live f), live_same last u (ap some z.1))))
            (at_end (set views 0 (Live f)) (Live last) (Live u) k a)

        grown_length : length grown ≡ length views + 1
        unfolding grown
        grown_length = omega (arith, length-append (set views 0 (Live f)) (Live last ∷ []), length-set views 0 (Live f))

        grown_count : live_count (tail grown) ≡ live_count (tail views) + one (Live last)
        unfolding grown
        grown_count = let n = length-set views 0 (Live f) in count_longer (set views 0 (Live f)) (Live last) (let l = some_view in omega arith) ∙ ap (λ (k : ℕ). k + one (Live last)) (count_front views (Live f))

      whole_at : (f last : Known T E) → f.seen ≡ v.seen → Dec (r.whole.0 ≡ 0) → (k : ℕ) × ((u : Known T E) × At (grown f last) k u × Counts k u × (u.seen ≡ log))
      whole_at f last same (yes z) = let e = live_same v r.whole.1.0 (sym at ∙ (ap (get_elem? views) (sym z) ∙ r.whole.1.1)) in (0, (f, grown_here f last, inl refl, same ∙ (ap (λ (x : Known T E). x.seen) e ∙ r.whole.1.3)))
      whole_at f last same (no z) = (r.whole.0, (r.whole.1.0, grown_else f last r.whole.0 r.whole.1.0 z r.whole.1.1, r.whole.1.2, r.whole.1.3))

      -- the first pass makes another
      pub forks : is_over v.hold ≡ false → Roster done opening log (set views 0 (Live (parent v)) ++ Live (child v) ∷ [])
      unfolding grown
      forks free =
          let f = parent v in
          let last = child v in
          let views' = grown f last in
          let mi = made_is in
          let size : length views ≡ r.made + 1 = r.size (sym over_is ∙ free) in
          let old = r.fits 0 v at (inl refl) in
          let still : (k : ℕ) → LiveAt views' k → LiveAt views k ⊎ (k ≡ length views) = λ k l. ⊎_elim (λ z. inl (v, subst (λ (n : ℕ). At views n v) (sym z.0) at, free)) (λ z. ⊎_elim (λ y. inr y.0) (λ y. inl (l.0, y.1, l.2)) z) (grown_cases f last k l.0 l.1) in
          record {
            made = r.made + 1;
            joined = r.joined;
            over = r.over;
            front = (f, grown_here f last, ap (λ (n : ℕ). n + 1) mi, joined_is, over_is);
            fits = λ k u a cu. ⊎_elim
                (λ z. subst (λ (x : Known T E). Fits done opening log k x) z.1 (subst (λ (n : ℕ). Fits done opening log n f) (sym z.0) record { done_is = old.done_is; opening_is = old.opening_is; number_is = old.number_is; seen = old.seen; mine = old.mine }))
                (λ z. ⊎_elim
                (λ y. subst (λ (x : Known T E). Fits done opening log k x) y.1 (subst (λ (n : ℕ). Fits done opening log n last) (sym y.0) record { done_is = old.done_is; opening_is = old.opening_is; number_is = omega arith; seen = old.seen; mine = r.unmade (length views) (omega arith) }))
                (λ y. r.fits k u y.1 cu)
                z)
                (grown_cases f last k u a);
            whole = whole_at f last refl (ℕ_discrete r.whole.0 0);
            below = λ k l. ⊎_elim (λ z. let b = r.below k z in omega arith) (λ z. omega arith) (still k l);
            size = λ z. let n = grown_length f last in omega arith;
            count = let n = grown_count f last in let o : one (Live last) ≡ 1 = one_live last free in let c = r.count in omega arith;
            members = all_mono (Gone log r.made views) (Gone log (r.made + 1) views') r.joined (λ m g. let w = g.within in record { after = g.after; within = omega arith; mine = g.mine; gone = λ l. ⊎_elim g.gone (λ z. omega arith) (still m.number l) }) r.members;
            left = λ n pos le. left_of free n pos le (ℕ_discrete n (length views));
            unmade = λ n lt. r.unmade n (omega arith);
          }
        where
          left_of : is_over v.hold ≡ false → (n : ℕ) → 0 < n → n ≤ r.made + 1 → Dec (n ≡ length views) → LiveAt (grown (parent v) (child v)) n ⊎ (IsNone n r.joined → ⊥)
          left_of free n pos le (yes z) = inl (child v, subst (λ (k : ℕ). At (grown (parent v) (child v)) k (child v)) (sym z) (grown_last (parent v) (child v)), free)
          left_of free n pos le (no z) = let size : length views ≡ r.made + 1 = r.size (sym over_is ∙ free) in ⊎_elim (λ l. inl (l.0, grown_else (parent v) (child v) n l.0 (λ e. omega arith) l.1, l.2)) (λ y. inr y) (r.left n pos (omega arith))

      -- the first pass ends, and what it knew is kept
      pub closes : Roster done opening log (set views 0 (Live (closed v)) ++ Live (closed v) ∷ [])
      unfolding grown
      closes =
          let f = closed v in
          let views' = grown f f in
          let old = r.fits 0 v at (inl refl) in
          let pos = some_view in
          let still : (k : ℕ) → LiveAt views' k → LiveAt views k = λ k l. ⊎_elim (λ z. absurd (true≢false (ap (λ (x : Known T E). is_over x.hold) z.1 ∙ l.2))) (λ z. ⊎_elim (λ y. absurd (true≢false (ap (λ (x : Known T E). is_over x.hold) y.1 ∙ l.2))) (λ y. (l.0, y.1, l.2)) z) (grown_cases f f k l.0 l.1) in
          record {
            made = r.made;
            joined = r.joined;
            over = true;
            front = (f, grown_here f f, made_is, joined_is, refl);
            fits = λ k u a cu. ⊎_elim
                (λ z. subst (λ (x : Known T E). Fits done opening log k x) z.1 (subst (λ (n : ℕ). Fits done opening log n f) (sym z.0) record { done_is = old.done_is; opening_is = old.opening_is; number_is = old.number_is; seen = old.seen; mine = old.mine }))
                (λ z. ⊎_elim
                (λ y. absurd (⊎_elim (λ (x : k ≡ 0). let e = y.0 in omega arith) (λ x. true≢false (ap (λ (x : Known T E). is_over x.hold) y.1 ∙ x)) cu))
                (λ y. r.fits k u y.1 cu)
                z)
                (grown_cases f f k u a);
            whole = whole_at f f refl (ℕ_discrete r.whole.0 0);
            below = λ k l. r.below k (still k l);
            size = λ z. absurd (true≢false z);
            count = let n = grown_count f f in let o : one (Live f) ≡ 0 = one_over f refl in let c = r.count in omega arith;
            members = all_mono (Gone log r.made views) (Gone log r.made views') r.joined (λ m g. record { after = g.after; within = g.within; mine = g.mine; gone = λ l. g.gone (still m.number l) }) r.members;
            left = λ n pos le. ⊎_elim (λ l. inl (l.0, grown_else f f n l.0 (λ e. omega arith) l.1, l.2)) (λ y. inr y) (r.left n pos le);
            unmade = r.unmade;
          }

      -- where each pass that was made was joined, no other is live
      pub nobody_else : v.made ≡ length v.joined → (n : ℕ) → 0 < n → LiveAt views n → ⊥
      nobody_else all n pos l = none_else views n (let c = r.count in let m = made_is in let j = ap (λ (xs : List (Member E)). length xs) joined_is in omega arith) pos l

      -- where each pass that was made was joined, the first pass has seen the whole history, which is that of these passes
      pub ends : v.made ≡ length v.joined → (v.seen ≡ log) × IsOf log v.mine v.joined
      ends all =
          let alone : (n : ℕ) → 0 < n → LiveAt views n → ⊥ = nobody_else all in (
            whole_is (ℕ_discrete r.whole.0 0) (λ z. ⊎_elim z (λ o. alone r.whole.0 (above r.whole.0 z) (r.whole.1.0, r.whole.1.1, o)) r.whole.1.2),
            record {
              first = (r.fits 0 v at (inl refl)).mine;
              members = subst (λ (js : List (Member E)). All (λ m. made_by m.number log ≡ m.mine) js) (sym joined_is) (all_mono (Gone log r.made views) (λ m. made_by m.number log ≡ m.mine) r.joined (λ m g. g.mine) r.members);
              others = λ n pos free. other_is alone n pos (subst (IsNone n) joined_is free) (dec_le n r.made);
            },
          )
        where
          above : (k : ℕ) → k ≢ 0 → 0 < k
          above zero ne = absurd (ne refl)
          above (suc k) ne = omega arith

          whole_is : Dec (r.whole.0 ≡ 0) → (r.whole.0 ≢ 0 → ⊥) → v.seen ≡ log
          whole_is (yes z) never = let e = live_same v r.whole.1.0 (sym at ∙ (ap (get_elem? views) (sym z) ∙ r.whole.1.1)) in ap (λ (x : Known T E). x.seen) e ∙ r.whole.1.3
          whole_is (no z) never = absurd (never z)

          other_is : ((n : ℕ) → 0 < n → LiveAt views n → ⊥) → (n : ℕ) → 0 < n → IsNone n r.joined → Dec (n ≤ r.made) → made_by n log ≡ []
          other_is alone n pos none (yes le) = absurd (⊎_elim (λ l. alone n pos l) (λ y. y none) (r.left n pos le))
          other_is alone n pos none (no gt) = r.unmade n (lt_of_not-le gt)

      module _ (k : ℕ) (w : Known T E) (pos : 0 < k) (there : At views k w) (free : is_over w.hold ≡ false) where
        fewer : List (View T E)
        fewer = set (set views 0 (Live (joint v w))) k Spent

        apart_0 : 0 ≢ k
        apart_0 z = omega arith

        there' : At (set views 0 (Live (joint v w))) k w
        there' = set_else views 0 k (Live (joint v w)) (λ z. omega arith) ∙ there

        fewer_here : At fewer 0 (joint v w)
        unfolding fewer
        fewer_here = set_else (set views 0 (Live (joint v w))) k 0 Spent apart_0 ∙ set_here views 0 (Live (joint v w)) some_view

        fewer_else : (n : ℕ) (u : Known T E) → n ≢ 0 → n ≢ k → At views n u → At fewer n u
        unfolding fewer
        fewer_else n u a b here = set_else (set views 0 (Live (joint v w))) k n Spent b ∙ (set_else views 0 n (Live (joint v w)) a ∙ here)

        fewer_cases : (n : ℕ) (u : Known T E) → At fewer n u → ((n ≡ 0) × (joint v w ≡ u)) ⊎ ((n ≢ 0) × (n ≢ k) × At views n u)
        unfolding fewer
        fewer_cases n u a = ⊎_elim
            (λ z. absurd (gone z.1))
            (λ z. ⊎_elim (λ y. inl (y.0, live_same (joint v w) u (ap some y.1))) (λ y. inr (y.0, z.0, y.1)) (at_set views 0 n (Live (joint v w)) (Live u) z.1))
            (at_set (set views 0 (Live (joint v w))) k n Spent (Live u) a)
          where
            gone : Spent ≡ Live u → ⊥
            gone e = cc

        fewer_count : live_count (tail fewer) + 1 ≡ live_count (tail views)
        unfolding fewer
        fewer_count = let a = count_rest (set views 0 (Live (joint v w))) k (Live w) Spent pos there' in let b = count_front views (Live (joint v w)) in let o = one_live w free in omega arith

        fewer_length : length fewer ≡ length views
        unfolding fewer
        fewer_length = length-set (set views 0 (Live (joint v w))) k Spent ∙ length-set views 0 (Live (joint v w))

        member : Member E
        member = record { number = w.number; mine = w.mine }

        -- the first pass takes another in
        pub joins : Roster done opening log (set (set views 0 (Live (joint v w))) k Spent)
        unfolding fewer member
        joins =
            let old = r.fits 0 v at (inl refl) in
            let other = r.fits k w there (inr free) in
            let still : (n : ℕ) → 0 < n → LiveAt fewer n → (n ≢ k) × LiveAt views n = λ n more l. ⊎_elim (λ z. let e = z.0 in absurd (omega arith)) (λ z. (z.1, (l.0, z.2, l.2))) (fewer_cases n l.0 l.1) in
            record {
              made = r.made;
              joined = r.joined ++ member ∷ [];
              over = r.over;
              front = (joint v w, fewer_here, made_is, ap (λ (js : List (Member E)). js ++ member ∷ []) joined_is, over_is);
              fits = λ n u a cu. ⊎_elim
                  (λ z. subst (λ (x : Known T E). Fits done opening log n x) z.1 (subst (λ (m : ℕ). Fits done opening log m (joint v w)) (sym z.0) record { done_is = old.done_is; opening_is = old.opening_is; number_is = old.number_is; seen = longer_prefix v.seen w.seen log old.seen other.seen; mine = old.mine }))
                  (λ z. r.fits n u z.2 cu)
                  (fewer_cases n u a);
              whole = whole_of (ℕ_discrete r.whole.0 0) (ℕ_discrete r.whole.0 k);
              below = λ n l. below_of n l (ℕ_discrete n 0);
              size = λ z. fewer_length ∙ r.size z;
              count = let a = fewer_count in let b = r.count in omega (arith, length-append r.joined (member ∷ []));
              members = All-push (Gone log r.made fewer) r.joined member
                  (all_mono (Gone log r.made views) (Gone log r.made fewer) r.joined (λ m g. record { after = g.after; within = g.within; mine = g.mine; gone = λ l. g.gone (still m.number g.after l).1 }) r.members)
                  record { after = let n = other.number_is in omega arith; within = let n = other.number_is in let b = r.below k (w, there, free) in omega arith; mine = ap (λ (n : ℕ). made_by n log) other.number_is ∙ other.mine; gone = λ l. (still w.number (let n = other.number_is in omega arith) l).0 other.number_is };
              left = λ n more le. left_of n more le (ℕ_discrete n k);
              unmade = r.unmade;
            }
          where
            whole_of : Dec (r.whole.0 ≡ 0) → Dec (r.whole.0 ≡ k) → (n : ℕ) × ((u : Known T E) × At fewer n u × Counts n u × (u.seen ≡ log))
            whole_of (yes z) d = let e = live_same v r.whole.1.0 (sym at ∙ (ap (get_elem? views) (sym z) ∙ r.whole.1.1)) in
                (0, (joint v w, fewer_here, inl refl, longer_whole v.seen w.seen log (r.fits 0 v at (inl refl)).seen (r.fits k w there (inr free)).seen (inl (ap (λ (x : Known T E). x.seen) e ∙ r.whole.1.3))))
            whole_of (no z) (yes y) = let e = live_same w r.whole.1.0 (sym there ∙ (ap (get_elem? views) (sym y) ∙ r.whole.1.1)) in
                (0, (joint v w, fewer_here, inl refl, longer_whole v.seen w.seen log (r.fits 0 v at (inl refl)).seen (r.fits k w there (inr free)).seen (inr (ap (λ (x : Known T E). x.seen) e ∙ r.whole.1.3))))
            whole_of (no z) (no y) = (r.whole.0, (r.whole.1.0, fewer_else r.whole.0 r.whole.1.0 z y r.whole.1.1, r.whole.1.2, r.whole.1.3))

            below_of : (n : ℕ) → LiveAt fewer n → Dec (n ≡ 0) → n ≤ r.made
            below_of n l (yes z) = omega arith
            below_of n l (no z) = ⊎_elim (λ y. absurd (z y.0)) (λ y. r.below n (l.0, y.2, l.2)) (fewer_cases n l.0 l.1)

            left_of : (n : ℕ) → 0 < n → n ≤ r.made → Dec (n ≡ k) → LiveAt fewer n ⊎ (IsNone n (r.joined ++ member ∷ []) → ⊥)
            left_of n more le (yes z) = inr (λ none. (All-pop (λ m. m.number ≢ n) (r.joined ++ member ∷ []) r.joined (Some member) refl none).1 ((r.fits k w there (inr free)).number_is ∙ sym z))
            left_of n more le (no z) = ⊎_elim (λ l. inl (l.0, fewer_else n l.0 (λ e. omega arith) z l.1, l.2)) (λ y. inr (λ none. y (All-pop (λ m. m.number ≢ n) (r.joined ++ member ∷ []) r.joined (Some member) refl none).0)) (r.left n more le)

module _ {T E : Type 0} (done : ℕ) (opening : T) (first : Known T E) where
  -- the roster of one new pass
  pub starts : first.done ≡ done → first.opening ≡ opening → first.number ≡ 0 → first.made ≡ 0 → first.seen ≡ [] → first.mine ≡ [] → first.joined ≡ [] → is_over first.hold ≡ false → Roster done opening [] (Live first ∷ [])
  starts d o n m s i j free = record {
    made = 0;
    joined = [];
    over = false;
    front = (first, refl, m, j, free);
    fits = fits_of;
    whole = (0, (first, refl, inl refl, s));
    below = λ k l. below_of k l.0 l.1;
    size = λ _. refl;
    count = refl;
    members = λ k x lt. absurd (omega arith);
    left = λ k pos le. absurd (omega arith);
    unmade = λ k lt. refl;
  }
    where
      fits_of : (k : ℕ) (v : Known T E) → At (Live first ∷ []) k v → Counts k v → Fits done opening [] k v
      fits_of zero v at cu = let e = live_same first v at in subst (λ (x : Known T E). Fits done opening [] 0 x) e record { done_is = d; opening_is = o; number_is = n; seen = ([], ap (λ (xs : List (Entered E)). xs ++ []) s); mine = sym i }
      fits_of (suc k) v at cu = absurd (some-ne-none (Live v) (sym at))

      below_of : (k : ℕ) (v : Known T E) → At (Live first ∷ []) k v → k ≤ 0
      below_of zero v at = omega arith
      below_of (suc k) v at = absurd (some-ne-none (Live v) (sym at))
