-- Import states by their names.
use Rattle.std.proofs.Common.{◌≡◌, ◌∙◌, ℕ, zero, suc, ◌+◌, ◌-◌, ◌<◌, ◌≤◌, Bool, true, false, cond, not, ◌&&◌, ◌||◌, List, [], ◌∷◌, ◌++◌, length, get_or, set, drop, Option, Some, None, is_some, refl, sym, ap, subst, arith}
use Rattle.std.specs.Prelude.{Vec}
use Rattle.std.specs.Global.{Global}
use Rattle.std.specs.declared.cmp.Ordering.TheVariants.{Less, Equal, Greater}
use Rattle.std.specs.List.{list_any}
use Rattle.std.specs.Map.{lookup}
use Rattle.std.specs.BTreeMap.{insert_entry, is_at}
use Rattle.std.specs.Ordering.{nat_cmp, is_eq, match_ordering, eq_by_cmp}
use Rattle.std.specs.Cmp.Lexicographic.{slice_cmp, nat_list_cmp_total}
use Rattle.std.specs.FinMap.Entries.{by_order, find-put, put}
use Rattle.std.specs.Str.{bytes_eq}
use Rattle.std.proofs.lemmas.Bool.{false≢true}
use Rattle.std.proofs.lemmas.Cmp.{nat_list_eq_equiv}
use Rattle.std.proofs.lemmas.Map.Text.{is_eq-slice_cmp}
use Rattle.std.proofs.lemmas.Slice.Eq.{bytes_eq-Decides}
use Rattle.std.proofs.lemmas.List.{drop_more, drop_all}
use Rattle.hl_base.specs.declared.change.Latest.{Latest}
use Rattle.text_store.specs.Image.{same_name, with_mark, have_own_names}
use Rattle.text_store.specs.Names.{places_in, place_at, first_place, ArePlaced}
use Rattle.text_store.proofs.Growing.{none_some}

-- a map's places by the bytes of their names
pub found_at : (es : List (Vec ℕ Global × ℕ)) (name : List ℕ) → lookup (is_at (λ (k : Vec ℕ Global). slice_cmp nat_cmp name k.items)) es ≡ place_at name (places_in es)
found_at [] name = refl
found_at (e ∷ es) name = ap (λ (o : Option ℕ). cond (is_eq (slice_cmp nat_cmp name e.0.items)) (Some e.1) o) (found_at es name)

pub put_in : (es : List (Vec ℕ Global × ℕ)) (k : Vec ℕ Global) (place : ℕ)
    → places_in (insert_entry (λ (x y : Vec ℕ Global). slice_cmp nat_cmp x.items y.items) es k place) ≡ put (slice_cmp nat_cmp) k.items place (places_in es)
put_in [] k place = refl
put_in (e ∷ es) k place =
    elim (slice_cmp nat_cmp k.items e.0.items) as (λ o. places_in (match_ordering o ((k, place) ∷ e ∷ es) ((e.0, place) ∷ es) (e ∷ insert_entry (λ (x y : Vec ℕ Global). slice_cmp nat_cmp x.items y.items) es k place))
    ≡ by_order o ((k.items, place) ∷ places_in (e ∷ es)) ((e.0.items, place) ∷ places_in es) ((e.0.items, e.1) ∷ put (slice_cmp nat_cmp) k.items place (places_in es))) [
      | Less ↦ refl
      | Equal ↦ refl
      | Greater ↦ ap (λ t. (e.0.items, e.1) ∷ t) (put_in es k place)
    ]

tie : (a b : List ℕ) → eq_by_cmp (slice_cmp nat_cmp) a b ≡ bytes_eq b a
tie a b = is_eq-slice_cmp a b ∙ nat_list_eq_equiv.symm a b

place_put : (name other : List ℕ) (place : ℕ) (places : List (List ℕ × ℕ)) → place_at name (put (slice_cmp nat_cmp) other place places) ≡ cond (bytes_eq other name) (Some place) (place_at name places)
place_put name other place places =
    find-put (slice_cmp nat_cmp) nat_list_cmp_total name other place places ∙ ap (λ (b : Bool). cond b (Some place) (place_at name places)) (tie name other)

same_bytes : (a b : List ℕ) → bytes_eq a b ≡ true → a ≡ b
same_bytes a b is = (bytes_eq-Decides a b).0 is

-- a name stands among states where it has a place
any_place : (state : Latest) (number : ℕ) (states : List Latest) → list_any (same_name state) states ≡ is_some (first_place state.name number states)
any_place state number [] = refl
any_place state number (s ∷ states) =
    ap (λ (b : Bool). b || list_any (same_name state) states) (nat_list_eq_equiv.symm state.name s.name) ∙ by_name (bytes_eq s.name state.name) (any_place state (number + 1) states)
  where
    by_name : (b : Bool) → list_any (same_name state) states ≡ is_some (first_place state.name (number + 1) states)
        → (b || list_any (same_name state) states) ≡ is_some (cond b (Some number) (first_place state.name (number + 1) states))
    by_name true rest = refl
    by_name false rest = rest

not_own : (states : List Latest) (at : ℕ) → have_own_names (drop at states) ≡ false → have_own_names states ≡ false
not_own states zero is = is
not_own [] (suc at) is = is
not_own (s ∷ states) (suc at) is = ap (λ (b : Bool). not (list_any (same_name s) states) && b) (not_own states at is) ∙ neither (not (list_any (same_name s) states))
  where
    neither : (b : Bool) → (b && false) ≡ false
    neither true = refl
    neither false = refl

-- one state more, from the last to the first
module _ (states : List Latest) (at next : ℕ) (state : Latest) (places : List (List ℕ × ℕ)) (inside : at < length states) (is : state ≡ get_or states at state) (follows : next ≡ at + 1)
    (own : have_own_names (drop next states) ≡ true) (placed : ArePlaced (drop next states) next places) where
  here : drop at states ≡ state ∷ drop next states
  here = drop_more states at state inside ∙ (λ i. sym is i ∷ drop (sym follows i) states)

  stands : list_any (same_name state) (drop next states) ≡ is_some (place_at state.name places)
  stands = any_place state next (drop next states) ∙ ap is_some (sym (placed state.name))

  pub named_again : is_some (place_at state.name places) ≡ true → have_own_names states ≡ false
  named_again found = not_own states at (ap have_own_names here ∙ ap (λ (b : Bool). not b && have_own_names (drop next states)) (stands ∙ found))

  pub own_more : is_some (place_at state.name places) ≡ false → have_own_names (drop at states) ≡ true
  own_more other = ap have_own_names here ∙ ap (λ (b : Bool). not b && have_own_names (drop next states)) (stands ∙ other) ∙ own

  pub placed_more : (new : List (List ℕ × ℕ)) → new ≡ put (slice_cmp nat_cmp) state.name at places → ArePlaced (drop at states) at new
  placed_more new made name =
      ap (place_at name) made ∙ place_put name state.name at places
      ∙ ap (cond (bytes_eq state.name name) (Some at)) (placed name ∙ ap (λ (n : ℕ). first_place name n (drop next states)) follows)
      ∙ sym (ap (first_place name at) here)

none_parts : (b : Bool) (number : ℕ) (o : Option ℕ) → cond b (Some number) o ≡ None → (b ≡ false) × (o ≡ None)
none_parts true number o is = none_some number (sym is)
none_parts false number o is = (refl, is)

swapped : (b t : Bool) (x y o : Option ℕ) → (b ≡ true → t ≡ true → ⊥) → cond b x (cond t y o) ≡ cond t y (cond b x o)
swapped true true x y o apart = absurd (apart refl refl)
swapped true false x y o apart = refl
swapped false t x y o apart = refl

-- a state behind others, of which none has its name
first_push : (name : List ℕ) (number : ℕ) (states : List Latest) (state : Latest) → first_place state.name number states ≡ None
    → first_place name number (states ++ state ∷ []) ≡ cond (bytes_eq state.name name) (Some (number + length states)) (first_place name number states)
first_push name number [] state none = ap (λ (n : ℕ). cond (bytes_eq state.name name) (Some n) None) (let e : number ≡ number + 0 = omega arith in e)
first_push name number (s ∷ states) state none =
    let parts = none_parts (bytes_eq s.name state.name) number (first_place state.name (number + 1) states) none in
    ap (cond (bytes_eq s.name name) (Some number)) (first_push name (number + 1) states state parts.1)
    ∙ swapped (bytes_eq s.name name) (bytes_eq state.name name) (Some number) (Some (number + 1 + length states)) (first_place name (number + 1) states)
    (λ one other. false≢true (sym parts.0 ∙ (bytes_eq-Decides s.name state.name).1 (same_bytes s.name name one ∙ sym (same_bytes state.name name other))))
    ∙ ap (λ (n : ℕ). cond (bytes_eq state.name name) (Some n) (cond (bytes_eq s.name name) (Some number) (first_place name (number + 1) states)))
    (let e : number + 1 + length states ≡ number + suc (length states) = omega arith in e)

pub placed_push : (states after : List Latest) (state : Latest) (places new : List (List ℕ × ℕ)) (count : ℕ) → ArePlaced states 0 places → place_at state.name places ≡ None
    → after ≡ states ++ state ∷ [] → count ≡ length states → new ≡ put (slice_cmp nat_cmp) state.name count places → ArePlaced after 0 new
placed_push states after state places new count placed other is counted made name =
    ap (place_at name) made ∙ place_put name state.name count places
    ∙ (λ i. cond (bytes_eq state.name name) (Some (last i)) (placed name i))
    ∙ sym (first_push name 0 states state (sym (placed state.name) ∙ other))
    ∙ sym (ap (first_place name 0) is)
  where
    last : count ≡ 0 + length states
    last = omega (arith, counted)

pub mark_behind : (state : Latest) (number : ℕ) (states : List Latest) → first_place state.name number states ≡ None → with_mark state states ≡ states ++ state ∷ []
mark_behind state number [] none = refl
mark_behind state number (s ∷ states) none =
    let parts = none_parts (bytes_eq s.name state.name) number (first_place state.name (number + 1) states) none in
    ap (λ (b : Bool). cond b (state ∷ states) (s ∷ with_mark state states)) parts.0 ∙ ap (λ (l : List Latest). s ∷ l) (mark_behind state (number + 1) states parts.1)

-- a state in the place of the first of its name
pub record Replaces (state : Latest) (number place : ℕ) (states : List Latest) : Type 0 where
  pub behind : number ≤ place
  pub inside : place < number + length states
  pub written : set states (place - number) state ≡ with_mark state states
  pub same : (name : List ℕ) (n : ℕ) → first_place name n (with_mark state states) ≡ first_place name n states

some_same : (x y : ℕ) → Some x ≡ Some y → x ≡ y
some_same x y is = let e : x ≡ y = cc in e

pub replaces : (state : Latest) (number place : ℕ) (states : List Latest) → first_place state.name number states ≡ Some place → Replaces state number place states
replaces state number place [] is = none_some place is
replaces state number place (s ∷ states) is = by_name (bytes_eq s.name state.name) refl is (λ h. replaces state (number + 1) place states h)
  where
    by_name : (b : Bool) → bytes_eq s.name state.name ≡ b → cond b (Some number) (first_place state.name (number + 1) states) ≡ Some place
        → (first_place state.name (number + 1) states ≡ Some place → Replaces state (number + 1) place states) → Replaces state number place (s ∷ states)
    by_name true same is rest =
        let here : number ≡ place = some_same number place is in
        record {
          behind = omega (arith, here);
          inside = omega (arith, here);
          written =
              ap (λ (k : ℕ). set (s ∷ states) k state) (let e : place - number ≡ 0 = omega (arith, here) in e)
              ∙ sym (ap (λ (b : Bool). cond b (state ∷ states) (s ∷ with_mark state states)) same);
          same = λ name n.
              ap (λ (b : Bool). first_place name n (cond b (state ∷ states) (s ∷ with_mark state states))) same
              ∙ ap (λ (l : List ℕ). cond (bytes_eq l name) (Some n) (first_place name (n + 1) states)) (sym (same_bytes s.name state.name same));
        }
    by_name false same is rest =
        let on = rest is in
        record {
          behind = omega (arith, on.behind);
          inside = omega (arith, on.inside);
          written =
              ap (λ (k : ℕ). set (s ∷ states) k state) (let e : place - number ≡ suc (place - (number + 1)) = omega (arith, on.behind) in e)
              ∙ ap (λ (l : List Latest). s ∷ l) on.written
              ∙ sym (ap (λ (b : Bool). cond b (state ∷ states) (s ∷ with_mark state states)) same);
          same = λ name n.
              ap (λ (b : Bool). first_place name n (cond b (state ∷ states) (s ∷ with_mark state states))) same
              ∙ ap (cond (bytes_eq s.name name) (Some n)) (on.same name (n + 1));
        }

-- the same states and places
pub placed_same : (states after : List Latest) (places new : List (List ℕ × ℕ)) → after ≡ states → new ≡ places → ArePlaced states 0 places → ArePlaced after 0 new
placed_same states after places new same_states same_places placed name =
    ap (place_at name) same_places ∙ placed name ∙ sym (ap (first_place name 0) same_states)

-- a state written where its name has a place
module _ (states : List Latest) (state : Latest) (places : List (List ℕ × ℕ)) (place : ℕ) (placed : ArePlaced states 0 places) (found : place_at state.name places ≡ Some place) where
  there : Replaces state 0 place states
  there = replaces state 0 place states (sym (placed state.name) ∙ found)

  pub place_inside : place < length states
  place_inside = omega (arith, there.inside)

  pub put_in_place : (after : List Latest) → after ≡ set states place state → (after ≡ with_mark state states) × ArePlaced after 0 places
  put_in_place after is =
      let written : after ≡ with_mark state states =
      is ∙ ap (λ (k : ℕ). set states k state) (let e : place ≡ place - 0 = omega arith in e) ∙ there.written in
      (written, λ name. placed name ∙ sym (there.same name 0) ∙ sym (ap (first_place name 0) written))

-- no state yet, from the last on
pub none_placed : (states : List Latest) (at : ℕ) (entries : List (Vec ℕ Global × ℕ)) → at ≡ length states → entries ≡ []
    → (at ≤ length states) × (have_own_names (drop at states) ≡ true) × ArePlaced (drop at states) at (places_in entries)
none_placed states at entries end none =
    let rest : drop at states ≡ [] = drop_all at states (omega (arith, end)) in
    (omega (arith, end), ap have_own_names rest, λ name. ap (λ (es : List (Vec ℕ Global × ℕ)). place_at name (places_in es)) none ∙ sym (ap (first_place name at) rest))

-- all of them
pub all_placed : (states : List Latest) (at : ℕ) (places : List (List ℕ × ℕ)) → at ≤ 0 → have_own_names (drop at states) ≡ true → ArePlaced (drop at states) at places
    → (have_own_names states ≡ true) × ArePlaced states 0 places
all_placed states at places first own placed =
    let zero_at : at ≡ 0 = omega (arith, first) in
    subst (λ (n : ℕ). (have_own_names (drop n states) ≡ true) × ArePlaced (drop n states) n places) zero_at (own, placed)
