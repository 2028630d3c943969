-- The first of a group's assertions that fails, by its place and in the walk.
use Rattle.std.proofs.Common.{◌≡◌, suc, Bool, true, false, cond, ◌&&◌, ◌||◌, not, List, [], ◌∷◌, ◌++◌, map, filter, length, Option, Some, None, is_some, refl, sym, ap, ◌∙◌, subst, arith}
use Rattle.std.specs.List.{find, list_any, AllByRecursion}
use Rattle.std.proofs.lemmas.List.{append_assoc, map-append}
use Rattle.book.specs.declared.amount.Assertion.{Assertion}
use Rattle.book.specs.declared.fault.Fault.{Fault}
use Rattle.book.specs.declared.transaction.Posting.{Posting}
use Rattle.book.specs.declared.transaction.Txn.{Txn}
use Rattle.book.specs.SumsBefore.{is_before, placed_from}
use Rattle.entry_balance.specs.Values.{Value}
use Rattle.assertions.specs.Assertions.{is_same, is_other, first_of, found_instead, failure_at, failure_of, first_failure, or_else_fault, held_in}
use Rattle.balancing.specs.Solves.{just_after}
use Rattle.balancing.specs.Faults.{failure_in, fails, failure_if, failure_by}
use Rattle.balancing.proofs.SolvingOrders.{Reorders, nothing, further, swapped, joined, back, filtered, any_same, all_same, by_equal}
use Rattle.balancing.proofs.SolvingSums.{total_same, sums_same}
use Rattle.balancing.proofs.SolvingPlaces.{not_before_itself, not_before_back}
use Rattle.balancing.proofs.SolvingWalk.{Entry}
use Rattle.balancing.proofs.SolvingRising.{Precedes, Rising, all_append, all_by, through_place}
use Rattle.balancing.proofs.SolvingSeen.{held_before}

-- ---- a list of one

abbrev listed : {A : Type 0} → Option A → List A
listed None = []
listed (Some x) = x ∷ []

abbrev head_of : {A : Type 0} → List A → Option A
head_of [] = None
head_of (x ∷ xs) = Some x

length_same : {A : Type 0} {xs ys : List A} → Reorders xs ys → length xs ≡ length ys
length_same nothing = refl
length_same (further x r) = ap suc (length_same r)
length_same (swapped x y xs) = refl
length_same (joined r s) = length_same r ∙ length_same s

none_is : {A : Type 0} (xs : List A) → length xs ≡ 0 → xs ≡ []
none_is [] h = refl
none_is (x ∷ xs) h = absurd (omega arith)

one_is : {A : Type 0} (x : A) (xs : List A) → length xs ≡ 1 → AllByRecursion (λ y. y ≡ x) xs → xs ≡ x ∷ []
one_is x [] h all = absurd (omega arith)
one_is x (y ∷ ys) h all =
    let none : ys ≡ [] = none_is ys (omega arith) in
    λ i. all.0 i ∷ none i

few_same : {A : Type 0} (o : Option A) (xs : List A) → Reorders xs (listed o) → xs ≡ listed o
few_same None xs r = none_is xs (length_same r)
few_same (Some x) xs r = one_is x xs (length_same r) (all_same (λ y. y ≡ x) (back r) (refl, tt))

find_filter : {A : Type 0} (p : A → Bool) (xs : List A) → find p xs ≡ head_of (filter p xs)
find_filter p [] = refl
find_filter {A} p (x ∷ xs) = elim (p x) as (λ b. cond b (Some x) (find p xs) ≡ head_of (cond b (x ∷ filter p xs) (filter p xs))) [ true ↦ refl | false ↦ find_filter p xs ]

head_listed : {A : Type 0} (o : Option A) → head_of (listed o) ≡ o
head_listed None = refl
head_listed (Some x) = refl

-- ---- the first by its place

any_none : (p : Entry → Bool) (xs : List Entry) → AllByRecursion (λ x. p x ≡ false) xs → list_any p xs ≡ false
any_none p [] h = refl
any_none p (x ∷ xs) h = λ i. h.0 i || any_none p xs h.1 i

any_there : (p : Entry → Bool) (pre : List Entry) (x : Entry) (post : List Entry) → p x ≡ true → list_any p (pre ++ x ∷ post) ≡ true
any_there p [] x post h = ap (λ b. b || list_any p post) h
any_there p (y ∷ pre) x post h = ap (λ b. p y || b) (any_there p pre x post h) ∙ or_true (p y)
  where
    or_true : (b : Bool) → (b || true) ≡ true
    or_true true = refl
    or_true false = refl

and_false : (b : Bool) → (b && false) ≡ false
and_false true = refl
and_false false = refl

module _ (f : Entry → Bool) where
  abbrev leads : List Entry → Entry → Bool
  leads es e = f e && not (list_any (λ o. f o && is_before o.0 e.0) es)

  not_led : (pre : List Entry) (x : Entry) (post : List Entry) → f x ≡ true → (ys : List Entry) → AllByRecursion (Precedes x) ys → filter (leads (pre ++ x ∷ post)) ys ≡ []
  not_led pre x post h [] all = refl
  not_led pre x post h (y ∷ ys) all =
      let earlier : (f x && is_before x.0 y.0) ≡ true = λ i. h i && all.0 i in
      let no : leads (pre ++ x ∷ post) y ≡ false = ap (λ b. f y && not b) (any_there (λ o. f o && is_before o.0 y.0) pre x post earlier) ∙ and_false (f y) in
      ap (λ (b : Bool). cond b (y ∷ filter (leads (pre ++ x ∷ post)) ys) (filter (leads (pre ++ x ∷ post)) ys)) no ∙ not_led pre x post h ys all.1

  front_rises : (pre : List Entry) (x : Entry) (post : List Entry) → Rising (pre ++ x ∷ post) → AllByRecursion (Precedes x) post
  front_rises [] x post up = up.0
  front_rises (y ∷ pre) x post up = front_rises pre x post up.1

  none_earlier : (pre : List Entry) (x : Entry) (post : List Entry) → Rising (pre ++ x ∷ post) → AllByRecursion (λ e. f e ≡ false) pre → list_any (λ o. f o && is_before o.0 x.0) (pre ++ x ∷ post) ≡ false
  none_earlier pre x post up none =
      let q : Entry → Bool = λ o. f o && is_before o.0 x.0 in
      any_none q (pre ++ x ∷ post)
      (all_append (λ o. q o ≡ false) pre (x ∷ post)
      (all_by (λ e. f e ≡ false) (λ o. q o ≡ false) (λ o h. ap (λ b. b && is_before o.0 x.0) h) pre none) (
        ap (λ b. f x && b) (not_before_itself x.0) ∙ and_false (f x),
        all_by (Precedes x) (λ o. q o ≡ false) (λ o h. ap (λ b. f o && b) (not_before_back x.0 o.0 h) ∙ and_false (f o)) post (front_rises pre x post up),
      ))

  leads_walk : (pre es : List Entry) → Rising (pre ++ es) → AllByRecursion (λ e. f e ≡ false) pre → filter (leads (pre ++ es)) es ≡ listed (find f es)
  leads_walk pre [] up none = refl
  leads_walk pre (x ∷ es) up none =
      elim (f x) as (λ b. f x ≡ b → filter (leads (pre ++ x ∷ es)) (x ∷ es) ≡ listed (cond b (Some x) (find f es))) [
        | true ↦ λ h.
            let is : leads (pre ++ x ∷ es) x ≡ true = λ i. h i && not (none_earlier pre x es up none i) in
            ap (λ (b : Bool). cond b (x ∷ filter (leads (pre ++ x ∷ es)) es) (filter (leads (pre ++ x ∷ es)) es)) is
            ∙ ap (λ (ys : List Entry). x ∷ ys) (not_led pre x es h es (front_rises pre x es up))
        | false ↦ λ h.
            let not_it : leads (pre ++ x ∷ es) x ≡ false = ap (λ b. b && not (list_any (λ o. f o && is_before o.0 x.0) (pre ++ x ∷ es))) h in
            let next : (pre ++ x ∷ []) ++ es ≡ pre ++ x ∷ es = append_assoc pre (x ∷ []) es in
            ap (λ (b : Bool). cond b (x ∷ filter (leads (pre ++ x ∷ es)) es) (filter (leads (pre ++ x ∷ es)) es)) not_it
            ∙ ap (λ (ys : List Entry). filter (leads ys) es) (sym next)
            ∙ leads_walk (pre ++ x ∷ []) es (subst Rising (sym next) up) (all_append (λ e. f e ≡ false) pre (x ∷ []) none (h, tt))
      ] refl

  leads_same : {xs ys : List Entry} → Reorders xs ys → (e : Entry) → leads xs e ≡ leads ys e
  leads_same r e = ap (λ b. f e && not b) (any_same (λ o. f o && is_before o.0 e.0) r)

  -- in any order the one that passes at the first place is the first one of the walk
  pub first_by_place : (ts ws : List Entry) → Reorders ts ws → Rising ws → find (leads ts) ts ≡ find f ws
  first_by_place ts ws r up =
      let here : filter (leads ws) ws ≡ listed (find f ws) = leads_walk [] ws up tt in
      let few : filter (leads ws) ts ≡ listed (find f ws) = few_same (find f ws) (filter (leads ws) ts) (joined (filtered (leads ws) r) (by_equal here)) in
      (λ i. find (λ (e : Entry). leads_same r e i) ts) ∙ find_filter (leads ws) ts ∙ ap (λ (es : List Entry). head_of es) few ∙ head_listed (find f ws)

-- ---- what is found

found_same : (w : Assertion) {xs ys : List Value} → Reorders xs ys → found_instead w xs ≡ found_instead w ys
found_same w {xs} {ys} r =
    λ i. cond {A = Option Value} (is_same (total_same w.amount.symbol r i) w.amount.value)
    (cond {A = Option Value} w.only (first_of (filter (is_other w.amount.symbol) (sums_same r i))) None)
    (Some (w.amount.symbol, total_same w.amount.symbol r i))

module _ (book : List Txn) (walk : List Entry) (r : Reorders (placed_from 0 book) walk) (up : Rising walk) where
  failure_there : (front : List Entry) (e : Entry) (rest : List Entry) → walk ≡ front ++ e ∷ rest → (o : Option Assertion) → failure_of (map (λ (e : Entry). e.1) front ++ e.1 ∷ []) e.1 o ≡ failure_by book e.0 e.1 o
  failure_there front e rest is None = refl
  failure_there front e rest is (Some w) =
      let through : filter (λ (x : Entry). is_before x.0 (just_after e.0)) walk ≡ front ++ e ∷ [] = ap (filter (λ (x : Entry). is_before x.0 (just_after e.0))) is ∙ through_place front e rest (subst Rising is up) in
      ap (λ (ps : List Posting). failure_at e.1.line w (found_instead w (held_in w.below e.1.account ps))) (sym (map-append (λ (e : Entry). e.1) front (e ∷ [])))
      ∙ ap (failure_at e.1.line w) (sym (found_same w (held_before book walk (front ++ e ∷ []) (just_after e.0) e.1.account w.below r through)))

  pub failure_found : (front es rest : List Entry) → walk ≡ front ++ (es ++ rest) → first_failure (map (λ (e : Entry). e.1) front) (map (λ (e : Entry). e.1) es) ≡ failure_if book (find (fails book) es)
  failure_found front [] rest is = refl
  failure_found front (e ∷ es) rest is =
      let seen : List Posting = map (λ (e : Entry). e.1) front in
      let next : map (λ (e : Entry). e.1) (front ++ e ∷ []) ≡ seen ++ e.1 ∷ [] = map-append (λ (e : Entry). e.1) front (e ∷ []) in
      let later : first_failure (seen ++ e.1 ∷ []) (map (λ (e : Entry). e.1) es) ≡ failure_if book (find (fails book) es) =
      ap (λ (ps : List Posting). first_failure ps (map (λ (e : Entry). e.1) es)) (sym next)
      ∙ failure_found (front ++ e ∷ []) es rest (is ∙ sym (append_assoc front (e ∷ []) (es ++ rest))) in
      (λ i. or_else_fault (failure_there front e (es ++ rest) is e.1.wanted i) (later i)) ∙ by (failure_in book e) refl
    where
      by : (o : Option Fault) → failure_in book e ≡ o → or_else_fault (failure_in book e) (failure_if book (find (fails book) es)) ≡ failure_if book (find (fails book) (e ∷ es))
      by None h =
          ap (λ (o : Option Fault). or_else_fault o (failure_if book (find (fails book) es))) h
          ∙ ap (λ (o : Option Fault). failure_if book (cond (is_some o) (Some e) (find (fails book) es))) (sym h)
      by (Some x) h =
          ap (λ (o : Option Fault). or_else_fault o (failure_if book (find (fails book) es))) h ∙ sym h
          ∙ ap (λ (o : Option Fault). failure_if book (cond (is_some o) (Some e) (find (fails book) es))) (sym h)
