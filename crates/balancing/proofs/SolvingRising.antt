-- Group after group the places rise; so what comes before a place is a front of the walk.
use Rattle.std.proofs.Common.{◌≡◌, ℕ, suc, ◌<◌, ◌≤◌, ◌+◌, Bool, true, false, cond, ◌&&◌, not, eqb, List, [], ◌∷◌, ◌++◌, filter, length, Option, Some, None, is_some, is_none, refl, sym, ap, ◌∙◌, arith, inl, inr}
use Rattle.std.specs.List.{list_any, slice_get, AllByRecursion}
use Rattle.std.proofs.lemmas.Bool.{false≢true}
use Rattle.std.proofs.lemmas.Bool.Decides.{Decides-eqb}
use Rattle.std.proofs.lemmas.List.{append-nil}
use Rattle.std.proofs.lemmas.List.Elements.{filter-append}
use Rattle.entry_balance.proofs.Named.{left_true, right_true}
use Rattle.book.specs.declared.transaction.Posting.{Posting}
use Rattle.book.specs.declared.transaction.Txn.{Txn}
use Rattle.book.specs.SumsBefore.{is_before, is_assigned, number_in, placed_in}
use Rattle.balancing.specs.Groups.{Group, group_cmp, day_of}
use Rattle.balancing.specs.Parts.{is_found, is_chosen}
use Rattle.balancing.specs.Solves.{just_after}
use Rattle.balancing.proofs.SolvingPlaces.{earlier_day, earlier_txn, earlier_posting, not_before_itself, not_before_back, before_after, itself_after, not_after}
use Rattle.balancing.proofs.SolvingGroups.{less_parts, Ascends}
use Rattle.balancing.specs.declared.groups.Part.TheVariants.{All, ButFound, Found}
use Rattle.std.specs.declared.cmp.Ordering.TheVariants.{Less}
use Rattle.balancing.proofs.SolvingWalk.{Entry, placed_part, placed_on_by, placed_on, placed_group, walk_of}

-- ---- lists that rise

abbrev pub Precedes : Entry → Entry → Type 0
Precedes e x = is_before e.0 x.0 ≡ true

abbrev pub Rising : List Entry → Type 0
Rising [] = Unit {0}
Rising (e ∷ es) = AllByRecursion (Precedes e) es × Rising es

pub all_append : {A : Type 0} (P : A → Type 0) (xs ys : List A) → AllByRecursion P xs → AllByRecursion P ys → AllByRecursion P (xs ++ ys)
all_append P [] ys h k = k
all_append P (x ∷ xs) ys h k = (h.0, all_append P xs ys h.1 k)

pub all_left : {A : Type 0} (P : A → Type 0) (xs ys : List A) → AllByRecursion P (xs ++ ys) → AllByRecursion P xs
all_left P [] ys h = tt
all_left P (x ∷ xs) ys h = (h.0, all_left P xs ys h.1)

pub all_right : {A : Type 0} (P : A → Type 0) (xs ys : List A) → AllByRecursion P (xs ++ ys) → AllByRecursion P ys
all_right P [] ys h = h
all_right P (x ∷ xs) ys h = all_right P xs ys h.1

pub all_by : {A : Type 0} (P Q : A → Type 0) → ((x : A) → P x → Q x) → (xs : List A) → AllByRecursion P xs → AllByRecursion Q xs
all_by P Q f [] h = tt
all_by P Q f (x ∷ xs) h = (f x h.0, all_by P Q f xs h.1)

pub rising_append : (xs ys : List Entry) → Rising xs → Rising ys → AllByRecursion (λ e. AllByRecursion (Precedes e) ys) xs → Rising (xs ++ ys)
rising_append [] ys up more all = more
rising_append (x ∷ xs) ys up more all = (all_append (Precedes x) xs ys up.0 all.0, rising_append xs ys up.1 more all.1)

-- ---- one group

-- an entry is of a group, and its number is in a range
record IsWithin (on n from to : ℕ) (e : Entry) : Type 0 where
  pub day : e.0.day ≡ on
  pub txn : e.0.txn ≡ n
  pub low : from ≤ e.0.posting
  pub high : e.0.posting < to

within_precedes : (day n a b d : ℕ) (e x : Entry) → IsWithin day n a b e → IsWithin day n b d x → is_before e.0 x.0 ≡ true
within_precedes day n a b d e x h k = earlier_posting e.0 x.0 (h.day ∙ sym k.day) (h.txn ∙ sym k.txn) (omega (arith, h.high, k.low))

all_precede : (day n a b d : ℕ) (xs ys : List Entry) → AllByRecursion (IsWithin day n a b) xs → AllByRecursion (IsWithin day n b d) ys → AllByRecursion (λ e. AllByRecursion (Precedes e) ys) xs
all_precede day n a b d xs ys h k = all_by (IsWithin day n a b) (λ e. AllByRecursion (Precedes e) ys) (λ e w. all_by (IsWithin day n b d) (Precedes e) (λ x v. within_precedes day n a b d e x w v) ys k) xs h

module _ (day n off : ℕ) (t : Txn) (p : Posting → Bool) (of_day : (q : Posting) → p q ≡ true → day_of t q ≡ day) (of_number : (k : ℕ) (q : Posting) → p q ≡ true → number_in t k q ≡ off + k) where
  abbrev chosen : ℕ → List Posting → List Entry
  chosen k ps = filter (λ (e : Entry). p e.1) (placed_in t n k ps)

  abbrev entry_at : ℕ → Posting → Entry
  entry_at k q = (record { day = day_of t q; txn = n; posting = number_in t k q }, q)

  entry_within : (from to k : ℕ) (q : Posting) → p q ≡ true → from ≤ off + k → off + k < to → IsWithin day n from to (entry_at k q)
  entry_within from to k q e low high =
      let is = of_number k q e in
      record { day = of_day q e; txn = refl; low = omega (arith, is); high = omega (arith, is) }

  chosen_within : (from to k : ℕ) (ps : List Posting) → from ≤ off + k → off + (k + length ps) ≤ to → AllByRecursion (IsWithin day n from to) (chosen k ps)
  chosen_within from to k [] low high = tt
  chosen_within from to k (q ∷ ps) low high =
      let rest = chosen_within from to (suc k) ps (omega arith) (omega arith) in
      elim (p q) as (λ b. p q ≡ b → AllByRecursion (IsWithin day n from to) (cond b (entry_at k q ∷ chosen (suc k) ps) (chosen (suc k) ps))) [
        | true ↦ λ e. (entry_within from to k q e low (omega arith), rest)
        | false ↦ λ e. rest
      ] refl

  chosen_rises : (k : ℕ) (ps : List Posting) → Rising (chosen k ps)
  chosen_rises k [] = tt
  chosen_rises k (q ∷ ps) =
      let rest = chosen_within (off + suc k) (off + (suc k + length ps)) (suc k) ps (omega arith) (omega arith) in
      elim (p q) as (λ b. p q ≡ b → Rising (cond b (entry_at k q ∷ chosen (suc k) ps) (chosen (suc k) ps))) [
        | true ↦ λ e. (
          let here = entry_within (off + k) (off + suc k) k q e (omega arith) (omega arith) in
              all_by (IsWithin day n (off + suc k) (off + (suc k + length ps))) (Precedes (entry_at k q)) (λ x v. within_precedes day n (off + k) (off + suc k) (off + (suc k + length ps)) (entry_at k q) x here v) (chosen (suc k) ps) rest,
          chosen_rises (suc k) ps,
        )
        | false ↦ λ e. chosen_rises (suc k) ps
      ] refl

not_some : {A : Type 0} (o : Option A) → not (is_some o) ≡ is_none o
not_some None = refl
not_some (Some x) = refl

and_assoc : (a b c : Bool) → ((a && b) && c) ≡ (a && (b && c))
and_assoc true b c = refl
and_assoc false b c = refl

number_by : (t : Txn) (k : ℕ) (q : Posting) (a f : Bool) → list_any is_assigned t.postings ≡ a → is_found q ≡ f → number_in t k q ≡ cond (a && f) (length t.postings + k) k
number_by t k q a f e g =
    (λ i. cond ((e i && q.filled) && not_some q.wanted i) (length t.postings + k) k)
    ∙ ap (λ b. cond b (length t.postings + k) k) (and_assoc a q.filled (is_none q.wanted))
    ∙ ap (λ b. cond (a && b) (length t.postings + k) k) g

is_not : (b : Bool) → not b ≡ true → b ≡ false
is_not true h = absurd (false≢true h)
is_not false h = refl

same_day : (a b : ℕ) (c : Bool) → (eqb a b && c) ≡ true → a ≡ b
same_day a b c h = (Decides-eqb a b).0 (left_true (eqb a b) c h)

module _ (day n : ℕ) (t : Txn) where
  abbrev size : ℕ
  size = length t.postings

  module _ (e : list_any is_assigned t.postings ≡ true) where
    but_number : (k : ℕ) (q : Posting) → is_chosen ButFound day t q ≡ true → number_in t k q ≡ 0 + k
    but_number k q h = number_by t k q true false e (is_not (is_found q) (right_true (eqb (day_of t q) day) (not (is_found q)) h)) ∙ omega arith

    found_number : (k : ℕ) (q : Posting) → is_chosen Found day t q ≡ true → number_in t k q ≡ size + k
    found_number k q h = number_by t k q true true e (right_true (eqb (day_of t q) day) (is_found q) h)

    but_within : AllByRecursion (IsWithin day n 0 size) (placed_part ButFound day n t)
    but_within = chosen_within day n 0 t (is_chosen ButFound day t) (λ q h. same_day (day_of t q) day _ h) but_number 0 size 0 t.postings (omega arith) (omega arith)

    found_within : AllByRecursion (IsWithin day n size (size + size)) (placed_part Found day n t)
    found_within = chosen_within day n size t (is_chosen Found day t) (λ q h. same_day (day_of t q) day _ h) found_number size (size + size) 0 t.postings (omega arith) (omega arith)

    split_rises : Rising (placed_part ButFound day n t ++ placed_part Found day n t)
    split_rises =
        rising_append (placed_part ButFound day n t) (placed_part Found day n t)
        (chosen_rises day n 0 t (is_chosen ButFound day t) (λ q h. same_day (day_of t q) day _ h) but_number 0 t.postings)
        (chosen_rises day n size t (is_chosen Found day t) (λ q h. same_day (day_of t q) day _ h) found_number 0 t.postings)
        (all_precede day n 0 size (size + size) _ _ but_within found_within)

    split_within : AllByRecursion (IsWithin day n 0 (size + size)) (placed_part ButFound day n t ++ placed_part Found day n t)
    split_within =
        all_append (IsWithin day n 0 (size + size)) (placed_part ButFound day n t) (placed_part Found day n t)
        (all_by (IsWithin day n 0 size) (IsWithin day n 0 (size + size)) (λ x w. record { day = w.day; txn = w.txn; low = w.low; high = omega (arith, w.high) }) (placed_part ButFound day n t) but_within)
        (all_by (IsWithin day n size (size + size)) (IsWithin day n 0 (size + size)) (λ x w. record { day = w.day; txn = w.txn; low = omega arith; high = w.high }) (placed_part Found day n t) found_within)

  module _ (e : list_any is_assigned t.postings ≡ false) where
    own_number : (k : ℕ) (q : Posting) → is_chosen All day t q ≡ true → number_in t k q ≡ 0 + k
    own_number k q h = number_by t k q false (is_found q) e refl ∙ omega arith

    whole_rises : Rising (placed_part All day n t)
    whole_rises = chosen_rises day n 0 t (is_chosen All day t) (λ q h. same_day (day_of t q) day _ h) own_number 0 t.postings

    whole_within : AllByRecursion (IsWithin day n 0 (size + size)) (placed_part All day n t)
    whole_within = chosen_within day n 0 t (is_chosen All day t) (λ q h. same_day (day_of t q) day _ h) own_number 0 (size + size) 0 t.postings (omega arith) (omega arith)

  on_rises : Rising (placed_on day n t)
  on_rises = elim (list_any is_assigned t.postings) as (λ b. list_any is_assigned t.postings ≡ b → Rising (placed_on_by b day n t)) [ true ↦ split_rises | false ↦ whole_rises ] refl

  on_within : AllByRecursion (IsWithin day n 0 (size + size)) (placed_on day n t)
  on_within = elim (list_any is_assigned t.postings) as (λ b. list_any is_assigned t.postings ≡ b → AllByRecursion (IsWithin day n 0 (size + size)) (placed_on_by b day n t)) [ true ↦ split_within | false ↦ whole_within ] refl

-- ---- group after group

pub record IsOfGroup (g : Group) (e : Entry) : Type 0 where
  pub day : e.0.day ≡ g.0
  pub txn : e.0.txn ≡ g.1

pub group_rises : (g : Group) (o : Option Txn) → Rising (placed_group g o)
group_rises g None = tt
group_rises g (Some t) = on_rises g.0 g.1 t

pub group_of_entries : (g : Group) (o : Option Txn) → AllByRecursion (IsOfGroup g) (placed_group g o)
group_of_entries g None = tt
group_of_entries g (Some t) = all_by (IsWithin g.0 g.1 0 (length t.postings + length t.postings)) (IsOfGroup g) (λ x w. record { day = w.day; txn = w.txn }) (placed_on g.0 g.1 t) (on_within g.0 g.1 t)

groups_precede : (g h : Group) → group_cmp g h ≡ Less → (e x : Entry) → IsOfGroup g e → IsOfGroup h x → is_before e.0 x.0 ≡ true
groups_precede g h less e x of_g of_h =
    elim (less_parts g h less) [
      | inl k ↦ earlier_day e.0 x.0 (omega (arith, of_g.day, of_h.day))
      | inr k ↦ earlier_txn e.0 x.0 (of_g.day ∙ k.0 ∙ sym of_h.day) (omega (arith, k.1, of_g.txn, of_h.txn))
    ]

precedes_walk : (book : List Txn) (g : Group) (gs : List Group) (e : Entry) → IsOfGroup g e → AllByRecursion (λ h. group_cmp g h ≡ Less) gs → AllByRecursion (Precedes e) (walk_of book gs)
precedes_walk book g [] e is all = tt
precedes_walk book g (h ∷ gs) e is all =
    all_append (Precedes e) (placed_group h (slice_get book h.1)) (walk_of book gs)
    (all_by (IsOfGroup h) (Precedes e) (λ x of_h. groups_precede g h all.0 e x is of_h) (placed_group h (slice_get book h.1)) (group_of_entries h (slice_get book h.1)))
    (precedes_walk book g gs e is all.1)

-- the places of the walk rise
pub walk_rises : (book : List Txn) (gs : List Group) → Ascends gs → Rising (walk_of book gs)
walk_rises book [] up = tt
walk_rises book (g ∷ gs) up =
    rising_append (placed_group g (slice_get book g.1)) (walk_of book gs) (group_rises g (slice_get book g.1)) (walk_rises book gs up.1)
    (all_by (IsOfGroup g) (λ e. AllByRecursion (Precedes e) (walk_of book gs)) (λ e is. precedes_walk book g gs e is up.0) (placed_group g (slice_get book g.1)) (group_of_entries g (slice_get book g.1)))

-- ---- what comes before a place

pub all_kept : (p : Entry → Bool) (xs : List Entry) → AllByRecursion (λ x. p x ≡ true) xs → filter p xs ≡ xs
all_kept p [] h = refl
all_kept p (x ∷ xs) h = λ i. cond (h.0 i) (x ∷ all_kept p xs h.1 i) (all_kept p xs h.1 i)

pub none_kept : (p : Entry → Bool) (xs : List Entry) → AllByRecursion (λ x. p x ≡ false) xs → filter p xs ≡ []
none_kept p [] h = refl
none_kept p (x ∷ xs) h = λ i. cond (h.0 i) (x ∷ none_kept p xs h.1 i) (none_kept p xs h.1 i)

all_before : (pre : List Entry) (e : Entry) (post : List Entry) → Rising (pre ++ e ∷ post) → AllByRecursion (λ x. is_before x.0 e.0 ≡ true) pre
all_before [] e post up = tt
all_before (x ∷ pre) e post up = ((all_right (Precedes x) pre (e ∷ post) up.0).0, all_before pre e post up.1)

all_after : (pre : List Entry) (e : Entry) (post : List Entry) → Rising (pre ++ e ∷ post) → AllByRecursion (Precedes e) post
all_after [] e post up = up.0
all_after (x ∷ pre) e post up = all_after pre e post up.1

pub before_place : (pre : List Entry) (e : Entry) (post : List Entry) → Rising (pre ++ e ∷ post) → filter (λ (x : Entry). is_before x.0 e.0) (pre ++ e ∷ post) ≡ pre
before_place pre e post up =
    let p : Entry → Bool = λ x. is_before x.0 e.0 in
    filter-append p pre (e ∷ post)
    ∙ ap (λ (xs : List Entry). xs ++ filter p (e ∷ post)) (all_kept p pre (all_before pre e post up))
    ∙ ap (λ (xs : List Entry). pre ++ xs) (none_kept p (e ∷ post) (not_before_itself e.0, all_by (Precedes e) (λ x. is_before x.0 e.0 ≡ false) (λ x h. not_before_back e.0 x.0 h) post (all_after pre e post up)))
    ∙ append-nil pre

pub through_place : (pre : List Entry) (e : Entry) (post : List Entry) → Rising (pre ++ e ∷ post) → filter (λ (x : Entry). is_before x.0 (just_after e.0)) (pre ++ e ∷ post) ≡ pre ++ e ∷ []
through_place pre e post up =
    let p : Entry → Bool = λ x. is_before x.0 (just_after e.0) in
    filter-append p pre (e ∷ post)
    ∙ ap (λ (xs : List Entry). xs ++ filter p (e ∷ post)) (all_kept p pre (all_by (λ x. is_before x.0 e.0 ≡ true) (λ x. p x ≡ true) (λ x h. before_after x.0 e.0 h) pre (all_before pre e post up)))
    ∙ ap (λ (b : Bool). pre ++ cond b (e ∷ filter p post) (filter p post)) (itself_after e.0)
    ∙ ap (λ (xs : List Entry). pre ++ e ∷ xs) (none_kept p post (all_by (Precedes e) (λ x. p x ≡ false) (λ x h. not_after e.0 x.0 h) post (all_after pre e post up)))
