-- What is kept of a book's days, with a transaction more, and with another form of one.
use Rattle.std.proofs.Common.{◌≡◌, ℕ, zero, suc, ◌+◌, ◌-◌, ◌<◌, ◌≤◌, List, [], ◌∷◌, ◌++◌, length, get_or, take, drop, set, Option, Some, None, refl, sym, ap, subst, ◌∙◌, arith}
use Rattle.std.specs.Prelude.{slice_get}
use Rattle.std.specs.List.{flat_map, fold}
use Rattle.std.proofs.lemmas.Grind.{flat_map-append}
use Rattle.std.proofs.lemmas.List.{drop_more, take_more}
use Rattle.hl_time.specs.declared.day.Day.{Day}
use Rattle.book.specs.declared.transaction.Posting.{Posting}
use Rattle.book.specs.declared.transaction.Txn.{Txn}
use Rattle.asked_days.specs.declared.counts.DayCount.{DayCount}
use Rattle.asked_days.specs.Asked.{IsKept, days_of, days_of_posting, how_often}
use Rattle.asked_days.specs.Counts.{count_at, counted, found_at, uncounted}
use Rattle.asked_days.proofs.Counting.{counts-fewer, counts-more, how-append, somes-fewer, somes-more}

-- ---- loops over postings

fold-append : {A B : Type 0} (f : B → A → B) (b : B) (xs ys : List A) → fold f b (xs ++ ys) ≡ fold f (fold f b xs) ys
fold-append f b [] ys = refl
fold-append f b (x ∷ xs) ys = fold-append f (f b x) xs ys

pub postings-more : (f : List DayCount → Day → List DayCount) (t : Txn) (ps : List Posting) (i : ℕ) (p : Posting) (old new all : List DayCount) → i < length ps → p ≡ get_or ps i p → new ≡ fold f old (days_of_posting t p) → fold f old (flat_map (days_of_posting t) (drop i ps)) ≡ all → fold f new (flat_map (days_of_posting t) (drop (i + 1) ps)) ≡ all
postings-more f t ps i p old new all lt e is h =
    ap (λ (ws : List DayCount). fold f ws (flat_map (days_of_posting t) (drop (i + 1) ps))) is
    ∙ sym (fold-append f old (days_of_posting t p) (flat_map (days_of_posting t) (drop (i + 1) ps)))
    ∙ sym (ap (λ (l : List Posting). fold f old (flat_map (days_of_posting t) l)) (drop_more ps i p lt ∙ ap (λ (y : Posting). y ∷ drop (i + 1) ps) (sym e)))
    ∙ h

-- ---- what is kept

pub kept-none : (kept : List DayCount) → kept ≡ [] → IsKept [] kept
kept-none kept e = record {
  counts = λ d. ap (λ (ws : List DayCount). count_at d ws) e;
  some = λ d c h. absurd (differs c (sym (ap (λ (ws : List DayCount). found_at d ws) e) ∙ h));
}
  where
    differs : (c : DayCount) → ◌≡◌ {A = Option DayCount} None (Some c) → ⊥
    differs c e = cc

pub kept-more : (days more : List Day) (old new : List DayCount) → IsKept days old → new ≡ fold counted old more → IsKept (days ++ more) new
kept-more days more old new h e = record {
  counts = λ d.
      let is : count_at d new ≡ count_at d old + how_often d more = ap (λ (ws : List DayCount). count_at d ws) e ∙ counts-more d old more in
      let was : count_at d old ≡ how_often d days = h.counts d in
      let all : how_often d (days ++ more) ≡ how_often d days + how_often d more = how-append d days more in
      omega arith;
  some = λ d c k. somes-more old more h.some d c (sym (ap (λ (ws : List DayCount). found_at d ws) e) ∙ k);
}

-- a transaction behind the book
pub kept-behind : (book : List Txn) (t : Txn) (old new : List DayCount) → IsKept (flat_map days_of book) old → new ≡ fold counted old (days_of t) → IsKept (flat_map days_of (book ++ t ∷ [])) new
kept-behind book t old new h e =
    subst (λ (ds : List Day). IsKept ds new) (sym (flat_map-append days_of book (t ∷ []) ∙ ap (λ (l : List Day). flat_map days_of book ++ l) (append-none (days_of t))))
    (kept-more (flat_map days_of book) (days_of t) old new h e)
  where
    append-none : (xs : List Day) → xs ++ [] ≡ xs
    append-none [] = refl
    append-none (x ∷ xs) = ap (λ (l : List Day). x ∷ l) (append-none xs)

pub kept-further : (txns : List Txn) (i : ℕ) (t : Txn) (old new : List DayCount) → i < length txns → t ≡ get_or txns i t → IsKept (flat_map days_of (take i txns)) old → new ≡ fold counted old (days_of t) → IsKept (flat_map days_of (take (i + 1) txns)) new
kept-further txns i t old new lt e h is =
    subst (λ (l : List Txn). IsKept (flat_map days_of l) new) (sym (take_more txns i t lt ∙ ap (λ (y : Txn). take i txns ++ y ∷ []) (sym e)))
    (kept-behind (take i txns) t old new h is)

-- another form of a transaction
some-same : (a b : Txn) → Some a ≡ Some b → a ≡ b
some-same a b e = cc

none-there : (t : Txn) → ◌≡◌ {A = Option Txn} None (Some t) → ⊥
none-there t e = cc

how-changed : (d : ℕ) (book : List Txn) (n : ℕ) (old new : Txn) → slice_get book n ≡ Some old → how_often d (flat_map days_of (set book n new)) + how_often d (days_of old) ≡ how_often d (flat_map days_of book) + how_often d (days_of new)
how-changed d [] n old new h = absurd (none-there old h)
how-changed d (t ∷ book) zero old new h =
    let own : how_often d (days_of t) ≡ how_often d (days_of old) = ap (λ (u : Txn). how_often d (days_of u)) (some-same t old h) in
    let was : how_often d (days_of t ++ flat_map days_of book) ≡ how_often d (days_of t) + how_often d (flat_map days_of book) = how-append d (days_of t) (flat_map days_of book) in
    let is : how_often d (days_of new ++ flat_map days_of book) ≡ how_often d (days_of new) + how_often d (flat_map days_of book) = how-append d (days_of new) (flat_map days_of book) in
    omega arith
how-changed d (t ∷ book) (suc n) old new h =
    let rest : how_often d (flat_map days_of (set book n new)) + how_often d (days_of old) ≡ how_often d (flat_map days_of book) + how_often d (days_of new) = how-changed d book n old new h in
    let was : how_often d (days_of t ++ flat_map days_of book) ≡ how_often d (days_of t) + how_often d (flat_map days_of book) = how-append d (days_of t) (flat_map days_of book) in
    let is : how_often d (days_of t ++ flat_map days_of (set book n new)) ≡ how_often d (days_of t) + how_often d (flat_map days_of (set book n new)) = how-append d (days_of t) (flat_map days_of (set book n new)) in
    omega arith

own-few : (d : ℕ) (book : List Txn) (n : ℕ) (old : Txn) → slice_get book n ≡ Some old → how_often d (days_of old) ≤ how_often d (flat_map days_of book)
own-few d [] n old h = absurd (none-there old h)
own-few d (t ∷ book) zero old h =
    let own : how_often d (days_of t) ≡ how_often d (days_of old) = ap (λ (u : Txn). how_often d (days_of u)) (some-same t old h) in
    let was : how_often d (days_of t ++ flat_map days_of book) ≡ how_often d (days_of t) + how_often d (flat_map days_of book) = how-append d (days_of t) (flat_map days_of book) in
    omega arith
own-few d (t ∷ book) (suc n) old h =
    let rest : how_often d (days_of old) ≤ how_often d (flat_map days_of book) = own-few d book n old h in
    let was : how_often d (days_of t ++ flat_map days_of book) ≡ how_often d (days_of t) + how_often d (flat_map days_of book) = how-append d (days_of t) (flat_map days_of book) in
    omega arith

pub kept-changed : (book : List Txn) (n : ℕ) (old new : Txn) (kept fewer more : List DayCount) → IsKept (flat_map days_of book) kept → slice_get book n ≡ Some old → fewer ≡ fold uncounted kept (days_of old) → more ≡ fold counted fewer (days_of new) → IsKept (flat_map days_of (set book n new)) more
kept-changed book n old new kept fewer more h found e f = record {
  counts = λ d.
      let less : count_at d fewer ≡ count_at d kept - how_often d (days_of old) = ap (λ (ws : List DayCount). count_at d ws) e ∙ counts-fewer d kept (days_of old) in
      let is : count_at d more ≡ count_at d fewer + how_often d (days_of new) = ap (λ (ws : List DayCount). count_at d ws) f ∙ counts-more d fewer (days_of new) in
      let was : count_at d kept ≡ how_often d (flat_map days_of book) = h.counts d in
      let few : how_often d (days_of old) ≤ how_often d (flat_map days_of book) = own-few d book n old found in
      let changed : how_often d (flat_map days_of (set book n new)) + how_often d (days_of old) ≡ how_often d (flat_map days_of book) + how_often d (days_of new) = how-changed d book n old new found in
      omega arith;
  some = λ d c k.
      somes-more fewer (days_of new)
      (λ d c k. somes-fewer kept (days_of old) h.some d c (sym (ap (λ (ws : List DayCount). found_at d ws) e) ∙ k))
      d c (sym (ap (λ (ws : List DayCount). found_at d ws) f) ∙ k);
}
