-- How many postings are assignments, with some more and with another form of a transaction.
use Rattle.std.proofs.Common.{◌≡◌, ℕ, zero, suc, ◌+◌, ◌-◌, ◌<◌, ◌≤◌, Bool, true, false, cond, ◌||◌, List, [], ◌∷◌, ◌++◌, length, length-append, append-nil, filter, get_or, take, set, Option, Some, None, refl, sym, ap, ◌∙◌, arith}
use Rattle.std.specs.Prelude.{nat_lt, slice_get}
use Rattle.std.specs.List.{list_any}
use Rattle.std.proofs.lemmas.Bool.Decides.{nat_tests}
use Rattle.std.proofs.lemmas.Grind.{flat_map-append}
use Rattle.std.proofs.lemmas.List.{take_more}
use Rattle.std.proofs.lemmas.List.Elements.{filter-append}
use Rattle.book.specs.Postings.{postings_of}
use Rattle.book.specs.SumsBefore.{is_assigned}
use Rattle.book.specs.declared.transaction.Posting.{Posting}
use Rattle.book.specs.declared.transaction.Txn.{Txn}
use Rattle.asked_days.specs.Asked.{assigned_among}

assigned-append : (xs ys : List Posting) → assigned_among (xs ++ ys) ≡ assigned_among xs + assigned_among ys
assigned-append xs ys = ap length (filter-append is_assigned xs ys) ∙ length-append (filter is_assigned xs) (filter is_assigned ys)

-- ---- one posting

pub assigned-one : (p : Posting) → is_assigned p ≡ true → assigned_among (p ∷ []) ≡ 1
assigned-one p e = ap (λ (b : Bool). length (cond {A = List Posting} b (p ∷ []) [])) e

pub assigned-none : (p : Posting) → is_assigned p ≡ false → assigned_among (p ∷ []) ≡ 0
assigned-none p e = ap (λ (b : Bool). length (cond {A = List Posting} b (p ∷ []) [])) e

pub plus-none : (count : ℕ) (p : Posting) → is_assigned p ≡ false → count ≡ count + assigned_among (p ∷ [])
plus-none count p e = let none : assigned_among (p ∷ []) ≡ 0 = assigned-none p e in omega arith

pub posting-further : (ps : List Posting) (i : ℕ) (p : Posting) (old new : ℕ) → i < length ps → p ≡ get_or ps i p → old ≡ assigned_among (take i ps) → new ≡ old + assigned_among (p ∷ []) → new ≡ assigned_among (take (i + 1) ps)
posting-further ps i p old new lt e h is =
    is ∙ ap (λ (k : ℕ). k + assigned_among (p ∷ [])) h ∙ sym (assigned-append (take i ps) (p ∷ []))
    ∙ sym (ap assigned_among (take_more ps i p lt ∙ ap (λ (y : Posting). take i ps ++ y ∷ []) (sym e)))

-- ---- one transaction

-- behind a book
pub assigned-behind : (book : List Txn) (t : Txn) (old new : ℕ) → old ≡ assigned_among (postings_of book) → new ≡ old + assigned_among t.postings → new ≡ assigned_among (postings_of (book ++ t ∷ []))
assigned-behind book t old new h is =
    is ∙ ap (λ (k : ℕ). k + assigned_among t.postings) h ∙ sym (assigned-append (postings_of book) t.postings)
    ∙ sym (ap assigned_among (flat_map-append (λ (u : Txn). u.postings) book (t ∷ []) ∙ ap (λ (ps : List Posting). postings_of book ++ ps) (append-nil t.postings)))

pub txn-further : (txns : List Txn) (i : ℕ) (t : Txn) (old new : ℕ) → i < length txns → t ≡ get_or txns i t → old ≡ assigned_among (postings_of (take i txns)) → new ≡ old + assigned_among t.postings → new ≡ assigned_among (postings_of (take (i + 1) txns))
txn-further txns i t old new lt e h is =
    assigned-behind (take i txns) t old new h is
    ∙ sym (ap (λ (ts : List Txn). assigned_among (postings_of ts)) (take_more txns i t lt ∙ ap (λ (y : Txn). take i txns ++ y ∷ []) (sym e)))

some-same : (a b : Txn) → Some a ≡ Some b → a ≡ b
some-same a b e = cc

none-there : (t : Txn) → ◌≡◌ {A = Option Txn} None (Some t) → ⊥
none-there t e = cc

-- in another form
changed : (book : List Txn) (n : ℕ) (old new : Txn) → slice_get book n ≡ Some old → assigned_among (postings_of (set book n new)) + assigned_among old.postings ≡ assigned_among (postings_of book) + assigned_among new.postings
changed [] n old new h = absurd (none-there old h)
changed (t ∷ book) zero old new h =
    let own : assigned_among t.postings ≡ assigned_among old.postings = ap (λ (u : Txn). assigned_among u.postings) (some-same t old h) in
    let was : assigned_among (t.postings ++ postings_of book) ≡ assigned_among t.postings + assigned_among (postings_of book) = assigned-append t.postings (postings_of book) in
    let is : assigned_among (new.postings ++ postings_of book) ≡ assigned_among new.postings + assigned_among (postings_of book) = assigned-append new.postings (postings_of book) in
    omega arith
changed (t ∷ book) (suc n) old new h =
    let rest : assigned_among (postings_of (set book n new)) + assigned_among old.postings ≡ assigned_among (postings_of book) + assigned_among new.postings = changed book n old new h in
    let was : assigned_among (t.postings ++ postings_of book) ≡ assigned_among t.postings + assigned_among (postings_of book) = assigned-append t.postings (postings_of book) in
    let is : assigned_among (t.postings ++ postings_of (set book n new)) ≡ assigned_among t.postings + assigned_among (postings_of (set book n new)) = assigned-append t.postings (postings_of (set book n new)) in
    omega arith

own-few : (book : List Txn) (n : ℕ) (old : Txn) → slice_get book n ≡ Some old → assigned_among old.postings ≤ assigned_among (postings_of book)
own-few [] n old h = absurd (none-there old h)
own-few (t ∷ book) zero old h =
    let own : assigned_among t.postings ≡ assigned_among old.postings = ap (λ (u : Txn). assigned_among u.postings) (some-same t old h) in
    let was : assigned_among (t.postings ++ postings_of book) ≡ assigned_among t.postings + assigned_among (postings_of book) = assigned-append t.postings (postings_of book) in
    omega arith
own-few (t ∷ book) (suc n) old h =
    let rest : assigned_among old.postings ≤ assigned_among (postings_of book) = own-few book n old h in
    let was : assigned_among (t.postings ++ postings_of book) ≡ assigned_among t.postings + assigned_among (postings_of book) = assigned-append t.postings (postings_of book) in
    omega arith

pub assigned-changed : (book : List Txn) (n : ℕ) (old new : Txn) (kept fewer more : ℕ) → kept ≡ assigned_among (postings_of book) → slice_get book n ≡ Some old → fewer ≡ kept - assigned_among old.postings → more ≡ fewer + assigned_among new.postings → more ≡ assigned_among (postings_of (set book n new))
assigned-changed book n old new kept fewer more h found e f =
    let few : assigned_among old.postings ≤ assigned_among (postings_of book) = own-few book n old found in
    let is : assigned_among (postings_of (set book n new)) + assigned_among old.postings ≡ assigned_among (postings_of book) + assigned_among new.postings = changed book n old new found in
    omega arith

-- ---- whether there is one

-- a count that isn't 0 says that one is there
pub some-assigned : (ps : List Posting) → nat_lt 0 (assigned_among ps) ≡ list_any is_assigned ps
some-assigned [] = refl
some-assigned (p ∷ ps) =
    elim (is_assigned p) as (λ b. nat_lt 0 (length (cond b (p ∷ filter is_assigned ps) (filter is_assigned ps))) ≡ (b || list_any is_assigned ps)) [
      | true ↦ above (length (filter is_assigned ps))
      | false ↦ some-assigned ps
    ]
  where
    above : (n : ℕ) → nat_lt 0 (suc n) ≡ true
    above n = grind (arith, nat_tests)
