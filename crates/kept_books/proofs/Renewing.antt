-- Transactions with others in the place of those from a number on.
use Rattle.std.proofs.Common.{Bor, ◌≡◌, ℕ, zero, suc, ◌+◌, ◌<◌, ◌≤◌, min, ◌==◌, nat_lt, Bool, true, ◌&&◌, cond, not, List, [], ◌∷◌, ◌++◌, drop, filter, get_or, length, map, set, slice_get, take, Option, Some, None, Result, Ok, Err, IfOk, refl, sym, ap, subst, ◌∙◌, arith, length-append}
use Rattle.std.proofs.lemmas.Bool.{false≢true, eq-eqb, ne_eqb}
use Rattle.std.proofs.lemmas.List.{append-nil, length-drop, length-map, length-take-le, take_all, take_more}
use Rattle.std.proofs.lemmas.Option.{none-some, same_Some}
use Rattle.hl_base.specs.declared.fault.Memory.{Memory}
use Rattle.book.specs.Standing.{Numbered, all_greater, with_number, without_number}
use Rattle.book.specs.declared.transaction.Txn.{Txn}
use Rattle.reached_entries.specs.Reached.{AreSame}
use Rattle.reached_walk.proofs.Entries.{got-inside}
use Rattle.watchers.proofs.Tests.{and-both}
use Rattle.watchers.specs.Watches.{AreOf, Stands, numbered_from}
use Rattle.watchers.specs.declared.watch.Watch.{Watch}
use Rattle.walked_edits.proofs.Begins.{lt_false, lt_true}
use Rattle.kept_books.specs.Renewing.{LeavesWatches, PutsWatches, RenewsWatches, first_of, forms_of, put_at, renewed}
use Rattle.kept_books.specs.Rewriting.{At, Behind, MayRewrite, Rewrite, rewritten}

-- ---- what is lent

abbrev pub lent_of : List (Bor Txn) → List Txn
lent_of txns = map (λ (t : Bor Txn). t.now) txns

pub lent_got : (txns : List (Bor Txn)) (i : ℕ) (t : Bor Txn) → get_or (lent_of txns) i t.now ≡ (get_or txns i t).now
lent_got [] i t = refl
lent_got (u ∷ txns) zero t = refl
lent_got (u ∷ txns) (suc i) t = lent_got txns i t

pub lent_size : (txns : List (Bor Txn)) → length (lent_of txns) ≡ length txns
lent_size txns = length-map txns (λ (t : Bor Txn). t.now)

-- one more of them
pub lent_next : (txns : List (Bor Txn)) (i : ℕ) (t : Bor Txn) → i < length txns → t ≡ get_or txns i t → take (i + 1) (lent_of txns) ≡ take i (lent_of txns) ++ t.now ∷ []
lent_next txns i t lt is =
    take_more (lent_of txns) i t.now (omega (arith, lt, lent_size txns))
    ∙ ap (λ (x : Txn). take i (lent_of txns) ++ x ∷ []) (lent_got txns i t ∙ sym (ap (λ (x : Bor Txn). x.now) is))

pub lent_front : (txns : List (Bor Txn)) (i : ℕ) → i < length txns → length (take i (lent_of txns)) ≡ i
lent_front txns i lt = length-take-le i (lent_of txns) (omega (arith, lt, lent_size txns))

pub lent_whole : (txns : List (Bor Txn)) (i : ℕ) → length txns ≤ i → take i (lent_of txns) ≡ lent_of txns
lent_whole txns i le = take_all i (lent_of txns) (omega (arith, le, lent_size txns))

-- ---- lists

abbrev nothing : List Txn
nothing = []

pub drop_none : (n : ℕ) → drop n nothing ≡ nothing
drop_none zero = refl
drop_none (suc n) = refl

pub got_none : (xs : List Txn) (n : ℕ) → slice_get xs n ≡ None → length xs ≤ n
got_none [] n h = omega arith
got_none (x ∷ xs) zero h = absurd (none-some x (sym h))
got_none (x ∷ xs) (suc n) h = let rest = got_none xs n h in omega (arith, rest)

pub reach_renewed : (first : ℕ) (written forms : List Txn) → first ≤ length written → first + length forms ≤ length (renewed first written forms)
reach_renewed zero written forms le = omega (arith, length-append forms (drop (length forms) written))
reach_renewed (suc first) [] forms le = absurd (omega (arith, le))
reach_renewed (suc first) (t ∷ written) forms le = let rest = reach_renewed first written forms (omega (arith, le)) in omega (arith, rest)

pub size_renewed : (first : ℕ) (written forms : List Txn) → length written ≤ length (renewed first written forms)
size_renewed zero written forms = omega (arith, length-append forms (drop (length forms) written), length-drop (length forms) written)
size_renewed (suc first) [] forms = omega arith
size_renewed (suc first) (t ∷ written) forms = let rest = size_renewed first written forms in omega (arith, rest)

-- ---- the transaction under a number

get_run : (forms rest : List Txn) (k : ℕ) → k < length forms → slice_get (forms ++ rest) k ≡ slice_get forms k
get_run [] rest k lt = absurd (omega (arith, lt))
get_run (f ∷ forms) rest zero lt = refl
get_run (f ∷ forms) rest (suc k) lt = get_run forms rest k (omega (arith, lt))

get_past_run : (forms written : List Txn) (n : ℕ) → length forms ≤ n → slice_get (forms ++ drop (length forms) written) n ≡ slice_get written n
get_past_run [] written n le = refl
get_past_run (f ∷ forms) written zero le = absurd (omega (arith, le))
get_past_run (f ∷ forms) [] (suc n) le = ap (λ (ys : List Txn). slice_get (forms ++ ys) n) (sym (drop_none (length forms))) ∙ get_past_run forms [] n (omega (arith, le))
get_past_run (f ∷ forms) (w ∷ written) (suc n) le = get_past_run forms written n (omega (arith, le))

pub get_form : (first : ℕ) (written forms : List Txn) (k n : ℕ) → first ≤ length written → n ≡ first + k → k < length forms → slice_get (renewed first written forms) n ≡ slice_get forms k
get_form zero written forms k n le is lt =
    let same : n ≡ k = omega (arith, is) in
    ap (slice_get (forms ++ drop (length forms) written)) same ∙ get_run forms (drop (length forms) written) k lt
get_form (suc first) [] forms k n le is lt = absurd (omega (arith, le))
get_form (suc first) (t ∷ written) forms k n le is lt =
    let same : n ≡ suc (first + k) = omega (arith, is) in
    ap (slice_get (t ∷ renewed first written forms)) same ∙ get_form first written forms k (first + k) (omega (arith, le)) refl lt

pub get_front : (first : ℕ) (written forms : List Txn) (n : ℕ) → n < first → first ≤ length written → slice_get (renewed first written forms) n ≡ slice_get written n
get_front zero written forms n lt le = absurd (omega (arith, lt))
get_front (suc first) [] forms n lt le = absurd (omega (arith, le))
get_front (suc first) (t ∷ written) forms zero lt le = refl
get_front (suc first) (t ∷ written) forms (suc n) lt le = get_front first written forms n (omega (arith, lt)) (omega (arith, le))

pub get_rest : (first : ℕ) (written forms : List Txn) (n : ℕ) → first + length forms ≤ n → first ≤ length written → slice_get (renewed first written forms) n ≡ slice_get written n
get_rest zero written forms n past le = get_past_run forms written n (omega (arith, past))
get_rest (suc first) [] forms n past le = absurd (omega (arith, le))
get_rest (suc first) (t ∷ written) forms zero past le = absurd (omega (arith, past))
get_rest (suc first) (t ∷ written) forms (suc n) past le = get_rest first written forms n (omega (arith, past)) (omega (arith, le))

-- ---- all others are the same

same_all : (p : ℕ → Bool) (k : ℕ) (ts : List Txn) → AreSame p k ts ts
same_all p k [] = tt
same_all p k (t ∷ ts) = ((λ off. refl), same_all p (suc k) ts)

same_run : (p : ℕ → Bool) (forms written : List Txn) (k : ℕ) → ((n : ℕ) → k ≤ n → n < k + length forms → p n ≡ true) → AreSame p k written (forms ++ drop (length forms) written)
same_run p [] written k on = same_all p k written
same_run p (f ∷ forms) [] k on = (
  on k (omega arith) (omega arith),
  subst (λ (ys : List Txn). AreSame p (suc k) [] (forms ++ ys)) (drop_none (length forms)) (same_run p forms [] (suc k) (λ n low high. on n (omega (arith, low)) (omega (arith, high)))),
)
same_run p (f ∷ forms) (w ∷ written) k on = (
  λ off. absurd (false≢true (sym off ∙ on k (omega arith) (omega arith))),
  same_run p forms written (suc k) (λ n low high. on n (omega (arith, low)) (omega (arith, high))),
)

pub same_renewed : (p : ℕ → Bool) (first : ℕ) (written forms : List Txn) (k : ℕ) → first ≤ length written → ((n : ℕ) → first + k ≤ n → n < first + k + length forms → p n ≡ true) → AreSame p k written (renewed first written forms)
same_renewed p zero written forms k le on = same_run p forms written k (λ n low high. on n (omega (arith, low)) (omega (arith, high)))
same_renewed p (suc first) [] forms k le on = absurd (omega (arith, le))
same_renewed p (suc first) (t ∷ written) forms k le on = (
  λ off. refl,
  same_renewed p first written forms (suc k) (omega (arith, le)) (λ n low high. on n (omega (arith, low)) (omega (arith, high))),
)

-- ---- what an edit makes

behind_all : (written more : List Txn) → renewed (length written) written more ≡ written ++ more
behind_all [] more = ap (λ (ys : List Txn). more ++ ys) (drop_none (length more)) ∙ append-nil more
behind_all (t ∷ written) more = ap (λ (ys : List Txn). t ∷ ys) (behind_all written more)

in_place : (n : ℕ) (written : List Txn) (txn : Txn) → n < length written → renewed n written (txn ∷ []) ≡ set written n txn
in_place n [] txn lt = absurd (omega (arith, lt))
in_place zero (t ∷ written) txn lt = refl
in_place (suc n) (t ∷ written) txn lt = ap (λ (ys : List Txn). t ∷ ys) (in_place n written txn (omega (arith, lt)))

pub renewed_is : (written : List Txn) (r : Rewrite) → MayRewrite written r → renewed (first_of written r) written (forms_of r) ≡ rewritten written r
renewed_is written (Behind more) may = behind_all written more
renewed_is written (At number txn) may = in_place number written txn may

pub first_inside : (written : List Txn) (r : Rewrite) → MayRewrite written r → first_of written r ≤ length written
first_inside written (Behind more) may = omega arith
first_inside written (At number txn) may = omega (arith, may)

pub forms_some : (written : List Txn) (r : Rewrite) → MayRewrite written r → 0 < length (forms_of r)
forms_some written (Behind more) may = may
forms_some written (At number txn) may = omega arith

-- one of these stands alone where it has the place of another
pub alone_of : (written : List Txn) (r : Rewrite) → first_of written r < length written → length (forms_of r) ≡ 1
alone_of written (Behind more) lt = absurd (omega (arith, lt))
alone_of written (At number txn) lt = refl

pub min_is : (a b : ℕ) → a ≤ b → min a b ≡ a
min_is a b le = omega (arith, le)

-- ---- watches

head_greater : (n : ℕ) (ts : List Txn) (k : ℕ) → n < k → all_greater n (numbered_from k ts) ≡ true
head_greater n [] k lt = refl
head_greater n (t ∷ ts) k lt = and-both (nat_lt n k) (all_greater n (numbered_from (suc k) ts)) (lt_true n k lt) (head_greater n ts (suc k) (omega (arith, lt)))

put_first : (n : ℕ) (t : Txn) (ts : List Txn) (k : ℕ) → n < k → with_number n t (numbered_from k ts) ≡ (n, t) ∷ numbered_from k ts
put_first n t [] k lt = refl
put_first n t (u ∷ ts) k lt =
    let rest = numbered_from (suc k) ts in
    ap (λ (b : Bool). cond b ((n, t) ∷ (k, u) ∷ rest) ((k, u) ∷ with_number n t rest)) (head_greater n (u ∷ ts) k lt)

all_left : (n : ℕ) (ts : List Txn) (k : ℕ) → n < k → without_number n (numbered_from k ts) ≡ numbered_from k ts
all_left n [] k lt = refl
all_left n (t ∷ ts) k lt =
    let rest = without_number n (numbered_from (suc k) ts) in
    ap (λ (b : Bool). cond (not b) ((k, t) ∷ rest) rest) (ne_eqb k n (λ same. omega (arith, same, lt)))
    ∙ ap (λ (ys : Numbered Txn). (k, t) ∷ ys) (all_left n ts (suc k) (omega (arith, lt)))

in_its_place : (texts : List Txn) (n k j : ℕ) (t : Txn) → n ≡ k + j → j < length texts → with_number n t (without_number n (numbered_from k texts)) ≡ numbered_from k (put_at texts j t)
in_its_place [] n k j t is lt = absurd (omega (arith, lt))
in_its_place (u ∷ us) n k zero t is lt =
    let same : k ≡ n = omega (arith, is) in
    let rest = without_number n (numbered_from (suc k) us) in
    ap (λ (b : Bool). with_number n t (cond (not b) ((k, u) ∷ rest) rest)) (eq-eqb k n same)
    ∙ ap (with_number n t) (all_left n us (suc k) (omega (arith, same)))
    ∙ put_first n t us (suc k) (omega (arith, same))
    ∙ ap (λ (m : ℕ). (m, t) ∷ numbered_from (suc k) us) (sym same)
in_its_place (u ∷ us) n k (suc j) t is lt =
    let rest = without_number n (numbered_from (suc k) us) in
    ap (λ (b : Bool). with_number n t (cond (not b) ((k, u) ∷ rest) rest)) (ne_eqb k n (λ same. omega (arith, same, is)))
    ∙ ap (λ (b : Bool). cond (b && all_greater n rest) ((n, t) ∷ (k, u) ∷ rest) ((k, u) ∷ with_number n t rest)) (lt_false n k (omega (arith, is)))
    ∙ ap (λ (ys : Numbered Txn). (k, u) ∷ ys) (in_its_place us n (suc k) j t (omega (arith, is)) (omega (arith, lt)))

behind_them : (texts : List Txn) (n k j : ℕ) (t : Txn) → n ≡ k + j → length texts ≡ j → with_number n t (numbered_from k texts) ≡ numbered_from k (put_at texts j t)
behind_them [] n k j t is end = let same : n ≡ k = omega (arith, is, end) in ap (λ (m : ℕ). (m, t) ∷ []) same
behind_them (u ∷ us) n k zero t is end = absurd (omega (arith, end))
behind_them (u ∷ us) n k (suc j) t is end =
    let rest = numbered_from (suc k) us in
    ap (λ (b : Bool). cond (b && all_greater n rest) ((n, t) ∷ (k, u) ∷ rest) ((k, u) ∷ with_number n t rest)) (lt_false n k (omega (arith, is)))
    ∙ ap (λ (ys : Numbered Txn). (k, u) ∷ ys) (behind_them us n (suc k) j t (omega (arith, is)) (omega (arith, end)))

none_there : (n : ℕ) (ts : List Txn) (k : ℕ) → n < k → filter (λ (e : ℕ × Txn). e.0 == n) (numbered_from k ts) ≡ []
none_there n [] k lt = refl
none_there n (t ∷ ts) k lt =
    let rest = filter (λ (e : ℕ × Txn). e.0 == n) (numbered_from (suc k) ts) in
    ap (λ (b : Bool). cond b ((k, t) ∷ rest) rest) (ne_eqb k n (λ same. omega (arith, same, lt)))
    ∙ none_there n ts (suc k) (omega (arith, lt))

stands_at : (texts : List Txn) (n k j : ℕ) (old : Txn) → n ≡ k + j → slice_get texts j ≡ Some old → Stands n old (numbered_from k texts)
stands_at [] n k j old is got = absurd (none-some old got)
stands_at (u ∷ us) n k zero old is got =
    let same : k ≡ n = omega (arith, is) in
    let rest = filter (λ (e : ℕ × Txn). e.0 == n) (numbered_from (suc k) us) in
    ap (λ (b : Bool). cond b ((k, u) ∷ rest) rest) (eq-eqb k n same)
    ∙ ap (λ (ys : Numbered Txn). (k, u) ∷ ys) (none_there n us (suc k) (omega (arith, same)))
    ∙ (λ i. (same i, same_Some u old got i) ∷ [])
stands_at (u ∷ us) n k (suc j) old is got =
    let rest = filter (λ (e : ℕ × Txn). e.0 == n) (numbered_from (suc k) us) in
    ap (λ (b : Bool). cond b ((k, u) ∷ rest) rest) (ne_eqb k n (λ same. omega (arith, same, is)))
    ∙ stands_at us n (suc k) j old (omega (arith, is)) got

-- one is put in
abbrev pub Adds : ℕ → Txn → List Watch → List Watch → Type 0
Adds n t old new = (standing : Numbered Txn) → AreOf standing old → AreOf (with_number n t standing) new

pub puts_watches : (number : ℕ) (old : Option Txn) (txn : Txn) (before mid after : List Watch) → LeavesWatches number old before mid → Adds number txn mid after → PutsWatches number old txn before after
puts_watches number None txn before mid after same add = λ texts got le are.
    let end : length texts ≡ number = let past = got_none texts number got in omega (arith, past, le) in
    subst (λ (s : Numbered Txn). AreOf s after) (behind_them texts number 0 number txn (omega arith) end)
    (add (numbered_from 0 texts) (subst (AreOf (numbered_from 0 texts)) (sym same) are))
puts_watches number (Some old) txn before mid after leave add = λ texts got le are.
    subst (λ (s : Numbered Txn). AreOf s after) (in_its_place texts number 0 number txn (omega arith) (got-inside texts number old got))
    (add (without_number number (numbered_from 0 texts)) (leave (numbered_from 0 texts) are (stands_at texts number 0 number old (omega arith) got)))

-- ---- one after another

put_run : (forms written : List Txn) (form : Txn) → put_at (forms ++ drop (length forms) written) (length forms) form ≡ (forms ++ form ∷ []) ++ drop (length (forms ++ form ∷ [])) written
put_run [] [] form = refl
put_run [] (w ∷ written) form = refl
put_run (f ∷ forms) [] form =
    ap (λ (ys : List Txn). f ∷ put_at (forms ++ ys) (length forms) form) (sym (drop_none (length forms)))
    ∙ ap (λ (ys : List Txn). f ∷ ys) (put_run forms [] form)
    ∙ ap (λ (ys : List Txn). f ∷ ((forms ++ form ∷ []) ++ ys)) (drop_none (length (forms ++ form ∷ [])))
put_run (f ∷ forms) (w ∷ written) form = ap (λ (ys : List Txn). f ∷ ys) (put_run forms written form)

pub put_renewed : (first : ℕ) (written forms : List Txn) (form : Txn) (at : ℕ) → first ≤ length written → at ≡ first + length forms → put_at (renewed first written forms) at form ≡ renewed first written (forms ++ form ∷ [])
put_renewed zero written forms form at le is =
    let same : at ≡ length forms = omega (arith, is) in
    ap (λ (n : ℕ). put_at (forms ++ drop (length forms) written) n form) same ∙ put_run forms written form
put_renewed (suc first) [] forms form at le is = absurd (omega (arith, le))
put_renewed (suc first) (t ∷ written) forms form at le is =
    let same : at ≡ suc (first + length forms) = omega (arith, is) in
    ap (λ (n : ℕ). put_at (t ∷ renewed first written forms) n form) same
    ∙ ap (λ (ys : List Txn). t ∷ ys) (put_renewed first written forms form (first + length forms) (omega (arith, le)) refl)

renewed_nothing : (first : ℕ) (written : List Txn) → renewed first written [] ≡ written
renewed_nothing zero written = refl
renewed_nothing (suc first) [] = refl
renewed_nothing (suc first) (t ∷ written) = ap (λ (ys : List Txn). t ∷ ys) (renewed_nothing first written)

pub renews_none : (first : ℕ) (former forms : List Txn) (old copy : List Watch) → copy ≡ old → RenewsWatches first former (take 0 forms) old copy
renews_none first former forms old copy is = λ texts le same are.
    subst (λ (ts : List Txn). AreOf (numbered_from 0 ts) copy) (sym (renewed_nothing first texts)) (subst (AreOf (numbered_from 0 texts)) (sym is) are)

renews_more : (first : ℕ) (former forms : List Txn) (form : Txn) (at : ℕ) (ws mid new : List Watch) → RenewsWatches first former forms ws mid → at ≡ first + length forms → PutsWatches at (slice_get former at) form mid new → RenewsWatches first former (forms ++ form ∷ []) ws new
renews_more first former forms form at ws mid new h is put = λ texts le same are.
    let all = renewed first texts forms in
    let got : slice_get all at ≡ slice_get former at = get_rest first texts forms at (omega (arith, is)) le ∙ same at (omega (arith, is)) in
    let reach : at ≤ length all = let far = reach_renewed first texts forms le in omega (arith, is, far) in
    subst (λ (ts : List Txn). AreOf (numbered_from 0 ts) new) (put_renewed first texts forms form at le is) (put all got reach (h texts le same are))

pub renews_step : (first : ℕ) (former : List Txn) (forms : List (Bor Txn)) (i at : ℕ) (form : Bor Txn) (old : Option Txn) (ws mid new : List Watch) → i < length forms → form ≡ get_or forms i form → at ≡ first + i → old ≡ slice_get former at
    → RenewsWatches first former (take i (lent_of forms)) ws mid → PutsWatches at old form.now mid new → RenewsWatches first former (take (i + 1) (lent_of forms)) ws new
renews_step first former forms i at form old ws mid new lt read is there h put =
    subst (λ (fs : List Txn). RenewsWatches first former fs ws new) (sym (lent_next forms i form lt read))
    (renews_more first former (take i (lent_of forms)) form.now at ws mid new h (let size = lent_front forms i lt in omega (arith, is, size)) (subst (λ (o : Option Txn). PutsWatches at o form.now mid new) there put))

pub renews_all : (first : ℕ) (former : List Txn) (forms : List (Bor Txn)) (i : ℕ) (ws new : List Watch) → length forms ≤ i → RenewsWatches first former (take i (lent_of forms)) ws new → RenewsWatches first former (lent_of forms) ws new
renews_all first former forms i ws new le h = subst (λ (fs : List Txn). RenewsWatches first former fs ws new) (lent_whole forms i le) h

-- where nothing has numbers from there on
pub same_past : (texts : List Txn) (n : ℕ) → length texts ≤ n → slice_get texts n ≡ slice_get nothing n
same_past [] n le = refl
same_past (t ∷ texts) zero le = absurd (omega (arith, le))
same_past (t ∷ texts) (suc n) le = same_past texts n (omega (arith, le))

-- no more than both together
pub most_renewed : (first : ℕ) (written forms : List Txn) → length (renewed first written forms) ≤ length written + length forms
most_renewed zero written forms = omega (arith, length-append forms (drop (length forms) written), length-drop (length forms) written)
most_renewed (suc first) [] forms = omega arith
most_renewed (suc first) (t ∷ written) forms = let rest = most_renewed first written forms in omega (arith, rest)

pub watches_all : (r : Result (List Watch) Memory) (former forms : List Txn) (none : List Watch) → former ≡ [] → AreOf (numbered_from 0 []) none → IfOk r (RenewsWatches 0 former forms none) → IfOk r (AreOf (numbered_from 0 forms))
watches_all (Ok ws) former forms none empty are h =
    subst (λ (ts : List Txn). AreOf (numbered_from 0 ts) ws) (behind_all [] forms) (h [] (omega arith) (λ n le. sym (ap (λ (ts : List Txn). slice_get ts n) empty)) are)
watches_all (Err e) former forms none empty are h = tt

-- with nothing known of what is before them
pub watches_behind : (r : List Watch) (former forms texts : List Txn) (old : List Watch) (first : ℕ) → former ≡ [] → first ≡ length texts → AreOf (numbered_from 0 texts) old → RenewsWatches first former forms old r → AreOf (numbered_from 0 (texts ++ forms)) r
watches_behind r former forms texts old first empty is are h =
    subst (λ (ts : List Txn). AreOf (numbered_from 0 ts) r) (ap (λ (n : ℕ). renewed n texts forms) is ∙ behind_all texts forms)
    (h texts (omega (arith, is)) (λ n le. same_past texts n (omega (arith, is, le)) ∙ sym (ap (λ (ts : List Txn). slice_get ts n) empty)) are)

pub watches_here : (r : List Watch) (former seen forms put : List Txn) (old : List Watch) (first : ℕ) → seen ≡ former → put ≡ forms → first ≤ length former → AreOf (numbered_from 0 former) old → RenewsWatches first seen put old r → AreOf (numbered_from 0 (renewed first former forms)) r
watches_here r former seen forms put old first lent also le are h =
    subst (λ (ts : List Txn). AreOf (numbered_from 0 (renewed first former ts)) r) also
    (h former le (λ n past. sym (ap (λ (ts : List Txn). slice_get ts n) lent)) are)
