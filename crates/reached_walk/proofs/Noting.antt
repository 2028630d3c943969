-- Accounts that are noted one after another, and lists that are changed in place.
use Rattle.std.proofs.Common.{◌≡◌, ℕ, zero, suc, ◌+◌, ◌<◌, ◌≤◌, Bool, true, false, ◌&&◌, not, List, [], ◌∷◌, ◌++◌, length, map, take, drop, get_or, set, Option, Some, None, append_assoc, refl, sym, ap, subst, ◌∙◌, arith}
use Rattle.std.specs.List.{list_any, slice_get, AllByRecursion, AllZip}
use Rattle.std.specs.Str.{bytes_eq}
use Rattle.std.proofs.lemmas.Bool.{not_from_false}
use Rattle.std.proofs.lemmas.List.{append-nil, map-append, take_all, take_more}
use Rattle.std.proofs.lemmas.Slice.Eq.{bytes_eq-Decides}
use Rattle.book.specs.declared.transaction.Posting.{Posting}
use Rattle.watchers.specs.declared.watch.Watch.{Watch}
use Rattle.watchers.proofs.Tests.{and-both, or-left}
use Rattle.reached_walk.specs.declared.change.Change.{Change}
use Rattle.reached_walk.specs.declared.place.Spot.{Spot}
use Rattle.reached_walk.specs.Asks.{IsNextAfter}
use Rattle.reached_walk.specs.Notes.{accounts_of, is_since, IsFresh, Notes}
use Rattle.reached_walk.specs.Spots.{is_before}
use Rattle.reached_walk.proofs.Lists.{all-join, all-map, any-last, any-left, any-right}
use Rattle.reached_walk.proofs.Orders.{never}

pub notes-none : (ws : List Watch) (s : Spot) (changes : List Change) → Notes ws s [] changes changes
notes-none ws s changes = record { more = []; kept = sym (append-nil changes); fresh = tt; noted = tt }

-- the account was noted before
pub notes-known : (ws : List Watch) (s : Spot) (account : List ℕ) (changes : List Change) → list_any (is_since account s) changes ≡ true → Notes ws s (account ∷ []) changes changes
notes-known ws s account changes h = record { more = []; kept = sym (append-nil changes); fresh = tt; noted = (h, tt) }

-- it is noted now
pub notes-new : (ws : List Watch) (s : Spot) (account : List ℕ) (old new : List Change) (c : Change) → new ≡ old ++ c ∷ [] → c.account ≡ account → c.since ≡ s → IsNextAfter ws account s c.next → Notes ws s (account ∷ []) old new
notes-new ws s account old new c is name since next = record {
  more = c ∷ [];
  kept = is;
  fresh = (
    record {
      account = or-left (bytes_eq c.account account) false same;
      since = since;
      next = subst (λ (n : List ℕ). IsNextAfter ws n s c.next) (sym name) next;
    },
    tt,
  );
  noted = (ap (list_any (is_since account s)) is ∙ any-last (is_since account s) old c own, tt);
}
  where
    same : bytes_eq c.account account ≡ true
    same = (bytes_eq-Decides c.account account).1 name

    own : is_since account s c ≡ true
    own =
        and-both (bytes_eq c.account account) (not (is_before s c.since)) same
        (not_from_false (is_before s c.since) (ap (is_before s) since ∙ never s))

fresh-more : (ws : List Watch) (s : Spot) (first second all : List (List ℕ)) → ((t : List ℕ → Bool) → list_any t first ≡ true → list_any t all ≡ true) → (cs : List Change) → AllByRecursion (IsFresh ws s first) cs → AllByRecursion (IsFresh ws s all) cs
fresh-more ws s first second all within cs h =
    all-map (IsFresh ws s first) (IsFresh ws s all) (λ c k. record { account = within (bytes_eq c.account) k.account; since = k.since; next = k.next }) cs h

-- some, and then others
pub notes-then : (ws : List Watch) (s : Spot) (first second : List (List ℕ)) (old mid new : List Change) → Notes ws s first old mid → Notes ws s second mid new → Notes ws s (first ++ second) old new
notes-then ws s first second old mid new h k = record {
  more = h.more ++ k.more;
  kept = k.kept ∙ ap (λ (l : List Change). l ++ k.more) h.kept ∙ append_assoc old h.more k.more;
  fresh = all-join (IsFresh ws s (first ++ second)) h.more k.more
      (fresh-more ws s first second (first ++ second) (λ t. any-left t first second) h.more h.fresh)
      (fresh-more ws s second first (first ++ second) (λ t. any-right t first second) k.more k.fresh);
  noted = all-join (λ account. list_any (is_since account s) new ≡ true) first second
      (all-map (λ account. list_any (is_since account s) mid ≡ true) (λ account. list_any (is_since account s) new ≡ true)
      (λ account m. ap (list_any (is_since account s)) k.kept ∙ any-left (is_since account s) mid k.more m) first h.noted)
      k.noted;
}

-- one more posting
pub notes-step : (ws : List Watch) (s : Spot) (ps : List Posting) (i : ℕ) (p : Posting) (old mid new : List Change) → i < length ps → p ≡ get_or ps i p → Notes ws s (accounts_of (take i ps)) old mid → Notes ws s (p.account ∷ []) mid new → Notes ws s (accounts_of (take (i + 1) ps)) old new
notes-step ws s ps i p old mid new inside is h k =
    let one : accounts_of (take (i + 1) ps) ≡ accounts_of (take i ps) ++ p.account ∷ [] =
    ap (map (λ (q : Posting). q.account)) (take_more ps i p inside)
    ∙ map-append (λ (q : Posting). q.account) (take i ps) (get_or ps i p ∷ [])
    ∙ ap (λ (q : Posting). accounts_of (take i ps) ++ q.account ∷ []) (sym is) in
    subst (λ (l : List (List ℕ)). Notes ws s l old new) (sym one) (notes-then ws s (accounts_of (take i ps)) (p.account ∷ []) old mid new h k)

pub notes-all : (ws : List Watch) (s : Spot) (ps : List Posting) (i : ℕ) (old new : List Change) → length ps ≤ i → Notes ws s (accounts_of (take i ps)) old new → Notes ws s (accounts_of ps) old new
notes-all ws s ps i old new past h =
    subst (λ (l : List Posting). Notes ws s (accounts_of l) old new) (take_all i ps past) h

-- ---- items that are changed one after another where they stand

module _ {X : Type 0} (R : X → X → Type 0) where
  zip-more : (old now : List X) (i : ℕ) (d y : X) → i < length old → length now ≡ length old → AllZip R (take i old) (take i now) → drop i now ≡ drop i old → R (get_or now i d) y → AllZip R (take (suc i) old) (take (suc i) (set now i y)) × (drop (suc i) (set now i y) ≡ drop (suc i) old)
  zip-more [] now i d y inside same z rest r = absurd (omega arith)
  zip-more (a ∷ old) [] i d y inside same z rest r = absurd (omega arith)
  zip-more (a ∷ old) (b ∷ now) zero d y inside same z rest r =
      let first : b ≡ a = ap (λ (l : List X). get_or l 0 a) rest in
      ((subst (λ (x : X). R x y) first r, tt), ap (drop 1) rest)
  zip-more (a ∷ old) (b ∷ now) (suc i) d y inside same z rest r =
      let later = zip-more old now i d y (omega arith) (omega arith) z.1 rest r in
      ((z.0, later.0), later.1)

  -- one more of them
  pub passed-more : (old now : List X) (i : ℕ) (d y : X) → i < length old → length now ≡ length old → AllZip R (take i old) (take i now) → drop i now ≡ drop i old → R (get_or now i d) y → AllZip R (take (i + 1) old) (take (i + 1) (set now i y)) × (drop (i + 1) (set now i y) ≡ drop (i + 1) old)
  passed-more old now i d y inside same z rest r =
      let next : suc i ≡ i + 1 = omega arith in
      subst (λ (n : ℕ). AllZip R (take n old) (take n (set now i y)) × (drop n (set now i y) ≡ drop n old)) next (zip-more old now i d y inside same z rest r)

  pub passed-all : (old now : List X) (i : ℕ) → length old ≤ i → length now ≡ length old → AllZip R (take i old) (take i now) → AllZip R old now
  passed-all old now i past same z =
      let far : length now ≤ i = omega arith in
      subst (λ (l : List X). AllZip R l now) (take_all i old past) (subst (λ (l : List X). AllZip R (take i old) l) (take_all i now far) z)

-- ---- what is looked up in a list

pub got-at : {X : Type 0} (xs : List X) (i : ℕ) (x : X) → i < length xs → x ≡ get_or xs i x → slice_get xs i ≡ Some x
got-at [] i x inside is = absurd (omega arith)
got-at (y ∷ xs) zero x inside is = ap (λ z. Some z) (sym is)
got-at (y ∷ xs) (suc i) x inside is = got-at xs i x (omega arith) is

pub none-at : {X : Type 0} (xs : List X) (i : ℕ) → length xs ≤ i → slice_get xs i ≡ None
none-at [] i past = refl
none-at (y ∷ xs) zero past = absurd (omega arith)
none-at (y ∷ xs) (suc i) past = none-at xs i (omega arith)
