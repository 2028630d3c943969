-- The symbols of marks, one after another.
use Rattle.std.proofs.Common.{◌≡◌, ℕ, suc, ◌<◌, ◌≤◌, Bool, true, false, ◌||◌, cond, List, [], ◌∷◌, ◌++◌, filter, find, length, Option, Some, None, refl, sym, ap, subst, ◌∙◌, arith}
use Rattle.std.specs.declared.cmp.Ordering.{Ordering}
use Rattle.std.specs.declared.cmp.Ordering.TheVariants.{Less, Equal, Greater}
use Rattle.std.specs.Ordering.{nat_cmp, ordering_then, is_eq, is_lt, is_gt}
use Rattle.std.specs.Cmp.Lexicographic.{slice_cmp}
use Rattle.std.specs.FinMap.{slice_cmp-IsAntisymmetric, nat_cmp-IsAntisymmetric}
use Rattle.std.specs.List.{AllByRecursion}
use Rattle.std.specs.Str.{bytes_eq}
use Rattle.std.proofs.lemmas.Bool.{false≢true}
use Rattle.std.proofs.lemmas.Cmp.{nat_list_cmp_total, tied_itself}
use Rattle.shared_set.specs.Sorted.{Rises}
use Rattle.book.proofs.Entries.{tie-bytes_eq}
use Rattle.counted_styles.specs.declared.mark.Mark.{Mark}
use Rattle.counted_styles.specs.Marks.{AreAmong, AreNamed, edge_cmp, is_among, is_past, key_cmp, mark_at, mark_cmp}
use Rattle.counted_styles.specs.Totals.{mark_total}
use Rattle.counted_styles.proofs.Keys.{is-equal, same-symbol}

-- ---- names

or-right : (a b : Bool) → b ≡ true → (a || b) ≡ true
or-right true b h = refl
or-right false b h = h

or-left : (a b : Bool) → a ≡ true → (a || b) ≡ true
or-left true b h = refl
or-left false b h = absurd (false≢true h)

pub own-bytes : (q : List ℕ) → bytes_eq q q ≡ true
own-bytes q = sym (tie-bytes_eq q q) ∙ ap is_eq (tied_itself nat_list_cmp_total q)

pub same-bytes : (a q : List ℕ) → bytes_eq a q ≡ true → q ≡ a
same-bytes a q h = slice_cmp-IsAntisymmetric nat_cmp-IsAntisymmetric q a (is-equal (slice_cmp nat_cmp q a) (tie-bytes_eq q a ∙ h))

among-more : (q : List ℕ) (names more : List (List ℕ)) → is_among q names ≡ true → is_among q (names ++ more) ≡ true
among-more q [] more h = absurd (false≢true h)
among-more q (n ∷ names) more h = by (bytes_eq n q) h (λ k. among-more q names more k)
  where
    by : (b : Bool) → (b || is_among q names) ≡ true → (is_among q names ≡ true → is_among q (names ++ more) ≡ true) → (b || is_among q (names ++ more)) ≡ true
    by true h f = refl
    by false h f = f h

among-last : (q : List ℕ) (names : List (List ℕ)) → is_among q (names ++ q ∷ []) ≡ true
among-last q [] = or-left (bytes_eq q q) false (own-bytes q)
among-last q (n ∷ names) = or-right (bytes_eq n q) (is_among q (names ++ q ∷ [])) (among-last q names)

pub among-all : (some more : List (List ℕ)) → AreAmong some (some ++ more)
among-all some more = λ q h. among-more q some more h

-- ---- lists of marks

all-of : {P Q : Mark → Type 0} → ((w : Mark) → P w → Q w) → (ws : List Mark) → AllByRecursion P ws → AllByRecursion Q ws
all-of f [] h = tt
all-of f (w ∷ ws) h = (f w h.0, all-of f ws h.1)

both-of : {P Q R : Mark → Type 0} → ((w : Mark) → P w → Q w → R w) → (ws : List Mark) → AllByRecursion P ws → AllByRecursion Q ws → AllByRecursion R ws
both-of f [] h k = tt
both-of f (w ∷ ws) h k = (f w h.0 k.0, both-of f ws h.1 k.1)

pub named-among : (names all : List (List ℕ)) (ws : List Mark) → AreAmong names all → AreNamed names ws → AreNamed all ws
named-among names all ws more h = all-of (λ w k. more w.symbol k) ws h

-- of a symbol that isn't among the names nothing is kept
pub none-kept : (q : List ℕ) (n : ℕ) (names : List (List ℕ)) (ws : List Mark) → AreNamed names ws → is_among q names ≡ false → mark_at q n ws ≡ None
none-kept q n names [] h off = refl
none-kept q n names (x ∷ ws) h off =
    elim (is_eq (key_cmp q n x)) as (λ b. is_eq (key_cmp q n x) ≡ b → cond b (Some x) (mark_at q n ws) ≡ None) [
      | true ↦ λ e. absurd (false≢true (sym off ∙ ap (λ (s : List ℕ). is_among s names) (same-symbol q n x e) ∙ h.0))
      | false ↦ λ e. none-kept q n names ws h.1 off
    ] refl

-- ---- what stands before the next mark

-- a mark stands before the next one, if there is one
abbrev pub is_before : Option Mark → Mark → Bool
is_before None w = true
is_before (Some m) w = is_gt (mark_cmp m w)

never-self : (x : Mark) → is_gt (mark_cmp x x) ≡ true → ⊥
never-self x h = false≢true (sym (ap is_gt (tied_itself mark_total x)) ∙ h)

never-less : (x w : Mark) → mark_cmp x w ≡ Less → is_gt (mark_cmp x w) ≡ true → ⊥
never-less x w lt h = false≢true (sym (ap is_gt lt) ∙ h)

-- those that stand before the first that passes a test don't pass it
before-found : (t : Mark → Bool) (ws : List Mark) → Rises mark_cmp ws → AllByRecursion (λ w. is_before (find t ws) w ≡ true → t w ≡ false) ws
before-found t [] h = tt
before-found t (x ∷ ws) h =
    elim (t x) as (λ b. t x ≡ b → AllByRecursion (λ w. is_before (cond b (Some x) (find t ws)) w ≡ true → t w ≡ false) (x ∷ ws)) [
      | true ↦ λ e. (λ k. absurd (never-self x k), all-of (λ w lt k. absurd (never-less x w lt k)) ws h.0)
      | false ↦ λ e. (λ k. e, before-found t ws h.1)
    ] refl

-- What is so before the next mark: all old names are there, and the symbols of all marks before it.
pub record IsNaming (ws : List Mark) (next : Option Mark) (old names : List (List ℕ)) : Type 0 where
  pub rises : Rises mark_cmp ws
  pub others : AreAmong old names
  pub named : AllByRecursion (λ w. is_before next w ≡ true → is_among w.symbol names ≡ true) ws

-- all stand behind the beginning
first-test : (w : Mark) → is_lt (edge_cmp [] false w) ≡ true
first-test w = by w.symbol
  where
    by : (s : List ℕ) → is_lt (ordering_then (slice_cmp nat_cmp [] s) Less) ≡ true
    by [] = refl
    by (x ∷ xs) = refl

pub naming-begins : (ws : List Mark) (next : Option Mark) (names : List (List ℕ)) → Rises mark_cmp ws → next ≡ find (λ m. is_lt (edge_cmp [] false m)) ws → IsNaming ws next names names
naming-begins ws next names rises e = record {
  rises = rises;
  others = λ q h. h;
  named =
      subst (λ (o : Option Mark). AllByRecursion (λ w. is_before o w ≡ true → is_among w.symbol names ≡ true) ws) (sym e)
      (all-of (λ w f k. absurd (false≢true (sym (f k) ∙ first-test w))) ws (before-found (λ m. is_lt (edge_cmp [] false m)) ws rises));
}

named-step : (m w : Mark) (names : List (List ℕ)) → (is_gt (mark_cmp m w) ≡ true → is_among w.symbol names ≡ true) → is_past m.symbol w ≡ false → is_among w.symbol (names ++ m.symbol ∷ []) ≡ true
named-step m w names h off =
    elim (slice_cmp nat_cmp m.symbol w.symbol) as (λ r. slice_cmp nat_cmp m.symbol w.symbol ≡ r → is_lt (ordering_then r Greater) ≡ false → is_among w.symbol (names ++ m.symbol ∷ []) ≡ true) [
      | Less ↦ λ e f. absurd (false≢true (sym f))
      | Equal ↦ λ e f.
          let same : m.symbol ≡ w.symbol = slice_cmp-IsAntisymmetric nat_cmp-IsAntisymmetric m.symbol w.symbol e in
          subst (λ (s : List ℕ). is_among s (names ++ m.symbol ∷ []) ≡ true) same (among-last m.symbol names)
      | Greater ↦ λ e f. among-more w.symbol names (m.symbol ∷ []) (h (ap (λ (r : Ordering). is_gt (ordering_then r (nat_cmp m.at w.at))) e))
    ] refl off

pub naming-on : (ws : List Mark) (m : Mark) (next : Option Mark) (old names more : List (List ℕ)) → IsNaming ws (Some m) old names → next ≡ find (is_past m.symbol) ws → more ≡ names ++ m.symbol ∷ [] → IsNaming ws next old more
naming-on ws m next old names more h e grown = record {
  rises = h.rises;
  others = λ q k. subst (λ (all : List (List ℕ)). is_among q all ≡ true) (sym grown) (among-more q names (m.symbol ∷ []) (h.others q k));
  named =
      subst (λ (all : List (List ℕ)). AllByRecursion (λ w. is_before next w ≡ true → is_among w.symbol all ≡ true) ws) (sym grown)
      (subst (λ (o : Option Mark). AllByRecursion (λ w. is_before o w ≡ true → is_among w.symbol (names ++ m.symbol ∷ []) ≡ true) ws) (sym e)
      (both-of (λ w f g k. named-step m w names g (f k)) ws (before-found (is_past m.symbol) ws h.rises) h.named));
}

pub naming-done : (ws : List Mark) (next : Option Mark) (old names : List (List ℕ)) → next ≡ None → IsNaming ws next old names → AreNamed names ws
naming-done ws next old names e h =
    all-of (λ w f. f refl) ws
    (subst (λ (o : Option Mark). AllByRecursion (λ w. is_before o w ≡ true → is_among w.symbol names ≡ true) ws) e h.named)

-- ---- that it ends

-- how many marks are still to come, at least
abbrev pub to_come : Option Mark → List Mark → ℕ
to_come None ws = 0
to_come (Some m) ws = suc (length (filter (is_past m.symbol) ws))

at-most : (t u : Mark → Bool) → ((w : Mark) → u w ≡ true → t w ≡ true) → (ws : List Mark) → length (filter u ws) ≤ length (filter t ws)
at-most t u f [] = omega arith
at-most t u f (x ∷ ws) =
    let rest : length (filter u ws) ≤ length (filter t ws) = at-most t u f ws in
    by (u x) (t x) (λ e. f x e) rest
  where
    by : (a b : Bool) → (a ≡ true → b ≡ true) → length (filter u ws) ≤ length (filter t ws) → length (cond a (x ∷ filter u ws) (filter u ws)) ≤ length (cond b (x ∷ filter t ws) (filter t ws))
    by true true g le = omega arith
    by true false g le = absurd (false≢true (g refl))
    by false true g le = omega arith
    by false false g le = le

fewer : (t u : Mark → Bool) (p : Mark) → u p ≡ false → ((w : Mark) → u w ≡ true → t w ≡ true) → (ws : List Mark) → find t ws ≡ Some p → length (filter u ws) < length (filter t ws)
fewer t u p off f [] e = absurd (differs e)
  where
    differs : ◌≡◌ {A = Option Mark} None (Some p) → ⊥
    differs e = cc
fewer t u p off f (x ∷ ws) e = by (t x) (u x) refl refl e (λ k. fewer t u p off f ws k)
  where
    inner : (a b : Mark) → Some a ≡ Some b → a ≡ b
    inner a b e = cc

    by : (b a : Bool) → t x ≡ b → u x ≡ a → cond b (Some x) (find t ws) ≡ Some p → (find t ws ≡ Some p → length (filter u ws) < length (filter t ws)) → length (cond a (x ∷ filter u ws) (filter u ws)) < length (cond b (x ∷ filter t ws) (filter t ws))
    by true true p1 q1 k g = absurd (false≢true (sym off ∙ ap u (sym (inner x p k)) ∙ q1))
    by true false p1 q1 k g = let le : length (filter u ws) ≤ length (filter t ws) = at-most t u f ws in omega arith
    by false true p1 q1 k g = absurd (false≢true (sym p1 ∙ f x q1))
    by false false p1 q1 k g = g k

found-passes : (t : Mark → Bool) (p : Mark) (ws : List Mark) → find t ws ≡ Some p → t p ≡ true
found-passes t p [] e = absurd (differs e)
  where
    differs : ◌≡◌ {A = Option Mark} None (Some p) → ⊥
    differs e = cc
found-passes t p (x ∷ ws) e =
    elim (t x) as (λ b. t x ≡ b → cond b (Some x) (find t ws) ≡ Some p → t p ≡ true) [
      | true ↦ λ k f. subst (λ (w : Mark). t w ≡ true) (inner x p f) k
      | false ↦ λ k f. found-passes t p ws f
    ] refl e
  where
    inner : (a b : Mark) → Some a ≡ Some b → a ≡ b
    inner a b e = cc

past-less : (q : List ℕ) (w : Mark) → is_past q w ≡ true → slice_cmp nat_cmp q w.symbol ≡ Less
past-less q w h = by (slice_cmp nat_cmp q w.symbol) h
  where
    by : (r : Ordering) → is_lt (ordering_then r Greater) ≡ true → r ≡ Less
    by Less k = refl
    by Equal k = absurd (false≢true k)
    by Greater k = absurd (false≢true k)

self-past : (m : Mark) → is_past m.symbol m ≡ false
self-past m = ap (λ (r : Ordering). is_lt (ordering_then r Greater)) (tied_itself nat_list_cmp_total m.symbol)

past-both : (m p w : Mark) → is_past m.symbol p ≡ true → is_past p.symbol w ≡ true → is_past m.symbol w ≡ true
past-both m p w h k =
    ap (λ (r : Ordering). is_lt (ordering_then r Greater))
    (nat_list_cmp_total.trans m.symbol p.symbol w.symbol (past-less m.symbol p h) (past-less p.symbol w k))

pub fewer-to-come : (ws : List Mark) (m : Mark) (next : Option Mark) → next ≡ find (is_past m.symbol) ws → to_come next ws < to_come (Some m) ws
fewer-to-come ws m None e = omega arith
fewer-to-come ws m (Some p) e =
    let found : find (is_past m.symbol) ws ≡ Some p = sym e in
    let passes : is_past m.symbol p ≡ true = found-passes (is_past m.symbol) p ws found in
    let less : length (filter (is_past p.symbol) ws) < length (filter (is_past m.symbol) ws) = fewer (is_past m.symbol) (is_past p.symbol) p (self-past p) (λ w k. past-both m p w passes k) ws found in
    omega arith
