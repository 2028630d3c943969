-- Styles that stay, where what is said leaves them as they are.
use Rattle.std.proofs.Common.{◌≡◌, ℕ, zero, suc, ◌+◌, ◌<◌, ◌==◌, Bool, true, false, ◌&&◌, cond, List, [], ◌∷◌, ◌++◌, filter, map, length, take, get_or, set, Option, Some, None, refl, sym, ap, subst, ◌∙◌, arith}
use Rattle.std.specs.Prelude.{slice_get}
use Rattle.std.specs.List.{AllByRecursion}
use Rattle.std.specs.Str.{bytes_eq}
use Rattle.std.proofs.lemmas.Bool.{false≢true}
use Rattle.std.proofs.lemmas.Grind.{flat_map-append}
use Rattle.book.specs.declared.amount.Written.{Written}
use Rattle.book.specs.declared.item.Item.{Item}
use Rattle.book.specs.declared.item.Placed.{Placed}
use Rattle.book.specs.declared.style.Style.{Style}
use Rattle.book.specs.Style.{commodity_styles, default_styles, first_class, of_symbol, said_in, second_class, style_by, style_of}
use Rattle.counted_styles.specs.Alike.{AreAlike, IsItemAlike, IsSilent, has_same_groups, has_same_marks, is_same_number, is_same_shape, is_same_side, is_same_style, is_same_way}
use Rattle.counted_styles.proofs.Keys.{eq-of}
use Rattle.counted_styles.proofs.Naming.{same-bytes}

-- ---- equal styles

pub first-part : (a b : Bool) → (a && b) ≡ true → a ≡ true
first-part true b h = refl
first-part false b h = h

pub second-part : (a b : Bool) → (a && b) ≡ true → b ≡ true
second-part true b h = h
second-part false b h = absurd (false≢true h)

same-way : (a b : Bool) → is_same_way a b ≡ true → a ≡ b
same-way true true h = refl
same-way true false h = absurd (false≢true h)
same-way false true h = absurd (false≢true h)
same-way false false h = refl

same-number : (a b : Option ℕ) → is_same_number a b ≡ true → a ≡ b
same-number None None h = refl
same-number None (Some n) h = absurd (false≢true h)
same-number (Some m) None h = absurd (false≢true h)
same-number (Some m) (Some n) h = ap (λ (k : ℕ). Some k) (eq-of m n h)

same-shape : (a b : Written) → is_same_shape a b ≡ true → a ≡ b
same-shape a b h =
    let side = first-part (is_same_side a b) (has_same_marks a b && has_same_groups a b) h in
    let rest = second-part (is_same_side a b) (has_same_marks a b && has_same_groups a b) h in
    let marks = first-part (has_same_marks a b) (has_same_groups a b) rest in
    let groups = second-part (has_same_marks a b) (has_same_groups a b) rest in
    let left = same-way a.left b.left (first-part (is_same_way a.left b.left) (is_same_way a.spaced b.spaced) side) in
    let spaced = same-way a.spaced b.spaced (second-part (is_same_way a.left b.left) (is_same_way a.spaced b.spaced) side) in
    let mark = same-number a.mark b.mark (first-part (is_same_number a.mark b.mark) (is_same_number a.group b.group) marks) in
    let group = same-number a.group b.group (second-part (is_same_number a.mark b.mark) (is_same_number a.group b.group) marks) in
    let first = eq-of a.first b.first (first-part (a.first == b.first) (a.rest == b.rest) groups) in
    let more = eq-of a.rest b.rest (second-part (a.first == b.first) (a.rest == b.rest) groups) in
    λ i. record { left = left i; spaced = spaced i; mark = mark i; group = group i; first = first i; rest = more i }

pub same-style : (a b : Style) → is_same_style a b ≡ true → a ≡ b
same-style a b h =
    let shape = same-shape a.shape b.shape (first-part (is_same_shape a.shape b.shape) (a.places == b.places) h) in
    let places = eq-of a.places b.places (second-part (is_same_shape a.shape b.shape) (a.places == b.places) h) in
    λ i. record { shape = shape i; places = places i }

-- ---- lists

pub all-further : {X : Type 0} (P : X → Type 0) (xs : List X) (i : ℕ) (x : X) → i < length xs → x ≡ get_or xs i x → AllByRecursion P (take i xs) → P x → AllByRecursion P (take (i + 1) xs)
all-further {X = X} P xs i x lt e h p =
    let one : suc i ≡ i + 1 = omega arith in
    subst (λ (k : ℕ). AllByRecursion P (take k xs)) one (by xs i lt e h)
  where
    by : (xs : List X) (i : ℕ) → i < length xs → x ≡ get_or xs i x → AllByRecursion P (take i xs) → AllByRecursion P (take (suc i) xs)
    by [] i lt e h = absurd (omega arith)
    by (y ∷ ys) zero lt e h = (subst P e p, tt)
    by (y ∷ ys) (suc i) lt e h = (h.0, by ys i (omega arith) e h.1)

-- ---- a symbol is said, and stays as it is, or it isn't

said-or : (before after : List ℕ → Style) (q : List ℕ) (said : List (List ℕ × Style)) → AreAlike before after said → (of_symbol q said ≡ [] → before q ≡ after q) → before q ≡ after q
said-or before after q [] h f = f refl
said-or before after q (s ∷ said) h f = by (bytes_eq s.0 q) refl (said-or before after q said h.1)
  where
    by : (b : Bool) → bytes_eq s.0 q ≡ b → ((of_symbol q said ≡ [] → before q ≡ after q) → before q ≡ after q) → before q ≡ after q
    by true e rest = subst (λ (x : List ℕ). before x ≡ after x) (sym (same-bytes s.0 q e)) h.0
    by false e rest =
        rest (λ k. f (ap (λ (b : Bool). map (λ (x : List ℕ × Style). x.1) (cond b (s ∷ filter (λ (x : List ℕ × Style). bytes_eq x.0 q) said) (filter (λ (x : List ℕ × Style). bytes_eq x.0 q) said))) e ∙ k))

pub item-or : (before after : List ℕ → Style) (q : List ℕ) (i : Item) → IsItemAlike before after i → (IsSilent q i → before q ≡ after q) → before q ≡ after q
item-or before after q i h f =
    said-or before after q (commodity_styles i) h.directives.0
    (λ c. said-or before after q (default_styles i) h.directives.1
    (λ d. said-or before after q (first_class i) h.amounts.0
    (λ p. said-or before after q (second_class i) h.amounts.1
    (λ o. f (record { commodities = c; defaults = d; first = p; second = o })))))

pub items-or : (before after : List ℕ → Style) (q : List ℕ) (more : List Placed) → AllByRecursion (λ p. IsItemAlike before after p.item) more → (AllByRecursion (λ p. IsSilent q p.item) more → before q ≡ after q) → before q ≡ after q
items-or before after q [] h f = f tt
items-or before after q (p ∷ more) h f = item-or before after q p.item h.0 (λ silent. items-or before after q more h.1 (λ rest. f (silent, rest)))

-- ---- where nothing is said the style stays

append-none : (xs : List Style) → xs ++ [] ≡ xs
append-none [] = refl
append-none (x ∷ xs) = ap (λ (l : List Style). x ∷ l) (append-none xs)

none-said : (saying : Item → List (List ℕ × Style)) (q : List ℕ) (more : List Placed) → AllByRecursion (λ p. of_symbol q (saying p.item) ≡ []) more → said_in saying more q ≡ []
none-said saying q [] h = refl
none-said saying q (p ∷ more) h = λ i. h.0 i ++ none-said saying q more h.1 i

said-behind : (saying : Item → List (List ℕ × Style)) (q : List ℕ) (items more : List Placed) → AllByRecursion (λ p. of_symbol q (saying p.item) ≡ []) more → said_in saying (items ++ more) q ≡ said_in saying items q
said-behind saying q items more h =
    flat_map-append (λ (p : Placed). of_symbol q (saying p.item)) items more
    ∙ ap (λ (l : List Style). said_in saying items q ++ l) (none-said saying q more h)
    ∙ append-none (said_in saying items q)

all-placed : {P Q : Placed → Type 0} → ((p : Placed) → P p → Q p) → (ps : List Placed) → AllByRecursion P ps → AllByRecursion Q ps
all-placed f [] h = tt
all-placed f (p ∷ ps) h = (f p h.0, all-placed f ps h.1)

pub style-behind : (q : List ℕ) (items more : List Placed) → AllByRecursion (λ p. IsSilent q p.item) more → style_of (items ++ more) q ≡ style_of items q
style-behind q items more h =
    let c = said-behind commodity_styles q items more (all-placed (λ p s. s.commodities) more h) in
    let d = said-behind default_styles q items more (all-placed (λ p s. s.defaults) more h) in
    let f = said-behind first_class q items more (all-placed (λ p s. s.first) more h) in
    let s = said-behind second_class q items more (all-placed (λ p s. s.second) more h) in
    λ i. style_by (c i) (d i) (f i) (s i)

some-same : (a b : Placed) → Some a ≡ Some b → a ≡ b
some-same a b e = cc

none-there : (p : Placed) → ◌≡◌ {A = Option Placed} None (Some p) → ⊥
none-there p e = cc

said-changed : (saying : Item → List (List ℕ × Style)) (q : List ℕ) (items : List Placed) (n : ℕ) (was is : Placed) → slice_get items n ≡ Some was → of_symbol q (saying was.item) ≡ [] → of_symbol q (saying is.item) ≡ [] → said_in saying (set items n is) q ≡ said_in saying items q
said-changed saying q [] n was is found h k = absurd (none-there was found)
said-changed saying q (x ∷ items) zero was is found h k =
    let own : of_symbol q (saying x.item) ≡ [] = ap (λ (p : Placed). of_symbol q (saying p.item)) (some-same x was found) ∙ h in
    λ i. (k ∙ sym own) i ++ said_in saying items q
said-changed saying q (x ∷ items) (suc n) was is found h k = ap (λ (l : List Style). of_symbol q (saying x.item) ++ l) (said-changed saying q items n was is found h k)

pub style-changed : (q : List ℕ) (items : List Placed) (n : ℕ) (was is : Placed) → slice_get items n ≡ Some was → IsSilent q was.item → IsSilent q is.item → style_of (set items n is) q ≡ style_of items q
style-changed q items n was is found h k =
    let c = said-changed commodity_styles q items n was is found h.commodities k.commodities in
    let d = said-changed default_styles q items n was is found h.defaults k.defaults in
    let f = said-changed first_class q items n was is found h.first k.first in
    let s = said-changed second_class q items n was is found h.second k.second in
    λ i. style_by (c i) (d i) (f i) (s i)
