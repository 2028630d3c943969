-- Items that say the same have the same styles, wherever they stand.
use Rattle.std.proofs.Common.{◌≡◌, ℕ, zero, suc, ◌-◌, List, [], ◌∷◌, ◌++◌, length, take, refl, sym, ap, subst, ◌∙◌, arith}
use Rattle.std.specs.Prelude.{slice_get}
use Rattle.std.specs.List.{flat_map}
use Rattle.std.proofs.lemmas.List.{append_assoc, map-append}
use Rattle.book.specs.declared.item.Item.{Item}
use Rattle.book.specs.declared.item.Placed.{Placed}
use Rattle.book.specs.declared.style.Style.{Style}
use Rattle.book.specs.Standing.{Numbered, places_from}
use Rattle.book.specs.Style.{commodity_styles, default_styles, first_class, of_symbol, said_in, second_class, style_by, style_of}
use Rattle.counted_styles.specs.declared.text.TextStyles.{TextStyles}
use Rattle.counted_styles.specs.Kept.{AreOf}
use Rattle.counted_styles.specs.Texts.{IsOf}
use Rattle.text_ends.specs.Ends.{front_of, items_at, last_of}
use Rattle.text_ends.specs.Going.{grown_item, items_behind}
use Rattle.text_ends.specs.declared.reading.Grown.{Grown}

-- items under numbers from one on
abbrev under : ℕ → List Item → Numbered Item
under n [] = []
under n (i ∷ is) = (n, i) ∷ under (suc n) is

places-are : (n : ℕ) (xs : List Placed) → places_from n xs ≡ under n (items_at xs)
places-are n [] = refl
places-are n (x ∷ xs) = ap (λ (es : Numbered Item). (n, x.item) ∷ es) (places-are (suc n) xs)

said-are : (saying : Item → List (List ℕ × Style)) (q : List ℕ) (xs : List Placed) → said_in saying xs q ≡ flat_map (λ i. of_symbol q (saying i)) (items_at xs)
said-are saying q [] = refl
said-are saying q (x ∷ xs) = ap (λ (l : List Style). of_symbol q (saying x.item) ++ l) (said-are saying q xs)

said-same : (saying : Item → List (List ℕ × Style)) (q : List ℕ) (xs ys : List Placed) → items_at xs ≡ items_at ys → said_in saying xs q ≡ said_in saying ys q
said-same saying q xs ys e = said-are saying q xs ∙ ap (flat_map (λ i. of_symbol q (saying i))) e ∙ sym (said-are saying q ys)

style-same : (q : List ℕ) (xs ys : List Placed) → items_at xs ≡ items_at ys → style_of xs q ≡ style_of ys q
style-same q xs ys e =
    let c = said-same commodity_styles q xs ys e in
    let d = said-same default_styles q xs ys e in
    let f = said-same first_class q xs ys e in
    let s = said-same second_class q xs ys e in
    λ i. style_by (c i) (d i) (f i) (s i)

count-are : (xs : List Placed) → length xs ≡ length (items_at xs)
count-are [] = refl
count-are (x ∷ xs) = ap suc (count-are xs)

pub kept-same : (xs ys : List Placed) (kept : TextStyles) → items_at xs ≡ items_at ys → IsOf xs kept → IsOf ys kept
kept-same xs ys kept e h = record {
  counted = subst (λ (es : Numbered Item). AreOf es kept.counted) (places-are 0 xs ∙ ap (under 0) e ∙ sym (places-are 0 ys)) h.counted;
  count = h.count ∙ count-are xs ∙ ap length e ∙ sym (count-are ys);
  styled = λ q. h.styled q ∙ style-same q xs ys e;
}

-- the last item says the same once it is longer
last-at : (more k : ℕ) (xs : List Placed) → suc k ≡ length xs → items_at (take k xs ++ grown_item more (slice_get xs k)) ≡ items_at xs
last-at more k [] e = absurd (omega arith)
last-at more zero (x ∷ []) e = refl
last-at more zero (x ∷ y ∷ xs) e = absurd (omega arith)
last-at more (suc k) (x ∷ xs) e = ap (λ (l : List Item). x.item ∷ l) (last-at more k xs (omega arith))

last-same : (more : ℕ) (xs : List Placed) → items_at (front_of xs ++ grown_item more (last_of xs)) ≡ items_at xs
last-same more [] = refl
last-same more (x ∷ xs) =
    let here : length (x ∷ xs) - 1 ≡ length xs = omega arith in
    ap (λ (k : ℕ). items_at (take k (x ∷ xs) ++ grown_item more (slice_get (x ∷ xs) k))) here
    ∙ last-at more (length xs) (x ∷ xs) refl

pub behind-same : (xs : List Placed) (g : Grown) → items_at (xs ++ g.items) ≡ items_at (items_behind xs g)
behind-same xs g =
    map-append (λ (p : Placed). p.item) xs g.items
    ∙ ap (λ (l : List Item). l ++ items_at g.items) (sym (last-same g.taken xs))
    ∙ sym (map-append (λ (p : Placed). p.item) (front_of xs ++ grown_item g.taken (last_of xs)) g.items)
    ∙ ap items_at (append_assoc (front_of xs) (grown_item g.taken (last_of xs)) g.items)

append-none : {A : Type 0} (xs : List A) → xs ++ [] ≡ xs
append-none [] = refl
append-none {A = A} (x ∷ xs) = ap (λ (l : List A). x ∷ l) (append-none xs)

pub nothing-behind : {A : Type 0} (xs : List A) → xs ≡ xs ++ []
nothing-behind xs = sym (append-none xs)
