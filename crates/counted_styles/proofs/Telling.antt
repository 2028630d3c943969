-- What directives say of symbols, one for each.
use Rattle.std.proofs.Common.{◌≡◌, ℕ, zero, suc, ◌+◌, ◌<◌, Bool, true, false, ◌||◌, cond, List, [], ◌∷◌, ◌++◌, map, length, take, get_or, refl, sym, ap, subst, ◌∙◌, arith}
use Rattle.std.specs.Str.{bytes_eq}
use Rattle.book.specs.declared.item.Item.{Item}
use Rattle.book.specs.declared.item.Placed.{Placed}
use Rattle.book.specs.declared.style.Style.{Style}
use Rattle.book.specs.Standing.{Numbered}
use Rattle.book.specs.Style.{commodity_styles, default_style, default_styles, first_class, last_else, of_symbol, said_in, second_class, style_by, style_of}
use Rattle.book.specs.Styles.{said_standing, style_standing}
use Rattle.counted_styles.specs.declared.mark.Mark.{Mark}
use Rattle.counted_styles.specs.declared.styles.CountedStyles.{CountedStyles}
use Rattle.counted_styles.specs.Directives.{declarations, declared}
use Rattle.counted_styles.specs.Kept.{AreOf, IsKept}
use Rattle.counted_styles.specs.Marks.{AreNamed, is_among, style_of as style_at_mark}
use Rattle.counted_styles.proofs.Naming.{none-kept, same-bytes}
use Rattle.counted_styles.proofs.Reading.{none-said}

further : (f : List ℕ → Style) (names : List (List ℕ)) (i : ℕ) (x : List ℕ) → i < length names → x ≡ get_or names i x → declarations f (take (suc i) names) ≡ declarations f (take i names) ++ declared x (f x) ∷ []
further f [] i x lt e = absurd (omega arith)
further f (n ∷ names) zero x lt e = ap (λ (y : List ℕ). declared y (f y) ∷ []) (sym e)
further f (n ∷ names) (suc i) x lt e = ap (λ (l : List Placed). declared n (f n) ∷ l) (further f names i x (omega arith) e)

pub declared-more : (f : List ℕ → Style) (names : List (List ℕ)) (i : ℕ) (x : List ℕ) → i < length names → x ≡ get_or names i x → declarations f (take (i + 1) names) ≡ declarations f (take i names) ++ declared x (f x) ∷ []
declared-more f names i x lt e =
    let one : suc i ≡ i + 1 = omega arith in
    subst (λ (k : ℕ). declarations f (take k names) ≡ declarations f (take i names) ++ declared x (f x) ∷ []) one (further f names i x lt e)

-- the last directive of a symbol says its style
last-declared : (f : List ℕ → Style) (names : List (List ℕ)) (q : List ℕ) (other : Style) → last_else (said_in commodity_styles (declarations f names) q) other ≡ cond (is_among q names) (f q) other
last-declared f [] q other = refl
last-declared f (n ∷ names) q other = by (bytes_eq n q) refl (λ s. last-declared f names q s)
  where
    known : (b : Bool) → cond b (f q) (f q) ≡ f q
    known true = refl
    known false = refl

    by : (b : Bool) → bytes_eq n q ≡ b → ((s : Style) → last_else (said_in commodity_styles (declarations f names) q) s ≡ cond (is_among q names) (f q) s) → last_else (map (λ (s : List ℕ × Style). s.1) (cond b ((n, f n) ∷ []) []) ++ said_in commodity_styles (declarations f names) q) other ≡ cond (b || is_among q names) (f q) other
    by true e rest =
        rest (f n)
        ∙ ap (λ (s : Style). cond (is_among q names) (f q) s) (ap f (sym (same-bytes n q e)))
        ∙ known (is_among q names)
    by false e rest = rest other

none-by : (saying : Item → List (List ℕ × Style)) → ((q : List ℕ) (s : Style) → saying (declared q s).item ≡ []) → (f : List ℕ → Style) (names : List (List ℕ)) (q : List ℕ) → said_in saying (declarations f names) q ≡ []
none-by saying silent f [] q = refl
none-by saying silent f (n ∷ names) q =
    ap (λ (said : List (List ℕ × Style)). of_symbol q said ++ said_in saying (declarations f names) q) (silent n (f n))
    ∙ none-by saying silent f names q

-- the style of a symbol in the directives: its own if it is one of those, else the default
pub declared-is : (f : List ℕ → Style) (names : List (List ℕ)) (q : List ℕ) → style_of (declarations f names) q ≡ cond (is_among q names) (f q) default_style
declared-is f names q =
    let d = none-by default_styles (λ q s. refl) f names q in
    let p = none-by first_class (λ q s. refl) f names q in
    let o = none-by second_class (λ q s. refl) f names q in
    (λ i. style_by (said_in commodity_styles (declarations f names) q) (d i) (p i) (o i))
    ∙ last-declared f names q default_style

-- of what isn't named nothing is said
none-of : (saying : Item → List (List ℕ × Style)) (es : Numbered Item) (heads counts : List Mark) (names : List (List ℕ)) (q : List ℕ) → IsKept saying es heads counts → AreNamed names heads → is_among q names ≡ false → said_standing saying es q ≡ []
none-of saying es heads counts names q kept named off = none-said saying q es (λ n. sym (kept.heads q n) ∙ ap style_at_mark (none-kept q n names heads named off))

-- the symbols of all marks of what items say are named
pub record AreAllNamed (names : List (List ℕ)) (styles : CountedStyles) : Type 0 where
  pub commodities : AreNamed names styles.commodities.heads
  pub defaults : AreNamed names styles.defaults.heads
  pub first : AreNamed names styles.first.heads
  pub second : AreNamed names styles.second.heads

pub told-all : (es : Numbered Item) (styles : CountedStyles) (names : List (List ℕ)) (q : List ℕ) → AreOf es styles → AreAllNamed names styles → cond (is_among q names) (style_standing es q) default_style ≡ style_standing es q
told-all es styles names q are named = by (is_among q names) refl
  where
    by : (b : Bool) → is_among q names ≡ b → cond b (style_standing es q) default_style ≡ style_standing es q
    by true e = refl
    by false e =
        let c = none-of commodity_styles es styles.commodities.heads styles.commodities.counts names q are.commodities named.commodities e in
        let d = none-of default_styles es styles.defaults.heads styles.defaults.counts names q are.defaults named.defaults e in
        let p = none-of first_class es styles.first.heads styles.first.counts names q are.first named.first e in
        let o = none-of second_class es styles.second.heads styles.second.counts names q are.second named.second e in
        sym (λ i. style_by (c i) (d i) (p i) (o i))
