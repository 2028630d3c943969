-- An entry is put among items in place: a gap goes into the one that stands beside it, or else stands there by itself.
use Rattle.std.proofs.Common.{◌≡◌, ℕ, zero, suc, ◌+◌, ◌-◌, ◌^◌, ◌<◌, ◌≤◌, Bool, true, false, cond, ◌&&◌, List, [], ◌∷◌, ◌++◌, length, take, drop, map, get_or, set, Option, Some, None, refl, sym, ap, subst, ◌∙◌, arith, append_assoc, length-append, take-append-drop}
use Rattle.std.specs.Prelude.{IfSome, vec_capacity}
use Rattle.std.specs.Option.{option_to_list}
use Rattle.std.specs.List.{slice_get}
use Rattle.std.proofs.lemmas.Bool.{false≢true}
use Rattle.std.proofs.lemmas.List.{length-map, length-take-le}
use Rattle.std.proofs.lemmas.Option.{none-some, same_Some}
use Rattle.std.proofs.Math.Seq.{drop-append_seam, take-append_seam}
use Rattle.book.specs.declared.item.Placed.{Placed}
use Rattle.moved_lines.specs.Moving.{moved_item, moved_placed}
use Rattle.moved_lines.specs.declared.shift.Offset.{Offset}
use Rattle.text_ends.specs.Ends.{last_of}
use Rattle.changed_texts.specs.Meeting.{meeting_items, with_item}
use Rattle.changed_texts.specs.OneEntry.{CanJoin, HasRoom, IsGapBeside, IsMet, IsRoomFor, IsSpread, beside, first_of, is_gap_item, items_met, longer_item, more_items, round_entry}
use Rattle.changed_texts.specs.Replacing.{changed_at, is_entry_kind, is_gap}
use Rattle.changed_texts.specs.declared.met.Met.{Met}
use Rattle.changed_texts.specs.declared.met.Room.{Room}
use Rattle.changed_texts.proofs.Silent.{entry_no_gap, round_meets}

-- ---- the last of some items

-- the last of some, item by item
abbrev pub final : List Placed → Option Placed
final [] = None
final (x ∷ []) = Some x
final (x ∷ y ∷ xs) = final (y ∷ xs)

pub final_is : (xs : List Placed) → last_of xs ≡ final xs
final_is [] = refl
final_is (x ∷ []) = refl
final_is (x ∷ y ∷ xs) =
    let place : length (x ∷ y ∷ xs) - 1 ≡ suc (length (y ∷ xs) - 1) = omega arith in
    ap (λ (k : ℕ). slice_get (x ∷ y ∷ xs) k) place ∙ final_is (y ∷ xs)

-- ---- a gap behind others

-- two gaps are one
pub with_gap : (p g : Placed) (ys : List Placed) → is_gap p.piece.kind ≡ true → is_gap g.piece.kind ≡ true → with_item p (g ∷ ys) ≡ longer_item g.piece.len p ∷ ys
with_gap p g ys e f = λ i. cond {A = List Placed} (e i && f i) (longer_item g.piece.len p ∷ ys) (p ∷ g ∷ ys)

pub with_apart : (p g : Placed) (ys : List Placed) → is_gap p.piece.kind ≡ false → with_item p (g ∷ ys) ≡ p ∷ g ∷ ys
with_apart p g ys e = λ i. cond {A = List Placed} (e i && is_gap g.piece.kind) (longer_item g.piece.len p ∷ ys) (p ∷ g ∷ ys)

-- What becomes of items of which the last before a number is a gap, when one more gap goes into it.
record Joined (k : ℕ) (xs : List Placed) (g new : Placed) : Type 0 where
  rest : drop (suc k) (set xs k new) ≡ drop (suc k) xs
  joined : (more : List Placed) → meeting_items (take (suc k) xs) (g ∷ more) ≡ take (suc k) (set xs k new) ++ more
  count : length (set xs k new) ≡ length xs

join_at : (k : ℕ) (xs : List Placed) (g new d : Placed) → k < length xs → is_gap g.piece.kind ≡ true → is_gap_item (final (take (suc k) xs)) ≡ true → new ≡ longer_item g.piece.len (get_or xs k d) → Joined k xs g new
join_at k [] g new d few gap last is = absurd (omega (arith, few))
join_at zero (x ∷ xs) g new d few gap last is = record {
  rest = refl;
  joined = λ more. with_gap x g more last gap ∙ ap (λ (y : Placed). y ∷ more) (sym is);
  count = refl;
}
join_at (suc k) (x ∷ []) g new d few gap last is = absurd (omega (arith, few))
join_at (suc k) (x ∷ y ∷ xs) g new d few gap last is =
    let j = join_at k (y ∷ xs) g new d (omega (arith, few)) gap last is in
    record {
      rest = j.rest;
      joined = λ more. ap (λ (zs : List Placed). x ∷ zs) (j.joined more);
      count = ap suc j.count;
    }

number_is : (n : ℕ) → 0 < n → suc (n - 1) ≡ n
number_is n h = omega (arith, h)

some_before : (n : ℕ) (xs : List Placed) → is_gap_item (last_of (take n xs)) ≡ true → 0 < n
some_before zero xs h = absurd (false≢true h)
some_before (suc n) xs h = omega arith

module _ (n m : ℕ) (xs : List Placed) (g : Placed) (few : n ≤ length xs) (less : m ≡ n - 1) where
  pub before_is : is_gap_item (last_of (take n xs)) ≡ true → m < length xs
  before_is h = let some = some_before n xs h in omega (arith, few, less, some)

  next_is : is_gap_item (last_of (take n xs)) ≡ true → suc m ≡ n
  next_is h = ap suc less ∙ number_is n (some_before n xs h)

  got_last : (k : ℕ) (ys : List Placed) (d : Placed) → k < length ys → final (take (suc k) ys) ≡ Some (get_or ys k d)
  got_last k [] d h = absurd (omega (arith, h))
  got_last zero (y ∷ ys) d h = refl
  got_last (suc k) (y ∷ []) d h = absurd (omega (arith, h))
  got_last (suc k) (y ∷ z ∷ ys) d h = got_last k (z ∷ ys) d (omega (arith, h))

  last_is : (d : Placed) → is_gap_item (last_of (take n xs)) ≡ true → last_of (take n xs) ≡ Some (get_or xs m d)
  last_is d h = ap (λ (k : ℕ). last_of (take k xs)) (sym (next_is h)) ∙ final_is (take (suc m) xs) ∙ got_last m xs d (before_is h)

  pub fits_before : (d : Placed) → is_gap_item (last_of (take n xs)) ≡ true → IfSome (last_of (take n xs)) (CanJoin g) → (get_or xs m d).piece.len + g.piece.len < 2 ^ 64
  fits_before d h can =
      let join : CanJoin g (get_or xs m d) = subst (λ (o : Option Placed). IfSome o (CanJoin g)) (last_is d h) can in
      let fits = join.fits in
      omega (arith, fits)

  module _ (new : List Placed) (gap : is_gap g.piece.kind ≡ true) (h : is_gap_item (last_of (take n xs)) ≡ true) (is : (d : Placed) → new ≡ set xs m (longer_item g.piece.len (get_or xs m d))) where
    done : Joined m xs g (longer_item g.piece.len (get_or xs m g))
    done =
        join_at m xs g (longer_item g.piece.len (get_or xs m g)) g (before_is h) gap
        (sym (ap is_gap_item (ap (λ (k : ℕ). last_of (take k xs)) (sym (next_is h)) ∙ final_is (take (suc m) xs))) ∙ h) refl

    pub rest_stays : drop n new ≡ drop n xs
    rest_stays =
        ap (drop n) (is g)
        ∙ subst (λ (k : ℕ). drop k (set xs m (longer_item g.piece.len (get_or xs m g))) ≡ drop k xs) (next_is h) done.rest

    pub joined_there : (more : List Placed) → meeting_items (take n xs) (g ∷ more) ≡ take n new ++ more
    joined_there more =
        subst (λ (k : ℕ). meeting_items (take k xs) (g ∷ more) ≡ take k (set xs m (longer_item g.piece.len (get_or xs m g))) ++ more) (next_is h) (done.joined more)
        ∙ ap (λ (zs : List Placed). take n zs ++ more) (sym (is g))

    pub as_many : length new ≡ length xs
    as_many = ap length (is g) ∙ done.count

pub beside_gap : (g : Placed) (o : Option Placed) → is_gap_item o ≡ true → [] ≡ beside (Some g) o
beside_gap g o h = sym (ap (λ (t : Bool). cond {A = List Placed} t [] (g ∷ [])) h)

pub beside_other : (g : Placed) (o : Option Placed) → is_gap_item o ≡ false → g ∷ [] ≡ beside (Some g) o
beside_other g o h = sym (ap (λ (t : Bool). cond {A = List Placed} t [] (g ∷ [])) h)

pub beside_none : (o : Option Placed) → [] ≡ beside None o
beside_none o = by (is_gap_item o)
  where
    by : (t : Bool) → [] ≡ cond {A = List Placed} t [] []
    by true = refl
    by false = refl

-- items of which the last is no gap stand before any gap
pub meets_apart : (xs : List Placed) (g : Placed) (ys : List Placed) → is_gap_item (final xs) ≡ false → meeting_items xs (g ∷ ys) ≡ xs ++ g ∷ ys
meets_apart [] g ys h = refl
meets_apart (x ∷ []) g ys h = with_apart x g ys h
meets_apart (x ∷ y ∷ xs) g ys h = ap (λ (zs : List Placed). x ∷ zs) (meets_apart (y ∷ xs) g ys h)

pub stands_apart : (n : ℕ) (xs : List Placed) (g : Placed) (more : List Placed) → is_gap_item (last_of (take n xs)) ≡ false → meeting_items (take n xs) (g ∷ more) ≡ take n xs ++ (g ∷ [] ++ more)
stands_apart n xs g more h = meets_apart (take n xs) g more (sym (ap is_gap_item (final_is (take n xs))) ∙ h)

-- ---- an item that is no gap behind others

pub with_before : (p y : Placed) (ys : List Placed) → is_gap y.piece.kind ≡ false → with_item p (y ∷ ys) ≡ p ∷ y ∷ ys
with_before p y ys e = (λ i. cond {A = List Placed} (is_gap p.piece.kind && e i) (longer_item y.piece.len p ∷ ys) (p ∷ y ∷ ys)) ∙ by (is_gap p.piece.kind)
  where
    by : (t : Bool) → cond {A = List Placed} (t && false) (longer_item y.piece.len p ∷ ys) (p ∷ y ∷ ys) ≡ p ∷ y ∷ ys
    by true = refl
    by false = refl

pub meets_next : (xs ys : List Placed) → is_gap_item (first_of ys) ≡ false → meeting_items xs ys ≡ xs ++ ys
meets_next [] ys h = refl
meets_next (x ∷ []) [] h = refl
meets_next (x ∷ []) (y ∷ ys) h = with_before x y ys h
meets_next (x ∷ y ∷ xs) ys h = ap (λ (zs : List Placed). x ∷ zs) (meets_next (y ∷ xs) ys h)

pub stands_next : (n : ℕ) (xs more : List Placed) → is_gap_item (first_of more) ≡ false → meeting_items (take n xs) ([] ++ more) ≡ take n xs ++ ([] ++ more)
stands_next n xs more h = meets_next (take n xs) more h

-- ---- a gap before others

record Behind (n : ℕ) (xs : List Placed) (g : Placed) (new : List Placed) : Type 0 where
  front : take n new ≡ take n xs
  joined : with_item g (drop n xs) ≡ drop n new
  count : length new ≡ length xs

join_before : (n : ℕ) (xs : List Placed) (g d : Placed) → is_gap g.piece.kind ≡ true → is_gap_item (first_of (drop n xs)) ≡ true → Behind n xs g (set xs n (longer_item (get_or xs n d).piece.len g))
join_before zero [] g d gap h = absurd (false≢true h)
join_before (suc n) [] g d gap h = absurd (false≢true h)
join_before zero (x ∷ xs) g d gap h = record { front = refl; joined = with_gap g x xs gap h; count = refl }
join_before (suc n) (x ∷ xs) g d gap h =
    let j = join_before n xs g d gap h in
    record { front = ap (λ (zs : List Placed). x ∷ zs) j.front; joined = j.joined; count = ap suc j.count }

pub some_there : (n : ℕ) (xs : List Placed) → is_gap_item (first_of (drop n xs)) ≡ true → n < length xs
some_there zero [] h = absurd (false≢true h)
some_there (suc n) [] h = absurd (false≢true h)
some_there zero (x ∷ xs) h = omega arith
some_there (suc n) (x ∷ xs) h = let rest = some_there n xs h in omega (arith, rest)

first_there : (n : ℕ) (xs : List Placed) (d : Placed) → n < length xs → first_of (drop n xs) ≡ Some (get_or xs n d)
first_there n [] d h = absurd (omega (arith, h))
first_there zero (x ∷ xs) d h = refl
first_there (suc n) (x ∷ xs) d h = first_there n xs d (omega (arith, h))

pub fits_behind : (n : ℕ) (xs : List Placed) (g d : Placed) (more : ℕ) → is_gap_item (first_of (drop n xs)) ≡ true → IfSome (first_of (drop n xs)) (CanJoin g) → more ≡ (get_or xs n d).piece.len → g.piece.len + more < 2 ^ 64
fits_behind n xs g d more h can e =
    let join : CanJoin g (get_or xs n d) = subst (λ (o : Option Placed). IfSome o (CanJoin g)) (first_there n xs d (some_there n xs h)) can in
    let fits = join.fits in
    omega (arith, fits, e)

module _ (n : ℕ) (xs new : List Placed) (g longer : Placed) (more : ℕ) (gap : is_gap g.piece.kind ≡ true) (h : is_gap_item (first_of (drop n xs)) ≡ true) (len : (d : Placed) → more ≡ (get_or xs n d).piece.len) (made : longer ≡ longer_item more g)
    (is : new ≡ set xs n longer) where
  there : new ≡ set xs n (longer_item (get_or xs n g).piece.len g)
  there = is ∙ ap (set xs n) (made ∙ ap (λ (k : ℕ). longer_item k g) (len g))

  pub front_stays : take n new ≡ take n xs
  front_stays = ap (take n) there ∙ (join_before n xs g g gap h).front

  pub joined_behind : meeting_items (g ∷ []) (drop n xs) ≡ drop n new
  joined_behind = (join_before n xs g g gap h).joined ∙ ap (drop n) (sym there)

  pub still_many : length new ≡ length xs
  still_many = ap length there ∙ (join_before n xs g g gap h).count

with_first : (g : Placed) (ys : List Placed) → is_gap_item (first_of ys) ≡ false → with_item g ys ≡ g ∷ ys
with_first g [] h = refl
with_first g (y ∷ ys) h = with_before g y ys h

pub stands_first : (n : ℕ) (xs : List Placed) (g : Placed) → is_gap_item (first_of (drop n xs)) ≡ false → meeting_items (g ∷ []) (drop n xs) ≡ g ∷ [] ++ drop n xs
stands_first n xs g h = with_first g (drop n xs) h

-- ---- items of which one is changed

module _ (by : Offset) (placed : Placed) where
  abbrev with_it : ℕ → List Placed → List Placed
  with_it n items = changed_at (moved_placed by) n placed items

  changed_front : (n : ℕ) (items : List Placed) → n < length items → take n (with_it n items) ≡ take n items
  changed_front n [] h = absurd (omega (arith, h))
  changed_front zero (x ∷ xs) h = refl
  changed_front (suc n) (x ∷ xs) h = ap (λ (zs : List Placed). x ∷ zs) (changed_front n xs (omega (arith, h)))

  changed_rest : (n : ℕ) (items : List Placed) → n < length items → drop (suc n) (with_it n items) ≡ map (moved_placed by) (drop (suc n) items)
  changed_rest n [] h = absurd (omega (arith, h))
  changed_rest zero (x ∷ xs) h = refl
  changed_rest (suc n) (x ∷ xs) h = changed_rest n xs (omega (arith, h))

  changed_count : (n : ℕ) (items : List Placed) → n < length items → length (with_it n items) ≡ length items
  changed_count n [] h = absurd (omega (arith, h))
  changed_count zero (x ∷ xs) h = ap suc (length-map xs (moved_placed by))
  changed_count (suc n) (x ∷ xs) h = ap suc (changed_count n xs (omega (arith, h)))

  changed_here : (n : ℕ) (items : List Placed) → n < length items → slice_get (with_it n items) n ≡ Some placed
  changed_here n [] h = absurd (omega (arith, h))
  changed_here zero (x ∷ xs) h = refl
  changed_here (suc n) (x ∷ xs) h = changed_here n xs (omega (arith, h))

moved_first : (by : Offset) (zs : List Placed) → is_gap_item (first_of (map (moved_placed by) zs)) ≡ is_gap_item (first_of zs)
moved_first by [] = refl
moved_first by (z ∷ zs) = refl

moved_join : (by : Offset) (g : Placed) (zs : List Placed) → IfSome (first_of zs) (CanJoin g) → IfSome (first_of (map (moved_placed by) zs)) (CanJoin g)
moved_join by g [] h = tt
moved_join by g (z ∷ zs) h = record { says = λ gap. ap (moved_item by.lines) (h.says gap); fits = h.fits }

moved_beside : (by : Offset) (gap : Option Placed) (zs : List Placed) → IsGapBeside gap (first_of zs) → IsGapBeside gap (first_of (map (moved_placed by) zs))
moved_beside by None zs h = tt
moved_beside by (Some g) zs h = (h.0, h.1, moved_join by g zs h.2)

next_number : (n m : ℕ) → m ≡ n + 1 → suc n ≡ m
next_number n m e = omega (arith, e)

-- ---- lists

take_less : (n : ℕ) (xs : List Placed) → take n (take (suc n) xs) ≡ take n xs
take_less zero xs = refl
take_less (suc n) [] = refl
take_less (suc n) (x ∷ xs) = ap (λ (zs : List Placed). x ∷ zs) (take_less n xs)

got_take : (n : ℕ) (xs : List Placed) → slice_get (take (suc n) xs) n ≡ slice_get xs n
got_take zero [] = refl
got_take (suc n) [] = refl
got_take zero (x ∷ xs) = refl
got_take (suc n) (x ∷ xs) = got_take n xs

drop_got : (n : ℕ) (xs : List Placed) (x : Placed) → slice_get xs n ≡ Some x → drop n xs ≡ x ∷ drop (suc n) xs
drop_got n [] x h = absurd (none-some x h)
drop_got zero (y ∷ ys) x h = λ i. same_Some y x h i ∷ ys
drop_got (suc n) (y ∷ ys) x h = drop_got n ys x h

no_items : (x : Placed) (zs : List Placed) → (let none : List Placed = [] in none) ≡ x ∷ zs → ⊥
no_items x zs h = cc

take_next : (n : ℕ) (xs : List Placed) (x : Placed) (zs : List Placed) → drop n xs ≡ x ∷ zs → take (suc n) xs ≡ take n xs ++ x ∷ []
take_next zero xs x zs h = ap (take 1) h
take_next (suc n) [] x zs h = absurd (no_items x zs h)
take_next (suc n) (y ∷ ys) x zs h = ap (λ (ws : List Placed). y ∷ ws) (take_next n ys x zs h)

drop_next : (n : ℕ) (xs : List Placed) (x : Placed) (zs : List Placed) → drop n xs ≡ x ∷ zs → drop (suc n) xs ≡ zs
drop_next zero xs x zs h = ap (drop 1) h
drop_next (suc n) [] x zs h = absurd (no_items x zs h)
drop_next (suc n) (y ∷ ys) x zs h = drop_next n ys x zs h

split_count : (m : ℕ) (xs ys : List Placed) → length (take m xs ++ (ys ++ drop m xs)) ≡ length xs + length ys
split_count m xs ys =
    let parts : length (take m xs) + length (drop m xs) ≡ length xs = sym (length-append (take m xs) (drop m xs)) ∙ ap length (take-append-drop m xs) in
    omega (arith, parts, length-append (take m xs) (ys ++ drop m xs), length-append ys (drop m xs))

-- what a vector holds that lent its items, which stay as many
pub written_back : (new old : List Placed) (len : ℕ) → length new ≡ len → take len (new ++ drop (length new) old) ≡ new
written_back new old len e = ap (λ (k : ℕ). take k (new ++ drop (length new) old)) (sym e) ∙ take-append_seam new (drop (length new) old)

-- ---- an entry in its place

module _ (n m : ℕ) (items : List Placed) (by : Offset) (before behind : Option Placed) (placed : Placed) (number : n < length items) (gap_before : IsGapBeside before (last_of (take n items))) (gap_behind : IsGapBeside behind (first_of (drop (suc n) items)))
    (entry : is_entry_kind placed.piece.kind ≡ true) (step : m ≡ n + 1) (all0 : List Placed) (first : all0 ≡ changed_at (moved_placed by) n placed items) where
  after_is : drop m all0 ≡ map (moved_placed by) (drop (suc n) items)
  after_is = (λ i. drop (sym (next_number n m step) i) (first i)) ∙ changed_rest by placed n items number

  pub count_is : length all0 ≡ length items
  count_is = ap length first ∙ changed_count by placed n items number

  pub m_within : m ≤ length all0
  m_within = omega (arith, number, step, count_is)

  pub beside_behind : IsGapBeside behind (first_of (drop m all0))
  beside_behind = subst (λ (zs : List Placed). IsGapBeside behind (first_of zs)) (sym after_is) (moved_beside by behind (drop (suc n) items) gap_behind)

  module _ (all1 : List Placed) (after : Option Placed) (front1 : take m all1 ≡ take m all0) (joined1 : meeting_items (option_to_list behind) (drop m all0) ≡ option_to_list after ++ drop m all1) (left1 : option_to_list after ≡ beside behind (first_of (drop m all0)))
      (count1 : length all1 ≡ length all0) where
    front_is : take n all1 ≡ take n items
    front_is =
        let next = next_number n m step in
        sym (take_less n all1)
        ∙ ap (λ (k : ℕ). take n (take k all1)) next ∙ ap (take n) front1 ∙ ap (λ (k : ℕ). take n (take k all0)) (sym next)
        ∙ take_less n all0 ∙ ap (take n) first ∙ changed_front by placed n items number

    here1 : slice_get all1 n ≡ Some placed
    here1 =
        let next = next_number n m step in
        sym (got_take n all1)
        ∙ ap (λ (k : ℕ). slice_get (take k all1) n) next ∙ ap (λ (xs : List Placed). slice_get xs n) front1 ∙ ap (λ (k : ℕ). slice_get (take k all0) n) (sym next)
        ∙ got_take n all0 ∙ ap (λ (xs : List Placed). slice_get xs n) first ∙ changed_here by placed n items number

    pub n_within : n ≤ length all1
    n_within = omega (arith, number, count1, count_is)

    pub beside_before : IsGapBeside before (last_of (take n all1))
    beside_before = subst (λ (zs : List Placed). IsGapBeside before (last_of zs)) (sym front_is) gap_before

    last_is_apart : option_to_list after ≡ beside behind (first_of (drop (suc n) items))
    last_is_apart =
        left1
        ∙ ap (λ (t : Bool). cond {A = List Placed} t [] (option_to_list behind)) (ap (λ (zs : List Placed). is_gap_item (first_of zs)) after_is ∙ moved_first by (drop (suc n) items))

    module _ (all2 : List Placed) (ahead : Option Placed) (rest2 : drop n all2 ≡ drop n all1)
        (joined2 : (more : List Placed) → is_gap_item (first_of more) ≡ false → meeting_items (take n all1) (option_to_list before ++ more) ≡ take n all2 ++ (option_to_list ahead ++ more)) (left2 : option_to_list ahead ≡ beside before (last_of (take n all1)))
        (count2 : length all2 ≡ length all1) where
      there2 : drop n all2 ≡ placed ∷ drop m all1
      there2 = rest2 ∙ drop_got n all1 placed here1 ∙ ap (λ (k : ℕ). placed ∷ drop k all1) (next_number n m step)

      rest_is : drop (suc n) all2 ≡ drop m all1
      rest_is = drop_next n all2 placed (drop m all1) there2

      all_are : meeting_items (take n items) (meeting_items (round_entry before placed behind) (map (moved_placed by) (drop (suc n) items))) ≡ take n all2 ++ (option_to_list ahead ++ placed ∷ (option_to_list after ++ drop (suc n) all2))
      all_are =
          let rest = map (moved_placed by) (drop (suc n) items) in
          let back : meeting_items (option_to_list behind) rest ≡ option_to_list after ++ drop (suc n) all2 =
          ap (meeting_items (option_to_list behind)) (sym after_is) ∙ joined1 ∙ ap (λ (zs : List Placed). option_to_list after ++ zs) (sym rest_is) in
          ap (meeting_items (take n items)) (round_meets before placed behind rest entry)
          ∙ ap (λ (zs : List Placed). meeting_items (take n items) (option_to_list before ++ placed ∷ zs)) back
          ∙ ap (λ (zs : List Placed). meeting_items zs (option_to_list before ++ placed ∷ (option_to_list after ++ drop (suc n) all2))) (sym front_is)
          ∙ joined2 (placed ∷ (option_to_list after ++ drop (suc n) all2)) (entry_no_gap placed.piece.kind entry)

      pub is_spread : IsSpread n items by before placed behind all2 ahead after
      is_spread = record {
        here = there2 ∙ ap (λ (zs : List Placed). placed ∷ zs) (sym rest_is);
        all = all_are;
        first = left2 ∙ ap (λ (zs : List Placed). beside before (last_of zs)) front_is;
        last = last_is_apart;
        count = count2 ∙ count1 ∙ count_is;
      }

-- ---- the gaps that stand apart

module _ (n m : ℕ) (items put : List Placed) (met : Met) (ahead after : Option Placed) (number : n < length items) (is_met : IsMet n items met) (step : m ≡ n + 1) (s : IsSpread n items met.by met.before met.placed met.behind put ahead after) where
  room_by : (room : Option Room) → HasRoom (length items) (more_items n items met) room → IfSome room (IsRoomFor (length put))
  room_by None h = tt
  room_by (Some room) h = let some = h.some in record { none = h.none; some = omega (arith, s.count, some) }

  pub room_is : IfSome met.room (IsRoomFor (length put))
  room_is = room_by met.room is_met.room

  ahead_count : length (option_to_list ahead) ≡ length (beside met.before (last_of (take n items)))
  ahead_count = ap length s.first

  after_count : length (option_to_list after) ≡ length (beside met.behind (first_of (drop (suc n) items)))
  after_count = ap length s.last

  module _ (all3 : List Placed) (capacity : ℕ) (all3_is : all3 ≡ put) (roomy : IfSome met.room (λ r. vec_capacity r.items ≤ capacity)) where
    enough : (room : Option Room) → HasRoom (length items) (more_items n items met) room → IfSome room (λ r. vec_capacity r.items ≤ capacity) → 0 < more_items n items met → length items + more_items n items met ≤ capacity
    enough None h k some = absurd (omega (arith, h, some))
    enough (Some room) h k some = let least = h.some in omega (arith, least, k)

    count3 : length all3 ≡ length items
    count3 = ap length all3_is ∙ s.count

    pub m_still : m ≤ length all3
    m_still = omega (arith, number, step, count3)

    after_by : (o : Option Placed) → length (option_to_list o) ≡ length (beside met.behind (first_of (drop (suc n) items))) → IfSome o (λ x. length all3 < capacity)
    after_by None e = tt
    after_by (Some x) e =
        let fits = enough met.room is_met.room roomy (omega (arith, e)) in
        omega (arith, fits, count3, e)

    pub after_fits : IfSome after (λ x. length all3 < capacity)
    after_fits = after_by after after_count

    module _ (all4 : List Placed) (larger : ℕ) (all4_is : all4 ≡ take m all3 ++ (option_to_list after ++ drop m all3)) (still : capacity ≤ larger) where
      abbrev front : List Placed
      front = take n put

      abbrev back : List Placed
      back = option_to_list after ++ drop (suc n) put

      front_count : length front ≡ n
      front_count = let many = s.count in length-take-le n put (omega (arith, number, many))

      all_so_far : all4 ≡ front ++ met.placed ∷ back
      all_so_far =
          let next = next_number n m step in
          all4_is ∙ ap (λ (xs : List Placed). take m xs ++ (option_to_list after ++ drop m xs)) all3_is
          ∙ ap (λ (k : ℕ). take k put ++ (option_to_list after ++ drop k put)) (sym next)
          ∙ ap (λ (zs : List Placed). zs ++ (option_to_list after ++ drop (suc n) put)) (take_next n put met.placed (drop (suc n) put) s.here)
          ∙ append_assoc (take n put) (met.placed ∷ []) (option_to_list after ++ drop (suc n) put)

      count4 : length all4 ≡ length items + length (option_to_list after)
      count4 =
          ap length (all4_is ∙ ap (λ (xs : List Placed). take m xs ++ (option_to_list after ++ drop m xs)) all3_is) ∙ split_count m put (option_to_list after) ∙ ap (λ (k : ℕ). k + length (option_to_list after)) s.count

      pub n_still : n ≤ length all4
      n_still = omega (arith, number, count4)

      ahead_by : (o : Option Placed) → length (option_to_list o) ≡ length (beside met.before (last_of (take n items))) → IfSome o (λ x. length all4 < larger)
      ahead_by None e = tt
      ahead_by (Some x) e =
          let fits = enough met.room is_met.room roomy (omega (arith, e)) in
          omega (arith, fits, count4, after_count, e, still)

      pub ahead_fits : IfSome ahead (λ x. length all4 < larger)
      ahead_fits = ahead_by ahead ahead_count

      pub all_met : (all5 : List Placed) → all5 ≡ take n all4 ++ (option_to_list ahead ++ drop n all4) → all5 ≡ items_met n items met
      all_met all5 e =
          let take_is : take n all4 ≡ front = (λ i. take (sym front_count i) (all_so_far i)) ∙ take-append_seam front (met.placed ∷ back) in
          let drop_is : drop n all4 ≡ met.placed ∷ back = (λ i. drop (sym front_count i) (all_so_far i)) ∙ drop-append_seam front (met.placed ∷ back) in
          e ∙ (λ i. take_is i ++ (option_to_list ahead ++ drop_is i)) ∙ sym s.all
