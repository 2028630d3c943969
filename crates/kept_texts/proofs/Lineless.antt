-- Items that say the same of styles, whatever their lines, have the same styles; and a book asks on the same days.
use Rattle.std.proofs.Common.{◌≡◌, ℕ, zero, suc, ◌+◌, ◌<◌, ◌==◌, Bool, true, false, cond, ◌&&◌, List, [], ◌∷◌, ◌++◌, length, take, drop, map, set, filter, refl, sym, ap, subst, ◌∙◌, arith, take-append-drop}
use Rattle.std.specs.Prelude.{nat_lt}
use Rattle.std.specs.List.{flat_map}
use Rattle.std.proofs.lemmas.Bool.{true≢false}
use Rattle.std.proofs.lemmas.Grind.{flat_map-append}
use Rattle.std.proofs.lemmas.List.{length-map}
use Rattle.hl_time.specs.declared.day.Day.{Day}
use Rattle.asked_days.specs.Asked.{AreOf as AsksOf, IsKept as Asked, assigned_among, days_of, days_of_posting}
use Rattle.asked_days.specs.declared.asked.AskedDays.{AskedDays}
use Rattle.book.specs.declared.item.Item.{Item}
use Rattle.book.specs.declared.item.Item.TheVariants as item
use Rattle.book.specs.declared.item.Placed.{Placed}
use Rattle.book.specs.declared.rules.RulePosting.{RulePosting}
use Rattle.book.specs.declared.style.Style.{Style}
use Rattle.book.specs.declared.transaction.Posting.{Posting}
use Rattle.book.specs.declared.transaction.Txn.{Txn}
use Rattle.book.specs.Postings.{postings_of}
use Rattle.book.specs.SumsBefore.{is_assigned}
use Rattle.book.specs.Standing.{Numbered, Rise, all_greater, places_from}
use Rattle.book.specs.Style.{amount_style, commodity_styles, default_styles, first_class, further_styles, of_symbol, rule_styles, said_in, second_class, style_by, style_of}
use Rattle.book.specs.Styles.{said_standing}
use Rattle.counted_styles.specs.Kept.{IsKept, at_number, first_style, how_many}
use Rattle.counted_styles.specs.Texts.{IsOf}
use Rattle.counted_styles.specs.declared.mark.Mark.{Mark}
use Rattle.counted_styles.specs.declared.text.TextStyles.{TextStyles}
use Rattle.moved_lines.proofs.Lists.{filter-moved, flat-same, map-both}
use Rattle.moved_lines.specs.Moving.{moved_from, moved_item, moved_items_from, moved_number, moved_placed, moved_posting, moved_rule_posting, moved_txn}
use Rattle.moved_lines.specs.Relined.{relined_posting}
use Rattle.moved_lines.specs.declared.shift.Offset.{Offset}
use Rattle.moved_lines.specs.declared.shift.Shift.{Shift}
use Rattle.changed_texts.specs.Replacing.{changed_at}

-- ---- items that say the same of styles

pub record SayAlike (i j : Item) : Type 0 where
  pub commodities : commodity_styles j ≡ commodity_styles i
  pub defaults : default_styles j ≡ default_styles i
  pub first : first_class j ≡ first_class i
  pub second : second_class j ≡ second_class i

pub itself : (i : Item) → SayAlike i i
itself i = record { commodities = refl; defaults = refl; first = refl; second = refl }

pub say_same : (i j : Item) → i ≡ j → SayAlike i j
say_same i j e = subst (SayAlike i) e (itself i)

pub lines_alike : (by : Shift) (i : Item) → SayAlike i (moved_item by i)
lines_alike by (item.Txn t) = record {
  commodities = refl;
  defaults = refl;
  first = flat-same (relined_posting (moved_number by)) amount_style (λ p. refl) t.postings;
  second = flat-same (relined_posting (moved_number by)) further_styles (λ p. refl) t.postings;
}
lines_alike by (item.Auto r) = record {
  commodities = refl;
  defaults = refl;
  first = refl;
  second = flat-same (moved_rule_posting by) (λ (p : RulePosting). rule_styles p.posting) (λ p. refl) r.postings;
}
lines_alike by (item.Periodic r) = record {
  commodities = refl;
  defaults = refl;
  first = refl;
  second = flat-same (moved_posting by) rule_styles (λ p. refl) r.postings;
}
lines_alike by item.Gap = itself item.Gap
lines_alike by item.Block = itself item.Block
lines_alike by (item.Price p) = itself (item.Price p)
lines_alike by (item.Directive d) = itself (item.Directive d)

-- two lists of items, of which each says the same as the other
abbrev pub AreAlike : List Placed → List Placed → Type 0
AreAlike [] [] = Unit {0}
AreAlike (x ∷ xs) (y ∷ ys) = SayAlike x.item y.item × AreAlike xs ys
AreAlike _ _ = ⊥

pub all_themselves : (xs : List Placed) → AreAlike xs xs
all_themselves [] = tt
all_themselves (x ∷ xs) = (itself x.item, all_themselves xs)

pub all_moved : (by : Offset) (xs : List Placed) → AreAlike xs (map (moved_placed by) xs)
all_moved by [] = tt
all_moved by (x ∷ xs) = (lines_alike by.lines x.item, all_moved by xs)

pub both_alike : (xs ys vs ws : List Placed) → AreAlike xs ys → AreAlike vs ws → AreAlike (xs ++ vs) (ys ++ ws)
both_alike [] [] vs ws h k = k
both_alike [] (y ∷ ys) vs ws h k = absurd h
both_alike (x ∷ xs) [] vs ws h k = absurd h
both_alike (x ∷ xs) (y ∷ ys) vs ws h k = (h.0, both_alike xs ys vs ws h.1 k)

-- ---- the same under numbers

-- items under the same numbers, of which each says the same as the other
abbrev Stand : Numbered Item → Numbered Item → Type 0
Stand [] [] = Unit {0}
Stand (x ∷ xs) (y ∷ ys) = (x.0 ≡ y.0) × SayAlike x.1 y.1 × Stand xs ys
Stand _ _ = ⊥

stand_from : (n : ℕ) (xs ys : List Placed) → AreAlike xs ys → Stand (places_from n xs) (places_from n ys)
stand_from n [] [] h = tt
stand_from n [] (y ∷ ys) h = absurd h
stand_from n (x ∷ xs) [] h = absurd h
stand_from n (x ∷ xs) (y ∷ ys) h = (refl, h.0, stand_from (suc n) xs ys h.1)

stand_at : (n : ℕ) (xs ys : Numbered Item) → Stand xs ys → Stand (at_number n xs) (at_number n ys)
stand_at n [] [] h = tt
stand_at n [] (y ∷ ys) h = absurd h
stand_at n (x ∷ xs) [] h = absurd h
stand_at n (x ∷ xs) (y ∷ ys) h = by (x.0 == n) (y.0 == n) (ap (λ (k : ℕ). k == n) h.0) (stand_at n xs ys h.2)
  where
    by : (s t : Bool) → s ≡ t → Stand (at_number n xs) (at_number n ys) → Stand (cond s (x ∷ at_number n xs) (at_number n xs)) (cond t (y ∷ at_number n ys) (at_number n ys))
    by true true e rest = (h.0, h.1, rest)
    by false false e rest = rest
    by true false e rest = absurd (true≢false e)
    by false true e rest = absurd (true≢false (sym e))

greater_same : (n : ℕ) (xs ys : Numbered Item) → Stand xs ys → all_greater n ys ≡ all_greater n xs
greater_same n [] [] h = refl
greater_same n [] (y ∷ ys) h = absurd h
greater_same n (x ∷ xs) [] h = absurd h
greater_same n (x ∷ xs) (y ∷ ys) h = λ i. nat_lt n (sym h.0 i) && greater_same n xs ys h.2 i

rise_same : (xs ys : Numbered Item) → Stand xs ys → Rise xs → Rise ys
rise_same [] [] h r = tt
rise_same [] (y ∷ ys) h r = absurd h
rise_same (x ∷ xs) [] h r = absurd h
rise_same (x ∷ xs) (y ∷ ys) h r =
    (ap (λ (k : ℕ). all_greater k ys) (sym h.0) ∙ greater_same x.0 xs ys h.2 ∙ r.0, rise_same xs ys h.2 r.1)

module _ (saying : Item → List (List ℕ × Style)) (same : (i j : Item) → SayAlike i j → saying j ≡ saying i) where
  said_same : (q : List ℕ) (xs ys : Numbered Item) → Stand xs ys → said_standing saying ys q ≡ said_standing saying xs q
  said_same q [] [] h = refl
  said_same q [] (y ∷ ys) h = absurd h
  said_same q (x ∷ xs) [] h = absurd h
  said_same q (x ∷ xs) (y ∷ ys) h = λ i. of_symbol q (same x.1 y.1 h.1 i) ++ said_same q xs ys h.2 i

  class_same : (xs ys : Numbered Item) (firsts many : List Mark) → Stand xs ys → IsKept saying xs firsts many → IsKept saying ys firsts many
  class_same xs ys firsts many h k = record {
    heads = λ symbol n. k.heads symbol n ∙ ap first_style (sym (said_same symbol (at_number n xs) (at_number n ys) (stand_at n xs ys h)));
    counts = λ symbol places. k.counts symbol places ∙ ap (how_many places) (sym (said_same symbol xs ys h));
    some = k.some;
    decimals = k.decimals;
  }

  items_same : (q : List ℕ) (xs ys : List Placed) → AreAlike xs ys → said_in saying ys q ≡ said_in saying xs q
  items_same q [] [] h = refl
  items_same q [] (y ∷ ys) h = absurd h
  items_same q (x ∷ xs) [] h = absurd h
  items_same q (x ∷ xs) (y ∷ ys) h = λ i. of_symbol q (same x.item y.item h.0 i) ++ items_same q xs ys h.1 i

count_same : (xs ys : List Placed) → AreAlike xs ys → length ys ≡ length xs
count_same [] [] h = refl
count_same [] (y ∷ ys) h = absurd h
count_same (x ∷ xs) [] h = absurd h
count_same (x ∷ xs) (y ∷ ys) h = ap suc (count_same xs ys h.1)

-- ---- what is kept of them

-- items that say the same have the same styles
pub alike_kept : (xs ys : List Placed) (kept : TextStyles) → AreAlike xs ys → IsOf xs kept → IsOf ys kept
alike_kept xs ys kept h k =
    let s = stand_from 0 xs ys h in
    let ps = places_from 0 xs in
    let qs = places_from 0 ys in
    let counted = k.counted in
    record {
      counted = record {
        rise = rise_same ps qs s counted.rise;
        commodities = class_same commodity_styles (λ i j a. a.commodities) ps qs kept.counted.commodities.heads kept.counted.commodities.counts s counted.commodities;
        defaults = class_same default_styles (λ i j a. a.defaults) ps qs kept.counted.defaults.heads kept.counted.defaults.counts s counted.defaults;
        first = class_same first_class (λ i j a. a.first) ps qs kept.counted.first.heads kept.counted.first.counts s counted.first;
        second = class_same second_class (λ i j a. a.second) ps qs kept.counted.second.heads kept.counted.second.counts s counted.second;
      };
      count = k.count ∙ sym (count_same xs ys h);
      styled = λ q. k.styled q ∙ sym (styles_same q);
    }
  where
    styles_same : (q : List ℕ) → style_of ys q ≡ style_of xs q
    styles_same q =
        let c = items_same commodity_styles (λ i j a. a.commodities) q xs ys h in
        let d = items_same default_styles (λ i j a. a.defaults) q xs ys h in
        let f = items_same first_class (λ i j a. a.first) q xs ys h in
        let s = items_same second_class (λ i j a. a.second) q xs ys h in
        λ i. style_by (c i) (d i) (f i) (s i)

pub moved_kept : (n : ℕ) (by : Offset) (items : List Placed) (kept : TextStyles) → IsOf items kept → IsOf (moved_items_from n by items) kept
moved_kept n by items kept h =
    alike_kept items (moved_items_from n by items) kept
    (subst (λ (xs : List Placed). AreAlike xs (moved_items_from n by items)) (take-append-drop n items)
    (both_alike (take n items) (take n items) (drop n items) (map (moved_placed by) (drop n items)) (all_themselves (take n items)) (all_moved by (drop n items)))) h

changed_alike : (n : ℕ) (by : Offset) (placed : Placed) (items : List Placed) → n < length items → AreAlike (set items n placed) (changed_at (moved_placed by) n placed items)
changed_alike n by placed [] h = absurd (omega (arith, h))
changed_alike zero by placed (x ∷ xs) h = (itself placed.item, all_moved by xs)
changed_alike (suc n) by placed (x ∷ xs) h = (itself x.item, changed_alike n by placed xs (omega (arith, h)))

pub changed_kept : (n : ℕ) (by : Offset) (placed : Placed) (items : List Placed) (kept : TextStyles) → n < length items → IsOf (set items n placed) kept → IsOf (changed_at (moved_placed by) n placed items) kept
changed_kept n by placed items kept few h = alike_kept (set items n placed) (changed_at (moved_placed by) n placed items) kept (changed_alike n by placed items few) h

-- ---- days

days_same : (by : Shift) (t : Txn) → days_of (moved_txn by t) ≡ days_of t
days_same by t = flat-same (relined_posting (moved_number by)) (days_of_posting t) (λ p. refl) t.postings

pub book_days : (n : ℕ) (by : Shift) (book : List Txn) → flat_map days_of (moved_from n by book) ≡ flat_map days_of book
book_days n by book =
    flat_map-append days_of (take n book) (map (moved_txn by) (drop n book))
    ∙ ap (λ (ds : List Day). flat_map days_of (take n book) ++ ds) (flat-same (moved_txn by) days_of (days_same by) (drop n book))
    ∙ sym (flat_map-append days_of (take n book) (drop n book))
    ∙ ap (flat_map days_of) (take-append-drop n book)

-- ---- assignments

postings_moved : (by : Shift) (ts : List Txn) → postings_of (map (moved_txn by) ts) ≡ map (moved_posting by) (postings_of ts)
postings_moved by [] = refl
postings_moved by (t ∷ ts) =
    ap (λ (ps : List Posting). map (moved_posting by) t.postings ++ ps) (postings_moved by ts) ∙ sym (map-both (moved_posting by) t.postings (postings_of ts))

count_moved : (by : Shift) (ps : List Posting) → assigned_among (map (moved_posting by) ps) ≡ assigned_among ps
count_moved by ps = ap length (filter-moved (moved_posting by) is_assigned (λ p. refl) ps) ∙ length-map (filter is_assigned ps) (moved_posting by)

count_both : (ps qs : List Posting) → assigned_among (ps ++ qs) ≡ assigned_among ps + assigned_among qs
count_both [] qs = omega arith
count_both (p ∷ ps) qs = by (is_assigned p) (count_both ps qs)
  where
    by : (t : Bool) → assigned_among (ps ++ qs) ≡ assigned_among ps + assigned_among qs
        → length (cond t (p ∷ filter is_assigned (ps ++ qs)) (filter is_assigned (ps ++ qs))) ≡ length (cond t (p ∷ filter is_assigned ps) (filter is_assigned ps)) + assigned_among qs
    by true h = omega (arith, h)
    by false h = h

book_assigned : (n : ℕ) (by : Shift) (book : List Txn) → assigned_among (postings_of (moved_from n by book)) ≡ assigned_among (postings_of book)
book_assigned n by book =
    let front = postings_of (take n book) in
    let back = postings_of (drop n book) in
    ap assigned_among (flat_map-append (λ (t : Txn). t.postings) (take n book) (map (moved_txn by) (drop n book)) ∙ ap (λ (ps : List Posting). front ++ ps) (postings_moved by (drop n book)))
    ∙ count_both front (map (moved_posting by) back)
    ∙ ap (λ (k : ℕ). assigned_among front + k) (count_moved by back)
    ∙ sym (count_both front back)
    ∙ ap assigned_among (sym (flat_map-append (λ (t : Txn). t.postings) (take n book) (drop n book)) ∙ ap postings_of (take-append-drop n book))

pub book_asks : (n : ℕ) (by : Shift) (book : List Txn) (asked : AskedDays) → AsksOf book asked → AsksOf (moved_from n by book) asked
book_asks n by book asked h = record {
  days = subst (λ (ds : List Day). Asked ds asked.days) (sym (book_days n by book)) h.days;
  assigned = h.assigned ∙ sym (book_assigned n by book);
}
