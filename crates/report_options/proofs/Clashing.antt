-- Pairs of items that are walked by their later one.
use Rattle.std.proofs.Common.{◌≡◌, ℕ, ◌+◌, ◌<◌, ◌≤◌, Bool, true, false, List, [], ◌∷◌, ◌++◌, map, find, take, drop, length, get_or, Some, None, refl, sym, ap, ◌∙◌}
use Rattle.std.proofs.lemmas.List.{take_more, drop_all}
use Rattle.std.proofs.Common.{drop-cons, add-one}
use Rattle.std.specs.Option.{option_map, option_or}
use Rattle.report_options.specs.Conflicts.{is_clash, clash_among, pairs_after, pairs, conflict_in, conflict_of, fault_of}
use Rattle.report_options.specs.declared.items.Item.{Item}

clash_append_by : (pair : Item × Item) (xs ys : List (Item × Item)) (b : Bool) → is_clash pair.0.name pair.1.name ≡ b → clash_among (xs ++ ys) ≡ option_or (clash_among xs) (clash_among ys) → clash_among ((pair ∷ xs) ++ ys) ≡ option_or (clash_among (pair ∷ xs)) (clash_among ys)
clash_append_by pair xs ys true e h = rw e refl
clash_append_by pair xs ys false e h = rw e h

pub clash_append : (xs ys : List (Item × Item)) → clash_among (xs ++ ys) ≡ option_or (clash_among xs) (clash_among ys)
clash_append [] ys = refl
clash_append (pair ∷ xs) ys = clash_append_by pair xs ys (is_clash pair.0.name pair.1.name) refl (clash_append xs ys)

-- an item with a later one
abbrev pub with_later : Item → Item → Item × Item
with_later later earlier = (earlier, later)

clash_map_by : (later item : Item) (items : List Item) (b : Bool) → is_clash item.name later.name ≡ b → clash_among (map (with_later later) items) ≡ option_map (with_later later) (find (λ i. is_clash i.name later.name) items) → clash_among (map (with_later later) (item ∷ items)) ≡ option_map (with_later later) (find (λ i. is_clash i.name later.name) (item ∷ items))
clash_map_by later item items true e h = rw e refl
clash_map_by later item items false e h = rw e h

clash_map : (later : Item) (items : List Item) → clash_among (map (with_later later) items) ≡ option_map (with_later later) (find (λ i. is_clash i.name later.name) items)
clash_map later [] = refl
clash_map later (item ∷ items) = clash_map_by later item items (is_clash item.name later.name) refl (clash_map later items)

left_here : (xs : List Item) (i : ℕ) (x : Item) → i < length xs → x ≡ get_or xs i x → drop i xs ≡ x ∷ drop (i + 1) xs
left_here xs i x lt is =
    let cut : drop i xs ≡ get_or xs i x ∷ drop (i + 1) xs = rw (add-one, drop-cons xs i x) refl in
    cut ∙ ap (λ y. y ∷ drop (i + 1) xs) (sym is)

taken_here : (xs : List Item) (i : ℕ) (x : Item) → i < length xs → x ≡ get_or xs i x → take i xs ++ x ∷ [] ≡ take (i + 1) xs
taken_here xs i x lt is = sym (take_more xs i x lt ∙ ap (λ y. take i xs ++ y ∷ []) (sym is))

-- the pairs of one later item, and those of the items behind it
module _ (items : List Item) (i : ℕ) (later : Item) (lt : i < length items) (is : later ≡ get_or items i later) (so_far : clash_among (pairs items) ≡ clash_among (pairs_after (take i items) (drop i items))) where
  split : clash_among (pairs items) ≡ option_or (option_map (with_later later) (find (λ e. is_clash e.name later.name) (take i items))) (clash_among (pairs_after (take (i + 1) items) (drop (i + 1) items)))
  split =
      so_far ∙ ap (λ l. clash_among (pairs_after (take i items) l)) (left_here items i later lt is)
      ∙ clash_append (map (with_later later) (take i items)) (pairs_after (take i items ++ later ∷ []) (drop (i + 1) items))
      ∙ ap (λ o. option_or o (clash_among (pairs_after (take i items ++ later ∷ []) (drop (i + 1) items)))) (clash_map later (take i items))
      ∙ ap (λ l. option_or (option_map (with_later later) (find (λ e. is_clash e.name later.name) (take i items))) (clash_among (pairs_after l (drop (i + 1) items)))) (taken_here items i later lt is)

  pub clash_none : find (λ e. is_clash e.name later.name) (take i items) ≡ None → clash_among (pairs items) ≡ clash_among (pairs_after (take (i + 1) items) (drop (i + 1) items))
  clash_none none = split ∙ rw none refl

  pub clash_found : (earlier : Item) → find (λ e. is_clash e.name later.name) (take i items) ≡ Some earlier → conflict_in items ≡ Some (conflict_of earlier later)
  unfolding conflict_in
  clash_found earlier some =
      let first : clash_among (pairs items) ≡ Some (earlier, later) = split ∙ rw some refl in
      ap fault_of first

pub clash_end : (items : List Item) (i : ℕ) → length items ≤ i → clash_among (pairs items) ≡ clash_among (pairs_after (take i items) (drop i items)) → conflict_in items ≡ None
unfolding conflict_in
clash_end items i le so_far = ap fault_of (so_far ∙ ap (λ l. clash_among (pairs_after (take i items) l)) (drop_all i items le))
