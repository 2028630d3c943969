-- How many items there are with an entry, and gaps around it, in the place of one.
use Rattle.std.proofs.Common.{◌≡◌, ℕ, zero, suc, ◌+◌, ◌<◌, ◌≤◌, Bool, true, false, cond, ◌&&◌, List, [], ◌∷◌, ◌++◌, length, map, take, drop, Option, Some, None, refl, sym, ap, subst, ◌∙◌, arith, length-take, length-drop}
use Rattle.std.specs.Prelude.{IfSome}
use Rattle.std.specs.Option.{option_to_list}
use Rattle.std.proofs.lemmas.Bool.{false≢true}
use Rattle.std.proofs.lemmas.List.{length-map}
use Rattle.hl_base.specs.declared.items.Kind.{Kind}
use Rattle.hl_base.specs.declared.items.Kind.TheVariants as kinds
use Rattle.book.specs.declared.item.Placed.{Placed}
use Rattle.moved_lines.specs.Moving.{moved_placed}
use Rattle.moved_lines.specs.declared.shift.Offset.{Offset}
use Rattle.text_ends.specs.Ends.{last_of}
use Rattle.text_ends.proofs.Measures.{last_cons}
use Rattle.changed_texts.specs.Meeting.{meeting_items, with_item}
use Rattle.changed_texts.specs.OneEntry.{IsGapBeside, IsMet, beside, first_of, is_gap_item, items_met, more_items, round_entry}
use Rattle.changed_texts.specs.Replacing.{is_entry_kind, is_gap}
use Rattle.changed_texts.specs.declared.met.Met.{Met}

abbrev one_less : Bool → ℕ
one_less b = cond b 1 0

no_gap : (k : Kind) → is_entry_kind k ≡ true → is_gap k ≡ false
no_gap kinds.Entry h = refl
no_gap kinds.Gap h = absurd (false≢true h)
no_gap kinds.Block h = absurd (false≢true h)
no_gap kinds.Head h = absurd (false≢true h)
no_gap kinds.Stray h = absurd (false≢true h)

and_false : (b : Bool) → (b && false) ≡ false
and_false true = refl
and_false false = refl

and_true : (b : Bool) → (b && true) ≡ b
and_true true = refl
and_true false = refl

-- ---- where two gaps meet there is one less

with_count : (p q : Placed) (qs : List Placed) (b : Bool) → (is_gap p.piece.kind && is_gap q.piece.kind) ≡ b
    → length (cond b (record { piece = record p.piece { len = p.piece.len + q.piece.len }; item = p.item } ∷ qs) (p ∷ q ∷ qs)) + one_less b ≡ suc (suc (length qs))
with_count p q qs true e = omega arith
with_count p q qs false e = omega arith

meet_count : (xs ys : List Placed) → length (meeting_items xs ys) + one_less (is_gap_item (last_of xs) && is_gap_item (first_of ys)) ≡ length xs + length ys
meet_count [] ys = omega arith
meet_count (p ∷ []) [] = let e : (is_gap p.piece.kind && false) ≡ false = and_false (is_gap p.piece.kind) in omega (arith, ap one_less e)
meet_count (p ∷ []) (q ∷ qs) = let e = with_count p q qs (is_gap p.piece.kind && is_gap q.piece.kind) refl in omega (arith, e)
meet_count (p ∷ q ∷ ps) ys =
    let more = meet_count (q ∷ ps) ys in
    let last = ap (λ (o : Option Placed). one_less (is_gap_item o && is_gap_item (first_of ys))) (last_cons p q ps) in
    omega (arith, more, last)

first_moved : (by : Offset) (xs : List Placed) → is_gap_item (first_of (map (moved_placed by) xs)) ≡ is_gap_item (first_of xs)
first_moved by [] = refl
first_moved by (x ∷ xs) = refl

-- ---- an entry between others

beside_count : (g : Placed) (o : Option Placed) (b : Bool) → is_gap_item o ≡ b → length (beside (Some g) o) + one_less b ≡ 1
beside_count g o true e = let h : length (beside (Some g) o) ≡ 0 = ap (λ (t : Bool). length (cond {A = List Placed} t [] (g ∷ []))) e in omega (arith, h)
beside_count g o false e = let h : length (beside (Some g) o) ≡ 1 = ap (λ (t : Bool). length (cond {A = List Placed} t [] (g ∷ []))) e in omega (arith, h)

beside_none : (o : Option Placed) (b : Bool) → is_gap_item o ≡ b → length (beside None o) ≡ 0
beside_none o true e = ap (λ (t : Bool). length (cond {A = List Placed} t [] [])) e
beside_none o false e = ap (λ (t : Bool). length (cond {A = List Placed} t [] [])) e

module _ (placed : Placed) (entry : is_entry_kind placed.piece.kind ≡ true) (rest : List Placed) where
  -- with what may stand behind it
  behind_count : (behind : Option Placed) → IfSome behind (λ g. is_gap g.piece.kind ≡ true)
      → length (meeting_items (placed ∷ option_to_list behind) rest) ≡ 1 + length rest + length (beside behind (first_of rest))
  behind_count None h =
      let e : (is_gap placed.piece.kind && is_gap_item (first_of rest)) ≡ false = ap (λ (t : Bool). t && is_gap_item (first_of rest)) (no_gap placed.piece.kind entry) in
      let all = meet_count (placed ∷ []) rest in
      omega (arith, all, ap one_less e, beside_none (first_of rest) (is_gap_item (first_of rest)) refl)
  behind_count (Some g) h =
      let e : (is_gap g.piece.kind && is_gap_item (first_of rest)) ≡ is_gap_item (first_of rest) = ap (λ (t : Bool). t && is_gap_item (first_of rest)) h in
      let all = meet_count (placed ∷ g ∷ []) rest in
      omega (arith, all, ap one_less e, beside_count g (first_of rest) (is_gap_item (first_of rest)) refl)

  -- the entry is the first of them
  first_with : (qs : List Placed) → is_gap_item (first_of (with_item placed qs)) ≡ false
  first_with [] = no_gap placed.piece.kind entry
  first_with (q ∷ qs) = by (is_gap placed.piece.kind && is_gap q.piece.kind) refl
    where
      by : (b : Bool) → (is_gap placed.piece.kind && is_gap q.piece.kind) ≡ b
          → is_gap_item (first_of (cond b (record { piece = record placed.piece { len = placed.piece.len + q.piece.len }; item = placed.item } ∷ qs) (placed ∷ q ∷ qs))) ≡ false
      by true e = no_gap placed.piece.kind entry
      by false e = no_gap placed.piece.kind entry

  first_entry : (behind : Option Placed) → is_gap_item (first_of (meeting_items (placed ∷ option_to_list behind) rest)) ≡ false
  first_entry None = first_with rest
  first_entry (Some g) = no_gap placed.piece.kind entry

  module _ (front : List Placed) (behind : Option Placed) (h : IfSome behind (λ g. is_gap g.piece.kind ≡ true)) where
    around_count : (before : Option Placed) → IfSome before (λ g. is_gap g.piece.kind ≡ true)
        → length (meeting_items front (meeting_items (round_entry before placed behind) rest)) ≡ length front + 1 + length rest + (length (beside before (last_of front)) + length (beside behind (first_of rest)))
    around_count None k =
        let all = meet_count front (meeting_items (placed ∷ option_to_list behind) rest) in
        let none : (is_gap_item (last_of front) && is_gap_item (first_of (meeting_items (placed ∷ option_to_list behind) rest))) ≡ false =
        ap (λ (t : Bool). is_gap_item (last_of front) && t) (first_entry behind) ∙ and_false (is_gap_item (last_of front)) in
        omega (arith, all, ap one_less none, behind_count behind h, beside_none (last_of front) (is_gap_item (last_of front)) refl)
    around_count (Some g) k =
        let all = meet_count front (g ∷ meeting_items (placed ∷ option_to_list behind) rest) in
        let both : (is_gap_item (last_of front) && is_gap g.piece.kind) ≡ is_gap_item (last_of front) = ap (λ (t : Bool). is_gap_item (last_of front) && t) k ∙ and_true (is_gap_item (last_of front)) in
        omega (arith, all, ap one_less both, behind_count behind h, beside_count g (last_of front) (is_gap_item (last_of front)) refl)

gap_of : (gap other : Option Placed) → IsGapBeside gap other → IfSome gap (λ g. is_gap g.piece.kind ≡ true)
gap_of None other h = tt
gap_of (Some g) other h = h.0

-- what stands beside a moved item
beside_as : (gap o p : Option Placed) → is_gap_item o ≡ is_gap_item p → length (beside gap o) ≡ length (beside gap p)
beside_as gap o p e = ap (λ (t : Bool). length (cond {A = List Placed} t [] (option_to_list gap))) e

pub met_count : (n : ℕ) (items : List Placed) (met : Met) → n < length items → IsMet n items met → length (items_met n items met) ≡ length items + more_items n items met
met_count n items met lt h =
    let front = take n items in
    let rest = map (moved_placed met.by) (drop (suc n) items) in
    let all = around_count met.placed h.entry rest front met.behind (gap_of met.behind (first_of (drop (suc n) items)) h.behind) met.before (gap_of met.before (last_of front) h.before) in
    omega (
      arith,
      all,
      lt,
      length-take n items,
      length-drop (suc n) items,
      length-map (drop (suc n) items) (moved_placed met.by),
      beside_as met.behind (first_of rest) (first_of (drop (suc n) items)) (first_moved met.by (drop (suc n) items)),
    )
