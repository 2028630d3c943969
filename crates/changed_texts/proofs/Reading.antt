-- Reading pieces before and behind a change.
use Rattle.std.proofs.Common.{ℕ, suc, ◌≡◌, ◌≤◌, List, [], ◌∷◌, ◌++◌, length, take, drop, map, Option, Result, Ok, Err, refl, sym, ap, ◌∙◌, append_assoc, append-nil}
use Rattle.std.specs.List.{AllByRecursion}
use Rattle.std.proofs.lemmas.Grind.{flat_map-append}
use Rattle.hl_base.specs.declared.items.Piece.{Piece}
use Rattle.book.specs.declared.directive.Directive.{Directive}
use Rattle.book.specs.declared.fault.Fault.{Fault}
use Rattle.book.specs.declared.item.Item.{Item}
use Rattle.book.specs.declared.item.Placed.{Placed}
use Rattle.entry_reader.specs.Causes.{◌>>=◌}
use Rattle.entry_reader.specs.Contexts.{context_from, context_of, directive_in, directives_in}
use Rattle.journal_reader.specs.Items.{reading, reading_from}
use Rattle.moved_lines.specs.Moving.{moved_item, moved_number, moved_piece, moved_placed}
use Rattle.moved_lines.specs.declared.shift.Offset.{Offset}
use Rattle.text_ends.specs.Ends.{items_at}
use Rattle.text_ends.proofs.Stepping.{bound, ok_same, placed_as}
use Rattle.changed_texts.proofs.Late.{Late, late-ok, late-then}
use Rattle.changed_texts.proofs.Pieces.{reading-moved}
use Rattle.changed_texts.proofs.Relining.{directive-stays}

-- ---- contexts

-- items that say the same to those behind them
abbrev pub SayAlike : List Item → List Item → Type 0
SayAlike is js = directives_in js ≡ directives_in is

pub context_alike : (year : Option ℕ) (is js : List Item) → SayAlike is js → context_of year js ≡ context_of year is
context_alike year is js e = ap (context_from year) e

one_more : (is : List Item) (i : Item) → directives_in (is ++ i ∷ []) ≡ directives_in is ++ directive_in i
one_more is i = flat_map-append directive_in is (i ∷ []) ∙ ap (λ (ds : List Directive). directives_in is ++ ds) (append-nil (directive_in i))

pub more_alike : (is js : List Item) (i j : Item) → SayAlike is js → directive_in j ≡ directive_in i → SayAlike (is ++ i ∷ []) (js ++ j ∷ [])
more_alike is js i j e f = one_more js j ∙ (λ k. e k ++ f k) ∙ sym (one_more is i)

-- an item that is no directive says nothing to those behind it
pub same_said : (is : List Item) (i : Item) → directive_in i ≡ [] → directives_in (is ++ i ∷ []) ≡ directives_in is
same_said is i none = one_more is i ∙ ap (λ (ds : List Directive). directives_in is ++ ds) none ∙ append-nil (directives_in is)

-- ---- pieces behind a change

-- A piece of a text begins behind a change, and its bytes are those of the piece that it becomes.
pub record Follows (by : Offset) (old new : List ℕ) (p : Piece) : Type 0 where
  pub line : by.lines.removed ≤ p.line
  pub bytes : take p.len (drop (moved_number by.bytes p.at) new) ≡ take p.len (drop p.at old)

pub follow-late : (year : Option ℕ) (by : Offset) (old new : List ℕ) (is js : List Item) (ps : List Piece) → SayAlike is js → AllByRecursion (Follows by old new) ps
    → Late (moved_number by.lines) (map (moved_placed by)) (reading_from year is old ps) (reading_from year js new (map (moved_piece by) ps))
unfolding reading_from
follow-late year by old new is js [] alike all = late-ok (map (moved_placed by)) [] [] refl
follow-late year by old new is js (p ∷ ps) alike all =
    let there = moved_piece by p in
    let first : reading (context_of year js) there.line (take p.len (drop there.at new)) ≡ reading (context_of year is) (moved_number by.lines p.line) (take p.len (drop p.at old)) =
    (λ k. reading (context_alike year is js alike k) (moved_number by.lines p.line) (all.0.bytes k)) in
    late-then (reading (context_of year is) p.line (take p.len (drop p.at old))) (reading (context_of year js) there.line (take p.len (drop there.at new))) _ _
    (record { is = first ∙ reading-moved (context_of year is) by.lines p.line (take p.len (drop p.at old)) all.0.line }) (λ i.
    late-then (reading_from year (is ++ i ∷ []) old ps) (reading_from year (js ++ moved_item by.lines i ∷ []) new (map (moved_piece by) ps)) _ _
    (follow-late year by old new (is ++ i ∷ []) (js ++ moved_item by.lines i ∷ []) ps (more_alike is js i (moved_item by.lines i) alike (directive-stays by.lines i)) all.1) (λ more.
    late-ok (map (moved_placed by)) _ _ refl))

-- ---- pieces before others

-- What some pieces of a text read as, and the pieces behind them.
pub record Split (year : Option ℕ) (before : List Item) (text : List ℕ) (ps qs : List Piece) (items : List Placed) : Type 0 where
  pub front : List Placed
  pub back : List Placed
  pub items_are : items ≡ front ++ back
  pub count : length front ≡ length ps
  pub front_read : reading_from year before text ps ≡ Ok front
  pub back_read : reading_from year (before ++ items_at front) text qs ≡ Ok back

split_none : (year : Option ℕ) (before : List Item) (text : List ℕ) (qs : List Piece) (items : List Placed) → reading_from year before text qs ≡ Ok items → Split year before text [] qs items
unfolding reading_from
split_none year before text qs items h = record {
  front = [];
  back = items;
  items_are = refl;
  count = refl;
  front_read = refl;
  back_read = ap (λ (is : List Item). reading_from year is text qs) (append-nil before) ∙ h;
}

split_one : (year : Option ℕ) (before : List Item) (text : List ℕ) (p : Piece) (ps qs : List Piece) (items : List Placed) (i : Item) (more : List Placed)
    → reading (context_of year before) p.line (take p.len (drop p.at text)) ≡ Ok i → placed_as p i ∷ more ≡ items → Split year (before ++ i ∷ []) text ps qs more → Split year before text (p ∷ ps) qs items
unfolding reading_from
split_one year before text p ps qs items i more one all s = record {
  front = placed_as p i ∷ s.front;
  back = s.back;
  items_are = sym all ∙ ap (λ (rest : List Placed). placed_as p i ∷ rest) s.items_are;
  count = ap suc s.count;
  front_read =
      ap (λ (r : Result Item Fault). r >>= λ j. reading_from year (before ++ j ∷ []) text ps >>= λ rest. Ok (placed_as p j ∷ rest)) one
      ∙ ap (λ (r : Result (List Placed) Fault). r >>= λ rest. Ok (placed_as p i ∷ rest)) s.front_read;
  back_read = ap (λ (is : List Item). reading_from year is text qs) (sym (append_assoc before (i ∷ []) (items_at s.front))) ∙ s.back_read;
}

pub split : (year : Option ℕ) (before : List Item) (text : List ℕ) (ps qs : List Piece) (items : List Placed) → reading_from year before text (ps ++ qs) ≡ Ok items → Split year before text ps qs items
unfolding reading_from
split year before text [] qs items h = split_none year before text qs items h
split year before text (p ∷ ps) qs items h =
    let one = bound (reading (context_of year before) p.line (take p.len (drop p.at text))) (λ i. reading_from year (before ++ i ∷ []) text (ps ++ qs) >>= λ rest. Ok (placed_as p i ∷ rest)) items h in
    let two = bound (reading_from year (before ++ one.value ∷ []) text (ps ++ qs)) (λ rest. Ok (placed_as p one.value ∷ rest)) items one.second in
    split_one year before text p ps qs items one.value two.value one.first (ok_same (placed_as p one.value ∷ two.value) items two.second)
    (split year (before ++ one.value ∷ []) text ps qs two.value two.first)

-- pieces whose bytes are the same in another text, and any behind them
pub front_again : (year : Option ℕ) (before : List Item) (old new : List ℕ) (ps qs : List Piece) (front : List Placed) → AllByRecursion (λ p. take p.len (drop p.at new) ≡ take p.len (drop p.at old)) ps
    → reading_from year before old ps ≡ Ok front → reading_from year before new (ps ++ qs) ≡ (reading_from year (before ++ items_at front) new qs >>= λ more. Ok (front ++ more))
unfolding reading_from
front_again year before old new [] qs front all h =
    let none : [] ≡ front = ok_same [] front h in
    ap (λ (is : List Item). reading_from year is new qs) (sym (append-nil before)) ∙ as_it_is (reading_from year (before ++ []) new qs)
    ∙ (λ k. reading_from year (before ++ items_at (none k)) new qs >>= λ more. Ok (none k ++ more))
  where
    as_it_is : (r : Result (List Placed) Fault) → r ≡ (r >>= λ more. Ok ([] ++ more))
    as_it_is (Ok more) = refl
    as_it_is (Err fault) = refl
front_again year before old new (p ∷ ps) qs front all h =
    let one = bound (reading (context_of year before) p.line (take p.len (drop p.at old))) (λ i. reading_from year (before ++ i ∷ []) old ps >>= λ rest. Ok (placed_as p i ∷ rest)) front h in
    let two = bound (reading_from year (before ++ one.value ∷ []) old ps) (λ rest. Ok (placed_as p one.value ∷ rest)) front one.second in
    let i = one.value in
    let rest = two.value in
    let whole : placed_as p i ∷ rest ≡ front = ok_same (placed_as p i ∷ rest) front two.second in
    ap (λ (r : Result Item Fault). r >>= λ j. reading_from year (before ++ j ∷ []) new (ps ++ qs) >>= λ more. Ok (placed_as p j ∷ more)) (ap (reading (context_of year before) p.line) all.0 ∙ one.first)
    ∙ ap (λ (r : Result (List Placed) Fault). r >>= λ more. Ok (placed_as p i ∷ more)) (front_again year (before ++ i ∷ []) old new ps qs rest all.1 two.first)
    ∙ regroup (reading_from year ((before ++ i ∷ []) ++ items_at rest) new qs) i rest
    ∙ ap (λ (is : List Item). reading_from year is new qs >>= λ more. Ok (placed_as p i ∷ (rest ++ more))) (append_assoc before (i ∷ []) (items_at rest))
    ∙ (λ k. reading_from year (before ++ items_at (whole k)) new qs >>= λ more. Ok (whole k ++ more))
  where
    regroup : (r : Result (List Placed) Fault) (i : Item) (rest : List Placed) → ((r >>= λ more. Ok (rest ++ more)) >>= λ more. Ok (placed_as p i ∷ more)) ≡ (r >>= λ more. Ok (placed_as p i ∷ (rest ++ more)))
    regroup (Ok more) i rest = refl
    regroup (Err fault) i rest = refl
