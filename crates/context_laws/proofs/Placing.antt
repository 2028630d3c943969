-- Reading the pieces of a text one after the other reads each in the filter of the items before it.
use Rattle.std.proofs.Common.{◌≡◌, ℕ, zero, suc, List, [], ◌∷◌, ◌++◌, take, drop, Option, Some, None, Result, Ok, Err, refl, sym, ap, subst, ◌∙◌, append_assoc}
use Rattle.std.specs.List.{slice_get}
use Rattle.std.proofs.lemmas.List.{append-nil}
use Rattle.hl_base.specs.declared.items.Piece.{Piece}
use Rattle.book.specs.declared.fault.Fault.{Fault}
use Rattle.book.specs.declared.item.Item.{Item}
use Rattle.book.specs.declared.item.Placed.{Placed}
use Rattle.entry_reader.specs.Causes.{◌>>=◌}
use Rattle.entry_reader.specs.Contexts.{Context, context_of}
use Rattle.journal_reader.specs.Items.{items_in, reading, reading_from}
use Rattle.context_laws.specs.Places.{AreRead, IsUnread, items_of, pieces_of, read_after}
use Rattle.context_laws.proofs.Filtered.{context_is}

ok_is : {A : Type 0} (a b : A) → ◌≡◌ {A = Result A Fault} (Ok a) (Ok b) → a ≡ b
ok_is a b h = cc

err_is : {A : Type 0} (a b : Fault) → ◌≡◌ {A = Result A Fault} (Err a) (Err b) → a ≡ b
err_is a b h = cc

err≢ok : {A : Type 0} (f : Fault) (a : A) → ◌≡◌ {A = Result A Fault} (Err f) (Ok a) → ⊥
err≢ok f a h = cc

ok≢err : {A : Type 0} (a : A) (f : Fault) → ◌≡◌ {A = Result A Fault} (Ok a) (Err f) → ⊥
ok≢err a f h = cc

some_is : {A : Type 0} (a b : A) → ◌≡◌ {A = Option A} (Some a) (Some b) → a ≡ b
some_is a b h = cc

none≢some : {A : Type 0} (a : A) → ◌≡◌ {A = Option A} None (Some a) → ⊥
none≢some a h = cc

module _ (year : Option ℕ) (text : List ℕ) where
  -- what a piece reads as in the context that the reader keeps
  abbrev kept_after : List Item → Piece → Result Item Fault
  kept_after before piece = reading (context_of year before) piece.line (take piece.len (drop piece.at text))

  kept_is : (before : List Item) (piece : Piece) → kept_after before piece ≡ read_after year text before piece
  kept_is before piece = ap (λ (c : Context). reading c piece.line (take piece.len (drop piece.at text))) (context_is year before)

  -- each of these items is what its piece reads as after these and those before it
  abbrev ReadsFrom : List Item → List Placed → Type 0
  ReadsFrom before placed = (n : ℕ) (p : Placed) → slice_get placed n ≡ Some p → read_after year text (before ++ items_of (take n placed)) p.piece ≡ Ok p.item

  further : (before : List Item) (p : Placed) (placed : List Placed) → read_after year text before p.piece ≡ Ok p.item → ReadsFrom (before ++ p.item ∷ []) placed → ReadsFrom before (p ∷ placed)
  further before p placed one more zero q h = subst (λ (x : Placed). read_after year text (before ++ []) x.piece ≡ Ok x.item) (some_is p q h) (ap (λ (b : List Item). read_after year text b p.piece) (append-nil before) ∙ one)
  further before p placed one more (suc n) q h = ap (λ (b : List Item). read_after year text b q.piece) (sym (append_assoc before (p.item ∷ []) (items_of (take n placed)))) ∙ more n q h

  first_reads : (before : List Item) (p : Placed) (placed : List Placed) → ReadsFrom before (p ∷ placed) → read_after year text before p.piece ≡ Ok p.item
  first_reads before p placed h = ap (λ (b : List Item). read_after year text b p.piece) (sym (append-nil before)) ∙ h zero p refl

  rest_reads : (before : List Item) (p : Placed) (placed : List Placed) → ReadsFrom before (p ∷ placed) → ReadsFrom (before ++ p.item ∷ []) placed
  rest_reads before p placed h n q at = ap (λ (b : List Item). read_after year text b q.piece) (append_assoc before (p.item ∷ []) (items_of (take n placed))) ∙ h (suc n) q at

  -- ---- what reads

  abbrev onto : Piece → Item → Result (List Placed) Fault → Result (List Placed) Fault
  onto p i read = read >>= λ more. Ok (record { piece = p; item = i } ∷ more)

  abbrev after_first : List Item → Piece → List Piece → Result Item Fault → Result (List Placed) Fault
  after_first before p ps read = read >>= λ i. onto p i (reading_from year (before ++ i ∷ []) text ps)

  cut_first : (before : List Item) (p : Piece) (ps : List Piece) → reading_from year before text (p ∷ ps) ≡ after_first before p ps (read_after year text before p)
  unfolding reading_from
  cut_first before p ps = ap (after_first before p ps) (kept_is before p)

  none_left : (before : List Item) → reading_from year before text [] ≡ Ok []
  unfolding reading_from
  none_left before = refl

  record Reads (before : List Item) (ps : List Piece) (placed : List Placed) : Type 0 where
    pieces : pieces_of placed ≡ ps
    each : ReadsFrom before placed

  add_first : (before : List Item) (p : Piece) (i : Item) (ps : List Piece) (read : Result (List Placed) Fault) (placed : List Placed) → read_after year text before p ≡ Ok i
      → ((more : List Placed) → read ≡ Ok more → Reads (before ++ i ∷ []) ps more) → onto p i read ≡ Ok placed → Reads before (p ∷ ps) placed
  add_first before p i ps (Err f) placed one rest h = absurd (err≢ok f placed h)
  add_first before p i ps (Ok more) placed one rest h =
      let q : Placed = record { piece = p; item = i } in
      let m = rest more refl in
      subst (Reads before (p ∷ ps)) (ok_is (q ∷ more) placed h) (record { pieces = ap (λ (xs : List Piece). p ∷ xs) m.pieces; each = further before q more one m.each })

  by_first : (before : List Item) (p : Piece) (ps : List Piece) (read : Result Item Fault) (placed : List Placed) → read_after year text before p ≡ read
      → ((i : Item) (more : List Placed) → reading_from year (before ++ i ∷ []) text ps ≡ Ok more → Reads (before ++ i ∷ []) ps more) → after_first before p ps read ≡ Ok placed → Reads before (p ∷ ps) placed
  by_first before p ps (Err f) placed is rest h = absurd (err≢ok f placed h)
  by_first before p ps (Ok i) placed is rest h = add_first before p i ps (reading_from year (before ++ i ∷ []) text ps) placed is (rest i) h

  no_pieces : (before : List Item) → Reads before [] []
  no_pieces before = record { pieces = refl; each = λ n p h. absurd (none≢some p h) }

  all_read : (before : List Item) (ps : List Piece) (placed : List Placed) → reading_from year before text ps ≡ Ok placed → Reads before ps placed
  all_read before [] placed h = subst (Reads before []) (ok_is [] placed (sym (none_left before) ∙ h)) (no_pieces before)
  all_read before (p ∷ ps) placed h = by_first before p ps (read_after year text before p) placed refl (λ i. all_read (before ++ i ∷ []) ps) (sym (cut_first before p ps) ∙ h)

  back : (before : List Item) (placed : List Placed) → ReadsFrom before placed → reading_from year before text (pieces_of placed) ≡ Ok placed
  back before [] h = none_left before
  back before (p ∷ placed) h =
      cut_first before p.piece (pieces_of placed)
      ∙ ap (after_first before p.piece (pieces_of placed)) (first_reads before p placed h)
      ∙ ap (onto p.piece p.item) (back (before ++ p.item ∷ []) placed (rest_reads before p placed h))

  -- ---- what doesn't

  record Fails (before : List Item) (ps : List Piece) (fault : Fault) : Type 0 where
    front : List Placed
    piece : Piece
    later : List Piece
    pieces : ps ≡ pieces_of front ++ piece ∷ later
    each : ReadsFrom before front
    fails : read_after year text (before ++ items_of front) piece ≡ Err fault

  fails_first : (before : List Item) (p : Piece) (ps : List Piece) (fault : Fault) → read_after year text before p ≡ Err fault → Fails before (p ∷ ps) fault
  fails_first before p ps fault h = record {
    front = [];
    piece = p;
    later = ps;
    pieces = refl;
    each = λ n q at. absurd (none≢some q at);
    fails = ap (λ (b : List Item). read_after year text b p) (append-nil before) ∙ h;
  }

  fails_later : (before : List Item) (p : Piece) (i : Item) (ps : List Piece) (fault : Fault) → read_after year text before p ≡ Ok i → Fails (before ++ i ∷ []) ps fault → Fails before (p ∷ ps) fault
  fails_later before p i ps fault one f =
      let q : Placed = record { piece = p; item = i } in record {
        front = q ∷ f.front;
        piece = f.piece;
        later = f.later;
        pieces = ap (λ (xs : List Piece). p ∷ xs) f.pieces;
        each = further before q f.front one f.each;
        fails = ap (λ (b : List Item). read_after year text b f.piece) (sym (append_assoc before (i ∷ []) (items_of f.front))) ∙ f.fails;
      }

  fails_rest : (before : List Item) (p : Piece) (i : Item) (ps : List Piece) (read : Result (List Placed) Fault) (fault : Fault) → read_after year text before p ≡ Ok i
      → ((f : Fault) → read ≡ Err f → Fails (before ++ i ∷ []) ps f) → onto p i read ≡ Err fault → Fails before (p ∷ ps) fault
  fails_rest before p i ps (Ok more) fault one rest h = absurd (ok≢err (record { piece = p; item = i } ∷ more) fault h)
  fails_rest before p i ps (Err f) fault one rest h = subst (Fails before (p ∷ ps)) (err_is {A = List Placed} f fault h) (fails_later before p i ps f one (rest f refl))

  fails_by : (before : List Item) (p : Piece) (ps : List Piece) (read : Result Item Fault) (fault : Fault) → read_after year text before p ≡ read
      → ((i : Item) (f : Fault) → reading_from year (before ++ i ∷ []) text ps ≡ Err f → Fails (before ++ i ∷ []) ps f) → after_first before p ps read ≡ Err fault → Fails before (p ∷ ps) fault
  fails_by before p ps (Err f) fault is rest h = fails_first before p ps fault (is ∙ ap (λ (x : Fault). Err x) (err_is {A = List Placed} f fault h))
  fails_by before p ps (Ok i) fault is rest h = fails_rest before p i ps (reading_from year (before ++ i ∷ []) text ps) fault is (rest i) h

  one_fails : (before : List Item) (ps : List Piece) (fault : Fault) → reading_from year before text ps ≡ Err fault → Fails before ps fault
  one_fails before [] fault h = absurd (ok≢err [] fault (sym (none_left before) ∙ h))
  one_fails before (p ∷ ps) fault h = fails_by before p ps (read_after year text before p) fault refl (λ i. one_fails (before ++ i ∷ []) ps) (sym (cut_first before p ps) ∙ h)

  stops : (before : List Item) (front : List Placed) (piece : Piece) (later : List Piece) (fault : Fault) → ReadsFrom before front → read_after year text (before ++ items_of front) piece ≡ Err fault
      → reading_from year before text (pieces_of front ++ piece ∷ later) ≡ Err fault
  stops before [] piece later fault each h =
      cut_first before piece later ∙ ap (after_first before piece later) (ap (λ (b : List Item). read_after year text b piece) (sym (append-nil before)) ∙ h)
  stops before (p ∷ front) piece later fault each h =
      cut_first before p.piece (pieces_of front ++ piece ∷ later)
      ∙ ap (after_first before p.piece (pieces_of front ++ piece ∷ later)) (first_reads before p front each)
      ∙ ap (onto p.piece p.item) (stops (before ++ p.item ∷ []) front piece later fault (rest_reads before p front each)
      (ap (λ (b : List Item). read_after year text b piece) (append_assoc before (p.item ∷ []) (items_of front)) ∙ h))

  -- ---- the text

  pub are_read : (placed : List Placed) → items_in year text ≡ Ok placed → AreRead year text placed
  are_read placed h = let r = all_read [] _ placed h in record { pieces = r.pieces; each = r.each }

  pub read_back : (placed : List Placed) → AreRead year text placed → items_in year text ≡ Ok placed
  read_back placed h = ap (reading_from year [] text) (sym h.pieces) ∙ back [] placed h.each

  pub is_unread : (fault : Fault) → items_in year text ≡ Err fault → IsUnread year text fault
  is_unread fault h =
      let f = one_fails [] _ fault h in record {
        front = f.front;
        piece = f.piece;
        later = f.later;
        pieces = f.pieces;
        each = f.each;
        fails = f.fails;
      }

  pub unread_back : (fault : Fault) → IsUnread year text fault → items_in year text ≡ Err fault
  unread_back fault h = ap (reading_from year [] text) h.pieces ∙ stops [] h.front h.piece h.later fault h.each h.fails
