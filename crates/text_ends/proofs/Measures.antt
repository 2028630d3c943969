-- How much of the bytes behind a text its last piece takes, and where the items behind that stand.
use Rattle.std.proofs.Common.{ℕ, zero, suc, ◌≡◌, ◌+◌, ◌-◌, ◌<◌, ◌≤◌, Bool, true, false, cond, List, [], ◌∷◌, ◌==◌, length, take, drop, map, Option, Some, None, Result, Ok, Err, refl, sym, ap, subst, ◌∙◌, arith, length-append, length-drop}
use Rattle.std.specs.Prelude.{IfSome}
use Rattle.std.specs.List.{concat, slice_get, AllByRecursion}
use Rattle.std.proofs.lemmas.List.{length-map}
use Rattle.hl_base.specs.Items.{items_of}
use Rattle.hl_base.specs.Lines.{lines_of, onto}
use Rattle.hl_base.specs.Pieces.{IsWithin, bytes_left, lines_left, span}
use Rattle.hl_base.specs.declared.items.Kind.{Kind}
use Rattle.hl_base.specs.declared.items.Piece.{Piece}
use Rattle.book.specs.declared.fault.Fault.{Fault}
use Rattle.book.specs.declared.item.Item.{Item}
use Rattle.book.specs.declared.item.Placed.{Placed}
use Rattle.entry_reader.specs.Causes.{◌>>=◌}
use Rattle.entry_reader.specs.Contexts.{Context}
use Rattle.entry_reader.specs.Lines.{content_of}
use Rattle.entry_reader.proofs.Lines.{few_lines}
use Rattle.journal_reader.specs.Items.{reading}
use Rattle.text_ends.specs.Ends.{last_of}
use Rattle.text_ends.specs.Growth.{bytes_joined, goes_behind, growth_fault, grown_with, joins, lacked, lines_joined, lines_taken, rest_of, shifted, taken, unless_fault}
use Rattle.text_ends.specs.Told.{grown_told, is_directive, onto_told, told_behind, told_on, told_rest}
use Rattle.text_ends.specs.Whole.{ComesTo, IsMeasured, end_behind, last_behind}
use Rattle.text_ends.specs.declared.kept.KeptEnd.{KeptEnd}
use Rattle.text_ends.specs.declared.reading.Grown.{Grown}
use Rattle.text_ends.proofs.Bounds.{more_bound}
use Rattle.text_ends.proofs.Lining.{concat_lines}
use Rattle.text_ends.proofs.Reaching.{lacked_within}
use Rattle.text_ends.proofs.Stepping.{Ends, concat_take, within_cut}
use Rattle.text_ends.proofs.Walking.{Told}

-- ---- the last of some

pub last_cons : {X : Type 0} (x y : X) (zs : List X) → last_of (x ∷ y ∷ zs) ≡ last_of (y ∷ zs)
last_cons {X} x y zs = ap (λ (k : ℕ). slice_get (x ∷ y ∷ zs) k) (let e : length (x ∷ y ∷ zs) - 1 ≡ suc (length (y ∷ zs) - 1) = omega arith in e)

pub last_all : {X : Type 0} (P : X → Type 0) (xs : List X) → AllByRecursion P xs → IfSome (last_of xs) P
last_all {X} P [] h = tt
last_all {X} P (x ∷ []) h = h.0
last_all {X} P (x ∷ y ∷ zs) h = subst (λ (o : Option X). IfSome o P) (sym (last_cons x y zs)) (last_all P (y ∷ zs) h.1)

within_len : (size : ℕ) (o : Option Piece) → IfSome o (IsWithin size) → IfSome o (λ p. p.len ≤ size)
within_len size None h = tt
within_len size (Some p) h = let here : IsWithin size p = h in let ends = here.bytes in omega (arith, ends)

-- the last of some pieces within a text has no more bytes than it
pub last_within : (size : ℕ) (ps : List Piece) → AllByRecursion (IsWithin size) ps → IfSome (last_of ps) (λ p. p.len ≤ size)
last_within size ps h = within_len size (last_of ps) (last_all (IsWithin size) ps h)

-- ---- lines have bytes

abbrev HasBytes : List ℕ → Type 0
HasBytes l = 0 < length l

onto_some : (b : ℕ) (ls : List (List ℕ)) → AllByRecursion HasBytes ls → AllByRecursion HasBytes (onto b ls)
onto_some b [] h = (omega arith, tt)
onto_some b (l ∷ ls) h = (omega arith, h.1)

lines_some : (text : List ℕ) → AllByRecursion HasBytes (lines_of text)
lines_some [] = tt
lines_some (b ∷ bs) = by (b == 10) (lines_some bs)
  where
    by : (t : Bool) → AllByRecursion HasBytes (lines_of bs) → AllByRecursion HasBytes (cond t ((b ∷ []) ∷ lines_of bs) (onto b (lines_of bs)))
    by true h = (omega arith, h)
    by false h = onto_some b (lines_of bs) h

span_some : (n : ℕ) (ls : List (List ℕ)) → AllByRecursion HasBytes ls → n ≤ length ls → n ≤ span n ls
span_some zero ls h few = omega arith
span_some (suc n) [] h few = absurd (omega (arith, few))
span_some (suc n) (l ∷ ls) h few =
    let first : 0 < length l = h.0 in
    let more = span_some n ls h.1 (omega (arith, few)) in
    omega (arith, more, first, length-append l (concat (take n ls)))

lines_few : (text : List ℕ) → length (lines_of text) ≤ length text
lines_few text = omega (arith, few_lines text, length-map (lines_of text) content_of)

-- ---- what the last piece takes

lines_in : (k : Kind) (bytes : List ℕ) (at : ℕ) → lines_left k bytes at ≤ bytes_left k bytes at
lines_in k bytes at = span_some (lines_left k bytes at) (lines_of (drop at bytes)) (lines_some (drop at bytes)) (more_bound k (lines_of (drop at bytes)))

bytes_within : (k : Kind) (bytes : List ℕ) (at : ℕ) → at ≤ length bytes → at + bytes_left k bytes at ≤ length bytes
bytes_within k bytes at h =
    omega (arith, h, concat_take (lines_left k bytes at) (lines_of (drop at bytes)), ap length (concat_lines (drop at bytes)), length-drop at bytes)

lines_by : (t : Bool) (a m n : ℕ) → m ≤ n → cond t m 0 ≤ a + cond t n 0
lines_by true a m n h = omega (arith, h)
lines_by false a m n h = omega arith

bytes_by : (t : Bool) (a n size : ℕ) → a ≤ size → a + n ≤ size → a + cond t n 0 ≤ size
bytes_by true a n size h k = omega (arith, k)
bytes_by false a n size h k = omega (arith, h)

few_taken : (e : KeptEnd) (bytes : List ℕ) → lines_taken e bytes ≤ taken e bytes
few_taken e bytes = by e.last
  where
    by : (o : Option Piece) → lines_joined e bytes o ≤ bytes_joined e bytes o
    by None = omega arith
    by (Some p) = lines_by (joins p.kind e.unclosed) (lacked e.ended) (lines_left p.kind bytes (lacked e.ended)) (bytes_left p.kind bytes (lacked e.ended)) (lines_in p.kind bytes (lacked e.ended))

pub taken_within : (e : KeptEnd) (bytes : List ℕ) → goes_behind e bytes ≡ true → taken e bytes ≤ length bytes
taken_within e bytes goes = by e.last refl
  where
    by : (o : Option Piece) → e.last ≡ o → bytes_joined e bytes o ≤ length bytes
    by None h = omega arith
    by (Some p) h =
        let start = lacked_within e bytes p h goes in
        bytes_by (joins p.kind e.unclosed) (lacked e.ended) (bytes_left p.kind bytes (lacked e.ended)) (length bytes) start (bytes_within p.kind bytes (lacked e.ended) start)

-- ---- what was told

told_by : (e : KeptEnd) (bytes : List ℕ) (o : Option Fault) (t : Told) (g : Grown) → unless_fault o (t >>= λ items. Ok (grown_told e bytes items)) ≡ Ok (Some g)
    → (t ≡ Ok (Some g.items)) × (grown_with e bytes g.items ≡ g)
told_by e bytes (Some fault) t g h = absurd (let never : ⊥ = cc in never)
told_by e bytes None (Err fault) g h = absurd (let never : ⊥ = cc in never)
told_by e bytes None (Ok None) g h = absurd (let never : ⊥ = cc in never)
told_by e bytes None (Ok (Some items)) g h =
    let same : grown_with e bytes items ≡ g = cc in
    (ap (λ (x : Grown). Ok (Some x.items)) same, ap (λ (x : Grown). grown_with e bytes x.items) (sym same) ∙ same)

-- where an item stands that is no directive, behind so many bytes
pub record Stands (at size : ℕ) (p : Placed) : Type 0 where
  pub least : at ≤ p.piece.at
  pub most : p.piece.at + p.piece.len ≤ at + size
  pub plain : is_directive p.item ≡ false

record Found (place : Item → Placed) (told : Told) (items : List Placed) : Type 0 where
  pub said : Item
  pub other : is_directive said ≡ false
  pub more : List Placed
  pub rest : told ≡ Ok (Some more)
  pub is : items ≡ place said ∷ more

found : (o : Result Item Fault) (place : Item → Placed) (told : Told) (items : List Placed)
    → (o >>= λ i. cond {A = Told} (is_directive i) (Ok None) (told >>= λ more. Ok (onto_told (place i) more))) ≡ Ok (Some items) → Found place told items
found (Err fault) place told items h = absurd (let never : ⊥ = cc in never)
found (Ok i) place told items h = by (is_directive i) refl told refl h
  where
    by : (t : Bool) → is_directive i ≡ t → (rest : Told) → told ≡ rest → cond {A = Told} t (Ok None) (rest >>= λ more. Ok (onto_told (place i) more)) ≡ Ok (Some items) → Found place told items
    by true e rest f k = absurd (let never : ⊥ = cc in never)
    by false e (Err fault) f k = absurd (let never : ⊥ = cc in never)
    by false e (Ok None) f k = absurd (let never : ⊥ = cc in never)
    by false e (Ok (Some more)) f k = record { said = i; other = e; more = more; rest = f; is = let same : place i ∷ more ≡ items = cc in sym same }

abbrev pub piece_at : Placed → Piece
piece_at p = p.piece

-- the items that were told have the pieces that were read
pub record TellsOf (at lines size : ℕ) (ps : List Piece) (items : List Placed) : Type 0 where
  pub stand : AllByRecursion (Stands at size) items
  pub pieces : map piece_at items ≡ map (shifted at lines) ps

none_told : (items : List Placed) → (let r : Told = Ok (Some []) in r) ≡ Ok (Some items) → [] ≡ items
none_told items h = cc

tells_of : (context : Context) (at lines : ℕ) (bytes : List ℕ) (ps : List Piece) (items : List Placed) → AllByRecursion (Ends (length bytes)) ps → told_on context at lines bytes ps ≡ Ok (Some items)
    → TellsOf at lines (length bytes) ps items
unfolding told_on
tells_of context at lines bytes [] items within h = subst (TellsOf at lines (length bytes) []) (none_told items h) (record { stand = tt; pieces = refl })
tells_of context at lines bytes (p ∷ ps) items within h =
    let f = found (reading context (lines + p.line) (take p.len (drop p.at bytes))) (λ i. record { piece = shifted at lines p; item = i }) (told_on context at lines bytes ps) items h in
    let more = tells_of context at lines bytes ps f.more within.1 f.rest in
    let ends : p.at + p.len ≤ length bytes = within.0 in
    subst (TellsOf at lines (length bytes) (p ∷ ps)) (sym f.is)
    (record {
      stand = (record { least = omega arith; most = omega (arith, ends); plain = f.other }, more.stand);
      pieces = ap (λ (qs : List Piece). shifted at lines p ∷ qs) more.pieces;
    })

ends_within : (text : List ℕ) → AllByRecursion (Ends (length text)) (items_of text)
ends_within text = subst (λ (n : ℕ). AllByRecursion (Ends n) (items_of text)) (let e : 0 + length (concat (lines_of text)) ≡ length text = omega (arith, ap length (concat_lines text)) in e) (within_cut 0 0 1 (lines_of text))

module _ (e : KeptEnd) (bytes : List ℕ) (g : Grown) (told : told_behind e bytes ≡ Ok (Some g)) where
  known : (told_rest e bytes ≡ Ok (Some g.items)) × (grown_with e bytes g.items ≡ g)
  known = told_by e bytes (growth_fault e bytes) (told_rest e bytes) g told

  pub taken_is : g.taken ≡ taken e bytes
  taken_is = sym (ap (λ (x : Grown). x.taken) known.1)

  pub lines_is : g.lines ≡ lines_taken e bytes
  lines_is = sym (ap (λ (x : Grown). x.lines) known.1)

  pub tells : TellsOf (e.bytes + taken e bytes) (e.lines + lines_taken e bytes) (length (rest_of e bytes)) (items_of (rest_of e bytes)) g.items
  tells = tells_of e.context (e.bytes + taken e bytes) (e.lines + lines_taken e bytes) (rest_of e bytes) (items_of (rest_of e bytes)) g.items (ends_within (rest_of e bytes)) known.0

  pub last_stands : IfSome (last_of g.items) (Stands (e.bytes + taken e bytes) (length (rest_of e bytes)))
  last_stands = last_all (Stands (e.bytes + taken e bytes) (length (rest_of e bytes))) g.items tells.stand

  pub stands_behind : IfSome (last_of g.items) (λ placed. e.bytes ≤ placed.piece.at)
  stands_behind = by (last_of g.items) last_stands
    where
      by : (o : Option Placed) → IfSome o (Stands (e.bytes + taken e bytes) (length (rest_of e bytes))) → IfSome o (λ placed. e.bytes ≤ placed.piece.at)
      by None h = tt
      by (Some placed) h =
          let here : Stands (e.bytes + taken e bytes) (length (rest_of e bytes)) placed = h in
          let least = here.least in
          omega (arith, least)

module _ (e : KeptEnd) (bytes : List ℕ) (g : Grown) (comes : ComesTo e bytes g) where
  reach : taken e bytes ≤ length bytes
  reach = taken_within e bytes (comes.may).goes

  most : g.taken ≤ length bytes
  most = omega (arith, taken_is e bytes g comes.told, reach)

  pub roomy : IfSome e.last (λ p. p.len + g.taken < 18446744073709551616)
  roomy = by e.last (comes.measured).last
    where
      by : (o : Option Piece) → IfSome o (λ p. p.len ≤ e.bytes) → IfSome o (λ p. p.len + g.taken < 18446744073709551616)
      by None h = tt
      by (Some p) h = let len : p.len ≤ e.bytes = h in omega (arith, len, most, (comes.may).few)

  pub few_lines_in : e.lines + g.lines + length (lines_of (drop g.taken bytes)) ≤ e.bytes + length bytes
  few_lines_in =
      omega (arith, (comes.measured).lines, lines_is e bytes g comes.told, taken_is e bytes g comes.told, few_taken e bytes, most, lines_few (drop g.taken bytes), length-drop g.taken bytes)

  pub measured : IsMeasured (end_behind e bytes g)
  measured = record { lines = few_lines_in; last = by (last_of g.items) (last_stands e bytes g comes.told) e.last (comes.measured).last }
    where
      by : (o : Option Placed) → IfSome o (Stands (e.bytes + taken e bytes) (length (rest_of e bytes))) → (l : Option Piece) → IfSome l (λ p. p.len ≤ e.bytes)
          → IfSome (last_behind o g.taken l) (λ p. p.len ≤ e.bytes + length bytes)
      by (Some placed) h l k =
          let here : Stands (e.bytes + taken e bytes) (length (rest_of e bytes)) placed = h in
          let ends = here.most in
          let least = here.least in
          omega (arith, ends, least, reach, length-drop (taken e bytes) bytes)
      by None h None k = tt
      by None h (Some p) k = let len : p.len ≤ e.bytes = k in omega (arith, len, most)
