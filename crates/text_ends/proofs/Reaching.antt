-- How many bytes and lines a last piece takes.
use Rattle.std.proofs.Common.{◌≡◌, ℕ, ◌+◌, ◌≤◌, Bool, true, false, cond, ◌&&◌, ◌||◌, not, List, [], ◌∷◌, length, drop, Some, None, refl, sym, ap, ◌∙◌, arith}
use Rattle.std.proofs.lemmas.Bool.{false≢true}
use Rattle.hl_base.specs.Pieces.{bytes_left, lines_left}
use Rattle.hl_base.specs.declared.items.Kind.{Kind}
use Rattle.hl_base.specs.declared.items.Piece.{Piece}
use Rattle.text_ends.specs.Growth.{begins_apart, begins_empty, bytes_joined, goes_behind, goes_indented, joins, lacked, lines_joined, lines_taken, taken}
use Rattle.text_ends.specs.Told.{taken_from}
use Rattle.text_ends.specs.declared.kept.KeptEnd.{KeptEnd}
use Rattle.text_ends.specs.declared.taking.Reach.{Reach}

abbrev reach : ℕ → ℕ → Reach
reach bytes lines = record { bytes = bytes; lines = lines }

pub takes_lines : (bytes : List ℕ) (start m n : ℕ) (kind : Kind) (unclosed : Bool) → joins kind unclosed ≡ true → m ≡ start + bytes_left kind bytes start → n ≡ lines_left kind bytes start → reach m n ≡ taken_from bytes start kind unclosed
takes_lines bytes start m n kind unclosed h em en =
    (λ i. reach (em i) (en i)) ∙ sym (ap (λ (t : Bool). cond t (reach (start + bytes_left kind bytes start) (lines_left kind bytes start)) (reach start 0)) h)

pub takes_none : (bytes : List ℕ) (start : ℕ) (kind : Kind) (unclosed : Bool) → joins kind unclosed ≡ false → reach start 0 ≡ taken_from bytes start kind unclosed
takes_none bytes start kind unclosed h = sym (ap (λ (t : Bool). cond t (reach (start + bytes_left kind bytes start) (lines_left kind bytes start)) (reach start 0)) h)

bytes_by : (t : Bool) (start m n : ℕ) → (cond t (reach (start + m) n) (reach start 0)).bytes ≡ start + cond t m 0
bytes_by true start m n = refl
bytes_by false start m n = omega arith

lines_by : (t : Bool) (start m n : ℕ) → (cond t (reach (start + m) n) (reach start 0)).lines ≡ cond t n 0
lines_by true start m n = refl
lines_by false start m n = refl

pub bytes_some : (e : KeptEnd) (bytes : List ℕ) (p : Piece) (start : ℕ) (t : Reach) → e.last ≡ Some p → start ≡ lacked e.ended → t ≡ taken_from bytes start p.kind e.unclosed → t.bytes ≡ taken e bytes
bytes_some e bytes p start t last begin is =
    ap (λ (x : Reach). x.bytes) is
    ∙ ap (λ (s : ℕ). (taken_from bytes s p.kind e.unclosed).bytes) begin
    ∙ bytes_by (joins p.kind e.unclosed) (lacked e.ended) (bytes_left p.kind bytes (lacked e.ended)) (lines_left p.kind bytes (lacked e.ended))
    ∙ sym (ap (bytes_joined e bytes) last)

pub lines_some : (e : KeptEnd) (bytes : List ℕ) (p : Piece) (start : ℕ) (t : Reach) → e.last ≡ Some p → start ≡ lacked e.ended → t ≡ taken_from bytes start p.kind e.unclosed → t.lines ≡ lines_taken e bytes
lines_some e bytes p start t last begin is =
    ap (λ (x : Reach). x.lines) is
    ∙ ap (λ (s : ℕ). (taken_from bytes s p.kind e.unclosed).lines) begin
    ∙ lines_by (joins p.kind e.unclosed) (lacked e.ended) (bytes_left p.kind bytes (lacked e.ended)) (lines_left p.kind bytes (lacked e.ended))
    ∙ sym (ap (lines_joined e bytes) last)

pub bytes_none : (e : KeptEnd) (bytes : List ℕ) → e.last ≡ None → 0 ≡ taken e bytes
bytes_none e bytes last = sym (ap (bytes_joined e bytes) last)

pub lines_none : (e : KeptEnd) (bytes : List ℕ) → e.last ≡ None → 0 ≡ lines_taken e bytes
lines_none e bytes last = sym (ap (lines_joined e bytes) last)

first_of : (a b : Bool) → (a && b) ≡ true → a ≡ true
first_of true b h = refl
first_of false b h = h

within_by : (ended : Bool) (bytes : List ℕ) → (ended || begins_empty bytes) ≡ true → lacked ended ≤ length bytes
within_by true bytes h = omega arith
within_by false [] h = absurd (false≢true h)
within_by false (b ∷ bs) h = omega arith

-- the bytes have the line's end that the text lacks
pub lacked_within : (e : KeptEnd) (bytes : List ℕ) (p : Piece) → e.last ≡ Some p → goes_behind e bytes ≡ true → lacked e.ended ≤ length bytes
lacked_within e bytes p last goes =
    within_by e.ended bytes
    (first_of (e.ended || begins_empty bytes) (not (goes_indented p.kind) || begins_empty (drop (lacked e.ended) bytes)) (sym (ap (begins_apart e.ended bytes) last) ∙ goes))
