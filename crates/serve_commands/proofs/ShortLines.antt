-- How long the line of a tally is.
use Rattle.std.proofs.Common.{◌≡◌, ℕ, ◌+◌, ◌^◌, ◌<◌, ◌≤◌, List, [], ◌∷◌, ◌++◌, length, codes, refl, sym, subst, arith, length-append}
use Rattle.std.specs.Fmt.{decimal}
use Rattle.std.proofs.lemmas.Fmt.{length-decimal-le}
use Rattle.hl_base.specs.Ascii.{line_feed}
use Rattle.book.specs.FaultLine.{ended}
use Rattle.serve_commands.specs.Lines.{most_of_a_tally, tally_line}
use Rattle.serve_commands.specs.declared.outcome.Tally.{Tally}

-- a word and a number
word_short : (word : List ℕ) (k n : ℕ) → length word ≡ k → n < 2 ^ 64 → length (word ++ decimal n) ≤ k + 20
word_short word k n is small =
    omega (arith, length-append word (decimal n), length-decimal-le 20 n (omega arith) (omega arith) small, is)

joined : (a b c : List ℕ) → length (ended (a ++ b ++ c)) ≡ length a + length b + length c + 1
joined a b c = omega (arith, length-append (a ++ b ++ c) (line_feed ∷ []), length-append (a ++ b) c, length-append a b)

total : (x y z n : ℕ) → n ≡ x + y + z + 1 → x ≤ 29 → y ≤ 31 → z ≤ 30 → n ≤ 91
total x y z n is first second third = omega (arith, is, first, second, third)

line_short : (told : Tally) → told.revision < 2 ^ 64 → told.requests < 2 ^ 64 → told.refused < 2 ^ 64 → length (tally_line told) ≤ most_of_a_tally
line_short told revision requests refused =
    let a = codes "revision " ++ decimal told.revision in
    let b = codes ", requests " ++ decimal told.requests in
    let c = codes ", refused " ++ decimal told.refused in
    total (length a) (length b) (length c) (length (tally_line told)) (joined a b c)
    (word_short (codes "revision ") 9 told.revision refl revision)
    (word_short (codes ", requests ") 11 told.requests refl requests)
    (word_short (codes ", refused ") 10 told.refused refl refused)

-- the line that is said
pub is_short : (told : Tally) (line : List ℕ) → line ≡ tally_line told
    → (told.revision < 2 ^ 64) × (told.requests < 2 ^ 64) × (told.refused < 2 ^ 64) → length line ≤ most_of_a_tally
is_short told line is small = subst (λ (l : List ℕ). length l ≤ most_of_a_tally) (sym is) (line_short told small.0 small.1 small.2)
