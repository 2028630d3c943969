-- The contents of the lines of a log.
use Rattle.std.proofs.Common.{ℕ, zero, suc, ◌-◌, ◌≤◌, Bool, true, false, cond, ◌==◌, List, [], ◌∷◌, length, map, arith}
use Rattle.std.specs.List.{prefix_len, suffix_len, take_while, AllByRecursion}
use Rattle.std.proofs.lemmas.List.{length-map}
use Rattle.hl_base.specs.Items.{is_white}
use Rattle.hl_base.specs.Lines.{lines_of, onto}
use Rattle.entry_reader.specs.Lines.{content_of, contents_of}
use Rattle.written_logs.proofs.Bytes.{is_inside}
use Rattle.written_logs.proofs.Parts.{IsContent, most_bytes, take_short, all_take, front_passes}

abbrev Short : ℕ → List (List ℕ) → Type 0
Short n ls = AllByRecursion (λ l. length l ≤ n) ls

longer : (n : ℕ) (ls : List (List ℕ)) → Short n ls → Short (suc n) ls
longer n [] h = tt
longer n (l ∷ ls) h = (more (length l) n h.0, longer n ls h.1)
  where
    more : (k n : ℕ) → k ≤ n → k ≤ suc n
    more k n h = omega arith

one_line : (t : Bool) (b n : ℕ) (ls : List (List ℕ)) → Short n ls → Short (suc n) (cond t ((b ∷ []) ∷ ls) (onto b ls))
one_line true b n ls h = (omega arith, longer n ls h)
one_line false b n [] h = (omega arith, tt)
one_line false b n (l ∷ ls) h = (more (length l) n h.0, longer n ls h.1)
  where
    more : (k n : ℕ) → k ≤ n → suc k ≤ suc n
    more k n h = omega arith

lines_short : (text : List ℕ) (n : ℕ) → length text ≤ n → Short n (lines_of text)
lines_short [] n h = tt
lines_short (b ∷ bs) zero h = absurd (omega arith)
lines_short (b ∷ bs) (suc n) h = one_line (b == 10) b n (lines_of bs) (lines_short bs n (omega arith))

contents_are : (ls : List (List ℕ)) → Short most_bytes ls → AllByRecursion IsContent (map content_of ls)
contents_are [] h = tt
contents_are (l ∷ ls) h =
    let front = take_while is_inside l in
    let n = length front - suffix_len is_white front in
    let one : IsContent (content_of l) = record {
      line = all_take is_inside n front (front_passes is_inside l);
      short = take_short n front most_bytes (take_short (prefix_len is_inside l) l most_bytes h.0);
    } in
    (one, contents_are ls h.1)

pub contents_good : (text : List ℕ) → length text ≤ most_bytes → AllByRecursion IsContent (contents_of text)
contents_good text h = contents_are (lines_of text) (lines_short text most_bytes h)

onto_count : (t : Bool) (b n : ℕ) (ls : List (List ℕ)) → length ls ≤ n → length (cond t ((b ∷ []) ∷ ls) (onto b ls)) ≤ suc n
onto_count true b n ls h = omega arith
onto_count false b n [] h = omega arith
onto_count false b n (l ∷ ls) h = omega arith

lines_count : (text : List ℕ) → length (lines_of text) ≤ length text
lines_count [] = omega arith
lines_count (b ∷ bs) = onto_count (b == 10) b (length bs) (lines_of bs) (lines_count bs)

pub contents_count : (text : List ℕ) → length (contents_of text) ≤ length text
contents_count text = omega (arith, length-map (lines_of text) content_of, lines_count text)
