-- The text behind lines that are cut off.
use Rattle.std.proofs.Common.{◌≡◌, ℕ, ◌-◌, ◌+◌, ◌==◌, ◌<◌, ◌≤◌, Bool, true, false, cond, List, [], ◌∷◌, length, drop, refl, sym, ap, ◌∙◌, arith}
use Rattle.std.specs.List.{concat}
use Rattle.std.proofs.lemmas.Bool.Decides.{nat_tests}
use Rattle.std.proofs.lemmas.List.{nil_from_length}
use Rattle.hl_base.specs.Items.{is_blank}
use Rattle.hl_base.specs.Lines.{onto, lines_of, first_line}
use Rattle.hl_base.proofs.LineLemmas.{lines_split}
use Rattle.csv_entries.specs.Records.{lines_after, text_after}

onto_joins : (b : ℕ) (ls : List (List ℕ)) → concat (onto b ls) ≡ b ∷ concat ls
onto_joins b [] = refl
onto_joins b (l ∷ ls) = refl

joins_by : (b : ℕ) (bs : List ℕ) (t : Bool) → (b == 10) ≡ t → concat (lines_of bs) ≡ bs → concat (lines_of (b ∷ bs)) ≡ b ∷ bs
joins_by b bs true e h = rw e (ap (λ x. b ∷ x) h)
joins_by b bs false e h = rw e (onto_joins b (lines_of bs) ∙ ap (λ x. b ∷ x) h)

-- the lines of a text make it up
pub lines_join : (text : List ℕ) → concat (lines_of text) ≡ text
lines_join [] = refl
lines_join (b ∷ bs) = joins_by b bs (b == 10) refl (lines_join bs)

none_by : (n : ℕ) (ls : List (List ℕ)) → (n == 0) ≡ true → lines_after n ls ≡ ls
none_by n [] e = refl
none_by n (l ∷ ls) e = rw e refl

-- nothing more is cut off
pub none_left : (whole : List ℕ) (n : ℕ) (text : List ℕ) → whole ≡ text_after n text → n ≤ 0 → text ≡ whole
none_left whole n text w le =
    let e : (n == 0) ≡ true = grind (arith, nat_tests) in
    sym (w ∙ ap concat (none_by n (lines_of text) e) ∙ lines_join text)

pub all_passed : (whole : List ℕ) (n : ℕ) (text : List ℕ) → whole ≡ text_after n text → length text ≤ 0 → text ≡ whole
all_passed whole n text w le =
    let e : text ≡ [] = nil_from_length text (omega arith) in
    sym (w ∙ rw e refl)

passed : (n : ℕ) (text : List ℕ) (t : Bool) → 0 < n → 0 < length text → is_blank (first_line text) ≡ t
    → text_after n text ≡ text_after (cond t n (n - 1)) (drop (length (first_line text)) text)
passed n text t lt some b =
    let e : (n == 0) ≡ false = grind (arith, nat_tests) in
    rw (lines_split text some, e, b) refl

-- one line more
pub passed_one : (whole : List ℕ) (n now next : ℕ) (text line : List ℕ) → whole ≡ text_after n text → 0 < n → 0 < length text
    → line ≡ first_line (drop 0 text) → next ≡ 0 + length (first_line (drop 0 text)) → now ≡ cond (is_blank line) n (n - 1) → whole ≡ text_after now (drop next text)
passed_one whole n now next text line w lt some is at left =
    let k : next ≡ length (first_line text) = omega (arith, at) in
    rw (left, k, is) (w ∙ passed n text (is_blank (first_line text)) lt some refl)
