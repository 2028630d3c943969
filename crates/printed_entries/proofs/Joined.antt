-- Texts of lines, each with its LF, of which some end with white space.
use Rattle.std.proofs.Common.{ℕ, suc, ◌≡◌, ◌+◌, Bool, true, cond, List, [], ◌∷◌, length, take, map, refl, sym, ap, ◌∙◌, arith, length-append}
use Rattle.std.specs.List.{concat, prefix_len, take_while, AllByRecursion}
use Rattle.std.specs.Str.{is_utf8}
use Rattle.std.proofs.Math.Seq.{take-length}
use Rattle.std.proofs.lemmas.List.Folds.{length-prefix_len}
use Rattle.hl_base.specs.Items.{cut_from, is_indented, items_of, kind_of, lines_more}
use Rattle.hl_base.specs.Lines.{first_line, lines_of}
use Rattle.hl_base.specs.declared.items.Kind.{Kind}
use Rattle.hl_base.specs.declared.items.Kind.TheVariants as kinds
use Rattle.hl_base.specs.declared.items.Piece.{Piece}
use Rattle.entry_reader.proofs.Texts.{empty_utf8}
use Rattle.entry_reader.specs.Lines.{before_white, content_of, contents_of}
use Rattle.written_logs.proofs.Bytes.{first_step, front_stops, is_inside, lines_step, utf8_append, utf8_ascii}
use Rattle.written_logs.proofs.Lines.{concat_ended, ended, joined}
use Rattle.closed_journals.proofs.Texts.{AreTexts, IsText}

pub joined_lines : (ls : List (List ℕ)) → AreTexts ls → lines_of (joined ls) ≡ map ended ls
joined_lines [] are = refl
joined_lines (l ∷ ls) are = lines_step l (joined ls) (are.0).line ∙ ap (λ (xs : List (List ℕ)). ended l ∷ xs) (joined_lines ls are.1)

pub joined_contents : (ls : List (List ℕ)) → AreTexts ls → contents_of (joined ls) ≡ map before_white ls
joined_contents [] are = refl
joined_contents (l ∷ ls) are =
    ap (map content_of) (lines_step l (joined ls) (are.0).line)
    ∙ ap (λ (x : List ℕ). before_white x ∷ map content_of (lines_of (joined ls))) (front_stops is_inside l 10 [] (are.0).line refl)
    ∙ ap (λ (xs : List (List ℕ)). before_white l ∷ xs) (joined_contents ls are.1)

pub joined_utf8 : (ls : List (List ℕ)) → AreTexts ls → is_utf8 (joined ls) ≡ true
joined_utf8 [] are = empty_utf8
joined_utf8 (l ∷ ls) are = utf8_append l (10 ∷ joined ls) (are.0).utf8 (utf8_append (10 ∷ []) (joined ls) (utf8_ascii (10 ∷ []) refl) (joined_utf8 ls are.1))

pub joined_first : (l : List ℕ) (ls : List (List ℕ)) → IsText l → first_line (joined (l ∷ ls)) ≡ ended l
joined_first l ls is = first_step l (joined ls) is.line

-- ---- the cut

abbrev pub IsIndented : List ℕ → Type 0
IsIndented l = is_indented (ended l) ≡ true

abbrev piece : ℕ → Kind → Piece
piece len kind = record { at = 0; len = len; line = 1; kind = kind }

all_indented : (ls : List (List ℕ)) → AllByRecursion IsIndented ls → prefix_len is_indented (map ended ls) ≡ length (map ended ls)
all_indented [] are = refl
all_indented (l ∷ ls) are =
    let rest = all_indented ls are.1 in
    let next : 1 + length (map ended ls) ≡ suc (length (map ended ls)) = omega arith in
    ap (λ (t : Bool). cond t (1 + prefix_len is_indented (map ended ls)) 0) are.0 ∙ ap (λ (n : ℕ). 1 + n) rest ∙ next

none_left : (ls : List (List ℕ)) (at line : ℕ) → cut_from (length ls) at line ls ≡ []
none_left [] at line = refl
none_left (l ∷ ls) at line = none_left ls (at + length l) (line + 1)

-- a first line that begins an entry, and indented ones behind it
pub one_piece : (h : List ℕ) (ls : List (List ℕ)) → AreTexts (h ∷ ls) → kind_of (ended h) ≡ kinds.Entry → AllByRecursion IsIndented ls
    → items_of (joined (h ∷ ls)) ≡ piece (length (joined (h ∷ ls))) kinds.Entry ∷ []
one_piece h ls are kind all =
    let xs = map ended ls in
    let head = ended h in
    let count : length (take_while is_indented xs) ≡ length xs = length-prefix_len is_indented xs ∙ all_indented ls all in
    let size : length head + length (concat xs) ≡ length (joined (h ∷ ls)) = sym (length-append head (concat xs)) ∙ ap length (concat_ended (h ∷ ls)) in
    ap (cut_from 0 0 1) (joined_lines (h ∷ ls) are)
    ∙ ap (λ (k : Kind). piece (length head + length (concat (take (lines_more k xs) xs))) k ∷ cut_from (lines_more k xs) (0 + length head) 2 xs) kind
    ∙ ap (λ (n : ℕ). piece (length head + length (concat (take n xs))) kinds.Entry ∷ cut_from n (0 + length head) 2 xs) count
    ∙ ap (λ (ys : List (List ℕ)). piece (length head + length (concat ys)) kinds.Entry ∷ cut_from (length xs) (0 + length head) 2 xs) (take-length xs)
    ∙ ap (λ (n : ℕ). piece n kinds.Entry ∷ cut_from (length xs) (0 + length head) 2 xs) size
    ∙ ap (λ (ps : List Piece). piece (length (joined (h ∷ ls))) kinds.Entry ∷ ps) (none_left xs (0 + length head) 2)
