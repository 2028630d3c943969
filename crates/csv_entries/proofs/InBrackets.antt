-- Texts in round brackets.
use Rattle.std.proofs.Common.{◌≡◌, ℕ, ◌+◌, ◌-◌, ◌<◌, ◌≤◌, ◌==◌, true, ◌&&◌, leb, List, length, get_or, take, drop, arith, length-drop, get_or-drop}
use Rattle.std.specs.Str.{is_utf8}
use Rattle.std.proofs.lemmas.Bool.Decides.{nat_tests}
use Rattle.entry_reader.proofs.Both.{both_true}
use Rattle.entry_reader.proofs.Texts as texts
use Rattle.entry_reader.specs.Lines.{begins}
use Rattle.csv_entries.specs.Amounts.{is_bracketed}

-- a text may end before an ASCII byte
pub front_utf8 : (text : List ℕ) (n : ℕ) → n ≤ length text → get_or text n 0 < 128 → is_utf8 text ≡ true → is_utf8 (take n text) ≡ true
front_utf8 text n le ascii e = texts.front_utf8 text n (texts.cut_before text n le (λ _. ascii)) e

long : (text : List ℕ) → is_bracketed text ≡ true → 2 ≤ length text
long text e =
    let a = both_true (leb 2 (length text) && begins text 40) (get_or text (length text - 1) 0 == 41) e in
    let b = both_true (leb 2 (length text)) (begins text 40) a.0 in
    let k : leb 2 (length text) ≡ true = b.0 in
    grind (arith, nat_tests)

ends : (text : List ℕ) → is_bracketed text ≡ true → get_or text (length text - 1) 0 ≡ 41
ends text e =
    let a = both_true (leb 2 (length text) && begins text 40) (get_or text (length text - 1) 0 == 41) e in
    let k : (get_or text (length text - 1) 0 == 41) ≡ true = a.1 in
    grind (arith, nat_tests)

-- behind the first bracket stands at least the last one
pub some_inside : (text rest : List ℕ) → is_bracketed text ≡ true → rest ≡ drop 1 text → 0 < length rest
some_inside text rest e is = rw is (omega (arith, long text e, length-drop 1 text))

pub last_inside : (text rest : List ℕ) → is_bracketed text ≡ true → rest ≡ drop 1 text → get_or rest (length rest - 1) 0 < 128
last_inside text rest e is =
    let n : 1 + (length (drop 1 text) - 1) ≡ length text - 1 = omega (arith, long text e, length-drop 1 text) in
    rw (is, get_or-drop 1 text (length (drop 1 text) - 1) 0, n) (omega (arith, ends text e))
