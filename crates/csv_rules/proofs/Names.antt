-- Texts cut behind a name.
use Rattle.std.proofs.Common.{◌≡◌, ℕ, zero, suc, ◌+◌, ◌<◌, true, List, length, get_or, refl, arith}
use Rattle.std.specs.List.{prefix_len}
use Rattle.std.specs.Str.{is_utf8, IsUtf8, IsCharBoundary}
use Rattle.std.proofs.lemmas.Bool.Decides.{nat_tests}
use Rattle.std.proofs.lemmas.List.Sums.{prefix_len-le-length, prefix_len_passes}
use Rattle.std.proofs.lemmas.Str.{IsUtf8-from_is_utf8, IsCharBoundary-after_ascii, IsCharBoundary-start}
use Rattle.entry_reader.proofs.Texts.{after_passing, front_utf8}
use Rattle.csv_rules.specs.Words.{is_name_byte, name_at, after_name}

below : (b : ℕ) → is_name_byte b ≡ true → b < 128
below b e = grind (arith, nat_tests)

-- a text may be cut where only bytes of names stand before
name_cut : (text : List ℕ) (n : ℕ) → n ≡ prefix_len is_name_byte text → IsUtf8 text → IsCharBoundary text n
name_cut text zero e u = IsCharBoundary-start text u
name_cut text (suc n) e u =
    let passes : n < prefix_len is_name_byte text = omega arith in
    let within : n < length text = omega (arith, prefix_len-le-length is_name_byte text) in
    let k : n + 1 ≡ suc n = omega arith in
    rw (← k) (IsCharBoundary-after_ascii text n u within (below (get_or text n 0) (prefix_len_passes is_name_byte text n 0 passes)))

pub name_utf8 : (text : List ℕ) → is_utf8 text ≡ true → is_utf8 (name_at text) ≡ true
name_utf8 text e = front_utf8 text (prefix_len is_name_byte text) (name_cut text (prefix_len is_name_byte text) refl (IsUtf8-from_is_utf8 text e)) e

pub after_name_utf8 : (text : List ℕ) → is_utf8 text ≡ true → is_utf8 (after_name text) ≡ true
after_name_utf8 text e = after_passing is_name_byte text below e
