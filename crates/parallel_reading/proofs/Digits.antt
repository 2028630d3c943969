-- What begins with a digit is an entry, and so no directive, price or rule.
use Rattle.std.proofs.Common.{◌≡◌, ℕ, Bool, true, false, cond, ◌==◌, ◌&&◌, List, [], ◌∷◌, take, drop, codes, ap, ◌∙◌, refl, arith}
use Rattle.std.specs.Cmp.Lexicographic.{pointwise}
use Rattle.std.proofs.lemmas.Bool.{false≢true}
use Rattle.std.proofs.lemmas.Bool.Decides.{nat_tests}
use Rattle.hl_base.specs.declared.items.Kind.{Kind}
use Rattle.hl_base.specs.declared.items.Kind.TheVariants.{Entry}
use Rattle.hl_base.specs.Items.{begins_entry, is_blank, is_digit, kind_of, opens_block}
use Rattle.hl_base.specs.Lines.{first_line}
use Rattle.parallel_reading.specs.Runs.{is_head, is_head_kind}

not_block : (b : ℕ) (bs : List ℕ) → (99 == b) ≡ false → opens_block (b ∷ bs) ≡ false
not_block b bs e = ap (λ (t : Bool). (t && pointwise (λ x y. x == y) (codes "omment") (take 6 bs)) && is_blank (drop 7 (b ∷ bs))) e

after_block : (b : ℕ) (bs : List ℕ) → opens_block (b ∷ bs) ≡ false → is_digit b ≡ true → kind_of (b ∷ bs) ≡ Entry
after_block b bs e h =
    let e10 : (b == 10) ≡ false = grind (arith, nat_tests, h) in
    let e32 : (b == 32) ≡ false = grind (arith, nat_tests, h) in
    let e9 : (b == 9) ≡ false = grind (arith, nat_tests, h) in
    let e13 : (b == 13) ≡ false = grind (arith, nat_tests, h) in
    let e59 : (b == 59) ≡ false = grind (arith, nat_tests, h) in
    let e35 : (b == 35) ≡ false = grind (arith, nat_tests, h) in
    let e42 : (b == 42) ≡ false = grind (arith, nat_tests, h) in
    rw (e, e32, e9, e13, e10, e59, e35, e42, h) refl

digit_entry : (b : ℕ) (bs : List ℕ) → is_digit b ≡ true → kind_of (first_line (b ∷ bs)) ≡ Entry
digit_entry b bs h =
    let e10 : (b == 10) ≡ false = grind (arith, nat_tests, h) in
    let e99 : (99 == b) ≡ false = grind (arith, nat_tests, h) in
    ap (λ (t : Bool). kind_of (cond t (b ∷ []) (b ∷ first_line bs))) e10
    ∙ after_block b (first_line bs) (not_block b (first_line bs) e99) h

pub no_head : (bytes : List ℕ) → begins_entry bytes ≡ true → is_head bytes ≡ false
no_head [] h = absurd (false≢true h)
no_head (b ∷ bs) h = ap (λ (k : Kind). is_head_kind k) (digit_entry b bs h)
