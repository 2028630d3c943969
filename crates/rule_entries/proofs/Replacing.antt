-- The matched account in place of the word for it.
use Rattle.std.proofs.Common.{Bor, ◌≡◌, ◌≢◌, ℕ, zero, suc, ◌+◌, ◌<◌, ◌≤◌, Bool, true, false, nat_eq, cond, List, [], ◌∷◌, ◌++◌, append_assoc, length, take, drop, Option, Some, None, MatchOption, IfSome, refl, sym, ap, ◌∙◌, arith}
use Rattle.std.specs.List.{starts_with}
use Rattle.std.specs.Str.Pattern.{FindsText, LacksTextAt}
use Rattle.std.proofs.lemmas.Bool.Decides.{Decides-eqb}
use Rattle.std.proofs.lemmas.Slice.Eq.{starts_is}
use Rattle.rule_entries.specs.Accounts.{account_word, put_after}

-- a text that doesn't begin with the word
lacks_front : (text : List ℕ) (b : Bool) → starts_with nat_eq text account_word ≡ b → LacksTextAt account_word text 0 → b ≡ false
lacks_front text false is lacks = refl
lacks_front text true is lacks =
    absurd (lacks (drop 8 text) ((starts_is Decides-eqb text account_word true (sym is)).0 refl))

keeps_first : (matched : List ℕ) (b : ℕ) (bs : List ℕ) → LacksTextAt account_word (b ∷ bs) 0
    → put_after matched 0 (b ∷ bs) ≡ b ∷ put_after matched 0 bs
keeps_first matched b bs lacks =
    ap (λ t. cond t (matched ++ put_after matched 7 bs) (b ∷ put_after matched 0 bs))
    (lacks_front (b ∷ bs) (starts_with nat_eq (b ∷ bs) account_word) refl lacks)

-- a text without the word stays
pub untouched : (matched text : List ℕ) → ((i : ℕ) → i ≤ length text → LacksTextAt account_word text i) → put_after matched 0 text ≡ text
untouched matched [] lacks = refl
untouched matched (b ∷ bs) lacks =
    keeps_first matched b bs (lacks 0 (omega arith))
    ∙ ap (λ xs. b ∷ xs) (untouched matched bs (λ i within. lacks (suc i) (omega (arith, within))))

at_word : (matched rest : List ℕ) → put_after matched 0 (account_word ++ rest) ≡ matched ++ put_after matched 0 rest
at_word matched rest = refl

no_word : (rest : List ℕ) → [] ≢ account_word ++ rest
no_word rest h = cc h

-- where the word comes first, what stands before it, the matched account, and the rest in the same way
pub replaced_at : (matched text rest : List ℕ) (i : ℕ) → ((k : ℕ) → k < i → LacksTextAt account_word text k)
    → drop i text ≡ account_word ++ rest → put_after matched 0 text ≡ take i text ++ (matched ++ put_after matched 0 rest)
replaced_at matched text rest zero lacks here = ap (put_after matched 0) here ∙ at_word matched rest
replaced_at matched [] rest (suc i) lacks here = absurd (no_word rest here)
replaced_at matched (b ∷ bs) rest (suc i) lacks here =
    keeps_first matched b bs (lacks 0 (omega arith))
    ∙ ap (λ xs. b ∷ xs) (replaced_at matched bs rest i (λ k less. lacks (suc k) (omega (arith, less))) here)

-- what the search for the word says
abbrev IsCut : List ℕ → Option (Bor (List ℕ) × Bor (List ℕ)) → Type 0
IsCut text found =
    MatchOption found (FindsText account_word text None) (λ x. (i : ℕ) × (j : ℕ) × FindsText account_word text (Some (i, j))
    × (x.0.now ≡ take i text) × (x.1.now ≡ drop j text) × (i ≤ j) × (length x.0.now ≡ i) × (length x.1.now + j ≡ length text))

pub parted : (text : List ℕ) (found : Option (Bor (List ℕ) × Bor (List ℕ))) → IsCut text found
    → MatchOption found ((matched : List ℕ) → put_after matched 0 text ≡ text)
    (λ x. (matched : List ℕ) → put_after matched 0 text ≡ x.0.now ++ (matched ++ put_after matched 0 x.1.now))
parted text None lacks = λ matched. untouched matched text lacks
parted text (Some x) h =
    λ matched. replaced_at matched text x.1.now h.0 h.2.0 (h.2.1.split ∙ ap (λ rest. account_word ++ rest) (sym h.4))
    ∙ ap (λ before. before ++ (matched ++ put_after matched 0 x.1.now)) (sym h.3)

pub shorter : (text : List ℕ) (found : Option (Bor (List ℕ) × Bor (List ℕ))) → IsCut text found
    → IfSome found (λ x. length x.1.now < length text)
shorter text None lacks = tt
shorter text (Some x) h =
    let ends : h.1 ≡ h.0 + 8 = h.2.1.ends in
    let all : length x.1.now + h.1 ≡ length text = h.7 in
    omega (arith, ends, all)

-- one more word
pub one_more : (matched account before after rest name : List ℕ)
    → account ++ put_after matched 0 rest ≡ put_after matched 0 name
    → put_after matched 0 rest ≡ before ++ (matched ++ put_after matched 0 after)
    → ((account ++ before) ++ matched) ++ put_after matched 0 after ≡ put_after matched 0 name
one_more matched account before after rest name so_far here =
    append_assoc (account ++ before) matched (put_after matched 0 after)
    ∙ append_assoc account before (matched ++ put_after matched 0 after)
    ∙ ap (λ xs. account ++ xs) (sym here)
    ∙ so_far
