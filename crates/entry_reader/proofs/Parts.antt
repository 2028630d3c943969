-- The parts of an account, read byte by byte.
use Rattle.std.proofs.Common.{◌≡◌, ℕ, suc, ◌+◌, ◌<◌, ◌≤◌, Bool, true, false, cond, ◌==◌, ◌&&◌, leb, List, [], ◌∷◌, length, refl, sym, ◌∙◌, arith, drop, get_or, count_by}
use Rattle.std.specs.List.{list_all}
use Rattle.hl_base.specs.Lines.{onto}
use Rattle.book.specs.Accounts.{parts_of}
use Rattle.std.proofs.lemmas.Bool.Decides.{nat_tests}
use Rattle.std.proofs.lemmas.List.{at_drop_more}
use Rattle.std.proofs.lemmas.List.Sums.{count_by-le-length, sum_by-cons}

-- no part is empty of what follows, of which the first part is open if it has a byte already
abbrev pub filled_from : Bool → List ℕ → Bool
filled_from is_open [] = is_open
filled_from is_open (b ∷ bs) = cond (b == 58) (is_open && filled_from false bs) (filled_from true bs)

abbrev fills : List (List ℕ) → Bool
fills parts = list_all (λ part. leb 1 (length part)) parts

filled_one : (n : ℕ) → leb 1 (suc n) ≡ true
filled_one n = grind (arith, nat_tests)

-- a byte before the first part of those that end in ps
onto_case : (b : ℕ) (parts : List (List ℕ)) (rest : Bool) → fills (drop 1 parts) ≡ rest → (fills (onto b parts) ≡ rest) × (fills (drop 1 (onto b parts)) ≡ rest)
onto_case b [] rest h = (h, h)
onto_case b (part ∷ parts) rest h = (rw (filled_one (length part)) h, h)

filled_cons : (t : Bool) (b : ℕ) (bs : List ℕ) → t ≡ (b == 58) → (fills (parts_of bs) ≡ filled_from false bs) × (fills (drop 1 (parts_of bs)) ≡ filled_from true bs)
    → (fills (parts_of (b ∷ bs)) ≡ filled_from false (b ∷ bs)) × (fills (drop 1 (parts_of (b ∷ bs))) ≡ filled_from true (b ∷ bs))
filled_cons true b bs e h = rw (← e) (refl, h.0)
filled_cons false b bs e h = rw (← e) (onto_case b (parts_of bs) (filled_from true bs) h.1)

filled_is : (bs : List ℕ) → (fills (parts_of bs) ≡ filled_from false bs) × (fills (drop 1 (parts_of bs)) ≡ filled_from true bs)
filled_is [] = (refl, refl)
filled_is (b ∷ bs) = filled_cons (b == 58) b bs refl (filled_is bs)

pub fills_is : (account : List ℕ) → fills (parts_of account) ≡ filled_from false account
fills_is account = (filled_is account).0

-- colons divide one part more than they are
count_onto : (b n : ℕ) (parts : List (List ℕ)) → length parts ≡ 1 + n → length (onto b parts) ≡ 1 + n
count_onto b n [] h = absurd (omega (arith, h))
count_onto b n (part ∷ parts) h = h

count_cons : (t : Bool) (b : ℕ) (bs : List ℕ) (n : ℕ) → t ≡ (b == 58) → length (parts_of bs) ≡ 1 + n → length (parts_of (b ∷ bs)) ≡ 1 + (cond (b == 58) 1 0 + n)
count_cons true b bs n e h = rw (← e) (omega (arith, h))
count_cons false b bs n e h = rw (← e) (count_onto b n (parts_of bs) h ∙ omega arith)

pub part_count : (account : List ℕ) → length (parts_of account) ≡ 1 + count_by (λ b. b == 58) account
part_count [] = refl
part_count (b ∷ bs) = rw (sum_by-cons (λ x. cond (x == 58) 1 0) b bs) (count_cons (b == 58) b bs (count_by (λ x. x == 58) bs) refl (part_count bs))

-- a colon where no part is open
pub ends_closed : (account : List ℕ) (i : ℕ) (is_open : Bool) → i < length account → get_or account i 0 ≡ 58 → is_open ≡ false
    → filled_from is_open (drop i account) ≡ filled_from false account → false ≡ fills (parts_of account)
ends_closed account i is_open lt colon closed so_far =
    let more = at_drop_more (filled_from is_open) account i 0 lt in
    let stops : filled_from is_open (get_or account i 0 ∷ drop (i + 1) account) ≡ false = rw (colon, closed) refl in
    sym stops ∙ sym more ∙ so_far ∙ sym (fills_is account)

-- a short account has few colons
pub few_colons : (account : List ℕ) → length account < 64 → length (parts_of account) ≤ 64
few_colons account short = omega (arith, part_count account, count_by-le-length (λ b. b == 58) account, short)
