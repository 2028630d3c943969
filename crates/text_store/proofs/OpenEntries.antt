-- How a record more at a file's end changes its open records.
use Rattle.std.proofs.Common.{◌≡◌, ◌≢◌, ◌⊎◌, inl, inr, ℕ, zero, suc, ◌+◌, ◌≤◌, ◌<◌, List, [], ◌∷◌, ◌++◌, length, take, drop, if◌then◌else◌, ◌==◌, ◌&&◌, nat_lt, refl, sym, ◌∙◌, ap, arith, append_assoc, length-append, length-take, length-drop}
use Rattle.std.specs.Int.{w64, from_le_bytes}
use Rattle.std.proofs.lemmas.Bool.{cases_eq, cases_lt}
use Rattle.std.proofs.lemmas.Bool.Decides.{nat_tests}
use Rattle.std.proofs.lemmas.List.{take_at, drop_at, take_all, append-nil, take-append-le, drop-append-le, take-take}
use Rattle.text_store.specs.Rest.{IsAt}
use Rattle.text_store.specs.Entries.{Entry, open_from, open_entries, IsFront}

pub taken : (gate a b : ℕ) (X Y : List Entry) → gate ≡ 1 → a < b → (if (gate == 1) && nat_lt a b then X else Y) ≡ X
taken gate a b X Y is less = grind (arith, nat_tests)

pub not_open : (gate a b : ℕ) (X Y : List Entry) → gate ≢ 1 → (if (gate == 1) && nat_lt a b then X else Y) ≡ Y
not_open gate a b X Y shut = grind (arith, nat_tests)

pub not_whole : (gate a b : ℕ) (X Y : List Entry) → b ≤ a → (if (gate == 1) && nat_lt a b then X else Y) ≡ Y
not_whole gate a b X Y less = grind (arith, nat_tests)

-- the number of steps is of no account, where it is enough
pub enough : (n m at : ℕ) (bytes : List ℕ) → length bytes ≤ n → length bytes ≤ m → open_from n at bytes ≡ open_from m at bytes
unfolding open_from
enough zero zero at [] le₁ le₂ = refl
enough zero (suc m) at [] le₁ le₂ = refl
enough zero m at (b ∷ bytes) le₁ le₂ = absurd (omega arith)
enough (suc n) zero at [] le₁ le₂ = refl
enough (suc n) zero at (b ∷ bytes) le₁ le₂ = absurd (omega arith)
enough (suc n) (suc m) at [] le₁ le₂ = refl
enough (suc n) (suc m) at (gate ∷ []) le₁ le₂ = refl
enough (suc n) (suc m) at (gate ∷ kind ∷ rest) le₁ le₂ =
    let len = from_le_bytes w64 (take 8 rest) in
    let entry : Entry = record { at = at; kind = kind; payload = take len (drop 8 rest) } in
    ap (λ (l : List Entry). if (gate == 1) && nat_lt (8 + len) (length rest) then entry ∷ l else [])
    (enough n m (at + 10 + len) (drop (8 + len) rest) (omega (arith, length-drop (8 + len) rest)) (omega (arith, length-drop (8 + len) rest)))

pub shut_gate : (n at gate : ℕ) (tail : List ℕ) → gate ≢ 1 → open_from n at (gate ∷ tail) ≡ []
unfolding open_from
shut_gate zero at gate tail shut = refl
shut_gate (suc n) at gate [] shut = refl
shut_gate (suc n) at gate (kind ∷ rest) shut = not_open gate _ _ _ [] shut

-- a whole record behind an open gate, and then whatever stands behind it
whole_record : (n at kind : ℕ) (r : List ℕ) (gate : ℕ) (tail : List ℕ) → length r ≡ 8 + from_le_bytes w64 (take 8 r) → length (1 ∷ kind ∷ r ++ gate ∷ tail) ≤ n
    → open_from n at (1 ∷ kind ∷ r ++ gate ∷ tail) ≡ record { at = at; kind = kind; payload = drop 8 r } ∷ open_from (length (gate ∷ tail)) (at + 2 + length r) (gate ∷ tail)
unfolding open_from
whole_record zero at kind r gate tail size le = absurd (omega arith)
whole_record (suc n) at kind r gate tail size le =
    let rest = r ++ gate ∷ tail in
    let len = from_le_bytes w64 (take 8 r) in
    let long : length rest ≡ length r + 1 + length tail = omega (arith, length-append r (gate ∷ tail)) in
    let eight : 8 ≤ length r = omega (arith, size) in
    let same : take 8 rest ≡ take 8 r = take-append-le 8 r (gate ∷ tail) eight in
    let same_len : from_le_bytes w64 (take 8 rest) ≡ len = ap (λ (l : List ℕ). from_le_bytes w64 l) same in
    let payload : take (from_le_bytes w64 (take 8 rest)) (drop 8 rest) ≡ drop 8 r =
    ap (λ (k : ℕ). take k (drop 8 rest)) same_len ∙ ap (λ (l : List ℕ). take len l) (drop-append-le 8 r (gate ∷ tail) eight)
    ∙ take_at (drop 8 r) (gate ∷ tail) len (omega (arith, length-drop 8 r, size)) in
    let behind : drop (8 + from_le_bytes w64 (take 8 rest)) rest ≡ gate ∷ tail =
    ap (λ (k : ℕ). drop (8 + k) rest) same_len ∙ drop_at r (gate ∷ tail) (8 + len) size in
    let next : at + 10 + from_le_bytes w64 (take 8 rest) ≡ at + 2 + length r = omega (arith, same_len, size) in
    let inside : 8 + from_le_bytes w64 (take 8 rest) < length rest = omega (arith, same_len, size, long) in
    let short : length (gate ∷ tail) ≤ n = omega (arith, le, long) in
    taken 1 _ _ _ [] refl inside
    ∙ (λ i. record { at = at; kind = kind; payload = payload i } ∷ open_from n (next i) (behind i))
    ∙ ap (λ (l : List Entry). record { at = at; kind = kind; payload = drop 8 r } ∷ l) (enough n (length (gate ∷ tail)) (at + 2 + length r) (gate ∷ tail) short (omega arith))

-- a front of a record, without the gate byte behind it, is none
pub cut_record : (n at kind k : ℕ) (r : List ℕ) → length r ≡ 8 + from_le_bytes w64 (take 8 r) → k ≤ length r → open_from n at (1 ∷ kind ∷ take k (r ++ 0 ∷ [])) ≡ []
unfolding open_from
cut_record zero at kind k r size le = refl
cut_record (suc n) at kind k r size le =
    let rest = take k (r ++ 0 ∷ []) in
    let same : rest ≡ take k r = take-append-le k r (0 ∷ []) le in
    let long : length rest ≡ k = ap length same ∙ length-take k r ∙ (omega arith) in
    not_whole 1 (8 + from_le_bytes w64 (take 8 rest)) (length rest) _ [] (elim (cases_lt k 8) [
      | inl less ↦ omega (arith, long)
      | inr eight ↦
          let head : take 8 rest ≡ take 8 r = ap (λ (l : List ℕ). take 8 l) same ∙ take-take 8 k r eight in
          omega (arith, ap (λ (l : List ℕ). from_le_bytes w64 l) head, size, long)
    ])

-- a lone gate is none
pub lone_gate : (n at gate : ℕ) → open_from n at (gate ∷ []) ≡ []
unfolding open_from
lone_gate zero at gate = refl
lone_gate (suc n) at gate = refl

pub front_begins : (header : List ℕ) → IsFront (length header) header []
unfolding open_entries
front_begins header = record {
  behind = omega arith;
  opens = λ gate tail.
      ap (λ (l : List ℕ). open_from (length (header ++ gate ∷ tail)) (length header) l) (drop_at header (gate ∷ tail) (length header) refl)
      ∙ enough (length (header ++ gate ∷ tail)) (length (gate ∷ tail)) (length header) (gate ∷ tail) (omega (arith, length-append header (gate ∷ tail))) (omega arith);
}

module _ (header : ℕ) (front : List ℕ) (entries : List Entry) (is : IsFront header front entries) where
  pub shut_behind : (gate : ℕ) (tail : List ℕ) → gate ≢ 1 → open_entries header (front ++ gate ∷ tail) ≡ entries
  shut_behind gate tail shut =
      is.opens gate tail ∙ ap (λ (l : List Entry). entries ++ l) (shut_gate (length (gate ∷ tail)) (length front) gate tail shut) ∙ append-nil entries

  module _ (kind : ℕ) (r : List ℕ) (size : length r ≡ 8 + from_le_bytes w64 (take 8 r)) where
    abbrev entry : Entry
    entry = record { at = length front; kind = kind; payload = drop 8 r }

    whole_behind : (gate : ℕ) (tail : List ℕ) → open_entries header (front ++ (1 ∷ kind ∷ r ++ gate ∷ tail)) ≡ entries ++ entry ∷ open_from (length (gate ∷ tail)) (length front + 2 + length r) (gate ∷ tail)
    whole_behind gate tail =
        is.opens 1 (kind ∷ r ++ gate ∷ tail)
        ∙ ap (λ (l : List Entry). entries ++ l) (whole_record (length (1 ∷ kind ∷ r ++ gate ∷ tail)) (length front) kind r gate tail size (omega arith))

    -- with the record more
    pub front_grows : IsFront header (front ++ 1 ∷ kind ∷ r) (entries ++ entry ∷ [])
    front_grows = record {
      behind = omega (arith, is.behind, length-append front (1 ∷ kind ∷ r));
      opens = λ gate tail.
          let long : length (front ++ 1 ∷ kind ∷ r) ≡ length front + 2 + length r = omega (arith, length-append front (1 ∷ kind ∷ r)) in
          ap (λ (l : List ℕ). open_entries header l) (append_assoc front (1 ∷ kind ∷ r) (gate ∷ tail))
          ∙ whole_behind gate tail
          ∙ ap (λ (k : ℕ). entries ++ entry ∷ open_from (length (gate ∷ tail)) k (gate ∷ tail)) (sym long)
          ∙ sym (append_assoc entries (entry ∷ []) (open_from (length (gate ∷ tail)) (length (front ++ 1 ∷ kind ∷ r)) (gate ∷ tail)));
    }

    -- what a crash leaves while the record is put there
    pub before_or_after : (c : List ℕ) → IsAt front (kind ∷ r ++ 0 ∷ []) c → (open_entries header c ≡ entries) ⊎ (open_entries header c ≡ entries ++ entry ∷ [])
    before_or_after c (inl at) = inl (ap (λ (l : List ℕ). open_entries header l) at.1 ∙ shut_behind 0 at.0 (omega arith))
    before_or_after c (inr at) = at_gate at.0 at.1 at.2
      where
        at_gate : (gate k : ℕ) → c ≡ front ++ gate ∷ take k (kind ∷ r ++ 0 ∷ []) → (open_entries header c ≡ entries) ⊎ (open_entries header c ≡ entries ++ entry ∷ [])
        at_gate gate k same = elim (cases_eq gate 1) [
          | inr shut ↦ inl (ap (λ (l : List ℕ). open_entries header l) same ∙ shut_behind gate (take k (kind ∷ r ++ 0 ∷ [])) shut)
          | inl is_open ↦ opened k (same ∙ ap (λ (x : ℕ). front ++ x ∷ take k (kind ∷ r ++ 0 ∷ [])) is_open)
        ]
          where
            opened : (k : ℕ) → c ≡ front ++ 1 ∷ take k (kind ∷ r ++ 0 ∷ []) → (open_entries header c ≡ entries) ⊎ (open_entries header c ≡ entries ++ entry ∷ [])
            opened zero same = inl (ap (λ (l : List ℕ). open_entries header l) same ∙ is.opens 1 [] ∙ ap (λ (l : List Entry). entries ++ l) (lone_gate (length {A = ℕ} (1 ∷ [])) (length front) 1) ∙ append-nil entries)
            opened (suc k) same = elim (cases_lt (length r) k) [
              | inr short ↦ inl (ap (λ (l : List ℕ). open_entries header l) same ∙ is.opens 1 (kind ∷ take k (r ++ 0 ∷ []))
                  ∙ ap (λ (l : List Entry). entries ++ l) (cut_record (length (1 ∷ kind ∷ take k (r ++ 0 ∷ []))) (length front) kind k r size short) ∙ append-nil entries)
              | inl long ↦ inr (ap (λ (l : List ℕ). open_entries header l) (same ∙ ap (λ (l : List ℕ). front ++ 1 ∷ kind ∷ l) (take_all k (r ++ 0 ∷ []) (omega (arith, length-append r (0 ∷ [])))))
                  ∙ whole_behind 0 [] ∙ ap (λ (l : List Entry). entries ++ entry ∷ l) (shut_gate (length {A = ℕ} (0 ∷ [])) (length front + 2 + length r) 0 [] (omega arith)))
            ]
