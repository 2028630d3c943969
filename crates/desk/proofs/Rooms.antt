-- When a store is written anew, and how large it is then.
use Rattle.std.proofs.Common.{◌≡◌, ◌⊎◌, inl, inr, ℕ, ◌+◌, ◌*◌, ◌-◌, ◌^◌, ◌<◌, ◌≤◌, min, Bool, true, false, IsTrue, ◌||◌, ltb, if◌then◌else◌, List, [], ◌∷◌, length, Option, Some, None, refl, ap, sym, subst, ◌∙◌, arith}
use Rattle.std.proofs.lemmas.Bool.{cases_lt, false≢true}
use Rattle.std.proofs.lemmas.Bool.Decides.{nat_tests}
use borrow.Author.Tests.{ltb-true}
use Rattle.hl_base.specs.declared.change.Latest.{Latest}
use Rattle.live_journal.specs.Loading.{first_of}
use Rattle.text_store.specs.declared.change.Change.{Change}
use Rattle.text_store.specs.Changes.{payload_of}
use Rattle.text_store.specs.Edits.{whole_size}
use Rattle.desk.specs.declared.reply.Reply.{Reply}
use Rattle.desk.specs.declared.reply.Reply.TheVariants as reply
use Rattle.desk.specs.Keeping.{due_at}
use Rattle.desk.specs.States.{State, full_cases, image_of, is_due, last_revision, long_name, many_states, no_room, record_size, size_before}

first_due : (size limit r whole : ℕ) → limit < size + r → true ≡ due_at size limit r whole
first_due size limit r whole h = grind (arith, nat_tests)

second_due : (size limit r whole : ℕ) → 2 * whole + 65536 < size → true ≡ due_at size limit r whole
second_due size limit r whole h = grind (arith, nat_tests)

neither_due : (size limit r whole : ℕ) (p q : Bool) → ltb limit (size + r) ≡ p → ltb (2 * whole + 65536) size ≡ q → (limit < size + r → ⊥) → (2 * whole + 65536 < size → ⊥) → false ≡ (p || q)
neither_due size limit r whole true q e f a b = absurd (a (ltb-true limit (size + r) e))
neither_due size limit r whole false true e f a b = absurd (b (ltb-true (2 * whole + 65536) size f))
neither_due size limit r whole false false e f a b = refl

-- the test of a store says that it is due
pub due_same : (size limit r whole counted : ℕ) (b : Bool) → size < 2 ^ 64 → counted ≡ min whole (2 ^ 64 - 1)
    → (IsTrue b → (limit < size + r) ⊎ (2 * counted + 65536 < size)) → ((limit < size + r) ⊎ (2 * counted + 65536 < size) → IsTrue b) → b ≡ due_at size limit r whole
due_same size limit r whole counted true few is to from = tested (to refl)
  where
    tested : (limit < size + r) ⊎ (2 * counted + 65536 < size) → true ≡ due_at size limit r whole
    tested (inl h) = first_due size limit r whole h
    tested (inr h) = second_due size limit r whole (omega arith)
due_same size limit r whole counted false few is to from =
    neither_due size limit r whole (ltb limit (size + r)) (ltb (2 * whole + 65536) size) refl refl (λ h. false≢true (from (inl h))) (λ h. false≢true (from (inr (below h))))
  where
    below : 2 * whole + 65536 < size → 2 * counted + 65536 < size
    below h = omega arith

-- a length that is told up to the greatest number passes a limit where the length does
told_past : (limit real told size : ℕ) → limit < 2 ^ 64 → 0 < size → told ≡ min real (2 ^ 64 - 1) → limit < told + size → limit < real + size
told_past limit real told size few some is h = omega arith

told_within : (limit real told size : ℕ) → limit < 2 ^ 64 → 0 < size → told ≡ min real (2 ^ 64 - 1) → (limit < told + size → ⊥) → real + size ≤ limit
told_within limit real told size few some is h = omega arith

told_sum : (real told size : ℕ) → told ≡ min real (2 ^ 64 - 1) → min (told + size) (2 ^ 64 - 1) ≡ min (real + size) (2 ^ 64 - 1)
told_sum real told size is = omega arith

pub no_room_by : (s : State) (size told total : ℕ) → is_due s size ≡ true → s.limit < 2 ^ 64 → 0 < size → told ≡ min (whole_size (image_of s)) (2 ^ 64 - 1)
    → ltb s.limit (told + size) ≡ true → total ≡ min (told + size) (2 ^ 64 - 1) → Some (reply.Full total s.limit) ≡ no_room s size
no_room_by s size told total due few some is past sum =
    let over = told_past s.limit (whole_size (image_of s)) told size few some is (ltb-true s.limit (told + size) past) in
    let lt : ltb s.limit (whole_size (image_of s) + size) ≡ true = grind (arith, nat_tests) in
    let same : total ≡ min (whole_size (image_of s) + size) (2 ^ 64 - 1) = sum ∙ told_sum (whole_size (image_of s)) told size is in
    sym (chosen (is_due s size) (ltb s.limit (whole_size (image_of s) + size)) _ s.limit due lt ∙ ap (λ (n : ℕ). Some (reply.Full n s.limit)) (sym same))
  where
    chosen : (p q : Bool) (n limit : ℕ) → p ≡ true → q ≡ true → (if p then (if q then Some (reply.Full n limit) else None) else None) ≡ Some (reply.Full n limit)
    chosen p q n limit a b = rw (a, b) refl

pub room_by : (s : State) (size told : ℕ) → is_due s size ≡ true → s.limit < 2 ^ 64 → 0 < size → told ≡ min (whole_size (image_of s)) (2 ^ 64 - 1)
    → ltb s.limit (told + size) ≡ false → None ≡ no_room s size
room_by s size told due few some is past =
    let within = told_within s.limit (whole_size (image_of s)) told size few some is (λ h. below (told + size) s.limit past h) in
    let lt : ltb s.limit (whole_size (image_of s) + size) ≡ false = grind (arith, nat_tests) in
    sym (unchosen (is_due s size) (ltb s.limit (whole_size (image_of s) + size)) _ due lt)
  where
    below : (n limit : ℕ) → ltb limit n ≡ false → limit < n → ⊥
    below n limit e h =
        let t : ltb limit n ≡ true = grind (arith, nat_tests) in
        false≢true (sym e ∙ t)

    unchosen : (p q : Bool) (r : Reply) → p ≡ true → q ≡ false → (if p then (if q then Some r else None) else None) ≡ None
    unchosen p q r a b = rw (a, b) refl

-- ---- a record's size that is told up to the greatest number

-- with such a record there is no room
full_past : (s : State) (size : ℕ) → 0 < s.size → s.limit < 2 ^ 64 → 2 ^ 64 - 1 ≤ size → no_room s size ≡ Some (reply.Full (2 ^ 64 - 1) s.limit)
full_past s size some few long =
    let whole = whole_size (image_of s) in
    let due : is_due s size ≡ true = sym (first_due s.size s.limit size whole (omega arith)) in
    let over : ltb s.limit (whole + size) ≡ true = grind (arith, nat_tests) in
    let most : min (whole + size) (2 ^ 64 - 1) ≡ 2 ^ 64 - 1 = omega arith in
    chosen (is_due s size) (ltb s.limit (whole + size)) (min (whole + size) (2 ^ 64 - 1)) s.limit due over ∙ ap (λ (n : ℕ). Some (reply.Full n s.limit)) most
  where
    chosen : (p q : Bool) (n limit : ℕ) → p ≡ true → q ≡ true → (if p then (if q then Some (reply.Full n limit) else None) else None) ≡ Some (reply.Full n limit)
    chosen p q n limit a b = rw (a, b) refl

-- the refusal by the size that is told is the refusal by the size
pub told_room : (s : State) (size : ℕ) → 0 < s.size → s.limit < 2 ^ 64 → no_room s (min size (2 ^ 64 - 1)) ≡ no_room s size
told_room s size some few = by_size (cases_lt size (2 ^ 64))
  where
    by_size : (size < 2 ^ 64) ⊎ (2 ^ 64 ≤ size) → no_room s (min size (2 ^ 64 - 1)) ≡ no_room s size
    by_size (inl small) = ap (no_room s) (let e : min size (2 ^ 64 - 1) ≡ size = omega arith in e)
    by_size (inr long) = full_past s (min size (2 ^ 64 - 1)) some few (omega arith) ∙ sym (full_past s size some few (omega arith))

-- where there is room the size that is told is the size
pub told_size : (s : State) (size : ℕ) → 0 < s.size → s.limit < 2 ^ 64 → no_room s (min size (2 ^ 64 - 1)) ≡ None → min size (2 ^ 64 - 1) ≡ size
told_size s size some few none = by_size (cases_lt size (2 ^ 64))
  where
    by_size : (size < 2 ^ 64) ⊎ (2 ^ 64 ≤ size) → min size (2 ^ 64 - 1) ≡ size
    by_size (inl small) = omega arith
    by_size (inr long) =
        let full = full_past s (min size (2 ^ 64 - 1)) some few (omega arith) in
        absurd (cc (sym none ∙ full))

first_false : (a b : Bool) → (a || b) ≡ false → a ≡ false
first_false true b h = cc
first_false false b h = refl

not_over : (n limit : ℕ) → ltb limit n ≡ false → n ≤ limit
not_over n limit h = grind (arith, nat_tests)

-- and the record fits behind the store
pub has_room : (s : State) (size : ℕ) → no_room s size ≡ None → size_before s size + size ≤ s.limit
has_room s size none = by_test (is_due s size) (ltb s.limit (whole_size (image_of s) + size)) refl refl none
  where
    by_test : (p q : Bool) → is_due s size ≡ p → ltb s.limit (whole_size (image_of s) + size) ≡ q
        → (if p then (if q then Some (reply.Full (min (whole_size (image_of s) + size) (2 ^ 64 - 1)) s.limit) else None) else None) ≡ None
        → (if p then whole_size (image_of s) else s.size) + size ≤ s.limit
    by_test true true due over e = cc
    by_test true false due over e = not_over (whole_size (image_of s) + size) s.limit over
    by_test false q due over e = not_over (s.size + size) s.limit (first_false (ltb s.limit (s.size + size)) _ due)

-- the first of some refusals is none where each is
pub none_first : (o : Option Reply) (rest : List (Option Reply)) → first_of (o ∷ rest) ≡ None → (o ≡ None) × (first_of rest ≡ None)
none_first None rest h = (refl, h)
none_first (Some r) rest h = cc

pub revision_below : (revision : ℕ) → last_revision revision ≡ None → revision < 2 ^ 62
revision_below revision h = tested (ltb revision (2 ^ 62)) refl h
  where
    tested : (b : Bool) → ltb revision (2 ^ 62) ≡ b → (if b then None else Some (reply.Full (min (revision + 1) (2 ^ 64 - 1)) (2 ^ 62))) ≡ None → revision < 2 ^ 62
    tested true is e = ltb-true revision (2 ^ 62) is
    tested false is e = cc

-- what holds where an edit has the room and no number has come to its end
pub record IsRoomed (s : State) (mark : Option Latest) (states : Option (List Latest)) (size : ℕ) : Type 0 where
  pub room : no_room s size ≡ None
  pub told : min size (2 ^ 64 - 1) ≡ size
  pub revision : s.revision < 2 ^ 62
  pub name : long_name mark ≡ None
  pub few : many_states states ≡ None

pub roomed : (s : State) (mark : Option Latest) (states : Option (List Latest)) (size : ℕ) → 0 < s.size → s.limit < 2 ^ 64
    → first_of (full_cases s mark states (min size (2 ^ 64 - 1))) ≡ None → IsRoomed s mark states size
roomed s mark states size some few none =
    let room = none_first (no_room s (min size (2 ^ 64 - 1))) (last_revision s.revision ∷ long_name mark ∷ many_states states ∷ []) none in
    let revision = none_first (last_revision s.revision) (long_name mark ∷ many_states states ∷ []) room.1 in
    let name = none_first (long_name mark) (many_states states ∷ []) revision.1 in
    record {
      room = sym (told_room s size some few) ∙ room.0;
      told = told_size s size some few room.0;
      revision = revision_below s.revision revision.0;
      name = name.0;
      few = (none_first (many_states states) [] name.1).0;
    }

-- the first refusal by the size that is told is that by the size
pub told_full : (s : State) (mark : Option Latest) (states : Option (List Latest)) (size : ℕ) → 0 < s.size → s.limit < 2 ^ 64
    → first_of (full_cases s mark states (min size (2 ^ 64 - 1))) ≡ first_of (full_cases s mark states size)
told_full s mark states size some few =
    ap (λ (o : Option Reply). first_of (o ∷ last_revision s.revision ∷ long_name mark ∷ many_states states ∷ [])) (told_room s size some few)

-- the first refusal of what an edit is kept as
pub room_told : (s : State) (mark : Option Latest) (states given : Option (List Latest)) (c is : Change) → 0 < s.size → s.limit < 2 ^ 64 → c ≡ is → states ≡ given
    → first_of (full_cases s mark states (min (record_size c) (2 ^ 64 - 1))) ≡ first_of (full_cases s mark given (record_size is))
room_told s mark states given c is some few same also =
    (λ i. first_of (full_cases s mark (also i) (min (record_size (same i)) (2 ^ 64 - 1)))) ∙ told_full s mark given (record_size is) some few

-- a record has some bytes
some_bytes : (n : ℕ) → 0 < min (10 + n) (2 ^ 64 - 1)
some_bytes n = omega arith

pub some_told : (told : ℕ) (c : Change) → told ≡ min (record_size c) (2 ^ 64 - 1) → 0 < told
some_told told c is = subst (λ (n : ℕ). 0 < n) (sym is) (some_bytes (length (payload_of c)))

-- the only one of a list
pub only_one : (o : Option Reply) → o ≡ first_of (o ∷ [])
only_one None = refl
only_one (Some r) = refl
