-- Heads and frames at the front of bytes.
use Rattle.std.proofs.Common.{◌≡◌, ◌∙◌, ℕ, ◌+◌, ◌<◌, ◌≤◌, true, false, List, [], ◌∷◌, ◌++◌, length, get_or, take, drop, Option, None, Some, IfSome, refl, sym, ap, subst, arith, append_assoc, length-append, length-take, length-drop, take-append-drop, ◌⊎◌, inl, inr}
use Rattle.std.specs.Int.{w64, to_le_bytes, from_le_bytes}
use Rattle.std.proofs.lemmas.Bool.{cases_lt}
use Rattle.std.proofs.lemmas.List.{drop_more, drop-append-le, take-append-le, take_all, get_or_append_left, get_or_past, get_or-take, get_or-drop}
use Rattle.std.proofs.lemmas.Nat.{le_bytes_8, from_le_bytes-to_le_bytes_8}
use Rattle.text_store.specs.Frames.{frame}
use Rattle.text_store.specs.Image.{number_8}
use Rattle.follower.specs.declared.fault.FrameFault.TheVariants.{Cut, BadFrame, TooLong}
use Rattle.follower.specs.declared.heads.Head.{Head}
use Rattle.follower.specs.Fills.{FillsOn, Ends}
use Rattle.follower.specs.Heads.{is_kind, most, BeginsWith, BeginsAt, BeginsUpTo, EndsInside, FrameRefused, head_bytes}
use Rattle.follower.proofs.Filled.{all_read}

-- where all that was left is a list, this says what it says
pub cut_after : (a : Option (List ℕ)) (read : List ℕ) (had : ℕ) → IfSome a (λ all. all ≡ read) → EndsInside read → had ≡ length read → IfSome a (λ bytes. FrameRefused bytes (Cut had))
cut_after None read had is inside size = tt
cut_after (Some all) read had is inside size = (subst EndsInside (sym is) inside, size ∙ ap length (sym is))

-- ---- the kind

pub ends_early : (read : List ℕ) → 0 < length read → length read < 9 → EndsInside read
ends_early read some short = record {
  some = some;
  kind = λ long. absurd (omega (arith, long, short));
  said = λ long. absurd (omega (arith, long, short));
  short = λ long. absurd (omega (arith, long, short));
}

nil_of : (l : List ℕ) → length l ≡ 0 → l ≡ []
nil_of [] is = refl
nil_of (x ∷ l) is = absurd (omega (arith, is))

-- nothing was left
pub none_begins : (a b : Option (List ℕ)) (read : List ℕ) → length read ≡ 0 → FillsOn a b [] read → Ends a b
    → IfSome a (λ bytes. (rest : List ℕ) × (b ≡ Some rest) × BeginsUpTo bytes None read rest)
none_begins None b read none fills ends = tt
none_begins (Some all) b read none fills ends = ([], ends, (all_read (Some all) b [] read fills ends ∙ nil_of read none, refl))

pub kind_begins : (a b : Option (List ℕ)) (read : List ℕ) (kind : ℕ) → length read ≡ 9 → kind ≡ get_or read 8 0 → is_kind kind ≡ true → FillsOn a b [] read
    → IfSome a (λ bytes. (rest : List ℕ) × (b ≡ Some rest) × BeginsUpTo bytes (Some kind) read rest)
kind_begins None b read kind nine at good fills = tt
kind_begins (Some all) b read kind nine at good fills = (fills.0, fills.1, (good, nine, sym at, fills.2))

pub kind_refused : (a b : Option (List ℕ)) (read : List ℕ) (kind : ℕ) → length read ≡ 9 → kind ≡ get_or read 8 0 → is_kind kind ≡ false → FillsOn a b [] read
    → IfSome a (λ bytes. FrameRefused bytes (BadFrame kind))
kind_refused None b read kind nine at bad fills = tt
kind_refused (Some all) b read kind nine at bad fills =
    let front : get_or all 8 0 ≡ get_or read 8 0 = ap (λ (l : List ℕ). get_or l 8 0) fills.2 ∙ get_or_append_left read fills.0 0 8 (omega (arith, nine)) in
    (omega (arith, ap length fills.2, length-append read fills.0, nine), at ∙ sym front, bad)

-- ---- the length

-- nine bytes and those that were read on
pub head_read : (a m b : Option (List ℕ)) (read more : List ℕ) (kind : ℕ) → IfSome a (λ bytes. (rest : List ℕ) × (m ≡ Some rest) × BeginsUpTo bytes (Some kind) read rest)
    → FillsOn m b read more → length read ≤ length more
    → IfSome a (λ bytes. (rest : List ℕ) × (b ≡ Some rest) × (bytes ≡ more ++ rest) × (get_or more 8 0 ≡ kind))
head_read None m b read more kind begins fills longer = tt
head_read (Some all) m b read more kind begins fills longer =
    let on = subst (λ (o : Option (List ℕ)). FillsOn o b read more) begins.1 fills in
    let up = begins.2 in
    let nine = up.1 in (
      on.0,
      on.1,
      up.3 ∙ on.2,
      sym (get_or_append_left more on.0 0 8 (omega (arith, longer, nine))) ∙ ap (λ (l : List ℕ). get_or l 8 0) (sym on.2)
          ∙ get_or_append_left read begins.0 0 8 (omega (arith, nine)) ∙ up.2,
    )

pub head_ends : (a m b : Option (List ℕ)) (read more : List ℕ) (kind : ℕ) → IfSome a (λ bytes. (rest : List ℕ) × (m ≡ Some rest) × BeginsUpTo bytes (Some kind) read rest)
    → FillsOn m b read more → Ends m b → IfSome a (λ all. all ≡ more)
head_ends None m b read more kind begins fills ends = tt
head_ends (Some all) m b read more kind begins fills ends =
    let on = all_read (Some begins.0) b read more (subst (λ (o : Option (List ℕ)). FillsOn o b read more) begins.1 fills) (subst (λ (o : Option (List ℕ)). Ends o b) begins.1 ends) in
    let up = begins.2 in
    up.3 ∙ on

ends_in_head : (more : List ℕ) (kind : ℕ) → is_kind kind ≡ true → get_or more 8 0 ≡ kind → 0 < length more → length more < 17 → EndsInside more
ends_in_head more kind good at some short = record {
  some = some;
  kind = λ long. ap is_kind at ∙ good;
  said = λ long. absurd (omega (arith, long, short));
  short = λ long. absurd (omega (arith, long, short));
}

-- the source ended inside a head
pub cut_head : (a b : Option (List ℕ)) (more : List ℕ) (kind had : ℕ) → is_kind kind ≡ true → 0 < length more → length more < 17 → had ≡ length more → IfSome a (λ all. all ≡ more)
    → IfSome a (λ bytes. (rest : List ℕ) × (b ≡ Some rest) × (bytes ≡ more ++ rest) × (get_or more 8 0 ≡ kind)) → IfSome a (λ bytes. FrameRefused bytes (Cut had))
cut_head None b more kind had good some short size is begins = tt
cut_head (Some all) b more kind had good some short size is begins = cut_after (Some all) more had is (ends_in_head more kind good begins.3 some short) size

-- a number's bytes
pub number_bytes : (bytes : List ℕ) (at n : ℕ) → at + 8 ≤ length bytes → ((i : ℕ) → get_or bytes i 0 < 256) → n ≡ from_le_bytes w64 (take 8 (drop at bytes)) → to_le_bytes w64 n ≡ take 8 (drop at bytes)
number_bytes bytes at n room small is =
    le_bytes_8 (take 8 (drop at bytes)) n (omega (arith, length-take 8 (drop at bytes), length-drop at bytes, room)) (λ i. within i (cases_lt i 8)) is
  where
    within : (i : ℕ) → (i < 8) ⊎ (8 ≤ i) → get_or (take 8 (drop at bytes)) i 0 < 256
    within i (inl less) = subst (λ (x : ℕ). x < 256) (sym (get_or-take 8 (drop at bytes) i 0 less ∙ get_or-drop at bytes i 0)) (small (at + i))
    within i (inr past) =
        subst (λ (x : ℕ). x < 256) (sym (get_or_past (take 8 (drop at bytes)) i 0 (omega (arith, length-take 8 (drop at bytes), length-drop at bytes, past)))) (omega arith)

module _ (more : List ℕ) (size : length more ≡ 17) where
  number_in : (rest : List ℕ) → number_8 (drop 9 (more ++ rest)) ≡ number_8 (drop 9 more)
  number_in rest =
      ap number_8 (drop-append-le 9 more rest (omega (arith, size)))
      ∙ ap (λ (l : List ℕ). from_le_bytes w64 l) (take-append-le 8 (drop 9 more) rest (omega (arith, length-drop 9 more, size)))

  pub too_long : (a b : Option (List ℕ)) (kind said limit : ℕ) → is_kind kind ≡ true → said ≡ number_8 (drop 9 more) → limit ≡ most → limit < said
      → IfSome a (λ bytes. (rest : List ℕ) × (b ≡ Some rest) × (bytes ≡ more ++ rest) × (get_or more 8 0 ≡ kind))
      → IfSome a (λ bytes. FrameRefused bytes (TooLong said limit))
  too_long None b kind said limit good is is_most above begins = tt
  too_long (Some all) b kind said limit good is is_most above begins =
      let rest = begins.0 in (
        omega (arith, ap length begins.2, length-append more rest, size),
        ap is_kind (ap (λ (l : List ℕ). get_or l 8 0) begins.2 ∙ get_or_append_left more rest 0 8 (omega (arith, size)) ∙ begins.3) ∙ good,
        is ∙ sym (number_in rest) ∙ ap (λ (l : List ℕ). number_8 (drop 9 l)) (sym begins.2),
        is_most,
        above,
      )

  module _ (revision kind len : ℕ) (front : to_le_bytes w64 revision ≡ take 8 (drop 0 more)) (behind : to_le_bytes w64 len ≡ take 8 (drop 9 more)) where
    all_behind : to_le_bytes w64 len ≡ drop 9 more
    all_behind = behind ∙ take_all 8 (drop 9 more) (omega (arith, length-drop 9 more, size))

    head_is : get_or more 8 0 ≡ kind → to_le_bytes w64 revision ++ kind ∷ to_le_bytes w64 len ≡ more
    head_is at =
        (λ i. front i ++ sym at i ∷ all_behind i) ∙ ap (λ (l : List ℕ). take 8 more ++ l) (sym (drop_more more 8 0 (omega (arith, size)))) ∙ take-append-drop 8 more

    pub head_begins : (a b : Option (List ℕ)) → is_kind kind ≡ true → len ≤ most → IfSome a (λ bytes. (rest : List ℕ) × (b ≡ Some rest) × (bytes ≡ more ++ rest) × (get_or more 8 0 ≡ kind))
        → IfSome a (λ bytes. (rest : List ℕ) × (b ≡ Some rest) × BeginsAt bytes (Some (record { revision = revision; kind = kind; len = len })) rest)
    head_begins None b good within begins = tt
    head_begins (Some all) b good within begins =
        (begins.0, begins.1, (good, within, begins.2 ∙ ap (λ (l : List ℕ). l ++ begins.0) (sym (head_is begins.3))))

-- ---- the payload

module _ (head : Head) (payload : List ℕ) where
  frame_is : length payload ≡ head.len → (rest : List ℕ) → head_bytes head ++ (payload ++ rest) ≡ frame head.revision head.kind payload ++ rest
  frame_is size rest =
      sym (append_assoc (head_bytes head) payload rest)
      ∙ ap (λ (l : List ℕ). l ++ rest) (append_assoc (to_le_bytes w64 head.revision) (head.kind ∷ to_le_bytes w64 head.len) payload
      ∙ ap (λ (n : ℕ). to_le_bytes w64 head.revision ++ ((head.kind ∷ to_le_bytes w64 n) ++ payload)) (sym size))

  pub frame_begins : (a m b : Option (List ℕ)) → IfSome a (λ bytes. (rest : List ℕ) × (m ≡ Some rest) × BeginsAt bytes (Some head) rest) → FillsOn m b [] payload → length payload ≡ head.len
      → IfSome a (λ bytes. (rest : List ℕ) × (b ≡ Some rest) × BeginsWith bytes (Some (record { revision = head.revision; kind = head.kind; payload = payload })) rest)
  frame_begins None m b begins fills size = tt
  frame_begins (Some all) m b begins fills size =
      let on = subst (λ (o : Option (List ℕ)). FillsOn o b [] payload) begins.1 fills in
      let at = begins.2 in
      (on.0, on.1, (at.0, omega (arith, size, at.1), at.2 ∙ ap (λ (l : List ℕ). head_bytes head ++ l) on.2 ∙ frame_is size on.0))

  pub frame_ends : (a m b : Option (List ℕ)) → IfSome a (λ bytes. (rest : List ℕ) × (m ≡ Some rest) × BeginsAt bytes (Some head) rest) → FillsOn m b [] payload → Ends m b
      → IfSome a (λ all. all ≡ head_bytes head ++ payload)
  frame_ends None m b begins fills ends = tt
  frame_ends (Some all) m b begins fills ends =
      let on = all_read (Some begins.0) b [] payload (subst (λ (o : Option (List ℕ)). FillsOn o b [] payload) begins.1 fills) (subst (λ (o : Option (List ℕ)). Ends o b) begins.1 ends) in
      let at = begins.2 in
      at.2 ∙ ap (λ (l : List ℕ). head_bytes head ++ l) on

  head_size : length (head_bytes head) ≡ 17
  head_size = refl

  pub ends_in_payload : is_kind head.kind ≡ true → head.len ≤ most → length payload < head.len → EndsInside (head_bytes head ++ payload)
  ends_in_payload good within short =
      let said : number_8 (drop 9 (head_bytes head ++ payload)) ≡ head.len = from_le_bytes-to_le_bytes_8 head.len (omega (arith, within)) in
      let long : length (head_bytes head ++ payload) ≡ 17 + length payload = length-append (head_bytes head) payload in
      record {
        some = omega (arith, long);
        kind = λ _. good;
        said = λ _. omega (arith, said, within);
        short = λ _. omega (arith, said, long, short);
      }

  pub cut_size : (had : ℕ) → had ≡ 17 + length payload → had ≡ length (head_bytes head ++ payload)
  cut_size had is = is ∙ sym (length-append (head_bytes head) payload)
