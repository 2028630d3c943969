-- What is read of two files, and which half is in use.
use Rattle.std.proofs.Common.{◌≡◌, ◌≢◌, ◌∙◌, ℕ, ◌+◌, ◌%◌, ◌-◌, ◌<◌, ◌≤◌, ◌^◌, ◌==◌, ◌&&◌, not, nat_lt, nat_le, if◌then◌else◌, Bool, true, false, List, [], ◌∷◌, ◌++◌, length, take, drop, Option, Some, None, Result, Ok, Err, IfOk, IfErr, refl, sym, ap, subst, arith, length-take}
use Rattle.std.specs.Int.{w64, from_le_bytes}
use Rattle.std.specs.Str.{bytes_eq}
use Rattle.std.proofs.lemmas.Bool.Decides.{nat_tests}
use Rattle.std.proofs.lemmas.List.{drop-take, take-take}
use Rattle.std.proofs.lemmas.Slice.Eq.{bytes_eq-Decides}
use Rattle.text_store.specs.declared.fault.StoreFault.{StoreFault}
use Rattle.text_store.specs.declared.finding.Head.{Head}
use Rattle.text_store.specs.declared.finding.LiveHalf.{LiveHalf}
use Rattle.text_store.specs.declared.finding.Found.{Found}
use Rattle.text_store.specs.declared.finding.Place.{Place}
use Rattle.text_store.specs.declared.finding.Place.TheVariants.{Half as InHalf, Older}
use Rattle.text_store.specs.declared.image.Image.{Image}
use Rattle.text_store.specs.declared.records.Record.{Record}
use Rattle.text_store.specs.Contents.{content_in_code, IsEnd}
use Rattle.text_store.specs.Entries.{Entry, IsFront, open_entries}
use Rattle.text_store.specs.Files.{next_generation, AreWritable, IsWritable}
use Rattle.text_store.specs.Found.{half_in_code, half_found, IsHead, IsLiveHalf, IfLive, IsInUse, IsFound, HalfRefused, ImageRefused, OldRefused}
use Rattle.text_store.specs.Halves.{IsHalf}
use Rattle.text_store.specs.Image.{Half, Content, NoImage, NotAStore, letters, number_8, live, live_of, first_of, started, checkpointed, chosen, folded, image, image_at, image_of, half_image, old_image, old_records}
use Rattle.text_store.specs.Reads.{entry_of, from_place, IsNext}
use Rattle.text_store.specs.Stores.{IsChosen}
use Rattle.text_store.proofs.Holding.{choice}
use Rattle.text_store.proofs.OpenEntries.{front_begins}
use Rattle.text_store.proofs.Reading.{begins}
use Rattle.text_store.proofs.Walking.{entry_is}

greater : (a b : ℕ) → b < a → nat_le a b ≡ false
greater a b more = grind (arith, nat_tests)

less : (a b : ℕ) → a ≤ b → nat_le a b ≡ true
less a b le = grind (arith, nat_tests)

not_less : (a b : ℕ) → b ≤ a → nat_lt a b ≡ false
not_less a b le = grind (arith, nat_tests)

-- the test of a header
module _ (file : List ℕ) where
  abbrev pub is_head : Bool
  is_head = bytes_eq (take 8 file) (letters ++ 2 ∷ []) && nat_le (number_8 (drop 16 file)) 2 && nat_le (number_8 (drop 24 file)) (2 ^ 62)

  part : (n m : ℕ) → 8 ≤ m → n + m ≡ 32 → take 8 (drop n (take 32 file)) ≡ take 8 (drop n file)
  part n m le is = ap (λ (k : ℕ). take 8 (drop n (take k file))) (sym is) ∙ ap (λ (l : List ℕ). take 8 l) (drop-take n m file) ∙ take-take 8 m (drop n file) le

  word : take 8 (take 32 file) ≡ take 8 file
  word = take-take 8 32 file (omega arith)

  -- number_8 reads the first 8 bytes
  pub head_number : (n m : ℕ) → 8 ≤ m → n + m ≡ 32 → number_8 (drop n (take 32 file)) ≡ number_8 (drop n file)
  head_number n m le is = ap (λ (l : List ℕ). from_le_bytes w64 l) (part n m le is)

  same_test : (bytes_eq (take 8 (take 32 file)) (letters ++ 2 ∷ []) && nat_le (number_8 (drop 16 (take 32 file))) 2 && nat_le (number_8 (drop 24 (take 32 file))) (2 ^ 62)) ≡ is_head
  same_test =
      let generation = head_number 16 16 (omega arith) refl in
      let base = head_number 24 8 (omega arith) refl in
      λ i. bytes_eq (word i) (letters ++ 2 ∷ []) && nat_le (generation i) 2 && nat_le (base i) (2 ^ 62)

  pub no_head : is_head ≡ false → (entries : List Entry) → live_of (take 32 file) entries ≡ None
  no_head none entries =
      ap (λ (b : Bool). if b then first_of (number_8 (drop 8 (take 32 file))) (number_8 (drop 16 (take 32 file))) (number_8 (drop 24 (take 32 file))) entries else None) (same_test ∙ none)

  pub one_head : is_head ≡ true → (entries : List Entry)
      → live_of (take 32 file) entries ≡ first_of (number_8 (drop 8 file)) (number_8 (drop 16 file)) (number_8 (drop 24 file)) entries
  one_head some entries =
      ap (λ (b : Bool). if b then first_of (number_8 (drop 8 (take 32 file))) (number_8 (drop 16 (take 32 file))) (number_8 (drop 24 (take 32 file))) entries else None) (same_test ∙ some)
      ∙ (λ i. first_of (head_number 8 24 (omega arith) refl i) (head_number 16 16 (omega arith) refl i) (head_number 24 8 (omega arith) refl i) entries)

  word_test : (ne : Bool) (w : List ℕ) → ne ≡ not (bytes_eq (take 8 file) w) → w ≡ letters ++ 2 ∷ [] → bytes_eq (take 8 file) (letters ++ 2 ∷ []) ≡ not ne
  word_test ne w is same = ap (λ (l : List ℕ). bytes_eq (take 8 file) l) (sym same) ∙ back (bytes_eq (take 8 file) w) ∙ ap not (sym is)
    where
      back : (b : Bool) → b ≡ not (not b)
      back true = refl
      back false = refl

  pub other_word : (ne : Bool) (w : List ℕ) → ne ≡ not (bytes_eq (take 8 file) w) → w ≡ letters ++ 2 ∷ [] → ne ≡ true → is_head ≡ false
  other_word ne w is same differs =
      ap (λ (b : Bool). b && nat_le (number_8 (drop 16 file)) 2 && nat_le (number_8 (drop 24 file)) (2 ^ 62)) (word_test ne w is same ∙ ap not differs)
      ∙ first (nat_le (number_8 (drop 16 file)) 2) (nat_le (number_8 (drop 24 file)) (2 ^ 62))
    where
      first : (b c : Bool) → (false && b && c) ≡ false
      first true true = refl
      first true false = refl
      first false true = refl
      first false false = refl

  pub great_generation : (generation : ℕ) → generation ≡ number_8 (drop 16 file) → 2 < generation → is_head ≡ false
  great_generation generation is more =
      ap (λ (b : Bool). bytes_eq (take 8 file) (letters ++ 2 ∷ []) && b && nat_le (number_8 (drop 24 file)) (2 ^ 62)) (greater (number_8 (drop 16 file)) 2 (omega (arith, is, more)))
      ∙ second (bytes_eq (take 8 file) (letters ++ 2 ∷ [])) (nat_le (number_8 (drop 24 file)) (2 ^ 62))
    where
      second : (a c : Bool) → (a && false && c) ≡ false
      second true true = refl
      second true false = refl
      second false true = refl
      second false false = refl

  pub great_base : (base : ℕ) → base ≡ number_8 (drop 24 file) → 2 ^ 62 < base → is_head ≡ false
  great_base base is more =
      ap (λ (b : Bool). bytes_eq (take 8 file) (letters ++ 2 ∷ []) && nat_le (number_8 (drop 16 file)) 2 && b) (greater (number_8 (drop 24 file)) (2 ^ 62) (omega (arith, is, more)))
      ∙ third (bytes_eq (take 8 file) (letters ++ 2 ∷ [])) (nat_le (number_8 (drop 16 file)) 2)
    where
      third : (a b : Bool) → (a && b && false) ≡ false
      third true true = refl
      third true false = refl
      third false true = refl
      third false false = refl

  pub good_head : (ne : Bool) (w : List ℕ) → ne ≡ not (bytes_eq (take 8 file) w) → w ≡ letters ++ 2 ∷ [] → ne ≡ false
      → number_8 (drop 16 file) ≤ 2 → number_8 (drop 24 file) ≤ 2 ^ 62 → (is_head ≡ true) × (take 8 (take 32 file) ≡ letters ++ 2 ∷ [])
  good_head ne w is same equal generation base =
      let words : bytes_eq (take 8 file) (letters ++ 2 ∷ []) ≡ true = word_test ne w is same ∙ ap not equal in (
        (λ i. words i && less (number_8 (drop 16 file)) 2 generation i && less (number_8 (drop 24 file)) (2 ^ 62) base i),
        word ∙ (bytes_eq-Decides (take 8 file) (letters ++ 2 ∷ [])).0 words,
      )

-- a live half
module _ (file : List ℕ) (r : Record) (next : IsNext file 32 (Some r)) where
  pub other_kind : r.kind ≢ 67 → live file ≡ None
  other_kind other =
      ap (λ (l : List Entry). live_of (take 32 file) l) (begins 32 file ∙ next.0)
      ∙ by_test _ (r.kind == 67) (differs r.kind 67 other)
    where
      differs : (a b : ℕ) → a ≢ b → (a == b) ≡ false
      differs a b ne = grind (arith, nat_tests)

      by_test : (t k : Bool) → k ≡ false
          → (if t then (if k then started (number_8 (drop 8 (take 32 file))) (number_8 (drop 16 (take 32 file))) (number_8 (drop 24 (take 32 file))) (checkpointed (take r.len (drop r.payload file))) (from_place file (r.payload + r.len)) else None) else None) ≡ None
      by_test true k is = ap (λ (b : Bool). if b then started (number_8 (drop 8 (take 32 file))) (number_8 (drop 16 (take 32 file))) (number_8 (drop 24 (take 32 file))) (checkpointed (take r.len (drop r.payload file))) (from_place file (r.payload + r.len)) else None) is
      by_test false k is = refl

  module _ (head : Head) (is : IsHead (take 32 file) (Some head)) (kind : r.kind ≡ 67) where
    pub live_is : (content : Option Content) → checkpointed (take (r.payload + r.len - r.payload) (drop r.payload file)) ≡ content
        → live file ≡ started head.limit head.generation head.base content (from_place file (r.payload + r.len))
    live_is content reads =
        let equal : (r.kind == 67) ≡ true = equals r.kind 67 kind in
        ap (λ (l : List Entry). live_of (take 32 file) l) (begins 32 file ∙ next.0)
        ∙ is.0 (entry_of file r ∷ from_place file (r.payload + r.len))
        ∙ ap (λ (b : Bool). if b then started head.limit head.generation head.base (checkpointed (take r.len (drop r.payload file))) (from_place file (r.payload + r.len)) else None) equal
        ∙ ap (λ (o : Option Content). started head.limit head.generation head.base o (from_place file (r.payload + r.len)))
        (ap (λ (e : Entry). checkpointed e.payload) (entry_is file r) ∙ reads)
      where
        equals : (a b : ℕ) → a ≡ b → (a == b) ≡ true
        equals a b e = grind (arith, nat_tests)

    pub half_is : (h : LiveHalf) → h.limit ≡ head.limit → h.generation ≡ head.generation → h.base ≡ head.base → h.at ≡ r.payload + r.len
        → checkpointed (take (r.payload + r.len - r.payload) (drop r.payload file)) ≡ Some (content_in_code h.start) → AreWritable h.start.latest.states.items → IsLiveHalf file h
    half_is h limit generation base at reads writable =
        let is_at : 32 ≤ length file = omega (arith, next.1, next.2) in
        let begun : IsFront 32 (take 32 file) [] = subst (λ (n : ℕ). IsFront n (take 32 file) []) (let e : length (take 32 file) ≡ 32 = omega (arith, length-take 32 file, is_at) in e) (front_begins (take 32 file)) in
        record {
          is_live =
              live_is (Some (content_in_code h.start)) reads
              ∙ (λ i. Some (record { limit = sym limit i; generation = sym generation i; base = sym base i; start = content_in_code h.start; entries = from_place file (sym at i) }));
          first = entry_of file r;
          entries = begins 32 file ∙ next.0 ∙ ap (λ (n : ℕ). entry_of file r ∷ from_place file n) (sym at);
          is_half = subst (λ (n : ℕ). IsHalf (take n file) (entry_of file r ∷ [])) (sym at) (record {
            version = take-take 8 (r.payload + r.len) file (omega (arith, next.1)) ∙ sym (take-take 8 32 file (omega arith)) ∙ is.3;
            records = next.3 32 [] begun;
          });
          inside = omega (arith, next.2, at);
          generation = omega (arith, generation, is.1);
          base = omega (arith, base, is.2);
          writable = writable;
        }

-- the second file's half follows the first's
pub second_follows : (f s : List ℕ) (one other : LiveHalf) (a b : Option LiveHalf) → a ≡ Some one → b ≡ Some other → other.generation ≡ next_generation one.generation
    → IfLive f a → IfLive s b → IsLiveHalf s other × IsChosen true other.generation (live f)
second_follows f s one other a b is_a is_b follows of_a of_b =
    let first : IsLiveHalf f one = subst (λ (o : Option LiveHalf). IfLive f o) is_a of_a in (
      subst (λ (o : Option LiveHalf). IfLive s o) is_b of_b,
      subst (λ (o : Option Half). IsChosen true other.generation o) (sym first.is_live) (equals other.generation ((one.generation + 1) % 3) follows),
    )
  where
    equals : (a b : ℕ) → a ≡ b → (a == b) ≡ true
    equals a b e = grind (arith, nat_tests)

-- the image of a live half, whose records came to a content
module _ (file : List ℕ) (h : LiveHalf) (is : IsLiveHalf file h) where
  pub half_shows : (content : Content) (count : ℕ) → folded (from_place file h.at) (content_in_code h.start) ≡ Ok content → count ≡ length (from_place file h.at)
      → half_image (half_in_code file h) ≡ Ok (record { text = content.text; latest = content.latest; revision = h.base + count })
  half_shows content count folds counted =
      ap (λ (r : Result Content ℕ). image_at (h.base + length (from_place file h.at)) r) folds
      ∙ ap (λ (n : ℕ). image_at (h.base + n) (Ok content)) (sym counted)

  pub half_up_to : (gate count : ℕ) → IsEnd file h.at gate count → IsHalf (take gate file) (open_entries 32 file)
  half_up_to gate count end =
      let behind : 32 ≤ h.at = omega (arith, is.is_half.records.behind, length-take h.at file) in
      record {
        version = take-take 8 gate file (omega (arith, end.few, behind)) ∙ sym (take-take 8 h.at file (omega (arith, behind))) ∙ is.is_half.version;
        records = subst (λ (l : List Entry). IsFront 32 (take gate file) l) (sym is.entries) (end.front 32 (is.first ∷ []) is.is_half.records);
      }

-- a file of version 1
module _ (file : List ℕ) (long : 17 ≤ length file) where
  old_is : old_image file ≡ old_records (from_place file 16)
  old_is =
      ap (λ (b : Bool). if b then Err (NotAStore 0) else old_records (open_entries 16 file)) (not_less (length file) 17 long)
      ∙ ap old_records (begins 16 file)

  pub old_none : from_place file 16 ≡ [] → old_image file ≡ Err (NotAStore 16)
  old_none none = old_is ∙ ap old_records none

  module _ (r : Record) (next : IsNext file 16 (Some r)) where
    pub old_kind : r.kind ≢ 84 → old_image file ≡ Err (NotAStore 16)
    old_kind other =
        old_is ∙ ap old_records next.0
        ∙ ap (λ (b : Bool). if b then image_at (length (from_place file (r.payload + r.len))) (folded (from_place file (r.payload + r.len)) (record { text = take r.len (drop r.payload file); latest = [] })) else Err (NotAStore 16))
        (differs r.kind 84 other)
      where
        differs : (a b : ℕ) → a ≢ b → (a == b) ≡ false
        differs a b ne = grind (arith, nat_tests)

    pub old_shows : r.kind ≡ 84 → (start : Content) (end : Result Content ℕ) → start.text ≡ take (r.payload + r.len - r.payload) (drop r.payload file) → start.latest ≡ []
        → folded (from_place file (r.payload + r.len)) start ≡ end → old_image file ≡ image_at (length (from_place file (r.payload + r.len))) end
    old_shows kind start end text latest folds =
        let same : record { text = take r.len (drop r.payload file); latest = [] } ≡ start =
        ap (λ (e : Entry). record { text = e.payload; latest = [] }) (entry_is file r) ∙ (λ i. record { text = sym text i; latest = sym latest i }) in
        old_is ∙ ap old_records next.0
        ∙ ap (λ (b : Bool). if b then image_at (length (from_place file (r.payload + r.len))) (folded (from_place file (r.payload + r.len)) (record { text = take r.len (drop r.payload file); latest = [] })) else Err (NotAStore 16))
        (equals r.kind 84 kind)
        ∙ ap (λ (c : Content). image_at (length (from_place file (r.payload + r.len))) (folded (from_place file (r.payload + r.len)) c)) same
        ∙ ap (λ (e : Result Content ℕ). image_at (length (from_place file (r.payload + r.len))) e) folds
      where
        equals : (a b : ℕ) → a ≡ b → (a == b) ≡ true
        equals a b e = grind (arith, nat_tests)

pub writable_image : (shown : Image) → AreWritable shown.latest → IsWritable shown
writable_image shown are = record { few = are.0; short = are.1; own = are.2 }

-- which image two files have, where a half is chosen
pub first_image : (f s : List ℕ) (h : LiveHalf) → IsLiveHalf f h × IsChosen false h.generation (live s) → image f s ≡ half_image (half_in_code f h)
first_image f s h is =
    ap (λ (o : Option Half). image_of (chosen o (live s)) f) is.0.is_live
    ∙ ap (λ (o : Option Half). image_of o f) (choice false h.generation (half_in_code f h) (live s) refl is.1)

pub second_image : (f s : List ℕ) (h : LiveHalf) → IsLiveHalf s h × IsChosen true h.generation (live f) → image f s ≡ half_image (half_in_code s h)
second_image f s h is =
    ap (λ (o : Option Half). image_of (chosen (live f) o) f) is.0.is_live
    ∙ ap (λ (o : Option Half). image_of o f) (choice true h.generation (half_in_code s h) (live f) refl is.1)

pub refused_as : (f s : List ℕ) (half : Half) (r : Result Found StoreFault) → image f s ≡ half_image half → IfErr r (λ e. HalfRefused half e) → IfErr r (λ e. ImageRefused f s e)
refused_as f s half (Ok found) is refused = tt
refused_as f s half (Err e) is refused = subst (λ (i : Result Image NoImage). OldRefused i e) (sym is) refused

pub found_first : (f s : List ℕ) (generation : ℕ) (r : Result Found StoreFault) → IsChosen false generation (live s)
    → IfOk r (λ found. (beside : List ℕ) → IsChosen false generation (live beside) → IsInUse f beside false found.image found.place) → IfOk r (λ found. IsFound f s found.image found.place)
found_first f s generation (Err e) is found = tt
found_first f s generation (Ok found) is in_use = by_place found.place (in_use s is)
  where
    by_place : (place : Place) → IsInUse f s false found.image place → IsFound f s found.image place
    by_place (Older limit) none = absurd none
    by_place (InHalf u) is = subst (λ (b : Bool). half_found f s b u found.image) (sym is.0) is.1

pub found_second : (f s : List ℕ) (generation : ℕ) (r : Result Found StoreFault) → IsChosen true generation (live f)
    → IfOk r (λ found. (beside : List ℕ) → IsChosen true generation (live beside) → IsInUse s beside true found.image found.place) → IfOk r (λ found. IsFound f s found.image found.place)
found_second f s generation (Err e) is found = tt
found_second f s generation (Ok found) is in_use = by_place found.place (in_use f is)
  where
    by_place : (place : Place) → IsInUse s f true found.image place → IsFound f s found.image place
    by_place (Older limit) none = absurd none
    by_place (InHalf u) is = subst (λ (b : Bool). half_found f s b u found.image) (sym is.0) is.1
