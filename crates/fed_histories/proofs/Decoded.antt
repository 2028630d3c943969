-- A record that reads is that of a change, and a C that reads is that of an image.
use Rattle.std.proofs.Common.{◌≡◌, ◌∙◌, ℕ, zero, suc, ◌+◌, ◌^◌, ◌<◌, ◌≤◌, Bool, true, false, ◌==◌, ◌&&◌, nat_lt, nat_le, if◌then◌else◌, List, ◌++◌, length, take, drop, Option, None, Some, refl, sym, ap, subst, arith, append_assoc, length-take, length-drop, take-append-drop}
use Rattle.std.specs.Prelude.{flat_map}
use Rattle.std.specs.Int.{w32, w64, to_le_bytes}
use Rattle.std.specs.Str.{is_utf8}
use Rattle.std.proofs.lemmas.Bool.Decides.{nat_tests}
use Rattle.std.proofs.lemmas.List.{drop-drop}
use Rattle.hl_base.specs.declared.change.Latest.{Latest}
use Rattle.hl_base.specs.declared.change.Splice.{Splice as Part}
use Rattle.text_store.specs.declared.change.Change.{Change}
use Rattle.text_store.specs.declared.change.Change.TheVariants.{Splice, Whole, Import}
use Rattle.text_store.specs.declared.image.Image.{Image}
use Rattle.text_store.specs.Changes.{splice_payload, mark_payload, kind_of, payload_of, AreStates, HasShortName, IsPart, IsState, IsChange}
use Rattle.text_store.specs.Entries.{Entry}
use Rattle.text_store.specs.Files.{HaveShortNames, IsWritable, whole_payload}
use Rattle.text_store.specs.Image.{Content, changed, checkpointed, content_of, have_own_names, imported, mark_at, marks_at, more_marks, number_4, number_8, spliced, with_first, with_mark, with_text}
use Rattle.text_store.proofs.Growing.{none_some}
use Rattle.fed_histories.proofs.Bytes.{AreBytes, back_4, back_8, of_drop, of_right, small_4, small_8}

below : (a b : ℕ) → nat_le a b ≡ true → a ≤ b
below a b is = grind (arith, nat_tests)

less : (a b : ℕ) → nat_lt a b ≡ true → a < b
less a b is = grind (arith, nat_tests)

same : (a b : ℕ) → (a == b) ≡ true → a ≡ b
same a b is = grind (arith, nat_tests)

split : (n : ℕ) (l : List ℕ) → l ≡ take n l ++ drop n l
split n l = sym (take-append-drop n l)

-- ---- an import's state

abbrev mark_of : List ℕ → Latest
mark_of bytes = record {
  name = take (number_4 bytes) (drop 4 bytes);
  day = number_4 (drop (4 + number_4 bytes) bytes);
  count = number_4 (drop (8 + number_4 bytes) bytes);
}

module _ (bytes : List ℕ) (are : AreBytes bytes) (long : 12 + number_4 bytes ≤ length bytes) where
  abbrev size : ℕ
  size = number_4 bytes

  abbrev name : List ℕ
  name = take size (drop 4 bytes)

  name_size : length name ≡ size
  name_size = omega (arith, length-take size (drop 4 bytes), length-drop 4 bytes, long)

  sized : to_le_bytes w32 (length name) ≡ take 4 bytes
  sized = ap (λ (n : ℕ). to_le_bytes w32 n) name_size ∙ back_4 bytes are (omega (arith, long))

  dayed : to_le_bytes w32 (number_4 (drop (4 + size) bytes)) ≡ take 4 (drop (4 + size) bytes)
  dayed = back_4 (drop (4 + size) bytes) (of_drop (4 + size) bytes are) (omega (arith, long, length-drop (4 + size) bytes))

  counted : to_le_bytes w32 (number_4 (drop (8 + size) bytes)) ≡ take 4 (drop (8 + size) bytes)
  counted = back_4 (drop (8 + size) bytes) (of_drop (8 + size) bytes are) (omega (arith, long, length-drop (8 + size) bytes))

  -- what stands behind each part
  at_day : drop size (drop 4 bytes) ≡ drop (4 + size) bytes
  at_day = drop-drop size 4 bytes

  at_count : drop 4 (drop (4 + size) bytes) ≡ drop (8 + size) bytes
  at_count = drop-drop 4 (4 + size) bytes ∙ ap (λ (n : ℕ). drop n bytes) (let e : 4 + size + 4 ≡ 8 + size = omega arith in e)

  at_rest : drop 4 (drop (8 + size) bytes) ≡ drop (12 + size) bytes
  at_rest = drop-drop 4 (8 + size) bytes ∙ ap (λ (n : ℕ). drop n bytes) (let e : 8 + size + 4 ≡ 12 + size = omega arith in e)

  parts : bytes ≡ take 4 bytes ++ (name ++ (take 4 (drop (4 + size) bytes) ++ (take 4 (drop (8 + size) bytes) ++ drop (12 + size) bytes)))
  parts =
      split 4 bytes
      ∙ ap (λ (l : List ℕ). take 4 bytes ++ l) (split size (drop 4 bytes))
      ∙ ap (λ (l : List ℕ). take 4 bytes ++ (name ++ l)) (at_day ∙ split 4 (drop (4 + size) bytes))
      ∙ ap (λ (l : List ℕ). take 4 bytes ++ (name ++ (take 4 (drop (4 + size) bytes) ++ l))) (at_count ∙ split 4 (drop (8 + size) bytes))
      ∙ ap (λ (l : List ℕ). take 4 bytes ++ (name ++ (take 4 (drop (4 + size) bytes) ++ (take 4 (drop (8 + size) bytes) ++ l)))) at_rest

  mark_bytes : bytes ≡ mark_payload (mark_of bytes) ++ drop (12 + size) bytes
  mark_bytes =
      parts
      ∙ (λ i. sym sized i ++ (name ++ (sym dayed i ++ (sym counted i ++ drop (12 + size) bytes))))
      ∙ grouped (to_le_bytes w32 (length name)) name (to_le_bytes w32 (number_4 (drop (4 + size) bytes))) (to_le_bytes w32 (number_4 (drop (8 + size) bytes))) (drop (12 + size) bytes)
    where
      grouped : (a b c d e : List ℕ) → a ++ (b ++ (c ++ (d ++ e))) ≡ (((a ++ b) ++ c) ++ d) ++ e
      grouped a b c d e = sym (append_assoc ((a ++ b) ++ c) d e ∙ append_assoc (a ++ b) c (d ++ e) ∙ append_assoc a b (c ++ (d ++ e)))

  mark_short : length name < 2 ^ 32
  mark_short = omega (arith, name_size, small_4 bytes are)

-- bytes begin with an import's state
pub record IsMark (bytes : List ℕ) (mark : Latest) (rest : List ℕ) : Type 0 where
  pub are : bytes ≡ mark_payload mark ++ rest
  pub state : IsState mark
  pub short : length mark.name < 2 ^ 32

abbrev HasMark : List ℕ → Option (Latest × List ℕ) → Type 0
HasMark bytes None = Unit {0}
HasMark bytes (Some (mark, rest)) = IsMark bytes mark rest

pub mark_is : (bytes : List ℕ) (mark : Latest) (rest : List ℕ) → AreBytes bytes → mark_at bytes ≡ Some (mark, rest) → IsMark bytes mark rest
mark_is bytes mark rest are is =
    by_test (nat_le (12 + number_4 bytes) (length bytes)) (is_utf8 (take (number_4 bytes) (drop 4 bytes))) refl refl is
  where
    found : Bool → Bool → Option (Latest × List ℕ)
    found x y = if x && y then Some (mark_of bytes, drop (12 + number_4 bytes) bytes) else None

    by_test : (x y : Bool) → nat_le (12 + number_4 bytes) (length bytes) ≡ x → is_utf8 (take (number_4 bytes) (drop 4 bytes)) ≡ y → found x y ≡ Some (mark, rest) → IsMark bytes mark rest
    by_test true true long text same =
        let within : 12 + number_4 bytes ≤ length bytes = below (12 + number_4 bytes) (length bytes) long in
        let here : HasMark bytes (Some (mark_of bytes, drop (12 + number_4 bytes) bytes)) = record {
          are = mark_bytes bytes are within;
          state = (text, small_4 (drop (4 + number_4 bytes) bytes) (of_drop (4 + number_4 bytes) bytes are), small_4 (drop (8 + number_4 bytes) bytes) (of_drop (8 + number_4 bytes) bytes are));
          short = mark_short bytes are within;
        } in
        subst (λ (o : Option (Latest × List ℕ)). HasMark bytes o) same here
    by_test true false long text same = none_some (mark, rest) same
    by_test false y long text same = none_some (mark, rest) same

-- ---- a splice

abbrev part_of : List ℕ → Part
part_of payload = record { at = number_8 payload; removed = number_8 (drop 8 payload); inserted = drop 16 payload }

pub part_bytes : (payload : List ℕ) → AreBytes payload → 16 ≤ length payload → splice_payload (part_of payload) ≡ payload
part_bytes payload are long =
    (λ i. at i ++ removed i ++ drop 16 payload)
    ∙ append_assoc (take 8 payload) (take 8 (drop 8 payload)) (drop 16 payload)
    ∙ ap (λ (l : List ℕ). take 8 payload ++ l) (ap (λ (l : List ℕ). take 8 (drop 8 payload) ++ l) (sym (drop-drop 8 8 payload)) ∙ take-append-drop 8 (drop 8 payload))
    ∙ take-append-drop 8 payload
  where
    at : to_le_bytes w64 (number_8 payload) ≡ take 8 payload
    at = back_8 payload are (omega (arith, long))

    removed : to_le_bytes w64 (number_8 (drop 8 payload)) ≡ take 8 (drop 8 payload)
    removed = back_8 (drop 8 payload) (of_drop 8 payload are) (omega (arith, long, length-drop 8 payload))

pub part_is : (payload : List ℕ) → AreBytes payload → IsPart (part_of payload)
part_is payload are = (small_8 payload are, small_8 (drop 8 payload) (of_drop 8 payload are))

spliced_long : (latest : List Latest) (text payload : List ℕ) (next : Content) → with_text latest (spliced text payload) ≡ Some next → 16 ≤ length payload
spliced_long latest text payload next is =
    by_test (nat_le 16 (length payload)) (nat_le (number_8 payload + number_8 (drop 8 payload)) (length text)) refl is
  where
    by_test : (x y : Bool) → nat_le 16 (length payload) ≡ x
        → with_text latest (if x && y then Some (take (number_8 payload) text ++ drop 16 payload ++ drop (number_8 payload + number_8 (drop 8 payload)) text) else None) ≡ Some next
        → 16 ≤ length payload
    by_test true y long same = below 16 (length payload) long
    by_test false y long same = none_some next same

-- ---- a change

-- a record of this kind with this payload is that of a change
pub record IsOfChange (kind : ℕ) (payload : List ℕ) : Type 0 where
  pub change : Change
  pub is_kind : kind_of change ≡ kind
  pub is_payload : payload_of change ≡ payload
  pub has_name : HasShortName change
  pub numbers : IsChange change

imported_change : (content next : Content) (payload : List ℕ) → AreBytes payload → (o : Option (Latest × List ℕ)) → mark_at payload ≡ o → imported content o ≡ Some next → IsOfChange 73 payload
imported_change content next payload are None reads is = none_some next is
imported_change content next payload are (Some (mark, rest)) reads is = by_few (nat_lt (length (with_mark mark content.latest)) (2 ^ 32)) is
  where
    here : IsMark payload mark rest
    here = mark_is payload mark rest are reads

    of_rest : AreBytes rest
    of_rest = of_right (mark_payload mark) rest (subst (λ (l : List ℕ). AreBytes l) here.are are)

    by_few : (b : Bool) → (if b then with_text (with_mark mark content.latest) (spliced content.text rest) else None) ≡ Some next → IsOfChange 73 payload
    by_few false same = none_some next same
    by_few true same =
        let long = spliced_long (with_mark mark content.latest) content.text rest next same in
        record {
          change = Import mark (part_of rest);
          is_kind = refl;
          is_payload = ap (λ (l : List ℕ). mark_payload mark ++ l) (part_bytes rest of_rest long) ∙ sym here.are;
          has_name = here.short;
          numbers = (here.state, part_is rest of_rest);
        }

pub change_of : (content next : Content) (entry : Entry) → AreBytes entry.payload → changed content entry ≡ Some next → IsOfChange entry.kind entry.payload
change_of content next entry are is = by_kind (entry.kind == 84) (entry.kind == 83) (entry.kind == 73) refl refl refl is
  where
    of_kind : (n : ℕ) → entry.kind ≡ n → IsOfChange n entry.payload → IsOfChange entry.kind entry.payload
    of_kind n kind of = subst (λ (k : ℕ). IsOfChange k entry.payload) (sym kind) of

    by_kind : (a b c : Bool) → (entry.kind == 84) ≡ a → (entry.kind == 83) ≡ b → (entry.kind == 73) ≡ c
        → (if a then Some (record { text = entry.payload; latest = content.latest })
        else (if b then with_text content.latest (spliced content.text entry.payload)
        else (if c then imported content (mark_at entry.payload)
        else None))) ≡ Some next → IsOfChange entry.kind entry.payload
    by_kind true b c whole splice import_of got =
        of_kind 84 (same entry.kind 84 whole) (record { change = Whole entry.payload; is_kind = refl; is_payload = refl; has_name = tt; numbers = tt })
    by_kind false true c whole splice import_of got =
        let long = spliced_long content.latest content.text entry.payload next got in
        of_kind 83 (same entry.kind 83 splice)
        (record { change = Splice (part_of entry.payload); is_kind = refl; is_payload = part_bytes entry.payload are long; has_name = tt; numbers = part_is entry.payload are })
    by_kind false false true whole splice import_of got =
        of_kind 73 (same entry.kind 73 import_of) (imported_change content next entry.payload are (mark_at entry.payload) refl got)
    by_kind false false false whole splice import_of got = none_some next got

-- ---- a C

-- bytes begin with so many import states
record AreMarks (n : ℕ) (bytes : List ℕ) (marks : List Latest) (rest : List ℕ) : Type 0 where
  are : bytes ≡ flat_map mark_payload marks ++ rest
  count : length marks ≡ n
  states : AreStates marks
  short : HaveShortNames marks

abbrev HasMarks : ℕ → List ℕ → Option (List Latest × List ℕ) → Type 0
HasMarks n bytes None = Unit {0}
HasMarks n bytes (Some (marks, rest)) = AreMarks n bytes marks rest

one_more : (n : ℕ) (bytes behind : List ℕ) (mark : Latest) (o : Option (List Latest × List ℕ)) → IsMark bytes mark behind → HasMarks n behind o → HasMarks (suc n) bytes (with_first mark o)
one_more n bytes behind mark None here rest = tt
one_more n bytes behind mark (Some (marks, left)) here rest = record {
  are = here.are ∙ ap (λ (l : List ℕ). mark_payload mark ++ l) rest.are ∙ sym (append_assoc (mark_payload mark) (flat_map mark_payload marks) left);
  count = omega (arith, rest.count);
  states = (here.state, rest.states);
  short = (here.short, rest.short);
}

more_are : (n : ℕ) (bytes : List ℕ) → AreBytes bytes → ((behind : List ℕ) → AreBytes behind → HasMarks n behind (marks_at n behind))
    → (o : Option (Latest × List ℕ)) → mark_at bytes ≡ o → HasMarks (suc n) bytes (more_marks o (λ rest. marks_at n rest))
more_are n bytes are on None reads = tt
more_are n bytes are on (Some (mark, behind)) reads =
    let here = mark_is bytes mark behind are reads in
    one_more n bytes behind mark (marks_at n behind) here (on behind (of_right (mark_payload mark) behind (subst (λ (l : List ℕ). AreBytes l) here.are are)))

marks_are : (n : ℕ) (bytes : List ℕ) → AreBytes bytes → HasMarks n bytes (marks_at n bytes)
marks_are zero bytes are = record { are = refl; count = refl; states = tt; short = tt }
marks_are (suc n) bytes are = more_are n bytes are (λ behind of. marks_are n behind of) (mark_at bytes) refl

-- a payload is that of the C of an image
pub record IsOfImage (payload : List ℕ) (shown : Image) : Type 0 where
  pub is_payload : payload ≡ whole_payload shown
  pub writable : IsWritable shown
  pub states : AreStates shown.latest

abbrev pub at_base : Content → ℕ → Image
at_base content revision = record { text = content.text; latest = content.latest; revision = revision }

abbrev HasContent : List ℕ → ℕ → Option Content → Type 0
HasContent payload revision None = Unit {0}
HasContent payload revision (Some content) = IsOfImage payload (at_base content revision)

pub image_of : (payload : List ℕ) (content : Content) (revision : ℕ) → AreBytes payload → checkpointed payload ≡ Some content → IsOfImage payload (at_base content revision)
image_of payload content revision are is = by_length (nat_le 4 (length payload)) refl is
  where
    by_marks : (o : Option (List Latest × List ℕ)) → 4 ≤ length payload → HasMarks (number_4 payload) (drop 4 payload) o → HasContent payload revision (content_of o)
    by_marks None long has = tt
    by_marks (Some (marks, text)) long has = by_names (have_own_names marks) refl
      where
        count : to_le_bytes w32 (length marks) ≡ take 4 payload
        count = ap (λ (n : ℕ). to_le_bytes w32 n) has.count ∙ back_4 payload are long

        written : payload ≡ to_le_bytes w32 (length marks) ++ flat_map mark_payload marks ++ text
        written =
            split 4 payload ∙ (λ i. sym count i ++ has.are i) ∙ sym (append_assoc (to_le_bytes w32 (length marks)) (flat_map mark_payload marks) text)

        by_names : (b : Bool) → have_own_names marks ≡ b → HasContent payload revision (if b then Some (record { text = text; latest = marks }) else None)
        by_names false own = tt
        by_names true own = record {
          is_payload = written;
          writable = record { few = omega (arith, has.count, small_4 payload are); short = has.short; own = own };
          states = has.states;
        }

    by_length : (b : Bool) → nat_le 4 (length payload) ≡ b → (if b then content_of (marks_at (number_4 payload) (drop 4 payload)) else None) ≡ Some content → IsOfImage payload (at_base content revision)
    by_length true long same =
        subst (λ (o : Option Content). HasContent payload revision o) same
        (by_marks (marks_at (number_4 payload) (drop 4 payload)) (below 4 (length payload) long) (marks_are (number_4 payload) (drop 4 payload) (of_drop 4 payload are)))
    by_length false long same = none_some content same
