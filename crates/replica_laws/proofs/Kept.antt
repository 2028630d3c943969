-- A store's records after its calls.
use Rattle.std.proofs.Common.{◌≡◌, ◌∙◌, ℕ, ◌+◌, ◌^◌, ◌≤◌, List, [], ◌∷◌, ◌++◌, length, Option, Some, Result, Ok, Err, OnErr, OnOk, IfOk, refl, sym, ap, subst, arith, append_assoc}
use Rattle.std.proofs.lemmas.Nat.{from_le_bytes-to_le_bytes_8}
use Rattle.hl_base.specs.declared.disk.Disk.{Ghosts}
use Rattle.text_store.specs.declared.change.Change.{Change}
use Rattle.text_store.specs.declared.image.Image.{Image}
use Rattle.text_store.specs.declared.store.Store.{Store}
use Rattle.text_store.specs.Changes.{kind_of, payload_of}
use Rattle.text_store.specs.Edits.{edited}
use Rattle.text_store.specs.Entries.{Entry, body, open_entries}
use Rattle.text_store.specs.Files.{IsWritable, header, new_front, whole_payload}
use Rattle.text_store.specs.Frames.{base_of, frame, frames_from, frames_of}
use Rattle.text_store.specs.Halves.{IsHalf}
use Rattle.text_store.specs.Stores.{Holds}
use Rattle.text_store.proofs.HalfImages.{half_grows}
use Rattle.text_store.proofs.OpenEntries.{front_begins, shut_behind}
use Rattle.follower.specs.declared.frame.Frame.{Frame}
use Rattle.follow_commands.specs.Genuine.{bytes_of_all}
use Rattle.follow_commands.specs.Whole.{AreRecords, IsNextRecord}
use Rattle.follow_commands.proofs.CatchingUp.{records_count}
use Rattle.replica_laws.specs.Lives.{AreFramesOf, Records, anew, with_change}
use Rattle.replica_laws.specs.Stored.{HasRecords, IsRecordable, IsWhole, framed}
use Rattle.replica_laws.proofs.Left.{base_kept, frames_are}

-- ---- frames of entries

framed_bytes : (revision : ℕ) (entries : List Entry) → frames_from revision entries ≡ bytes_of_all (framed revision entries)
framed_bytes revision [] = refl
framed_bytes revision (entry ∷ entries) = ap (λ (l : List ℕ). frame revision entry.kind entry.payload ++ l) (framed_bytes (revision + 1) entries)

framed_count : (revision : ℕ) (entries : List Entry) → length (framed revision entries) ≡ length entries
framed_count revision [] = refl
framed_count revision (entry ∷ entries) = let rest = framed_count (revision + 1) entries in omega (arith, rest)

abbrev one_frame : ℕ → ℕ → List ℕ → Frame
one_frame revision kind payload = record { revision = revision; kind = kind; payload = payload }

framed_push : (revision : ℕ) (entries : List Entry) (entry : Entry)
    → framed revision (entries ++ entry ∷ []) ≡ framed revision entries ++ one_frame (revision + length entries) entry.kind entry.payload ∷ []
framed_push revision [] entry =
    ap (λ (n : ℕ). one_frame n entry.kind entry.payload ∷ []) (let e : revision ≡ revision + 0 = omega arith in e)
framed_push revision (first ∷ entries) entry =
    ap (λ (l : List Frame). one_frame revision first.kind first.payload ∷ l)
    (framed_push (revision + 1) entries entry
    ∙ ap (λ (n : ℕ). framed (revision + 1) entries ++ one_frame n entry.kind entry.payload ∷ [])
    (let e : revision + 1 + length entries ≡ revision + length (first ∷ entries) = omega arith in e))

-- the first of some frames
abbrev revision_of : List Frame → ℕ
revision_of [] = 0
revision_of (first ∷ others) = first.revision

begins_at : (revision : ℕ) (entries : List Entry) (first : Frame) (others : List Frame) → framed revision entries ≡ first ∷ others → revision ≡ first.revision
begins_at revision [] first others is = absurd (impossible is)
  where
    impossible : [] ≡ first ∷ others → ⊥
    impossible e = cc
begins_at revision (entry ∷ entries) first others is = ap revision_of is

-- ---- records with a change more

records_push : (changes : List Change) (others : List Frame) (start shown next : Image) (change : Change) (last : Frame) → AreRecords start changes others shown
    → IsNextRecord shown change last → edited shown change ≡ Some next → AreRecords start (changes ++ change ∷ []) (others ++ last ∷ []) next
records_push [] [] start shown next change last are is makes =
    (subst (λ (i : Image). IsNextRecord i change last) are is, (next, subst (λ (i : Image). edited i change ≡ Some next) are makes, refl))
records_push [] (other ∷ others) start shown next change last are is makes = absurd are
records_push (c ∷ changes) [] start shown next change last are is makes = absurd are
records_push (c ∷ changes) (other ∷ others) start shown next change last are is makes =
    (are.0, (are.1.0, are.1.1, records_push changes others are.1.0 shown next change last are.1.2 is makes))

as_many : (changes : List Change) (others : List Frame) (start shown : Image) → AreRecords start changes others shown → length others ≡ length changes
as_many [] [] start shown are = refl
as_many [] (other ∷ others) start shown are = absurd are
as_many (c ∷ changes) [] start shown are = absurd are
as_many (c ∷ changes) (other ∷ others) start shown are = let rest = as_many changes others are.1.0 shown are.1.2 in omega (arith, rest)

module _ (records : Records) (base : ℕ) (entries : List Entry) (at : ℕ) (change : Change) (next : Image) (can : IsRecordable change)
    (makes : edited records.shown change ≡ Some next) (are : AreFramesOf records (framed base entries)) where
  abbrev entry : Entry
  entry = record { at = at; kind = kind_of change; payload = payload_of change }

  abbrev last : Frame
  last = one_frame (base + length entries) (kind_of change) (payload_of change)

  behind : base + length entries ≡ records.shown.revision + 1
  behind =
      let begin = begins_at base entries are.first are.others are.whole in
      let many : length (framed base entries) ≡ length (are.first ∷ are.others) = ap length are.whole in
      let count = framed_count base entries in
      let same = as_many records.changes are.others records.start records.shown are.are_records in
      let rises = records_count records.changes are.others records.start records.shown are.are_records in
      let first = are.is_first.revision in
      omega (arith, begin, many, count, same, rises, first)

  pub frames_with : AreFramesOf (with_change records change next) (framed base (entries ++ entry ∷ []))
  frames_with = record {
    first = are.first;
    others = are.others ++ last ∷ [];
    whole = framed_push base entries entry ∙ ap (λ (l : List Frame). l ++ last ∷ []) are.whole;
    is_first = are.is_first;
    are_records = records_push records.changes are.others records.start records.shown next change last are.are_records
        (record { is = record { kind = refl; payload = refl; name = can.name; numbers = can.numbers }; revision = behind; fits = can.fits }) makes;
  }

-- ---- stores

some_is : (a b : List ℕ) (o : Option (List ℕ)) → o ≡ Some a → o ≡ Some b → a ≡ b
some_is a b o x y = let e : a ≡ b = cc in e

module _ {D : Type 0} {g : Ghosts D} (store : Store D g) (records : Records) (has : HasRecords store records) where
  abbrev front : List ℕ
  front = has.held.front

  -- the file is the front and a shut gate
  file_is : has.file ≡ front ++ 0 ∷ []
  file_is = some_is has.file (front ++ 0 ∷ []) (g.seen store.live.device) has.seen has.held.settled.rests.told

  base_is : base_of has.file ≡ base_of front
  base_is = ap base_of file_is ∙ base_kept front (0 ∷ []) has.held.settled.is_half.records.behind

  entries_are : open_entries 32 has.file ≡ has.held.entries
  entries_are = ap (λ (f : List ℕ). open_entries 32 f) file_is ∙ shut_behind 32 front has.held.entries has.held.settled.is_half.records 0 [] (omega arith)

  pub frames_here : AreFramesOf records (framed (base_of front) has.held.entries)
  frames_here = subst (λ (fs : List Frame). AreFramesOf records fs) (λ i. framed (base_is i) (entries_are i)) has.are

  -- what is fed
  pub feeds : (bytes : List ℕ) → bytes ≡ frames_of (front ++ 0 ∷ []) → (frames : List Frame) × AreFramesOf records frames × (bytes ≡ bytes_of_all frames)
  feeds bytes is = (
    framed (base_of front) has.held.entries,
    frames_here,
    is ∙ frames_are (front ++ 0 ∷ []) (base_of front) has.held.entries (base_kept front (0 ∷ []) has.held.settled.is_half.records.behind)
        (shut_behind 32 front has.held.entries has.held.settled.is_half.records 0 [] (omega arith))
        ∙ framed_bytes (base_of front) has.held.entries,
  )

  -- with a record more
  module _ (new : Store D g) (change : Change) (next : Image) (can : IsRecordable change) (makes : edited records.shown change ≡ Some next) (held : Holds new next) where
    abbrev grown : List ℕ
    grown = front ++ 1 ∷ (body (kind_of change) (payload_of change) ++ 0 ∷ [])

    abbrev more : List Entry
    more = has.held.entries ++ record { at = length front; kind = kind_of change; payload = payload_of change } ∷ []

    grown_entries : open_entries 32 grown ≡ more
    grown_entries =
        ap (λ (f : List ℕ). open_entries 32 f) (sym (append_assoc front (1 ∷ body (kind_of change) (payload_of change)) (0 ∷ [])))
        ∙ shut_behind 32 (front ++ 1 ∷ body (kind_of change) (payload_of change)) more
        (half_grows (kind_of change) (payload_of change) can.fits front has.held.entries has.held.settled.is_half).records 0 [] (omega arith)

    grown_base : base_of grown ≡ base_of front
    grown_base = base_kept front (1 ∷ (body (kind_of change) (payload_of change) ++ 0 ∷ [])) has.held.settled.is_half.records.behind

    pub appended : g.seen new.live.device ≡ Some grown → HasRecords new (with_change records change next)
    appended seen = record {
      held = held;
      file = grown;
      seen = seen;
      are = subst (λ (fs : List Frame). AreFramesOf (with_change records change next) fs) (λ i. framed (sym grown_base i) (sym grown_entries i))
          (frames_with records (base_of front) has.held.entries (length front) change next can makes frames_here);
    }

-- written anew
module _ (limit generation : ℕ) (shown : Image) (within : shown.revision ≤ 2 ^ 62) (writable : IsWritable shown) (can : IsWhole shown) where
  abbrev head : List ℕ
  head = header limit generation shown.revision

  abbrev only : Entry
  only = record { at = 32; kind = 67; payload = whole_payload shown }

  abbrev fresh : List ℕ
  fresh = new_front limit generation shown ++ 0 ∷ []

  head_is : IsHalf head []
  head_is = record { version = refl; records = front_begins head }

  base_head : base_of head ≡ shown.revision
  unfolding base_of
  base_head = from_le_bytes-to_le_bytes_8 shown.revision (omega (arith, within))

  base_written : base_of fresh ≡ shown.revision
  base_written =
      ap base_of (append_assoc head (1 ∷ body 67 (whole_payload shown)) (0 ∷ []))
      ∙ base_kept head (1 ∷ body 67 (whole_payload shown) ++ 0 ∷ []) (let e : length head ≡ 32 = refl in omega (arith, e))
      ∙ base_head

  entries_written : open_entries 32 fresh ≡ only ∷ []
  entries_written =
      shut_behind 32 (new_front limit generation shown) (only ∷ []) (half_grows 67 (whole_payload shown) can.fits head [] head_is).records 0 [] (omega arith)

  frames_anew : AreFramesOf (anew shown) (framed shown.revision (only ∷ []))
  frames_anew = record {
    first = one_frame shown.revision 67 (whole_payload shown);
    others = [];
    whole = refl;
    is_first = record {
      snapshot = record { kind = refl; payload = refl; writable = writable; states = can.states };
      revision = refl;
      fits = can.fits;
    };
    are_records = refl;
  }

  base_front : base_of (new_front limit generation shown) ≡ shown.revision
  base_front =
      base_kept head (1 ∷ body 67 (whole_payload shown)) (let e : length head ≡ 32 = refl in omega (arith, e))
      ∙ base_head

  pub anew_frames : AreFramesOf (anew shown) (framed (base_of (new_front limit generation shown)) (only ∷ []))
  anew_frames = subst (λ (n : ℕ). AreFramesOf (anew shown) (framed n (only ∷ []))) (sym base_front) frames_anew

  pub anew_has : {D : Type 0} {g : Ghosts D} (new : Store D g) → Holds new shown → g.seen new.live.device ≡ Some fresh → HasRecords new (anew shown)
  anew_has new held seen = record {
    held = held;
    file = fresh;
    seen = seen;
    are = subst (λ (fs : List Frame). AreFramesOf (anew shown) fs) (λ i. framed (sym base_written i) (sym entries_written i)) frames_anew;
  }

-- a store at rest with these frames
pub settled_has : {D : Type 0} {g : Ghosts D} (store : Store D g) (records : Records) (front : List ℕ) (entries : List Entry) → IsHalf front entries
    → AreFramesOf records (framed (base_of front) entries) → Holds store records.shown → g.seen store.live.device ≡ Some (front ++ 0 ∷ []) → HasRecords store records
settled_has store records front entries half frames held seen =
    let base : base_of (front ++ 0 ∷ []) ≡ base_of front = base_kept front (0 ∷ []) half.records.behind in
    let are : open_entries 32 (front ++ 0 ∷ []) ≡ entries = shut_behind 32 front entries half.records 0 [] (omega arith) in
    record {
      held = held;
      file = front ++ 0 ∷ [];
      seen = seen;
      are = subst (λ (fs : List Frame). AreFramesOf records fs) (λ i. framed (sym base i) (sym are i)) frames;
    }

-- ---- answers

pub both_ok : {X E A B C : Type 0} (r : Result X E) → OnOk r A → OnOk r B → (A → B → C) → OnOk r C
both_ok (Ok x) a b f = f a b
both_ok (Err e) a b f = tt

pub if_ok : {X E : Type 0} {P Q : X → Type 0} (r : Result X E) → IfOk r P → ((x : X) → P x → Q x) → IfOk r Q
if_ok (Ok x) p f = f x p
if_ok (Err e) p f = tt

pub both_err : {X E A B C : Type 0} (r : Result X E) → OnErr r A → OnErr r B → (A → B → C) → OnErr r C
both_err (Ok x) a b f = tt
both_err (Err e) a b f = f a b

pub if_ok_two : {X E : Type 0} {P Q R : X → Type 0} (r : Result X E) → IfOk r P → IfOk r Q → ((x : X) → P x → Q x → R x) → IfOk r R
if_ok_two (Ok x) p q f = f x p q
if_ok_two (Err e) p q f = tt
