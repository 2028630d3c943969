-- What a store feeds is all frames of a history.
use Rattle.std.proofs.Common.{◌≡◌, ◌∙◌, ℕ, ◌+◌, ◌-◌, ◌^◌, ◌<◌, ◌≤◌, Bool, true, false, ◌==◌, if◌then◌else◌, List, [], ◌∷◌, ◌++◌, length, take, drop, Option, None, Some, Result, Ok, Err, refl, sym, ap, subst, arith, length-append, length-drop}
use Rattle.std.proofs.lemmas.Bool.Decides.{nat_tests}
use Rattle.std.proofs.lemmas.List.{append-nil}
use Rattle.hl_base.specs.declared.disk.Disk.{Ghosts as Disks}
use Rattle.hl_base.specs.declared.outside.Source.{Ghosts as Sources}
use Rattle.hl_base.specs.declared.shelf.Shelf.{Ghosts as Shelves}
use Rattle.text_store.specs.declared.change.Change.{Change}
use Rattle.text_store.specs.declared.image.Image.{Image}
use Rattle.text_store.specs.Edits.{at_revision, content_in, edited_content}
use Rattle.text_store.specs.Entries.{Entry, open_entries}
use Rattle.text_store.specs.Files.{rest_of}
use Rattle.text_store.specs.Frames.{base_of, frame, frames_from, frames_of}
use Rattle.text_store.specs.Image.{Content, Half, NoImage, changed, checkpointed, first_of, folded, going_on, image, live, number_8, started}
use Rattle.text_store.proofs.Choosing.{head_number}
use Rattle.text_store.proofs.Decoding.{changed_as}
use Rattle.text_store.proofs.Growing.{content_of_image, none_some}
use Rattle.follower.specs.Heads.{BeginsWith}
use Rattle.follower.specs.Histories.{IsAfter}
use Rattle.follower.specs.declared.frame.Frame.{Frame}
use Rattle.follow_commands.specs.Genuine.{bytes_of_all}
use Rattle.follow_commands.specs.Whole.{AreRecords, HasAll, IsFirst}
use Rattle.follow_commands.proofs.CatchingUp.{first_genuine, records_after, records_count, records_genuine}
use Rattle.store_feeding.specs.Feeding.{AreFed}
use Rattle.store_text.specs.Shelved.{image_in, or_empty, second_name}
use Rattle.fed_histories.specs.Feeds.{AreOfHistory, IsFollowed}
use Rattle.fed_histories.proofs.Bytes.{AreBytes, of_drop, of_left, of_right}
use Rattle.fed_histories.proofs.Decoded.{at_base, change_of, image_of}

err_ok : {A E X : Type 0} (err : E) (a : A) → Err err ≡ Ok a → X
err_ok {A} {E} {X} err a e = absurd (impossible e)
  where
    impossible : Err err ≡ Ok a → ⊥
    impossible e = cc

-- ---- one frame and what stands behind it

module _ (revision kind : ℕ) (payload more : List ℕ) where
  abbrev whole : List ℕ
  whole = frame revision kind payload ++ more

  -- 17 bytes stand before the payload
  behind : drop 17 whole ≡ payload ++ more
  behind = refl

  payload_bytes : AreBytes whole → AreBytes payload
  payload_bytes are = of_left payload more (of_drop 17 whole are)

  more_bytes : AreBytes whole → AreBytes more
  more_bytes are = of_right (frame revision kind payload) more are

  payload_short : length whole < 2 ^ 64 → length payload < 2 ^ 64
  payload_short short = let size : length (payload ++ more) ≡ length whole - 17 = length-drop 17 whole in omega (arith, short, size, length-append payload more)

  more_short : length whole < 2 ^ 64 → length more < 2 ^ 64
  more_short short = let size : length (payload ++ more) ≡ length whole - 17 = length-drop 17 whole in omega (arith, short, size, length-append payload more)

-- ---- the records behind a C

-- the frames of records are those of changes, which lead to an image
record AreOfChanges (shown last : Image) (bytes : List ℕ) : Type 0 where
  changes : List Change
  others : List Frame
  written : bytes ≡ bytes_of_all others
  are : AreRecords shown changes others last

abbrev content_or : Content → Result Content ℕ → Content
content_or content (Ok found) = found
content_or content (Err at) = content

none_left : (content : Content) (last : Image) (revision : ℕ) → folded [] content ≡ Ok (content_in last) → last.revision ≡ revision → last ≡ at_base content revision
none_left content last revision is number =
    let same : content_in last ≡ content = sym (ap (content_or content) is) in
    λ i. record { text = (same i).text; latest = (same i).latest; revision = number i }

one_change : (entry : Entry) (entries : List Entry) (content : Content) (last : Image) (revision : ℕ)
    → AreBytes (frames_from (revision + 1) (entry ∷ entries)) → length (frames_from (revision + 1) (entry ∷ entries)) < 2 ^ 64
    → ((next : Content) → folded entries next ≡ Ok (content_in last) → AreOfChanges (at_base next (revision + 1)) last (frames_from (revision + 1 + 1) entries))
    → (o : Option Content) → changed content entry ≡ o → going_on o entry.at (λ next. folded entries next) ≡ Ok (content_in last)
    → AreOfChanges (at_base content revision) last (frames_from (revision + 1) (entry ∷ entries))
one_change entry entries content last revision are short on None reads got = err_ok entry.at (content_in last) got
one_change entry entries content last revision are short on (Some next) reads got =
    let more = frames_from (revision + 1 + 1) entries in
    let of = change_of content next entry (payload_bytes (revision + 1) entry.kind entry.payload more are) reads in
    let rest = on next got in
    let made : edited_content content of.change ≡ Some next =
    sym (changed_as content of.change entry.at of.has_name of.numbers) ∙ (λ i. changed content (record { at = entry.at; kind = of.is_kind i; payload = of.is_payload i })) ∙ reads in
    record {
      changes = of.change ∷ rest.changes;
      others = record { revision = revision + 1; kind = entry.kind; payload = entry.payload } ∷ rest.others;
      written = ap (λ (l : List ℕ). frame (revision + 1) entry.kind entry.payload ++ l) rest.written;
      are = (
        record {
          is = record { kind = sym of.is_kind; payload = sym of.is_payload; name = of.has_name; numbers = of.numbers };
          revision = refl;
          fits = payload_short (revision + 1) entry.kind entry.payload more short;
        },
        (at_base next (revision + 1), ap (at_revision (revision + 1)) made, rest.are),
      );
    }

changes_of : (entries : List Entry) (content : Content) (last : Image) (revision : ℕ) → folded entries content ≡ Ok (content_in last) → last.revision ≡ revision + length entries
    → AreBytes (frames_from (revision + 1) entries) → length (frames_from (revision + 1) entries) < 2 ^ 64
    → AreOfChanges (at_base content revision) last (frames_from (revision + 1) entries)
changes_of [] content last revision is number are short =
    record { changes = []; others = []; written = refl; are = none_left content last revision is (omega (arith, number)) }
changes_of (entry ∷ entries) content last revision is number are short =
    let more = frames_from (revision + 1 + 1) entries in
    one_change entry entries content last revision are short
    (λ next got. changes_of entries next last (revision + 1) got (omega (arith, number))
    (more_bytes (revision + 1) entry.kind entry.payload more are) (more_short (revision + 1) entry.kind entry.payload more short))
    (changed content entry) refl is

-- ---- a live half

-- what a live half has of its file
record IsLive (file : List ℕ) (half : Half) : Type 0 where
  first : Entry
  entries : open_entries 32 file ≡ first ∷ half.entries
  kind : first.kind ≡ 67
  start : checkpointed first.payload ≡ Some half.start
  base : half.base ≡ number_8 (drop 24 (take 32 file))

same_kind : (a b : ℕ) → (a == b) ≡ true → a ≡ b
same_kind a b is = grind (arith, nat_tests)

module _ (file : List ℕ) where
  abbrev head : List ℕ
  head = take 32 file

  of_start : (limit generation base : ℕ) (first : Entry) (entries : List Entry) (o : Option Content) → open_entries 32 file ≡ first ∷ entries → first.kind ≡ 67
      → base ≡ number_8 (drop 24 head) → checkpointed first.payload ≡ o → (half : Half) → started limit generation base o entries ≡ Some half → IsLive file half
  of_start limit generation base first entries None are kind at reads half is = none_some half is
  of_start limit generation base first entries (Some start) are kind at reads half is =
      subst (λ (o : Option Half). IsSomeLive o) is
      (record { first = first; entries = are; kind = kind; start = reads; base = at })
    where
      IsSomeLive : Option Half → Type 0
      IsSomeLive None = Unit {0}
      IsSomeLive (Some h) = IsLive file h

  of_first : (limit generation base : ℕ) (entries : List Entry) → open_entries 32 file ≡ entries → base ≡ number_8 (drop 24 head)
      → (half : Half) → first_of limit generation base entries ≡ Some half → IsLive file half
  of_first limit generation base [] are at half is = none_some half is
  of_first limit generation base (first ∷ entries) are at half is = by_kind (first.kind == 67) refl is
    where
      by_kind : (b : Bool) → (first.kind == 67) ≡ b → (if b then started limit generation base (checkpointed first.payload) entries else None) ≡ Some half → IsLive file half
      by_kind true kind got = of_start limit generation base first entries (checkpointed first.payload) are (same_kind first.kind 67 kind) at refl half got
      by_kind false kind got = none_some half got

  is_live : (half : Half) → live file ≡ Some half → IsLive file half
  is_live half is = by_head _ is
    where
      by_head : (b : Bool) → (if b then first_of (number_8 (drop 8 head)) (number_8 (drop 16 head)) (number_8 (drop 24 head)) (open_entries 32 file) else None) ≡ Some half → IsLive file half
      by_head true got = of_first (number_8 (drop 8 head)) (number_8 (drop 16 head)) (number_8 (drop 24 head)) (open_entries 32 file) refl refl half got
      by_head false got = none_some half got

half_base : (file : List ℕ) (half : Half) → IsLive file half → half.base ≡ base_of file
unfolding base_of
half_base file half is = is.base ∙ head_number file 24 8 (omega arith) refl

-- its frames
half_frames : (file : List ℕ) (half : Half) (is : IsLive file half) → frames_of file ≡ frame half.base 67 is.first.payload ++ frames_from (half.base + 1) half.entries
unfolding frames_of
half_frames file half is =
    (λ i. frames_from (sym (half_base file half is) i) (is.entries i))
    ∙ ap (λ (k : ℕ). frame half.base k is.first.payload ++ frames_from (half.base + 1) half.entries) is.kind

-- ---- all of it

nothing_begins : (next : Frame) (more : List ℕ) → BeginsWith [] (Some next) more → ⊥
nothing_begins next more is = subst IsNothing is.2 tt
  where
    IsNothing : List ℕ → Type 0
    IsNothing [] = Unit {0}
    IsNothing (x ∷ l) = ⊥

pub of_history : (frames first second : List ℕ) (fed : AreFed first second frames) → fed.shown.revision ≤ 2 ^ 62 → AreBytes frames → length frames < 2 ^ 64 → AreOfHistory frames fed.shown
of_history frames first second fed small are short =
    let last = fed.shown in
    let half = fed.half in
    let is = is_live (rest_of first second) half fed.is_live in
    let more = frames_from (half.base + 1) half.entries in
    let payload = is.first.payload in
    let same : frames ≡ frame half.base 67 payload ++ more = fed.frames_are ∙ half_frames (rest_of first second) half is in
    let are_so = subst (λ (l : List ℕ). AreBytes l) same are in
    let short_so = subst (λ (l : List ℕ). length l < 2 ^ 64) same short in
    let parts = content_of_image (half.base + length half.entries) (folded half.entries half.start) last fed.gives in
    let start = at_base half.start half.base in
    let c = image_of payload half.start half.base (payload_bytes half.base 67 payload more are_so) is.start in
    let records = changes_of half.entries half.start last half.base parts.0 parts.1 (more_bytes half.base 67 payload more are_so) (more_short half.base 67 payload more short_so) in
    let one : Frame = record { revision = half.base; kind = 67; payload = payload } in
    let is_first : IsFirst start one = record {
      snapshot = record { kind = refl; payload = c.is_payload; writable = c.writable; states = c.states };
      revision = refl;
      fits = payload_short half.base 67 payload more short_so;
    } in
    let told : frames ≡ bytes_of_all (one ∷ records.others) = same ∙ ap (λ (l : List ℕ). frame half.base 67 payload ++ l) records.written in
    let begins : start.revision ≤ 2 ^ 62 = omega (arith, records_count records.changes records.others start last records.are, small) in
    let after = records_after records.changes records.others start last records.are in
    record {
      all = record {
        start = start;
        changes = records.changes;
        first = one;
        others = records.others;
        told = ap (λ (l : List ℕ). Some l) told;
        is_first = is_first;
        are_records = records.are;
        within = small;
      };
      genuine = record {
        frames = one ∷ records.others;
        rest = [];
        told = ap (λ (l : List ℕ). Some l) (told ∙ sym (append-nil (bytes_of_all (one ∷ records.others))));
        ends = nothing_begins;
        are = ((first_genuine start records.changes one is_first begins, is_first.fits), records_genuine records.changes records.others start last records.are small);
      };
      after = subst (λ (n : ℕ). IsAfter start n records.changes last) after.1 after.2;
    }

-- ---- fed and followed

-- the image of a store's files is that of what was fed
one_shown : (f : List ℕ) (o second : Option (List ℕ)) (a b : Image) → o ≡ Some f → image_in o second ≡ Some (Ok a) → image f (or_empty second) ≡ Ok b → b ≡ a
one_shown f o second a b is under same =
    ap of (sym same ∙ ap in_option (ap (λ (x : Option (List ℕ)). image_in x second) (sym is) ∙ under))
  where
    of : Result Image NoImage → Image
    of (Ok i) = i
    of (Err e) = a

    in_option : Option (Result Image NoImage) → Result Image NoImage
    in_option (Some x) = x
    in_option None = Ok a

pub is_followed : {J E F D S : Type 0} (i : Sources J) (fed_shelf : Shelves E F) (fed_disk : Disks F) (s : Shelves S D) (g : Disks D) (frames : List ℕ)
    → AreBytes frames → length frames < 2 ^ 64 → IsFollowed i fed_shelf fed_disk s g frames
is_followed i fed_shelf fed_disk s g frames are short name before after shown feeds told under small =
    let fed = feeds.frames told in
    let same : fed.2.shown ≡ shown =
    one_shown fed.0 (fed_shelf.file before name) (fed_shelf.file before (second_name name)) shown fed.2.shown fed.1 under fed.2.same in
    let within : fed.2.shown.revision ≤ 2 ^ 62 = subst (λ (x : Image). x.revision ≤ 2 ^ 62) (sym same) small in
    let history : AreOfHistory frames shown =
    subst (λ (x : Image). AreOfHistory frames x) same (of_history frames fed.0 (or_empty (fed_shelf.file before (second_name name))) fed.2 within are short) in (
      history,
      λ replica limit source source_then old new result follows files left earlier.
          let h = history.all in
          let all : HasAll (i.left source) shown = record {
            start = h.start;
            changes = h.changes;
            first = h.first;
            others = h.others;
            told = left ∙ h.told;
            is_first = h.is_first;
            are_records = h.are_records;
            within = h.within;
          } in
          follows.whole files shown all earlier,
    )
