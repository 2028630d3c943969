-- The length of a half whose records were read, and of a store that is opened.
use Rattle.std.proofs.Common.{◌≡◌, ◌∙◌, ℕ, zero, suc, ◌+◌, ◌-◌, ◌%◌, ◌^◌, ◌<◌, ◌≤◌, ◌==◌, ◌&&◌, nat_lt, nat_le, Bool, true, false, if◌then◌else◌, List, [], ◌∷◌, ◌++◌, length, take, drop, Option, Some, None, refl, sym, ap, subst, arith, length-take, length-drop}
use Rattle.std.specs.Prelude.{sum_by}
use Rattle.std.specs.Int.{w64, from_le_bytes}
use Rattle.std.proofs.lemmas.Bool.Decides.{nat_tests}
use Rattle.std.proofs.lemmas.List.Sums.{sum_by-cons}
use Rattle.hl_base.specs.declared.change.Latest.{Latest}
use Rattle.hl_base.specs.declared.disk.Disk.{Ghosts}
use Rattle.text_store.specs.declared.finding.InUse.{InUse}
use Rattle.text_store.specs.declared.finding.Place.TheVariants.{Half as InHalf, Older}
use Rattle.text_store.specs.declared.image.Image.{Image}
use Rattle.text_store.specs.declared.store.Store.{Store}
use Rattle.text_store.specs.Edits.{whole_size}
use Rattle.text_store.specs.Entries.{Entry, body, open_from, open_entries}
use Rattle.text_store.specs.Files.{record_size, half_size, size_in, opened_size, opened_limit, new_front, uses_second, file_in_use, rest_in, rest_of}
use Rattle.text_store.specs.Found.{half_found, IsFound}
use Rattle.text_store.specs.Halves.{IsHalf}
use Rattle.text_store.specs.Image.{Half, Content, number_4, number_8, mark_at, marks_at, more_marks, with_first, have_own_names, content_of, checkpointed, started, first_of, live, image}
use Rattle.text_store.specs.Stores.{IsChosen, disks, limit_of, placed}
use Rattle.text_store.proofs.Growing.{none_some}
use Rattle.text_store.proofs.HalfImages.{half_grows}
use Rattle.text_store.proofs.OpenEntries.{shut_behind}
use Rattle.text_store.proofs.Opened.{shown_by}
use Rattle.text_store.proofs.Opening.{in_place, picked}
use Rattle.text_store.proofs.Payloads.{mark_size}

within : (a b : ℕ) → nat_lt a b ≡ true → a < b
within a b is = grind (arith, nat_tests)

at_most : (a b : ℕ) → nat_le a b ≡ true → a ≤ b
at_most a b is = grind (arith, nat_tests)

-- ---- open records stand one behind the other

abbrev Follow : ℕ → List Entry → Type 0
Follow at [] = Unit {0}
Follow at (e ∷ es) = (e.at ≡ at) × Follow (at + record_size e) es

one_more : (at kind : ℕ) (rest : List ℕ) (len : ℕ) (behind : List Entry) (x y : Bool) → nat_lt (8 + len) (length rest) ≡ y → Follow (at + 10 + len) behind
    → Follow at (if x && y then record { at = at; kind = kind; payload = take len (drop 8 rest) } ∷ behind else [])
one_more at kind rest len behind true true whole follows =
    let inside : 8 + len < length rest = within (8 + len) (length rest) whole in
    let next : at + 10 + len ≡ at + (10 + length (take len (drop 8 rest))) = omega (arith, inside, length-take len (drop 8 rest), length-drop 8 rest) in
    (refl, subst (λ (n : ℕ). Follow n behind) next follows)
one_more at kind rest len behind true false whole follows = tt
one_more at kind rest len behind false y whole follows = tt

follow : (n at : ℕ) (bytes : List ℕ) → Follow at (open_from n at bytes)
unfolding open_from
follow zero at bytes = tt
follow (suc n) at [] = tt
follow (suc n) at (gate ∷ []) = tt
follow (suc n) at (gate ∷ kind ∷ rest) =
    let len = from_le_bytes w64 (take 8 rest) in
    one_more at kind rest len (open_from n (at + 10 + len) (drop (8 + len) rest)) (gate == 1) (nat_lt (8 + len) (length rest)) refl
    (follow n (at + 10 + len) (drop (8 + len) rest))

followed : (file : List ℕ) → Follow 32 (open_entries 32 file)
unfolding open_entries
followed file = follow (length file) 32 (drop 32 file)

last_at : (at : ℕ) (before : List Entry) (e : Entry) (rest : List Entry) → Follow at (before ++ e ∷ rest) → e.at ≡ at + sum_by record_size before
last_at at [] e rest is = is.0 ∙ (let same : at ≡ at + sum_by record_size [] = omega arith in same)
last_at at (b ∷ before) e rest is =
    last_at (at + record_size b) before e rest is.1
    ∙ (let same : at + record_size b + sum_by record_size before ≡ at + sum_by record_size (b ∷ before) = omega (arith, sum_by-cons record_size b before) in same)

-- the bytes up to a file's last gate
pub front_size : (front : List ℕ) (entries : List Entry) → IsHalf front entries → length front ≡ 32 + sum_by record_size entries
front_size front entries half =
    let fits : length {A = ℕ} [] < 2 ^ 64 = omega arith in
    let entry : Entry = record { at = length front; kind = 0; payload = [] } in
    let grown = half_grows 0 [] fits front entries half in
    let opened : open_entries 32 ((front ++ 1 ∷ body 0 []) ++ 0 ∷ []) ≡ entries ++ entry ∷ [] =
    shut_behind 32 (front ++ 1 ∷ body 0 []) (entries ++ entry ∷ []) grown.records 0 [] (omega arith) in
    last_at 32 entries entry [] (subst (λ (l : List Entry). Follow 32 l) opened (followed ((front ++ 1 ∷ body 0 []) ++ 0 ∷ [])))

-- ---- the payload of a C

abbrev state_size : Latest → ℕ
state_size state = 12 + length state.name

abbrev part_size : Option (List Latest × List ℕ) → ℕ
part_size None = 0
part_size (Some (marks, rest)) = sum_by state_size marks + length rest

abbrev content_size : Option Content → ℕ
content_size None = 0
content_size (Some content) = sum_by state_size content.latest + length content.text

rest_size : (n : ℕ) (bytes : List ℕ) (marks : List Latest) (rest : List ℕ) (mark : Latest) (behind : List ℕ) (o : Option (List Latest × List ℕ)) → marks_at n behind ≡ o
    → mark_at bytes ≡ Some (mark, behind) → with_first mark o ≡ Some (marks, rest)
    → ((b : List ℕ) (m : List Latest) (r : List ℕ) → marks_at n b ≡ Some (m, r) → length b ≡ sum_by state_size m + length r) → length bytes ≡ sum_by state_size marks + length rest
rest_size n bytes marks rest mark behind None more first is on = none_some (marks, rest) is
rest_size n bytes marks rest mark behind (Some (others, left)) more first is on =
    omega (arith, mark_size bytes mark behind first, on behind others left more, ap part_size is, sum_by-cons state_size mark others)

first_size : (n : ℕ) (bytes : List ℕ) (marks : List Latest) (rest : List ℕ) (o : Option (Latest × List ℕ)) → mark_at bytes ≡ o
    → more_marks o (λ behind. marks_at n behind) ≡ Some (marks, rest)
    → ((b : List ℕ) (m : List Latest) (r : List ℕ) → marks_at n b ≡ Some (m, r) → length b ≡ sum_by state_size m + length r) → length bytes ≡ sum_by state_size marks + length rest
first_size n bytes marks rest None first is on = none_some (marks, rest) is
first_size n bytes marks rest (Some (mark, behind)) first is on = rest_size n bytes marks rest mark behind (marks_at n behind) refl first is on

marks_size : (n : ℕ) (bytes : List ℕ) (marks : List Latest) (rest : List ℕ) → marks_at n bytes ≡ Some (marks, rest) → length bytes ≡ sum_by state_size marks + length rest
marks_size zero bytes marks rest is = omega (arith, ap part_size is)
marks_size (suc n) bytes marks rest is = first_size n bytes marks rest (mark_at bytes) refl is (λ b m r more. marks_size n b m r more)

pub payload_size : (payload : List ℕ) (content : Content) → checkpointed payload ≡ Some content → length payload ≡ 4 + sum_by state_size content.latest + length content.text
payload_size payload content is = by_length (nat_le 4 (length payload)) refl is
  where
    by_names : (marks : List Latest) (text : List ℕ) → marks_at (number_4 payload) (drop 4 payload) ≡ Some (marks, text) → nat_le 4 (length payload) ≡ true → (b : Bool)
        → (if b then Some (record { text = text; latest = marks }) else None) ≡ Some content → length payload ≡ 4 + sum_by state_size content.latest + length content.text
    by_names marks text reads long true is =
        omega (arith, marks_size (number_4 payload) (drop 4 payload) marks text reads, ap content_size is, length-drop 4 payload, at_most 4 (length payload) long)
    by_names marks text reads long false is = none_some content is

    by_marks : (o : Option (List Latest × List ℕ)) → marks_at (number_4 payload) (drop 4 payload) ≡ o → nat_le 4 (length payload) ≡ true → content_of o ≡ Some content
        → length payload ≡ 4 + sum_by state_size content.latest + length content.text
    by_marks None reads long is = none_some content is
    by_marks (Some (marks, text)) reads long is = by_names marks text reads long (have_own_names marks) is

    by_length : (b : Bool) → nat_le 4 (length payload) ≡ b → (if b then content_of (marks_at (number_4 payload) (drop 4 payload)) else None) ≡ Some content
        → length payload ≡ 4 + sum_by state_size content.latest + length content.text
    by_length true long is = by_marks (marks_at (number_4 payload) (drop 4 payload)) refl long is
    by_length false long is = none_some content is

-- ---- a live half

abbrev size_of_half : Option Half → ℕ
size_of_half None = 0
size_of_half (Some half) = half_size half

records_size : (limit generation base : ℕ) (entries : List Entry) (half : Half) → first_of limit generation base entries ≡ Some half → 33 + sum_by record_size entries ≡ half_size half
records_size limit generation base [] half is = none_some half is
records_size limit generation base (first ∷ entries) half is = by_kind (first.kind == 67) is
  where
    by_start : (o : Option Content) → checkpointed first.payload ≡ o → started limit generation base o entries ≡ Some half → 33 + sum_by record_size (first ∷ entries) ≡ half_size half
    by_start None reads is = none_some half is
    by_start (Some start) reads is = omega (arith, payload_size first.payload start reads, ap size_of_half is, sum_by-cons record_size first entries)

    by_kind : (b : Bool) → (if b then started limit generation base (checkpointed first.payload) entries else None) ≡ Some half → 33 + sum_by record_size (first ∷ entries) ≡ half_size half
    by_kind true is = by_start (checkpointed first.payload) refl is
    by_kind false is = none_some half is

pub live_size : (file : List ℕ) (half : Half) → live file ≡ Some half → 33 + sum_by record_size (open_entries 32 file) ≡ half_size half
live_size file half is = by_head _ is
  where
    by_head : (b : Bool) → (if b then first_of (number_8 (drop 8 (take 32 file))) (number_8 (drop 16 (take 32 file))) (number_8 (drop 24 (take 32 file))) (open_entries 32 file) else None) ≡ Some half
        → 33 + sum_by record_size (open_entries 32 file) ≡ half_size half
    by_head true is = records_size (number_8 (drop 8 (take 32 file))) (number_8 (drop 16 (take 32 file))) (number_8 (drop 24 (take 32 file))) (open_entries 32 file) half is
    by_head false is = none_some half is

-- ---- which size a store has that was found

half_found_size : (f s : List ℕ) (u : InUse) (shown : Image) (is : half_found f s u.in_second u shown) → half_size (in_place f s u.in_second u shown is).half ≡ u.gate + 1
half_found_size f s u shown is =
    let at = in_place f s u.in_second u shown is in
    let file : List ℕ = (placed u.in_second f s).0 in
    let size : length (take u.gate file) ≡ u.gate = omega (arith, length-take u.gate file, at.inside) in
    let front : length (take u.gate file) ≡ 32 + sum_by record_size (open_entries 32 file) = front_size (take u.gate file) (open_entries 32 file) at.is_half in
    let whole : 33 + sum_by record_size (open_entries 32 file) ≡ half_size at.half = live_size file at.half at.is_live in
    let same : half_size at.half ≡ u.gate + 1 = omega (arith, size, front, whole) in
    same

pub size_found : (f s : List ℕ) (u : InUse) (shown : Image) → half_found f s u.in_second u shown → opened_size f s ≡ u.gate + 1
size_found f s u shown is = (λ i. size_in (picked f s u shown is i) (shown_by f s shown (InHalf u) is i)) ∙ half_found_size f s u shown is

pub size_older : (f s : List ℕ) (shown : Image) (limit : ℕ) → IsFound f s shown (Older limit) → whole_size shown ≡ opened_size f s
size_older f s shown limit found = sym (λ i. size_in (found.0 i) (found.1 i))

-- ---- which bytes its half in use has then

second_used : (o : Option Half) (half : Half) (generation : ℕ) → IsChosen true generation o → half.generation ≡ generation → uses_second o (Some half) ≡ true
second_used None half generation is_chosen is = refl
second_used (Some other) half generation is_chosen is = ap (λ (n : ℕ). n == (other.generation + 1) % 3) is ∙ is_chosen

first_used : (o : Option Half) (half : Half) (generation : ℕ) → IsChosen false generation o → half.generation ≡ generation → uses_second (Some half) o ≡ false
first_used None half generation is_chosen is = refl
first_used (Some other) half generation is_chosen is = ap (λ (n : ℕ). other.generation == (n + 1) % 3) is ∙ is_chosen

-- the file that is a half in use beside the other
pub used_file : (b : Bool) (f s : List ℕ) (half : Half) (generation : ℕ) → live (placed b f s).0 ≡ Some half → half.generation ≡ generation
    → IsChosen b generation (live (placed b f s).1) → file_in_use f s ≡ (placed b f s).0
used_file true f s half generation is_live is is_chosen =
    ap (λ (o : Option Half). if uses_second (live f) o then s else f) is_live
    ∙ ap (λ (t : Bool). if t then s else f) (second_used (live f) half generation is_chosen is)
used_file false f s half generation is_live is is_chosen =
    ap (λ (o : Option Half). if uses_second o (live s) then s else f) is_live
    ∙ ap (λ (t : Bool). if t then s else f) (first_used (live s) half generation is_chosen is)

one_less : (size gate : ℕ) → size ≡ gate + 1 → size - 1 ≡ gate
one_less size gate is = omega (arith, is)

pub rest_found : (f s : List ℕ) (u : InUse) (shown : Image) → half_found f s u.in_second u shown → take u.gate (placed u.in_second f s).0 ++ 0 ∷ [] ≡ rest_of f s
rest_found f s u shown is =
    let at = in_place f s u.in_second u shown is in
    let file : List ℕ = (placed u.in_second f s).0 in
    let gate : half_size at.half - 1 ≡ u.gate = one_less (half_size at.half) u.gate (half_found_size f s u shown is) in
    let used : file_in_use f s ≡ file = used_file u.in_second f s at.half u.generation at.is_live at.generation at.is_chosen in
    let rest : rest_of f s ≡ take (half_size at.half - 1) file ++ 0 ∷ [] =
    λ i. rest_in (picked f s u shown is i) (used i) (opened_limit f s) (image f s) in
    ap (λ (n : ℕ). take n file ++ 0 ∷ []) (sym gate) ∙ sym rest

rest_older : (f s : List ℕ) (shown : Image) (limit : ℕ) → IsFound f s shown (Older limit) → rest_of f s ≡ new_front (opened_limit f s) 1 shown ++ 0 ∷ []
rest_older f s shown limit found = λ i. rest_in (found.0 i) (file_in_use f s) (opened_limit f s) (found.1 i)

-- an older store that was written into the second file
pub older_used : {D : Type 0} {g : Ghosts D} (store : Store D g) (f s : List ℕ) (shown : Image) (limit : ℕ) → IsFound f s shown (Older limit) → store.in_second ≡ true
    → limit_of store ≡ opened_limit f s → g.seen (disks store).1 ≡ Some (new_front (limit_of store) 1 shown ++ 0 ∷ []) → g.seen store.live.device ≡ Some (rest_of f s)
older_used {D} {g} store f s shown limit found second same seen =
    ap (λ (b : Bool). g.seen (placed b store.live.device store.spare).1) (sym second)
    ∙ seen
    ∙ ap (λ (n : ℕ). Some (new_front n 1 shown ++ 0 ∷ [])) same
    ∙ ap (λ (l : List ℕ). Some l) (sym (rest_older f s shown limit found))
