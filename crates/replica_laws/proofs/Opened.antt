-- The records that opening finds in two files, whatever was done of a task.
use Rattle.std.proofs.Common.{◌≡◌, ◌∙◌, ◌⊎◌, inl, inr, ⊎_elim, ℕ, zero, suc, ◌+◌, ◌-◌, ◌^◌, ◌<◌, ◌≤◌, Bool, true, false, not, List, [], ◌∷◌, ◌++◌, length, take, Option, Some, None, Ok, refl, sym, ap, subst, arith, append_assoc, length-append}
use Rattle.std.specs.Prelude.{sum_by}
use Rattle.std.specs.Int.{w64, to_le_bytes}
use Rattle.std.proofs.lemmas.Bool.{cases_eq, cases_lt}
use Rattle.std.proofs.lemmas.List.{append-nil, take-append-le, take_all, take_at}
use Rattle.hl_base.specs.declared.disk.Disk.{Ghosts}
use Rattle.text_store.specs.declared.image.Image.{Image}
use Rattle.text_store.specs.declared.store.Store.{Store}
use Rattle.text_store.specs.Changes.{kind_of, payload_of}
use Rattle.text_store.specs.Entries.{Entry, body, open_entries}
use Rattle.text_store.specs.Files.{IsWritable, file_in_use, half_size, header, new_front, next_generation, opened_limit, record_size, rest_in, rest_of, whole_payload}
use Rattle.text_store.specs.Frames.{base_of}
use Rattle.text_store.specs.Halves.{IsHalf}
use Rattle.text_store.specs.Image.{Half, chosen, image, live, live_of}
use Rattle.text_store.specs.Rest.{IsAt, IsRewritten}
use Rattle.text_store.specs.Standing.{IsPartDone, Stand, StandFor, Task, put, record_bytes, rewrite}
use Rattle.text_store.specs.Stores.{IsChosen, Leads, image_beside, placed}
use Rattle.text_store.proofs.Growing.{leads_grow}
use Rattle.text_store.proofs.HalfImages.{half_grows, size_reads}
use Rattle.text_store.proofs.Holding.{choice, led}
use Rattle.text_store.proofs.OpenEntries.{cut_record, front_begins, lone_gate, shut_behind}
use Rattle.text_store.proofs.Prefixes.{front_chosen}
use Rattle.text_store.proofs.Rewriting.{leads_after, placed_other}
use Rattle.text_store.proofs.Sizes.{front_size, live_size, used_file}
use Rattle.text_store.proofs.Wholes.{live_nothing, live_short, live_written}
use Rattle.follower.specs.declared.frame.Frame.{Frame}
use Rattle.replica_laws.specs.Lives.{AreFramesOf, Becomes, Records, anew, with_change, written_anew}
use Rattle.replica_laws.specs.Stored.{HasPart, HasRecords, HaveEither, HaveRecords, IsWhole, Makes, PutsChange, WritesAnew, framed}
use Rattle.replica_laws.proofs.Kept.{anew_frames, frames_here, frames_with}
use Rattle.replica_laws.proofs.Left.{base_kept}

-- ---- which bytes opening finds

one_less : (size gate : ℕ) → size ≡ gate + 1 → size - 1 ≡ gate
one_less size gate is = omega (arith, is)

module _ (generation : ℕ) (file beside : List ℕ) (shown : Image) where
  found_file : (b : Bool) (leads : Leads b generation file beside shown)
      → rest_of (placed b file beside).0 (placed b file beside).1 ≡ take (half_size leads.half - 1) file ++ 0 ∷ []
  found_file true leads =
      let picked : chosen (live beside) (live file) ≡ Some leads.half =
      ap (λ (o : Option Half). chosen (live beside) o) leads.is_live ∙ choice true generation leads.half (live beside) leads.is_next leads.is_chosen in
      let used : file_in_use beside file ≡ file = used_file true beside file leads.half generation leads.is_live leads.is_next leads.is_chosen in
      λ i. rest_in (picked i) (used i) (opened_limit beside file) (image beside file)
  found_file false leads =
      let picked : chosen (live file) (live beside) ≡ Some leads.half =
      ap (λ (o : Option Half). chosen o (live beside)) leads.is_live ∙ choice false generation leads.half (live beside) leads.is_next leads.is_chosen in
      let used : file_in_use file beside ≡ file = used_file false file beside leads.half generation leads.is_live leads.is_next leads.is_chosen in
      λ i. rest_in (picked i) (used i) (opened_limit file beside) (image file beside)

  placed_image : (b : Bool) → image (placed b file beside).0 (placed b file beside).1 ≡ image_beside b file beside
  placed_image true = refl
  placed_image false = refl

  module _ (front tail : List ℕ) (entries : List Entry) (half : IsHalf front entries) (is : file ≡ front ++ tail) (are : open_entries 32 file ≡ entries) where
    -- these are the bytes up to the last gate, and that gate shut
    found : (b : Bool) (leads : Leads b generation file beside shown) → rest_of (placed b file beside).0 (placed b file beside).1 ≡ front ++ 0 ∷ []
    found b leads =
        let size : 33 + sum_by record_size (open_entries 32 file) ≡ half_size leads.half = live_size file leads.half leads.is_live in
        let long : length front ≡ 32 + sum_by record_size entries = front_size front entries half in
        let sums : sum_by record_size (open_entries 32 file) ≡ sum_by record_size entries = ap (λ (l : List Entry). sum_by record_size l) are in
        let whole : half_size leads.half ≡ length front + 1 = omega (arith, size, long, sums) in
        let gate : half_size leads.half - 1 ≡ length front = one_less (half_size leads.half) (length front) whole in
        found_file b leads
        ∙ ap (λ (n : ℕ). take n file ++ 0 ∷ []) gate
        ∙ ap (λ (f : List ℕ). take (length front) f ++ 0 ∷ []) is
        ∙ ap (λ (f : List ℕ). f ++ 0 ∷ []) (take_at front tail (length front) refl)

    pub found_records : (b : Bool) (records : Records) → records.shown ≡ shown → Leads b generation file beside shown → AreFramesOf records (framed (base_of front) entries)
        → HaveRecords records (placed b file beside).0 (placed b file beside).1
    found_records b records same leads frames =
        let rest = found b leads in
        let base : base_of (rest_of (placed b file beside).0 (placed b file beside).1) ≡ base_of front = ap base_of rest ∙ base_kept front (0 ∷ []) half.records.behind in
        let found_entries : open_entries 32 (rest_of (placed b file beside).0 (placed b file beside).1) ≡ entries =
        ap (λ (f : List ℕ). open_entries 32 f) rest ∙ shut_behind 32 front entries half.records 0 [] (omega arith) in
        record {
          shows = placed_image b ∙ led b generation file beside shown leads ∙ ap (λ (i : Image). Ok i) (sym same);
          are = subst (λ (fs : List Frame). AreFramesOf records fs) (λ i. framed (sym base i) (sym found_entries i)) frames;
        }

-- ---- a record that is put behind others

module _ (front : List ℕ) (entries : List Entry) (half : IsHalf front entries) where
  -- a file with the same records leads as the one with a shut gate
  same_live : (file tail : List ℕ) → file ≡ front ++ tail → open_entries 32 file ≡ entries → live file ≡ live (front ++ 0 ∷ [])
  same_live file tail is are =
      let head : take 32 file ≡ take 32 (front ++ 0 ∷ []) =
      ap (λ (f : List ℕ). take 32 f) is ∙ take-append-le 32 front tail half.records.behind ∙ sym (take-append-le 32 front (0 ∷ []) half.records.behind) in
      let opened : open_entries 32 file ≡ open_entries 32 (front ++ 0 ∷ []) = are ∙ sym (shut_behind 32 front entries half.records 0 [] (omega arith)) in
      λ i. live_of (head i) (opened i)

  leads_as : (b : Bool) (generation : ℕ) (file tail beside : List ℕ) (shown : Image) → file ≡ front ++ tail → open_entries 32 file ≡ entries
      → Leads b generation (front ++ 0 ∷ []) beside shown → Leads b generation file beside shown
  leads_as b generation file tail beside shown is are leads = record {
    half = leads.half;
    is_live = same_live file tail is are ∙ leads.is_live;
    is_next = leads.is_next;
    is_chosen = leads.is_chosen;
    gives = leads.gives;
  }

  module _ (kind : ℕ) (payload : List ℕ) (fits : length payload < 2 ^ 64) where
    abbrev rest : List ℕ
    rest = to_le_bytes w64 (length payload) ++ payload

    abbrev whole : List ℕ
    whole = front ++ 1 ∷ record_bytes kind payload

    -- either the records are as they were, or the record stands there whole
    pub before_or_whole : (c : List ℕ) → IsAt front (record_bytes kind payload) c → (open_entries 32 c ≡ entries) ⊎ (c ≡ whole)
    before_or_whole c (inl at) = inl (ap (λ (l : List ℕ). open_entries 32 l) at.1 ∙ shut_behind 32 front entries half.records 0 at.0 (omega arith))
    before_or_whole c (inr at) = at_gate at.0 at.1 at.2
      where
        at_gate : (gate k : ℕ) → c ≡ front ++ gate ∷ take k (kind ∷ rest ++ 0 ∷ []) → (open_entries 32 c ≡ entries) ⊎ (c ≡ whole)
        at_gate gate k same = elim (cases_eq gate 1) [
          | inr shut ↦ inl (ap (λ (l : List ℕ). open_entries 32 l) same ∙ shut_behind 32 front entries half.records gate (take k (kind ∷ rest ++ 0 ∷ [])) shut)
          | inl is_open ↦ opened k (same ∙ ap (λ (x : ℕ). front ++ x ∷ take k (kind ∷ rest ++ 0 ∷ [])) is_open)
        ]
          where
            opened : (k : ℕ) → c ≡ front ++ 1 ∷ take k (kind ∷ rest ++ 0 ∷ []) → (open_entries 32 c ≡ entries) ⊎ (c ≡ whole)
            opened zero same =
                inl (ap (λ (l : List ℕ). open_entries 32 l) same ∙ half.records.opens 1 []
                ∙ ap (λ (l : List Entry). entries ++ l) (lone_gate (length {A = ℕ} (1 ∷ [])) (length front) 1) ∙ append-nil entries)
            opened (suc k) same = elim (cases_lt (length rest) k) [
              | inr short ↦ inl (ap (λ (l : List ℕ). open_entries 32 l) same ∙ half.records.opens 1 (kind ∷ take k (rest ++ 0 ∷ []))
                  ∙ ap (λ (l : List Entry). entries ++ l) (cut_record (length (1 ∷ kind ∷ take k (rest ++ 0 ∷ []))) (length front) kind k rest (size_reads kind payload fits) short)
                  ∙ append-nil entries)
              | inl long ↦ inr (same ∙ ap (λ (l : List ℕ). front ++ 1 ∷ kind ∷ l) (take_all k (rest ++ 0 ∷ []) (omega (arith, length-append rest (0 ∷ [])))))
            ]

  form : (entry c : List ℕ) → IsAt front entry c → (tail : List ℕ) × (c ≡ front ++ tail)
  form entry c (inl shut) = (0 ∷ shut.0, shut.1)
  form entry c (inr any) = (any.0 ∷ take any.1 entry, any.2)

-- ---- a task that is done in part

module _ (front : List ℕ) (entries : List Entry) (half : IsHalf front entries) (b : Bool) (generation : ℕ) (before after : Records)
    (frames : AreFramesOf before (framed (base_of front) entries)) where
  abbrev used : List ℕ
  used = front ++ 0 ∷ []

  -- files in which a change is put there in part
  module _ (beside entry file : List ℕ) (leads : Leads b generation used beside before.shown) (is_put : PutsChange before after entry) where
    abbrev kind : ℕ
    kind = kind_of is_put.change

    abbrev payload : List ℕ
    payload = payload_of is_put.change

    still_put : (tail : List ℕ) → file ≡ front ++ tail → open_entries 32 file ≡ entries → HaveEither before after (placed b file beside).0 (placed b file beside).1
    still_put tail is are =
        inl (found_records generation file beside before.shown front tail entries half is are b before refl
        (leads_as front entries half b generation file tail beside before.shown is are leads) frames)

    grown : file ≡ front ++ 1 ∷ record_bytes kind payload → HaveEither before after (placed b file beside).0 (placed b file beside).1
    grown is =
        let next : Image = is_put.becomes.0 in
        let longer : List ℕ = front ++ 1 ∷ body kind payload in
        let more : List Entry = entries ++ record { at = length front; kind = kind; payload = payload } ∷ [] in
        let longer_half : IsHalf longer more = half_grows kind payload is_put.can.fits front entries half in
        let split : file ≡ longer ++ 0 ∷ [] = is ∙ sym (append_assoc front (1 ∷ body kind payload) (0 ∷ [])) in
        let are : open_entries 32 file ≡ more = ap (λ (l : List ℕ). open_entries 32 l) split ∙ shut_behind 32 longer more longer_half.records 0 [] (omega arith) in
        let leads_next : Leads b generation file beside next =
        subst (λ (f : List ℕ). Leads b generation f beside next) (sym is)
        (leads_grow b generation front beside entries is_put.change before.shown next half is_put.can.name is_put.can.numbers is_put.can.fits is_put.becomes.1 leads) in
        let base : base_of front ≡ base_of longer = sym (base_kept front (1 ∷ body kind payload) half.records.behind) in
        let shown_is : after.shown ≡ next = ap (λ (r : Records). r.shown) is_put.becomes.2 in
        inr (found_records generation file beside next longer (0 ∷ []) more longer_half split are b after shown_is leads_next
        (subst (λ (r : Records). AreFramesOf r (framed (base_of longer) more)) (sym is_put.becomes.2)
        (subst (λ (n : ℕ). AreFramesOf (with_change before is_put.change next) (framed n more)) base
        (frames_with before (base_of front) entries (length front) is_put.change next is_put.can is_put.becomes.1 frames))))

    pub puts : IsAt front entry file → HaveEither before after (placed b file beside).0 (placed b file beside).1
    puts at =
        let tail = form front entries half entry file at in
        ⊎_elim (λ are. still_put tail.0 tail.1 are) grown
        (before_or_whole front entries half kind payload is_put.can.fits file (subst (λ (l : List ℕ). IsAt front l file) is_put.bytes at))

  -- files of which the other is written anew in part
  module _ (old head entry beside : List ℕ) (one_of_three : generation < 3) (leads : Leads b generation used old before.shown) (is_anew : WritesAnew generation before after head entry) where
    abbrev new_head : List ℕ
    new_head = header is_anew.limit (next_generation generation) before.shown.revision

    new_half : IsHalf new_head []
    new_half = record { version = refl; records = front_begins new_head }

    still_chosen : IsChosen b generation (live beside) → HaveEither before after (placed b used beside).0 (placed b used beside).1
    still_chosen is_chosen =
        inl (found_records generation used beside before.shown front (0 ∷ []) entries half refl (shut_behind 32 front entries half.records 0 [] (omega arith)) b before refl
        (record { half = leads.half; is_live = leads.is_live; is_next = leads.is_next; is_chosen = is_chosen; gives = leads.gives }) frames)

    still_alone : live beside ≡ None → HaveEither before after (placed b used beside).0 (placed b used beside).1
    still_alone none = still_chosen (subst (λ (o : Option Half). IsChosen b generation o) (sym none) tt)

    written : beside ≡ new_head ++ 1 ∷ record_bytes 67 (whole_payload before.shown) → HaveEither before after (placed b used beside).0 (placed b used beside).1
    written is =
        let less : next_generation generation < 3 = omega arith in
        let longer : List ℕ = new_front is_anew.limit (next_generation generation) before.shown in
        let more : List Entry = record { at = 32; kind = 67; payload = whole_payload before.shown } ∷ [] in
        let longer_half : IsHalf longer more = half_grows 67 (whole_payload before.shown) is_anew.can.fits new_head [] new_half in
        let split : beside ≡ longer ++ 0 ∷ [] = is ∙ sym (append_assoc new_head (1 ∷ body 67 (whole_payload before.shown)) (0 ∷ [])) in
        let are : open_entries 32 beside ≡ more = ap (λ (l : List ℕ). open_entries 32 l) split ∙ shut_behind 32 longer more longer_half.records 0 [] (omega arith) in
        let is_live = ap live is ∙ live_written is_anew.limit (next_generation generation) before.shown is_anew.small less is_anew.within is_anew.writable is_anew.can.states is_anew.can.fits in
        let leads_next : Leads (not b) (next_generation generation) beside used before.shown =
        leads_after b generation is_anew.limit used old before.shown before.shown leads is_anew.small one_of_three is_anew.within is_anew.writable is_anew.can.states is_anew.can.fits beside is_live in
        inr (subst (λ (p : List ℕ × List ℕ). HaveRecords after p.0 p.1) (placed_other b beside used)
        (found_records (next_generation generation) beside used before.shown longer (0 ∷ []) more longer_half split are (not b) after (ap (λ (r : Records). r.shown) is_anew.becomes) leads_next
        (subst (λ (r : Records). AreFramesOf r (framed (base_of longer) more)) (sym is_anew.becomes)
        (anew_frames is_anew.limit (next_generation generation) before.shown is_anew.within is_anew.writable is_anew.can))))

    pub writes : IsRewritten old head entry beside → HaveEither before after (placed b used beside).0 (placed b used beside).1
    writes (inl part) = still_chosen (subst (λ (f : List ℕ). IsChosen b generation (live f)) (sym part.1) (front_chosen b generation old part.0 leads.is_chosen))
    writes (inr (inl short)) = still_alone (live_short beside short)
    writes (inr (inr at)) =
        ⊎_elim (λ are. still_alone (ap (λ (l : List Entry). live_of (take 32 beside) l) are ∙ live_nothing (take 32 beside))) written
        (before_or_whole new_head [] new_half 67 (whole_payload before.shown) is_anew.can.fits beside
        (subst (λ (h : List ℕ). IsAt h (record_bytes 67 (whole_payload before.shown)) beside) is_anew.head_is (subst (λ (l : List ℕ). IsAt head l beside) is_anew.entry_is at)))

  abbrev pub LeadsFor : Task → Type 0
  LeadsFor (put entry beside) = Leads b generation used beside before.shown
  LeadsFor (rewrite old head entry) = Leads b generation used old before.shown

  pub stand : (task : Task) → generation < 3 → LeadsFor task → Makes generation before after task → (first second : List ℕ) → StandFor b front task first second → HaveEither before after first second
  stand (put entry beside) less leads makes first second stands =
      subst (λ (p : List ℕ × List ℕ). HaveEither before after p.0 p.1) (sym stands.places)
      (subst (λ (f : List ℕ). HaveEither before after (placed b stands.file f).0 (placed b stands.file f).1) (sym stands.of_beside)
      (puts beside entry stands.file leads makes stands.of_file))
  stand (rewrite old head entry) less leads makes first second stands =
      subst (λ (p : List ℕ × List ℕ). HaveEither before after p.0 p.1) (sym stands.places)
      (subst (λ (f : List ℕ). HaveEither before after (placed b f stands.beside).0 (placed b f stands.beside).1) (sym stands.of_file)
      (writes old head entry stands.beside less leads makes stands.of_beside))

-- ---- stores

-- where a repair is due, the half in use has its records
pub part_half : {D : Type 0} {g : Ghosts D} (store : Store D g) (front : List ℕ) (entries : List Entry) (shown : Image) (task : Task) → IsPartDone store front entries shown task → IsHalf front entries
part_half store front entries shown (put entry beside) part = part.unsettled.is_half
part_half store front entries shown (rewrite old head entry) part = part.settled.is_half

-- one half is of one generation
pub same_number : (a b : Bool) (m n : ℕ) (file beside other : List ℕ) (shown : Image) → Leads a m file beside shown → Leads b n file other shown → n ≡ m
same_number a b m n file beside other shown first second =
    let same : second.half ≡ first.half = one (live file) second.half first.half second.is_live first.is_live in
    sym second.is_next ∙ ap (λ (h : Half). h.generation) same ∙ first.is_next
  where
    one : (o : Option Half) (x y : Half) → o ≡ Some x → o ≡ Some y → x ≡ y
    one o x y is_x is_y = let e : x ≡ y = cc in e

pub part_number : {D : Type 0} {g : Ghosts D} (old new : Store D g) (front : List ℕ) (entries : List Entry) (shown : Image) (task : Task) → IsPartDone old front entries shown task
    → IsPartDone new front entries shown task → new.generation ≡ old.generation
part_number old new front entries shown (put entry beside) first second =
    same_number old.in_second new.in_second old.generation new.generation (front ++ 0 ∷ []) beside beside shown first.leads second.leads
part_number old new front entries shown (rewrite before head entry) first second =
    same_number old.in_second new.in_second old.generation new.generation (front ++ 0 ∷ []) before before shown first.leads second.leads

module _ {D : Type 0} {g : Ghosts D} (store : Store D g) where
  part_leads : (front : List ℕ) (entries : List Entry) (half : IsHalf front entries) (before after : Records) (frames : AreFramesOf before (framed (base_of front) entries)) (task : Task)
      → IsPartDone store front entries before.shown task → LeadsFor front entries half store.in_second store.generation before after frames task
  part_leads front entries half before after frames (put entry beside) part = part.leads
  part_leads front entries half before after frames (rewrite old head entry) part = part.leads

  -- what a crash leaves while a repair is due
  pub part_stands : (before after : Records) (has : HasPart store before after) (first second : List ℕ) → StandFor store.in_second has.front has.task first second
      → HaveEither before after first second
  part_stands before after has first second stands =
      let half = part_half store has.front has.entries before.shown has.task has.part in
      stand has.front has.entries half store.in_second store.generation before after has.are has.task store.one_of_three
      (part_leads has.front has.entries half before after has.are has.task has.part) has.makes first second stands

  -- what a crash leaves of a store at rest, while nothing is written
  pub still_stands : (records : Records) (has : HasRecords store records) (first second : List ℕ)
      → Stand store.in_second (λ file. file ≡ has.held.front ++ 0 ∷ []) (λ file. file ≡ has.held.beside) first second → HaveRecords records first second
  still_stands records has first second stands =
      let front = has.held.front in
      let half = has.held.settled.is_half in
      subst (λ (p : List ℕ × List ℕ). HaveRecords records p.0 p.1) (sym stands.places)
      (subst (λ (f : List ℕ). HaveRecords records (placed store.in_second f stands.beside).0 (placed store.in_second f stands.beside).1) (sym stands.of_file)
      (subst (λ (f : List ℕ). HaveRecords records (placed store.in_second (front ++ 0 ∷ []) f).0 (placed store.in_second (front ++ 0 ∷ []) f).1) (sym stands.of_beside)
      (found_records store.generation (front ++ 0 ∷ []) has.held.beside records.shown front (0 ∷ []) has.held.entries half refl (shut_behind 32 front has.held.entries half.records 0 [] (omega arith))
      store.in_second records refl has.held.leads (frames_here store records has))))

-- an image is written anew, as a store does it that has this generation
pub writes_of : (n m limit : ℕ) (before after : Records) → m ≡ n → limit < 2 ^ 64 → before.shown.revision ≤ 2 ^ 62 → IsWritable before.shown → IsWhole before.shown
    → Becomes before written_anew after
    → WritesAnew n before after (header limit (next_generation m) before.shown.revision) (record_bytes 67 (whole_payload before.shown))
writes_of n m limit before after same small within writable can becomes = record {
  limit = limit;
  small = small;
  within = within;
  writable = writable;
  can = can;
  head_is = ap (λ (k : ℕ). header limit (next_generation k) before.shown.revision) same;
  entry_is = refl;
  becomes = becomes;
}
